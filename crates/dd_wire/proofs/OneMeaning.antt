-- No members of an object have two meanings.
use Rattle.std.proofs.Common.{◌≡◌, ℕ, ◌<◌, inl, inr, Bool, true, false, refl, sym, ap, ◌∙◌, subst, arith, List, [], ◌∷◌, Option, None, Some}
use Rattle.std.specs.Prelude.{Result, Ok, Err, MatchOption, map, length, nat_lt}
use Rattle.std.specs.Bool.{MatchBool}
use Rattle.std.proofs.lemmas.Bool.Decides.{eqb_tells}
use Rattle.dd_cards.specs.declared.suit.Suit.{Suit}
use Rattle.dd_cards.specs.PlayingCard.{PlayingCard}
use Rattle.dd_cards.specs.Suits.{suit_code}
use Rattle.dd_cards.specs.Cards.{card_of}
use Rattle.dd_cards.specs.Hands.{AreHands, FourHands}
use Rattle.dd_cards.proofs.CallerLemmas.{seat_code-injective, strain_code-injective, suit_code-injective}
use Rattle.dd_pbn.specs.declared.fault.PbnFault.{PbnFault}
use Rattle.dd_pbn.specs.Deals as deals
use Rattle.dd_pbn.specs.Reading.{outcome, value_of, tag_of}
use Rattle.dd_pbn.specs.Values.{IsValue, IsTag}
use Rattle.dd_pbn.proofs.CallerLemmas.{Reads-tag, Reads-value, failed-read, spelled-read}
use Rattle.dd_play.specs.Board.{Board, tricks_left}
use Rattle.dd_pbn.specs.Values.{begins_tag}
use Rattle.dd_wire.specs.declared.fault.Fault.{Fault}
use Rattle.serde_json.specs.Data.{Members}
use Rattle.dd_request.specs.declared.asked.Asked.TheVariants.{Solve, Table, Target}
use Rattle.dd_wire.specs.Requests.{SolveFields, TargetFields, MeansObject, MeansDeal, MeansTable, MeansFields, MeansTargetFields, MeansStart, MeansSolutions, MeansTarget, MeansCards, MeansHands, MeansTargetHands, MeansBoard, IsAskedOf, are_solutions, question, target_question, target_fields, asked_as, table_deal, deal_fault, are_cards, pair_of_card, solve_fields}
use Rattle.dd_wire.proofs.Meanings.{none-twice-decided, even-decided, hands-decided}
use Rattle.dd_play.proofs.CallerLemmas.{board-eq}

-- two meanings that are one value are one
pub both : {A : Type 0} (value a b : Result A Fault) → a ≡ value → b ≡ value → a ≡ b
both value a b is_a is_b = is_a ∙ sym is_b

-- at most one meaning is such
abbrev pub AtMostOne : {A : Type 0} → (Result A Fault → Type 0) → Type 0
AtMostOne {A} Is = (a b : Result A Fault) → Is a → Is b → a ≡ b

pub one-by-test : {A : Type 0} (t : Bool) (P Q : Result A Fault → Type 0) → AtMostOne P → AtMostOne Q → AtMostOne (λ m. MatchBool t (P m) (Q m))
one-by-test true P Q one_p one_q = one_p
one-by-test false P Q one_p one_q = one_q

pub one-by-option : {A B : Type 0} (o : Option A) (P : Result B Fault → Type 0) (Q : A → Result B Fault → Type 0) → AtMostOne P → ((x : A) → AtMostOne (Q x)) → AtMostOne (λ m. MatchOption o (P m) (λ x. Q x m))
one-by-option None P Q one_p one_q = one_p
one-by-option (Some x) P Q one_p one_q = one_q x

-- ---- the cards together
one-board : {A : Type 0} (board : Board) (asked : A) → AreHands board.hands → AtMostOne (MeansBoard board asked)
one-board board asked are a b means_a means_b =
    elim (none-twice-decided board are) [
      | inr double ↦ both _ a b (means_a.twice double) (means_b.twice double)
      | inl once ↦ elim (even-decided board) [
        | inr odd ↦ both _ a b (means_a.uneven once odd) (means_b.uneven once odd)
        | inl even ↦ elim (eqb_tells (tricks_left board) 0) [
          | inl none ↦ both _ a b (means_a.none once even none.1) (means_b.none once even none.1)
          | inr some ↦ (let more : 0 < tricks_left board = (let ne = some.1 in omega arith) in both _ a b (means_a.some once even more) (means_b.some once even more))
        ]
      ]
    ]

-- ---- the board
-- pairs are those of one list of cards
pub one-trick : (xs ys : List PlayingCard) → map pair_of_card xs ≡ map pair_of_card ys → xs ≡ ys
one-trick [] [] e = refl
one-trick [] (y ∷ ys) e = absurd (cc)
one-trick (x ∷ xs) [] e = absurd (cc)
one-trick (x ∷ xs) (y ∷ ys) e =
    let pair : pair_of_card x ≡ pair_of_card y = cc in
    let suit : suit_code x.suit ≡ suit_code y.suit = ap (λ (p : ℕ × ℕ). p.0) pair in
    let rank : x.rank ≡ y.rank = ap (λ (p : ℕ × ℕ). p.1) pair in
    let rest : map pair_of_card xs ≡ map pair_of_card ys = cc in
    let same : x ≡ y = same-card x.suit y.suit x.rank y.rank (suit_code-injective x.suit y.suit suit) rank in
    rw (same, one-trick xs ys rest) refl
  where
    same-card : (s t : Suit) (q r : ℕ) → s ≡ t → q ≡ r → card_of s q ≡ card_of t r
    same-card s t q r a b = rw (a, b) refl

-- fields ask about one board
one-asked : (hands : FourHands) (fields : SolveFields) (x y : Board) → IsAskedOf hands fields x → IsAskedOf hands fields y → x ≡ y
one-asked hands fields x y asks_x asks_y =
    board-eq x.hands y.hands x.strain y.strain x.first y.first x.trick y.trick (asks_x.hands ∙ sym asks_y.hands)
    (strain_code-injective x.strain y.strain (asks_x.strain ∙ sym asks_y.strain))
    (seat_code-injective x.first y.first (asks_x.first ∙ sym asks_y.first))
    (one-trick x.trick y.trick (asks_x.trick ∙ sym asks_y.trick))

one-cards : {A : Type 0} (fields : SolveFields) (hands : FourHands) (asked : Board → A) → AreHands hands → AtMostOne (MeansCards fields hands asked)
one-cards fields hands asked are a b (x, asks_x, means_x) (y, asks_y, means_y) =
    let same : y ≡ x = one-asked hands fields y x asks_y asks_x in
    let valid : AreHands x.hands = rw asks_x.hands are in
    one-board x (asked x) valid a b means_x (subst (λ (board : Board). MeansBoard board (asked board) b) same means_y)

one-start : {A : Type 0} (fields : SolveFields) (Rest : Result A Fault → Type 0) → AtMostOne Rest → AtMostOne (MeansStart fields Rest)
one-start fields Rest one =
    one-by-test (nat_lt 4 fields.trump) _ _ (both _)
    (one-by-test (nat_lt 3 fields.first) _ _ (both _)
    (one-by-test (are_cards fields.played) _ _ one (both _)))

one-hands : (fields : SolveFields) (hands : FourHands) → AreHands hands → AtMostOne (MeansHands fields hands)
one-hands fields hands are =
    one-start fields (MeansSolutions fields hands)
    (one-by-test (are_solutions fields 3) _ _ (one-cards fields hands (question fields.solutions) are) (both _))

one-target_hands : (fields : TargetFields) (hands : FourHands) → AreHands hands → AtMostOne (MeansTargetHands fields hands)
one-target_hands fields hands are =
    one-start fields.solve (MeansTarget fields hands)
    (one-by-test (are_solutions fields.solve 2) _ _
    (one-by-test (nat_lt 13 fields.target) _ _ (both _) (one-cards fields.solve hands (target_question fields) are))
    (both _))

-- ---- the deal
-- what reading a text of one of the two forms gives
reading_of : Bool → List ℕ → Result FourHands PbnFault
reading_of true text = outcome (tag_of text)
reading_of false text = outcome (value_of text)

spelled-told : (b : Bool) (text : List ℕ) (hands : FourHands) → AreHands hands → MatchBool b (deals.TagText text hands) (deals.DealText text hands) → reading_of b text ≡ Ok hands
unfolding reading_of
spelled-told true text hands are spelled = spelled-read (IsTag text) (tag_of text) (Reads-tag text) hands are spelled
spelled-told false text hands are spelled = spelled-read (IsValue text) (value_of text) (Reads-value text) hands are spelled

none-told : (b : Bool) (text : List ℕ) (fault : PbnFault) → MatchBool b (deals.TagFault text fault) (deals.DealFault text fault) → reading_of b text ≡ Err fault
unfolding reading_of
none-told true text fault none = failed-read (IsTag text) (tag_of text) (Reads-tag text) fault none
none-told false text fault none = failed-read (IsValue text) (value_of text) (Reads-value text) fault none

-- a result is one value, or one error
ok-same : {A E : Type 0} (result : Result A E) (x y : A) → result ≡ Ok x → result ≡ Ok y → x ≡ y
ok-same result x y is_x is_y = cc

err-same : {A E : Type 0} (result : Result A E) (x y : E) → result ≡ Err x → result ≡ Err y → x ≡ y
err-same result x y is_x is_y = cc

ok-or-err : {A E : Type 0} (result : Result A E) (x : A) (y : E) → result ≡ Ok x → result ≡ Err y → ⊥
ok-or-err result x y is_x is_y = cc

pub one-deal : {A : Type 0} (text : List ℕ) (Of : FourHands → Result A Fault → Type 0) → ((hands : FourHands) → AreHands hands → AtMostOne (Of hands)) → AtMostOne (MeansDeal text Of)
one-deal text Of one a b (inl (h, are_h, spelled_h, means_h)) (inl (k, are_k, spelled_k, means_k)) =
    let tag = begins_tag text in
    let same : k ≡ h = ok-same (reading_of tag text) k h (spelled-told tag text k are_k spelled_k) (spelled-told tag text h are_h spelled_h) in
    one h are_h a b means_h (subst (λ (hands : FourHands). Of hands b) same means_k)
one-deal text Of one a b (inl (h, are, spelled, means)) (inr (fault, none, is)) =
    let tag = begins_tag text in
    absurd (ok-or-err (reading_of tag text) h fault (spelled-told tag text h are spelled) (none-told tag text fault none))
one-deal text Of one a b (inr (fault, none, is)) (inl (h, are, spelled, means)) =
    let tag = begins_tag text in
    absurd (ok-or-err (reading_of tag text) h fault (spelled-told tag text h are spelled) (none-told tag text fault none))
one-deal text Of one a b (inr (f, none_f, is_f)) (inr (g, none_g, is_g)) =
    let tag = begins_tag text in
    let same : f ≡ g = err-same (reading_of tag text) f g (none-told tag text f none_f) (none-told tag text g none_g) in
    is_f ∙ ap (λ fault. Err (deal_fault fault)) same ∙ sym is_g

-- ---- the table
pub one-table : (hands : FourHands) → AtMostOne (MeansTable hands)
one-table hands a b means_a means_b =
    elim (hands-decided hands) [
      | inr odd ↦ both _ a b (means_a.uneven odd) (means_b.uneven odd)
      | inl even ↦ elim (eqb_tells (length hands.north) 0) [
        | inl none ↦ both _ a b (means_a.none even none.1) (means_b.none even none.1)
        | inr some ↦ (let more : 0 < length hands.north = (let ne = some.1 in omega arith) in both _ a b (means_a.some even more) (means_b.some even more))
      ]
    ]

-- ---- the members
-- what is asked in one way
pub one-way : {A B : Type 0} (way : A → B) (Is : Result A Fault → Type 0) → AtMostOne Is → AtMostOne (λ m. (asked : Result A Fault) × Is asked × (m ≡ asked_as way asked))
one-way way Is one a b (x, is_x, e) (y, is_y, f) = e ∙ ap (asked_as way) (one x y is_x is_y) ∙ sym f

pub one-object : (members : Members) → AtMostOne (MeansObject members)
one-object members =
    one-by-option (table_deal members) _ _
    (one-by-option (target_fields members) _ _
    (one-by-option (solve_fields members) _ _ (both _) (λ fields. one-way Solve (MeansFields fields) (one-deal fields.deal (MeansHands fields) (one-hands fields))))
    (λ fields. one-way Target (MeansTargetFields fields) (one-deal fields.solve.deal (MeansTargetHands fields) (one-target_hands fields))))
    (λ deal. one-way Table (MeansDeal deal MeansTable) (one-deal deal MeansTable (λ hands _. one-table hands)))
