-- Members of an object have a meaning.
use Rattle.std.proofs.Common.{◌≡◌, ℕ, zero, suc, ◌+◌, ◌<◌, ◌≤◌, ◌⊎◌, inl, inr, Bool, true, false, refl, sym, ap, subst, ◌∙◌, arith, [], ◌∷◌, List, length}
use Rattle.std.specs.Prelude.{◌&&◌, Option, None, Some, Result, Ok, Err, MatchOption, map, nat_lt, nat_le, if◌then◌else◌}
use Rattle.std.specs.Bool.{MatchBool}
use Rattle.std.specs.List.{list_all}
use Rattle.std.proofs.lemmas.Bool.{ltb-false, le-ltb, le-leb, ltb-true, cases_Bool}
use Rattle.std.proofs.lemmas.Bool.Decides.{eqb_tells, leb_tells}
use Rattle.serde_json.specs.Data.{Members}
use Rattle.dd_cards.specs.declared.seat.Seat.{Seat}
use Rattle.dd_cards.specs.declared.seat.Seat.TheVariants.{North, East, South, West}
use Rattle.dd_cards.specs.declared.strain.Strain.{Strain}
use Rattle.dd_cards.specs.declared.strain.Strain.TheVariants.{Trump, Notrump}
use Rattle.dd_cards.specs.declared.suit.Suit.{Suit}
use Rattle.dd_cards.specs.declared.suit.Suit.TheVariants.{Spades, Hearts, Diamonds, Clubs}
use Rattle.dd_cards.specs.PlayingCard.{PlayingCard}
use Rattle.dd_cards.specs.Suits.{suit_code}
use Rattle.dd_cards.specs.Strains.{strain_code}
use Rattle.dd_cards.specs.Seats.{seat_code, seat_after}
use Rattle.dd_cards.specs.Cards.{same_card, card_of}
use Rattle.dd_cards.specs.Hands.{AreHands, times, FourHands}
use Rattle.dd_cards.proofs.CallerLemmas.{same_card-eq}
use Rattle.dd_pbn.specs.declared.fault.PbnFault.{PbnFault}
use Rattle.dd_pbn.specs.declared.fault.PbnFault.TheVariants.{Grammar, Absent, Twice}
use Rattle.dd_pbn.specs.Deals as deals
use Rattle.dd_pbn.specs.Reading.{tag_of}
use Rattle.dd_pbn.specs.Values.{IsTag}
use Rattle.dd_pbn.proofs.CallerLemmas.{Reads-tag, deal-decided, decided}
use Rattle.dd_play.specs.Board.{Board, board_of, times_in, NoneTwice, IsEven, tricks_left, cards_at}
use Rattle.dd_play.proofs.CallerLemmas.{times_in-once}
use Rattle.dd_pbn.specs.Values.{begins_tag}
use Rattle.dd_wire.specs.declared.fault.Fault.{Fault}
use Rattle.dd_wire.specs.declared.fault.Fault.TheVariants.{WrongField, CardTwice, WrongTrump, WrongFirst, WrongPlayed, WrongSolutions, WrongTarget, UnevenHands, NoCard, OutOfMemory}
use Rattle.dd_request.specs.Questions.{Question}
use Rattle.dd_request.specs.Targets.{TargetQuestion}
use Rattle.dd_wire.specs.Requests.{SolveFields, TargetFields, MeansObject, MeansDeal, MeansTable, MeansFields, MeansTargetFields, MeansStart, MeansSolutions, MeansTarget, MeansCards, MeansHands, MeansTargetHands, MeansBoard, are_solutions, question, target_question, target_fields, SpellsDeal, SpellsNone, asked_as, deal_fault, are_cards, pair_of_card, solve_fields, table_deal}
use Rattle.dd_request.specs.declared.asked.Asked.TheVariants.{Solve, Table, Target}
use Rattle.dd_request.specs.Results.{AreEven}
use Rattle.dd_wire.proofs.Pairs.{is_card}
use Rattle.dd_wire.proofs.Starts.{means-twice, means-uneven, means-empty, means-some}

-- ---- from the fields to the cards
-- with a strain, a leader and cards played in range the rest decides
pub means-start : {A : Type 0} (fields : SolveFields) (Rest : Result A Fault → Type 0) (meaning : Result A Fault)
    → fields.trump ≤ 4 → fields.first < 4 → are_cards fields.played ≡ true → Rest meaning → MeansStart fields Rest meaning
means-start fields Rest meaning low below cards means =
    let strain-test : nat_lt 4 fields.trump ≡ false = le-ltb 4 fields.trump low in
    let first-test : nat_lt 3 fields.first ≡ false = le-ltb 3 fields.first (omega arith) in
    rw (strain-test, first-test, cards) means

-- solutions in range
pub solutions-in : (fields : SolveFields) (most : ℕ) → 1 ≤ fields.solutions → fields.solutions ≤ most → are_solutions fields most ≡ true
solutions-in fields most least bound =
    let least-test : nat_le 1 fields.solutions ≡ true = le-leb 1 fields.solutions least in
    let most-test : nat_le fields.solutions most ≡ true = le-leb fields.solutions most bound in
    rw (least-test, most-test) refl

-- with solutions in range too the cards together decide
pub means-cards : (fields : SolveFields) (hands : FourHands) (strain : Strain) (first : Seat) (trick : List PlayingCard) (meaning : Result Question Fault)
    → strain_code strain ≡ fields.trump → fields.trump ≤ 4 → seat_code first ≡ fields.first → fields.first < 4 → map pair_of_card trick ≡ fields.played → are_cards fields.played ≡ true
    → 1 ≤ fields.solutions → fields.solutions ≤ 3 → MeansBoard (board_of hands strain first trick) (question fields.solutions (board_of hands strain first trick)) meaning → MeansHands fields hands meaning
means-cards fields hands strain first trick meaning trump low leader below played cards least most means =
    let test : are_solutions fields 3 ≡ true = solutions-in fields 3 least most in
    means-start fields (MeansSolutions fields hands) meaning low below cards
    (rw test (board_of hands strain first trick, record { hands = refl; strain = trump; first = leader; trick = played }, means))

-- and with a target in range
pub means-target_cards : (fields : TargetFields) (hands : FourHands) (strain : Strain) (first : Seat) (trick : List PlayingCard) (meaning : Result TargetQuestion Fault)
    → strain_code strain ≡ fields.solve.trump → fields.solve.trump ≤ 4 → seat_code first ≡ fields.solve.first → fields.solve.first < 4 → map pair_of_card trick ≡ fields.solve.played
    → are_cards fields.solve.played ≡ true → 1 ≤ fields.solve.solutions → fields.solve.solutions ≤ 2 → fields.target ≤ 13
    → MeansBoard (board_of hands strain first trick) (target_question fields (board_of hands strain first trick)) meaning → MeansTargetHands fields hands meaning
means-target_cards fields hands strain first trick meaning trump low leader below played cards least most target means =
    let test : are_solutions fields.solve 2 ≡ true = solutions-in fields.solve 2 least most in
    let target-test : nat_lt 13 fields.target ≡ false = le-ltb 13 fields.target target in
    means-start fields.solve (MeansTarget fields hands) meaning low below cards
    (rw (test, target-test) (board_of hands strain first trick, record { hands = refl; strain = trump; first = leader; trick = played }, means))

-- ---- every line has a meaning
-- some meaning is such
abbrev pub SomeMeaning : {A : Type 0} → (Result A Fault → Type 0) → Type 0
SomeMeaning {A} Is = (meaning : Result A Fault) × Is meaning

pub by-test : {A : Type 0} (b : Bool) (P Q : Result A Fault → Type 0) → (b ≡ true → SomeMeaning P) → (b ≡ false → SomeMeaning Q) → SomeMeaning (λ m. MatchBool b (P m) (Q m))
by-test true P Q held failed = held refl
by-test false P Q held failed = failed refl

pub by-option : {A B : Type 0} (o : Option A) (P : Result B Fault → Type 0) (Q : A → Result B Fault → Type 0)
    → SomeMeaning P → ((x : A) → o ≡ Some x → SomeMeaning (Q x)) → SomeMeaning (λ m. MatchOption o (P m) (λ x. Q x m))
by-option None P Q none some = none
by-option (Some x) P Q none some = some x refl

-- ---- the cards together
-- another card in front is not counted
times-other : (d : PlayingCard) (cards : List PlayingCard) (c : PlayingCard) → same_card d c ≡ false → times (d ∷ cards) c ≡ times cards c
times-other d cards c other = rw other refl

-- each of some cards has a count of at most one, or one has more
counts-decided : (count : PlayingCard → ℕ) (cards : List PlayingCard) → ((c : PlayingCard) → 1 ≤ times cards c → count c ≤ 1) ⊎ ((c : PlayingCard) × (2 ≤ count c))
counts-decided count [] = inl (λ c here. absurd (omega arith))
counts-decided count (d ∷ cards) =
    elim (leb_tells (count d) 1) [
      | inr more ↦ inr (d, (let double = more.1 in omega arith))
      | inl once ↦ elim (counts-decided count cards) [
        | inr double ↦ inr double
        | inl rest ↦ inl (λ c here. elim (cases_Bool (same_card d c)) [
          | inl same ↦ (let is : d ≡ c = same_card-eq d c same in rw (← is) once.1)
          | inr other ↦ rest c (let all = times-other d cards c other in omega arith)
        ])
      ]
    ]

-- whether a card stands twice is decided
pub none-twice-decided : (p : Board) → AreHands p.hands → NoneTwice p ⊎ (NoneTwice p → ⊥)
none-twice-decided p are =
    elim (counts-decided (λ c. times_in p.hands c + times p.trick c) p.trick) [
      | inr double ↦ inr (λ once. (let less = once double.0 in let more = double.1 in omega arith))
      | inl once ↦ inl (λ c. elim (leb_tells 1 (times p.trick c)) [
        | inl here ↦ once c here.1
        | inr absent ↦ (let none = absent.1 in let one = times_in-once p.hands c are in omega (arith, none, one))
      ])
    ]

-- whether two functions agree below n is decided
same-decided : (f g : ℕ → ℕ) (n : ℕ) → ((k : ℕ) → k < n → f k ≡ g k) ⊎ (((k : ℕ) → k < n → f k ≡ g k) → ⊥)
same-decided f g zero = inl (λ k below. absurd (omega arith))
same-decided f g (suc n) =
    elim (same-decided f g n) [
      | inr differ ↦ inr (λ same. differ (λ k below. same k (omega arith)))
      | inl same ↦ elim (eqb_tells (f n) (g n)) [
        | inr apart ↦ inr (λ all. apart.1 (all n (omega arith)))
        | inl equal ↦ inl (λ k below. elim (eqb_tells k n) [
          | inl here ↦ ap f here.1 ∙ equal.1 ∙ ap g (sym here.1)
          | inr other ↦ same k (let ne = other.1 in omega arith)
        ])
      ]
    ]

-- whether the counts of cards fit is decided
pub even-decided : (p : Board) → IsEven p ⊎ (IsEven p → ⊥)
even-decided p = same-decided (λ k. length (cards_at p (seat_after p.first k)) + (if nat_lt k (length p.trick) then 1 else 0)) (λ _. tricks_left p) 4

some-board : {A : Type 0} (board : Board) (asked : A) → AreHands board.hands → SomeMeaning (MeansBoard board asked)
some-board board asked are =
    elim (none-twice-decided board are) [
      | inr double ↦ (Err CardTwice, means-twice board asked double)
      | inl once ↦ elim (even-decided board) [
        | inr odd ↦ (Err UnevenHands, means-uneven board asked once odd)
        | inl even ↦ elim (eqb_tells (tricks_left board) 0) [
          | inl none ↦ (Err NoCard, means-empty board asked once even none.1)
          | inr some ↦ (Ok asked, means-some board asked once even (let ne = some.1 in omega arith))
        ]
      ]
    ]

-- ---- codes
-- each code up to 3 is that of a suit
suit-of : (code : ℕ) → code < 4 → (suit : Suit) × (suit_code suit ≡ code)
suit-of zero h = (Spades, refl)
suit-of (suc zero) h = (Hearts, refl)
suit-of (suc (suc zero)) h = (Diamonds, refl)
suit-of (suc (suc (suc zero))) h = (Clubs, refl)
suit-of (suc (suc (suc (suc code)))) h = absurd (omega arith)

-- each code up to 4 is that of a strain
pub strain-of : (code : ℕ) → code ≤ 4 → (strain : Strain) × (strain_code strain ≡ code)
strain-of zero h = (Trump Spades, refl)
strain-of (suc zero) h = (Trump Hearts, refl)
strain-of (suc (suc zero)) h = (Trump Diamonds, refl)
strain-of (suc (suc (suc zero))) h = (Trump Clubs, refl)
strain-of (suc (suc (suc (suc zero)))) h = (Notrump, refl)
strain-of (suc (suc (suc (suc (suc code))))) h = absurd (omega arith)

-- each code up to 3 is that of a seat
pub seat-of : (code : ℕ) → code ≤ 3 → (seat : Seat) × (seat_code seat ≡ code)
seat-of zero h = (North, refl)
seat-of (suc zero) h = (East, refl)
seat-of (suc (suc zero)) h = (South, refl)
seat-of (suc (suc (suc zero))) h = (West, refl)
seat-of (suc (suc (suc (suc code)))) h = absurd (omega arith)

-- pairs that are cards' are those of some cards
pub cards-of : (pairs : List (ℕ × ℕ)) → list_all is_card pairs ≡ true → (cards : List PlayingCard) × (map pair_of_card cards ≡ pairs)
cards-of [] all = ([], refl)
cards-of ((suit, rank) ∷ pairs) all =
    elim (cases_Bool (nat_lt suit 4)) [
      | inr high ↦ absurd (let no : false ≡ true = rw high at all in cc)
      | inl low ↦ elim (cases_Bool (is_card (suit, rank))) [
        | inr none ↦ absurd (let no : false ≡ true = rw none at all in cc)
        | inl card ↦ (let of = suit-of suit (ltb-true suit 4 low) in let rest = cards-of pairs (rw card at all) in
            (card_of of.0 rank ∷ rest.0, rw (of.1, rest.1) refl))
      ]
    ]

-- ---- the fields
some-cards : {A : Type 0} (fields : SolveFields) (hands : FourHands) (asked : Board → A) → AreHands hands → fields.trump ≤ 4 → fields.first ≤ 3 → are_cards fields.played ≡ true
    → SomeMeaning (MeansCards fields hands asked)
some-cards fields hands asked are trump first played =
    let strain = strain-of fields.trump trump in
    let seat = seat-of fields.first first in
    let cards = cards-of fields.played (and-right (nat_le (length fields.played) 3) (list_all is_card fields.played) played) in
    let board = board_of hands strain.0 seat.0 cards.0 in
    let means = some-board board (asked board) are in
    (means.0, (board, record { hands = refl; strain = strain.1; first = seat.1; trick = cards.1 }, means.1))
  where
    and-right : (a b : Bool) → (a && b) ≡ true → b ≡ true
    and-right true b both = both
    and-right false b both = absurd (cc)

some-start : {A : Type 0} (fields : SolveFields) (Rest : Result A Fault → Type 0) → (fields.trump ≤ 4 → fields.first ≤ 3 → are_cards fields.played ≡ true → SomeMeaning Rest)
    → SomeMeaning (MeansStart fields Rest)
some-start fields Rest rest =
    by-test (nat_lt 4 fields.trump) _ _ (λ _. (Err WrongTrump, refl)) (λ trump.
    by-test (nat_lt 3 fields.first) _ _ (λ _. (Err WrongFirst, refl)) (λ first.
    by-test (are_cards fields.played) _ _ (rest (ltb-false 4 fields.trump trump) (ltb-false 3 fields.first first))
    (λ _. (Err WrongPlayed, refl))))

some-hands : (fields : SolveFields) (hands : FourHands) → AreHands hands → SomeMeaning (MeansHands fields hands)
some-hands fields hands are =
    some-start fields (MeansSolutions fields hands) (λ trump first played.
    by-test (are_solutions fields 3) _ _ (λ _. some-cards fields hands (question fields.solutions) are trump first played) (λ _. (Err WrongSolutions, refl)))

some-target_hands : (fields : TargetFields) (hands : FourHands) → AreHands hands → SomeMeaning (MeansTargetHands fields hands)
some-target_hands fields hands are =
    some-start fields.solve (MeansTarget fields hands) (λ trump first played.
    by-test (are_solutions fields.solve 2) _ _
    (λ _. by-test (nat_lt 13 fields.target) _ _ (λ _. (Err WrongTarget, refl)) (λ _. some-cards fields.solve hands (target_question fields) are trump first played))
    (λ _. (Err WrongSolutions, refl)))

-- a text spells some deal, or it has a fault
spelled-decided : (text : List ℕ) → ((hands : FourHands) × AreHands hands × SpellsDeal text hands) ⊎ ((fault : PbnFault) × SpellsNone text fault)
spelled-decided text = go (begins_tag text)
  where
    go : (b : Bool) → ((hands : FourHands) × AreHands hands × MatchBool b (deals.TagText text hands) (deals.DealText text hands))
        ⊎ ((fault : PbnFault) × MatchBool b (deals.TagFault text fault) (deals.DealFault text fault))
    go true = decided (IsTag text) (tag_of text) (Reads-tag text)
    go false = deal-decided text

-- what is asked of a deal, where it is known of all hands
pub some-deal : {A : Type 0} (text : List ℕ) (Of : FourHands → Result A Fault → Type 0) → ((hands : FourHands) → AreHands hands → SomeMeaning (Of hands)) → SomeMeaning (MeansDeal text Of)
some-deal text Of of =
    elim (spelled-decided text) [
      | inl deal ↦ let means = of deal.0 deal.1 in (means.0, inl (deal.0, deal.1, deal.2, means.1))
      | inr none ↦ (Err (deal_fault none.0), inr (none.0, none.1, refl))
    ]

-- hands are even or not
pub hands-decided : (hands : FourHands) → AreEven hands ⊎ (AreEven hands → ⊥)
hands-decided hands = elim (eqb_tells (length hands.east) (length hands.north)) [
  | inr odd ↦ inr (λ even. (let ne = odd.1 in ne even.0))
  | inl east ↦ elim (eqb_tells (length hands.south) (length hands.north)) [
    | inr odd ↦ inr (λ even. (let ne = odd.1 in ne even.1))
    | inl south ↦ elim (eqb_tells (length hands.west) (length hands.north)) [
      | inr odd ↦ inr (λ even. (let ne = odd.1 in ne even.2))
      | inl west ↦ inl (east.1, south.1, west.1)
    ]
  ]
]

-- hands of some cards each have a table, and others a fault
pub means-table : (hands : FourHands) → AreEven hands → 0 < length hands.north → MeansTable hands (Ok hands)
means-table hands even some = record { uneven = λ odd. absurd (odd even); none = λ _ empty. absurd (omega arith); some = λ _ _. refl }

pub means-no-cards : (hands : FourHands) → AreEven hands → length hands.north ≡ 0 → MeansTable hands (Err NoCard)
means-no-cards hands even empty = record { uneven = λ odd. absurd (odd even); none = λ _ _. refl; some = λ _ some. absurd (omega arith) }

pub means-odd : (hands : FourHands) → (AreEven hands → ⊥) → MeansTable hands (Err UnevenHands)
means-odd hands odd = record { uneven = λ _. refl; none = λ even _. absurd (odd even); some = λ even _. absurd (odd even) }

pub some-table : (hands : FourHands) → SomeMeaning (MeansTable hands)
some-table hands = elim (hands-decided hands) [
  | inr odd ↦ (Err UnevenHands, means-odd hands odd)
  | inl even ↦ elim (eqb_tells (length hands.north) 0) [
    | inl none ↦ (Err NoCard, means-no-cards hands even none.1)
    | inr some ↦ (Ok hands, means-table hands even (let ne = some.1 in omega arith))
  ]
]

-- what is asked in some way
pub some-way : {A B : Type 0} (way : A → B) (Is : Result A Fault → Type 0) → SomeMeaning Is → SomeMeaning (λ m. (asked : Result A Fault) × Is asked × (m ≡ asked_as way asked))
some-way way Is asked = (asked_as way asked.0, (asked.0, asked.1, refl))

-- the members of an object ask something, or have a fault
pub some-object : (members : Members) → SomeMeaning (MeansObject members)
some-object members =
    by-option (table_deal members) _ _
    (by-option (target_fields members) _ _
    (by-option (solve_fields members) _ _ (Err WrongField, refl) (λ fields _. some-way Solve (MeansFields fields) (some-deal fields.deal (MeansHands fields) (some-hands fields))))
    (λ fields _. some-way Target (MeansTargetFields fields) (some-deal fields.solve.deal (MeansTargetHands fields) (some-target_hands fields))))
    (λ deal _. some-way Table (MeansDeal deal MeansTable) (some-deal deal MeansTable (λ hands _. some-table hands)))

-- ---- no meaning is that memory ran out
board-memory : {A : Type 0} (board : Board) (asked : A) → MeansBoard board asked (Err OutOfMemory) → ⊥
board-memory board asked means =
    let twice : (NoneTwice board → ⊥) → ⊥ = λ double. (let no = means.twice double in cc) in
    twice (λ once.
    let uneven : (IsEven board → ⊥) → ⊥ = λ odd. (let no = means.uneven once odd in cc) in
    uneven (λ even. elim (eqb_tells (tricks_left board) 0) [
      | inl none ↦ (let no = means.none once even none.1 in cc)
      | inr some ↦ (let no = means.some once even (let ne = some.1 in omega arith) in cc)
    ]))

pub by-bool : (b : Bool) (P Q : Type 0) → (P → ⊥) → (Q → ⊥) → MatchBool b P Q → ⊥
by-bool true P Q p q held = p held
by-bool false P Q p q held = q held

start-memory : {A : Type 0} (fields : SolveFields) (Rest : Result A Fault → Type 0) → (Rest (Err OutOfMemory) → ⊥) → MeansStart fields Rest (Err OutOfMemory) → ⊥
start-memory fields Rest none =
    by-bool (nat_lt 4 fields.trump) _ _ (λ no. cc)
    (by-bool (nat_lt 3 fields.first) _ _ (λ no. cc)
    (by-bool (are_cards fields.played) _ _ none (λ no. cc)))

hands-memory : (fields : SolveFields) (hands : FourHands) → MeansHands fields hands (Err OutOfMemory) → ⊥
hands-memory fields hands =
    start-memory fields (MeansSolutions fields hands)
    (by-bool (are_solutions fields 3) _ _ (λ asked. board-memory asked.0 (question fields.solutions asked.0) asked.2) (λ no. cc))

target_hands-memory : (fields : TargetFields) (hands : FourHands) → MeansTargetHands fields hands (Err OutOfMemory) → ⊥
target_hands-memory fields hands =
    start-memory fields.solve (MeansTarget fields hands)
    (by-bool (are_solutions fields.solve 2) _ _
    (by-bool (nat_lt 13 fields.target) _ _ (λ no. cc) (λ asked. board-memory asked.0 (target_question fields asked.0) asked.2))
    (λ no. cc))

fault-memory : {A : Type 0} (fault : PbnFault) (meaning : Result A Fault) → meaning ≡ Err OutOfMemory → meaning ≡ Err (deal_fault fault) → ⊥
fault-memory Grammar meaning is e = cc
fault-memory Absent meaning is e = cc
fault-memory Twice meaning is e = cc

pub deal-memory : {A : Type 0} (text : List ℕ) (Of : FourHands → Result A Fault → Type 0) → ((hands : FourHands) → Of hands (Err OutOfMemory) → ⊥) → MeansDeal text Of (Err OutOfMemory) → ⊥
deal-memory text Of none means =
    elim means [
      | inl spelled ↦ none spelled.0 spelled.3
      | inr fault ↦ fault-memory fault.0 _ refl fault.2
    ]

pub table-memory : (hands : FourHands) → MeansTable hands (Err OutOfMemory) → ⊥
table-memory hands means = elim (hands-decided hands) [
  | inr odd ↦ (let no = means.uneven odd in cc)
  | inl even ↦ elim (eqb_tells (length hands.north) 0) [
    | inl none ↦ (let no = means.none even none.1 in cc)
    | inr some ↦ (let no = means.some even (let ne = some.1 in omega arith) in cc)
  ]
]

pub by-fields : {A : Type 0} (o : Option A) (P : Type 0) (Q : A → Type 0) → (P → ⊥) → ((x : A) → Q x → ⊥) → MatchOption o P Q → ⊥
by-fields None P Q p q held = p held
by-fields (Some x) P Q p q held = q x held

pub way-memory : {A B : Type 0} (way : A → B) (Is : Result A Fault → Type 0) → (Is (Err OutOfMemory) → ⊥) → (asked : Result A Fault) → Is asked → Err OutOfMemory ≡ asked_as way asked → ⊥
way-memory way Is none (Ok x) is e = cc
way-memory way Is none (Err fault) is e = none (subst (λ (f : Fault). Is (Err f)) (let same : fault ≡ OutOfMemory = cc in same) is)

pub object-memory : (members : Members) → MeansObject members (Err OutOfMemory) → ⊥
object-memory members =
    by-fields (table_deal members) _ _
    (by-fields (target_fields members) _ _
    (by-fields (solve_fields members) _ _ (λ no. cc) (λ fields means. way-memory Solve (MeansFields fields) (deal-memory fields.deal (MeansHands fields) (hands-memory fields)) means.0 means.1 means.2))
    (λ fields means. way-memory Target (MeansTargetFields fields) (deal-memory fields.solve.deal (MeansTargetHands fields) (target_hands-memory fields)) means.0 means.1 means.2))
    (λ deal means. way-memory Table (MeansDeal deal MeansTable) (deal-memory deal MeansTable table-memory) means.0 means.1 means.2)

-- so no fault that is handed on is it
pub never-memory : {A B : Type 0} (Is : Result A Fault → Type 0) (told : Result A Fault) (back : Result B Fault) (fault given : Fault) → (Is (Err OutOfMemory) → ⊥)
    → Is told → told ≡ Err fault → back ≡ Err given → given ≡ fault → back ≡ Err OutOfMemory → ⊥
never-memory Is told back fault given never is at hands from out =
    let same : fault ≡ OutOfMemory = cc in
    never (subst (λ (f : Fault). Is (Err f)) same (subst Is at is))
