-- what is written of a deal spells this deal
use Rattle.std.proofs.Common.{◌≡◌, ℕ, ◌≤◌, Bool, true, false, cond, refl, sym, ap, ◌∙◌, subst, arith, List, [], ◌∷◌, ◌++◌, append-nil}
use Rattle.std.specs.Prelude.{map, filter, is_some, codes}
use Rattle.std.specs.List.{list_all}
use Rattle.std.proofs.lemmas.Bool.{eqb-true, and_from, and_parts}
use Rattle.dd_cards.specs.declared.seat.Seat.{Seat}
use Rattle.dd_cards.specs.declared.seat.Seat.TheVariants.{North, East, South, West}
use Rattle.dd_cards.specs.declared.suit.Suit.{Suit}
use Rattle.dd_cards.specs.declared.suit.Suit.TheVariants.{Spades, Hearts, Diamonds, Clubs}
use Rattle.dd_cards.specs.Suits.{suit_code}
use Rattle.dd_cards.specs.PlayingCard.{PlayingCard}
use Rattle.dd_cards.specs.Ranks.{is_rank}
use Rattle.dd_cards.specs.Cards.{is_of, card_of, deck, has_card}
use Rattle.dd_cards.specs.Hands.{hand_of, times, IsSet, AreHands, FourHands}
use Rattle.dd_cards.proofs.CallerLemmas.{IsRank-from, at-most-one, real_deck, set-by-suits, suit_code-injective, times-has_card, times-append}
use Rattle.dd_pbn.specs.Letters.{letter_of}
use Rattle.dd_pbn.specs.Values.{HandText, suits, IsSuit, IsHand, hand_bytes, Value}
use Rattle.dd_pbn.specs.Deals.{cards_of_suit, cards_of_hand, cards_of_value, DealText, suit_text, hand_text, text_of_deal}
use Rattle.dd_pbn.proofs.Bytes.{is_letter, rank_of-letter}
use Rattle.dd_pbn.proofs.HandTexts.{hand_bytes-right}
use Rattle.dd_pbn.proofs.ValueTexts.{value-right}
use Rattle.dd_pbn.proofs.Noting.{AllReal}

-- ---- the cards of a set are real
-- cards that pass the test of ranks are real
real-from : (cards : List PlayingCard) → list_all (λ c. is_rank c.rank) cards ≡ true → AllReal cards
real-from [] all = tt
real-from (card ∷ cards) all =
    let parts = and_parts (is_rank card.rank) (list_all (λ c. is_rank c.rank) cards) all in
    (IsRank-from card.rank parts.0, real-from cards parts.1)

-- so is any part of them
real-filter : (p : PlayingCard → Bool) (cards : List PlayingCard) → AllReal cards → AllReal (filter p cards)
real-filter p [] real = tt
real-filter p (card ∷ cards) real =
    let rest = real-filter p cards real.1 in
    elim (p card) as (λ b. AllReal (cond b (card ∷ filter p cards) (filter p cards))) [
      | true ↦ (real.0, rest)
      | false ↦ rest
    ]

-- and a set of cards
real-set : (cards : List PlayingCard) → IsSet cards → AllReal cards
real-set cards set = subst (λ (xs : List PlayingCard). AllReal xs) set (real-filter (has_card cards) deck (real-from deck real_deck))

-- ---- the letters of cards
-- they are letters
are-letters : (cards : List PlayingCard) → AllReal cards → IsSuit (map (λ c. letter_of c.rank) cards)
are-letters [] real = refl
are-letters (card ∷ cards) real = and_from (is_letter (letter_of card.rank)) (list_all is_letter (map (λ c. letter_of c.rank) cards)) (ap is_some (rank_of-letter card.rank real.0)) (are-letters cards real.1)

-- and spell the cards
spelled-back : (suit : Suit) (cards : List PlayingCard) → AllReal cards → cards_of_suit suit (suit_text cards suit) ≡ filter (is_of suit) cards
spelled-back suit [] real = refl
spelled-back suit (card ∷ cards) real = go (spelled-back suit cards real.1) (is_of suit card) refl
  where
    go : cards_of_suit suit (suit_text cards suit) ≡ filter (is_of suit) cards → (b : Bool) → is_of suit card ≡ b
        → cards_of_suit suit (map (λ c. letter_of c.rank) (cond b (card ∷ filter (is_of suit) cards) (filter (is_of suit) cards))) ≡ cond b (card ∷ filter (is_of suit) cards) (filter (is_of suit) cards)
    go rest false other = rest
    go rest true own =
        let same : suit ≡ card.suit = sym (suit_code-injective card.suit suit (eqb-true (suit_code card.suit) (suit_code suit) own)) in
        rw (rank_of-letter card.rank real.0) (
        let first : card_of suit card.rank ≡ card = ap (λ (s : Suit). card_of s card.rank) same in
        let more = rest in
        cc)

-- ---- the text of a hand
-- the text of a hand, suit by suit
abbrev text_of : List PlayingCard → HandText
text_of cards = suits (suit_text cards Spades) (suit_text cards Hearts) (suit_text cards Diamonds) (suit_text cards Clubs)

-- it spells the cards
text_of-cards : (cards : List PlayingCard) → IsSet cards → cards_of_hand (text_of cards) ≡ cards
text_of-cards cards set =
    let real = real-set cards set in
    rw (spelled-back Spades cards real, spelled-back Hearts cards real, spelled-back Diamonds cards real, spelled-back Clubs cards real) (sym (set-by-suits cards set))

-- it is a hand
text_of-is : (cards : List PlayingCard) → IsSet cards → IsHand (text_of cards)
text_of-is cards set =
    let real = real-set cards set in (
      are-letters (filter (is_of Spades) cards) (real-filter (is_of Spades) cards real),
      are-letters (filter (is_of Hearts) cards) (real-filter (is_of Hearts) cards real),
      are-letters (filter (is_of Diamonds) cards) (real-filter (is_of Diamonds) cards real),
      are-letters (filter (is_of Clubs) cards) (real-filter (is_of Clubs) cards real),
    )

-- its bytes are those that are written
text_of-bytes : (cards : List PlayingCard) → hand_text cards ≡ hand_bytes (text_of cards)
text_of-bytes cards =
    let a = suit_text cards Spades in
    let b = suit_text cards Hearts in
    let c = suit_text cards Diamonds in
    let d = suit_text cards Clubs in
    sym (hand_bytes-right a b c d [] ∙ ap (λ (t : List ℕ). a ++ (46 ∷ (b ++ (46 ∷ (c ++ (46 ∷ t)))))) (append-nil d)) ∙ append-nil (hand_bytes (text_of cards))

-- ---- the text of a deal
-- what is written, as a value
abbrev value_of_deal : FourHands → Value
value_of_deal deal = record { first = North; hand1 = text_of (hand_of deal North); hand2 = text_of (hand_of deal East); hand3 = text_of (hand_of deal South); hand4 = text_of (hand_of deal West) }

-- N, a colon, and four texts with a space between each two
with_spaces : (a b c d : List ℕ) → 78 ∷ (58 ∷ (a ++ (32 ∷ (b ++ (32 ∷ (c ++ (32 ∷ d)))))))
    ≡ [] ++ 78 ∷ codes ":" ++ [] ++ a ++ (32 ∷ []) ++ b ++ (32 ∷ []) ++ c ++ (32 ∷ []) ++ d ++ []
with_spaces a b c d =
    let whole = [] ++ 78 ∷ codes ":" ++ [] ++ a ++ (32 ∷ []) ++ b ++ (32 ∷ []) ++ c ++ (32 ∷ []) ++ d ++ [] in
    let right : 78 ∷ (58 ∷ (a ++ (32 ∷ (b ++ (32 ∷ (c ++ (32 ∷ (d ++ [])))))))) ≡ whole = sym (value-right [] 78 [] a (32 ∷ []) b (32 ∷ []) c (32 ∷ []) d [] []) ∙ append-nil whole in
    ap (λ (t : List ℕ). 78 ∷ (58 ∷ (a ++ (32 ∷ (b ++ (32 ∷ (c ++ (32 ∷ t)))))))) (sym (append-nil d)) ∙ right

-- the same with equal texts
written-form : (n e s w n' e' s' w' : List ℕ) → n ≡ n' → e ≡ e' → s ≡ s' → w ≡ w' → 78 ∷ (58 ∷ (n ++ (32 ∷ (e ++ (32 ∷ (s ++ (32 ∷ w)))))))
    ≡ [] ++ 78 ∷ codes ":" ++ [] ++ n' ++ (32 ∷ []) ++ e' ++ (32 ∷ []) ++ s' ++ (32 ∷ []) ++ w' ++ []
written-form n e s w n' e' s' w' p q r t = rw (p, q, r, t) (with_spaces n' e' s' w')

-- no card stands twice in four hands
once : (deal : FourHands) → AreHands deal → (card : PlayingCard) → times (hand_of deal North ++ hand_of deal East ++ hand_of deal South ++ hand_of deal West) card ≤ 1
once deal are card =
    let n = hand_of deal North in
    let e = hand_of deal East in
    let s = hand_of deal South in
    let w = hand_of deal West in
    let apart = λ (x y : Seat) (differ : x ≡ y → ⊥) (h : has_card (hand_of deal x) card ≡ true) (k : has_card (hand_of deal y) card ≡ true). differ (are.disjoint card x y h k) in
    let one = at-most-one (has_card n card) (has_card e card) (has_card s card) (has_card w card)
    (apart North East (λ e. cc)) (apart North South (λ e. cc)) (apart North West (λ e. cc)) (apart East South (λ e. cc)) (apart East West (λ e. cc)) (apart South West (λ e. cc)) in
    let tn = times-has_card n card (are.sets North) in
    let te = times-has_card e card (are.sets East) in
    let ts = times-has_card s card (are.sets South) in
    let tw = times-has_card w card (are.sets West) in
    let two = times-append n e card in
    let three = times-append (n ++ e) s card in
    let four = times-append (n ++ e ++ s) w card in
    omega (arith, one, tn, te, ts, tw, two, three, four)

-- what is written spells the deal
pub written-spells : (deal : FourHands) → AreHands deal → DealText (text_of_deal deal) deal
written-spells deal are =
    let n = hand_of deal North in
    let e = hand_of deal East in
    let s = hand_of deal South in
    let w = hand_of deal West in
    let cn = text_of-cards n (are.sets North) in
    let ce = text_of-cards e (are.sets East) in
    let cs = text_of-cards s (are.sets South) in
    let cw = text_of-cards w (are.sets West) in
    let all : cards_of_value (value_of_deal deal) ≡ n ++ e ++ s ++ w = rw (cn, ce, cs, cw) refl in (
      value_of_deal deal,
      record {
        letter = 78;
        before = [];
        after = [];
        gap2 = 32 ∷ [];
        gap3 = 32 ∷ [];
        gap4 = 32 ∷ [];
        trail = [];
        form = written-form (hand_text n) (hand_text e) (hand_text s) (hand_text w) (hand_bytes (text_of n)) (hand_bytes (text_of e)) (hand_bytes (text_of s)) (hand_bytes (text_of w))
            (text_of-bytes n) (text_of-bytes e) (text_of-bytes s) (text_of-bytes w);
        seat = refl;
        hands = (text_of-is n (are.sets North), text_of-is e (are.sets East), text_of-is s (are.sets South), text_of-is w (are.sets West));
        blanks = (refl, refl, refl);
        gaps = ((refl, omega arith), (refl, omega arith), (refl, omega arith));
      },
      record {
        whole = refl;
        once = λ card. subst (λ (cards : List PlayingCard). times cards card ≤ 1) (sym all) (once deal are card);
        holds1 = λ card. ap (λ (cards : List PlayingCard). has_card cards card) (sym cn);
        holds2 = λ card. ap (λ (cards : List PlayingCard). has_card cards card) (sym ce);
        holds3 = λ card. ap (λ (cards : List PlayingCard). has_card cards card) (sym cs);
        holds4 = λ card. ap (λ (cards : List PlayingCard). has_card cards card) (sym cw);
      },
    )
