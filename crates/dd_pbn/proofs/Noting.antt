-- what noting cards one after another does: which hands they make, and whether a card stands twice
use Rattle.std.proofs.Common.{◌≡◌, ◌≢◌, ℕ, ◌+◌, ◌≤◌, Bool, true, false, cond, refl, sym, ap, ◌∙◌, subst, arith, List, [], ◌∷◌, ◌++◌, inl, inr}
use Rattle.std.specs.Prelude.{◌||◌, ◌==◌}
use Rattle.std.proofs.lemmas.Bool.{cases_Bool, or_parts, or_cases, not-true, not-false}
use Rattle.std.proofs.lemmas.Bool.Decides.{nat_tests}
use mathlib.Core.Bool.{not}
use Rattle.dd_cards.specs.declared.seat.Seat.{Seat}
use Rattle.dd_cards.specs.declared.seat.Seat.TheVariants.{North, East, South, West}
use Rattle.dd_cards.specs.Suits.{suit_code}
use Rattle.dd_cards.specs.PlayingCard.{PlayingCard}
use Rattle.dd_cards.specs.Ranks.{IsRank}
use Rattle.dd_cards.specs.Cards.{same_card, has_card, with_card}
use Rattle.dd_cards.specs.Hands.{hand_of, with_hand, times, AreHands, FourHands}
use Rattle.dd_cards.proofs.CallerLemmas.{AreHands-with_card, hand_of-with_hand, has_card-with_card, same_card-eq, same_card-self, times-cons, same_card-swap, times-has}
use Rattle.dd_pbn.specs.declared.hands_so_far.HandsSoFar.{HandsSoFar}
use Rattle.dd_pbn.specs.Reading.{is_free, note}
use Rattle.dd_pbn.proofs.Steps.{lacks}
use Rattle.dd_pbn.proofs.HandTexts.{note_all}

-- each card has a rank
abbrev pub AllReal : List PlayingCard → Type 0
AllReal [] = Unit {0}
AllReal (card ∷ cards) = IsRank card.rank × AllReal cards

-- a card that stands in such a list has one
pub real-has : (cards : List PlayingCard) (card : PlayingCard) → AllReal cards → has_card cards card ≡ true → IsRank card.rank
real-has [] card real has = absurd (cc)
real-has (first ∷ cards) card real has =
    elim (or_cases (same_card first card) (has_card cards card) has) [
      | inl same ↦ subst (λ (c : PlayingCard). IsRank c.rank) (same_card-eq first card same) real.0
      | inr later ↦ real-has cards card real.1 later
    ]

-- two lists of real cards make one
pub real-append : (xs ys : List PlayingCard) → AllReal xs → AllReal ys → AllReal (xs ++ ys)
real-append [] ys x y = y
real-append (card ∷ xs) ys x y = (x.0, real-append xs ys x.1 y)

-- ---- how often a card stands in a list
-- a card that a list lacks does not
lacks-times : (cards : List PlayingCard) (card : PlayingCard) → has_card cards card ≡ false → times cards card ≡ 0
lacks-times [] card none = refl
lacks-times (first ∷ cards) card none =
    let parts = or_parts (same_card first card) (has_card cards card) none in
    let rest = lacks-times cards card parts.1 in
    times-cons first cards card ∙ rw parts.0 (omega (arith, rest))

-- does a card stand twice?
abbrev pub has_double : List PlayingCard → Bool
has_double [] = false
has_double (card ∷ cards) = has_card cards card || has_double cards

-- where some card comes twice, there is one
pub doubled-some : (cards : List PlayingCard) → has_double cards ≡ true → (card : PlayingCard) × (2 ≤ times cards card)
doubled-some [] h = absurd (cc)
doubled-some (first ∷ cards) h =
    elim (or_cases (has_card cards first) (has_double cards) h) [
      | inl again ↦ (
        first,
        (
            let more = times-has cards first again in
            let one : times (first ∷ cards) first ≡ 1 + times cards first = times-cons first cards first ∙ rw (same_card-self first) refl in
            omega arith),
      )
      | inr later ↦ let rest = doubled-some cards later in (rest.0, (let e = times-cons first cards rest.0 in let two = rest.1 in omega arith))
    ]

-- where none does, each card stands once at most
pub doubled-none : (cards : List PlayingCard) → has_double cards ≡ false → (card : PlayingCard) → times cards card ≤ 1
doubled-none [] h card = omega arith
doubled-none (first ∷ cards) h card =
    let parts = or_parts (has_card cards first) (has_double cards) h in
    let rest = doubled-none cards parts.1 card in
    let e = times-cons first cards card in
    elim (cases_Bool (same_card first card)) [
      | inr other ↦ let same : times (first ∷ cards) card ≡ 0 + times cards card = e ∙ rw other refl in omega arith
      | inl same ↦ (
          let none : times cards card ≡ 0 = lacks-times cards card (ap (has_card cards) (sym (same_card-eq first card same)) ∙ parts.0) in
          let one : times (first ∷ cards) card ≡ 1 + times cards card = e ∙ rw same refl in
          omega arith)
    ]

-- the cards noted so far, the last one first
abbrev pub pile : List PlayingCard → List PlayingCard → List PlayingCard
pile past [] = past
pile past (card ∷ cards) = pile (card ∷ past) cards

-- a card stands there as often as before and among the cards
pub times-pile : (past cards : List PlayingCard) (card : PlayingCard) → times (pile past cards) card ≡ times past card + times cards card
times-pile past [] card = omega arith
times-pile past (first ∷ cards) card =
    let ih = times-pile (first ∷ past) cards card in
    let one = times-cons first past card in
    let two = times-cons first cards card in
    omega arith

-- ---- noting
-- the hands have just the cards noted so far, and it is known whether one of them came twice
pub record Sees (past : List PlayingCard) (seen : HandsSoFar) : Type 0 where
  pub are : AreHands seen.hands
  pub free : (card : PlayingCard) → IsRank card.rank → is_free seen.hands card ≡ not (has_card past card)
  pub twice : seen.twice ≡ has_double past

-- whether a card is free depends on which hands have it
is_free-same : (xs ys : FourHands) (card : PlayingCard) → ((s : Seat) → has_card (hand_of xs s) card ≡ has_card (hand_of ys s) card) → is_free xs card ≡ is_free ys card
is_free-same xs ys card same = rw (same North, same East, same South, same West) refl

-- the hands with one more card
abbrev put : FourHands → Seat → PlayingCard → FourHands
put hands seat card = with_hand hands seat (with_card (hand_of hands seat) card)

-- what is seen with one more card, where it is free and where it is not
abbrev seen_with : Bool → Seat → PlayingCard → HandsSoFar → HandsSoFar
seen_with free seat card seen = cond free (record { hands = put seen.hands seat card; absent = seen.absent; twice = seen.twice }) (record { hands = seen.hands; absent = seen.absent; twice = true })

-- the hand has the card that is put in, and those that it had
pub has_card-put : (hands : FourHands) (seat : Seat) (card other : PlayingCard) → AreHands hands → IsRank other.rank
    → has_card (hand_of (put hands seat card) seat) other ≡ (same_card card other || has_card (hand_of hands seat) other)
has_card-put hands seat card other are real =
    elim (hand_of-with_hand hands seat (with_card (hand_of hands seat) card) seat) [
      | inr other_seat ↦ absurd (other_seat.0 refl)
      | inl same ↦ ap (λ (cards : List PlayingCard). has_card cards other) same.1 ∙ has_card-with_card (hand_of hands seat) card other real ∙ ap (λ b. b || has_card (hand_of hands seat) other) (same_card-swap other card)
    ]

-- the other hands stay
pub hand_of-put : (hands : FourHands) (seat : Seat) (card : PlayingCard) (s : Seat) → AreHands hands → s ≢ seat → hand_of (put hands seat card) s ≡ hand_of hands s
hand_of-put hands seat card s are differs =
    elim (hand_of-with_hand hands seat (with_card (hand_of hands seat) card) s) [
      | inl same ↦ absurd (differs same.0)
      | inr other ↦ other.1
    ]

-- a card that is put in is free no more
is_free-here : (hands : FourHands) (seat : Seat) (card other : PlayingCard) → AreHands hands → IsRank other.rank → same_card card other ≡ true → is_free (put hands seat card) other ≡ false
is_free-here hands seat card other are real same =
    elim (cases_Bool (is_free (put hands seat card) other)) [
      | inr taken ↦ taken
      | inl free ↦ absurd (
          let none : has_card (hand_of (put hands seat card) seat) other ≡ false = lacks (put hands seat card) other free seat in
          let some : has_card (hand_of (put hands seat card) seat) other ≡ true = has_card-put hands seat card other are real ∙ rw same refl in
          let no : true ≡ false = sym some ∙ none in
          cc)
    ]

-- another card is free as before
is_free-there : (hands : FourHands) (seat : Seat) (card other : PlayingCard) → AreHands hands → IsRank other.rank → same_card card other ≡ false
    → is_free (put hands seat card) other ≡ is_free hands other
is_free-there hands seat card other are real differs =
    is_free-same (put hands seat card) hands other (λ s. elim (hand_of-with_hand hands seat (with_card (hand_of hands seat) card) s) [
      | inl same ↦ ap (λ (t : Seat). has_card (hand_of (put hands seat card) t) other) same.0 ∙ has_card-put hands seat card other are real ∙ rw differs (ap (λ (t : Seat). has_card (hand_of hands t) other) (sym same.0))
      | inr apart ↦ ap (λ (cards : List PlayingCard). has_card cards other) apart.1
    ])

-- one more card
pub Sees-note : (past : List PlayingCard) (seat : Seat) (card : PlayingCard) (seen : HandsSoFar) → IsRank card.rank → Sees past seen → Sees (card ∷ past) (note seat card seen)
Sees-note past seat card seen real sees = go (is_free seen.hands card) refl
  where
    known : (b : Bool) → is_free seen.hands card ≡ b → has_card past card ≡ not b
    known true e = let n : not (has_card past card) ≡ true = sym (sees.free card real) ∙ e in not-true (has_card past card) n
    known false e = let n : not (has_card past card) ≡ false = sym (sees.free card real) ∙ e in not-false (has_card past card) n

    go : (b : Bool) → is_free seen.hands card ≡ b
        → Sees (card ∷ past) (seen_with b seat card seen)
    go true e = record {
      are = AreHands-with_card seen.hands seat card sees.are (lacks seen.hands card e);
      free = λ other there. elim (cases_Bool (same_card card other)) [
        | inl same ↦ is_free-here seen.hands seat card other sees.are there same ∙ rw same refl
        | inr differs ↦ is_free-there seen.hands seat card other sees.are there differs ∙ sees.free other there ∙ rw differs refl
      ];
      twice = sees.twice ∙ rw (known true e) refl;
    }
    go false e = record {
      are = sees.are;
      free = λ other there. elim (cases_Bool (same_card card other)) [
        | inl same ↦ ap (is_free seen.hands) (sym (same_card-eq card other same)) ∙ e ∙ rw same refl
        | inr differs ↦ sees.free other there ∙ rw differs refl
      ];
      twice = rw (known false e) refl;
    }

-- cards one after another
pub Sees-all : (past : List PlayingCard) (seat : Seat) (cards : List PlayingCard) (seen : HandsSoFar) → AllReal cards → Sees past seen → Sees (pile past cards) (note_all seat cards seen)
Sees-all past seat [] seen real sees = sees
Sees-all past seat (card ∷ cards) seen real sees = Sees-all (card ∷ past) seat cards (note seat card seen) real.1 (Sees-note past seat card seen real.0 sees)

-- noting cards leaves out no hand
pub absent-all : (seat : Seat) (cards : List PlayingCard) (seen : HandsSoFar) → (note_all seat cards seen).absent ≡ seen.absent
absent-all seat [] seen = refl
absent-all seat (card ∷ cards) seen = absent-all seat cards (note seat card seen) ∙ (
    elim (is_free seen.hands card) as (λ b. (seen_with b seat card seen).absent ≡ seen.absent) [
      | true ↦ refl
      | false ↦ refl
    ])

-- what is put into one hand changes no other
others-note : (seat : Seat) (card : PlayingCard) (seen : HandsSoFar) (s : Seat) → AreHands seen.hands → s ≢ seat → hand_of (note seat card seen).hands s ≡ hand_of seen.hands s
others-note seat card seen s are differs =
    elim (is_free seen.hands card) as (λ b. hand_of (seen_with b seat card seen).hands s ≡ hand_of seen.hands s) [
      | true ↦ hand_of-put seen.hands seat card s are differs
      | false ↦ refl
    ]

-- what is put into one hand, card by card, changes no other
pub others-all : (past : List PlayingCard) (seat : Seat) (cards : List PlayingCard) (seen : HandsSoFar) (s : Seat) → AllReal cards → Sees past seen → s ≢ seat → hand_of (note_all seat cards seen).hands s ≡ hand_of seen.hands s
others-all past seat [] seen s real sees differs = refl
others-all past seat (card ∷ cards) seen s real sees differs =
    others-all (card ∷ past) seat cards (note seat card seen) s real.1 (Sees-note past seat card seen real.0 sees) differs ∙ others-note seat card seen s sees.are differs

-- what came twice stays so
pub doubled-past : (past cards : List PlayingCard) → has_double (pile past cards) ≡ false → has_double past ≡ false
doubled-past past [] h = h
doubled-past past (card ∷ cards) h = (or_parts (has_card past card) (has_double past) (doubled-past (card ∷ past) cards h)).1

-- where no card comes twice, the hand has its cards and those before
holds-note : (past : List PlayingCard) (seat : Seat) (card : PlayingCard) (seen : HandsSoFar) (other : PlayingCard) → IsRank card.rank → IsRank other.rank → Sees past seen → has_card past card ≡ false
    → has_card (hand_of (note seat card seen).hands seat) other ≡ (same_card card other || has_card (hand_of seen.hands seat) other)
holds-note past seat card seen other real there sees new =
    let free : is_free seen.hands card ≡ true = sees.free card real ∙ rw new refl in
    rw free (has_card-put seen.hands seat card other sees.are there)

-- a test that comes first may come second
or-turn : (a b c : Bool) → (c || (a || b)) ≡ ((a || c) || b)
or-turn true true true = refl
or-turn true true false = refl
or-turn true false true = refl
or-turn true false false = refl
or-turn false true true = refl
or-turn false true false = refl
or-turn false false true = refl
or-turn false false false = refl

-- the same of cards one after another
pub holds-all : (past : List PlayingCard) (seat : Seat) (cards : List PlayingCard) (seen : HandsSoFar) (other : PlayingCard) → AllReal cards → IsRank other.rank → Sees past seen → has_double (pile past cards) ≡ false
    → has_card (hand_of (note_all seat cards seen).hands seat) other ≡ (has_card cards other || has_card (hand_of seen.hands seat) other)
holds-all past seat [] seen other real there sees single = refl
holds-all past seat (card ∷ cards) seen other real there sees single =
    let new = (or_parts (has_card past card) (has_double past) (doubled-past (card ∷ past) cards single)).0 in
    holds-all (card ∷ past) seat cards (note seat card seen) other real.1 there (Sees-note past seat card seen real.0 sees) single
    ∙ ap (λ b. has_card cards other || b) (holds-note past seat card seen other real.0 there sees new)
    ∙ or-turn (same_card card other) (has_card (hand_of seen.hands seat) other) (has_card cards other)
