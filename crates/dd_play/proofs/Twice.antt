-- cards that are put into a hand one by one, and how often each stands then
use Rattle.std.proofs.Common.{◌≡◌, ℕ, zero, suc, ◌+◌, ◌<◌, ◌≤◌, Bool, true, false, refl, sym, ap, ◌∙◌, subst, arith, List, [], ◌∷◌, ◌++◌, length, take, get_or, zero-le}
use Rattle.std.specs.Prelude.{◌||◌, ◌&&◌}
use Rattle.std.proofs.lemmas.List.{take_more}
use Rattle.dd_cards.specs.declared.seat.Seat.{Seat}
use Rattle.dd_cards.specs.declared.seat.Seat.TheVariants.{North, East, South, West}
use Rattle.dd_cards.specs.PlayingCard.{PlayingCard}
use Rattle.dd_cards.specs.Ranks.{IsRank}
use Rattle.dd_cards.specs.Cards.{same_card, has_card, with_card, deck}
use Rattle.dd_cards.specs.Hands.{hand_of, with_hand, times, IsSet, AreHands, FourHands}
use Rattle.dd_cards.proofs.CallerLemmas.{IsSet-with_card, at-most-one, has_card-deck, has_card-filter, real-set, same_card-eq, same_card-self, times-cons, times-has_card, same_card-swap, times-has}
use Rattle.dd_play.specs.Board.{times_in}
use Rattle.dd_play.proofs.Boards.{flag_of, hand-same, times-push, times_in-with_hand, push-real}

-- a card is put into a set that lacks it
times-with_card : (cards : List PlayingCard) (c d : PlayingCard) → IsSet cards → has_card cards c ≡ false → IsRank c.rank → times (with_card cards c) d ≡ times cards d + flag_of (same_card c d)
times-with_card cards c d set absent real = go (same_card c d) refl
  where
    new : times (with_card cards c) d ≡ flag_of ((same_card d c || has_card cards d) && has_card deck d)
    new = times-has_card (with_card cards c) d (IsSet-with_card cards c) ∙ ap flag_of (has_card-filter (λ x. same_card x c || has_card cards x) deck d)

    old : times cards d ≡ flag_of (has_card cards d)
    old = times-has_card cards d set

    in_deck : (b : Bool) → has_card cards d ≡ b → flag_of (b && has_card deck d) ≡ flag_of b
    in_deck false e = refl
    in_deck true e = ap flag_of (has_card-deck d (real-set cards d set e))

    go : (b : Bool) → same_card c d ≡ b → times (with_card cards c) d ≡ times cards d + flag_of (same_card c d)
    go true e =
        let same : c ≡ d = same_card-eq c d e in
        let none : has_card cards d ≡ false = ap (has_card cards) (sym same) ∙ absent in
        let there : has_card deck d ≡ true = ap (has_card deck) (sym same) ∙ has_card-deck c real in
        let swapped : same_card d c ≡ true = same_card-swap d c ∙ e in
        let one : times (with_card cards c) d ≡ 1 = new ∙ rw (swapped, there) refl in
        let before : times cards d ≡ 0 = old ∙ ap flag_of none in
        let flag : flag_of (same_card c d) ≡ 1 = ap flag_of e in
        omega (arith, one, before, flag)
    go false e =
        let swapped : same_card d c ≡ false = same_card-swap d c ∙ e in
        let rest : times (with_card cards c) d ≡ flag_of (has_card cards d && has_card deck d) = new ∙ rw swapped refl in
        let same : flag_of (has_card cards d && has_card deck d) ≡ flag_of (has_card cards d) = in_deck (has_card cards d) refl in
        let flag : flag_of (same_card c d) ≡ 0 = ap flag_of e in
        omega (arith, rest, same, old, flag)

-- the four hands with a card more in North's
pub times_in-insert : (hands : FourHands) (c d : PlayingCard) → IsSet (hand_of hands North) → has_card (hand_of hands North) c ≡ false → IsRank c.rank
    → times_in (with_hand hands North (with_card (hand_of hands North) c)) d ≡ times_in hands d + flag_of (same_card c d)
times_in-insert hands c d set absent real =
    let moved = times_in-with_hand hands North (with_card (hand_of hands North) c) d in
    let one = times-with_card (hand_of hands North) c d set absent real in
    omega (arith, moved, one)

-- a card stands in four hands at most once
pub times_in-once : (hands : FourHands) (c : PlayingCard) → AreHands hands → times_in hands c ≤ 1
times_in-once hands c valid =
    let has = λ (s : Seat). has_card (hand_of hands s) c in
    let apart = λ (s t : Seat) (differ : s ≡ t → ⊥) (h : has s ≡ true) (k : has t ≡ true). differ (valid.disjoint c s t h k) in
    let one : flag_of (has North) + flag_of (has East) + flag_of (has South) + flag_of (has West) ≤ 1 =
    at-most-one _ _ _ _ (apart North East (λ e. cc)) (apart North South (λ e. cc)) (apart North West (λ e. cc)) (apart East South (λ e. cc)) (apart East West (λ e. cc)) (apart South West (λ e. cc)) in
    let north : times (hand_of hands North) c ≡ flag_of (has North) = times-has_card (hand_of hands North) c (valid.sets North) in
    let east : times (hand_of hands East) c ≡ flag_of (has East) = times-has_card (hand_of hands East) c (valid.sets East) in
    let south : times (hand_of hands South) c ≡ flag_of (has South) = times-has_card (hand_of hands South) c (valid.sets South) in
    let west : times (hand_of hands West) c ≡ flag_of (has West) = times-has_card (hand_of hands West) c (valid.sets West) in
    omega (arith, one, north, east, south, west)

-- and not at all where no hand has it
pub times_in-none : (hands : FourHands) (c : PlayingCard) → ((s : Seat) → has_card (hand_of hands s) c ≡ false) → times_in hands c ≡ 0
times_in-none hands c none =
    let north = times-none (hand_of hands North) c (none North) in
    let east = times-none (hand_of hands East) c (none East) in
    let south = times-none (hand_of hands South) c (none South) in
    let west = times-none (hand_of hands West) c (none West) in
    omega (arith, north, east, south, west)
  where
    times-none : (cards : List PlayingCard) (c : PlayingCard) → has_card cards c ≡ false → times cards c ≡ 0
    times-none [] c h = refl
    times-none (d ∷ cards) c h = go (same_card d c) refl (times-none cards c)
      where
        go : (b : Bool) → same_card d c ≡ b → (has_card cards c ≡ false → times cards c ≡ 0) → times (d ∷ cards) c ≡ 0
        go true e ih = absurd (let no : true ≡ false = rw e at h in cc)
        go false e ih = (let rest : times cards c ≡ 0 = ih (rw e at h) in let one = times-cons d cards c in let flag : flag_of (same_card d c) ≡ 0 = ap flag_of e in omega (arith, rest, one, flag))

-- the cards of a trick up to a place
times-take : (cards : List PlayingCard) (n : ℕ) (c : PlayingCard) → times (take n cards) c ≤ times cards c
times-take cards zero c = zero-le
times-take [] (suc n) c = zero-le
times-take (d ∷ cards) (suc n) c =
    let ih = times-take cards n c in
    let one = times-cons d (take n cards) c in
    let all = times-cons d cards c in
    omega (arith, ih, one, all)

-- and one place further
pub times-next : (trick : List PlayingCard) (i : ℕ) (card c : PlayingCard) → i < length trick → card ≡ get_or trick i card → times (take (i + 1) trick) c ≡ times (take i trick) c + flag_of (same_card card c)
times-next trick i card c within is =
    ap (λ cards. times cards c) (take_more trick i card within)
    ∙ ap (λ (x : PlayingCard). times (take i trick ++ x ∷ []) c) (sym is)
    ∙ times-push (take i trick) card c

-- A card of the trick that is already in one of the hands or earlier on the trick stands twice.
pub second-time : (seen hands : FourHands) (trick : List PlayingCard) (i : ℕ) (card : PlayingCard) → i < length trick → card ≡ get_or trick i card
    → ((c : PlayingCard) → times_in seen c ≡ times_in hands c + times (take i trick) c)
    → ((c : PlayingCard) → times_in hands c + times trick c ≤ 1) → (s : Seat) → has_card (hand_of seen s) card ≡ false
second-time seen hands trick i card within is counted once s = go (has_card (hand_of seen s) card) refl
  where
    in_all : (s : Seat) → times (hand_of seen s) card ≤ times_in seen card
    in_all North = omega arith
    in_all East = omega arith
    in_all South = omega arith
    in_all West = omega arith

    go : (b : Bool) → has_card (hand_of seen s) card ≡ b → has_card (hand_of seen s) card ≡ false
    go false e = e
    go true e =
        let here : 1 ≤ times (hand_of seen s) card = times-has (hand_of seen s) card e in
        let all = in_all s in
        let count = counted card in
        let next = times-next trick i card card within is in
        let own : flag_of (same_card card card) ≡ 1 = ap flag_of (same_card-self card) in
        let part = times-take trick (i + 1) card in
        let most = once card in
        absurd (omega (arith, here, all, count, next, own, part, most))

-- these cards were put into North's hand, each for the first time
pub record Counted (seen hands : FourHands) (cards : List PlayingCard) : Type 0 where
  pub north : IsSet (hand_of seen North)
  pub once : (c : PlayingCard) → times_in seen c ≤ 1
  pub counted : (c : PlayingCard) → times_in seen c ≡ times_in hands c + times cards c
  pub real : (c : PlayingCard) → has_card cards c ≡ true → IsRank c.rank

-- before the first card of the trick
pub counted-none : (hands : FourHands) → AreHands hands → Counted hands hands []
counted-none hands valid =
    record {
      north = valid.sets North;
      once = λ c. times_in-once hands c valid;
      counted = λ c. omega arith;
      real = λ c h. absurd (cc);
    }

-- one card more
pub counted-next : (seen hands : FourHands) (cards : List PlayingCard) (card : PlayingCard) → Counted seen hands cards → ((s : Seat) → has_card (hand_of seen s) card ≡ false) → IsRank card.rank
    → Counted (with_hand seen North (with_card (hand_of seen North) card)) hands (cards ++ card ∷ [])
counted-next seen hands cards card before none real =
    let new : List PlayingCard = with_card (hand_of seen North) card in
    let more = λ (c : PlayingCard). times_in-insert seen card c before.north (none North) real in
    record {
      north = subst (λ (xs : List PlayingCard). IsSet xs) (sym (hand-same seen North new)) (IsSet-with_card (hand_of seen North) card);
      once = λ c. at_most_one c (same_card card c) refl (more c);
      counted = λ c. (let a = more c in let b = before.counted c in let d = times-push cards card c in omega (arith, a, b, d));
      real = push-real cards card before.real real;
    }
  where
    at_most_one : (c : PlayingCard) (b : Bool) → same_card card c ≡ b → times_in (with_hand seen North (with_card (hand_of seen North) card)) c ≡ times_in seen c + flag_of (same_card card c)
        → times_in (with_hand seen North (with_card (hand_of seen North) card)) c ≤ 1
    at_most_one c true e more =
        let absent : times_in seen c ≡ 0 = ap (times_in seen) (sym (same_card-eq card c e)) ∙ times_in-none seen card none in
        let flag : flag_of (same_card card c) ≡ 1 = ap flag_of e in
        omega (arith, more, absent, flag)
    at_most_one c false e more =
        let flag : flag_of (same_card card c) ≡ 0 = ap flag_of e in
        let old = before.once c in
        omega (arith, more, flag, old)

-- the next card of the trick
pub counted-take : (seen hands : FourHands) (trick : List PlayingCard) (i : ℕ) (card : PlayingCard) → i < length trick → card ≡ get_or trick i card → Counted seen hands (take i trick)
    → ((s : Seat) → has_card (hand_of seen s) card ≡ false) → IsRank card.rank
    → Counted (with_hand seen North (with_card (hand_of seen North) card)) hands (take (i + 1) trick)
counted-take seen hands trick i card within is before none real =
    let next : take i trick ++ card ∷ [] ≡ take (i + 1) trick = ap (λ (x : PlayingCard). take i trick ++ x ∷ []) is ∙ sym (take_more trick i card within) in
    subst (λ (cards : List PlayingCard). Counted (with_hand seen North (with_card (hand_of seen North) card)) hands cards) next (counted-next seen hands (take i trick) card before none real)
