-- counting cards
use Rattle.std.proofs.Common.{◌≡◌, ℕ, ◌+◌, ◌≤◌, Bool, true, false, cond, refl, sym, ap, ◌∙◌, subst, arith, List, [], ◌∷◌, length, zero-le, ◌*◌}
use Rattle.std.specs.Prelude.{filter}
use Rattle.dd_cards.specs.PlayingCard.{PlayingCard}
use Rattle.dd_cards.specs.Cards.{same_card, has_card, without}
use Rattle.dd_cards.specs.Hands.{times}
use Rattle.dd_cards.proofs.CallerLemmas.{has_card-without, same_card-eq, same_card-self, times-cons, times-has}
use Rattle.dd_play.proofs.Boards.{flag_of, has-first, in-rest}
use Rattle.std.proofs.lemmas.Bool.{false_from_ne_true}

-- how many cards pass a test
abbrev pub count : (PlayingCard → Bool) → List PlayingCard → ℕ
count test cards = length (filter test cards)

-- a card put first is counted where it passes
pub count-cons : (test : PlayingCard → Bool) (c : PlayingCard) (cards : List PlayingCard) → count test (c ∷ cards) ≡ flag_of (test c) + count test cards
count-cons test c cards = elim (test c) as (λ b. length (cond b (c ∷ filter test cards) (filter test cards)) ≡ flag_of b + count test cards) [ true ↦ omega arith | false ↦ omega arith ]

-- where the count is not zero, some card passes
pub count-some : (test : PlayingCard → Bool) (cards : List PlayingCard) → 1 ≤ count test cards → (c : PlayingCard) × (has_card cards c ≡ true) × (test c ≡ true)
count-some test [] h = absurd (omega (arith, h))
count-some test (c ∷ cards) h = go (test c) refl (λ k. count-some test cards k)
  where
    go : (b : Bool) → test c ≡ b → (1 ≤ count test cards → (d : PlayingCard) × (has_card cards d ≡ true) × (test d ≡ true)) → (d : PlayingCard) × (has_card (c ∷ cards) d ≡ true) × (test d ≡ true)
    go true e ih = (c, has-first c cards, e)
    go false e ih =
        let k : count test (c ∷ cards) ≡ flag_of (test c) + count test cards = count-cons test c cards in
        let z : flag_of (test c) ≡ 0 = ap flag_of e in
        let r = ih (omega (arith, h, k, z)) in
        (r.0, in-rest c r.0 cards r.1, r.2)

-- a card that passes is counted
pub count-has : (test : PlayingCard → Bool) (cards : List PlayingCard) (c : PlayingCard) → has_card cards c ≡ true → test c ≡ true → 1 ≤ count test cards
count-has test [] c has t = absurd (cc)
count-has test (d ∷ cards) c has t = go (same_card d c) refl (λ h. count-has test cards c h t)
  where
    go : (b : Bool) → same_card d c ≡ b → (has_card cards c ≡ true → 1 ≤ count test cards) → 1 ≤ count test (d ∷ cards)
    go true e ih =
        let k : count test (d ∷ cards) ≡ flag_of (test d) + count test cards = count-cons test d cards in
        let z : flag_of (test d) ≡ 1 = ap (λ x. flag_of (test x)) (same_card-eq d c e) ∙ ap flag_of t in
        omega (arith, k, z)
    go false e ih =
        let k : count test (d ∷ cards) ≡ flag_of (test d) + count test cards = count-cons test d cards in
        let r = ih (rw e at has) in
        omega (arith, k, r)

-- without a card, those that pass are as many fewer as the card stood, if it passes
pub count-without : (test : PlayingCard → Bool) (cards : List PlayingCard) (c : PlayingCard) → count test (without cards c) + (times cards c) * flag_of (test c) ≡ count test cards
count-without test [] c = omega arith
count-without test (d ∷ cards) c = go (same_card d c) refl (count-without test cards c)
  where
    go : (b : Bool) → same_card d c ≡ b → count test (without cards c) + times cards c * flag_of (test c) ≡ count test cards → count test (without (d ∷ cards) c) + times (d ∷ cards) c * flag_of (test c) ≡ count test (d ∷ cards)
    go true e ih =
        let k : count test (d ∷ cards) ≡ flag_of (test d) + count test cards = count-cons test d cards in
        let z : flag_of (test d) ≡ flag_of (test c) = ap (λ x. flag_of (test x)) (same_card-eq d c e) in
        let m : times (d ∷ cards) c ≡ flag_of (same_card d c) + times cards c = times-cons d cards c in
        let o : flag_of (same_card d c) ≡ 1 = ap flag_of e in
        let n : times (d ∷ cards) c ≡ 1 + times cards c = omega (arith, m, o) in
        let w : count test (without (d ∷ cards) c) ≡ count test (without cards c) = rw e refl in
        rw (n, w) (omega (arith, ih, k, z))
    go false e ih =
        let k : count test (d ∷ cards) ≡ flag_of (test d) + count test cards = count-cons test d cards in
        let m : times (d ∷ cards) c ≡ flag_of (same_card d c) + times cards c = times-cons d cards c in
        let o : flag_of (same_card d c) ≡ 0 = ap flag_of e in
        let n : times (d ∷ cards) c ≡ times cards c = omega (arith, m, o) in
        let w : count test (without (d ∷ cards) c) ≡ count test (d ∷ without cards c) = rw e refl in
        let v : count test (d ∷ without cards c) ≡ flag_of (test d) + count test (without cards c) = count-cons test d (without cards c) in
        rw (n, w) (omega (arith, ih, k, v))

-- a card that is another than the one taken out stays
pub in-without : (cards : List PlayingCard) (c d : PlayingCard) → has_card cards d ≡ true → same_card d c ≡ false → has_card (without cards c) d ≡ true
in-without cards c d has e = has_card-without cards c d ∙ rw (e, has) refl

-- where a one-to-one map takes each card that passes to one that passes, there are at least as many of the latter
pub inject : (to from : PlayingCard → PlayingCard) (test tested : PlayingCard → Bool) (cards others : List PlayingCard)
    → ((c : PlayingCard) → times cards c ≤ 1)
    → ((c : PlayingCard) → has_card cards c ≡ true → test c ≡ true → (has_card others (to c) ≡ true) × (tested (to c) ≡ true) × (from (to c) ≡ c))
    → count test cards ≤ count tested others
inject to from test tested [] others once each = zero-le
inject to from test tested (c ∷ cards) others once each = go (test c) refl (λ rest. inject to from test tested cards rest fewer)
  where
    fewer : (d : PlayingCard) → times cards d ≤ 1
    fewer d = (let o = once d in let k : times (c ∷ cards) d ≡ flag_of (same_card c d) + times cards d = times-cons c cards d in omega (arith, o, k))

    go : (b : Bool) → test c ≡ b
        → ((rest : List PlayingCard) → ((d : PlayingCard) → has_card cards d ≡ true → test d ≡ true → (has_card rest (to d) ≡ true) × (tested (to d) ≡ true) × (from (to d) ≡ d)) → count test cards ≤ count tested rest)
        → count test (c ∷ cards) ≤ count tested others
    go false e ih =
        let k : count test (c ∷ cards) ≡ flag_of (test c) + count test cards = count-cons test c cards in
        let z : flag_of (test c) ≡ 0 = ap flag_of e in
        let r : count test cards ≤ count tested others = ih others (λ d has t. each d (in-rest c d cards has) t) in
        omega (arith, k, z, r)
    go true e ih =
        let mine = each c (has-first c cards) e in
        let here : has_card others (to c) ≡ true = mine.0 in
        let good : tested (to c) ≡ true = mine.1 in
        let back : from (to c) ≡ c = mine.2 in
        let r : count test cards ≤ count tested (without others (to c)) = ih (without others (to c)) (λ d has t.
        let his = each d (in-rest c d cards has) t in
        let apart : same_card (to d) (to c) ≡ false = false_from_ne_true _ (λ same.
        let eq : d ≡ c = sym his.2 ∙ ap from (same_card-eq (to d) (to c) same) ∙ back in
        let two : 1 ≤ times cards c = subst (λ x. 1 ≤ times cards x) eq (times-has cards d has) in
        let k : times (c ∷ cards) c ≡ flag_of (same_card c c) + times cards c = times-cons c cards c in
        let one : 1 ≤ times (c ∷ cards) c = times-has (c ∷ cards) c (has-first c cards) in
        let f : flag_of (same_card c c) ≡ 1 = ap flag_of (same_card-self c) in
        let o = once c in
        omega (arith, two, k, f, o)) in
        (in-without others (to c) (to d) his.0 apart, his.1, his.2)) in
        let w : count tested (without others (to c)) + times others (to c) * flag_of (tested (to c)) ≡ count tested others = count-without tested others (to c) in
        let f : flag_of (tested (to c)) ≡ 1 = ap flag_of good in
        let w1 : count tested (without others (to c)) + times others (to c) * 1 ≡ count tested others = rw (← f) w in
        let some : 1 ≤ times others (to c) = times-has others (to c) here in
        let k : count test (c ∷ cards) ≡ flag_of (test c) + count test cards = count-cons test c cards in
        let z : flag_of (test c) ≡ 1 = ap flag_of e in
        omega (arith, r, w1, some, k, z)
