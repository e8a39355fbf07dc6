-- so many of a hand's cards that pass a test, and no more, and how many of a hand's cards there are of a kind
use Rattle.std.proofs.Common.{◌≡◌, ℕ, ◌+◌, ◌<◌, ◌≤◌, Bool, true, false, refl, sym, ap, ◌∙◌, arith, List, [], ◌∷◌, inl, inr}
use Rattle.std.specs.Prelude.{◌&&◌}
use mathlib.Core.Bool.{not}
use Rattle.std.proofs.lemmas.Bool.{cases_lt, false_from_ne_true}
use Rattle.dd_cards.specs.PlayingCard.{PlayingCard}
use Rattle.dd_cards.specs.Cards.{same_card, has_card}
use Rattle.dd_cards.specs.Hands.{times}
use Rattle.dd_cards.proofs.CallerLemmas.{and-left, and-right, times-has}
use Rattle.dd_play.proofs.CallerLemmas.{count, count-cons, flag_of, has-first, in-rest}
use Rattle.dd_rank.proofs.CallerLemmas.{count-le}

-- two tests that agree on each card of a hand pass as many
pub count-same : (test tested : PlayingCard → Bool) (cards : List PlayingCard) → ((c : PlayingCard) → has_card cards c ≡ true → test c ≡ tested c) → count test cards ≡ count tested cards
count-same test tested cards each =
    let a = count-le test tested cards (λ c has t. sym (each c has) ∙ t) in
    let b = count-le tested test cards (λ c has t. each c has ∙ t) in
    omega (arith, a, b)

-- where no card passes, none is counted
pub count-never : (test : PlayingCard → Bool) (cards : List PlayingCard) → ((c : PlayingCard) → has_card cards c ≡ true → test c ≡ false) → count test cards ≡ 0
count-never test [] each = refl
count-never test (c ∷ cards) each =
    let one = count-cons test c cards in
    let here : flag_of (test c) ≡ 0 = ap flag_of (each c (has-first c cards)) in
    let rest = count-never test cards (λ d h. each d (in-rest c d cards h)) in
    omega (arith, one, here, rest)

-- of the cards that pass a test, those that pass another and those that do not are all
pub count-split : (test other : PlayingCard → Bool) (cards : List PlayingCard) → count (λ c. test c && other c) cards + count (λ c. test c && not (other c)) cards ≡ count test cards
count-split test other [] = refl
count-split test other (c ∷ cards) =
    let a = count-cons (λ c. test c && other c) c cards in
    let b = count-cons (λ c. test c && not (other c)) c cards in
    let d = count-cons test c cards in
    let ih = count-split test other cards in
    let here = flags (test c) (other c) in
    omega (arith, a, b, d, ih, here)
  where
    flags : (a b : Bool) → flag_of (a && b) + flag_of (a && not b) ≡ flag_of a
    flags true true = refl
    flags true false = refl
    flags false b = refl

-- a test that passes k cards of the list, each of which passes the first test
pub record Chosen (test : PlayingCard → Bool) (cards : List PlayingCard) (k : ℕ) : Type 0 where
  pub kept : PlayingCard → Bool
  pub within : (c : PlayingCard) → kept c ≡ true → (has_card cards c ≡ true) × (test c ≡ true)
  pub many : count kept cards ≡ k

-- where so many pass, so many may be chosen
pub choose : (test : PlayingCard → Bool) (cards : List PlayingCard) (k : ℕ) → ((c : PlayingCard) → times cards c ≤ 1) → k ≤ count test cards → Chosen test cards k
choose test [] k once many = record { kept = λ c. false; within = λ c e. absurd (cc); many = (let none : count test [] ≡ 0 = refl in let nothing : count (λ (c : PlayingCard). false) [] ≡ 0 = refl in omega (arith, many, none, nothing)) }
choose test (d ∷ cards) k once many = elim (cases_lt (count test cards) k) [ inl over ↦ all over | inr under ↦ later (choose test cards k tail under) ]
  where
    -- the rest has each card once as well
    tail : (c : PlayingCard) → times cards c ≤ 1
    tail c = (let a = once c in let b : times (d ∷ cards) c ≡ flag_of (same_card d c) + times cards c = count-cons (λ y. same_card y c) d cards in omega (arith, a, b))

    later : Chosen test cards k → Chosen test (d ∷ cards) k
    later r = record {
      kept = r.kept;
      within = λ c e. (in-rest d c cards (r.within c e).0, (r.within c e).1);
      many = (
          let no : r.kept d ≡ false = false_from_ne_true (r.kept d) (λ e.
          let some = times-has cards d (r.within d e).0 in
          let one = once d in
          let cons : times (d ∷ cards) d ≡ flag_of (same_card d d) + times cards d = count-cons (λ y. same_card y d) d cards in
          let here : flag_of (same_card d d) ≡ 1 = ap flag_of (same-self d) in
          omega (arith, some, one, cons, here)) in
          let none : flag_of (r.kept d) ≡ 0 = ap flag_of no in
          let cons = count-cons r.kept d cards in
          let rest = r.many in
          omega (arith, none, cons, rest));
    }
      where
        same-self : (c : PlayingCard) → same_card c c ≡ true
        same-self c = go (same_card c c) refl (has-first c [])
          where
            go : (b : Bool) → same_card c c ≡ b → has_card (c ∷ []) c ≡ true → same_card c c ≡ true
            go true e h = e
            go false e h = absurd (let k : false ≡ true = rw e at h in cc)

    all : count test cards < k → Chosen test (d ∷ cards) k
    all over = record {
      kept = λ c. has_card (d ∷ cards) c && test c;
      within = λ c e. (and-left (has_card (d ∷ cards) c) (test c) e, and-right (has_card (d ∷ cards) c) (test c) e);
      many = (
          let same = count-same (λ c. has_card (d ∷ cards) c && test c) test (d ∷ cards) (λ c has. ap (λ b. b && test c) has) in
          let cons = count-cons test d cards in
          let most = flag-le (test d) in
          omega (arith, same, cons, most, over, many));
    }
      where
        flag-le : (b : Bool) → flag_of b ≤ 1
        flag-le true = omega arith
        flag-le false = omega arith
