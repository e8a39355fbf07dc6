-- taking the highest ranks of a list, one by one
use Rattle.std.proofs.Common.{◌≡◌, ℕ, suc, ◌+◌, ◌≤◌, Bool, true, false, refl, sym, ap, ◌∙◌, subst, arith, List, [], ◌∷◌, ◌++◌, length, length-append, append_assoc, inl, inr, zero-le}
use Rattle.std.specs.Prelude.{filter, min, ◌||◌, ◌==◌, ◌⊎◌}
use Rattle.std.proofs.lemmas.Bool.{eq-eqb, eqb-true, or_right}
use Rattle.dd_cards.specs.declared.suit.Suit.{Suit}
use Rattle.dd_cards.specs.PlayingCard.{PlayingCard}
use Rattle.dd_cards.specs.Ranks.{IsRank, has_rank, is_rank}
use Rattle.dd_cards.specs.Cards.{card_of, deck, has_card, same_card, with_card}
use Rattle.dd_cards.proofs.CallerLemmas.{IsRank-from, any-filter, has_card-with_card, passes, real_deck, same_card-self}

-- Of these ranks the first i are gone, or all: the cards kept have them, and all that were there before.
pub record IsTaken (suit : Suit) (cards : List PlayingCard) (ranks : List ℕ) (kept : List PlayingCard) (rest : List ℕ) (i : ℕ) : Type 0 where
  pub gone : List ℕ
  pub parts : ranks ≡ gone ++ rest
  pub each : (q : ℕ) → has_rank gone q ≡ true → has_card kept (card_of suit q) ≡ true
  pub more : (c : PlayingCard) → has_card cards c ≡ true → has_card kept c ≡ true
  pub real : (c : PlayingCard) → has_card kept c ≡ true → IsRank c.rank
  pub many : (length gone ≡ i) ⊎ (rest ≡ [])

-- at first none is gone
pub none-taken : (suit : Suit) (cards : List PlayingCard) (ranks : List ℕ) → ((c : PlayingCard) → has_card cards c ≡ true → IsRank c.rank) → IsTaken suit cards ranks cards ranks 0
none-taken suit cards ranks real = record { gone = []; parts = refl; each = λ q h. absurd (cc); more = λ c h. h; real = real; many = inl refl }

-- cards that are put in stay
pub with-more : (cards : List PlayingCard) (x : PlayingCard) → ((d : PlayingCard) → has_card cards d ≡ true → IsRank d.rank) → (c : PlayingCard) → has_card cards c ≡ true → has_card (with_card cards x) c ≡ true
with-more cards x real c h = has_card-with_card cards x c (real c h) ∙ or_right (same_card c x) (has_card cards c) h

-- a rank of a list with a last rank is that rank or one before it
last-or : (gone : List ℕ) (r q : ℕ) → has_rank (gone ++ r ∷ []) q ≡ true → (has_rank gone q ≡ true) ⊎ (r ≡ q)
last-or [] r q h = go (r == q) refl
  where
    go : (b : Bool) → (r == q) ≡ b → (has_rank [] q ≡ true) ⊎ (r ≡ q)
    go true e = inr (eqb-true r q e)
    go false e = absurd (let k : false ≡ true = rw e at h in cc)
last-or (x ∷ gone) r q h = go (x == q) refl (last-or gone r q)
  where
    go : (b : Bool) → (x == q) ≡ b → (has_rank (gone ++ r ∷ []) q ≡ true → (has_rank gone q ≡ true) ⊎ (r ≡ q)) → (has_rank (x ∷ gone) q ≡ true) ⊎ (r ≡ q)
    go true e ih = inl (rw e refl)
    go false e ih = elim (ih (rw e at h)) [ inl k ↦ inl (rw e k) | inr k ↦ inr k ]

-- one more is taken
pub one-taken : (suit : Suit) (cards : List PlayingCard) (ranks : List ℕ) (kept : List PlayingCard) (rest : List ℕ) (i r : ℕ) (after : List ℕ) → IsTaken suit cards ranks kept rest i → rest ≡ r ∷ after → IsRank r
    → IsTaken suit cards ranks (with_card kept (card_of suit r)) after (i + 1)
one-taken suit cards ranks kept rest i r after now first rank = record {
  gone = now.gone ++ r ∷ [];
  parts = now.parts ∙ ap (λ l. now.gone ++ l) first ∙ sym (append_assoc now.gone (r ∷ []) after);
  each = λ q h. elim (last-or now.gone r q h) [ inl k ↦ with-more kept (card_of suit r) now.real (card_of suit q) (now.each q k) | inr k ↦ subst (λ x. has_card (with_card kept (card_of suit r)) (card_of suit x) ≡ true) k here ];
  more = λ c h. with-more kept (card_of suit r) now.real c (now.more c h);
  real = λ c h. real c h;
  many = elim now.many [ inl k ↦ inl (let l = length-append now.gone (r ∷ []) in omega (arith, l, k)) | inr k ↦ absurd (let e : [] ≡ r ∷ after = sym k ∙ first in cc) ];
}
  where
    here : has_card (with_card kept (card_of suit r)) (card_of suit r) ≡ true
    here = has_card-with_card kept (card_of suit r) (card_of suit r) rank ∙ rw (same_card-self (card_of suit r)) refl

    real : (c : PlayingCard) → has_card (with_card kept (card_of suit r)) c ≡ true → IsRank c.rank
    real c h = IsRank-from c.rank (passes (λ d. is_rank d.rank) c deck real_deck (any-filter (λ y. same_card y c) (λ y. same_card y (card_of suit r) || has_card kept y) deck h))

-- where none is left, all are taken
pub all-taken : (suit : Suit) (cards : List PlayingCard) (ranks : List ℕ) (kept : List PlayingCard) (rest : List ℕ) (i : ℕ) (after : List ℕ) → IsTaken suit cards ranks kept rest i → rest ≡ [] → after ≡ [] → IsTaken suit cards ranks kept after (i + 1)
all-taken suit cards ranks kept rest i after now none empty = record { gone = now.gone; parts = now.parts ∙ ap (λ l. now.gone ++ l) (none ∙ sym empty); each = now.each; more = now.more; real = now.real; many = inr empty }

-- those that are gone pass, where each of them does
gone-pass : (test : ℕ → Bool) (gone rest : List ℕ) → ((q : ℕ) → has_rank gone q ≡ true → test q ≡ true) → length gone ≤ length (filter test (gone ++ rest))
gone-pass test [] rest each = zero-le
gone-pass test (x ∷ gone) rest each =
    let ih = gone-pass test gone rest (λ q h. each q (or_right (x == q) (has_rank gone q) h)) in
    let here : test x ≡ true = each x (eq-has x gone) in
    let e : length (filter test (x ∷ gone ++ rest)) ≡ suc (length (filter test (gone ++ rest))) = rw here refl in
    omega (arith, ih, e)
  where
    eq-has : (x : ℕ) (gone : List ℕ) → has_rank (x ∷ gone) x ≡ true
    eq-has x gone = rw (eq-eqb x x refl) refl

-- so the cards have as many of the ranks
pub taken-most : (suit : Suit) (cards : List PlayingCard) (ranks : List ℕ) (kept : List PlayingCard) (rest : List ℕ) (i count : ℕ) → IsTaken suit cards ranks kept rest i → count ≤ i
    → min count (length ranks) ≤ length (filter (λ q. has_card kept (card_of suit q)) ranks)
taken-most suit cards ranks kept rest i count now enough =
    let pass = gone-pass (λ q. has_card kept (card_of suit q)) now.gone rest now.each in
    let same : length (filter (λ q. has_card kept (card_of suit q)) ranks) ≡ length (filter (λ q. has_card kept (card_of suit q)) (now.gone ++ rest)) = ap (λ l. length (filter (λ q. has_card kept (card_of suit q)) l)) now.parts in
    let all : length ranks ≡ length now.gone + length rest = ap length now.parts ∙ length-append now.gone rest in
    elim now.many [ inl k ↦ omega (arith, pass, same, all, k, enough) | inr k ↦ (let none : length rest ≡ 0 = ap length k in omega (arith, pass, same, all, none)) ]
