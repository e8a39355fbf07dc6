-- the cards of a trick as a set, each put in where its place is played
use Rattle.std.proofs.Common.{◌≡◌, ℕ, zero, suc, ◌≤◌, Bool, true, false, refl, sym, ap, ◌∙◌, subst, arith, List, [], ◌∷◌, length, take, get_or, inl, inr}
use Rattle.std.proofs.lemmas.List.{length-take-le}
use Rattle.std.specs.Prelude.{◌||◌, nat_lt, if◌then◌else◌}
use Rattle.dd_cards.specs.PlayingCard.{PlayingCard}
use Rattle.dd_cards.specs.Ranks.{IsRank}
use Rattle.dd_cards.specs.Cards.{same_card, has_card, with_card, deck}
use Rattle.dd_cards.proofs.CallerLemmas.{both-ways, has_card-with_card, real-set, same_card-eq, IsSet-deck, IsSet-filter, same_card-swap}
use Rattle.std.proofs.lemmas.Bool.{or_cases}

-- each of these is a card of the pack
abbrev AreReal : List PlayingCard → Type 0
AreReal cards = (c : PlayingCard) → has_card cards c ≡ true → IsRank c.rank

real-with : (cards : List PlayingCard) (x : PlayingCard) → AreReal (with_card cards x)
real-with cards x c h = real-set (with_card cards x) c (IsSet-filter (λ d. same_card d x || has_card cards d) deck IsSet-deck) h

-- with a real card, that card and those before
with-has : (cards : List PlayingCard) (x d : PlayingCard) → AreReal cards → IsRank x.rank → has_card (with_card cards x) d ≡ (same_card x d || has_card cards d)
with-has cards x d real rank = both-ways _ _ (λ h. sym (is (real-with cards x d h)) ∙ h) (λ h. is (card h) ∙ h)
  where
    is : IsRank d.rank → has_card (with_card cards x) d ≡ (same_card x d || has_card cards d)
    is r = has_card-with_card cards x d r ∙ ap (λ b. b || has_card cards d) (same_card-swap d x)

    card : (same_card x d || has_card cards d) ≡ true → IsRank d.rank
    card h = elim (or_cases (same_card x d) (has_card cards d) h) [
      | inl same ↦ subst (λ (y : PlayingCard). IsRank y.rank) (same_card-eq x d same) rank
      | inr before ↦ real d before
    ]

-- the set with a card where it is wanted
abbrev put : List PlayingCard → PlayingCard → Bool → List PlayingCard
put cards x wanted = (if wanted then with_card cards x else cards)

-- the cards of the places that are played
played-cards : (a b c : PlayingCard) (n : ℕ) → n ≤ 3 → IsRank a.rank → IsRank b.rank → IsRank c.rank
    → (d : PlayingCard) → has_card (put (put (put [] a (nat_lt 0 n)) b (nat_lt 1 n)) c (nat_lt 2 n)) d ≡ has_card (take n (a ∷ b ∷ c ∷ [])) d
played-cards a b c zero h ra rb rc d = refl
played-cards a b c (suc zero) h ra rb rc d = with-has [] a d (λ x e. absurd (cc)) ra
played-cards a b c (suc (suc zero)) h ra rb rc d =
    with-has (with_card [] a) b d (real-with [] a) rb ∙ ap (λ x. same_card b d || x) (with-has [] a d (λ x e. absurd (cc)) ra) ∙ turn (same_card a d) (same_card b d)
  where
    turn : (x y : Bool) → (y || (x || false)) ≡ (x || (y || false))
    turn true true = refl
    turn true false = refl
    turn false true = refl
    turn false false = refl
played-cards a b c (suc (suc (suc zero))) h ra rb rc d =
    with-has (with_card (with_card [] a) b) c d (real-with (with_card [] a) b) rc
    ∙ ap (λ x. same_card c d || x) (with-has (with_card [] a) b d (real-with [] a) rb ∙ ap (λ x. same_card b d || x) (with-has [] a d (λ x e. absurd (cc)) ra))
    ∙ turn (same_card a d) (same_card b d) (same_card c d)
  where
    turn : (x y z : Bool) → (z || (y || (x || false))) ≡ (x || (y || (z || false)))
    turn true true true = refl
    turn true true false = refl
    turn true false true = refl
    turn true false false = refl
    turn false true true = refl
    turn false true false = refl
    turn false false true = refl
    turn false false false = refl
played-cards a b c (suc (suc (suc (suc n)))) h ra rb rc d = absurd (omega (arith, h))

-- three places are their cards
three-places : (trick : List PlayingCard) (a b c : PlayingCard) → length trick ≡ 3 → trick ≡ get_or trick 0 a ∷ get_or trick 1 b ∷ get_or trick 2 c ∷ []
three-places [] a b c l = absurd (omega (arith, l))
three-places (u ∷ []) a b c l = absurd (omega (arith, l))
three-places (u ∷ v ∷ []) a b c l = absurd (omega (arith, l))
three-places (u ∷ v ∷ w ∷ []) a b c l = refl
three-places (u ∷ v ∷ w ∷ z ∷ t) a b c l = absurd (omega (arith, l))

-- from what the code has
pub set-of-trick : (t trick w x y z : List PlayingCard) (a b c : PlayingCard) (n : ℕ) → w ≡ [] → x ≡ put w (get_or t 0 a) (nat_lt 0 n) → y ≡ put x (get_or t 1 b) (nat_lt 1 n) → z ≡ put y (get_or t 2 c) (nat_lt 2 n)
    → length t ≡ 3 → n ≤ 3 → IsRank (get_or t 0 a).rank → IsRank (get_or t 1 b).rank → IsRank (get_or t 2 c).rank → take n t ≡ trick → (d : PlayingCard) → has_card z d ≡ has_card trick d
set-of-trick t trick w x y z a b c n ew ex ey ez three most ra rb rc is d =
    let one : x ≡ put [] (get_or t 0 a) (nat_lt 0 n) = ex ∙ ap (λ l. put l (get_or t 0 a) (nat_lt 0 n)) ew in
    let two = ey ∙ ap (λ l. put l (get_or t 1 b) (nat_lt 1 n)) one in
    ap (λ l. has_card l d) (ez ∙ ap (λ l. put l (get_or t 2 c) (nat_lt 2 n)) two)
    ∙ played-cards (get_or t 0 a) (get_or t 1 b) (get_or t 2 c) n most ra rb rc d
    ∙ ap (λ l. has_card l d) (ap (take n) (sym (three-places t a b c three)) ∙ is)

-- as many places are played as cards lie on the trick
pub lie-number : (t trick : List PlayingCard) (n k : ℕ) → take n t ≡ trick → length t ≡ 3 → n ≤ 3 → length trick ≡ k → n ≡ k
lie-number t trick n k is three most lie = sym (length-take-le n t (omega (arith, three, most))) ∙ ap length is ∙ lie
