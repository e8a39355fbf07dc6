-- the pack, and the gaps that a position's cards leave in it
use Rattle.std.proofs.Common.{◌≡◌, ℕ, zero, suc, ◌%◌, ◌<◌, ◌⊎◌, Bool, true, false, refl, sym, ap, ◌∙◌, arith, inl, inr, List, [], eq-eqb}
use Rattle.std.specs.Prelude.{filter, ◌==◌, ◌&&◌, ◌||◌, nat_le}
use mathlib.Core.Bool.{not}
use Rattle.std.specs.Int.{bit_at}
use Rattle.std.proofs.lemmas.Bool.{cases_lt, leb-true, or_left, or_right, or_cases, not-true}
use Rattle.std.proofs.lemmas.Bool.Decides.{eqb_tells}
use Rattle.std.proofs.lemmas.Nat.Bits.{bit_at_above}
use Rattle.dd_cards.specs.PlayingCard.{PlayingCard}
use Rattle.dd_cards.specs.Ranks.{IsRank}
use Rattle.dd_cards.specs.Cards.{deck, has_card}
use Rattle.dd_cards.specs.HandMasks.{IsHandMask, cards_of}
use Rattle.dd_cards.proofs.CallerLemmas.{IsSet-deck, IsSet-filter, and-left, and-right, has_card-deck, has_card-filter, real-set, times-set}
use Rattle.dd_play.specs.Board.{Board, IsBoard}
use Rattle.dd_play.proofs.CallerLemmas.{card-real}
use Rattle.dd_rank.specs.Depths.{all_cards}
use Rattle.dd_relative.specs.Gapped.{stands, IsGapped}
use Rattle.dd_rank.proofs.CallerLemmas.{all-in}

-- do all numbers below n pass?
all_below : (ℕ → Bool) → ℕ → Bool
all_below p zero = true
all_below p (suc n) = p n && all_below p n

all_below-at : (p : ℕ → Bool) (n i : ℕ) → all_below p n ≡ true → i < n → p i ≡ true
unfolding all_below
all_below-at p zero i all h = absurd (omega (arith, h))
all_below-at p (suc n) i all h = elim (eqb_tells i n) [
  | inl same ↦ ap p same.1 ∙ and-left (p n) (all_below p n) all
  | inr other ↦ all_below-at p n i (and-right (p n) (all_below p n) all) (let o = other.1 in omega (arith, o, h))
]

-- is a bit clear, or that of a card?
is_fit : ℕ → Bool
is_fit i = not (bit_at 9222386859403673596 i == 1) || (nat_le 2 (i % 16) && nat_le (i % 16) 14)

every-fit : all_below is_fit 64 ≡ true
unfolding all_below is_fit
every-fit = refl

-- only bits of cards are set
pub pack-mask : IsHandMask 9222386859403673596
unfolding is_fit
pack-mask i set = elim (cases_lt i 64) [
  | inl low ↦ (
      let yes : (bit_at 9222386859403673596 i == 1) ≡ true = eq-eqb _ _ set in
      let fit : is_fit i ≡ true = all_below-at is_fit 64 i every-fit low in
      let both : (nat_le 2 (i % 16) && nat_le (i % 16) 14) ≡ true = rw yes at fit in
      (low, leb-true 2 (i % 16) (and-left _ _ both), leb-true (i % 16) 14 (and-right _ _ both)))
  | inr high ↦ absurd (let z : bit_at 9222386859403673596 i ≡ 0 = bit_at_above 9222386859403673596 64 i (omega arith) high in omega (arith, z, set))
]

-- .. and those of all
pub pack-cards : cards_of 9222386859403673596 ≡ deck
unfolding cards_of deck Rattle.dd_cards.specs.Cards.suit_cards Rattle.dd_cards.specs.Ranks.all_ranks Rattle.dd_cards.specs.Ranks.lowest_ranks
pack-cards = refl

-- the cards that are in no hand are gaps
pub pack-gaps : (p : Board) (left : List PlayingCard) → IsBoard p → p.trick ≡ [] → ((c : PlayingCard) → IsRank c.rank → has_card left c ≡ has_card (all_cards p) c) → IsGapped p (filter (λ c. not (has_card left c)) deck)
pack-gaps p left valid start same = record {
  board = valid;
  start = start;
  once = λ c. times-set (filter (λ x. not (has_card left x)) deck) c (IsSet-filter (λ x. not (has_card left x)) deck IsSet-deck);
  real = gap-real;
  apart = λ c h. sym (same c (gap-real c h)) ∙ not-true _ (and-left _ _ (sym (has_card-filter (λ x. not (has_card left x)) deck c) ∙ h));
  closed = λ c d h suits less most. (
      let low = (stands-real c (or_cases _ _ h)).0 in
      there d (omega (arith, low, less), most) (has_card left d) refl);
}
  where
    gap-real : (c : PlayingCard) → has_card (filter (λ x. not (has_card left x)) deck) c ≡ true → IsRank c.rank
    gap-real c h = real-set (filter (λ x. not (has_card left x)) deck) c (IsSet-filter (λ x. not (has_card left x)) deck IsSet-deck) h

    stands-real : (c : PlayingCard) → (has_card (all_cards p) c ≡ true) ⊎ (has_card (filter (λ x. not (has_card left x)) deck) c ≡ true) → IsRank c.rank
    stands-real c (inl card) = (let x = all-in p c card in card-real p x.0 c valid x.1)
    stands-real c (inr gap) = gap-real c gap

    there : (d : PlayingCard) → IsRank d.rank → (b : Bool) → has_card left d ≡ b → stands p (filter (λ x. not (has_card left x)) deck) d ≡ true
    there d real true e = or_left _ _ (sym (same d real) ∙ e)
    there d real false e = or_right _ _ (has_card-filter (λ x. not (has_card left x)) deck d ∙ rw e (has_card-deck d real))
