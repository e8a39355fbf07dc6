-- the ranks of a suit that are left, and the holders of their cards
use Rattle.std.proofs.Common.{◌≡◌, ℕ, zero, suc, ◌+◌, ◌<◌, ◌≤◌, true, refl, sym, ap, ◌∙◌, arith, List, Option, None, Some, inl, inr}
use Rattle.std.specs.Prelude.{map, filter, is_some}
use Rattle.std.proofs.lemmas.Bool.Decides.{eqb_tells}
use Rattle.dd_cards.specs.declared.seat.Seat.{Seat}
use Rattle.dd_cards.specs.declared.suit.Suit.{Suit}
use Rattle.dd_cards.specs.PlayingCard.{PlayingCard}
use Rattle.dd_cards.specs.Ranks.{IsRank, lowest_ranks, all_ranks}
use Rattle.dd_cards.specs.Cards.{has_card, card_of, suit_cards}
use Rattle.dd_play.specs.Board.{Board, IsBoard, cards_at}
use Rattle.dd_play.proofs.CallerLemmas.{card-real}
use Rattle.dd_rank.specs.Owners.{holder, owners}
use Rattle.dd_rank.proofs.Falling.{Has, Falls, has-part, part-has, part-falls}
use Rattle.dd_rank.proofs.Holders.{holder-has, only-holder, board-disjoint, kept-map, by-ranks}

-- ---- the ranks
-- the lowest ranks are below their bound
lowest-below : (k r : ℕ) → Has r (lowest_ranks k) → r < k + 2
unfolding lowest_ranks
lowest-below zero r has = absurd has
lowest-below (suc k) r has = elim has [ inl e ↦ omega (arith, e) | inr later ↦ (let h = lowest-below k r later in omega (arith, h)) ]

-- .. and fall
lowest-falls : (k : ℕ) → Falls (lowest_ranks k)
unfolding lowest_ranks
lowest-falls zero = tt
lowest-falls (suc k) = (lowest-below k, lowest-falls k)

-- .. and so do all ranks
pub ranks-fall : Falls all_ranks
unfolding all_ranks
ranks-fall = lowest-falls 13

-- each rank from 2 on below the bound is among them
lowest-has : (k r : ℕ) → 2 ≤ r → r < k + 2 → Has r (lowest_ranks k)
unfolding lowest_ranks
lowest-has zero r low high = absurd (omega (arith, low, high))
lowest-has (suc k) r low high = elim (eqb_tells (k + 2) r) [ inl e ↦ inl e.1 | inr e ↦ inr (lowest-has k r low (omega (arith, high, e.1))) ]

-- ---- the ranks of a suit that are left
-- the holder of the suit's card of a rank
abbrev pub holder_at : Board → Suit → ℕ → Option Seat
holder_at p u r = holder p.hands (card_of u r)

-- the ranks of the suit's cards that some hand has, from the highest down
unfoldable pub ranks_left : Board → Suit → List ℕ
ranks_left p u = filter (λ r. is_some (holder_at p u r)) all_ranks

-- they fall
pub left-falls : (p : Board) (u : Suit) → Falls (ranks_left p u)
unfolding ranks_left
left-falls p u = part-falls (λ r. is_some (holder_at p u r)) all_ranks ranks-fall

-- their holders are the suit's owners
pub left-owners : (p : Board) (u : Suit) → map (holder_at p u) (ranks_left p u) ≡ map Some (owners p u)
unfolding ranks_left suit_cards
left-owners p u = kept-map (holder_at p u) all_ranks ∙ ap (map Some) (sym (by-ranks (holder p.hands) u all_ranks))

-- ---- the holder at a legal state of play
-- who has the card is its holder
pub has-holder : (p : Board) → IsBoard p → (s : Seat) (c : PlayingCard) → has_card (cards_at p s) c ≡ true → holder p.hands c ≡ Some s
has-holder p valid s c h = only-holder p.hands c s h (λ t k. board-disjoint p valid c t s k h)

-- the rank of a card that a hand has is left
pub has-left : (p : Board) → IsBoard p → (s : Seat) (c : PlayingCard) → has_card (cards_at p s) c ≡ true → Has c.rank (ranks_left p c.suit)
unfolding ranks_left all_ranks
has-left p valid s c h =
    let real : IsRank c.rank = card-real p s c valid h in
    part-has (λ r. is_some (holder_at p c.suit r)) (lowest_ranks 13) c.rank (lowest-has 13 c.rank real.0 (let k = real.1 in omega (arith, k))) (ap is_some (has-holder p valid s c h))

-- some hand has the card of a rank that is left
pub left-has : (p : Board) (u : Suit) (r : ℕ) → Has r (ranks_left p u) → (s : Seat) × (has_card (cards_at p s) (card_of u r) ≡ true)
unfolding ranks_left
left-has p u r has = go (holder_at p u r) refl (has-part (λ r. is_some (holder_at p u r)) all_ranks r has).0
  where
    go : (o : Option Seat) → holder_at p u r ≡ o → is_some o ≡ true → (s : Seat) × (has_card (cards_at p s) (card_of u r) ≡ true)
    go None e some = absurd (cc)
    go (Some s) e some = (s, holder-has p.hands (card_of u r) s e)
