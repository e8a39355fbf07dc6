-- what a table tells, and what it is told, by cards that are reached
use Rattle.std.proofs.Common.{◌≡◌, ℕ, ◌+◌, ◌-◌, ◌≤◌, true, arith, List, []}
use Rattle.dd_cards.specs.declared.suit.Suit.{Suit}
use Rattle.dd_cards.specs.PlayingCard.{PlayingCard}
use Rattle.dd_cards.specs.Ranks.{IsRank}
use Rattle.dd_cards.specs.Cards.{has_card}
use Rattle.dd_cards.specs.Sides.{side_of, other_side}
use Rattle.dd_play.specs.Board.{Board, IsBoard, tricks_left}
use Rattle.dd_play.specs.Value.{leaders_tricks}
use Rattle.dd_play.specs.Won.{won}
use Rattle.dd_play.specs.Reach.{reach, TakesBy}
use Rattle.dd_play.proofs.CallerLemmas.{all, leaders_tricks-won, reach-some, reach-upward}
use Rattle.dd_rank.specs.Depths.{Covers, depths_of}
use Rattle.dd_rank.proofs.Covered.{IsLifted}
use Rattle.dd_rank.proofs.Looked.{covers-less, by-looked, by-looked'}
use Rattle.dd_rank.proofs.Chains.{covers-chain}
use Rattle.dd_rank.proofs.Sound.{same-left, sound-lead}
use Rattle.std.proofs.lemmas.Bool.{false_from_ne_true}

-- cards of the pack are reached by none that is lower than all ranks
pub lifted-reach : (cards : List PlayingCard) → ((c : PlayingCard) → has_card cards c ≡ true → IsRank c.rank) → IsLifted (reach cards)
lifted-reach cards real = (reach-upward cards, λ u. false_from_ne_true _ (λ h. let d = reach-some cards (record { suit = u; rank = 0 }) h in let low = d.3 in let r = (real d.0 d.1).0 in omega (arith, low, r)))

-- bounds that hold of each position that p covers at depths are claims by cards of no smaller depths
pub told : (cards : List PlayingCard) (depths : Suit → ℕ) (p : Board) (lo hi : ℕ) → ((c : PlayingCard) → has_card cards c ≡ true → IsRank c.rank) → p.trick ≡ [] → ((u : Suit) → depths u ≤ depths_of (reach cards) p u)
    → ((q : Board) → IsBoard q → Covers p depths q → (lo ≤ leaders_tricks q) × (leaders_tricks q ≤ hi)) → TakesBy (reach cards) (side_of p.first) p lo × TakesBy (reach cards) (other_side (side_of p.first)) p (tricks_left p - hi)
told cards depths p lo hi real start enough each = (
  by-looked (reach cards) depths p lo (lifted-reach cards real) start enough (λ k q good a.
      let h = (each q good (k, a)).0 in
      let e : leaders_tricks q ≡ won (side_of q.first) q = leaders_tricks-won q in
      omega (arith, h, e)),
  by-looked' (reach cards) depths p (tricks_left p - hi) (lifted-reach cards real) start enough (λ k q good a.
      let h = (each q good (k, a)).1 in
      let e : leaders_tricks q ≡ won (side_of q.first) q = leaders_tricks-won q in
      let both : won (side_of q.first) q + won (other_side (side_of q.first)) q ≡ tricks_left q = all (side_of q.first) q good in
      let lefts : tricks_left q ≡ tricks_left p = same-left k depths p q a in
      omega (arith, h, e, both, lefts)),
)

-- what both sides claim by cards holds of each position that p covers at no smaller depths
pub noted : (cards : List PlayingCard) (depths : Suit → ℕ) (p : Board) (lo hi : ℕ) → ((c : PlayingCard) → has_card cards c ≡ true → IsRank c.rank) → IsBoard p → ((u : Suit) → depths_of (reach cards) p u ≤ depths u)
    → TakesBy (reach cards) (side_of p.first) p lo → TakesBy (reach cards) (other_side (side_of p.first)) p (tricks_left p - hi)
    → (q : Board) → IsBoard q → Covers p depths q → (lo ≤ leaders_tricks q) × (leaders_tricks q ≤ hi)
noted cards depths p lo hi real good_p enough low high q good_q a =
    sound-lead (reach cards) a.0 p q lo hi (lifted-reach cards real) good_p good_q low high (covers-less a.0 (depths_of (reach cards) p) depths p q enough a.1)

-- a cover of a cover
pub chained : (depths : Suit → ℕ) (p q r : Board) → Covers p depths q → Covers q depths r → Covers p depths r
chained depths p q r a b = (a.0 + b.0, covers-chain depths a.0 b.0 p q r a.1 b.1)
