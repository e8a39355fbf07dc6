-- A plan of the leader's: what it cashes of each suit, and what its side takes once that is cashed.
use Rattle.std.proofs.Common.{◌≡◌, ℕ, ◌+◌, ◌≤◌, true, refl, []}
use Rattle.dd_cards.specs.declared.suit.Suit.{Suit}
use Rattle.dd_cards.specs.declared.strain.Strain.{Strain}
use Rattle.dd_cards.specs.declared.side.Side.{Side}
use Rattle.dd_cards.specs.PlayingCard.{PlayingCard}
use Rattle.dd_cards.specs.Cards.{has_card}
use Rattle.dd_play.specs.Board.{Board, cards_at}
use Rattle.dd_play.specs.Won.{won}
use Rattle.dd_quick.proofs.Cashing.{Aims, AllLetCash, HasCards, IsLater, IsMaster, cashed-all, total}

-- n cards of each suit can be cashed from the position o on, and then side s takes b more tricks
pub record IsPlan (strain : Strain) (o : Board) (s : Side) (aims : Aims) (n : Suit → ℕ) (b : ℕ) : Type 0 where
  pub masters : (c : PlayingCard) → has_card (cards_at o o.first) c ≡ true → aims.sure c ≡ true → IsMaster o c
  pub begins : IsLater strain aims o s o
  pub cards : HasCards strain aims n o
  pub lets : AllLetCash strain aims n o
  pub beyond : (q : Board) (r : Suit → ℕ) → q.trick ≡ [] → IsLater strain aims o s q → HasCards strain aims r q → AllLetCash strain aims r q → total r ≡ 0 → b ≤ won s q

-- the side takes what is planned
pub planned : (strain : Strain) (o : Board) (s : Side) (aims : Aims) (n : Suit → ℕ) (b : ℕ) → o.trick ≡ [] → IsPlan strain o s aims n b → total n + b ≤ won s o
planned strain o s aims n b start plan = cashed-all (total n) b strain o aims n s o plan.beyond plan.masters refl start plan.begins plan.cards plan.lets
