use Rattle.std.proofs.Common.{◌≡◌, true, subst}
use Rattle.dd_cards.specs.declared.seat.Seat.TheVariants.{North, East, South}
use Rattle.dd_cards.specs.Cards.{has_card}
use Rattle.dd_cards.specs.Hands.{AreDisjoint, hand_of}
use Rattle.dd_cards.proofs.HandLists.{AreDisjoint-masks}
use Rattle.dd_cards.proofs.hands.Hands.holder.Goals as goal

pub returns-then-has-clause-only : goal.returns-then-has-clause-only
returns-then-has-clause-only c = λ other h.
    (let here : has_card (hand_of c.args.self.now North) c.args.card ≡ true = cc in subst AreDisjoint c.self.view_is (AreDisjoint-masks _ c.self.invariant) c.args.card other North h here)

pub returns-then-has-2-clause-only : goal.returns-then-has-2-clause-only
returns-then-has-2-clause-only c = λ other h.
    (let here : has_card (hand_of c.args.self.now East) c.args.card ≡ true = cc in subst AreDisjoint c.self.view_is (AreDisjoint-masks _ c.self.invariant) c.args.card other East h here)

pub returns-then-has-3-clause-only : goal.returns-then-has-3-clause-only
returns-then-has-3-clause-only c = λ other h.
    (let here : has_card (hand_of c.args.self.now South) c.args.card ≡ true = cc in subst AreDisjoint c.self.view_is (AreDisjoint-masks _ c.self.invariant) c.args.card other South h here)
