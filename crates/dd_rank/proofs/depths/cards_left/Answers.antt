use Rattle.std.proofs.Common.{ap, ◌∙◌}
use Rattle.dd_cards.specs.declared.seat.Seat.TheVariants.{North, East, South, West}
use Rattle.dd_cards.specs.Hands.{hand_of}
use Rattle.dd_rank.proofs.Lowest.{union-all}
use Rattle.dd_rank.proofs.depths.cards_left.Goals as goal

pub returns-clause-cards : goal.returns-clause-cards
returns-clause-cards c =
    let h = c.hands-hands.ensures.hands in
    (union-all c.args.position.now c.hand.result c.hand-2.result c.hand-3.result c.hand-4.result c.union.result c.union-2.result c.union-3.result c.hands-hands.ensures.board
    (c.hand.ensures.hand ∙ ap (λ hs. hand_of hs North) h) (c.hand-2.ensures.hand ∙ ap (λ hs. hand_of hs East) h) (c.hand-3.ensures.hand ∙ ap (λ hs. hand_of hs South) h) (c.hand-4.ensures.hand ∙ ap (λ hs. hand_of hs West) h)
    c.union.ensures.cards c.union-2.ensures.cards c.union-3.ensures.cards).1

pub returns-clause-set : goal.returns-clause-set
returns-clause-set c =
    let h = c.hands-hands.ensures.hands in
    (union-all c.args.position.now c.hand.result c.hand-2.result c.hand-3.result c.hand-4.result c.union.result c.union-2.result c.union-3.result c.hands-hands.ensures.board
    (c.hand.ensures.hand ∙ ap (λ hs. hand_of hs North) h) (c.hand-2.ensures.hand ∙ ap (λ hs. hand_of hs East) h) (c.hand-3.ensures.hand ∙ ap (λ hs. hand_of hs South) h) (c.hand-4.ensures.hand ∙ ap (λ hs. hand_of hs West) h)
    c.union.ensures.cards c.union-2.ensures.cards c.union-3.ensures.cards).0
