use Rattle.std.proofs.Common.{ap, ◌∙◌}
use Rattle.std.specs.Prelude.{filter, ◌||◌}
use Rattle.dd_cards.specs.Cards.{is_of}
use Rattle.dd_cards.specs.Hands.{hand_of}
use Rattle.dd_cards.specs.Ranks.{has_rank}
use Rattle.dd_quick.proofs.Sequences.{held-by, ranks-of}
use Rattle.dd_quick.proofs.TrumpRanks.{side-ranks, side-real}
use Rattle.dd_quick.proofs.joint_trumps.of_side.Goals as goal

pub returns-clause-from : goal.returns-clause-from
returns-clause-from c =
    let p = c.args.position.now in
    let s = c.args.suit in
    let hands = c.hands-hands.ensures.hands in
    side-ranks p c.args.seat s c.holding.result c.holding-2.result c.union.result c.hands-hands.ensures.board
    (c.holding.ensures ∙ ap (λ hs. filter (is_of s) (hand_of hs c.args.seat)) hands)
    (c.holding-2.ensures ∙ ap (λ hs. filter (is_of s) (hand_of hs c.partner-partner.result)) hands ∙ ap (λ x. filter (is_of s) (hand_of p.hands x)) c.partner-partner.ensures)
    c.union.ensures

pub returns-clause-real : goal.returns-clause-real
returns-clause-real c = side-real c.holding.result c.holding-2.result c.union.result c.union.ensures

pub returns-clause-ranks : goal.returns-clause-ranks
returns-clause-ranks c = ranks-of (λ q. has_rank c.holding.result q || has_rank c.holding-2.result q) c.union.result c.union.ensures

pub returns-clause-held : goal.returns-clause-held
returns-clause-held c =
    let p = c.args.position.now in
    let s = c.args.suit in
    let hands = c.hands-hands.ensures.hands in
    held-by p c.args.seat _ s c.holding.result c.holding-2.result c.union.result
    (c.holding.ensures ∙ ap (λ hs. filter (is_of s) (hand_of hs c.args.seat)) hands)
    (c.holding-2.ensures ∙ ap (λ hs. filter (is_of s) (hand_of hs c.partner-partner.result)) hands ∙ ap (λ x. filter (is_of s) (hand_of p.hands x)) c.partner-partner.ensures)
    c.union.ensures
