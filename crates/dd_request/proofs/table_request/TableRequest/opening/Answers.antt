use Rattle.std.proofs.Common.{[], sym, subst}
use Rattle.dd_cards.specs.Hands.{FourHands}
use Rattle.dd_play.specs.Positions.{CanPlay}
use Rattle.dd_play.specs.Board.{board_of}
use Rattle.dd_request.proofs.Openings.{can-open}
use Rattle.dd_request.proofs.table_request.TableRequest.opening.Goals as goal

pub unreachable-requires : goal.unreachable-requires
unreachable-requires c =
    let hands : FourHands = c.self.inside.hands in
    let strain = c.contract_of-strain.result.0 in
    let leader = c.next-leader.result in
    let opened : CanPlay (board_of hands strain leader []) = can-open hands strain leader c.hand.ensures.hands c.self.invariant.0 c.self.invariant.1 in
    let impossible = c.in-Err.ensures.legal.1 (subst (λ (cards : FourHands). CanPlay (board_of cards strain leader [])) (sym c.copy.ensures) opened) in
    cc
