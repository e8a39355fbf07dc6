use Rattle.std.proofs.Common.{◌≡◌, ◌≤◌, length, subst}
use Rattle.std.specs.Prelude.{filter, map, min, ◌&&◌}
use Rattle.dd_cards.specs.Cards.{is_of, card_of, has_card}
use Rattle.dd_play.specs.Board.{cards_at}
use Rattle.dd_quick.specs.QuickTricks.{is_winner}
use Rattle.dd_quick.proofs.Reached.{winners-reached}
use Rattle.dd_quick.proofs.long_suit.with_winners.Goals as goal

pub returns-clause-winners : goal.returns-clause-winners
returns-clause-winners c =
    let p = c.args.position.now in
    let u = c.args.suit in
    let same = subst (λ x. map (card_of u) c.run.result ≡ filter (λ d. is_of u d && is_winner p x d) (cards_at p x)) c.first.ensures c.run.ensures.cards in
    let most = subst (λ n. min n (length c.run.result) ≤ length (filter (λ q. has_card c.with_highest.result (card_of u q)) c.run.result)) c.min-count.ensures c.with_highest.ensures.most in
    winners-reached p u c.run.result c.with_highest.result (min c.args.tricks c.args.cash.depth) same most
