use Rattle.std.proofs.Common.{arith, ◌∙◌, ap, length, sym}
use Rattle.std.specs.Prelude.{filter}
use Rattle.dd_cards.specs.Cards.{is_of}
use Rattle.dd_cards.specs.Hands.{hand_of}
use Rattle.dd_cards.proofs.CallerLemmas.{has_rank-holding}
use Rattle.dd_play.specs.Board.{cards_at}
use Rattle.dd_quick.proofs.GuardedClaims.{guard-at, ranks-above}
use Rattle.dd_quick.proofs.Reached.{length-of}
use Rattle.dd_quick.proofs.guarded_trump.guarded_trump.Goals as goal
use Rattle.dd_rank.proofs.CallerLemmas.{first-there}

pub returns : goal.returns
returns c =
    let p = c.args.position.now in
    let t = c.in-Trump.trump in
    let hands = c.hands-hands.ensures.hands in
    let rank = c.in_ok-best.best in
    let own = c.holding-own.ensures ∙ ap (λ hs. filter (is_of t) (hand_of hs c.args.seat)) hands in
    let before = c.holding.ensures ∙ ap (λ hs. filter (is_of t) (hand_of hs c.right-before.result)) hands ∙ ap (λ x. filter (is_of t) (hand_of p.hands x)) c.right-before.ensures in
    let next = c.holding-2.ensures ∙ ap (λ hs. filter (is_of t) (hand_of hs c.left-left.result)) hands ∙ ap (λ x. filter (is_of t) (hand_of p.hands x)) c.left-left.ensures in
    let partner = c.holding-3.ensures ∙ ap (λ hs. filter (is_of t) (hand_of hs c.partner-partner.result)) hands ∙ ap (λ x. filter (is_of t) (hand_of p.hands x)) c.partner-partner.ensures in
    let long = c.len.ensures.len ∙ length-of t (is_of t) c.holding-own.result (cards_at p c.args.seat) own in
    let over = c.len-over.ensures.len ∙ ap length c.above.ensures in
    let beside = c.len-next.ensures.len ∙ ap length c.above-2.ensures in
    let others = c.len-others.ensures.len ∙ ap length c.above-3.ensures in
    let x = ranks-above p _ t rank c.holding.result before in
    let y = ranks-above p _ t rank c.holding-2.result next in
    let z = ranks-above p _ t rank c.holding-3.result partner in
    let two = c.if-len-lt2.false in
    let one = c.if-over-ne1.false in
    let none = c.if-next-ne0.false in
    let no_more = c.if-others-ne0.false in
    guard-at p c.args.seat t rank c.with_trump.result c.requires.opposes c.requires.start (sym c.strain.ensures ∙ c.in-Trump.is)
    (record {
      mine = sym (has_rank-holding t c.holding-own.result (cards_at p c.args.seat) rank own) ∙ first-there c.holding-own.result rank (sym c.in_ok-best.was ∙ c.highest.ensures);
      two = omega (arith, long, two);
      before = omega (arith, over, x, one);
      next = omega (arith, beside, y, none);
      partner = omega (arith, others, z, no_more);
    }) c.with_trump.ensures.there
