use Rattle.std.proofs.Common.{arith, ◌≤◌, ◌-◌, subst, sym}
use Rattle.dd_cards.specs.Sides.{side_of}
use Rattle.dd_play.specs.Reach.{TakesBy, reach}
use Rattle.dd_quick.specs.QuickTricks.{RestsOnTrumps, joint_trumps}
use Rattle.dd_quick.specs.Sharing.{shares}
use Rattle.dd_quick.proofs.Claims.{leader-sure}
use Rattle.dd_quick.proofs.SecondHand.{second-claim}
use Rattle.dd_quick.proofs.second_hand.winners_of.Goals as goal

pub returns : goal.returns
returns c = λ p led ready same.
    let o = c.args.before.now in
    let of = c.args.sure.cashed in
    let n = c.share_out_from-shares.result in
    let m = c.args.need - c.min-side.result in
    let cards = c.with_shares-cards.result in
    let sum = c.share_out_from-shares.ensures.sum in
    let need = c.min-side.ensures in
    let side = c.requires.side in
    let few = c.requires.few in
    let trumps = subst (λ x. RestsOnTrumps o.strain o x c.with_trumps.result m) c.first.ensures (c.with_trumps.ensures.trumps (subst (λ x. m ≤ joint_trumps o.strain o x) (sym c.first.ensures) (omega (arith, need, side, few)))) in
    let s = c.requires.spades.0 in
    let h = c.requires.hearts.0 in
    let d = c.requires.diamonds.0 in
    let k = c.requires.clubs.0 in
    let sure = leader-sure o cards c.with_trumps.result n.spades n.hearts n.diamonds n.clubs m c.requires.start
    (record { tricks = of.spades.tricks; cards_of = of.spades.depth; cash = c.requires.spades; few = c.share_out_from-shares.ensures.spades; rests = c.with_shares-cards.ensures.spades })
    (record { tricks = of.hearts.tricks; cards_of = of.hearts.depth; cash = c.requires.hearts; few = c.share_out_from-shares.ensures.hearts; rests = c.with_shares-cards.ensures.hearts })
    (record { tricks = of.diamonds.tricks; cards_of = of.diamonds.depth; cash = c.requires.diamonds; few = c.share_out_from-shares.ensures.diamonds; rests = c.with_shares-cards.ensures.diamonds })
    (record { tricks = of.clubs.tricks; cards_of = of.clubs.depth; cash = c.requires.clubs; few = c.share_out_from-shares.ensures.clubs; rests = c.with_shares-cards.ensures.clubs })
    c.with_trumps.ensures.more
    (omega (arith, sum, need, side)) (omega (arith, need, side, few)) trumps in
    let first = subst (λ u. 1 ≤ shares n.spades n.hearts n.diamonds n.clubs u) (sym same) c.share_out_from-shares.ensures.first in
    let claim = second-claim p led o c.with_trumps.result (shares n.spades n.hearts n.diamonds n.clubs) m ready sure first in
    subst (λ n. TakesBy (reach c.with_trumps.result) (side_of o.first) p n) (omega (arith, sum, need, side, few, s, h, d, k)) claim
