use Rattle.std.proofs.Common.{◌≤◌, arith, ◌-◌, ◌∙◌, subst, sym}
use Rattle.dd_cards.specs.Sides.{side_of}
use Rattle.dd_play.specs.Reach.{TakesBy, reach}
use Rattle.dd_quick.specs.QuickTricks.{RestsOnTrumps, joint_trumps}
use Rattle.dd_quick.proofs.Claims.{leader-claim}
use Rattle.dd_quick.proofs.quick_tricks.leaders_cards.Goals as goal

pub returns : goal.returns
returns c =
    let p = c.args.position.now in
    let of = c.args.ours.cashed in
    let n = c.share_out-shares.result in
    let m = c.args.need - c.min-side.result in
    let sum = c.share_out-shares.ensures.sum in
    let need = c.min-side.ensures in
    let side = c.requires.side in
    let few = c.requires.few in
    let trumps = subst (λ x. RestsOnTrumps p.strain p x c.with_trumps.result m) c.first.ensures (c.with_trumps.ensures.trumps (subst (λ x. m ≤ joint_trumps p.strain p x) (sym c.first.ensures) (omega (arith, need, side, few)))) in
    let s = c.offers.ensures.spades ∙ c.requires.spades.0 in
    let h = c.offers.ensures.hearts ∙ c.requires.hearts.0 in
    let d = c.offers.ensures.diamonds ∙ c.requires.diamonds.0 in
    let k = c.offers.ensures.clubs ∙ c.requires.clubs.0 in
    let claim = leader-claim p c.with_shares-cards.result c.with_trumps.result n.spades n.hearts n.diamonds n.clubs m c.requires.start
    (record { tricks = of.spades.tricks; cards_of = of.spades.depth; cash = c.requires.spades; few = (let few = c.share_out-shares.ensures.spades in let same = c.offers.ensures.spades in omega (arith, few, same)); rests = c.with_shares-cards.ensures.spades })
    (record { tricks = of.hearts.tricks; cards_of = of.hearts.depth; cash = c.requires.hearts; few = (let few = c.share_out-shares.ensures.hearts in let same = c.offers.ensures.hearts in omega (arith, few, same)); rests = c.with_shares-cards.ensures.hearts })
    (record { tricks = of.diamonds.tricks; cards_of = of.diamonds.depth; cash = c.requires.diamonds; few = (let few = c.share_out-shares.ensures.diamonds in let same = c.offers.ensures.diamonds in omega (arith, few, same)); rests = c.with_shares-cards.ensures.diamonds })
    (record { tricks = of.clubs.tricks; cards_of = of.clubs.depth; cash = c.requires.clubs; few = (let few = c.share_out-shares.ensures.clubs in let same = c.offers.ensures.clubs in omega (arith, few, same)); rests = c.with_shares-cards.ensures.clubs })
    c.with_trumps.ensures.more
    (omega (arith, sum, need, side)) (omega (arith, need, side, few)) trumps in
    subst (λ n. TakesBy (reach c.with_trumps.result) (side_of p.first) p n) (omega (arith, sum, need, side, few, s, h, d, k)) claim
