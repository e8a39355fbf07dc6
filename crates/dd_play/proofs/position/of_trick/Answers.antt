use Rattle.std.proofs.Common.{refl, take}
use Rattle.dd_play.proofs.TrickCards.{set-of-trick}
use Rattle.dd_play.proofs.position.of_trick.Goals as goal

pub returns : goal.returns
returns c =
    set-of-trick c.args.places (take c.args.played c.args.places) c.new.result c.with_if.result c.with_if-2.result c.with_if-3.result c.index-places-0.result c.index-places-1.result c.index-places-2.result c.args.played
    c.new.ensures c.with_if.ensures.cards c.with_if-2.ensures.cards c.with_if-3.ensures.cards c.requires.places c.requires.few c.with_if.ensures.real c.with_if-2.ensures.real c.with_if-3.ensures.real refl
