use Rattle.std.proofs.Common.{◌∙◌, sym, ap}
use Rattle.dd_wire.specs.Reading.{pair_in}
use Rattle.dd_wire.proofs.Pairs.{pairs-none}
use Rattle.dd_wire.proofs.PlayCards.{reads-card}
use Rattle.dd_wire.proofs.play_reader.cards_of.Goals as goal

pub returns-in_err-suit : goal.returns-in_err-suit
returns-in_err-suit c =
    rw c.from_residual.ensures
    (pairs-none c.args.values.now c.loop-value.value-index c.value-item.result c.loop-value-test.true (sym (c.in_err-suit.ensures ∙ ap pair_in c.value-item.is)))

pub loop-value-preserved : goal.loop-value-preserved
loop-value-preserved c =
    reads-card c.args.values.now c.loop-value.value-index c.value-item.result (c.in_ok-suit.suit, c.in_ok-suit.rank) _ _ c.loop-value-test.true c.value-item.is
    (sym c.in_ok-suit.ensures) c.with_pair-cards.ensures c.loop-value.invariant
