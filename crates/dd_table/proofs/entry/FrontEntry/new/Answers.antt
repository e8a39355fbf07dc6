use Rattle.std.proofs.Common.{sym, ◌∙◌}
use Rattle.dd_table.proofs.entry.FrontEntry.new.Goals as goal

pub invariant_of-result : goal.invariant_of-result
invariant_of-result c = rw (c.copy.ensures.same) (
  c.copy-2.ensures ∙ c.requires.strings,
  λ q board alike. c.alike_positions.ensures.turned c.args.start.now q c.position.ensures.board board alike ∙ sym c.requires.value,
)
