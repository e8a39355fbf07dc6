use Rattle.std.proofs.Common.{◌∙◌, arith}
use Rattle.dd_file.proofs.SmallWords.{other-letter, same-letter}
use Rattle.dd_file.proofs.known_tag.is_small_word.Goals as goal

pub returns-then-name-at : goal.returns-then-name-at
returns-then-name-at c =
    other-letter c.args.name.now c.args.word.now c.loop-at.at (omega arith) (omega arith) c.requires (c.type_inv.name c.loop-at.at).fits c.if-name-at.true ∙ c.loop-at.invariant

pub loop-at-preserved : goal.loop-at-preserved
loop-at-preserved c =
    same-letter c.args.name.now c.args.word.now c.loop-at.at (omega arith) (omega arith) c.requires (c.type_inv.name c.loop-at.at).fits c.if-name-at.false ∙ c.loop-at.invariant
