use Rattle.std.proofs.Common.{sym, ◌∙◌}
use Rattle.dd_cards.specs.Sides.{side_of}
use Rattle.dd_score.proofs.PointTable.{looked-worth}
use Rattle.dd_score.proofs.WorthLemmas.{theirs, others, fits_turned}
use Rattle.dd_score.proofs.worths.Worths.at.Goals as goal

pub overflow_sub-result : goal.overflow_sub-result
overflow_sub-result c =
    let w = looked-worth c.args.self.now.tricks c.args.self.now.vulnerable c.args.self.now.rows c.args.level c.args.strain c.args.declarer c.code.result c.code-2.result
    c.args.self.now.told c.args.self.now.valid c.code.ensures.value c.code-2.ensures.value c.requires.0 c.requires.1 in
    fits_turned _ w.1 w.2

pub returns-then-is_north_south : goal.returns-then-is_north_south
returns-then-is_north_south c =
    let w = looked-worth c.args.self.now.tricks c.args.self.now.vulnerable c.args.self.now.rows c.args.level c.args.strain c.args.declarer c.code.result c.code-2.result
    c.args.self.now.told c.args.self.now.valid c.code.ensures.value c.code-2.ensures.value c.requires.0 c.requires.1 in
    theirs (side_of c.args.declarer) _ _ (sym c.is_north_south.ensures ∙ c.if-is_north_south.true) w.1 w.2 w.0

pub returns-else-is_north_south : goal.returns-else-is_north_south
returns-else-is_north_south c =
    let w = looked-worth c.args.self.now.tricks c.args.self.now.vulnerable c.args.self.now.rows c.args.level c.args.strain c.args.declarer c.code.result c.code-2.result
    c.args.self.now.told c.args.self.now.valid c.code.ensures.value c.code-2.ensures.value c.requires.0 c.requires.1 in
    others (side_of c.args.declarer) _ _ (sym c.is_north_south.ensures ∙ c.if-is_north_south.false) w.1 w.2 w.0
