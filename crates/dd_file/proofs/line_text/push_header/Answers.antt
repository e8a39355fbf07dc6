use Rattle.std.proofs.lemmas.Result.{on_ok_weaker}
use Rattle.dd_file.specs.Lines.{after_line, before_line, line_with, table_header}
use Rattle.dd_file.proofs.Joined.{joined3}
use Rattle.dd_file.proofs.line_text.push_header.Goals as goal

pub returns : goal.returns
unfolding line_with
returns c = on_ok_weaker c.end_line.result
    (λ e. joined3 c.args.out.now.items (before_line c.args.ends) table_header (after_line c.args.ends) _ _ _
    c.in_ok-begin_line.ensures c.in_ok-extend_from_slice.ensures.items e) c.end_line.ensures
