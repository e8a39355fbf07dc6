use Rattle.std.specs.Prelude.{codes}
use Rattle.std.proofs.lemmas.Result.{on_ok_weaker}
use Rattle.dd_file.specs.Lines.{after_line, before_line, line_with, contracts_text}
use Rattle.dd_file.proofs.Joined.{joined5}
use Rattle.dd_file.proofs.line_text.push_contracts.Goals as goal

pub returns : goal.returns
unfolding line_with
returns c = on_ok_weaker c.end_line.result
    (λ e. joined5 c.args.out.now.items (before_line c.args.ends) (codes "[ParContract \"") (contracts_text c.args.contracts.now) (codes "\"]") (after_line c.args.ends) _ _ _ _ _
    c.in_ok-begin_line.ensures c.in_ok-extend_from_slice.ensures.items c.in_ok-push_contract_list.ensures c.in_ok-extend_from_slice-2.ensures.items e) c.end_line.ensures
