use Rattle.std.proofs.Common.{◌≡◌, ◌++◌, ◌∷◌, take}
use Rattle.std.specs.List.{flat_map}
use Rattle.dd_file.specs.Lines.{contract_text}
use Rattle.dd_file.proofs.line_text.push_more_contracts.Given as goal

-- those so far stand there
abbrev pub invariant-loop-contract : goal.invariant-loop-contract
invariant-loop-contract l = l.out.items ≡ l.initial.out.items ++ flat_map (λ c. 59 ∷ 32 ∷ contract_text c) (take l.contract-index l.contracts)
