use Rattle.std.proofs.Common.{◌∙◌, Bool, List, ℕ, take, sym, ap, arith}
use Rattle.std.specs.Prelude.{if◌then◌else◌}
use Rattle.dd_file.specs.declared.told_texts.TheConstants.{TOLD_BYTES}
use Rattle.dd_file.specs.Notes.{board_of}
use Rattle.dd_file.proofs.Staying.{take-of-take}
use Rattle.dd_file.proofs.filler.Filler.note_plain_board.Goals as goal

pub returns-in_ok-self-clause-told : goal.returns-in_ok-self-clause-told
returns-in_ok-self-clause-told c =
    ap (λ (l : List ℕ). take TOLD_BYTES l) (c.in_ok-self.ensures.items ∙ c.told_front.ensures.text) ∙ take-of-take TOLD_BYTES TOLD_BYTES c.args.text.now (omega arith)
    ∙ ap (λ (b : Bool). if b then take TOLD_BYTES c.args.text.now else board_of c.args.self.now) (sym c.if-is_board.true ∙ c.is_board.ensures)
