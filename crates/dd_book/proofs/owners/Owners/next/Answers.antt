use Rattle.std.proofs.Common.{◌∙◌, ap, sym, ℕ}
use Rattle.std.specs.Prelude.{option_map}
use Rattle.dd_book.proofs.Seats.{due-is}
use Rattle.dd_book.proofs.owners.Owners.next.Goals as goal

pub returns-in-Some : goal.returns-in-Some
returns-in-Some c = λ jobs x. ap (option_map (λ (e : ℕ × ℕ). e.1)) (sym c.in-Some.is) ∙ due-is jobs c.args.self.now.waiting c.args.self.now.last_turns c.args.self.now.turns c.first.result x c.first.ensures

pub returns-in-None : goal.returns-in-None
returns-in-None c = λ jobs x. ap (option_map (λ (e : ℕ × ℕ). e.1)) (sym c.in-None.is) ∙ due-is jobs c.args.self.now.waiting c.args.self.now.last_turns c.args.self.now.turns c.first.result x c.first.ensures
