use Rattle.std.proofs.Common.{◌≡◌, false, sym, true}
use Rattle.dd_book.proofs.Seats.{first_turn-new}
use Rattle.dd_book.proofs.owners.Owners.first_turn.Goals as goal

pub returns-else-is_known : goal.returns-else-is_known
returns-else-is_known c = λ jobs x.
    sym (first_turn-new jobs c.args.self.now.waiting c.args.self.now.last_turns c.args.self.now.turns c.args.owner c.args.claims x
    (λ known. absurd (let e : false ≡ true = c.if-is_known.ensures.1 known in cc)))
