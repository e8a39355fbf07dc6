use Rattle.std.proofs.Common.{refl}
use Rattle.json.specs.Lex.{fresh}
use Rattle.dd_wire.proofs.UsualValues.{array-is, if-some, items-end}
use Rattle.dd_wire.proofs.usual_reader.read_played.Goals as goal

pub returns-in-Some : goal.returns-in-Some
returns-in-Some c = rw c.none.ensures (array-is c.in_ok-inside.ensures (items-end fresh refl c.in-Some.ensures))

pub returns-in-None : goal.returns-in-None
returns-in-None c = if-some _ _ _ c.read_cards.ensures (λ found are. array-is c.in_ok-inside.ensures are)
