use Rattle.dd_file.proofs.Staying.{Takes-next}
use Rattle.dd_file.proofs.filler.Filler.take_next.Goals as goal

pub returns-in-Some-clause-takes : goal.returns-in-Some-clause-takes
returns-in-Some-clause-takes c =
    let taken = c.take_byte.ensures in Takes-next _ _ c.args.byte c.args.text.now c.in-Some.rest.now c.requires.plain c.requires.quiet c.in-Some.ensures taken.state taken.mode taken.left taken.wanted
