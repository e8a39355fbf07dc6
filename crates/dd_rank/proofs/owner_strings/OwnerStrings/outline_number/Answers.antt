use Rattle.std.proofs.Common.{ap, ◌∙◌}
use Rattle.dd_rank.specs.Strings.{mix, outline_number_in}
use Rattle.dd_rank.proofs.Highest.{highest-all}
use Rattle.dd_rank.proofs.owner_strings.OwnerStrings.outline_number.Goals as goal

pub returns : goal.returns
returns c =
    c.outline_number.ensures ∙ ap (mix _) (c.highest.ensures ∙ highest-all c.self.inside.places.odd c.self.inside.places.far) ∙ ap outline_number_in c.self.view_is
