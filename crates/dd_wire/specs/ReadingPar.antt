-- Reading a line that asks for par, step by step.
use Rattle.dd_wire.specs.declared.par_reader.Given as kept
use Rattle.dd_wire.specs.declared.par_reader.Given.TheVariants as kinds
use Rattle.dd_wire.specs.declared.par_reader.ParFields as kept_fields
use Rattle.dd_wire.specs.ParLines.{Given, results, deal, ParFields}

-- what par is asked of, as the program keeps it
abbrev pub given_of : kept.Given → Given
given_of (kinds.Results rows) = results rows
given_of (kinds.Deal text) = deal text.now

-- and the fields
abbrev pub fields_of : kept_fields.ParFields → ParFields
fields_of fields = record { given = given_of fields.given; first = fields.first; vulnerable = fields.vulnerable }
