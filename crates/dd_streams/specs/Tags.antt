-- To be believed: which tags are wanted.
use Rattle.std.specs.Prelude.{ℕ, ◌==◌, List, [], ◌∷◌, ◌++◌, true, false, Option, Some, None, codes, option_and_then, if◌then◌else◌}
use Rattle.std.specs.Str.{bytes_eq}
use Rattle.dd_file.specs.declared.wanted.Wanted.{Wanted}

abbrev pub all_tags : Wanted
all_tags = record { tricks = true; score = true; contract = true; table = true }

abbrev pub no_tags : Wanted
no_tags = record { tricks = false; score = false; contract = false; table = false }

-- the tag of this name too, if it is one of the four
abbrev pub with_tag : List ℕ → Wanted → Option Wanted
with_tag name wanted =
    (if bytes_eq name (codes "DoubleDummyTricks") then Some (record wanted { tricks = true })
    else if bytes_eq name (codes "OptimumScore") then Some (record wanted { score = true })
    else if bytes_eq name (codes "ParContract") then Some (record wanted { contract = true })
    else if bytes_eq name (codes "OptimumResultTable") then Some (record wanted { table = true }) else None)

-- The tags of the names that the text still has, of which the first has begun: they are parted by commas.
unfoldable pub named_in : Wanted → List ℕ → List ℕ → Option Wanted
named_in wanted name [] = with_tag name wanted
named_in wanted name (byte ∷ text) =
    (if byte == 44 then option_and_then (λ more. named_in more [] text) (with_tag name wanted) else named_in wanted (name ++ byte ∷ []) text)

-- the tags that a text names; all four, where it is empty
unfoldable pub wanted_by : List ℕ → Option Wanted
wanted_by [] = Some all_tags
wanted_by (byte ∷ text) = named_in no_tags [] (byte ∷ text)
