-- To be believed: a value of a game, with what it has from the games before.
use Rattle.std.specs.Prelude.{None, Some, unwrap_or}
use Rattle.dd_file.specs.declared.kept.Kept.{Kept}
use Rattle.dd_file.specs.declared.kept.Told.{Told}
use Rattle.dd_file.specs.declared.kept.Told.TheVariants.{AsBefore, FromHere, Here}

module _ {T : Type 0} where
  -- the value of this game: what its tag told, and where it lacks the tag what the last `##` told
  abbrev pub value_of : Kept T → T
  value_of kept = unwrap_or kept.own kept.lacking

  -- A tag tells a value: `#` is that of the game before, and one behind `##` holds for games that lack the tag too.
  abbrev pub with_value : Told → T → Kept T → Kept T
  with_value AsBefore value kept = record { own = Some kept.before; before = kept.before; lacking = kept.lacking }
  with_value FromHere value kept = record { own = Some value; before = kept.before; lacking = value }
  with_value Here value kept = record { own = Some value; before = kept.before; lacking = kept.lacking }

  -- the game is over
  abbrev pub after_game : Kept T → Kept T
  after_game kept = record { own = None; before = value_of kept; lacking = kept.lacking }
