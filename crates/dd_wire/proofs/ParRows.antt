-- Lists that are no results, since they have too few elements or too many.
use Rattle.std.proofs.Common.{◌≡◌, ◌<◌, ◌≤◌, refl, arith, List, [], ◌∷◌, length, None}
use Rattle.serde_json.specs.declared.value.Value.{Value}
use Rattle.serde_json.specs.View.{items_view}
use Rattle.dd_wire.specs.ParLines.{row_of, rows_of}

-- four are the results of a strain
pub row_of-short : (values : List Value) → length values < 4 → row_of (items_view values) ≡ None
row_of-short [] h = refl
row_of-short (north ∷ []) h = refl
row_of-short (north ∷ east ∷ []) h = refl
row_of-short (north ∷ east ∷ south ∷ []) h = refl
row_of-short (north ∷ east ∷ south ∷ west ∷ values) h = absurd (omega arith)

pub row_of-long : (values : List Value) → 5 ≤ length values → row_of (items_view values) ≡ None
row_of-long [] h = absurd (omega arith)
row_of-long (north ∷ []) h = absurd (omega arith)
row_of-long (north ∷ east ∷ []) h = absurd (omega arith)
row_of-long (north ∷ east ∷ south ∷ []) h = absurd (omega arith)
row_of-long (north ∷ east ∷ south ∷ west ∷ []) h = absurd (omega arith)
row_of-long (north ∷ east ∷ south ∷ west ∷ other ∷ values) h = refl

-- five of these are a table
pub rows_of-short : (values : List Value) → length values < 5 → rows_of (items_view values) ≡ None
rows_of-short [] h = refl
rows_of-short (spades ∷ []) h = refl
rows_of-short (spades ∷ hearts ∷ []) h = refl
rows_of-short (spades ∷ hearts ∷ diamonds ∷ []) h = refl
rows_of-short (spades ∷ hearts ∷ diamonds ∷ clubs ∷ []) h = refl
rows_of-short (spades ∷ hearts ∷ diamonds ∷ clubs ∷ notrump ∷ values) h = absurd (omega arith)

pub rows_of-long : (values : List Value) → 6 ≤ length values → rows_of (items_view values) ≡ None
rows_of-long [] h = absurd (omega arith)
rows_of-long (spades ∷ []) h = absurd (omega arith)
rows_of-long (spades ∷ hearts ∷ []) h = absurd (omega arith)
rows_of-long (spades ∷ hearts ∷ diamonds ∷ []) h = absurd (omega arith)
rows_of-long (spades ∷ hearts ∷ diamonds ∷ clubs ∷ []) h = absurd (omega arith)
rows_of-long (spades ∷ hearts ∷ diamonds ∷ clubs ∷ notrump ∷ []) h = absurd (omega arith)
rows_of-long (spades ∷ hearts ∷ diamonds ∷ clubs ∷ notrump ∷ other ∷ values) h = refl
