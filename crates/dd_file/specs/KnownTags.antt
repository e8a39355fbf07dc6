-- To be believed: the names of tags that matter, by their numbers.
use Rattle.std.specs.Prelude.{ℕ, List, codes, Option, Some, None, if◌then◌else◌}
use Rattle.dd_file.specs.Values.{is_word}

-- the first eight of the fifteen tags that every game should have
unfoldable pub first_number : List ℕ → Option ℕ
first_number name =
    (if is_word name (codes "event") then Some 0 else if is_word name (codes "site") then Some 1 else if is_word name (codes "date") then Some 2
    else if is_word name (codes "board") then Some 3 else if is_word name (codes "west") then Some 4 else if is_word name (codes "north") then Some 5
    else if is_word name (codes "east") then Some 6 else if is_word name (codes "south") then Some 7 else None)

-- the other seven
unfoldable pub last_number : List ℕ → Option ℕ
last_number name =
    (if is_word name (codes "dealer") then Some 8 else if is_word name (codes "vulnerable") then Some 9 else if is_word name (codes "deal") then Some 10
    else if is_word name (codes "scoring") then Some 11 else if is_word name (codes "declarer") then Some 12
    else if is_word name (codes "contract") then Some 13 else if is_word name (codes "result") then Some 14 else None)

-- the four that are added
unfoldable pub added_number : List ℕ → Option ℕ
added_number name =
    (if is_word name (codes "doubledummytricks") then Some 15 else if is_word name (codes "optimumscore") then Some 16
    else if is_word name (codes "parcontract") then Some 17 else if is_word name (codes "optimumresulttable") then Some 18 else None)

-- the first that is there
abbrev pub or_else : Option ℕ → Option ℕ → Option ℕ
or_else None other = other
or_else (Some number) other = Some number

-- the number of a name, letters in either case
unfoldable pub known_number : List ℕ → Option ℕ
known_number name = or_else (first_number name) (or_else (last_number name) (added_number name))
