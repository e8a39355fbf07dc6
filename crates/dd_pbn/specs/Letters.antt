-- To be believed: the bytes of a deal's text (PBN 2.1, tag Deal), letters in either case.
use Rattle.std.specs.Prelude.{ℕ, ◌-◌, ◌==◌, ◌||◌, Bool, List, find, slice_index, codes, Option, IsTrue}
use Rattle.std.specs.List.{list_all}
use Rattle.std.specs.Char.{to_ascii_uppercase}
use Rattle.dd_cards.specs.declared.seat.Seat.{Seat}
use Rattle.dd_cards.specs.Seats.{seat_code}
use Rattle.dd_cards.specs.Ranks.{all_ranks}

-- the letter of a rank: 2 to 9, T for ten, J, Q, K, A
abbrev pub letter_of : ℕ → ℕ
letter_of rank = slice_index (codes "23456789TJQKA") (rank - 2)

-- the letter of a seat: N, E, S, W
abbrev pub seat_letter : Seat → ℕ
seat_letter seat = slice_index (codes "NESW") (seat_code seat)

-- the rank that a byte stands for, in either case
unfoldable pub rank_of : ℕ → Option ℕ
rank_of byte = find (λ rank. letter_of rank == to_ascii_uppercase byte) all_ranks

-- is it a space or a tab?
abbrev pub is_blank : ℕ → Bool
is_blank byte = (byte == 32) || (byte == 9)

-- zero or more blanks
abbrev pub AreBlanks : List ℕ → Type 0
AreBlanks bytes = IsTrue (list_all is_blank bytes)
