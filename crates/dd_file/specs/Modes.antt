-- To be believed: where the bytes of a file stand: in comments, in strings, in escaped lines, or outside of all of them. It is read from left to right.
use Rattle.std.specs.Prelude.{ℕ, ◌==◌, ◌||◌, Bool, if◌then◌else◌}
use Rattle.dd_file.specs.declared.mode.Mode.{Mode}
use Rattle.dd_file.specs.declared.mode.Mode.TheVariants.{Head, Mark1, Mark2, Start, Plain, Escaped, Remark, Braced, Quoted, Backslash}

-- a blank is a space, a tab, a vertical tab, a form feed or a carriage return
abbrev pub is_blank : ℕ → Bool
is_blank byte = (((byte == 32 || byte == 9) || byte == 11) || byte == 12) || byte == 13

-- Outside, a line feed ends the line, a semicolon begins a comment that ends with its line, an opening brace one that ends at the next closing
-- brace, and a quote a string.
abbrev pub outside_mode : ℕ → Mode
outside_mode byte = (if byte == 10 then Start else if byte == 59 then Remark else if byte == 123 then Braced else if byte == 34 then Quoted else Plain)

-- Where the byte after this one stands. First in a line `%` begins an escaped line. A string ends at the next quote that no backslash stands before,
-- or with its line. A byte-order mark at the head of the file is passed over: a line begins behind it.
abbrev pub next_mode : Mode → ℕ → Mode
next_mode Head byte = (if byte == 239 then Mark1 else if byte == 37 then Escaped else outside_mode byte)
next_mode Mark1 byte = (if byte == 187 then Mark2 else outside_mode byte)
next_mode Mark2 byte = (if byte == 191 then Start else outside_mode byte)
next_mode Start byte = (if byte == 37 then Escaped else outside_mode byte)
next_mode Plain byte = outside_mode byte
next_mode Escaped byte = (if byte == 10 then Start else Escaped)
next_mode Remark byte = (if byte == 10 then Start else Remark)
next_mode Braced byte = (if byte == 125 then Plain else Braced)
next_mode Quoted byte = (if byte == 34 then Plain else if byte == 92 then Backslash else if byte == 10 then Start else Quoted)
next_mode Backslash byte = (if byte == 10 then Start else Quoted)
