-- To be believed: the form of the value of a tag Deal, and of the tag (PBN 2.1, tag Deal). A blank is a space or a tab.
use Rattle.std.specs.Prelude.{◌≡◌, ℕ, ◌<◌, ◌==◌, Bool, false, List, [], ◌∷◌, ◌++◌, map, length, codes, is_some, IsTrue, if◌then◌else◌}
use Rattle.std.specs.List.{list_all}
use Rattle.std.specs.Char.{to_ascii_uppercase}
use Rattle.dd_cards.specs.declared.seat.Seat.{Seat}
use Rattle.dd_pbn.specs.Letters.{rank_of, seat_letter, is_blank, AreBlanks}

-- a hand as it is written: the letters of its spades, hearts, diamonds and clubs, or a dash
pub data HandText : Type 0 where
  suits : (spades hearts diamonds clubs : List ℕ) → HandText
  dash : HandText

-- a suit is zero or more ranks, in any order
abbrev pub IsSuit : List ℕ → Type 0
IsSuit letters = IsTrue (list_all (λ letter. is_some (rank_of letter)) letters)

-- a hand is four suits, or a dash
abbrev pub IsHand : HandText → Type 0
IsHand (suits spades hearts diamonds clubs) = IsSuit spades × IsSuit hearts × IsSuit diamonds × IsSuit clubs
IsHand dash = Unit {0}

-- its bytes: the four suits with a point between each two, or the dash
abbrev pub hand_bytes : HandText → List ℕ
hand_bytes (suits spades hearts diamonds clubs) = spades ++ codes "." ++ hearts ++ codes "." ++ diamonds ++ codes "." ++ clubs
hand_bytes dash = codes "-"

-- what a value says: the seat of its letter, and four hands
pub record Value : Type 0 where
  pub first : Seat
  pub hand1 : HandText
  pub hand2 : HandText
  pub hand3 : HandText
  pub hand4 : HandText

-- one or more blanks
abbrev pub IsGap : List ℕ → Type 0
IsGap bytes = AreBlanks bytes × (0 < length bytes)

-- the text is blanks, the letter, a colon, blanks, four hands with a gap between each two, and blanks
pub record IsValue (text : List ℕ) (value : Value) : Type 0 where
  pub letter : ℕ
  pub before : List ℕ
  pub after : List ℕ
  pub gap2 : List ℕ
  pub gap3 : List ℕ
  pub gap4 : List ℕ
  pub trail : List ℕ
  pub form : text ≡ before ++ letter ∷ codes ":" ++ after ++ hand_bytes value.hand1 ++ gap2 ++ hand_bytes value.hand2 ++ gap3 ++ hand_bytes value.hand3 ++ gap4 ++ hand_bytes value.hand4 ++ trail
  pub seat : to_ascii_uppercase letter ≡ seat_letter value.first
  pub hands : IsHand value.hand1 × IsHand value.hand2 × IsHand value.hand3 × IsHand value.hand4
  pub blanks : AreBlanks before × AreBlanks after × AreBlanks trail
  pub gaps : IsGap gap2 × IsGap gap3 × IsGap gap4

-- is the text to be read as a tag: is [ the first byte that is no blank?
abbrev pub begins_tag : List ℕ → Bool
begins_tag [] = false
begins_tag (byte ∷ text) = (if is_blank byte then begins_tag text else byte == 91)

-- the text is the tag Deal with this value: blanks, [, blanks, the name, blanks, a quoted value, blanks, ], and blanks
pub record IsTag (text : List ℕ) (value : Value) : Type 0 where
  pub name : List ℕ
  pub inner : List ℕ
  pub before : List ℕ
  pub before_name : List ℕ
  pub after_name : List ℕ
  pub after_value : List ℕ
  pub after : List ℕ
  pub form : text ≡ before ++ codes "[" ++ before_name ++ name ++ after_name ++ codes "\"" ++ inner ++ codes "\"" ++ after_value ++ codes "]" ++ after
  pub named : map to_ascii_uppercase name ≡ codes "DEAL"
  pub valued : IsValue inner value
  pub blanks : AreBlanks before × AreBlanks before_name × AreBlanks after_name × AreBlanks after_value × AreBlanks after
