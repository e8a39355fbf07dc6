-- To be believed: what a call for a line leaves in the caller's buffer.
use Rattle.std.specs.Prelude.{◌≡◌, ℕ, ℤ, pos, ◌+◌, ◌<◌, ◌≤◌, ◌⊎◌, ◌≢◌, List, ◌∷◌, ◌++◌, length, drop, All, Contains, None}
use Rattle.dd_lines.specs.Lines.{line_feed}
use Rattle.dd_lines.specs.declared.reply_text.TheConstants.{LONGEST_REPLY}
use Rattle.dd_wire.specs.LineReplies.{IsReply}
use Rattle.ddserve_c.specs.declared.answering.TheConstants.{NO_ROOM, NO_LINE}

-- no line ends within the bytes: they are one line
abbrev pub IsOneLine : List ℕ → Type 0
IsOneLine bytes = All (λ byte. byte ≢ line_feed) bytes

-- The buffer begins with the reply to the line and its NUL, and after these it is as it was. The call returned the reply's
-- length.
pub record Replied (line old new : List ℕ) (result : ℤ) : Type 0 where
  pub text : List ℕ
  pub reply : IsReply ⊥ line text
  pub count : result ≡ pos (length text)
  pub room : length text < length old
  pub buffer : new ≡ text ++ 0 ∷ drop (length text + 1) old

-- the reply to the line and its NUL have more bytes than the buffer, and no more than the longest reply has
pub record HasNoRoom (line old : List ℕ) (result : ℤ) : Type 0 where
  pub text : List ℕ
  pub reply : IsReply ⊥ line text
  pub short : length old ≤ length text
  pub bound : length text ≤ LONGEST_REPLY
  pub told : result ≡ NO_ROOM

-- what the call for a line leaves of the buffer, and what it returns
abbrev pub AnswersLine : List ℕ → List ℕ → List ℕ → ℤ → Type 0
AnswersLine line old new result =
    (IsOneLine line × Replied line old new result)
    ⊎ (IsOneLine line × HasNoRoom line old result × (new ≡ old))
    ⊎ (Contains line line_feed × (result ≡ NO_LINE) × (new ≡ old))
