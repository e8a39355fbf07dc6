-- To be believed: the games of a file: where one ends, which tags it has, and what their values are.
use Rattle.std.specs.Prelude.{ℕ, ◌==◌, ◌&&◌, nat_lt, Bool, true, false, List, slice_index_or, slice_set, replicate, Option, Some, None, option_and_then, Err, if◌then◌else◌}
use mathlib.Core.Bool.{not}
use Rattle.dd_cards.specs.declared.seat.Seat.{Seat}
use Rattle.dd_score.specs.declared.vulnerable.Vulnerable.{Vulnerable}
use Rattle.dd_file.specs.declared.fill_state.FillState.{FillState}
use Rattle.dd_file.specs.declared.fill_state.Conditions.{Conditions}
use Rattle.dd_file.specs.declared.kept.Kept.{Kept}
use Rattle.dd_file.specs.declared.known_tag.TheConstants.{CONTRACT, DEAL, DEALER, NAMES, REQUIRED, SCORE, TABLE, TRICKS, VULNERABLE}
use Rattle.dd_file.specs.declared.line_text.LineEnds.{LineEnds}
use Rattle.dd_file.specs.declared.value.Unfit.TheVariants.{NoDeal}
use Rattle.dd_file.specs.declared.wanted.Wanted.{Wanted}
use Rattle.dd_file.specs.Kepts.{value_of, with_value, after_game}
use Rattle.dd_file.specs.KnownTags.{known_number}
use Rattle.dd_file.specs.Marks.{Begins, nothing, empty_line, tag, cut}
use Rattle.dd_file.specs.Values.{deal_value, dealer_value, vulnerable_value, told_in, text_told, unescaped}

-- no tag of the nineteen names
abbrev pub no_names : List Bool
no_names = replicate NAMES false

-- no value yet
abbrev pub never : {T : Type 0} → T → Kept T
never none = record { own = None; before = none; lacking = none }

-- before the first byte
abbrev pub first_state : FillState
first_state =
    record { begun = false; names = no_names; deal = never (Err NoDeal); dealer = never None; vulnerable = never None; last = 0; has_return = false }

-- the number of a name of the fifteen that every game should have
abbrev pub is_required : List ℕ → Option ℕ
is_required name = option_and_then (λ number. if nat_lt number REQUIRED then Some number else None) (known_number name)

-- is a tag of this name there?
abbrev pub has_name : Option ℕ → List Bool → Bool
has_name None names = false
has_name (Some number) names = slice_index_or names number false

-- A game ends before an empty line, and before a tag of the fifteen that it has already.
abbrev pub ends : FillState → Begins → Bool
ends state nothing = false
ends state empty_line = state.begun
ends state (tag is_first length name quoted) = state.begun && has_name (is_required name) state.names
ends state (cut length) = false

-- the game is over
abbrev pub after_end : FillState → FillState
after_end state =
    record {
      begun = false;
      names = no_names;
      deal = after_game state.deal;
      dealer = after_game state.dealer;
      vulnerable = after_game state.vulnerable;
      last = state.last;
      has_return = state.has_return;
    }

-- a tag of this number has this text
abbrev pub with_value_of : ℕ → List ℕ → FillState → FillState
with_value_of number text state =
    (if number == DEAL then record state { deal = with_value (told_in text) (deal_value (text_told (told_in text) text)) state.deal }
    else if number == DEALER then record state { dealer = with_value (told_in text) (dealer_value (text_told (told_in text) text)) state.dealer }
    else if number == VULNERABLE then record state { vulnerable = with_value (told_in text) (vulnerable_value (text_told (told_in text) text)) state.vulnerable }
    else state)

-- the names with one more
abbrev pub marked_name : ℕ → List Bool → List Bool
marked_name number names = slice_set names number true

-- a tag of this number comes, or of a name that doesn't matter
abbrev pub told : Option ℕ → List ℕ → FillState → FillState
told None text state = record state { begun = true }
told (Some number) text state = with_value_of number text (record state { begun = true; names = marked_name number state.names })

-- a tag comes; its string is the value
unfoldable pub with_tag : List ℕ → List ℕ → FillState → FillState
with_tag name quoted state = told (known_number name) (unescaped false quoted) state

-- a byte comes
abbrev pub with_byte : ℕ → FillState → FillState
with_byte byte state = record state { last = byte; has_return = if byte == 10 then state.last == 13 else state.has_return }

-- what begins here comes, with its first byte
abbrev pub with_mark : Begins → FillState → FillState
with_mark nothing state = state
with_mark empty_line state = state
with_mark (tag is_first length name quoted) state = with_tag name quoted state
with_mark (cut length) state = state

abbrev pub next_state : FillState → Begins → ℕ → FillState
next_state state mark byte = with_byte byte (with_mark mark state)

-- of the tags that are wanted those that the game lacks, whatever their values
abbrev pub lacks : Wanted → FillState → Wanted
lacks wanted state =
    record {
      tricks = wanted.tricks && not (slice_index_or state.names TRICKS false);
      score = wanted.score && not (slice_index_or state.names SCORE false);
      contract = wanted.contract && not (slice_index_or state.names CONTRACT false);
      table = wanted.table && not (slice_index_or state.names TABLE false);
    }

-- who calls first and which sides are vulnerable, where both are known
abbrev pub both_known : Option Seat → Option Vulnerable → Option Conditions
both_known None vulnerable = None
both_known (Some dealer) None = None
both_known (Some dealer) (Some vulnerable) = Some (record { dealer = dealer; vulnerable = vulnerable })

abbrev pub conditions_of : FillState → Option Conditions
conditions_of state = both_known (value_of state.dealer) (value_of state.vulnerable)

-- The line end of an added line is that of the last line that has ended, and stands before it where the last line has not ended.
abbrev pub line_ends : FillState → LineEnds
line_ends state = record { has_return = state.has_return; leads = not (state.last == 10) }
