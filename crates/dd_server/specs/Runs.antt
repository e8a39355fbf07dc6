-- To be believed: what is told of runs that follow one another.
use Rattle.std.specs.Prelude.{◌≡◌, ◌<◌, List, [], ◌∷◌, length, All}
use Rattle.dd_book.specs.Limits.{LimitsOf}
use Rattle.dd_desk.specs.Events.{EventOf}
use Rattle.dd_server.specs.Histories.{IsJournalOfRun}
use Rattle.dd_server.specs.declared.terms.Terms.{Terms}

-- runs with these journals were told one after another, each by a step from state to state
abbrev pub AreTold : {S : Type 0} → (S → List EventOf → S → Type 0) → S → List (List EventOf) → S → Type 0
AreTold way before [] after = after ≡ before
AreTold {S} way before (run ∷ runs) after = (between : S) × way before run between × AreTold way between runs after

-- Runs were told one after another, each by the journal with which its desk was closed: a history of these limits and terms. Where
-- all is well, one run was told at least.
pub record TellsEach {S : Type 0} (limits : LimitsOf) (terms : Terms) (way : S → List EventOf → S → Type 0) (before after : S) (well : Type 0) : Type 0 where
  pub runs : List (List EventOf)
  pub left : All (IsJournalOfRun limits terms) runs
  pub told : AreTold way before runs after
  pub some : well → 0 < length runs
