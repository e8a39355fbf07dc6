-- What is kept of a run, and how what is told of runs grows by one run.
use Rattle.std.proofs.Common.{◌≡◌, refl, subst, arith, zero, suc, List, [], ◌∷◌, ◌++◌, length-append}
use Rattle.std.specs.Prelude.{All}
use Rattle.std.proofs.lemmas.List.Elements.{All-append}
use Rattle.dd_book.specs.Limits.{LimitsOf}
use Rattle.dd_desk.specs.Events.{EventOf}
use Rattle.dd_desk.specs.Receipts.{PassOf}
use Rattle.dd_server.specs.Callers.{AreCallers}
use Rattle.dd_server.specs.Histories.{IsHistory, IsJournalOfRun, IsKept}
use Rattle.dd_server.specs.Runs.{AreTold, TellsEach}
use Rattle.dd_server.specs.declared.terms.Terms.{Terms}

-- what is kept of a desk of the run's limits and terms that was closed with this journal and these passes
pub kept_of : (limits others : LimitsOf) (terms asked : Terms) (made_of : List EventOf → Type 0) (journal : List EventOf) (passes : List PassOf) → others ≡ limits → asked ≡ terms
    → IsHistory others journal passes → AreCallers others asked passes → made_of journal → IsKept limits terms made_of
kept_of limits others terms asked made_of journal passes same_limits same_terms history callers made = (
  journal,
  record {
    passes = passes;
    history = subst (λ (l : LimitsOf). IsHistory l journal passes) same_limits history;
    callers = subst (λ (t : Terms). AreCallers limits t passes) same_terms (subst (λ (l : LimitsOf). AreCallers l asked passes) same_limits callers);
  },
  made,
)

-- what was told, and then one run more
told-more : {S : Type 0} (way : S → List EventOf → S → Type 0) (before between after : S) (runs : List (List EventOf)) (run : List EventOf) → AreTold way before runs between
    → way between run after → AreTold way before (runs ++ run ∷ []) after
told-more way before between after [] run is step = (after, subst (λ b. way b run after) is step, refl)
told-more way before between after (r ∷ runs) run (next, first, told) step = (next, first, told-more way next between after runs run told step)

all-one : (P : List EventOf → Type 0) (run : List EventOf) → P run → All P (run ∷ [])
all-one P run here zero d below = here
all-one P run here (suc k) d below = absurd (omega arith)

-- one run more was told
pub one-more : {S : Type 0} (limits : LimitsOf) (terms : Terms) (way : S → List EventOf → S → Type 0) (before between after : S) (well later : Type 0)
    → TellsEach limits terms way before between well → IsKept limits terms (λ run. way between run after) → TellsEach limits terms way before after later
one-more limits terms way before between after well later each (run, left, step) = record {
  runs = each.runs ++ run ∷ [];
  left = All-append (IsJournalOfRun limits terms) each.runs (run ∷ []) each.left (all-one (IsJournalOfRun limits terms) run left);
  told = told-more way before between after each.runs run each.told step;
  some = λ w. rw (length-append each.runs (run ∷ [])) (omega arith);
}
