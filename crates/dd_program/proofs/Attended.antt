-- What is told of runs, and how the serving of clients ends.
use Rattle.std.proofs.Common.{◌≡◌, ◌∙◌, ◌<◌, ℕ, refl, sym, ap, subst, inl, inr, Bool, true, false, List, [], ◌∷◌, ◌++◌, append_assoc, length}
use Rattle.std.specs.Prelude.{IsOk, Result, Ok, Err}
use Rattle.std.proofs.KnownBytes.{Appends-nil, Appends-trans}
use Rattle.dd_lines.specs.CountedDevices.{FailedOnce}
use Rattle.dd_server.specs.declared.args.ServeFault.{ServeFault}
use Rattle.dd_server.specs.declared.args.ServeFault.TheVariants.{Listen, OutOfMemory as NoMemoryLeft}
use Rattle.dd_desk.specs.Events.{EventOf}
use Rattle.dd_server.specs.Runs.{AreTold}
use Rattle.dd_server.specs.declared.terms.Terms.{Terms}
use Rattle.dd_streams.specs.declared.ending.Ending.{Ending}
use Rattle.dd_streams.specs.declared.ending.Ending.TheVariants.{WriteFailed}
use Rattle.dd_program.specs.Endings.{AreRuns, EndsSo, ServesUntil, TellingOf, TellsNext, TellsRun, TellsText, closed_text, closed_texts, listening_text}
use Rattle.dd_streams.specs.Endings.{Device, Writes, WritesAll, WritesBeginning, line_of, streams}

-- ---- texts, one after another

-- a text told whole, and then another
whole-more : (a b : List ℕ) (old mid new : Device) → WritesAll a old mid → WritesAll b mid new → WritesAll (a ++ b) old new
whole-more a b old mid new one other = (Appends-trans old.bytes mid.bytes new.bytes a b one.0 other.0, other.1 ∙ one.1)

-- a text told whole, and then a beginning of another
begun-after : (a b : List ℕ) (old mid new : Device) → WritesAll a old mid → WritesBeginning b mid new → WritesBeginning (a ++ b) old new
begun-after a b old mid new one other = (
  record {
    written = a ++ other.0.written;
    unwritten = other.0.unwritten;
    split = ap (λ l. a ++ l) other.0.split ∙ sym (append_assoc a other.0.written other.0.unwritten);
    appended = Appends-trans old.bytes mid.bytes new.bytes a other.0.written one.0 other.0.appended;
  },
  subst (λ f. FailedOnce f new.failures) one.1 other.1,
)

-- a beginning of the first of two texts
begun-more : (a b : List ℕ) (old new : Device) → WritesBeginning a old new → WritesBeginning (a ++ b) old new
begun-more a b old new begun = (
  record {
    written = begun.0.written;
    unwritten = begun.0.unwritten ++ b;
    split = ap (λ l. l ++ b) begun.0.split ∙ append_assoc begun.0.written begun.0.unwritten b;
    appended = begun.0.appended;
  },
  begun.1,
)

-- a text told whole, and then another as far as the device took it
text-more : (a b : List ℕ) (failed : Bool) (old mid new : Device) → WritesAll a old mid → TellsText b failed mid new → TellsText (a ++ b) failed old new
text-more a b false old mid new one other = whole-more a b old mid new one other
text-more a b true old mid new one other = begun-after a b old mid new one other

-- ---- runs

module _ {S : Type 0} (way : S → List EventOf → S → Type 0) where
  -- the references stay
  pub told-references : (runs : List (List EventOf)) (before after : TellingOf S) → AreTold (TellsRun way) before runs after → after.references ≡ before.references
  told-references [] before after is = ap (λ (t : TellingOf S). t.references) is
  told-references (run ∷ runs) before after (between, step, told) = told-references runs between after told ∙ step.0

  -- who watches was told of the same runs
  pub told-watcher : (runs : List (List EventOf)) (before after : TellingOf S) → AreTold (TellsRun way) before runs after → AreTold way before.watcher runs after.watcher
  told-watcher [] before after is = ap (λ (t : TellingOf S). t.watcher) is
  told-watcher (run ∷ runs) before after (between, step, told) = (between.watcher, step.1, told-watcher runs between after told)

  -- after a failed write nothing is told
  told-nothing : (runs : List (List EventOf)) (before after : TellingOf S) → before.has_failed ≡ true → AreTold (TellsRun way) before runs after
      → (after.output ≡ before.output) × (after.has_failed ≡ before.has_failed)
  told-nothing [] before after failed is = (ap (λ (t : TellingOf S). t.output) is, ap (λ (t : TellingOf S). t.has_failed) is)
  told-nothing (run ∷ runs) before after failed (between, step, told) =
      let same : (between.output ≡ before.output) × (between.has_failed ≡ before.has_failed) = subst (λ b. TellsNext b run before between) failed step.2 in
      let later = told-nothing runs between after (same.1 ∙ failed) told in
      (later.0 ∙ same.0, later.1 ∙ same.1)

  -- the lines of runs were told, up to where a write failed
  pub told-runs : (runs : List (List EventOf)) (before after : TellingOf S) → before.has_failed ≡ false → AreTold (TellsRun way) before runs after
      → TellsText (closed_texts runs) after.has_failed before.output after.output
  told-runs [] before after fresh is =
      subst (λ (t : TellingOf S). TellsText [] t.has_failed before.output t.output) (sym is)
      (subst (λ b. TellsText [] b before.output before.output) (sym fresh) (Appends-nil before.output.bytes, refl))
  told-runs (run ∷ runs) before after fresh (between, step, told) =
      go between.has_failed refl (subst (λ b. TellsNext b run before between) fresh step.2) (λ is. told-runs runs between after is told)
    where
      go : (b : Bool) → between.has_failed ≡ b → TellsText (closed_text (length run)) between.has_failed before.output between.output
          → (between.has_failed ≡ false → TellsText (closed_texts runs) after.has_failed between.output after.output)
          → TellsText (closed_text (length run) ++ closed_texts runs) after.has_failed before.output after.output
      go true is here later =
          let begun : WritesBeginning (closed_text (length run)) before.output between.output = subst (λ f. TellsText (closed_text (length run)) f before.output between.output) is here in
          let both = begun-more (closed_text (length run)) (closed_texts runs) before.output between.output begun in
          let none = told-nothing runs between after is told in
          subst (λ f. TellsText (closed_text (length run) ++ closed_texts runs) f before.output after.output) (sym (none.1 ∙ is))
          (subst (λ o. WritesBeginning (closed_text (length run) ++ closed_texts runs) before.output o) (sym none.0) both)
      go false is here later =
          let whole : WritesAll (closed_text (length run)) before.output between.output = subst (λ f. TellsText (closed_text (length run)) f before.output between.output) is here in
          text-more (closed_text (length run)) (closed_texts runs) after.has_failed before.output between.output after.output whole (later is)

-- ---- the end

as-writes : (text : List ℕ) (failed : Bool) (old new : Device) → TellsText text failed old new → Writes text old new
as-writes text false old new told = inl told
as-writes text true old new told = inr told

-- so the serving ends, after the address was told
pub ends-so : {S : Type 0} (way : S → List EventOf → S → Type 0) (watcher watcher2 : S) (terms : Terms) (events : ℕ) (address : List ℕ) (runs : List (List EventOf))
    (input before output output2 errors errors2 : Device) (result : Result (Unit {0}) ServeFault) (failed : Bool) (ending : Ending)
    → WritesAll (listening_text address) before output → AreRuns terms events runs → (IsOk result → 0 < length runs) → AreTold way watcher runs watcher2
    → TellsText (closed_texts runs) failed output output2 → EndsSo result failed errors errors2 ending
    → ServesUntil way watcher watcher2 terms events (streams input before errors) (streams input output2 errors2) ending
ends-so way watcher watcher2 terms events address runs input before output output2 errors errors2 (Ok done) false ending listens are_runs some watched told (is, same) =
    subst (ServesUntil way watcher watcher2 terms events (streams input before errors) (streams input output2 errors2)) (sym is)
    (record { input = refl; address = address; between = output; listens = listens; runs = runs; are_runs = are_runs; some = some refl; closes = told; watched = watched; errors = same })
ends-so way watcher watcher2 terms events address runs input before output output2 errors errors2 (Ok done) true ending listens are_runs some watched told (is, said) =
    subst (ServesUntil way watcher watcher2 terms events (streams input before errors) (streams input output2 errors2)) (sym is)
    (record { input = refl; output = inr (address, output, listens, runs, are_runs, watched, told); said = said })
ends-so way watcher watcher2 terms events address runs input before output output2 errors errors2 (Err Listen) failed ending listens are_runs some watched told (is, said) =
    subst (ServesUntil way watcher watcher2 terms events (streams input before errors) (streams input output2 errors2)) (sym is)
    (record { input = refl; output = inr (address, output, listens, runs, are_runs, watched, as-writes (closed_texts runs) failed output output2 told); said = said })
ends-so way watcher watcher2 terms events address runs input before output output2 errors errors2 (Err NoMemoryLeft) failed ending listens are_runs some watched told (is, said) =
    subst (ServesUntil way watcher watcher2 terms events (streams input before errors) (streams input output2 errors2)) (sym is)
    (record { input = refl; output = inr (address, output, listens, runs, are_runs, watched, as-writes (closed_texts runs) failed output output2 told); said = said })

-- what is known of who watches and of the output in the end, by other names
pub carried : {S : Type 0} (way : S → List EventOf → S → Type 0) (watcher seen seen2 : S) (terms : Terms) (events : ℕ) (input before output output2 errors errors2 : Device) (ending : Ending)
    → seen ≡ seen2 → output ≡ output2 → ServesUntil way watcher seen terms events (streams input before errors) (streams input output errors2) ending
    → ServesUntil way watcher seen2 terms events (streams input before errors) (streams input output2 errors2) ending
carried way watcher seen seen2 terms events input before output output2 errors errors2 ending same is serves =
    subst (λ w. ServesUntil way watcher w terms events (streams input before errors) (streams input output2 errors2) ending) same
    (subst (λ o. ServesUntil way watcher seen terms events (streams input before errors) (streams input o errors2) ending) is serves)

-- the address could not be told whole
pub untold-start : {S : Type 0} (way : S → List EventOf → S → Type 0) (watcher : S) (terms : Terms) (events : ℕ) (address line : List ℕ) (input before output errors errors2 : Device) (ending : Ending)
    → line ≡ listening_text address → ending ≡ WriteFailed → WritesBeginning line before output → Writes (line_of WriteFailed) errors errors2
    → ServesUntil way watcher watcher terms events (streams input before errors) (streams input output errors2) ending
untold-start way watcher terms events address line input before output errors errors2 ending line-is ending-is begins said =
    subst (ServesUntil way watcher watcher terms events (streams input before errors) (streams input output errors2)) (sym ending-is)
    (record { input = refl; output = inl (refl, (address, subst (λ l. WritesBeginning l before output) line-is begins)); said = said })
