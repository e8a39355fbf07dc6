-- What one run sees of steps of many.
use Rattle.std.proofs.Common.{◌≡◌, ℕ, Bool, true, false, nat_eq, if◌then◌else◌, refl, sym, ap, subst, List, [], ◌∷◌, ◌++◌}
use Rattle.std.proofs.lemmas.Bool.Decides.{Decides-eqb}
use Rattle.dd_book.specs.declared.call.Call.{Call}
use Rattle.dd_book.specs.declared.call.Reply.{Reply}
use Rattle.dd_runs.specs.Worlds.{Places, World}
use Rattle.dd_runs.specs.Steps.{Does, IsAllowed, Step, call}
use Rattle.dd_runs.specs.Runs.{Headline, Leads, WorldLaw}
use Rattle.dd_runs.specs.ManyRuns.{Worlds, RunStep, RunsLaw, DoesIn, LeadsIn, at_book, at_table, seen_by, world_of}

-- a call of some run, as this run sees it, before steps that it sees
seen-call : (at : Places) (us vs : Worlds) (own run k : ℕ) (c : Call) (reply : Reply) (rest : List Step) (w : World)
    → IsAllowed at (call k c reply) → DoesIn at us (at_book own k c reply) vs → Leads at (world_of vs run) rest w
    → (b : Bool) → nat_eq own run ≡ b → Leads at (world_of us run) (if b then call k c reply ∷ rest else rest) w
unfolding Leads
seen-call at us vs own run k c reply rest w allowed does later true is =
    let same : own ≡ run = (Decides-eqb own run).0 is in
    (world_of vs run, allowed, subst (λ r. Does at (world_of us r) (call k c reply) (world_of vs r)) same does.0, later)
seen-call at us vs own run k c reply rest w allowed does later false is =
    subst (λ (v : World). Leads at v rest w) (does.1 run is) later

-- what one run sees leads from its world to its world
pub seen-leads : (at : Places) (run : ℕ) (us : Worlds) (ss : List RunStep) (ws : Worlds) → LeadsIn at us ss ws
    → Leads at (world_of us run) (seen_by run ss) (world_of ws run)
unfolding Leads LeadsIn seen_by
seen-leads at run us [] ws is = ap (λ (v : Worlds). world_of v run) is
seen-leads at run us (at_book own k c reply ∷ ss) ws (vs, allowed, does, later) =
    seen-call at us vs own run k c reply (seen_by run ss) (world_of ws run) allowed does (seen-leads at run vs ss ws later) (nat_eq own run) refl
seen-leads at run us (at_table s ∷ ss) ws (vs, allowed, does, later) =
    (world_of vs run, allowed, does.1 run, seen-leads at run vs ss ws later)

-- a step that comes first, or does not
either-append : (b : Bool) (s : Step) (all ss rest : List Step) → all ≡ ss ++ rest → (if b then s ∷ all else all) ≡ (if b then s ∷ ss else ss) ++ rest
either-append true s all ss rest is = ap (λ l. s ∷ l) is
either-append false s all ss rest is = is

-- what a run sees of steps, one list after another
seen-append : (run : ℕ) (first rest : List RunStep) → seen_by run (first ++ rest) ≡ seen_by run first ++ seen_by run rest
unfolding seen_by
seen-append run [] rest = refl
seen-append run (at_book own k c reply ∷ ss) rest = either-append (nat_eq own run) (call k c reply) (seen_by run (ss ++ rest)) (seen_by run ss) (seen_by run rest) (seen-append run ss rest)
seen-append run (at_table s ∷ ss) rest = ap (λ l. s ∷ l) (seen-append run ss rest)

-- the law of one run, for each of many
pub runs-law : WorldLaw → RunsLaw
runs-law law limits at start us ws first rest empty to_us to_ws run =
    let told = law (limits run) at (world_of start run) (world_of us run) (world_of ws run) (seen_by run first) (seen_by run rest) (empty run) (seen-leads at run start first us to_us) (seen-leads at run us rest ws to_ws) in
    (subst (λ (l : List Step). Headline (limits run) l (world_of ws run)) (sym (seen-append run first rest)) told.0, told.1)
