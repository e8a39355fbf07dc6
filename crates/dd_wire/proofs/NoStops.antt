-- Without leave no line wants a stop.
use Rattle.std.proofs.Common.{◌≡◌, ℕ, List, Bool, true, false, Option, Ok, Err, refl, sym, ap, ◌∙◌}
use Rattle.std.specs.Prelude.{◌&&◌, Result, Some, None, MatchOption, option_map, codes, length, nat_lt, if◌then◌else◌}
use Rattle.std.specs.Str.{bytes_eq}
use Rattle.serde_json.specs.Data.{Members}
use Rattle.serde_json.specs.Find.{get_member}
use Rattle.dd_pbn.specs.Reading.{◌>>=◌}
use Rattle.dd_request.specs.declared.asked.Asked.{Asked}
use Rattle.dd_lines.specs.Line.{longest_line}
use Rattle.dd_wire.specs.declared.fault.Fault.{Fault}
use Rattle.dd_wire.specs.declared.par_request.ParOfResults.{ParOfResults}
use Rattle.dd_wire.specs.declared.session_asked.SessionAsked.{SessionAsked}
use Rattle.dd_wire.specs.declared.session_asked.SessionAsked.TheVariants.{Book, Par, Health}
use Rattle.dd_wire.specs.declared.want.Want.{Want}
use Rattle.dd_wire.specs.declared.want.Want.TheVariants.{Submit, Cancel, Fetch, Stop}
use Rattle.dd_wire.specs.declared.wish.Wish.{Wish}
use Rattle.dd_wire.specs.ExplainedWants.{MeansBareWant, MeansExplained, MeansNamed}
use Rattle.dd_wire.specs.Ids.{id_text, without}
use Rattle.dd_wire.specs.ParLines.{par_fields, table_par_of}
use Rattle.dd_wire.specs.Requests.{asked_as, object_of, text_at, wait_at}
use Rattle.dd_wire.specs.Wants.{MeansOther, MeansUncalled, MeansWant, MeansWanted, asks_health, called, fetch_keys, is_alone, job_keys, named_job, session_call, submitted}
use Rattle.dd_wire.proofs.Meanings.{by-bool}

-- ---- what members stand for

-- of two that are no stop neither is chosen as one
either : (b : Bool) (x y : Option Want) → (x ≡ Some Stop → ⊥) → (y ≡ Some Stop → ⊥) → (if b then x else y) ≡ Some Stop → ⊥
either true x y a c = a
either false x y a c = c

-- what follows a text that is there, and of none nothing
after-text : (text : Option (List ℕ)) (next : List ℕ → Option Want) → ((t : List ℕ) → next t ≡ Some Stop → ⊥) → (text >>= next) ≡ Some Stop → ⊥
after-text None next none e = cc
after-text (Some t) next none e = none t e

-- a call that names a job is no stop
of-job : (call : ℕ → Want) (job : Option ℕ) → ((n : ℕ) → call n ≡ Stop → ⊥) → option_map call job ≡ Some Stop → ⊥
of-job call None other e = cc
of-job call (Some n) other e = other n (let same : call n ≡ Stop = cc in same)

-- without leave the word is not enough
no-leave : (b alone : Bool) → (if b && (false && alone) then Some Stop else None) ≡ Some Stop → ⊥
no-leave true alone e = cc
no-leave false alone e = cc

no-stop-call : (members : Members) → session_call false members ≡ Some Stop → ⊥
no-stop-call members =
    after-text (text_at members (codes "do")) _ (λ task.
    either (bytes_eq task (codes "cancel")) _ _ (of-job Cancel (named_job job_keys members) (λ n e. cc))
    (either (bytes_eq task (codes "fetch")) _ _ (of-job Fetch (named_job fetch_keys members) (λ n e. cc))
    (no-leave (bytes_eq task (codes "stop")) (is_alone members))))

-- what the book is asked for, if it is
abbrev wanted : Result SessionAsked Fault → Option Want
wanted (Ok (Book wish)) = Some wish.want
wanted (Ok (Par par)) = None
wanted (Ok Health) = None
wanted (Err fault) = None

-- of one meaning it is one want
asked-want : (wait : ℕ) (wish : Wish) (want : Want) (a : Result SessionAsked Fault) → a ≡ Ok (Book wish) → a ≡ Ok (called wait want) → want ≡ wish.want
asked-want wait wish want a is_wish is_want = let same : Some want ≡ Some wish.want = ap wanted (sym is_want ∙ is_wish) in cc

-- a request that is submitted is no stop
no-stop-submitted : (wait : ℕ) (wish : Wish) (asked : Result Asked Fault) → Ok (Book wish) ≡ asked_as (submitted wait) asked → wish.want ≡ Stop → ⊥
no-stop-submitted wait wish (Ok asked) e stops = let same : Submit asked ≡ Stop = asked-want wait wish (Submit asked) (Ok (Book wish)) refl e ∙ stops in cc
no-stop-submitted wait wish (Err fault) e stops = cc

-- and par asks the book for nothing
no-stop-par : (wish : Wish) (par : Result ParOfResults Fault) → Ok (Book wish) ≡ asked_as Par par → ⊥
no-stop-par wish (Ok par) e = cc
no-stop-par wish (Err fault) e = cc

-- ---- what a line wants

by-option : {X : Type 0} (o : Option X) (A : Type 0) (B : X → Type 0) → (A → ⊥) → ((x : X) → o ≡ Some x → B x → ⊥) → MatchOption o A B → ⊥
by-option None A B a c = a
by-option (Some x) A B a c = c x refl

no-stop-other : (wait : ℕ) (members : Members) (wish : Wish) → wish.want ≡ Stop → MeansOther wait members (Ok (Book wish)) → ⊥
no-stop-other wait members wish stops =
    by-option (par_fields members) _ _ (λ means. no-stop-submitted wait wish means.0 means.2 stops)
    (λ fields is e. no-stop-par wish (table_par_of fields.given fields) e)

no-stop-uncalled : (wait : ℕ) (members : Members) (wish : Wish) → wish.want ≡ Stop → MeansUncalled wait members (Ok (Book wish)) → ⊥
no-stop-uncalled wait members wish stops = by-bool (asks_health members) _ _ (λ e. cc) (no-stop-other wait members wish stops)

no-stop-members : (wait : ℕ) (members : Members) (wish : Wish) → wish.want ≡ Stop → MeansWanted false wait members (Ok (Book wish)) → ⊥
no-stop-members wait members wish stops =
    by-option (session_call false members) _ _ (no-stop-uncalled wait members wish stops)
    (λ want is same. no-stop-call members (is ∙ ap Some (asked-want wait wish want (Ok (Book wish)) refl same ∙ stops)))

pub no-stop-line : (line : List ℕ) (wish : Wish) → wish.want ≡ Stop → MeansWant false line (Ok (Book wish)) → ⊥
no-stop-line line wish stops =
    by-bool (nat_lt longest_line (length line)) _ _ (λ e. cc)
    (by-option (object_of line) _ _ (λ e. cc) (λ members is.
    by-option (wait_at members) _ _ (λ e. cc) (λ wait waits. no-stop-members wait members wish stops)))

-- nor where the line may have an id
no-stop-bare : (members : Members) (wish : Wish) → wish.want ≡ Stop → MeansBareWant false members (Ok (Book wish)) → ⊥
unfolding MeansBareWant
no-stop-bare members wish stops = by-option (wait_at members) _ _ (λ e. cc) (λ wait waits. no-stop-members wait members wish stops)

no-stop-named : (members : Members) (wish : Wish) → wish.want ≡ Stop → MeansNamed false members (Ok (Book wish)) → ⊥
unfolding MeansNamed
no-stop-named members wish stops =
    by-option (get_member (codes "id") members) _ _ (no-stop-bare members wish stops) (λ value has.
    by-option (id_text value) _ _ (λ e. cc) (λ id is. no-stop-bare (without (codes "id") members) wish stops))

pub no-stop-explained : (line : List ℕ) (wish : Wish) → wish.want ≡ Stop → MeansExplained false line (Ok (Book wish)) → ⊥
unfolding MeansExplained
no-stop-explained line wish stops =
    by-bool (nat_lt longest_line (length line)) _ _ (λ e. cc)
    (by-option (object_of line) _ _ (λ e. cc) (λ members is. no-stop-named members wish stops))
