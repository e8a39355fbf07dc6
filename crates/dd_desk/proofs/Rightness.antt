-- What the answers of a journal are.
use Rattle.std.proofs.Common.{◌≡◌, ℕ, List, [], ◌∷◌, ◌++◌, map, sym, ap, ◌∙◌}
use Rattle.std.specs.Prelude.{All}
use Rattle.std.proofs.lemmas.List.Elements.{All-nil, All-cons}
use Rattle.dd_request.specs.declared.asked.Asked.{Asked}
use Rattle.dd_request.specs.Questions.{SolvedQuestion, solved_question}
use Rattle.dd_request.specs.Results.{HandsResults, hands_results}
use Rattle.dd_request.specs.Targets.{SolvedTargetQuestion, solved_target}
use Rattle.dd_book.specs.declared.call.Call.{Call}
use Rattle.dd_book.specs.declared.call.JobState.{JobState}
use Rattle.dd_book.specs.declared.call.JobState.TheVariants as shown
use Rattle.dd_book.specs.declared.call.Reply.{Reply}
use Rattle.dd_book.specs.declared.call.Reply.TheVariants.{Submitted, Claimed, ClaimedTarget, ClaimedPart, ClaimedPlayPart, NothingWaits, Closing, Recorded, Stale, Cancelled, State, Shut, Fault}
use Rattle.dd_book.specs.Asks.{AllTellOwn, ShowsOwn, TellsOwn, submitted}
use Rattle.dd_desk.specs.Answers.{AnswersAreRight, ShowsRight, TellsRight}
use Rattle.dd_desk.specs.Events.{AnswersAreOwn, EventOf, calls_in, replies_in}
use Rattle.dd_desk.specs.Exact.{AllAreExact, answered_anew, told_anew}
use Rattle.std.proofs.lemmas.List.{map_push}

-- no answer is told by no event
pub exact-none : (es : List EventOf) → es ≡ [] → AllAreExact es
exact-none es none = ap (λ (xs : List EventOf). map told_anew (replies_in xs)) none ∙ sym (ap replies_in none)

-- one event more
pub exact-more : (es es' : List EventOf) (e : EventOf) → es' ≡ es ++ e ∷ [] → AllAreExact es → told_anew e.reply ≡ e.reply → AllAreExact es'
exact-more es es' e now all told =
    let longer = ap replies_in now ∙ map_push (λ (x : EventOf). x.reply) es e in
    ap (map told_anew) longer ∙ map_push told_anew (replies_in es) e.reply ∙ (λ i. all i ++ told i ∷ []) ∙ sym longer

same-solved : (a b : SolvedQuestion) → shown.Done a ≡ shown.Done b → a ≡ b
same-solved a b e = cc

same-table : (a b : HandsResults) → shown.TableDone a ≡ shown.TableDone b → a ≡ b
same-table a b e = cc

same-target : (a b : SolvedTargetQuestion) → shown.TargetDone a ≡ shown.TargetDone b → a ≡ b
same-target a b e = cc

same-state : (number : ℕ) (a b : JobState) → State number a ≡ State number b → a ≡ b
same-state number a b e = cc

pub same-first : (x y : Reply) (xs ys : List Reply) → x ∷ xs ≡ y ∷ ys → (x ≡ y) × (xs ≡ ys)
same-first x y xs ys e = (cc, cc)

-- what is of the job's own request, and exact, is right
shows-right : (asks : List Asked) (number : ℕ) (state : JobState) → ShowsOwn asks number state → answered_anew state ≡ state → ShowsRight asks number state
shows-right asks number shown.Waiting own exact = tt
shows-right asks number shown.Running own exact = tt
shows-right asks number (shown.Done solved) own exact = (own, sym (same-solved (solved_question solved.asked) solved exact))
shows-right asks number (shown.TableDone table) own exact = (own, sym (same-table (hands_results table.hands) table exact))
shows-right asks number (shown.TargetDone solved) own exact = (own, sym (same-target (solved_target solved.asked) solved exact))
shows-right asks number (shown.PlayDone tricks) own exact = own
shows-right asks number shown.Cancelled own exact = tt
shows-right asks number shown.Spent own exact = tt

tells-right : (asks : List Asked) (c : Call) (reply : Reply) → TellsOwn asks c reply → told_anew reply ≡ reply → TellsRight asks reply
tells-right asks c (Submitted number) own exact = tt
tells-right asks c (Claimed number claim question) own exact = tt
tells-right asks c (ClaimedTarget number claim question) own exact = tt
tells-right asks c (ClaimedPart number part claim hands) own exact = tt
tells-right asks c (ClaimedPlayPart number part claim position side) own exact = tt
tells-right asks c NothingWaits own exact = tt
tells-right asks c Closing own exact = tt
tells-right asks c Recorded own exact = tt
tells-right asks c Stale own exact = tt
tells-right asks c (Cancelled number) own exact = tt
tells-right asks c (State number state) own exact = shows-right asks number state own (same-state number (answered_anew state) state exact)
tells-right asks c Shut own exact = tt
tells-right asks c (Fault refusal) own exact = tt

all-right : (asks : List Asked) (es : List EventOf) → AllTellOwn asks (calls_in es) (replies_in es) → AllAreExact es → All (TellsRight asks) (replies_in es)
unfolding AllTellOwn
all-right asks [] own exact = All-nil (TellsRight asks)
all-right asks (e ∷ es) own exact =
    let both = same-first (told_anew e.reply) e.reply (map told_anew (replies_in es)) (replies_in es) exact in
    All-cons (TellsRight asks) e.reply (replies_in es) (tells-right asks e.call e.reply own.0 both.0) (all-right asks es own.1 both.1)

-- the answers of a journal are right that are of what was submitted, and exact
pub right-answers : (es : List EventOf) → AnswersAreOwn es → AllAreExact es → AnswersAreRight es
right-answers es own exact = all-right (submitted (calls_in es) (replies_in es)) es own exact
