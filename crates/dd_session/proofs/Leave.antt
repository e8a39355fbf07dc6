-- Without leave no line wants a stop, so the port is asked for none.
use Rattle.std.proofs.Common.{◌≡◌, ℕ, List, [], ◌∷◌, ◌++◌, Bool, true, false, true≢false, Option, Ok, Err, inl, inr, sym, ap, ◌∙◌, subst, append_assoc}
use Rattle.std.specs.Prelude.{Result, Some, None, MatchOption, OnOk, OnErr}
use Rattle.std.specs.Bool.{MatchBool}
use Rattle.std.proofs.lemmas.Bool.{cases_Bool}
use Rattle.dd_request.specs.declared.asked.Asked.{Asked}
use Rattle.dd_book.specs.declared.call.Reply.{Reply}
use Rattle.dd_desk.specs.declared.fault.DeskFault.{DeskFault}
use Rattle.dd_wire.specs.declared.want.Want.{Want}
use Rattle.dd_wire.specs.declared.want.Want.TheVariants.{Submit, Stop}
use Rattle.dd_wire.specs.declared.wish.Wish.{Wish}
use Rattle.dd_wire.specs.declared.session_asked.SessionAsked.TheVariants as asked
use Rattle.dd_wire.specs.ExplainedWants.{MeansExplained}
use Rattle.dd_wire.specs.Wants.{MeansWant}
use Rattle.dd_wire.proofs.CallerLemmas.{no-stop-explained, no-stop-line}
use Rattle.dd_session.specs.declared.manner.Manner.{Manner}
use Rattle.dd_session.specs.Manners.{MeansIn}
use Rattle.dd_session.specs.Leaving.{GivesUp, JobSight, Leaves, own_jobs}
use Rattle.dd_session.specs.Ports.{AreNoStops, AsksNoStop, PortOf, Exchange}
use Rattle.dd_session.specs.Serving.{EndsInTime, Says, SaysAfter, SaysEnd, SaysOne, SaysState, awaited, new_job}
use Rattle.dd_session.specs.Served.{AreServed, IsServed, ServedAll, ServedBeginning}
use Rattle.dd_session.specs.Sockets.{ServesMessages}

-- ---- what was told for a line

one-no-stop : (want : Want) (said : Result Reply DeskFault) (news : List Exchange) (refused : ℕ) → (want ≡ Stop → ⊥) → SaysOne want said news refused → AreNoStops news
one-no-stop want (Ok reply) news refused none (is, count) = subst AreNoStops (sym is) (none, tt)
one-no-stop want (Err fault) news refused none (of_call, is, count) = subst AreNoStops (sym is) tt

state-no-stop : (wait : ℕ) (asked : Asked) (made : Reply) (job : ℕ) (said : Result Reply DeskFault) (news : List Exchange) (refused : ℕ) → SaysState wait asked made job said news refused → AreNoStops news
state-no-stop wait asked made job said news refused (inl (state, says, ends, is, count)) = subst AreNoStops (sym is) (λ e. cc, (λ e. cc, tt))
state-no-stop wait asked made job said news refused (inr (fault, of_call, says, is, count)) = subst AreNoStops (sym is) (λ e. cc, tt)

after-no-stop : (wait : ℕ) (asked : Asked) (first said : Result Reply DeskFault) (news : List Exchange) (refused : ℕ) → SaysAfter wait asked first said news refused → AreNoStops news
after-no-stop wait asked (Err fault) said news refused (is, one) = one-no-stop (Submit asked) (Err fault) news refused (λ e. cc) one
after-no-stop wait asked (Ok made) said news refused says = go (new_job made) says
  where
    go : (job : Option ℕ) → MatchOption job ((said ≡ Ok made) × SaysOne (Submit asked) (Ok made) news refused) (λ j. SaysState wait asked made j said news refused) → AreNoStops news
    go None (is, one) = one-no-stop (Submit asked) (Ok made) news refused (λ e. cc) one
    go (Some job) state = state-no-stop wait asked made job said news refused state

says-no-stop : (wish : Wish) (said : Result Reply DeskFault) (news : List Exchange) (refused : ℕ) → (wish.want ≡ Stop → ⊥) → Says wish said news refused → AreNoStops news
says-no-stop wish said news refused none says = go (awaited wish.wait wish.want) says
  where
    go : (asked : Option Asked) → MatchOption asked (SaysOne wish.want said news refused × EndsInTime wish.wait wish.want said) (λ a. SaysEnd wish.wait a said news refused) → AreNoStops news
    go None (one, ends) = one-no-stop wish.want said news refused none one
    go (Some asked) (first, after) = after-no-stop wish.wait asked first said news refused after

-- ---- what was told

both-no-stops : (news later : List Exchange) → AreNoStops news → AreNoStops later → AreNoStops (news ++ later)
both-no-stops [] later none more = more
both-no-stops (told ∷ news) later (none, rest) more = (none, both-no-stops news later rest more)

-- explained or not, a line wants no stop without leave
no-stop-by : (explain : Bool) (line : List ℕ) (wish : Wish) → wish.want ≡ Stop
    → MatchBool explain (MeansExplained false line (Ok (asked.Book wish))) (MeansWant false line (Ok (asked.Book wish))) → ⊥
no-stop-by true line wish stops means = no-stop-explained line wish stops means
no-stop-by false line wish stops means = no-stop-line line wish stops means

no-stop-in : (manner : Manner) (line : List ℕ) (wish : Wish) → manner.allow_stop ≡ false → wish.want ≡ Stop → MeansIn manner line (Ok (asked.Book wish)) → ⊥
no-stop-in manner line wish without stops means =
    no-stop-by manner.explain line wish stops
    (subst (λ (leave : Bool). MatchBool manner.explain (MeansExplained leave line (Ok (asked.Book wish))) (MeansWant leave line (Ok (asked.Book wish)))) without means)

no-stops : (manner : Manner) (lines : List (List ℕ)) (bytes : List ℕ) (told : List Exchange) (refused : ℕ) → manner.allow_stop ≡ false → AreServed manner lines bytes told refused → AreNoStops told
no-stops manner [] bytes told refused without (no_bytes, none, no_refusals) = subst AreNoStops (sym none) tt
no-stops manner (line ∷ rest) bytes told refused without (text, more, split, way) =
    elim way [
      | inl (tells, later) ↦ no-stops manner rest more told refused without later
      | inr other ↦ elim other [
        | inl (par, means, is, later) ↦ no-stops manner rest more told refused without later
        | inr further ↦ elim further [
          | inl (health, means, is, later) ↦ no-stops manner rest more told refused without later
          | inr (wish, said, news, later, here, others, means, says, is, tells, refuses, replies) ↦ subst AreNoStops (sym tells)
              (both-no-stops news later (says-no-stop wish said news here (λ stops. no-stop-in manner line wish without stops means) says) (no-stops manner rest more later others without replies))
        ]
      ]
    ]

-- ---- what a session asked for

served-no-stop : (manner : Manner) (before after : PortOf) (lines : List (List ℕ)) (bytes : List ℕ) → manner.allow_stop ≡ false → IsServed manner before lines bytes after → AsksNoStop before.told after.told
served-no-stop manner before after lines bytes without served =
    record {
      gained = served.told;
      told = ap (λ (p : PortOf). p.told) served.gained;
      no_stops = no-stops manner lines bytes served.told served.refused without served.replies;
    }

-- over lines, however the session ended
pub lines-no-stop : {E : Type 0} (result : Result (Unit {0}) E) (manner : Manner) (before after : PortOf) (r0 r1 w0 w1 : Option (List ℕ))
    → OnOk result (ServedAll manner before after r0 r1 w0 w1) → OnErr result (ServedBeginning manner before after r0 r1 w0 w1)
    → manner.allow_stop ≡ false → AsksNoStop before.told after.told
lines-no-stop (Ok x) manner before after r0 r1 w0 w1 all some without = served-no-stop manner before after _ _ without all.served
lines-no-stop (Err e) manner before after r0 r1 w0 w1 all some without = served-no-stop manner before after _ _ without some.served

-- and over messages
pub messages-no-stop : (outer : Manner) (before after : PortOf) → ServesMessages outer before after → outer.allow_stop ≡ false → AsksNoStop before.told after.told
messages-no-stop outer before after (manner, within, messages, replies, served) without =
    elim (cases_Bool manner.allow_stop) [
      | inl may ↦ absurd (let outer-may : outer.allow_stop ≡ true = within.leave may in true≢false (sym outer-may ∙ without))
      | inr may-not ↦ served-no-stop manner before after messages replies may-not served
    ]

-- ---- when the session leaves

-- it cancels, and asks for nothing else
gives-no-stop : (saw : JobSight → Type 0) (jobs : List ℕ) (news : List Exchange) (refused : ℕ) → GivesUp saw jobs news refused → AreNoStops news
gives-no-stop saw [] news refused (none, count) = subst AreNoStops (sym none) tt
gives-no-stop saw (job ∷ jobs) news refused (inl (has, gives)) = gives-no-stop saw jobs news refused gives
gives-no-stop saw (job ∷ jobs) news refused (inr (inl (reply, later, finds, told, gives))) = subst AreNoStops (sym told) (λ e. cc, gives-no-stop saw jobs later refused gives)
gives-no-stop saw (job ∷ jobs) news refused (inr (inr (others, count, denied, gives))) = gives-no-stop saw jobs news others gives

-- so the port was asked for no stop before, and isn't then
pub leaves-no-stop : (saw : JobSight → Type 0) (before : List Exchange) (between after : PortOf) → AsksNoStop before between.told → Leaves saw between after → AsksNoStop before after.told
leaves-no-stop saw before between after asks (news, refused, gives, gained) =
    record {
      gained = asks.gained ++ news;
      told = ap (λ (p : PortOf). p.told) gained ∙ ap (λ (l : List Exchange). l ++ news) asks.told ∙ append_assoc before asks.gained news;
      no_stops = both-no-stops asks.gained news asks.no_stops (gives-no-stop saw (own_jobs between.told) news refused gives);
    }
