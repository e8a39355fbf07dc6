-- What goes out for a message that came.
use Rattle.std.proofs.Common.{◌≡◌, ℕ, List, Ok, refl, sym}
use Rattle.std.specs.Prelude.{Option, Some, None, MatchOption, IsSomeAnd}
use Rattle.std.proofs.lemmas.Option.{none-some}
use Rattle.tungstenite.specs.Connection.{write_step}
use Rattle.tungstenite.specs.Content.{text as text_message}
use Rattle.tungstenite.specs.Socket.{Socket, Reads, Writes}
use Rattle.tungstenite.specs.declared.message.Message.{Message}
use Rattle.dd_session.specs.declared.manner.Manner.{Manner}
use Rattle.dd_session.specs.declared.session.Step.{Step}
use Rattle.dd_session.specs.Ports.{PortOf}
use Rattle.dd_session.specs.Serving.{SessionWay, TakesStep}
use Rattle.dd_session.specs.Sessions.{FollowsLine, line_of}
use Rattle.dd_session.specs.Sockets.{AnswersMessage}
use Rattle.dd_session.proofs.Saying.{step-way}

-- a message that was read, and then its reply sent
pub answers-line : {S : Type 0} (remaining contents : S → Option (List ℕ)) (manner : Manner) (old between new : Socket S) (message : Message) (step : Step) (before after : PortOf) → Reads remaining old between (Ok message)
    → MatchOption (line_of message) (Some step ≡ None) (λ l. IsSomeAnd (Some step) (FollowsLine manner l))
    → (reply : List ℕ) × TakesStep manner.explain step reply before after × Writes contents between new (write_step between.conn (text_message reply)) → AnswersMessage remaining contents manner old new before after
answers-line remaining contents manner old between new message step before after reads follows (reply, takes, writes) =
    record { message = message; between = between; reads = reads; follows = go (line_of message) follows }
  where
    go : (line : Option (List ℕ)) → MatchOption line (Some step ≡ None) (λ l. IsSomeAnd (Some step) (FollowsLine manner l))
        → MatchOption line ((new ≡ between) × (after ≡ before)) (λ l. (r : List ℕ) × SessionWay manner before l r after × Writes contents between new (write_step between.conn (text_message r)))
    go None none = absurd (none-some step (sym none))
    go (Some l) f = (reply, step-way manner l step reply before after f takes, writes)

-- no step
abbrev pub no_step : Option Step
no_step = None

-- a message that is no line, of which nothing followed
pub answers-none : {S : Type 0} (remaining contents : S → Option (List ℕ)) (manner : Manner) (old between : Socket S) (message : Message) (port : PortOf) → Reads remaining old between (Ok message)
    → MatchOption (line_of message) (no_step ≡ None) (λ l. IsSomeAnd no_step (FollowsLine manner l)) → AnswersMessage remaining contents manner old between port port
answers-none remaining contents manner old between message port reads follows =
    record { message = message; between = between; reads = reads; follows = go (line_of message) follows }
  where
    go : (line : Option (List ℕ)) → MatchOption line (no_step ≡ None) (λ l. IsSomeAnd no_step (FollowsLine manner l))
        → MatchOption line ((between ≡ between) × (port ≡ port)) (λ l. (r : List ℕ) × SessionWay manner port l r port × Writes contents between between (write_step between.conn (text_message r)))
    go None none = (refl, refl)
    go (Some l) f = absurd f
