-- What follows a line, by the manner of the session.
use Rattle.std.proofs.Common.{◌≡◌, ◌∙◌, ℕ, List, Ok, Err, Option, None, true, false, inl, inr, refl, sym}
use Rattle.std.specs.Prelude.{Result}
use Rattle.arrayvec.specs.ArrayString.{ArrayString}
use Rattle.dd_wire.specs.declared.fault.Fault.{Fault}
use Rattle.dd_wire.specs.declared.fault.Fault.TheVariants.{OutOfMemory}
use Rattle.dd_wire.specs.declared.session_asked.SessionAsked.{SessionAsked}
use Rattle.dd_wire.specs.ExplainedWants.{MeansExplained, TellsFault, fault_explained, id_of}
use Rattle.dd_wire.specs.FaultWords.{fault_told}
use Rattle.dd_wire.specs.Wants.{MeansWant}
use Rattle.dd_session.specs.declared.manner.Manner.{Manner}
use Rattle.dd_session.specs.Manners.{MeansIn, fault_by, id_told, memory_text}
use Rattle.dd_session.specs.Sessions.{FollowsLine, IsStep}
use Rattle.dd_session.specs.declared.session.Step.{Step}
use Rattle.dd_session.specs.declared.session.Step.TheVariants.{Say}

-- ---- where nothing is explained

plain-means : (manner : Manner) (line : List ℕ) (meaning : Result SessionAsked Fault) → manner.explain ≡ false → MeansWant manner.allow_stop line meaning → MeansIn manner line meaning
plain-means manner line meaning plain means = rw plain means

plain-id : (manner : Manner) (line : List ℕ) → manner.explain ≡ false → id_told manner line ≡ None
plain-id manner line plain = rw plain refl

-- what is asked follows, with no id
pub plain-follows : (manner : Manner) (line : List ℕ) (asked : SessionAsked) (id : Option (List ℕ)) (step : Step) → manner.explain ≡ false → id ≡ None → MeansWant manner.allow_stop line (Ok asked)
    → (id ≡ id_told manner line → IsStep manner line (Ok asked) step) → FollowsLine manner line step
plain-follows manner line asked id step plain none means follows =
    inl (Ok asked, plain-means manner line (Ok asked) plain means, follows (none ∙ sym (plain-id manner line plain)))

-- ---- where ids are told again and faults explained

explained-means : (manner : Manner) (line : List ℕ) (meaning : Result SessionAsked Fault) → manner.explain ≡ true → MeansExplained manner.allow_stop line meaning → MeansIn manner line meaning
explained-means manner line meaning explains means = rw explains means

explained-id : (manner : Manner) (line : List ℕ) → manner.explain ≡ true → id_told manner line ≡ id_of line
explained-id manner line explains = rw explains refl

-- what is asked follows, with the line's id
pub explained-follows : (manner : Manner) (line : List ℕ) (asked : SessionAsked) (id : Option (List ℕ)) (step : Step) → manner.explain ≡ true → id ≡ id_of line
    → MeansExplained manner.allow_stop line (Ok asked) → (id ≡ id_told manner line → IsStep manner line (Ok asked) step) → FollowsLine manner line step
explained-follows manner line asked id step explains is means follows =
    inl (Ok asked, explained-means manner line (Ok asked) explains means, follows (is ∙ sym (explained-id manner line explains)))

explained-fault : (manner : Manner) (line : List ℕ) (fault : Fault) → manner.explain ≡ true → fault_by manner line fault ≡ fault_explained manner.allow_stop line fault
explained-fault manner line fault explains = rw explains refl

explained-memory : (manner : Manner) → manner.explain ≡ true → memory_text manner ≡ fault_told OutOfMemory None
explained-memory manner explains = rw explains refl

-- so does a text that tells the line's fault
pub explained-says : (manner : Manner) (line : List ℕ) (text : ArrayString) → manner.explain ≡ true → TellsFault manner.allow_stop line text.bytes → FollowsLine manner line (Say text)
explained-says manner line text explains (inl (fault, means, is)) =
    inl (Err fault, explained-means manner line (Err fault) explains means, is ∙ sym (explained-fault manner line fault explains))
explained-says manner line text explains (inr (some, short, is)) = inr (some, short, is ∙ sym (explained-memory manner explains))
