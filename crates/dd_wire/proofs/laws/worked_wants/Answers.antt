use Rattle.std.proofs.Common.{refl, arith, inl, []}
use Rattle.std.specs.Prelude.{Err}
use Rattle.std.specs.Str.{is_utf8, chars}
use Rattle.serde_json.proofs.OnLiterals.{serde_json_on_literals}
use Rattle.dd_cards.specs.declared.seat.Seat.TheVariants.{East}
use Rattle.dd_cards.specs.declared.strain.Strain.TheVariants.{Notrump}
use Rattle.dd_pbn.specs.Examples.{two_suits}
use Rattle.dd_pbn.proofs.CallerLemmas.{spades-and-hearts}
use Rattle.dd_play.specs.Board.{board_of}
use Rattle.dd_wire.specs.declared.fault.Fault.TheVariants.{WrongField}
use Rattle.dd_wire.proofs.Meanings.{means-table}
use Rattle.dd_wire.proofs.RequestExamples.{asks-best}
use Rattle.dd_wire.proofs.laws.worked_wants.Goals as goal

pub returns-clause-fetch : goal.returns-clause-fetch
unfolding is_utf8 chars serde_json_on_literals
returns-clause-fetch c = λ leave. refl

pub returns-clause-cancel : goal.returns-clause-cancel
unfolding is_utf8 chars serde_json_on_literals
returns-clause-cancel c = λ leave. refl

pub returns-clause-stop : goal.returns-clause-stop
unfolding is_utf8 chars serde_json_on_literals
returns-clause-stop c = refl

pub returns-clause-no_leave : goal.returns-clause-no_leave
unfolding is_utf8 chars serde_json_on_literals
returns-clause-no_leave c = (Err WrongField, refl, refl)

pub returns-clause-stop_of_a_job : goal.returns-clause-stop_of_a_job
unfolding is_utf8 chars serde_json_on_literals
returns-clause-stop_of_a_job c = (Err WrongField, refl, refl)

pub returns-clause-no_job : goal.returns-clause-no_job
unfolding is_utf8 chars serde_json_on_literals
returns-clause-no_job c = (Err WrongField, refl, refl)

pub returns-clause-job_and_deal : goal.returns-clause-job_and_deal
unfolding is_utf8 chars serde_json_on_literals
returns-clause-job_and_deal c = (Err WrongField, refl, refl)

pub returns-clause-job_in_words : goal.returns-clause-job_in_words
unfolding is_utf8 chars serde_json_on_literals
returns-clause-job_in_words c = (Err WrongField, refl, refl)

pub returns-clause-past_64_bits : goal.returns-clause-past_64_bits
unfolding is_utf8 chars serde_json_on_literals
returns-clause-past_64_bits c = (Err WrongField, refl, refl)

pub returns-clause-no_task : goal.returns-clause-no_task
unfolding is_utf8 chars serde_json_on_literals
returns-clause-no_task c = (Err WrongField, refl, refl)

pub returns-clause-no_object : goal.returns-clause-no_object
unfolding is_utf8 chars serde_json_on_literals
returns-clause-no_object c = refl

pub returns-clause-solve : goal.returns-clause-solve
unfolding is_utf8 chars serde_json_on_literals
returns-clause-solve c = λ leave. (_, (_, inl (two_suits, spades-and-hearts.0, spades-and-hearts.1, (board_of two_suits Notrump East [], record { hands = refl; strain = refl; first = refl; trick = refl }, asks-best)), refl), refl)

pub returns-clause-table : goal.returns-clause-table
unfolding is_utf8 chars serde_json_on_literals
returns-clause-table c = λ leave. (_, (_, inl (two_suits, spades-and-hearts.0, spades-and-hearts.1, means-table two_suits (refl, refl, refl) (omega arith)), refl), refl)

pub returns-clause-par : goal.returns-clause-par
unfolding is_utf8 chars serde_json_on_literals
returns-clause-par c = λ leave. refl

pub returns-clause-par_of_a_deal : goal.returns-clause-par_of_a_deal
unfolding is_utf8 chars serde_json_on_literals
returns-clause-par_of_a_deal c = λ leave. refl

pub returns-clause-waits : goal.returns-clause-waits
unfolding is_utf8 chars serde_json_on_literals
returns-clause-waits c = λ leave. refl

pub returns-clause-no_longer : goal.returns-clause-no_longer
unfolding is_utf8 chars serde_json_on_literals
returns-clause-no_longer c = λ leave. refl

pub returns-clause-waits_in_words : goal.returns-clause-waits_in_words
unfolding is_utf8 chars serde_json_on_literals
returns-clause-waits_in_words c = refl

pub returns-clause-waits_in_part : goal.returns-clause-waits_in_part
unfolding is_utf8 chars serde_json_on_literals
returns-clause-waits_in_part c = refl

pub returns-clause-cancel_that_waits : goal.returns-clause-cancel_that_waits
unfolding is_utf8 chars serde_json_on_literals
returns-clause-cancel_that_waits c = (Err WrongField, refl, refl)

pub returns-clause-stop_that_waits : goal.returns-clause-stop_that_waits
unfolding is_utf8 chars serde_json_on_literals
returns-clause-stop_that_waits c = (Err WrongField, refl, refl)

pub returns-clause-solve_that_waits : goal.returns-clause-solve_that_waits
unfolding is_utf8 chars serde_json_on_literals
returns-clause-solve_that_waits c = λ leave. (_, (_, inl (two_suits, spades-and-hearts.0, spades-and-hearts.1, (board_of two_suits Notrump East [], record { hands = refl; strain = refl; first = refl; trick = refl }, asks-best)), refl), refl)

pub returns-clause-health : goal.returns-clause-health
unfolding is_utf8 chars serde_json_on_literals
returns-clause-health c = λ leave. refl

pub returns-clause-health_of_a_job : goal.returns-clause-health_of_a_job
unfolding is_utf8 chars serde_json_on_literals
returns-clause-health_of_a_job c = (Err WrongField, refl, refl)

pub returns-clause-health_that_waits : goal.returns-clause-health_that_waits
unfolding is_utf8 chars serde_json_on_literals
returns-clause-health_that_waits c = (Err WrongField, refl, refl)

pub returns-clause-table_that_waits : goal.returns-clause-table_that_waits
unfolding is_utf8 chars serde_json_on_literals
returns-clause-table_that_waits c = λ leave. (_, (_, inl (two_suits, spades-and-hearts.0, spades-and-hearts.1, means-table two_suits (refl, refl, refl) (omega arith)), refl), refl)
