use Rattle.std.proofs.Common.{refl}
use Rattle.std.specs.Fmt.{digits}
use Rattle.std.specs.Str.{is_utf8, chars}
use Rattle.serde_json.proofs.OnLiterals.{serde_json_on_literals}
use Rattle.dd_wire.specs.ExplainedWants.{MeansBareWant, MeansExplained, MeansNamed, fault_explained, id_of, named_field}
use Rattle.dd_wire.specs.FaultFields.{field_of, want_field, wrong_want}
use Rattle.dd_wire.specs.FaultWords.{words_of, words_of_line}
use Rattle.dd_wire.proofs.laws.worked_explained_wants.Goals as goal

pub returns-clause-fetch : goal.returns-clause-fetch
unfolding is_utf8 chars serde_json_on_literals MeansExplained MeansNamed MeansBareWant
returns-clause-fetch c = λ leave. refl

pub returns-clause-number : goal.returns-clause-number
unfolding is_utf8 chars serde_json_on_literals digits id_of
returns-clause-number c = refl

pub returns-clause-text : goal.returns-clause-text
unfolding is_utf8 chars serde_json_on_literals id_of
returns-clause-text c = refl

pub returns-clause-none : goal.returns-clause-none
unfolding is_utf8 chars serde_json_on_literals id_of
returns-clause-none c = refl

pub returns-clause-blank : goal.returns-clause-blank
unfolding is_utf8 chars serde_json_on_literals digits fault_explained words_of_line
returns-clause-blank c = λ leave. refl

pub returns-clause-no_id : goal.returns-clause-no_id
unfolding is_utf8 chars serde_json_on_literals digits fault_explained named_field want_field wrong_want field_of words_of
returns-clause-no_id c = λ leave. refl

pub returns-clause-no_job : goal.returns-clause-no_job
unfolding is_utf8 chars serde_json_on_literals digits fault_explained named_field want_field wrong_want field_of words_of
returns-clause-no_job c = λ leave. refl

pub returns-clause-cancel_that_waits : goal.returns-clause-cancel_that_waits
unfolding is_utf8 chars serde_json_on_literals digits fault_explained named_field want_field wrong_want field_of words_of
returns-clause-cancel_that_waits c = λ leave. refl

pub returns-clause-health_of_a_job : goal.returns-clause-health_of_a_job
unfolding is_utf8 chars serde_json_on_literals digits fault_explained named_field want_field wrong_want field_of words_of
returns-clause-health_of_a_job c = λ leave. refl

pub returns-clause-par_of_a_deal : goal.returns-clause-par_of_a_deal
unfolding is_utf8 chars serde_json_on_literals digits fault_explained named_field want_field wrong_want field_of words_of
returns-clause-par_of_a_deal c = λ leave. refl

pub returns-clause-no_trump : goal.returns-clause-no_trump
unfolding is_utf8 chars serde_json_on_literals digits fault_explained named_field want_field wrong_want field_of words_of
returns-clause-no_trump c = λ leave. refl

pub returns-clause-no_leave : goal.returns-clause-no_leave
unfolding is_utf8 chars serde_json_on_literals digits fault_explained named_field want_field wrong_want field_of words_of
returns-clause-no_leave c = refl

pub returns-clause-stop_of_a_job : goal.returns-clause-stop_of_a_job
unfolding is_utf8 chars serde_json_on_literals digits fault_explained named_field want_field wrong_want field_of words_of
returns-clause-stop_of_a_job c = refl
