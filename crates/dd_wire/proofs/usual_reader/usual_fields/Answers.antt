use Rattle.std.proofs.Common.{◌∙◌, refl, ap, subst, [], ◌∷◌}
use Rattle.json.specs.Token.{Token}
use Rattle.json.specs.Lex.{fresh, after_comma, after_value}
use Rattle.dd_wire.specs.UsualLines.{AreMembers, members_of, left}
use Rattle.dd_wire.specs.declared.usual_reader.Fields.{Fields}
use Rattle.dd_wire.proofs.UsualValues.{line-is, adds-more, members-comma, members-end, object-ends, empty-left}
use Rattle.dd_wire.proofs.usual_reader.usual_fields.Goals as goal

pub members-init : goal.members-init
members-init c = λ new more.
    line-is c.args.line.now c.in_ok-text.text.now c.after_space.result.now new c.in_ok-text.ensures c.after_space.ensures
    (subst (λ (f : Fields). AreMembers fresh c.after_space.result.now (members_of f) new []) c.no_fields-fields.ensures (adds-more fresh refl c.in_ok-rest.ensures more))

pub members-preserved : goal.members-preserved
members-preserved c = λ new more. c.members.invariant new (members-comma c.in_ok-after_comma.ensures (adds-more after_comma refl c.in_ok-rest-2.ensures more))

pub returns-then-is_empty-clause-read : goal.returns-then-is_empty-clause-read
returns-then-is_empty-clause-read c =
    let closes = object-ends c.members.rest.now c.in-Some.end.now c.in-Some.ensures in
    c.members.invariant (members_of c.members.fields) (members-end (closes ∙ ap (λ text. Token.end_object ∷ left after_value text) (empty-left c.in-Some.end.now c.if-is_empty.ensures)))
