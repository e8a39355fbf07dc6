use Rattle.std.proofs.Common.{◌∙◌, ap, option_map, sym}
use Rattle.serde_json.specs.View.{members_view, view}
use Rattle.serde_json.proofs.Views.{view-lookup}
use Rattle.std.specs.Prelude.{codes}
use Rattle.dd_wire.proofs.Explaining.{without-removed}
use Rattle.dd_wire.proofs.ExplainingWants.{asked-bare, asked-other, told-bare-err, told-other-err, told-wrong}
use Rattle.dd_wire.proofs.explained_want.named_asked.Goals as goal

pub returns-in-None-clause-ok : goal.returns-in-None-clause-ok
returns-in-None-clause-ok c =
    asked-bare c.args.allow_stop (members_view c.args.object.entries) _ c.bare_asked.result
    (sym (view-lookup (codes "id") c.args.object.entries) ∙ ap (option_map view) (sym c.remove.ensures.value ∙ c.in-None.is))
    (ap members_view c.in-None.ensures.unchanged) c.bare_asked.ensures.ok

pub returns-in-None-clause-err : goal.returns-in-None-clause-err
returns-in-None-clause-err c =
    told-bare-err c.args.allow_stop (members_view c.args.object.entries) _ c.bare_asked.result (λ t. t.bytes)
    (sym (view-lookup (codes "id") c.args.object.entries) ∙ ap (option_map view) (sym c.remove.ensures.value ∙ c.in-None.is))
    (ap members_view c.in-None.ensures.unchanged) c.bare_asked.ensures.err

pub returns-in-None-id_text-clause-err : goal.returns-in-None-id_text-clause-err
returns-in-None-id_text-clause-err c =
    told-wrong c.args.allow_stop (members_view c.args.object.entries) (view c.in-Some.value) c.told.result.bytes
    (sym (view-lookup (codes "id") c.args.object.entries) ∙ ap (option_map view) (sym c.remove.ensures.value ∙ c.in-Some.is))
    (sym c.id_text.ensures ∙ ap (option_map (λ id. id.bytes)) c.in-None-id_text.is) c.told.ensures.text

pub returns-clause-ok : goal.returns-clause-ok
returns-clause-ok c =
    asked-other c.args.allow_stop (members_view c.args.object.entries) _ (view c.in-Some.value) c.in-Some-id_text.id.bytes c.bare_asked-in-Some-id_text.result
    (sym (view-lookup (codes "id") c.args.object.entries) ∙ ap (option_map view) (sym c.remove.ensures.value ∙ c.in-Some.is))
    (sym c.id_text.ensures ∙ ap (option_map (λ id. id.bytes)) c.in-Some-id_text.is)
    (ap members_view c.remove.ensures.entries ∙ without-removed (codes "id") c.args.object.entries) c.bare_asked-in-Some-id_text.ensures.ok

pub returns-clause-err : goal.returns-clause-err
returns-clause-err c =
    told-other-err c.args.allow_stop (members_view c.args.object.entries) _ (view c.in-Some.value) c.in-Some-id_text.id.bytes c.bare_asked-in-Some-id_text.result (λ t. t.bytes)
    (sym (view-lookup (codes "id") c.args.object.entries) ∙ ap (option_map view) (sym c.remove.ensures.value ∙ c.in-Some.is))
    (sym c.id_text.ensures ∙ ap (option_map (λ id. id.bytes)) c.in-Some-id_text.is)
    (ap members_view c.remove.ensures.entries ∙ without-removed (codes "id") c.args.object.entries) c.bare_asked-in-Some-id_text.ensures.err
