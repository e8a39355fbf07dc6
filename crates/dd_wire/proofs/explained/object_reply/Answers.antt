use Rattle.std.proofs.Common.{◌∙◌, ap, drop, option_map, subst, sym}
use Rattle.std.specs.Prelude.{codes}
use Rattle.serde_json.specs.View.{members_view, view}
use Rattle.serde_json.proofs.Views.{view-lookup}
use Rattle.dd_wire.specs.Explained.{IsBareReply}
use Rattle.dd_wire.proofs.ExplainedReplies.{bare-opens}
use Rattle.dd_wire.proofs.Explaining.{object-bare, object-named, object-wrong, without-removed}
use Rattle.dd_wire.proofs.explained.object_reply.Goals as goal

pub returns-in-None-clause-text : goal.returns-in-None-clause-text
returns-in-None-clause-text g c =
    object-bare (g.F.Finder.gave_up c.args.finder.now) (members_view c.args.object.entries) c.bare_reply.result.bytes
    (sym (view-lookup (codes "id") c.args.object.entries) ∙ ap (option_map view) (sym c.remove.ensures.value ∙ c.in-None.is))
    (subst (λ e. IsBareReply (g.F.Finder.gave_up c.args.finder.now) (members_view e) c.bare_reply.result.bytes) c.in-None.ensures.unchanged c.bare_reply.ensures.text)

pub returns-in-None-id_text-clause-text : goal.returns-in-None-id_text-clause-text
returns-in-None-id_text-clause-text g c =
    object-wrong (g.F.Finder.gave_up c.args.finder.now) (members_view c.args.object.entries) (view c.in-Some.value) c.told.result.bytes
    (sym (view-lookup (codes "id") c.args.object.entries) ∙ ap (option_map view) (sym c.remove.ensures.value ∙ c.in-Some.is))
    (sym c.id_text.ensures ∙ ap (option_map (λ id. id.bytes)) c.in-None-id_text.is) c.told.ensures.text

pub returns-clause-text : goal.returns-clause-text
returns-clause-text g c =
    object-named (g.F.Finder.gave_up c.args.finder.now) (members_view c.args.object.entries) (view c.in-Some.value) c.in-Some-id_text.id.bytes c.bare_reply-in-Some-id_text.result.bytes c.with_id.result.bytes
    (sym (view-lookup (codes "id") c.args.object.entries) ∙ ap (option_map view) (sym c.remove.ensures.value ∙ c.in-Some.is))
    (sym c.id_text.ensures ∙ ap (option_map (λ id. id.bytes)) c.in-Some-id_text.is)
    (subst (λ m. IsBareReply (g.F.Finder.gave_up c.args.finder.now) m c.bare_reply-in-Some-id_text.result.bytes) (ap members_view c.remove.ensures.entries ∙ without-removed (codes "id") c.args.object.entries) c.bare_reply-in-Some-id_text.ensures.text)
    c.with_id.ensures.text

pub with_id-requires-clause-opens : goal.with_id-requires-clause-opens
with_id-requires-clause-opens g c =
    (drop 2 c.bare_reply-in-Some-id_text.result.bytes, bare-opens (g.F.Finder.gave_up c.args.finder.now) (members_view c.remove.new.self.entries) c.bare_reply-in-Some-id_text.result.bytes c.bare_reply-in-Some-id_text.ensures.text)
