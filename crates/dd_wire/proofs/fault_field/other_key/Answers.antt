use Rattle.std.proofs.Common.{◌≡◌, ◌∙◌, Bor, Global, None, Option, Some, String, ap, option_map, refl, rules, sym, tests}
use Rattle.std.specs.BTreeMap.{keys}
use Rattle.std.specs.List.{list_any}
use Rattle.std.specs.Prelude.{not, string_bytes}
use Rattle.std.specs.Str.{bytes_eq}
use Rattle.std.proofs.lemmas.Iterator.Consumers.{YieldsList-from_rest}
use Rattle.std.proofs.lemmas.Iterator.Search.{find_from_yields_List}
use Rattle.serde_json.specs.View.{members_view}
use Rattle.dd_wire.specs.FaultFields.{keys_for, other_key}
use Rattle.dd_wire.proofs.Keys.{other_key-found}
use Rattle.dd_wire.proofs.fault_field.other_key.Goals as goal
use Rattle.dd_wire.proofs.fault_field.other_key.Goals.{After-find}

-- what was found is the first other key
found : (c : After-find) → option_map (λ key. string_bytes key.now) c.find.result ≡ other_key (keys_for c.args.task) (members_view c.args.object.now.entries)
found c =
    string_of c.find.result ∙ ap (option_map string_bytes)
    (find_from_yields_List (λ key. not (list_any (bytes_eq (string_bytes key)) (keys_for c.args.task))) _ _ _ c.find.ensures.ran (YieldsList-from_rest (keys c.args.object.now) c.keys.ensures.rest) (λ x b q k. search (rules, tests)))
    ∙ other_key-found (keys_for c.args.task) c.args.object.now.entries
  where
    string_of : (r : Option (Bor (String Global))) → option_map (λ key. string_bytes key.now) r ≡ option_map string_bytes (option_map (λ key. key.now) r)
    string_of None = refl
    string_of (Some key) = refl

pub returns-in_err-key : goal.returns-in_err-key
returns-in_err-key c =
    ap (option_map (λ key. key.now)) c.from_residual.ensures ∙ ap (option_map (λ key. string_bytes key.now)) (sym c.in_err-key.was) ∙ found (goal.at.returns-in_err-key c).After-find

pub returns : goal.returns
returns c =
    ap Some c.as_str.ensures.value ∙ ap (option_map (λ key. string_bytes key.now)) (sym c.in_ok-key.was) ∙ found (goal.at.returns c).After-find
