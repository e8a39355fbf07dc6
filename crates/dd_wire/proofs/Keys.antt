-- The keys of an object's members.
use Rattle.std.proofs.Common.{◌≡◌, ℕ, Bool, true, false, cond, not, ◌&&◌, List, [], ◌∷◌, refl, ap, map, Option, Some, option_map}
use Rattle.std.specs.List.{find, list_any, list_all}
use Rattle.std.specs.Str.{bytes_eq}
use Rattle.std.specs.Prelude.{String, string_bytes}
use Rattle.std.specs.declared.alloc.Global.{Global}
use Rattle.serde_json.specs.declared.value.Value.{Value}
use Rattle.serde_json.specs.View.{members_view}
use Rattle.dd_wire.specs.FaultFields.{other_key}
use Rattle.dd_wire.specs.Requests.{are_among, keys_of}

-- the keys are tested one by one
pub are_among-keys : (known : List (List ℕ)) (es : List (String Global × Value)) → list_all (λ key. list_any (bytes_eq (string_bytes key)) known) (map (λ e. e.0) es) ≡ are_among known (keys_of (members_view es))
are_among-keys known [] = refl
are_among-keys known (e ∷ es) = ap (λ rest. list_any (bytes_eq (string_bytes e.0)) known && rest) (are_among-keys known es)

-- the first key that is none of the known is found
pub other_key-found : (known : List (List ℕ)) (es : List (String Global × Value))
    → option_map string_bytes (find (λ key. not (list_any (bytes_eq (string_bytes key)) known)) (map (λ e. e.0) es)) ≡ other_key known (members_view es)
other_key-found known [] = refl
other_key-found known (e ∷ es) = go (list_any (bytes_eq (string_bytes e.0)) known) (find (λ key. not (list_any (bytes_eq (string_bytes key)) known)) (map (λ e. e.0) es)) (other_key-found known es)
  where
    go : (is : Bool) (later : Option (String Global)) → option_map string_bytes later ≡ other_key known (members_view es)
        → option_map string_bytes (cond (not is) (Some e.0) later) ≡ cond is (other_key known (members_view es)) (Some (string_bytes e.0))
    go true later same = same
    go false later same = refl
