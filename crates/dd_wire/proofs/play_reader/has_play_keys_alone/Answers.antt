use Rattle.std.proofs.Common.{◌∙◌, rules, tests}
use Rattle.std.specs.BTreeMap.{keys}
use Rattle.std.specs.List.{list_any}
use Rattle.std.specs.Prelude.{string_bytes}
use Rattle.std.specs.Str.{bytes_eq}
use Rattle.std.proofs.lemmas.Iterator.Consumers.{YieldsList-from_rest}
use Rattle.std.proofs.lemmas.Iterator.Search.{all_from_yields_List}
use Rattle.dd_wire.specs.PlayLines.{play_keys}
use Rattle.dd_wire.proofs.Keys.{are_among-keys}
use Rattle.dd_wire.proofs.play_reader.has_play_keys_alone.Goals as goal

pub returns : goal.returns
returns c =
    all_from_yields_List (λ key. list_any (bytes_eq (string_bytes key)) play_keys) _ _ _ c.all.ensures.ran (YieldsList-from_rest (keys c.args.object.now) c.keys.ensures.rest) (λ x b q k. search (rules, tests))
    ∙ are_among-keys play_keys c.args.object.now.entries
