use Rattle.std.proofs.Common.{◌≡◌, ◌∙◌, rules, string_bytes, true}
use Rattle.std.proofs.lemmas.Bool.{and_parts}
use Rattle.serde_json.specs.View.{view}
use Rattle.jsonpath_base.specs.Tree.{has_distinct_names}
use Rattle.jsonpath_base.specs.Values.{has_whole_numbers, value_tree}
use Rattle.jpath.specs.Json.{json_text}
use Rattle.jpath.proofs.JsonTexts.{compact_text-whole, has_float-whole}
use Rattle.jpath.proofs.deletion.push_value.Goals as goal

pub returns : goal.returns
returns c =
    let value = c.args.value.now in
    let whole : has_whole_numbers (view value) ≡ true = (and_parts (has_whole_numbers (view value)) (has_distinct_names (value_tree value)) c.requires).0 in
    let json : string_bytes c.in_ok-json.json ≡ json_text (value_tree value) =
    c.in_ok-json.ensures.text (has_float-whole (view value) whole) ∙ compact_text-whole (view value) whole in
    search (rules, json)
