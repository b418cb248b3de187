use Rattle.std.proofs.Common.{◌≡◌, ◌++◌, length, arith, ap, ◌∙◌, codes, IsTrue, rules, string_bytes}
use Rattle.std.proofs.lemmas.List.Elements.{All-tail}
use Rattle.jpath.specs.Document.{json_is_whole}
use Rattle.jpath.proofs.Lines.{line_more, lines_end, value_lines}
use Rattle.jpath.proofs.output.values_text.Goals as goal

pub loop-value-preserved : goal.loop-value-preserved
loop-value-preserved c =
    let i = c.loop-value.invariant in
    let front = c.in-Some.ensures.steps.0 in
    let ended : string_bytes c.push.new.self ≡ string_bytes c.push_json.new.text ++ codes "\n" = search rules in
    record {
      len = omega (arith, ap length front);
      whole = All-tail (λ v. IsTrue (json_is_whole v.now)) _ _ (rw front at i.whole);
      text = line_more _ _ _ _ _ _ c.in-Some.value front c.in_ok-push_json.ensures ended i.text;
    }

pub returns : goal.returns
returns c =
    let i = c.loop-value.invariant in
    lines_end _ _ _ _ i.len c.in-None.ensures.steps.0 i.text ∙ ap value_lines c.into_iter-value-iterator.ensures.into_iter_gives.0
