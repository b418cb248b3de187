use Rattle.std.proofs.Common.{◌++◌, codes, ap, ◌∙◌, string_bytes}
use Rattle.std.proofs.lemmas.Str.{IsUtf8-string_bytes}
use Rattle.jsonpath_base.specs.Prelude.{chars, IsUtf8}
use Rattle.jsonpath_base.proofs.PatternText.{chars-wrapped}
use Rattle.jsonpath_base.proofs.pattern.wrap.Goals as goal

pub returns : goal.returns
returns c =
    let utf8 : IsUtf8 (string_bytes c.in_ok-anchored.anchored) = IsUtf8-string_bytes c.in_ok-anchored.anchored in
    let front : IsUtf8 (codes "^(?:") = rw c.in_ok-anchored.ensures.ok at utf8 in
    record {
      spelled = ap chars (c.in_ok-push_str-2.ensures.bytes ∙ ap (λ x. x ++ codes ")$") (c.in_ok-push_str.ensures.bytes ∙ ap (λ x. x ++ c.args.text.now) c.in_ok-anchored.ensures.ok))
          ∙ chars-wrapped c.args.text.now front c.utf8.text;
    }
