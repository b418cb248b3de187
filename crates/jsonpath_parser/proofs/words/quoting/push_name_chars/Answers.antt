use Rattle.std.proofs.Common.{◌<◌, ◌++◌, length, arith, get_or, string_bytes, subst}
use Rattle.std.proofs.lemmas.Str.{IsCharBoundary-after_ascii}
use Rattle.jsonpath_parser.specs.Prelude.{name_chars}
use Rattle.jsonpath_parser.proofs.laws.words.Quoting.{name_turn, Begins-more}
use Rattle.jsonpath_parser.proofs.words.quoting.push_name_chars.Goals as goal

pub range_from-rest-requires : goal.range_from-rest-requires
range_from-rest-requires c =
    let i = c.plain_len-run.result in
    let here : i < length c.loop-path.rest.now = omega arith in
    let low : get_or c.as_bytes-bytes.result.now i 0 < 128 = c.plain_len-run.ensures.stop (omega arith) in
    λ _. IsCharBoundary-after_ascii c.loop-path.rest.now i c.loop-path.invariant.0 here (subst (λ x. get_or x i 0 < 128) c.as_bytes-bytes.ensures.value low)

pub loop-path-preserved : goal.loop-path-preserved
loop-path-preserved c = (
  c.range_from-rest.utf8,
  name_turn (string_bytes c.loop-path.path) c.loop-path.rest.now (string_bytes c.args.path.now ++ name_chars c.args.name.now) c.as_bytes-bytes.result.now c.range.result.now
      c.range_from-rest.result.now (string_bytes c.push_str.new.self) (string_bytes c.push_escape.new.path) c.plain_len-run.result (omega arith)
      c.as_bytes-bytes.ensures.value c.range.ensures.value c.in_ok-push_str.ensures.bytes c.in_ok-push_escape.ensures.value c.range_from-rest.ensures.value
      c.plain_len-run.ensures.plain c.loop-path.invariant.1,
  Begins-more _ _ c.range.result.now _ _ _ c.loop-path.invariant.2 c.in_ok-push_str.ensures.bytes c.in_ok-push_escape.ensures.value,
)
