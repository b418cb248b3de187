use Rattle.std.proofs.Common.{◌≡◌, ◌∙◌, sym, ap, true, rules, Some, string_bytes}
use Rattle.jsonpath_parser.specs.Prelude.{query_text, query_view, Valued}
use Rattle.jsonpath_parser.specs.inner.ReadingQuery.{typed_query}
use Rattle.jsonpath_parser.proofs.TextSpells.{text_derives}
use Rattle.jsonpath_parser.proofs.Whole.{derived_read, read_derives}
use Rattle.jsonpath_parser.proofs.query_text.to_query_text.Goals as goal

pub returns-then-not-branch-clause-read : goal.returns-then-not-branch-clause-read
returns-then-not-branch-clause-read c d t h =
    let tree = query_view c.args.query.now in
    let bytes : c.as_str.result.now ≡ query_text tree = search rules in
    let read : typed_query Valued c.as_str.result.now ≡ Some tree = ap (typed_query Valued) bytes ∙ derived_read _ _ _ (text_derives d t tree h) in
    let same = c.in_ok-reads_back.ensures.read.1 read in search (rules, same)

pub returns-clause-derives : goal.returns-clause-derives
returns-clause-derives c d within =
    let tree = query_view c.args.query.now in
    let same : c.in_ok-reads_back.field-0 ≡ true = search rules in
    let bytes : c.as_str.result.now ≡ string_bytes c.query.new.text = search rules in
    read_derives d _ tree within (ap (typed_query Valued) (sym bytes) ∙ c.in_ok-reads_back.ensures.read.0 same)
