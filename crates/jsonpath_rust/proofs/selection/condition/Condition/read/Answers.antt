use Rattle.std.proofs.Common.{◌≡◌, ◌≤◌, sym, ◌∙◌, subst}
use Rattle.jsonpath_base.specs.Prelude.Documents.{Derives, IsRefusal, query_view}
use Rattle.jsonpath_rust.specs.Prelude.Selection.{filter_query, in_filter, prepared_view}
use Rattle.jsonpath_rust.proofs.laws.selection.{expression_back, never_none}
use Rattle.jsonpath_parser.specs.Grammar.{Spells}
use Rattle.jsonpath_parser.specs.words.Depth.{depth}
use Rattle.jsonpath_parser.specs.words.Numbers.{SpellsNumber}
use Rattle.jsonpath_rust.proofs.selection.condition.Condition.read.Goals as goal

pub returns-in-Err-clause-complete : goal.returns-in-Err-clause-complete
returns-in-Err-clause-complete c f derived =
    let text : c.as_str.result.now ≡ in_filter c.args.text.now = c.as_str.ensures.value ∙ c.in_ok-whole.ensures.text in
    c.refusal.ensures.memory (c.in-Err.ensures.complete (filter_query f) (subst (λ s. Derives c.args.depth s (filter_query f)) (sym text) derived))

pub returns-in-Err-clause-refused : goal.returns-in-Err-clause-refused
returns-in-Err-clause-refused c =
    let text : c.as_str.result.now ≡ in_filter c.args.text.now = c.as_str.ensures.value ∙ c.in_ok-whole.ensures.text in
    c.refusal.ensures.refused c.args.depth (subst (λ s. IsRefusal c.args.depth s c.in-Err.error) text c.in-Err.ensures.refused)

pub returns-then-not-is_one_filter-clause-complete : goal.returns-then-not-is_one_filter-clause-complete
returns-then-not-is_one_filter-clause-complete c f derived =
    let text : c.as_str.result.now ≡ in_filter c.args.text.now = c.as_str.ensures.value ∙ c.in_ok-whole.ensures.text in
    let same = c.in-Ok.ensures.complete (filter_query f) (subst (λ s. Derives c.args.depth s (filter_query f)) (sym text) derived) in
    absurd (never_none f (query_view c.in-Ok.query) same (sym c.is_one_filter.ensures ∙ c.if-not-is_one_filter.true))

pub returns-then-not-is_one_filter-clause-refused : goal.returns-then-not-is_one_filter-clause-refused
returns-then-not-is_one_filter-clause-refused c =
    let text : c.as_str.result.now ≡ in_filter c.args.text.now = c.as_str.ensures.value ∙ c.in_ok-whole.ensures.text in
    (subst (λ s. depth s ≤ c.args.depth) text c.in-Ok.ensures.derived.within, c.place_in.ensures, λ f spelled. never_none f (query_view c.in-Ok.query) (c.in-Ok.ensures.one_tree (filter_query f) (subst (Spells SpellsNumber (filter_query f)) (sym text) spelled.0)) (sym c.is_one_filter.ensures ∙ c.if-not-is_one_filter.true))

pub returns-clause-complete : goal.returns-clause-complete
returns-clause-complete c f derived =
    let text : c.as_str.result.now ≡ in_filter c.args.text.now = c.as_str.ensures.value ∙ c.in_ok-whole.ensures.text in
    expression_back f (prepared_view c.in_ok-prepared.prepared) (c.in_ok-prepared.ensures.query ∙ c.in-Ok.ensures.complete (filter_query f) (subst (λ s. Derives c.args.depth s (filter_query f)) (sym text) derived))
