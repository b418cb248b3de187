use Rattle.jsonpath_base.specs.Prelude.Documents.{query_view, steps_query}
use Rattle.jsonpath_rust.specs.Prelude.Selection.{prepared_view}
use Rattle.jsonpath_rust.proofs.ByText.{read_derives, read_only, read_refused}
use Rattle.jsonpath_rust.proofs.selection.prepared.Prepared.read_within.Goals as goal

pub returns-clause-query : goal.returns-clause-query
returns-clause-query c = read_derives prepared_view _ _ (query_view c.in_ok-query.query) c.new.result c.in_ok-query.ensures.derived c.new.ensures.query

pub returns-clause-complete : goal.returns-clause-complete
returns-clause-complete c t derived = read_only prepared_view (query_view c.in_ok-query.query) t c.new.result (c.in_ok-query.ensures.complete t derived) c.new.ensures.query c.new.ensures.memory

pub returns-clause-normal : goal.returns-clause-normal
returns-clause-normal c l is small deep = read_only prepared_view (query_view c.in_ok-query.query) (steps_query l) c.new.result (c.in_ok-query.ensures.normal l is small deep) c.new.ensures.query c.new.ensures.memory

pub returns-clause-refused : goal.returns-clause-refused
returns-clause-refused c = read_refused _ _ (query_view c.in_ok-query.query) c.new.result c.in_ok-query.ensures.derived c.new.ensures.memory
