use Rattle.std.proofs.Common.{ap, ◌∙◌}
use Rattle.jsonpath_base.specs.Prelude.Documents.{nodelist, location_count, location_set}
use Rattle.jsonpath_rust.specs.Prelude.Documents.{document_at, LocationSet}
use Rattle.jsonpath_rust.specs.Prelude.Selection.{runner_view}
use Rattle.jsonpath_rust.proofs.laws.selection.{removal_is, removal_there}
use Rattle.jsonpath_rust.proofs.Stops.{memory_stops}
use Rattle.jsonpath_rust.proofs.selection.runner.Runner.removal.Goals as goal

pub returns-in-Some-clause-removal : goal.returns-in-Some-clause-removal
returns-in-Some-clause-removal g c =
    let begun = c.in-Ok.removal.value in let same = c.in-Ok.ensures.ok in let d = document_at c.args.value in
    let all = removal_is begun c.in-Some.removal.value _ (nodelist (runner_view c.args.self.now) d) (λ l. ap (λ (r : LocationSet). location_set r l) same ∙ c.new.ensures.none l) (ap (λ (r : LocationSet). location_count r) same ∙ c.new.ensures.count) c.in_ok-sink.ensures.outcome c.in-Some.ensures in
    record { set = ap (λ (r : LocationSet). location_set r) c.into_inner.ensures ∙ all.set; count = ap (λ (r : LocationSet). location_count r) c.into_inner.ensures ∙ all.count }

pub returns-in-None-clause-removal : goal.returns-in-None-clause-removal
returns-in-None-clause-removal g c =
    let begun = c.in-Ok.removal.value in let same = c.in-Ok.ensures.ok in let d = document_at c.args.value in
    removal_there begun _ (nodelist (runner_view c.args.self.now) d) (λ l. ap (λ (r : LocationSet). location_set r l) same ∙ c.new.ensures.none l) (ap (λ (r : LocationSet). location_count r) same ∙ c.new.ensures.count) c.in_ok-sink.ensures.outcome c.in-None.ensures

pub returns-in-Err-clause-refused : goal.returns-in-Err-clause-refused
returns-in-Err-clause-refused g c = memory_stops g.L.Limit.counts g.L.Limit.stops (runner_view c.args.self.now) (document_at c.args.value) c.error.result c.error.ensures
