use Rattle.std.proofs.Common.{option_map, sym, ◌∙◌, ap}
use Rattle.jsonpath_rust.specs.Prelude.Documents.{document_at}
use Rattle.jsonpath_rust.specs.Prelude.Selection.{filter_of, filter_view, constants_view, node_of, plan_view, segments_meant}
use Rattle.jsonpath_rust.proofs.laws.selection.{held_as, none_holds, refused_as}
use Rattle.jsonpath_rust.proofs.selection.condition.evaluate.Goals as goal

pub returns-in-None-clause-holds : goal.returns-in-None-clause-holds
returns-in-None-clause-holds g c =
    let constants = constants_view c.args.request.plan.now.constants.items in
    none_holds (plan_view c.args.request.plan.now) _ _ (sym (ap (option_map (λ f. filter_view constants f.now)) c.in-None.is) ∙ c.only_filter.ensures constants ∙ ap (λ gs. filter_of (segments_meant constants gs)) c.deref.ensures.value)

pub returns-in-Ok-clause-holds : goal.returns-in-Ok-clause-holds
returns-in-Ok-clause-holds g c =
    let constants = constants_view c.args.request.plan.now.constants.items in
    let found = sym (ap (option_map (λ f. filter_view constants f.now)) c.in-Some.is) ∙ c.only_filter.ensures constants ∙ ap (λ gs. filter_of (segments_meant constants gs)) c.deref.ensures.value in
    held_as (filter_view constants c.in-Some.filter.now) (plan_view c.args.request.plan.now) (document_at c.args.root) _ _ _ found (ap (λ q. node_of q c.args.root) c.in-Ok.ensures.current_path) c.filter_holds-held.ensures.holds

pub returns-in-Ok-clause-refused : goal.returns-in-Ok-clause-refused
returns-in-Ok-clause-refused g c =
    let constants = constants_view c.args.request.plan.now.constants.items in
    let found = sym (ap (option_map (λ f. filter_view constants f.now)) c.in-Some.is) ∙ c.only_filter.ensures constants ∙ ap (λ gs. filter_of (segments_meant constants gs)) c.deref.ensures.value in
    refused_as _ (filter_view constants c.in-Some.filter.now) (plan_view c.args.request.plan.now) (document_at c.args.root) _ found c.filter_holds-held.ensures.comes.halts
