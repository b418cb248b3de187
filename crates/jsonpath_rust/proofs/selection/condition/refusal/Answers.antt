use Rattle.std.proofs.Common.{subst}
use Rattle.jsonpath_base.specs.Prelude.Documents.{IsRefusal}
use Rattle.jsonpath_rust.specs.Prelude.Selection.{filter_query, in_filter}
use Rattle.jsonpath_rust.proofs.selection.condition.refusal.Goals as goal

pub returns-in-PestError-clause-refused : goal.returns-in-PestError-clause-refused
returns-in-PestError-clause-refused c limit h =
    let refused = subst (IsRefusal limit (in_filter c.args.text.now)) c.in-PestError.is h in
    (refused.0, c.place_in.ensures, λ f. refused.2 (filter_query f))
