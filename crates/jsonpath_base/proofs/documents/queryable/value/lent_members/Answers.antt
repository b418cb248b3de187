use Rattle.std.proofs.Common.{◌≡◌, map, List, ℕ, rules}
use Rattle.jsonpath_base.specs.Prelude.Documents.{members_of, members_view, pairs, Tree, value_tree}
use Rattle.jsonpath_base.proofs.Views.{lent_names_ascend}
use Rattle.jsonpath_base.proofs.documents.queryable.value.lent_members.Goals as goal

pub returns-clause-ordered : goal.returns-clause-ordered
returns-clause-ordered c =
    let es = c.args.members.now.entries in
    let same : map {B = List ℕ × Tree} (λ m. (m.0.now, value_tree m.1.now)) c.loop-name.lent.items ≡ pairs (members_of (members_view es)) = search rules in
    lent_names_ascend c.loop-name.lent.items es same c.iter-name-items.ensures.ordered
