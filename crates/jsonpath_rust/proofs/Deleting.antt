-- The law of a deletion by a query that selects nothing.
use Rattle.std.proofs.Common.{◌∙◌, ap}
use Rattle.jsonpath_base.specs.Prelude.Documents.{distinct_count, is_among, without}
use Rattle.jsonpath_rust.specs.Prelude.Calls.{NothingSelectedDeletesNothing}
use Rattle.jsonpath_base.proofs.WithoutLaws.{without_none}

-- it answers 0, and leaves the document's tree
pub nothing_selected_deletes_nothing : NothingSelectedDeletesNothing
nothing_selected_deletes_nothing q doc left count none h =
    (h.removed ∙ ap (λ ls. without (is_among ls) doc.root) none ∙ without_none doc.root, h.counted ∙ ap distinct_count none)
