-- The nodelist of a query, reached node by node.
use Rattle.std.proofs.Common.{◌≡◌, List, [], ◌∷◌, append-nil, sym, ◌∙◌}
use Rattle.jsonpath_base.specs.Prelude.Documents.{all_applied, Document, flat_map, no_segments, Node, nodelist, Query, replaced, root_node, segment, Segments}
use Rattle.jsonpath_rust.specs.Prelude.Selection.{selected_from}
use Rattle.jsonpath_rust.proofs.laws.selection.Walks.{flat_map-flat_map, flat_map-alone}

-- whole lists segment by segment are the same as one node after another
all_applied-selected_from : (gs : Segments) (d : Document) (ns : List Node) → all_applied gs d ns ≡ flat_map (selected_from gs d) ns
all_applied-selected_from no_segments d ns = sym (flat_map-alone ns)
all_applied-selected_from (segment g gs) d ns = all_applied-selected_from gs d (flat_map (replaced g d) ns) ∙ flat_map-flat_map (replaced g d) (selected_from gs d) ns

pub selected_from-applied : (gs : Segments) (d : Document) (n : Node) → selected_from gs d n ≡ all_applied gs d (n ∷ [])
selected_from-applied gs d n = sym (append-nil (selected_from gs d n)) ∙ sym (all_applied-selected_from gs d (n ∷ []))

pub nodelist-selected_from : (q : Query) (d : Document) → selected_from q d (root_node d.root) ≡ nodelist q d
nodelist-selected_from q d = selected_from-applied q d (root_node d.root)
