-- What `process` returns for a whole query.
use Rattle.std.specs.Prelude.{◌≡◌, ℕ, List, map, IsTrue}
use Rattle.jsonpath_parser.specs.Normal.{normal}
use Rattle.jsonpath_parser.specs.tree.Syntax.{Query}
use Rattle.jsonpath_parser.specs.tree.Typing.{is_typed}
use Rattle.jsonpath_base.specs.Tree.{Tree}
use Rattle.jsonpath_base.specs.documents.Document.{Document}
use Rattle.jsonpath_base.specs.documents.Meaning.{nodelist}
use Rattle.jsonpath_rust.specs.states.Process.{segments_content}
use Rattle.jsonpath_base.specs.documents.State.{targets, root_content}

-- The path and the tree of each node that `process` of the query returns from the root. For an ill-typed tree (RFC 9535, 2.4.3) these need not be the
-- nodes that Meaning selects.
abbrev pub processed : Query → Document → List (List ℕ × Tree)
processed q doc = map (λ p. (p.path, p.tree)) (targets (segments_content q doc (root_content doc)))

-- If the query is well-typed, these are the nodes that it selects (2.1.2), in order, with their Normalized Paths (2.7).
abbrev pub ProcessGivesTheNodelist : Type 0
ProcessGivesTheNodelist = (q : Query) (doc : Document) → IsTrue (is_typed q) → processed q doc ≡ map (λ n. (normal n.location, n.tree)) (nodelist q doc)
