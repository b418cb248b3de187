-- A singular query gives the value to which its names and indexes lead.
use Rattle.std.proofs.Common.{◌≡◌, ℕ, List, [], ◌∷◌, ◌++◌, length, map, Option, Some, None, option_map, option_and_then, option_to_list, IsTrue, refl, sym, ap, ◌∙◌}
use Rattle.jsonpath_base.specs.Prelude.Documents.{all_applied, as_list, as_value, child, descendant, Document, element_of, followed, index, is_singular, Location, name, Node, one, only_value, relative, Segment, segment_child, segments_of, several, Step, step_to, stepped, tested, Tree, value_at}
use Rattle.jsonpath_parser.specs.tree.Syntax as syntax
use Rattle.jsonpath_base.proofs.lemmas.documents.Following.{nodes_of, applied_followed}

-- what is behind a step, and what is at a location
abbrev behind : Step × Tree → Tree
behind p = p.1

abbrev there : Location × Tree → Tree
there p = p.1

-- ---- one name or one index

stepped_child : (s : Step) (o : Option Tree) → o ≡ option_map behind (option_map (λ u. (s, u)) o)
stepped_child s None = refl
stepped_child s (Some u) = refl

stepped_place : (t : Tree) (o : Option ℕ) → option_and_then (λ k. child (index k) t) o ≡ option_map behind (option_and_then (λ k. step_to (index k) t) o)
stepped_place t None = refl
stepped_place t (Some k) = stepped_child (index k) (child (index k) t)

stepped_list : (t : Tree) (place : List Tree → Option ℕ) (o : Option (List Tree)) → option_and_then (λ ts. option_and_then (λ k. child (index k) t) (place ts)) o ≡ option_map behind (option_and_then (λ k. step_to (index k) t) (option_and_then place o))
stepped_list t place None = refl
stepped_list t place (Some ts) = stepped_place t (place ts)

stepped_followed : (g : Segment) (t : Tree) → stepped g t ≡ option_map behind (segment_child g t)
stepped_followed (one (syntax.Selector.name k)) t = stepped_child (name k) (child (name k) t)
stepped_followed (one (syntax.Selector.index i)) t = stepped_list t (λ ts. element_of i (length ts)) (as_list t)
stepped_followed (one syntax.Selector.wildcard) t = refl
stepped_followed (one (syntax.Selector.slice a b c)) t = refl
stepped_followed (one (syntax.Selector.filter f)) t = refl
stepped_followed (several ss) t = refl
stepped_followed (descendant g) t = refl

-- ---- one after the other

abbrev Leads : List Segment → Location → Tree → Type 0
Leads gs l t = value_at gs t ≡ option_map there (followed (segments_of gs) l t)

value_behind : (gs : List Segment) (l : Location) (o : Option (Step × Tree)) → ((m : Location) (u : Tree) → Leads gs m u) → option_and_then (value_at gs) (option_map behind o) ≡ option_map there (option_and_then (λ p. followed (segments_of gs) (l ++ p.0 ∷ []) p.1) o)
value_behind gs l None more = refl
value_behind gs l (Some p) more = more (l ++ p.0 ∷ []) p.1

value_followed : (gs : List Segment) (l : Location) (t : Tree) → Leads gs l t
value_followed [] l t = refl
value_followed (g ∷ gs) l t = ap (option_and_then (value_at gs)) (stepped_followed g t) ∙ value_behind gs l (segment_child g t) (λ m u. value_followed gs m u)

-- ---- the nodes are that value, if there is one

trees_followed : (o : Option (Location × Tree)) → map (λ (n : Node). n.tree) (nodes_of o) ≡ option_to_list (option_map there o)
trees_followed None = refl
trees_followed (Some p) = refl

only_followed : (o : Option (Location × Tree)) → only_value (nodes_of o) ≡ option_map there o
only_followed None = refl
only_followed (Some p) = refl

pub singular_trees : (gs : List Segment) (d : Document) (n : Node) → IsTrue (is_singular (segments_of gs)) → map (λ (m : Node). m.tree) (all_applied (segments_of gs) d (n ∷ [])) ≡ option_to_list (value_at gs n.tree)
singular_trees gs d n h =
    ap (map (λ (m : Node). m.tree)) (applied_followed (segments_of gs) d n.location n.tree h)
    ∙ trees_followed (followed (segments_of gs) n.location n.tree)
    ∙ sym (ap option_to_list (value_followed gs n.location n.tree))

-- from the current node
pub relative_value : (gs : List Segment) (d : Document) (n : Node) → IsTrue (is_singular (segments_of gs)) → as_value (tested (relative (segments_of gs)) d n) ≡ value_at gs n.tree
relative_value gs d n h =
    ap only_value (applied_followed (segments_of gs) d n.location n.tree h)
    ∙ only_followed (followed (segments_of gs) n.location n.tree)
    ∙ sym (value_followed gs n.location n.tree)
