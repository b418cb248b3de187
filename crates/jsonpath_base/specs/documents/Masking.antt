-- What masking reveals of a document: what queries without a filter select is masked so that nothing is revealed of what was there.
use Rattle.std.specs.Prelude.{◌≡◌, ℕ, List, [], ◌∷◌, Bool, true, false, ◌&&◌, IsTrue, IsSome, IfSome, is_some}
use Rattle.std.specs.List.{flat_map, list_all}
use Rattle.jsonpath_parser.specs.Location.{name, Location}
use Rattle.jsonpath_parser.specs.tree.Syntax as syntax
use Rattle.jsonpath_parser.specs.tree.Syntax.{Selector, filter, Selectors, no_selectors, selector, Segment, one, several, descendant, no_segments, segment, Query}
use Rattle.jsonpath_base.specs.Overwritten.{overwritten}
use Rattle.jsonpath_base.specs.Places.{at}
use Rattle.jsonpath_base.specs.Tree.{Tree, null, as_text, has_distinct_names}
use Rattle.jsonpath_base.specs.Without.{is_among, is_same_step}
use Rattle.jsonpath_base.specs.documents.Document.{Document}
use Rattle.jsonpath_base.specs.documents.Meaning.{selected}

-- ---- queries without a filter (RFC 9535, 2.3.5)

abbrev pub is_no_filter : Selector → Bool
is_no_filter (filter f) = false
is_no_filter _ = true

abbrev pub are_no_filters : Selectors → Bool
are_no_filters no_selectors = true
are_no_filters (selector s ss) = is_no_filter s && are_no_filters ss

abbrev pub segment_has_no_filter : Segment → Bool
segment_has_no_filter (one s) = is_no_filter s
segment_has_no_filter (several ss) = are_no_filters ss
segment_has_no_filter (descendant g) = segment_has_no_filter g

-- no segment has one
abbrev pub has_no_filter : Query → Bool
has_no_filter no_segments = true
has_no_filter (segment g gs) = segment_has_no_filter g && has_no_filter gs

-- ---- what masking reveals

-- the locations that the queries select in a document, those of the first query first
abbrev pub all_selected : List Query → Document → List Location
all_selected qs doc = flat_map (λ q. selected q doc) qs

-- The two are one tree except for what is at the locations and below them: with null there they are the same.
abbrev pub AgreeBut : List Location → Tree → Tree → Type 0
AgreeBut ls t other = overwritten (is_among ls) null t ≡ overwritten (is_among ls) null other

-- Documents that differ only in what a query without a filter selects in one of them are the same once that is masked in each: the result reveals
-- nothing of what was there.
abbrev pub MaskingTellsNothing : Type 0
MaskingTellsNothing = (q : Query) (u : Tree) (d e : Document) → IsTrue (has_no_filter q) → AgreeBut (selected q d) d.root e.root
    → overwritten (is_among (selected q d)) u d.root ≡ overwritten (is_among (selected q e)) u e.root

-- The same if what several queries select is masked at once.
abbrev pub MaskingAllTellsNothing : Type 0
MaskingAllTellsNothing = (qs : List Query) (u : Tree) (d e : Document) → IsTrue (list_all has_no_filter qs) → AgreeBut (all_selected qs d) d.root e.root
    → overwritten (is_among (all_selected qs d)) u d.root ≡ overwritten (is_among (all_selected qs e)) u e.root

-- ---- what `$..name` selects

abbrev pub named_anywhere : List ℕ → Query
named_anywhere k = segment (descendant (one (syntax.Selector.name k))) no_segments

-- its last step is that name
abbrev pub ends_in : List ℕ → Location → Bool
ends_in k [] = false
ends_in k (s ∷ []) = is_same_step (name k) s
ends_in k (s ∷ r ∷ l) = ends_in k (r ∷ l)

-- `$..name` selects exactly the locations with a value whose last step is that name.
abbrev pub NamedBelow : Type 0
NamedBelow = (k : List ℕ) (doc : Document) (l : Location) → IsTrue (has_distinct_names doc.root) → is_among (selected (named_anywhere k) doc) l ≡ (ends_in k l && is_some (at l doc.root))

-- So if all of them are masked, and maybe others, by a text, the only value of that name is the mask.
abbrev pub NamedIsMasked : Type 0
NamedIsMasked = (k : List ℕ) (doc : Document) (set : Location → Bool) (u : Tree) → IsTrue (has_distinct_names doc.root) → ((l : Location) → IsTrue (is_among (selected (named_anywhere k) doc) l) → IsTrue (set l)) → IsSome (as_text u)
    → (l : Location) → IsTrue (ends_in k l) → IfSome (at l (overwritten set u doc.root)) (λ t. t ≡ u)
