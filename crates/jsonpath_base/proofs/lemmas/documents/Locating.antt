-- A query is a location's exactly where each of its segments is a step.
use Rattle.std.proofs.Common.{◌≡◌, ℕ, suc, pos, negsuc, arith, length, List, [], ◌∷◌, map, Option, Some, None, Result, Ok, Err, IsSome, IfOk, IfErr, MatchResult, refl, sym, ap, ◌∙◌, subst}
use Rattle.std.proofs.lemmas.List.{length-map}
use Rattle.std.proofs.lemmas.List.Elements.{All-from_recursion}
use Rattle.jsonpath_base.specs.Prelude.Documents.{AllByRecursion, at, descendant, Document, constant_prefix, fixed_step, index, IsLocationOf, JsonPathError, Location, location_view, name, no_segments, Node, nodelist, NormalizedPathDerivesItsSteps, one, option_map_or, OutOfMemory, owned_step, Query, query_view, Segment, segment, Segments, segments_in, selected, SelectedIsThere, Selector, several, Step, step_segment, steps_query, StepsSelectTheirLocation, Tree}
use Rattle.jsonpath_parser.proofs.NormalQueries.{normal_derives}
use Rattle.jsonpath_parser.proofs.laws.tree.ViewEquations.{query_view-segments}
use Rattle.jsonpath_parser.specs.tree.Syntax as syntax
use Rattle.jsonpath_parser.specs.declared.tree.model.JpQuery.{JpQuery}
use Rattle.jsonpath_parser.specs.declared.tree.model.Segment as model
use Rattle.jsonpath_base.specs.declared.step.Step as owned
use Rattle.jsonpath_base.proofs.lemmas.documents.NodesAt.{nodes_at}
use Rattle.jsonpath_base.proofs.lemmas.documents.NormalSteps.{selected-steps}

-- ---- segments and steps

-- a segment that has a step is that of the step
pub step_is : (g : Segment) (s : Step) → fixed_step g ≡ Some s → g ≡ step_segment s
step_is (one (syntax.Selector.name k)) s e = let same : name k ≡ s = cc in ap step_segment same
step_is (one (syntax.Selector.index (pos n))) s e = let same : index n ≡ s = cc in ap step_segment same
step_is (one (syntax.Selector.index (negsuc n))) s e = absurd cc
step_is (one syntax.Selector.wildcard) s e = absurd cc
step_is (one (syntax.Selector.slice start end step)) s e = absurd cc
step_is (one (syntax.Selector.filter f)) s e = absurd cc
step_is (several ss) s e = absurd cc
step_is (descendant g) s e = absurd cc

-- the fixed part of a location's query is the location
prefix_of_steps : (l : Location) → constant_prefix (steps_query l) ≡ l
prefix_of_steps [] = refl
prefix_of_steps (name k ∷ ss) = ap (λ l. name k ∷ l) (prefix_of_steps ss)
prefix_of_steps (index i ∷ ss) = ap (λ l. index i ∷ l) (prefix_of_steps ss)

abbrev segment_count : Segments → ℕ
segment_count no_segments = 0
segment_count (segment g gs) = suc (segment_count gs)

count_in : (gs : List model.Segment) → segment_count (segments_in gs) ≡ length gs
count_in [] = refl
count_in (g ∷ gs) = ap suc (count_in gs)

count_steps : (l : Location) → segment_count (steps_query l) ≡ length l
count_steps [] = refl
count_steps (s ∷ ss) = ap suc (count_steps ss)

all_fixed_by : (g : Segment) (gs : Segments) (n : ℕ) (o : Option Step) → fixed_step g ≡ o → (length (constant_prefix gs) ≡ n → gs ≡ steps_query (constant_prefix gs))
    → length (option_map_or (λ s. s ∷ constant_prefix gs) o []) ≡ suc n → segment g gs ≡ steps_query (option_map_or (λ s. s ∷ constant_prefix gs) o [])
all_fixed_by g gs n None is more e = absurd (omega (arith, e))
all_fixed_by g gs n (Some s) is more e = ap (λ h. segment h gs) (step_is g s is) ∙ ap (segment (step_segment s)) (more (omega (arith, e)))

-- a query with as many segments as its fixed part has steps is the query of that location
all_fixed : (gs : Segments) → length (constant_prefix gs) ≡ segment_count gs → gs ≡ steps_query (constant_prefix gs)
all_fixed no_segments e = refl
all_fixed (segment g gs) e = all_fixed_by g gs (segment_count gs) (fixed_step g) refl (all_fixed gs) e

count_of : (q : JpQuery) → segment_count (query_view q) ≡ length q.segments.items
count_of q = ap segment_count (query_view-segments q) ∙ count_in q.segments.items

steps_there : (q : JpQuery) (ss : List owned.Step) → location_view ss ≡ constant_prefix (query_view q) → length ss ≡ length (constant_prefix (query_view q))
steps_there q ss is = sym (length-map ss owned_step) ∙ ap length is

-- the steps at the front of a query are its location exactly where it has no further segment
pub whole_location : (q : JpQuery) (ss : List owned.Step) → location_view ss ≡ constant_prefix (query_view q) → length ss ≡ length q.segments.items → IsLocationOf (query_view q) (Some (location_view ss))
whole_location q ss is full = record {
  found = all_fixed (query_view q) (sym (steps_there q ss is) ∙ full ∙ sym (count_of q)) ∙ ap steps_query (sym is);
  all = λ m same. ap Some (is ∙ ap constant_prefix same ∙ prefix_of_steps m);
}

pub no_location : (q : JpQuery) (ss : List owned.Step) → location_view ss ≡ constant_prefix (query_view q) → (length ss ≡ length q.segments.items → ⊥) → IsLocationOf (query_view q) None
no_location q ss is more = record {
  found = tt;
  all = λ m same. absurd (more (steps_there q ss is ∙ ap length (ap constant_prefix same ∙ prefix_of_steps m) ∙ sym (count_steps m) ∙ sym (ap segment_count same) ∙ count_of q));
}

-- ---- what a text means

abbrev Reading : {X : Type 0} → (X → Option Location) → Query → Result X JsonPathError → Type 0
Reading view q r = IfOk r (λ o. IsLocationOf q (view o))

-- whatever query it derives has this location
pub only_location : {X : Type 0} (view : X → Option Location) (q t : Query) (r : Result X JsonPathError) → q ≡ t → Reading view q r → IfErr r (λ e. e ≡ OutOfMemory) → MatchResult r (λ o. IsLocationOf t (view o)) (λ e. e ≡ OutOfMemory)
only_location view q t (Ok o) same h refused = subst (λ s. IsLocationOf s (view o)) same h
only_location view q t (Err e) same h refused = refused

-- that of a Normalized Path is its own
pub own_location : {X : Type 0} (view : X → Option Location) (q : Query) (l : Location) (r : Result X JsonPathError) → q ≡ steps_query l → Reading view q r → IfErr r (λ e. e ≡ OutOfMemory) → MatchResult r (λ o. view o ≡ Some l) (λ e. e ≡ OutOfMemory)
own_location view q l (Ok o) same h refused = h.all l same
own_location view q l (Err e) same h refused = refused

-- ---- the laws

pub normalized_path_derives_its_steps : NormalizedPathDerivesItsSteps
normalized_path_derives_its_steps depth l text is small deep = normal_derives depth l text is small deep

pub steps_select_their_location : StepsSelectTheirLocation
steps_select_their_location l doc = selected-steps l doc

some_at : (o : Option Tree) (t : Tree) → o ≡ Some t → IsSome o
some_at o t e = subst IsSome (sym e) refl

all_there : (doc : Document) (ns : List Node) → AllByRecursion (λ n. at n.location doc.root ≡ Some n.tree) ns → AllByRecursion (λ l. IsSome (at l doc.root)) (map (λ n. n.location) ns)
all_there doc [] h = tt
all_there doc (n ∷ ns) h = (some_at (at n.location doc.root) n.tree h.0, all_there doc ns h.1)

pub selected_is_there : SelectedIsThere
selected_is_there q doc distinct = All-from_recursion (λ l. IsSome (at l doc.root)) (selected q doc) (all_there doc (nodelist q doc) (nodes_at q doc distinct))
