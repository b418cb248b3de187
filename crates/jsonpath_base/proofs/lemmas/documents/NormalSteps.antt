-- The query of a location's steps selects that location, where something is there; so a Normalized Path means its own location.
use Rattle.std.proofs.Common.{◌≡◌, ℕ, List, [], ◌∷◌, ◌++◌, length, map, Bool, true, false, pos, Option, Some, None, Result, Ok, Err, is_some, IfOk, IfSome, option_map, option_and_then, option_to_list, refl, sym, ap, ◌∙◌, inl, inr, append-nil, append_assoc, arith}
use Rattle.std.proofs.lemmas.Bool.{cases_lt}
use Rattle.std.proofs.lemmas.Bool.Decides.{nat_tests}
use Rattle.std.proofs.lemmas.Option.{slice_get_past}
use Rattle.std.specs.Prelude.{nat_lt}
use Rattle.jsonpath_base.specs.Prelude.Documents.{all_applied, at, below, child, Derives, Document, element, elements, HasIndexesInRange, index, indexed, is_singular, IsNormal, IsPut, IsReference, IsReferred, list, Location, name, Node, null, number, object, put_there, Refers, replaced, root_node, selected, Step, step_segment, steps_query, text, Tree, tree_there, truth}
use Rattle.jsonpath_parser.proofs.NormalQueries.{normal_derives}
use Rattle.jsonpath_parser.proofs.Unambiguous.{no_text_derives_two_trees}
use Rattle.jsonpath_base.proofs.PutLaws.{put_nowhere}
use Rattle.jsonpath_base.proofs.lemmas.documents.Trees.{item_at-elements}

-- an index from 0 on is that of an element, where there is one
indexed-element : (i : ℕ) (l : Location) (t : Tree) → indexed (pos i) (record { location = l; tree = t }) ≡ element i (record { location = l; tree = t })
indexed-element i l (list ts) =
    elim (cases_lt i (length (elements ts))) [
      | inl within ↦
          let here : nat_lt i (length (elements ts)) ≡ true = grind (arith, nat_tests) in
          rw here (append-nil _)
      | inr past ↦
          let none : nat_lt i (length (elements ts)) ≡ false = grind (arith, nat_tests) in
          let nothing : child (index i) (list ts) ≡ None = item_at-elements i ts ∙ slice_get_past (elements ts) i past in
          rw (none, nothing) refl
    ]
indexed-element i l (object ms) = refl
indexed-element i l null = refl
indexed-element i l (truth b) = refl
indexed-element i l (number n) = refl
indexed-element i l (text s) = refl

-- the segment of a step gives the child of that step, where there is one
pub step-child : (s : Step) (d : Document) (n : Node) → replaced (step_segment s) d n ≡ map (below n.location s) (option_to_list (child s n.tree))
step-child (name k) d n = refl
step-child (index i) d n = indexed-element i n.location n.tree

from-none : (l : Location) (d : Document) → all_applied (steps_query l) d [] ≡ []
from-none [] d = refl
from-none (s ∷ ss) d = from-none ss d

-- the steps lead from a node to the one at their end, where there is one
steps-lead : (l : Location) (d : Document) (n : Node) → all_applied (steps_query l) d (n ∷ []) ≡ map (λ t. record { location = n.location ++ l; tree = t }) (option_to_list (at l n.tree))
steps-lead [] d n = ap (λ m. record { location = m; tree = n.tree } ∷ []) (sym (append-nil n.location))
steps-lead (s ∷ ss) d n =
    ap (all_applied (steps_query ss) d) (append-nil (replaced (step_segment s) d n) ∙ step-child s d n) ∙ by_child (λ c. steps-lead ss d (below n.location s c)) (child s n.tree)
  where
    by_child : ((c : Tree) → all_applied (steps_query ss) d (below n.location s c ∷ []) ≡ map (λ t. record { location = (n.location ++ s ∷ []) ++ ss; tree = t }) (option_to_list (at ss c)))
        → (o : Option Tree) → all_applied (steps_query ss) d (map (below n.location s) (option_to_list o)) ≡ map (λ t. record { location = n.location ++ s ∷ ss; tree = t }) (option_to_list (option_and_then (at ss) o))
    by_child lead None = from-none ss d
    by_child lead (Some c) = lead c ∙ ap (λ m. map (λ t. record { location = m; tree = t }) (option_to_list (at ss c))) (append_assoc n.location (s ∷ []) ss)

-- so the query of a location selects it, where something is there
pub selected-steps : (l : Location) (d : Document) → selected (steps_query l) d ≡ map (λ t. l) (option_to_list (at l d.root))
selected-steps l d = ap (map (λ (n : Node). n.location)) (steps-lead l d (root_node d.root)) ∙ by_value (at l d.root)
  where
    by_value : (o : Option Tree) → map (λ (n : Node). n.location) (map (λ t. record { location = l; tree = t }) (option_to_list o)) ≡ map (λ t. l) (option_to_list o)
    by_value None = refl
    by_value (Some t) = refl

-- ---- what a Normalized Path means

-- each of its segments is one name or one index
steps_singular : (l : Location) → is_singular (steps_query l) ≡ true
steps_singular [] = refl
steps_singular (name k ∷ ss) = steps_singular ss
steps_singular (index i ∷ ss) = steps_singular ss

nothing_meant : (path : List ℕ) (l : Location) (doc : Document) (r : Option Location) → Derives 128 path (steps_query l) → selected (steps_query l) doc ≡ [] → IfSome r (Refers path doc) → r ≡ None
nothing_meant path l doc None derived none h = refl
nothing_meant path l doc (Some m) derived none h =
    let same = no_text_derives_two_trees 128 128 path h.query (steps_query l) h.derived derived in
    let both : m ∷ [] ≡ [] = sym h.only ∙ ap (λ q. selected q doc) same ∙ none in
    absurd cc

-- its own location, where something is there
pub normal_reference : (path : List ℕ) (l : Location) (doc : Document) (r : Option Location) (o : Option Tree) → IsNormal l path → HasIndexesInRange l → IsReference path doc r → at l doc.root ≡ o → r ≡ option_map (λ t. l) o
normal_reference path l doc r (Some t) is small h there =
    h.all l (record { query = steps_query l; derived = normal_derives 128 l path is small (omega arith); singular = steps_singular l; only = selected-steps l doc ∙ ap (λ o. map (λ t. l) (option_to_list o)) there })
normal_reference path l doc r None is small h there =
    nothing_meant path l doc r (normal_derives 128 l path is small (omega arith)) (selected-steps l doc ∙ ap (λ o. map (λ t. l) (option_to_list o)) there) h.found

put_so : (l : Location) (doc u after : Tree) (answer : Bool) (r : Option Location) (o : Option Tree) → at l doc ≡ o → r ≡ option_map (λ t. l) o → answer ≡ is_some r → after ≡ put_there r u doc → IsPut l doc u answer after
put_so l doc u after answer r (Some t) there is found left = record { found = found ∙ ap is_some is ∙ ap is_some (sym there); left = left ∙ ap (λ s. put_there s u doc) is }
put_so l doc u after answer r None there is found left = record { found = found ∙ ap is_some is ∙ ap is_some (sym there); left = left ∙ ap (λ s. put_there s u doc) is ∙ sym (put_nowhere l u doc there) }

-- what is put where the path means is put at the location
pub normal_put : (path : List ℕ) (l : Location) (doc : Document) (u after : Tree) (answer : Bool) (r : Option Location) → IsReference path doc r → answer ≡ is_some r → after ≡ put_there r u doc.root → IsNormal l path → HasIndexesInRange l → IsPut l doc.root u answer after
normal_put path l doc u after answer r means found left is small = put_so l doc.root u after answer r (at l doc.root) refl (normal_reference path l doc r (at l doc.root) is small means refl) found left

-- what the path refers to is what stands at the location
normal_referred : (path : List ℕ) (l : Location) (doc : Document) (o : Option Tree) → IsNormal l path → HasIndexesInRange l → IsReferred path doc o → o ≡ at l doc.root
normal_referred path l doc o is small h = h.there ∙ ap (λ r. tree_there r doc.root) (normal_reference path l doc h.reference (at l doc.root) is small h.means refl) ∙ there (at l doc.root) refl
  where
    there : (t : Option Tree) → at l doc.root ≡ t → tree_there (option_map (λ u. l) t) doc.root ≡ t
    there None e = refl
    there (Some u) e = e

pub normal_answered : {A E : Type 0} (tree : A → Tree) (path : List ℕ) (l : Location) (doc : Document) (r : Result (Option A) E) → IsNormal l path → HasIndexesInRange l
    → IfOk r (λ o. IsReferred path doc (option_map tree o)) → IfOk r (λ o. option_map tree o ≡ at l doc.root)
normal_answered tree path l doc (Ok o) is small h = normal_referred path l doc (option_map tree o) is small h
normal_answered tree path l doc (Err e) is small h = tt
