-- A Normalized Path selects the node at its location.
use Rattle.std.proofs.Common.{◌≡◌, ℕ, List, [], ◌∷◌, map, Option, Some, None, option_to_list, refl, sym, ap, ◌∙◌, subst}
use Rattle.jsonpath_base.specs.Prelude.Documents.{AllZip, at, Document, index, IsNodeAt, IsNormal, IsPathAt, IsValueAt, Location, name, node_there, Query, segments_patterns, selected, steps_query, Tree}
use Rattle.jsonpath_base.proofs.lemmas.documents.{selected-steps}

-- what is shown of the nodes of a location's query is the node there
pub only_node : (l : Location) (doc : Document) (q : Query) (path : List ℕ) (answer : List (List ℕ × Tree)) → IsNormal l path → q ≡ steps_query l → AllZip (IsNodeAt doc) (selected q doc) answer → answer ≡ node_there doc l path
only_node l doc q path answer is same all =
    by_value (at l doc.root) refl answer (subst (λ ls. AllZip (IsNodeAt doc) ls answer) (ap (λ v. selected v doc) same ∙ selected-steps l doc) all)
  where
    by_value : (o : Option Tree) → at l doc.root ≡ o → (answer : List (List ℕ × Tree)) → AllZip (IsNodeAt doc) (map (λ t. l) (option_to_list o)) answer → answer ≡ map (λ t. (path, t)) (option_to_list o)
    by_value None e [] h = refl
    by_value None e (a ∷ more) h = absurd h
    by_value (Some t) e [] h = absurd h
    by_value (Some t) e (a ∷ []) h =
        let text_is : a.0 ≡ path = h.0.0.0 ∙ sym is in
        let there = h.0.1 in
        let tree_is : a.1 ≡ t = cc in
        ap (λ p. (p, a.1) ∷ []) text_is ∙ ap (λ u. (path, u) ∷ []) tree_is
    by_value (Some t) e (a ∷ b ∷ more) h = absurd h.1

-- no pattern stands in it
pub steps_patterns : (l : Location) → segments_patterns (steps_query l) ≡ []
steps_patterns [] = refl
steps_patterns (name k ∷ ss) = steps_patterns ss
steps_patterns (index i ∷ ss) = steps_patterns ss

-- what is shown of such a node is its value, or its path

pub only_value : (l : Location) (doc : Document) (q : Query) (answer : List Tree) → q ≡ steps_query l → AllZip (IsValueAt doc) (selected q doc) answer → answer ≡ option_to_list (at l doc.root)
only_value l doc q answer same all =
    by_value (at l doc.root) refl answer (subst (λ ls. AllZip (IsValueAt doc) ls answer) (ap (λ v. selected v doc) same ∙ selected-steps l doc) all)
  where
    by_value : (o : Option Tree) → at l doc.root ≡ o → (answer : List Tree) → AllZip (IsValueAt doc) (map (λ t. l) (option_to_list o)) answer → answer ≡ option_to_list o
    by_value None e [] h = refl
    by_value None e (a ∷ more) h = absurd h
    by_value (Some t) e [] h = absurd h
    by_value (Some t) e (a ∷ []) h =
        let there = h.0 in
        let tree_is : a ≡ t = cc in
        ap (λ u. u ∷ []) tree_is
    by_value (Some t) e (a ∷ b ∷ more) h = absurd h.1

pub only_path : (l : Location) (doc : Document) (q : Query) (path : List ℕ) (answer : List (List ℕ)) → IsNormal l path → q ≡ steps_query l → AllZip (IsPathAt doc) (selected q doc) answer → answer ≡ map (λ t. path) (option_to_list (at l doc.root))
only_path l doc q path answer is same all =
    by_value (at l doc.root) answer (subst (λ ls. AllZip (IsPathAt doc) ls answer) (ap (λ v. selected v doc) same ∙ selected-steps l doc) all)
  where
    by_value : (o : Option Tree) (answer : List (List ℕ)) → AllZip (IsPathAt doc) (map (λ t. l) (option_to_list o)) answer → answer ≡ map (λ t. path) (option_to_list o)
    by_value None [] h = refl
    by_value None (a ∷ more) h = absurd h
    by_value (Some t) [] h = absurd h
    by_value (Some t) (a ∷ []) h = ap (λ p. p ∷ []) (h.0.0 ∙ sym is)
    by_value (Some t) (a ∷ b ∷ more) h = absurd h.1
