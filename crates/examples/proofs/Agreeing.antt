-- Lists of what is shown of the same nodes.
use Rattle.std.proofs.Common.{◌≡◌, ℕ, List, [], ◌∷◌, map, refl, sym, ap₂, ◌∙◌}
use Rattle.std.specs.List.{AllZip}
use Rattle.jsonpath_rust.specs.Location.{Location}
use Rattle.jsonpath_rust.specs.Tree.{Tree}
use Rattle.jsonpath_rust.specs.documents.Document.{Document}
use Rattle.jsonpath_rust.specs.documents.Answer.{IsNodeAt, IsPathAt, IsValueAt}

-- a list is read off another one, where at each place of a third what is in it is read off what is in the other
alike : {A B C : Type 0} (P : A → B → Type 0) (Q : A → C → Type 0) (f : C → B) → ((x : A) (y : B) (z : C) → P x y → Q x z → y ≡ f z)
    → (xs : List A) (ys : List B) (zs : List C) → AllZip P xs ys → AllZip Q xs zs → ys ≡ map f zs
alike P Q f one [] [] [] h k = refl
alike P Q f one [] [] (z ∷ zs) h k = absurd k
alike P Q f one [] (y ∷ ys) zs h k = absurd h
alike P Q f one (x ∷ xs) [] zs h k = absurd h
alike P Q f one (x ∷ xs) (y ∷ ys) [] h k = absurd k
alike P Q f one (x ∷ xs) (y ∷ ys) (z ∷ zs) h k = ap₂ (λ v vs. v ∷ vs) (one x y z h.0 k.0) (alike P Q f one xs ys zs h.1 k.1)

-- the paths of nodes are those that are shown with their values
pub paths_alike : (doc : Document) (ls : List Location) (paths : List (List ℕ)) (nodes : List (List ℕ × Tree)) → AllZip (IsPathAt doc) ls paths → AllZip (IsNodeAt doc) ls nodes → paths ≡ map (λ n. n.0) nodes
paths_alike doc = alike (IsPathAt doc) (IsNodeAt doc) (λ n. n.0) (λ l path node h k. h.0 ∙ sym k.0.0)

-- and their values are those that are shown with their paths
pub values_alike : (doc : Document) (ls : List Location) (values : List Tree) (nodes : List (List ℕ × Tree)) → AllZip (IsValueAt doc) ls values → AllZip (IsNodeAt doc) ls nodes → values ≡ map (λ n. n.1) nodes
values_alike doc = alike (IsValueAt doc) (IsNodeAt doc) (λ n. n.1) one
  where
    one : (l : Location) (value : Tree) (node : List ℕ × Tree) → IsValueAt doc l value → IsNodeAt doc l node → value ≡ node.1
    one l value node h k =
        let there = k.1 in
        cc
