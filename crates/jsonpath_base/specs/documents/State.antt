-- What a state holds, what is found from a pointer, and how states are joined: what `process` works with. A state may hold anything, whether or not a
-- query from the root could make it.
use Rattle.std.specs.Prelude.{◌≡◌, ◌⊎◌, ℕ, ℤ, List, [], ◌∷◌, ◌++◌, map, filter, Bool, true, false, Option, Some, None, ◌&&◌, bytes_eq, codes, string_bytes, IsTrue, All}
use Rattle.std.specs.List.{flat_map, AllZip}
use Rattle.jsonpath_parser.specs.Normal.{steps_text}
use Rattle.jsonpath_base.specs.Same.{same}
use Rattle.jsonpath_base.specs.Tree.{Tree, list, object}
use Rattle.jsonpath_base.specs.documents.Document.{Document}
use Rattle.jsonpath_base.specs.documents.Meaning.{named, indexed, sliced}
use Rattle.jsonpath_base.specs.documents.Node.{Node, root_node, children, subtree}
use Rattle.jsonpath_base.specs.declared.documents.state.data.Data.{Data}
use Rattle.jsonpath_base.specs.declared.documents.state.data.Data.TheVariants.{Ref, Refs, Value, Nothing}
use Rattle.jsonpath_base.specs.declared.documents.state.pointer.Pointer.{Pointer}

-- a pointer: the text of its path, which may be any text, and the tree of its value
pub record Target : Type 0 where
  pub path : List ℕ
  pub tree : Tree

-- a `Data`
pub data Content : Type 0 where
  ref : Target → Content
  refs : List Target → Content
  value : Tree → Content
  nothing : Content

abbrev pub target_of : {A : Type 0} → (A → Tree) → Pointer A → Target
target_of tree p = record { path = string_bytes p.path; tree = tree p.inner.now }

abbrev pub targets_of : {A : Type 0} → (A → Tree) → List (Pointer A) → List Target
targets_of tree ps = map (target_of tree) ps

abbrev pub content_of : {A : Type 0} → (A → Tree) → Data A → Content
content_of tree (Ref p) = ref (target_of tree p)
content_of tree (Refs ps) = refs (targets_of tree ps.items)
content_of tree (Value v) = value (tree v)
content_of tree Nothing = nothing

-- all its values are whole
abbrev pub PointersAreWhole : {A : Type 0} → (A → Bool) → List (Pointer A) → Type 0
PointersAreWhole whole ps = All (λ p. IsTrue (whole p.inner.now)) ps

abbrev pub DataIsWhole : {A : Type 0} → (A → Bool) → Data A → Type 0
DataIsWhole whole (Ref p) = IsTrue (whole p.inner.now)
DataIsWhole whole (Refs ps) = PointersAreWhole whole ps.items
DataIsWhole whole (Value v) = IsTrue (whole v)
DataIsWhole whole Nothing = Unit {0}

-- ---- its nodes

abbrev pub targets : Content → List Target
targets (ref p) = p ∷ []
targets (refs ps) = ps
targets _ = []

abbrev pub pointers : {A : Type 0} → Data A → List (Pointer A)
pointers (Ref p) = p ∷ []
pointers (Refs ps) = ps.items
pointers _ = []

-- as a list, where it is a node or nodes
abbrev pub ok_refs : {A : Type 0} → Data A → Option (List (Pointer A))
ok_refs (Ref p) = Some (p ∷ [])
ok_refs (Refs ps) = Some ps.items
ok_refs _ = None

-- its owned value
abbrev pub ok_value : {A : Type 0} → Data A → Option A
ok_value (Value v) = Some v
ok_value _ = None

-- ---- equality: of one kind, with values that are the same and paths of equal text

abbrev pub targets_same : List Target → List Target → Bool
targets_same [] [] = true
targets_same (p ∷ ps) (q ∷ qs) = (same p.tree q.tree && bytes_eq p.path q.path) && targets_same ps qs
targets_same _ _ = false

abbrev pub contents_same : Content → Content → Bool
contents_same (ref p) (ref q) = same p.tree q.tree && bytes_eq p.path q.path
contents_same (refs ps) (refs qs) = targets_same ps qs
contents_same (value t) (value u) = same t u
contents_same nothing nothing = true
contents_same _ _ = false

-- ---- `flat_map`: what the function returns at a node; of several nodes, the nodes of what it returns at each, in order; and else nothing

abbrev pub mapped : (Target → Content) → Content → Content
mapped f (ref p) = f p
mapped f (refs ps) = refs (flat_map (λ p. targets (f p)) ps)
mapped f _ = nothing

abbrev pub AreRefs : {A : Type 0} → Data A → List (Pointer A) → Type 0
AreRefs (Refs ps) qs = ps.items ≡ qs
AreRefs _ qs = ⊥

abbrev pub HasNothing : {A : Type 0} → Data A → Type 0
HasNothing Nothing = Unit {0}
HasNothing _ = ⊥

-- The same for any closure: Gives p d says that d is what it returned at p.
abbrev pub Made : {A : Type 0} → (Pointer A → Data A → Type 0) → Data A → Data A → Type 0
Made Gives (Ref p) d = Gives p d
Made {A} Gives (Refs ps) d = (ds : List (Data A)) × AllZip Gives ps.items ds × AreRefs d (flat_map pointers ds)
Made Gives (Value v) d = HasNothing d
Made Gives Nothing d = HasNothing d

-- what is returned at a pointer whose value is whole is whole
abbrev pub GivesWhole : {A : Type 0} → (A → Bool) → (Pointer A → Data A → Type 0) → Type 0
GivesWhole {A} whole Gives = (p : Pointer A) (d : Data A) → IsTrue (whole p.inner.now) → Gives p d → DataIsWhole whole d

-- some element has P
abbrev pub SomeHas : {X : Type 0} → (X → Type 0) → List X → Type 0
SomeHas P [] = ⊥
SomeHas P (x ∷ xs) = P x ⊎ SomeHas P xs

-- ---- `reduce`: the nodes of both, or those of one if the other is nothing; and else nothing

abbrev pub reduced : Content → Content → Content
reduced (ref p) (ref q) = refs (p ∷ q ∷ [])
reduced (ref p) (refs qs) = refs (p ∷ qs)
reduced (refs ps) (ref q) = refs (ps ++ q ∷ [])
reduced (refs ps) (refs qs) = refs (ps ++ qs)
reduced (ref p) nothing = ref p
reduced (refs ps) nothing = refs ps
reduced nothing (ref q) = ref q
reduced nothing (refs qs) = refs qs
reduced _ _ = nothing

-- ---- what is found from a pointer: nodes below its value, each with the steps to it after the pointer's path

abbrev pub under : List ℕ → Node → Target
under path n = record { path = path ++ steps_text n.location; tree = n.tree }

abbrev pub found_from : Target → (Node → List Node) → List Target
found_from p f = map (under p.path) (f (root_node p.tree))

-- the first, if there is one
abbrev pub only : List Target → Content
only [] = nothing
only (p ∷ ps) = ref p

-- all, if there is one
abbrev pub some : List Target → Content
some [] = nothing
some (p ∷ ps) = refs (p ∷ ps)

-- all, maybe none, if the value is a list
abbrev pub in_list : Tree → List Target → Content
in_list (list ts) ps = refs ps
in_list _ ps = nothing

abbrev pub has_parts : Tree → Bool
has_parts (list ts) = true
has_parts (object ms) = true
has_parts _ = false

-- all, maybe none, if the value is a list or an object
abbrev pub in_parts : Bool → List Target → Content
in_parts true ps = refs ps
in_parts false ps = nothing

abbrev pub named_from : List ℕ → Target → Content
named_from k p = only (found_from p (named k))

abbrev pub indexed_from : ℤ → Target → Content
indexed_from i p = only (found_from p (indexed i))

abbrev pub children_from : Target → Content
children_from p = some (found_from p children)

abbrev pub sliced_from : Option ℤ → Option ℤ → Option ℤ → Target → Content
sliced_from start end step p = in_list p.tree (found_from p (sliced start end step))

-- the lists and objects there and below, each before those below it
abbrev pub parents_in : Target → List Target
parents_in p = filter (λ q. has_parts q.tree) (found_from p subtree)

abbrev pub parents_from : Target → Content
parents_from p = in_parts (has_parts p.tree) (parents_in p)

-- a value by itself, with the empty path
abbrev pub inside : Tree → Content
inside t = ref (record { path = []; tree = t })

-- the children at which the test holds, each tested by itself
abbrev pub kept_from : (Content → Bool) → Target → Content
kept_from holds p = in_parts (has_parts p.tree) (filter (λ q. holds (inside q.tree)) (found_from p children))

-- the document itself, at `$`
abbrev pub root_content : Document → Content
root_content d = ref (record { path = codes "$"; tree = d.root })
