-- The tree of a `Doc`.
use Rattle.std.specs.Prelude.{ℕ, List, [], ◌∷◌, map, reverse, Bool, true, if◌then◌else◌, String, string_bytes, bytes_eq, codes}
use Rattle.std.specs.List.{list_all}
use Rattle.std.specs.declared.alloc.Global.{Global}
use Rattle.cases.specs.declared.doc.Doc.{Doc, fold-Doc}
use Rattle.cases.specs.declared.doc.Doc.TheOpen.{Doc-F}
use Rattle.jsonpath_base.specs.Tree.{Tree, null, truth, number, text, list, object, Trees, no_trees, tree, Members, no_members, member, has_distinct_names}
use Rattle.jsonpath_base.specs.Same.{same}

abbrev pub trees : List Tree → Trees
trees [] = no_trees
trees (t ∷ ts) = tree t (trees ts)

abbrev pub members : List (List ℕ × Tree) → Members
members [] = no_members
members (m ∷ ms) = member m.0 m.1 (members ms)

-- a name and its tree
abbrev pub pair_of : String Global × Tree → List ℕ × Tree
pair_of m = (string_bytes m.0, m.1)

-- one level, with each document inside already seen as its tree; members walk from the greatest name to the least
abbrev pub doc_step : Doc-F Tree → Tree
doc_step Doc-F.Null = null
doc_step (Doc-F.Bool b) = truth b
doc_step (Doc-F.Num n) = number n
doc_step (Doc-F.Text s) = text (string_bytes s)
doc_step (Doc-F.List v) = list (trees v.items)
doc_step (Doc-F.Members m) = object (members (reverse (map pair_of m.entries)))

abbrev pub doc_tree : Doc → Tree
doc_tree = fold-Doc Tree doc_step

-- Names are distinct in each object of a `Doc`: its maps keep them in order. That stands here so that a proof has it of every whole document.
abbrev pub doc_is_whole : Doc → Bool
doc_is_whole d = has_distinct_names (doc_tree d)

-- the names and trees of a map's entries, in the order of their names
abbrev pub pairs_of : List (String Global × Doc) → List (List ℕ × Tree)
pairs_of es = map (λ e. (string_bytes e.0, doc_tree e.1)) es

-- whether each is the same as the first
abbrev pub all_same : List Tree → Bool
all_same [] = true
all_same (t ∷ ts) = list_all (same t) (t ∷ ts)

-- what a custom function answers: `all_same` that truth, any other name null
abbrev pub doc_custom : List ℕ → List Tree → Tree
doc_custom name ts = if bytes_eq name (codes "all_same") then truth (all_same ts) else null
