-- A `Doc` beside its tree.
use Rattle.std.proofs.Common.{◌≡◌, ℕ, List, [], ◌∷◌, ◌++◌, map, reverse, Vec, BTreeMap, String, Global, Some, string_bytes, refl, sym, ap, ◌∙◌, rules}
use Rattle.std.proofs.lemmas.List.{map-append, reverse-append}
use Rattle.cases.specs.declared.doc.Doc as doc
use Rattle.cases.specs.declared.doc.Doc.{Doc, the_lemmas}
use Rattle.jsonpath_base.specs.Tree.{Tree, list, object, elements, pairs, as_list, as_members}
use Rattle.cases.specs.DocTree.{doc_tree, pair_of, pairs_of, trees, members}

abbrev pub Entry : Type 0
Entry = String Global × Doc

abbrev pub entry_tree : Entry → String Global × Tree
entry_tree e = (e.0, doc_tree e.1)

abbrev pub pair : Entry → List ℕ × Tree
pair e = (string_bytes e.0, doc_tree e.1)

pub elements-trees : (ts : List Tree) → elements (trees ts) ≡ ts
elements-trees [] = refl
elements-trees (t ∷ ts) = ap (λ us. t ∷ us) (elements-trees ts)

pub pairs-members : (ms : List (List ℕ × Tree)) → pairs (members ms) ≡ ms
pairs-members [] = refl
pairs-members (m ∷ ms) = ap (λ ns. m ∷ ns) (pairs-members ms)

pub tree-List : (v : Vec Doc Global) → doc_tree (doc.List v) ≡ list (trees (map doc_tree v.items))
tree-List v = search (rules, the_lemmas)

pair_of-entry_tree : (es : List Entry) → map pair_of (map entry_tree es) ≡ pairs_of es
pair_of-entry_tree [] = refl
pair_of-entry_tree (e ∷ es) = ap (λ ms. pair e ∷ ms) (pair_of-entry_tree es)

tree-entries : (m : BTreeMap (String Global) Doc) → doc_tree (doc.Members m) ≡ object (members (reverse (map pair_of (map entry_tree m.entries))))
tree-entries m = search (rules, the_lemmas)

pub tree-Members : (m : BTreeMap (String Global) Doc) → doc_tree (doc.Members m) ≡ object (members (reverse (pairs_of m.entries)))
tree-Members m = tree-entries m ∙ ap (λ ms. object (members (reverse ms))) (pair_of-entry_tree m.entries)

-- the last entry walks first
pub last_first : (es : List Entry) (e : Entry) → reverse (pairs_of (es ++ e ∷ [])) ≡ pair e ∷ reverse (pairs_of es)
last_first es e = ap reverse (map-append pair es (e ∷ [])) ∙ reverse-append (pairs_of es) (pair e ∷ [])

-- ---- the parts

pub list_elements : (d : Doc) (v : Vec Doc Global) → d ≡ doc.List v → Some (map doc_tree v.items) ≡ as_list (doc_tree d)
list_elements d v e = sym (ap (λ x. as_list (doc_tree x)) e ∙ ap as_list (tree-List v) ∙ ap Some (elements-trees (map doc_tree v.items)))

pub object_members : (d : Doc) (m : BTreeMap (String Global) Doc) → d ≡ doc.Members m → Some (reverse (pairs_of m.entries)) ≡ as_members (doc_tree d)
object_members d m e = sym (ap (λ x. as_members (doc_tree x)) e ∙ ap as_members (tree-Members m) ∙ ap Some (pairs-members (reverse (pairs_of m.entries))))
