-- What is made of a `Value`, part by part.
use Rattle.std.proofs.Common.{Less, Greater, ◌≡◌, List, [], ◌∷◌, ◌++◌, map, reverse, String, BTreeMap, Global, string_bytes, string_cmp, nat_cmp, refl, sym, ap, ◌∙◌}
use Rattle.std.proofs.lemmas.Cmp.{nat_list_cmp_total}
use Rattle.std.specs.Cmp.Lexicographic.{slice_cmp}
use Rattle.std.specs.List.{AllByRecursion}
use Rattle.std.specs.List.Sorted.{IsStrictlySortedBy}
use Rattle.std.specs.Map.{keys_of}
use Rattle.std.specs.Ordering.{ordering_reverse}
use Rattle.serde_json.specs.View.{items_view, members_view}
use Rattle.serde_json.specs.declared.value.Value as value
use Rattle.serde_json.specs.declared.value.Value.{Value}
use Rattle.serde_json.proofs.Views as json
use Rattle.serde_json.proofs.Views.{view-Object}
use Rattle.jsonpath_base.specs.Tree.{Tree, tree, object}
use Rattle.jsonpath_base.specs.Values.{tree_of, value_tree, trees_of, members_of}
use Rattle.cases.specs.declared.doc.Doc as doc
use Rattle.cases.specs.declared.doc.Doc.{Doc}
use Rattle.cases.specs.DocTree.{doc_tree, pairs_of, trees, members}
use Rattle.cases.specs.Turned.{turned, turned_trees, turned_members}
use Rattle.cases.proofs.Copying.{put}
use Rattle.cases.proofs.Docs.{tree-Members}
use Rattle.cases.proofs.Reversing.{Named}

abbrev pub turned_value : Value → Tree
turned_value v = turned (value_tree v)

abbrev pub turned_entries : List json.Entry → Named
turned_entries es = map (λ e. (string_bytes e.0, turned (value_tree e.1))) es

pub turned_trees-items : (vs : List Value) → turned_trees (trees_of (items_view vs)) ≡ trees (map turned_value vs)
turned_trees-items [] = refl
turned_trees-items (v ∷ vs) = ap (λ ts. tree (turned_value v) ts) (turned_trees-items vs)

pub turned_members-entries : (es : List json.Entry) → turned_members (members_of (members_view es)) ≡ turned_entries es
turned_members-entries [] = refl
turned_members-entries (e ∷ es) = ap (λ ms. (string_bytes e.0, turned_value e.1) ∷ ms) (turned_members-entries es)

below_middle : (first : json.Entry) (es : List json.Entry) (e : json.Entry) (more : List json.Entry) → AllByRecursion (λ y. string_cmp first.0 y ≡ Less) (keys_of (es ++ e ∷ more)) → string_cmp first.0 e.0 ≡ Less
below_middle first [] e more h = h.0
below_middle first (x ∷ es) e more h = below_middle first es e more h.1

-- a name that is above those before it goes last
pub put_turned : (done : List json.Entry) (e : json.Entry) (more : List json.Entry) → IsStrictlySortedBy string_cmp (keys_of (done ++ e ∷ more)) → put (string_bytes e.0) (turned_value e.1) (turned_entries done) ≡ turned_entries (done ++ e ∷ [])
unfolding IsStrictlySortedBy
put_turned [] e more h = refl
put_turned (first ∷ done) e more h =
    let above : slice_cmp nat_cmp (string_bytes e.0) (string_bytes first.0) ≡ Greater =
    nat_list_cmp_total.antisymm (string_bytes e.0) (string_bytes first.0) ∙ ap ordering_reverse (below_middle first done e more h.0) in
    rw above (ap (λ ms. (string_bytes first.0, turned_value first.1) ∷ ms) (put_turned done e more h.1))

pub of_object : (v : Value) (m : BTreeMap (String Global) Value) (ds : BTreeMap (String Global) Doc) → v ≡ value.Object m → pairs_of ds.entries ≡ turned_members (members_of (members_view m.entries)) → doc_tree (doc.Members ds) ≡ turned_value v
of_object v m ds e h = tree-Members ds ∙ ap (λ ms. object (members (reverse ms))) h ∙ sym (ap turned_value e ∙ ap (λ d. turned (tree_of d)) (view-Object m))
