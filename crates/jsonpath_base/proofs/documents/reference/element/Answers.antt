use Rattle.std.proofs.Common.{◌≡◌, map, length, Some, option_map, All, IsTrue, sym, ◌∙◌, ap, subst, w64, rules, SFits, arith}
use Rattle.std.proofs.lemmas.Int.{to_z-of_z}
use Rattle.std.proofs.lemmas.List.{length-map}
use Rattle.jsonpath_base.specs.Prelude.Documents.{reached_view, element_of, value_is_whole, value_tree}
use Rattle.jsonpath_base.proofs.lemmas.documents.{all_at, element_none, element_some}
use Rattle.jsonpath_base.proofs.Views.{as_list-value_tree, as_list_whole}
use Rattle.jsonpath_base.proofs.documents.reference.element.Goals as goal

pub returns-in_err-position-clause-value : goal.returns-in_err-position-clause-value
returns-in_err-position-clause-value c =
    let items = c.in_ok-items.items.now.items in
    let is_list = as_list-value_tree c.args.value.now (Some c.in_ok-items.items) c.in_ok-items.ensures in
    let size : c.len.result ≡ length items = omega (arith, c.len.ensures, c.in_ok-items.items.now.ok.0) in
    let len : c.len.result ≡ length (map value_tree items) = size ∙ sym (length-map items value_tree) in
    let fits : SFits w64 c.args.index = search rules in
    let no_place = c.in_err-position.ensures ∙ ap (λ i. element_of i c.len.result) (to_z-of_z w64 c.args.index fits) ∙ ap (element_of c.args.index) len in
    ap (option_map reached_view) c.from_residual-in_err-position.ensures ∙ element_none (value_tree c.args.value.now) items c.args.index is_list no_place

pub returns-clause-value : goal.returns-clause-value
returns-clause-value c =
    let found = c.in_ok-item.ensures.lookup in
    let items = c.deref.result.now in
    let is_list = ap (λ xs. Some (map value_tree xs)) c.deref.ensures.value ∙ as_list-value_tree c.args.value.now (Some c.in_ok-items.items) c.in_ok-items.ensures in
    let len : c.len.result ≡ length (map value_tree items) = c.len.ensures ∙ sym c.deref.ensures.len ∙ sym (length-map items value_tree) in
    let fits : SFits w64 c.args.index = search rules in
    let is_place = c.in_ok-position.ensures ∙ ap (λ i. element_of i c.len.result) (to_z-of_z w64 c.args.index fits) ∙ ap (element_of c.args.index) len in
    element_some (value_tree c.args.value.now) items c.args.index c.in_ok-position.position c.in_ok-item.item.now is_list is_place found.3.0 found.1

pub returns-clause-whole : goal.returns-clause-whole
returns-clause-whole c = λ h.
    let found = c.in_ok-item.ensures.lookup in
    let all = as_list_whole c.args.value.now (Some c.in_ok-items.items) c.in_ok-items.ensures h in
    all_at (λ x. IsTrue (value_is_whole x)) c.deref.result.now c.in_ok-position.position c.in_ok-item.item.now (subst (λ xs. All (λ x. IsTrue (value_is_whole x)) xs) (sym c.deref.ensures.value) all) found.3.0 found.1
