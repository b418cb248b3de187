use Rattle.std.proofs.Common.{◌≡◌, map, length, Some, sym, ◌∙◌, ap, w64, rules, SFits}
use Rattle.std.proofs.lemmas.Int.{to_z-of_z}
use Rattle.std.proofs.lemmas.List.{length-map}
use Rattle.jsonpath_base.specs.Prelude.Documents.{element_of}
use Rattle.jsonpath_base.proofs.lemmas.documents.{element_size, indexed_some}
use Rattle.jsonpath_base.proofs.documents.queryable.children.element.Goals as goal

pub returns-clause-value : goal.returns-clause-value
returns-clause-value g c l =
    let tree = g.T.Queryable.tree in
    let found = c.in_ok-child.ensures.lookup in
    let items = c.deref.result.now in
    let is_list = ap (λ xs. Some (map tree xs)) c.deref.ensures.value ∙ c.in_ok-items.ensures.value c.requires in
    let len : c.len.result ≡ length (map tree items) = c.len.ensures ∙ sym c.deref.ensures.len ∙ sym (length-map items tree) in
    let fits : SFits w64 c.args.index = search rules in
    let is_place = c.in_ok-position.ensures ∙ ap (λ i. element_of i c.len.result) (to_z-of_z w64 c.args.index fits) ∙ ap (element_of c.args.index) len in
    indexed_some tree l (tree c.args.at.now) items c.args.index c.in_ok-position.position c.in_ok-child.child.now is_list is_place found.3.0 found.1

pub returns-clause-smaller : goal.returns-clause-smaller
returns-clause-smaller g c =
    let tree = g.T.Queryable.tree in
    let found = c.in_ok-child.ensures.lookup in
    let is_list = ap (λ xs. Some (map tree xs)) c.deref.ensures.value ∙ c.in_ok-items.ensures.value c.requires in
    element_size tree (tree c.args.at.now) c.deref.result.now c.in_ok-position.position c.in_ok-child.child.now is_list found.3.0 found.1
