use Rattle.std.proofs.Common.{◌≡◌, List, [], ◌∷◌, ◌++◌, map, refl, sym, ap, ◌∙◌}
use Rattle.std.proofs.lemmas.List.{map-append}
use Rattle.jsonpath_rust.specs.Location.{Location}
use Rattle.jsonpath_rust.specs.Put.{put}
use Rattle.jsonpath_rust.specs.Tree.{Tree}
use Rattle.jsonpath_rust.specs.base.Steps.{location_view}
use Rattle.jsonpath_rust.specs.base.Values.{value_tree}
use Rattle.examples.specs.Changing.{all_put, change_view}
use Rattle.examples.specs.declared.changing.Change.{Change}
use Rattle.examples.proofs.changing.put_each.Goals as goal

-- the last is put first
last_first : (cs : List (Location × Tree)) (c : Location × Tree) (t : Tree) → all_put (cs ++ c ∷ []) t ≡ all_put cs (put c.0 c.1 t)
last_first [] c t = refl
last_first (d ∷ cs) c t = ap (put d.0 d.1) (last_first cs c t)

-- one less is left to put
one_less : (xs ys : List Change) (c : Change) (t u v : Tree) → ys ≡ xs ++ c ∷ [] → u ≡ put (location_view c.place.items) (value_tree c.value.value) t → all_put (map change_view ys) t ≡ v → all_put (map change_view xs) u ≡ v
one_less xs ys c t u v is puts was =
    ap (all_put (map change_view xs)) puts ∙ sym (last_first (map change_view xs) (change_view c) t)
    ∙ sym (ap (λ zs. all_put zs t) (ap (map change_view) is ∙ map-append change_view xs (c ∷ []))) ∙ was

pub changes-preserved : goal.changes-preserved
changes-preserved c =
    let old = value_tree c.changes.document.value in
    let u = value_tree c.in-Some.change.value.value in
    let popped : c.changes.changes.items ≡ c.pop.new.self.items ++ c.in-Some.change ∷ [] = c.in-Some.ensures.items in
    let put_is : value_tree c.put_at.new.self.value ≡ put (location_view c.deref.result.now) u old = c.put_at.ensures.value in
    let place_is : c.deref.result.now ≡ c.in-Some.change.place.items = c.deref.ensures.value in
    one_less c.pop.new.self.items c.changes.changes.items c.in-Some.change old (value_tree c.put_at.new.self.value) (all_put (map change_view c.args.changes.items) (value_tree c.args.document.now.value)) popped (put_is ∙ ap (λ ss. put (location_view ss) u old) place_is) c.changes.invariant
