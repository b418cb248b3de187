-- What queries without a filter select is masked so that nothing is told of what stood there.
use Rattle.std.proofs.Common.{◌≡◌, ℕ, suc, List, [], ◌∷◌, Bool, true, false, not, ◌&&◌, ◌||◌, if◌then◌else◌, IsTrue, refl, sym, ap, ap₂, ◌∙◌}
use Rattle.std.proofs.lemmas.Bool.{and_parts}
use Rattle.std.proofs.lemmas.List.Folds.{list_any-append}
use Rattle.std.specs.List.{list_all}
use Rattle.jsonpath_base.specs.Prelude.Documents.{all_selected, Document, has_no_filter, index, is_among, list, Location, MaskingAllTellsNothing, MaskingTellsNothing, member, Members, name, no_members, no_trees, null, number, object, overwritten, Query, selected, Step, text, Tree, tree, Trees, truth}
use Rattle.jsonpath_base.specs.Overwritten.{overwritten_below, elements_overwritten, members_overwritten}
use Rattle.jsonpath_base.specs.Without.{is_location}
use Rattle.jsonpath_base.proofs.OverwrittenLaws.{forgets}
use Rattle.jsonpath_base.proofs.lemmas.documents.MaskedNodes.{none_above, selected_masked}

-- Of documents that agree but for a set a query without a filter selects the same locations, of those that do not lie inside one of the set.
selected_alike : (set : Location → Bool) (q : Query) (d e : Document) (l : Location) → IsTrue (has_no_filter q) → overwritten set null d.root ≡ overwritten set null e.root → none_above set l ≡ true → is_among (selected q d) l ≡ is_among (selected q e) l
selected_alike set q d e l ok agree h =
    let both : Document = record { root = overwritten set null e.root; custom = e.custom } in
    selected_masked set null q d both l ok agree h ∙ sym (selected_masked set null q e both l ok refl h)

all_selected_alike : (set : Location → Bool) (qs : List Query) (d e : Document) (l : Location) → IsTrue (list_all has_no_filter qs) → overwritten set null d.root ≡ overwritten set null e.root → none_above set l ≡ true → is_among (all_selected qs d) l ≡ is_among (all_selected qs e) l
all_selected_alike set [] d e l ok agree h = refl
all_selected_alike set (q ∷ qs) d e l ok agree h =
    let both = and_parts (has_no_filter q) (list_all has_no_filter qs) ok in
    list_any-append (λ m. is_location m l) (selected q d) (all_selected qs d)
    ∙ ap₂ ◌||◌ (selected_alike set q d e l both.0 agree h) (all_selected_alike set qs d e l both.1 agree h)
    ∙ sym (list_any-append (λ m. is_location m l) (selected q e) (all_selected qs e))

-- ---- only the outermost of a set count

abbrev SameOutermost : (Location → Bool) → (Location → Bool) → Type 0
SameOutermost set other = (l : Location) → none_above set l ≡ true → set l ≡ other l

by_root : (a b : Bool) (u x y : Tree) → a ≡ b → (a ≡ false → x ≡ y) → (if a then u else x) ≡ (if b then u else y)
by_root true b u x y same more = ap (λ c. if c then u else y) same
by_root false b u x y same more = more refl ∙ ap (λ c. if c then u else y) same

-- one step down
same_inside : (set other : Location → Bool) (s : Step) → set [] ≡ false → SameOutermost set other → SameOutermost (λ m. set (s ∷ m)) (λ m. other (s ∷ m))
same_inside set other s h same l k = same (s ∷ l) (ap (λ b. not b && none_above (λ m. set (s ∷ m)) l) h ∙ k)

mutual
  below_outermost : (set other : Location → Bool) (u t : Tree) → set [] ≡ false → SameOutermost set other → overwritten_below set u t ≡ overwritten_below other u t
  below_outermost set other u (list ts) h same = ap list (elements_outermost set other u 0 ts h same)
  below_outermost set other u (object ms) h same = ap object (members_outermost set other u ms h same)
  below_outermost set other u null h same = refl
  below_outermost set other u (truth b) h same = refl
  below_outermost set other u (number n) h same = refl
  below_outermost set other u (text k) h same = refl

  elements_outermost : (set other : Location → Bool) (u : Tree) (i : ℕ) (ts : Trees) → set [] ≡ false → SameOutermost set other → elements_overwritten set u i ts ≡ elements_overwritten other u i ts
  elements_outermost set other u i no_trees h same = refl
  elements_outermost set other u i (tree t ts) h same =
      let inside = same_inside set other (index i) h same in
      ap₂ tree
      (by_root (set (index i ∷ [])) (other (index i ∷ [])) u (overwritten_below (λ l. set (index i ∷ l)) u t) (overwritten_below (λ l. other (index i ∷ l)) u t) (inside [] refl) (λ k. below_outermost (λ l. set (index i ∷ l)) (λ l. other (index i ∷ l)) u t k inside))
      (elements_outermost set other u (suc i) ts h same)

  members_outermost : (set other : Location → Bool) (u : Tree) (ms : Members) → set [] ≡ false → SameOutermost set other → members_overwritten set u ms ≡ members_overwritten other u ms
  members_outermost set other u no_members h same = refl
  members_outermost set other u (member n t ms) h same =
      let inside = same_inside set other (name n) h same in
      ap₂ (member n)
      (by_root (set (name n ∷ [])) (other (name n ∷ [])) u (overwritten_below (λ l. set (name n ∷ l)) u t) (overwritten_below (λ l. other (name n ∷ l)) u t) (inside [] refl) (λ k. below_outermost (λ l. set (name n ∷ l)) (λ l. other (name n ∷ l)) u t k inside))
      (members_outermost set other u ms h same)

by_outermost : (set other : Location → Bool) (u t : Tree) → SameOutermost set other → overwritten set u t ≡ overwritten other u t
by_outermost set other u t same = by_root (set []) (other []) u (overwritten_below set u t) (overwritten_below other u t) (same [] refl) (λ k. below_outermost set other u t k same)

-- ---- the laws

masked_alike : (ls ms : List Location) (u t v : Tree) → overwritten (is_among ls) null t ≡ overwritten (is_among ls) null v → SameOutermost (is_among ls) (is_among ms) → overwritten (is_among ls) u t ≡ overwritten (is_among ms) u v
masked_alike ls ms u t v agree same =
    sym (forgets (is_among ls) u null t) ∙ ap (overwritten (is_among ls) u) agree ∙ forgets (is_among ls) u null v ∙ by_outermost (is_among ls) (is_among ms) u v same

pub masking_tells_nothing : MaskingTellsNothing
masking_tells_nothing q u d e ok agree = masked_alike (selected q d) (selected q e) u d.root e.root agree (λ l h. selected_alike (is_among (selected q d)) q d e l ok agree h)

pub masking_all_tells_nothing : MaskingAllTellsNothing
masking_all_tells_nothing qs u d e ok agree = masked_alike (all_selected qs d) (all_selected qs e) u d.root e.root agree (λ l h. all_selected_alike (is_among (all_selected qs d)) qs d e l ok agree h)
