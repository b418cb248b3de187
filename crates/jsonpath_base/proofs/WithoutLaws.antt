-- Laws of a set of locations, and of a tree without one.
use Rattle.std.proofs.Common.{◌≡◌, ℕ, suc, [], true, false, Contains, refl, ap, ap₂, subst, ◌∙◌}
use Rattle.std.proofs.lemmas.List.Folds.{Any-from_list_any, list_any_at}
use Rattle.jsonpath_base.specs.Prelude.{AmongIsListed, elements_thinned, is_among, is_location, list, member, Members, no_members, no_trees, null, number, object, text, thinned, Tree, tree, Trees, truth, without}
use Rattle.jsonpath_base.specs.Without.{members_thinned}
use Rattle.jsonpath_base.proofs.Removed.{same_location, location_itself, without_alike}

pub among_is_listed : AmongIsListed
among_is_listed ls l = (listed, among)
  where
    listed : is_among ls l ≡ true → Contains ls l
    listed h = let a = Any-from_list_any (λ m. is_location m l) ls h in subst (Contains ls) (same_location a.1 l a.4) (a.0, a.2, a.3)

    among : Contains ls l → is_among ls l ≡ true
    among c = list_any_at (λ m. is_location m l) ls c.0 l c.1 (ap (λ m. is_location m l) c.2 ∙ location_itself l)

mutual
  pub thinned_none : (t : Tree) → thinned (λ l. false) t ≡ t
  thinned_none null = refl
  thinned_none (truth b) = refl
  thinned_none (number n) = refl
  thinned_none (text s) = refl
  thinned_none (list ts) = ap list (elements_none 0 ts)
  thinned_none (object ms) = ap object (members_none ms)

  elements_none : (i : ℕ) (ts : Trees) → elements_thinned (λ l. false) i ts ≡ ts
  elements_none i no_trees = refl
  elements_none i (tree t ts) = ap₂ tree (thinned_none t) (elements_none (suc i) ts)

  members_none : (ms : Members) → members_thinned (λ l. false) ms ≡ ms
  members_none no_members = refl
  members_none (member k t ms) = ap₂ (member k) (thinned_none t) (members_none ms)

-- where nothing is removed, the tree stays as it is
pub without_none : (t : Tree) → without (is_among []) t ≡ t
without_none t = without_alike (is_among []) (λ l. false) (λ l. refl) t ∙ thinned_none t
