-- What the operations make of a tree, one after the other.
use Rattle.std.proofs.Common.{◌≡◌, ℕ, zero, suc, ◌<◌, List, [], ◌∷◌, length, take, get_or, Bool, true, false, if◌then◌else◌, Option, Some, None, is_some, bytes_eq, codes, Vec, Global, option_map, option_and_then, refl, sym, ap, ◌∙◌, subst, arith}
use Rattle.serde_json.specs.View.{items_view}
use Rattle.serde_json.specs.declared.value.Value.{Value, Array}
use Rattle.serde_json.proofs.Views.{view-Array}
use Rattle.jsonpath_rust.specs.Location.{Step, index, Location}
use Rattle.jsonpath_rust.specs.Places.{at}
use Rattle.jsonpath_rust.specs.Pointer.{step_in, location_in}
use Rattle.jsonpath_rust.specs.Put.{put}
use Rattle.jsonpath_rust.specs.Tree.{Tree, null, truth, number, text, list, object, elements}
use Rattle.jsonpath_rust.specs.Without.{is_among, without}
use Rattle.jsonpath_rust.specs.base.Values.{tree_of, trees_of, value_tree}
use Rattle.std.specs.Path.{rsplit_once}
use Rattle.examples.specs.Patch.{all_patched, patched, new_step, target_in, with_added, replaced, is_inside, moved}
use Rattle.examples.specs.declared.patch.Operation.{Operation}
use Rattle.examples.proofs.Taking.{put_removed}

-- ---- one more operation

patched_on : (os : List Operation) (n : ℕ) (m u : Tree) (p : Option Tree) → ((t : Tree) → all_patched (take n os) t ≡ Some m → all_patched (take (suc n) os) t ≡ Some u) → option_and_then (all_patched (take n os)) p ≡ Some m → option_and_then (all_patched (take (suc n) os)) p ≡ Some u
patched_on os n m u None ih before = absurd (cc)
patched_on os n m u (Some t) ih before = ih t before

pub patched_next : (os : List Operation) (t m u : Tree) (i : ℕ) (o : Operation) → i < length os → o ≡ get_or os i o → all_patched (take i os) t ≡ Some m → patched o m ≡ Some u → all_patched (take (suc i) os) t ≡ Some u
patched_next [] t m u i o within read before applies = absurd (omega (arith, within))
patched_next (x ∷ xs) t m u zero o within read before applies =
    let same : m ≡ t = cc in
    ap (option_and_then (all_patched [])) (subst (λ y. patched y t ≡ Some u) read (subst (λ z. patched o z ≡ Some u) same applies))
patched_next (x ∷ xs) t m u (suc i) o within read before applies = patched_on xs i m u (patched x t) (λ n h. patched_next xs n m u i o (omega (arith, within)) read h applies) before

-- ---- the target of an addition

count : (vs : List Value) → length (elements (trees_of (items_view vs))) ≡ length vs
count [] = refl
count (v ∷ vs) = ap suc (count vs)

-- `-` in a list
pub dash_step : (part : List ℕ) (v : Value) (vs : Vec Value Global) (n : ℕ) → bytes_eq part (codes "-") ≡ true → v ≡ Array vs → n ≡ length vs.items → Some (index n) ≡ new_step part (value_tree v)
dash_step part v vs n dash is len =
    let tree : value_tree v ≡ list (trees_of (items_view vs.items)) = ap value_tree is ∙ ap tree_of (view-Array vs) in
    let here : new_step part (list (trees_of (items_view vs.items))) ≡ Some (index (length (elements (trees_of (items_view vs.items))))) = rw dash refl in
    ap (λ k. Some (index k)) (len ∙ sym (count vs.items)) ∙ sym here ∙ ap (new_step part) (sym tree)

-- any other token
pub plain_step : (part : List ℕ) (t : Tree) → bytes_eq part (codes "-") ≡ false → step_in part t ≡ new_step part t
plain_step part null other = refl
plain_step part (truth b) other = refl
plain_step part (number n) other = refl
plain_step part (text s) other = refl
plain_step part (list ts) other = rw other refl
plain_step part (object ms) other = refl

pub target_is : (path parent token : List ℕ) (t p : Tree) (l : Location) (o : Option Step) → rsplit_once 47 path ≡ Some (parent, token) → location_in parent t ≡ Some l → at l t ≡ Some p → o ≡ new_step token p → option_map (λ s. (l, s)) o ≡ target_in path t
target_is path parent token t p l o split leads there step = rw (split, leads, there, step) refl

pub target_none : (path : List ℕ) (t : Tree) → rsplit_once 47 path ≡ None → target_in path t ≡ None
target_none path t split = rw split refl

pub target_empty : (path parent token : List ℕ) (t : Tree) (l : Location) → rsplit_once 47 path ≡ Some (parent, token) → location_in parent t ≡ Some l → at l t ≡ None → target_in path t ≡ None
target_empty path parent token t l split leads none = rw (split, leads, none) refl

pub target_nowhere : (path parent token : List ℕ) (t : Tree) → rsplit_once 47 path ≡ Some (parent, token) → location_in parent t ≡ None → target_in path t ≡ None
target_nowhere path parent token t split leads = rw (split, leads) refl

-- ---- what an operation makes

pub replaced_there : (path : List ℕ) (u t v : Tree) (l : Location) (b : Bool) → location_in path t ≡ Some l → is_some (at l t) ≡ true → b ≡ is_some (at l t) → v ≡ put l u t → replaced path u t ≡ (if b then Some v else None)
replaced_there path u t v l b place there found new = rw (place, found ∙ there, new) refl

pub moved_there : (from path : List ℕ) (t m w : Tree) (l : Location) → is_inside path from ≡ false → location_in from t ≡ Some l → is_among (l ∷ []) l ≡ true → Some w ≡ at l t → m ≡ without (is_among (l ∷ [])) (put l null t) → moved from path t ≡ with_added path w m
moved_there from path t m w l out place among found gone = rw (out, place, ← found, gone, put_removed l null t among) refl
