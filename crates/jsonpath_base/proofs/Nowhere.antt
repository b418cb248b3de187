-- A removal at a location where nothing is leaves the tree.
use Rattle.std.proofs.Common.{◌≡◌, ℕ, suc, List, [], ◌∷◌, Bool, true, false, if◌then◌else◌, refl, sym, ap, ap₂, ◌∙◌}
use Rattle.jsonpath_base.specs.Prelude.{elements_overwritten, elements_thinned, index, is_among, list, Location, member, Members, name, no_members, no_trees, null, number, object, overwritten, overwritten_below, text, thinned, Tree, tree, Trees, truth, without, WithoutNowhere}
use Rattle.jsonpath_base.proofs.OverwrittenLaws.{at_one_is_put}
use Rattle.jsonpath_base.proofs.PutLaws.{put_nowhere}
use Rattle.jsonpath_base.specs.Overwritten.{members_overwritten}
use Rattle.jsonpath_base.specs.Without.{members_thinned}

-- ---- what stays whatever is put at a set of locations has none of them, so a removal of these leaves it

-- not every tree is this one
no_tree : (t : Tree) → ((u : Tree) → u ≡ t) → ⊥
no_tree t all = let both : null ≡ truth true = all null ∙ sym (all (truth true)) in cc

inside_list : (ts us : Trees) → list ts ≡ list us → ts ≡ us
inside_list ts us e = cc

inside_object : (ms ns : Members) → object ms ≡ object ns → ms ≡ ns
inside_object ms ns e = cc

first_element : (t u : Tree) (ts us : Trees) → tree t ts ≡ tree u us → t ≡ u
first_element t u ts us e = cc

more_elements : (t u : Tree) (ts us : Trees) → tree t ts ≡ tree u us → ts ≡ us
more_elements t u ts us e = cc

first_member : (k : List ℕ) (t u : Tree) (ms ns : Members) → member k t ms ≡ member k u ns → t ≡ u
first_member k t u ms ns e = cc

more_members : (k : List ℕ) (t u : Tree) (ms ns : Members) → member k t ms ≡ member k u ns → ms ≡ ns
more_members k t u ms ns e = cc

-- the first element stays, and those behind it
element_stays : (b : Bool) (t : Tree) (over : Tree → Tree) (thin : Tree) (ts us : Trees) → ((u : Tree) → (if b then u else over u) ≡ t) → (((u : Tree) → over u ≡ t) → thin ≡ t) → us ≡ ts → (if b then us else tree thin us) ≡ tree t ts
element_stays true t over thin ts us all below more = absurd (no_tree t all)
element_stays false t over thin ts us all below more = ap₂ tree (below all) more

member_stays : (b : Bool) (k : List ℕ) (t : Tree) (over : Tree → Tree) (thin : Tree) (ms ns : Members) → ((u : Tree) → (if b then u else over u) ≡ t) → (((u : Tree) → over u ≡ t) → thin ≡ t) → ns ≡ ms → (if b then ns else member k thin ns) ≡ member k t ms
member_stays true k t over thin ms ns all below more = absurd (no_tree t all)
member_stays false k t over thin ms ns all below more = ap₂ (member k) (below all) more

mutual
  below_stays : (set : Location → Bool) (t : Tree) → ((u : Tree) → overwritten_below set u t ≡ t) → thinned set t ≡ t
  below_stays set null same = refl
  below_stays set (truth b) same = refl
  below_stays set (number n) same = refl
  below_stays set (text s) same = refl
  below_stays set (list ts) same = ap list (elements_stay set 0 ts (λ u. inside_list _ ts (same u)))
  below_stays set (object ms) same = ap object (members_stay set ms (λ u. inside_object _ ms (same u)))

  elements_stay : (set : Location → Bool) (i : ℕ) (ts : Trees) → ((u : Tree) → elements_overwritten set u i ts ≡ ts) → elements_thinned set i ts ≡ ts
  elements_stay set i no_trees same = refl
  elements_stay set i (tree t ts) same =
      element_stays (set (index i ∷ [])) t (λ u. overwritten_below (λ l. set (index i ∷ l)) u t) (thinned (λ l. set (index i ∷ l)) t) ts (elements_thinned set (suc i) ts)
      (λ u. first_element _ t _ ts (same u)) (λ h. below_stays (λ l. set (index i ∷ l)) t h) (elements_stay set (suc i) ts (λ u. more_elements _ t _ ts (same u)))

  members_stay : (set : Location → Bool) (ms : Members) → ((u : Tree) → members_overwritten set u ms ≡ ms) → members_thinned set ms ≡ ms
  members_stay set no_members same = refl
  members_stay set (member k t ms) same =
      member_stays (set (name k ∷ [])) k t (λ u. overwritten_below (λ l. set (name k ∷ l)) u t) (thinned (λ l. set (name k ∷ l)) t) ms (members_thinned set ms)
      (λ u. first_member k _ t _ ms (same u)) (λ h. below_stays (λ l. set (name k ∷ l)) t h) (members_stay set ms (λ u. more_members k _ t _ ms (same u)))

stays : (set : Location → Bool) (t : Tree) → ((u : Tree) → overwritten set u t ≡ t) → without set t ≡ t
stays set t same = by_root (set []) same (below_stays set t)
  where
    by_root : (b : Bool) → ((u : Tree) → (if b then u else overwritten_below set u t) ≡ t) → (((u : Tree) → overwritten_below set u t ≡ t) → thinned set t ≡ t) → (if b then null else thinned set t) ≡ t
    by_root true all below = absurd (no_tree t all)
    by_root false all below = below all

-- a write where nothing is changes nothing, and a replacement at one location is a write
pub without_nowhere : WithoutNowhere
without_nowhere l t distinct none = stays (is_among (l ∷ [])) t (λ u. at_one_is_put l u t distinct ∙ put_nowhere l u t none)
