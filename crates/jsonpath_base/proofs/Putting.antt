-- A write to one child of a value, seen as a tree.
use Rattle.std.proofs.Common.{◌≡◌, ℕ, zero, suc, ◌<◌, ◌≤◌, ℤ, List, [], ◌∷◌, length, set, get_or, Bool, true, false, Option, Some, None, IfNone, is_some, nat_cmp, bytes_eq, String, Vec, BTreeMap, Global, string_bytes, unwrap_or, refl, sym, ap, ◌∙◌, arith}
use Rattle.std.proofs.lemmas.Map.Text.{is_eq-slice_cmp}
use Rattle.jsonpath_base.specs.Prelude.{Array, at, child, Data, find, index, is_at, item_at, items_view, list, Location, lookup, member, members_of, members_view, name, Object, object, pairs, put, set_value, slice_cmp, Step, Tree, tree, tree_of, tree_of_number, trees_of, Value, value_tree, view, with_child, with_element, with_member}
use Rattle.serde_json.specs.Data as json
use Rattle.serde_json.specs.Find as json_find
use Rattle.serde_json.proofs.Views.{Entry, view-Array, view-Object}

-- ---- by kind

pub array_tree : (d : Data) (ds : json.Items) → Some ds ≡ json_find.as_array d → tree_of d ≡ list (trees_of ds)
array_tree json.null ds e = absurd cc
array_tree (json.boolean b) ds e = absurd cc
array_tree (json.number n) ds e = absurd cc
array_tree (json.string s) ds e = absurd cc
array_tree (json.array es) ds e = let same : ds ≡ es = cc in ap (λ z. list (trees_of z)) (sym same)
array_tree (json.object ms) ds e = absurd cc

pub object_tree : (d : Data) (ms : json.Members) → Some ms ≡ json_find.as_object d → tree_of d ≡ object (members_of ms)
object_tree json.null ms e = absurd cc
object_tree (json.boolean b) ms e = absurd cc
object_tree (json.number n) ms e = absurd cc
object_tree (json.string s) ms e = absurd cc
object_tree (json.array es) ms e = absurd cc
object_tree (json.object os) ms e = let same : ms ≡ os = cc in ap (λ z. object (members_of z)) (sym same)

number_child : (s : Step) (f : Tree → Tree) (o : Option ℤ) → (tree_of_number o ≡ with_child s f (tree_of_number o)) × (child s (tree_of_number o) ≡ None)
number_child (name k) f None = (refl, refl)
number_child (name k) f (Some n) = (refl, refl)
number_child (index i) f None = (refl, refl)
number_child (index i) f (Some n) = (refl, refl)

-- what is no list has no element
pub no_list : (i : ℕ) (f : Tree → Tree) (d : Data) → None ≡ json_find.as_array d → (tree_of d ≡ with_child (index i) f (tree_of d)) × (child (index i) (tree_of d) ≡ None)
no_list i f json.null e = (refl, refl)
no_list i f (json.boolean b) e = (refl, refl)
no_list i f (json.number n) e = number_child (index i) f (json_find.as_i64 n)
no_list i f (json.string s) e = (refl, refl)
no_list i f (json.array ds) e = absurd cc
no_list i f (json.object ms) e = (refl, refl)

pub no_object : (k : List ℕ) (f : Tree → Tree) (d : Data) → None ≡ json_find.as_object d → (tree_of d ≡ with_child (name k) f (tree_of d)) × (child (name k) (tree_of d) ≡ None)
no_object k f json.null e = (refl, refl)
no_object k f (json.boolean b) e = (refl, refl)
no_object k f (json.number n) e = number_child (name k) f (json_find.as_i64 n)
no_object k f (json.string s) e = (refl, refl)
no_object k f (json.array ds) e = (refl, refl)
no_object k f (json.object ms) e = absurd cc

-- ---- elements

element_set : (vs : List Value) (i : ℕ) (x w : Value) (f : Tree → Tree) → i < length vs → x ≡ get_or vs i x → value_tree w ≡ f (value_tree x)
    → (trees_of (items_view (set vs i w)) ≡ with_element i f (trees_of (items_view vs))) × (item_at i (trees_of (items_view vs)) ≡ Some (value_tree x))
element_set [] i x w f within read made = absurd (omega (arith, within))
element_set (v ∷ vs) zero x w f within read made =
    (ap (λ t. tree t (trees_of (items_view vs))) (made ∙ ap (λ y. f (value_tree y)) read), ap (λ y. Some (value_tree y)) (sym read))
element_set (v ∷ vs) (suc i) x w f within read made =
    let more = element_set vs i x w f (omega (arith, within)) read made in
    (ap (tree (value_tree v)) more.0, more.1)

element_past : (vs : List Value) (i : ℕ) (f : Tree → Tree) → length vs ≤ i → (trees_of (items_view vs) ≡ with_element i f (trees_of (items_view vs))) × (item_at i (trees_of (items_view vs)) ≡ None)
element_past [] zero f h = (refl, refl)
element_past [] (suc i) f h = (refl, refl)
element_past (v ∷ vs) zero f h = absurd (omega (arith, h))
element_past (v ∷ vs) (suc i) f h = let more = element_past vs i f (omega (arith, h)) in (ap (tree (value_tree v)) more.0, more.1)

-- ---- members

abbrev pub is_entry : List ℕ → String Global → Bool
is_entry k = is_at (λ l. slice_cmp nat_cmp k (string_bytes l))

member_set : (k : List ℕ) (es : List Entry) (x w : Value) (f : Tree → Tree) → lookup (is_entry k) es ≡ Some x → value_tree w ≡ f (value_tree x)
    → (members_of (members_view (set_value (is_entry k) es w)) ≡ with_member k f (members_of (members_view es))) × (find k (pairs (members_of (members_view es))) ≡ Some (value_tree x))
member_set k [] x w f found made = absurd cc
member_set k (e ∷ es) x w f found made = pick (is_entry k e.0) refl (λ later. member_set k es x w f later made)
  where
    pick : (b : Bool) → is_entry k e.0 ≡ b
        → (lookup (is_entry k) es ≡ Some x → (members_of (members_view (set_value (is_entry k) es w)) ≡ with_member k f (members_of (members_view es))) × (find k (pairs (members_of (members_view es))) ≡ Some (value_tree x)))
        → (members_of (members_view (set_value (is_entry k) (e ∷ es) w)) ≡ with_member k f (members_of (members_view (e ∷ es)))) × (find k (pairs (members_of (members_view (e ∷ es)))) ≡ Some (value_tree x))
    pick true same more =
        let test : bytes_eq k (string_bytes e.0) ≡ true = sym (is_eq-slice_cmp k (string_bytes e.0)) ∙ same in
        let first : Some e.1 ≡ Some x = sym (rw same) ∙ found in
        let is : value_tree e.1 ≡ value_tree x = ap (λ o. value_tree (unwrap_or o x)) first in
        (rw (same, test, is, made), rw (test, is))
    pick false other more =
        let test : bytes_eq k (string_bytes e.0) ≡ false = sym (is_eq-slice_cmp k (string_bytes e.0)) ∙ other in
        let later : lookup (is_entry k) es ≡ Some x = sym (rw other) ∙ found in
        (rw (other, test, (more later).0), rw (test, (more later).1))

member_absent : (k : List ℕ) (es : List Entry) (f : Tree → Tree) → lookup (is_entry k) es ≡ None
    → (members_of (members_view es) ≡ with_member k f (members_of (members_view es))) × (find k (pairs (members_of (members_view es))) ≡ None)
member_absent k [] f none = (refl, refl)
member_absent k (e ∷ es) f none = pick (is_entry k e.0) refl (member_absent k es f)
  where
    pick : (b : Bool) → is_entry k e.0 ≡ b
        → (lookup (is_entry k) es ≡ None → (members_of (members_view es) ≡ with_member k f (members_of (members_view es))) × (find k (pairs (members_of (members_view es))) ≡ None))
        → (members_of (members_view (e ∷ es)) ≡ with_member k f (members_of (members_view (e ∷ es)))) × (find k (pairs (members_of (members_view (e ∷ es)))) ≡ None)
    pick true same more = let no : Some e.1 ≡ None = sym (rw same) ∙ none in absurd cc
    pick false other more =
        let test : bytes_eq k (string_bytes e.0) ≡ false = sym (is_eq-slice_cmp k (string_bytes e.0)) ∙ other in
        let later : lookup (is_entry k) es ≡ None = sym (rw other) ∙ none in
        let rest = more later in
        (rw test (ap (member (string_bytes e.0) (value_tree e.1)) rest.0), rw (test, rest.1))

-- ---- a value

abbrev pub is_found : Location → Option Tree → Bool
is_found l None = false
is_found l (Some t) = is_some (at l t)

at_child : (s : Step) (l : Location) (t : Tree) (o : Option Tree) → child s t ≡ o → is_some (at (s ∷ l) t) ≡ is_found l o
at_child s l t None e = rw e
at_child s l t (Some u) e = rw e

pub nothing_there : (o : Option Tree) → is_some o ≡ false → None ≡ o
nothing_there None e = refl
nothing_there (Some t) e = absurd cc

pub none_weaker : {P Q : Type 0} (o : Option Value) → (P → Q) → IfNone o P → IfNone o Q
none_weaker None weaker p = weaker p
none_weaker (Some v) weaker p = tt

pub set_element : (value : Value) (v n : Vec Value Global) (i : ℕ) (f : Tree → Tree) (x w : Value) → Some (items_view v.items) ≡ json_find.as_array (view value) → i < length v.items → x ≡ get_or v.items i x
    → n.items ≡ set v.items i w → value_tree w ≡ f (value_tree x) → value_tree (Array n) ≡ with_child (index i) f (value_tree value)
set_element value v n i f x w held within read written made =
    ap tree_of (view-Array n) ∙ ap (λ ys. list (trees_of (items_view ys))) written ∙ ap list (element_set v.items i x w f within read made).0 ∙ ap (with_child (index i) f) (sym (array_tree (view value) (items_view v.items) held))

pub put_element : (value : Value) (v n : Vec Value Global) (i : ℕ) (l : Location) (x w : Value) (u : Tree) → Some (items_view v.items) ≡ json_find.as_array (view value) → i < length v.items → x ≡ get_or v.items i x
    → n.items ≡ set v.items i w → value_tree w ≡ put l u (value_tree x) → value_tree (Array n) ≡ put (index i ∷ l) u (value_tree value)
put_element value v n i l x w u = set_element value v n i (put l u) x w

pub child_element : (value : Value) (v : Vec Value Global) (i : ℕ) (x : Value) → Some (items_view v.items) ≡ json_find.as_array (view value) → i < length v.items → x ≡ get_or v.items i x
    → child (index i) (value_tree value) ≡ Some (value_tree x)
child_element value v i x held within read = ap (child (index i)) (array_tree (view value) (items_view v.items) held) ∙ (element_set v.items i x x (λ t. t) within read refl).1

pub past_child : (value : Value) (v : Vec Value Global) (i : ℕ) (f : Tree → Tree) → Some (items_view v.items) ≡ json_find.as_array (view value) → length v.items ≤ i
    → (value_tree (Array v) ≡ with_child (index i) f (value_tree value)) × (child (index i) (value_tree value) ≡ None)
past_child value v i f held past =
    let is = array_tree (view value) (items_view v.items) held in let none = element_past v.items i f past in
    (ap tree_of (view-Array v) ∙ ap list none.0 ∙ ap (with_child (index i) f) (sym is), ap (child (index i)) is ∙ none.1)

pub past_element : (value : Value) (v : Vec Value Global) (i : ℕ) (l : Location) (u : Tree) → Some (items_view v.items) ≡ json_find.as_array (view value) → length v.items ≤ i
    → (value_tree (Array v) ≡ put (index i ∷ l) u (value_tree value)) × (is_some (at (index i ∷ l) (value_tree value)) ≡ false)
past_element value v i l u held past = let none = past_child value v i (put l u) held past in (none.0, at_child (index i) l (value_tree value) None none.1)

pub no_elements : (value : Value) (i : ℕ) (l : Location) (u : Tree) → None ≡ json_find.as_array (view value) → (value_tree value ≡ put (index i ∷ l) u (value_tree value)) × (is_some (at (index i ∷ l) (value_tree value)) ≡ false)
no_elements value i l u none = let no = no_list i (put l u) (view value) none in (no.0, at_child (index i) l (value_tree value) None no.1)

pub set_member : (value : Value) (m n : BTreeMap (String Global) Value) (k : List ℕ) (f : Tree → Tree) (x w : Value) → Some (members_view m.entries) ≡ json_find.as_object (view value) → lookup (is_entry k) m.entries ≡ Some x
    → n.entries ≡ set_value (is_entry k) m.entries w → value_tree w ≡ f (value_tree x) → value_tree (Object n) ≡ with_child (name k) f (value_tree value)
set_member value m n k f x w held found written made =
    ap tree_of (view-Object n) ∙ ap (λ ys. object (members_of (members_view ys))) written ∙ ap object (member_set k m.entries x w f found made).0 ∙ ap (with_child (name k) f) (sym (object_tree (view value) (members_view m.entries) held))

pub put_member : (value : Value) (m n : BTreeMap (String Global) Value) (k : List ℕ) (l : Location) (x w : Value) (u : Tree) → Some (members_view m.entries) ≡ json_find.as_object (view value) → lookup (is_entry k) m.entries ≡ Some x
    → n.entries ≡ set_value (is_entry k) m.entries w → value_tree w ≡ put l u (value_tree x) → value_tree (Object n) ≡ put (name k ∷ l) u (value_tree value)
put_member value m n k l x w u = set_member value m n k (put l u) x w

pub child_member : (value : Value) (m : BTreeMap (String Global) Value) (k : List ℕ) (x : Value) → Some (members_view m.entries) ≡ json_find.as_object (view value) → lookup (is_entry k) m.entries ≡ Some x
    → child (name k) (value_tree value) ≡ Some (value_tree x)
child_member value m k x held found = ap (child (name k)) (object_tree (view value) (members_view m.entries) held) ∙ (member_set k m.entries x x (λ t. t) found refl).1

pub absent_child : (value : Value) (m n : BTreeMap (String Global) Value) (k : List ℕ) (f : Tree → Tree) → Some (members_view m.entries) ≡ json_find.as_object (view value) → lookup (is_entry k) m.entries ≡ None → n ≡ m
    → (value_tree (Object n) ≡ with_child (name k) f (value_tree value)) × (child (name k) (value_tree value) ≡ None)
absent_child value m n k f held none same =
    let is = object_tree (view value) (members_view m.entries) held in let no = member_absent k m.entries f none in
    (ap (λ (y : BTreeMap (String Global) Value). value_tree (Object y)) same ∙ ap tree_of (view-Object m) ∙ ap object no.0 ∙ ap (with_child (name k) f) (sym is), ap (child (name k)) is ∙ no.1)

pub absent_member : (value : Value) (m n : BTreeMap (String Global) Value) (k : List ℕ) (l : Location) (u : Tree) → Some (members_view m.entries) ≡ json_find.as_object (view value) → lookup (is_entry k) m.entries ≡ None → n ≡ m
    → (value_tree (Object n) ≡ put (name k ∷ l) u (value_tree value)) × (is_some (at (name k ∷ l) (value_tree value)) ≡ false)
absent_member value m n k l u held none same = let no = absent_child value m n k (put l u) held none same in (no.0, at_child (name k) l (value_tree value) None no.1)

pub no_members : (value : Value) (k : List ℕ) (l : Location) (u : Tree) → None ≡ json_find.as_object (view value) → (value_tree value ≡ put (name k ∷ l) u (value_tree value)) × (is_some (at (name k ∷ l) (value_tree value)) ≡ false)
no_members value k l u none = let no = no_object k (put l u) (view value) none in (no.0, at_child (name k) l (value_tree value) None no.1)
