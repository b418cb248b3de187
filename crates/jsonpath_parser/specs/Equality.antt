-- What `==` of values decides.
use Rattle.std.specs.Prelude.{◌≡◌, ◌↔◌, Bool, IsTrue, Vec}
use Rattle.std.specs.Cmp.Lexicographic.{pointwise}
use Rattle.std.specs.declared.alloc.Global.{Global}

-- this test, as a type's `==`, is equality of what its values stand for
abbrev pub IsEqualityOf : {A V : Type 0} → (A → V) → (A → A → Bool) → Type 0
IsEqualityOf {A} view equal = (a b : A) → IsTrue (equal a b) ↔ (view a ≡ view b)

-- the `==` of `Vec`s, by that of their elements
abbrev pub items_equal : {A : Type 0} → (A → A → Bool) → Vec A Global → Vec A Global → Bool
items_equal equal v w = pointwise equal v.items w.items
