-- How many are listed of what a query selects.
use Rattle.std.proofs.Common.{◌≡◌, suc, List, [], ◌∷◌, map, length, refl, ap, string_bytes}
use Rattle.jsonpath_base.specs.Prelude.Documents.{AllZip, AsManyAreListed, IsNodeAt, IsPathAt, IsValueAt, Tree}

-- a list that shows each element of another is as long
as_long : {A B C : Type 0} (R : A → B → Type 0) (show : C → B) (xs : List A) (ys : List C) → AllZip R xs (map show ys) → length ys ≡ length xs
as_long R show [] [] h = refl
as_long R show [] (y ∷ ys) h = absurd h
as_long R show (x ∷ xs) [] h = absurd h
as_long R show (x ∷ xs) (y ∷ ys) h = ap suc (as_long R show xs ys h.1)

pub as_many_are_listed : {A : Type 0} (tree : A → Tree) → AsManyAreListed tree
as_many_are_listed tree = record {
  nodes = λ doc ls refs h. as_long (IsNodeAt doc) (λ r. (string_bytes r.path, tree r.val.now)) ls refs h;
  values = λ doc ls values h. as_long (IsValueAt doc) (λ v. tree v.now) ls values h;
  paths = λ doc ls paths h. as_long (IsPathAt doc) (λ p. string_bytes p) ls paths h;
}
