-- The arguments of a custom function, one after another.
use Rattle.std.proofs.Common.{◌≡◌, ℕ, suc, ◌+◌, ◌<◌, List, [], ◌∷◌, ◌++◌, map, length, get_or, drop, drop-cons, add-one, append_assoc, sym, ◌∙◌, ap, Bor}
use Rattle.jsonpath_base.specs.Prelude.Documents.{Tree}

-- one value more
pub values_next : {A : Type 0} (tree : A → Tree) (args more : List Tree) (x : Bor A) (xs : List (Bor A)) (i : ℕ) (all : List Tree) → more ≡ args ++ tree x.now ∷ [] → i < length xs → x ≡ get_or xs i x → args ++ map (λ v. tree v.now) (drop i xs) ≡ all → more ++ map (λ v. tree v.now) (drop (i + 1) xs) ≡ all
values_next tree args more x xs i all e h is v =
    let rest = map (λ v. tree v.now) (drop (suc i) xs) in
    ap (λ some. some ++ map (λ v. tree v.now) (drop (i + 1) xs)) e ∙ ap (λ j. (args ++ tree x.now ∷ []) ++ map (λ v. tree v.now) (drop j xs)) (add-one i) ∙ append_assoc args (tree x.now ∷ []) rest ∙ ap (λ y. args ++ tree y.now ∷ rest) is ∙ ap (λ ys. args ++ map (λ v. tree v.now) ys) (sym (drop-cons xs i x h)) ∙ v
