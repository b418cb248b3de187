-- The edits that find something, one after the other.
use Rattle.std.proofs.Common.{◌≡◌, ℕ, zero, suc, ◌<◌, List, [], ◌∷◌, length, take, get_or, true, refl, subst, arith}
use Rattle.jsonpath_rust.specs.Tree.{Tree}
use Rattle.examples.specs.Script.{AllLeave, Leaves}
use Rattle.examples.specs.declared.script.Edit.{Edit}

-- one more
pub made_next : (es : List Edit) (t m u : Tree) (i : ℕ) (e : Edit) → i < length es → e ≡ get_or es i e → AllLeave (take i es) t m → Leaves e m true u → AllLeave (take (suc i) es) t u
made_next [] t m u i e within read before makes = absurd (omega (arith, within))
made_next (x ∷ xs) t m u zero e within read before makes = (u, subst (λ y. Leaves y t true u) read (subst (λ z. Leaves e z true u) before makes), refl)
made_next (x ∷ xs) t m u (suc i) e within read before makes = (before.0, before.1, made_next xs before.0 m u i e (omega (arith, within)) read before.2 makes)
