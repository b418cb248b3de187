-- Known bytes that grow in turns.
use Rattle.std.proofs.Common.{◌≡◌, ℕ, ◌+◌, List, ◌++◌, take, drop, Option, None, Some, IfSome, sym, ap, ◌∙◌, append_assoc, append-nil}
use Rattle.std.proofs.Math.Seq.{take-add}
use Rattle.std.specs.Io.KnownBytes.{Appends, Consumes, IsAtEnd}

-- the first m bytes, and then n of the rest, are the first m + n
pub Appends-take : (a b c : Option (List ℕ)) (bs : List ℕ) (m n : ℕ) → Appends a b (take m bs) → Appends b c (take n (drop m bs)) →
    Appends a c (take (m + n) bs)
Appends-take None b c bs m n first then = tt
Appends-take (Some xs) None c bs m n first then = absurd first
Appends-take (Some xs) (Some ys) None bs m n first then = absurd then
Appends-take (Some xs) (Some ys) (Some zs) bs m n first then =
    then ∙ ap (λ x. x ++ take n (drop m bs)) first ∙ append_assoc xs (take m bs) (take n (drop m bs)) ∙ ap (λ x. xs ++ x) (sym (take-add m n bs))

-- all that was known, where none of it is left
pub all_consumed : (input rest : Option (List ℕ)) (bs : List ℕ) → Consumes input rest bs → IsAtEnd rest → IfSome input (λ b. b ≡ bs)
all_consumed None rest bs taken end = tt
all_consumed (Some xs) None bs taken end = absurd taken
all_consumed (Some xs) (Some ys) bs taken end = taken ∙ ap (λ zs. bs ++ zs) end ∙ append-nil bs
