-- What is written of a JSON Pointer.
use Rattle.std.proofs.Common.{◌≡◌, ◌≢◌, ℕ, suc, ◌<◌, List, [], ◌∷◌, ◌++◌, length, get_or, flat_map, refl, sym, ap, ◌∙◌, append_assoc, arith, ne_eqb}
use Rattle.std.proofs.lemmas.Grind.{flat_map-append}
use Rattle.jsonpath_base.specs.Prelude.{escaped, tilde_escaped}

abbrev pub Lacks : ℕ → List ℕ → Type 0
Lacks c xs = (i : ℕ) → i < length xs → get_or xs i 0 ≢ c

-- without `~`, characters stand for themselves
plain_part : (xs : List ℕ) → Lacks 126 xs → flat_map tilde_escaped xs ≡ xs
plain_part [] lacks = refl
plain_part (x ∷ xs) lacks = rw (ne_eqb x 126 (lacks 0 (omega arith))) (ap (λ l. x ∷ l) (plain_part xs (λ i less. lacks (suc i) (omega (arith, less)))))

-- without `/`, `~` alone is escaped
pub no_slash_part : (xs : List ℕ) → Lacks 47 xs → flat_map tilde_escaped xs ≡ flat_map escaped xs
no_slash_part [] lacks = refl
no_slash_part (x ∷ xs) lacks = rw (ne_eqb x 47 (lacks 0 (omega arith)), no_slash_part xs (λ i less. lacks (suc i) (omega (arith, less)))) refl

-- one turn of the loop over a part: what stands before a `~` is written, and `~0`
pub tilde_turn : (all text middle out rest plain more : List ℕ) → text ++ flat_map tilde_escaped rest ≡ all → rest ≡ plain ++ 126 ∷ more → Lacks 126 plain → middle ≡ text ++ plain → out ≡ middle ++ 126 ∷ 48 ∷ [] → out ++ flat_map tilde_escaped more ≡ all
tilde_turn all text middle out rest plain more before cut lacks written marked =
    let joined : out ++ flat_map tilde_escaped more ≡ text ++ (plain ++ (126 ∷ 48 ∷ flat_map tilde_escaped more)) = rw (marked, written) (simp append_assoc) in
    let spelled : flat_map tilde_escaped rest ≡ plain ++ (126 ∷ 48 ∷ flat_map tilde_escaped more) =
    ap (flat_map tilde_escaped) cut ∙ flat_map-append tilde_escaped plain (126 ∷ more) ∙ ap (λ l. l ++ (126 ∷ 48 ∷ flat_map tilde_escaped more)) (plain_part plain lacks) in
    joined ∙ ap (λ l. text ++ l) (sym spelled) ∙ before

pub tilde_end : (all text out rest : List ℕ) → text ++ flat_map tilde_escaped rest ≡ all → Lacks 126 rest → out ≡ text ++ rest → out ≡ all
tilde_end all text out rest before lacks written = written ∙ ap (λ l. text ++ l) (sym (plain_part rest lacks)) ∙ before

-- one of the loop over a name: a part, and `~1`
pub slash_turn : (all text middle out rest part more : List ℕ) → text ++ flat_map escaped rest ≡ all → rest ≡ part ++ 47 ∷ more → Lacks 47 part → middle ≡ text ++ flat_map tilde_escaped part → out ≡ middle ++ 126 ∷ 49 ∷ [] → out ++ flat_map escaped more ≡ all
slash_turn all text middle out rest part more before cut lacks written marked =
    let joined : out ++ flat_map escaped more ≡ text ++ (flat_map tilde_escaped part ++ (126 ∷ 49 ∷ flat_map escaped more)) = rw (marked, written) (simp append_assoc) in
    let spelled : flat_map escaped rest ≡ flat_map tilde_escaped part ++ (126 ∷ 49 ∷ flat_map escaped more) =
    ap (flat_map escaped) cut ∙ flat_map-append escaped part (47 ∷ more) ∙ ap (λ l. l ++ (126 ∷ 49 ∷ flat_map escaped more)) (sym (no_slash_part part lacks)) in
    joined ∙ ap (λ l. text ++ l) (sym spelled) ∙ before

pub slash_end : (all text out rest : List ℕ) → text ++ flat_map escaped rest ≡ all → Lacks 47 rest → out ≡ text ++ flat_map tilde_escaped rest → out ≡ all
slash_end all text out rest before lacks written = written ∙ ap (λ l. text ++ l) (no_slash_part rest lacks) ∙ before
