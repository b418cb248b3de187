-- What is said of a number literal without a value stands in the text.
use Rattle.std.proofs.Common.{◌≡◌, ℕ, ℤ, List, [], ◌++◌, ◌-◌, length, take, drop, Option, Some, None, sym, ap, ◌∙◌, subst, inl, inr, append_assoc, length-append, take-append-drop, arith}
use Rattle.std.proofs.lemmas.List.{take_at}
use Rattle.std.proofs.lemmas.Str.{IsCharBoundary-at_seam}
use Rattle.jsonpath_parser.specs.Prelude.{IsCharBoundary, IsUtf8, IsValuelessIn, number_at, SpellsNumber}
use Rattle.jsonpath_parser.proofs.NumberSound.{sound_number}

-- a front by the length of what follows it
front_is : (text a rest : List ℕ) → text ≡ a ++ rest → take (length text - length rest) text ≡ a
front_is text a rest e = rw e (take_at a rest (length (a ++ rest) - length rest) (omega (arith, length-append a rest)))

-- behind a number literal the text may be cut
pub number_boundary : (text rest : List ℕ) (v : Option ℤ) (place : ℕ) → number_at text ≡ Some (v, rest) → place ≡ length text - length rest → IsUtf8 rest → IsCharBoundary text place
number_boundary text rest v place read is utf8 =
    let (a, h, e) = sound_number v text rest read in
    let size : length a ≡ place = omega (arith, is, ap length e, length-append a rest) in
    subst (IsCharBoundary text) size (IsCharBoundary-at_seam text a rest e utf8)

-- what stands at the front stands in the text
pub valueless_front : (text rest said : List ℕ) → number_at text ≡ Some (None, rest) → said ≡ take (length text - length rest) text → IsValuelessIn text said
valueless_front text rest said read is =
    let (a, h, e) = sound_number None text rest read in
    inr (subst (λ s. SpellsNumber None s × ((before after : List ℕ) × (text ≡ before ++ (s ++ after)))) (sym (is ∙ front_is text a rest e)) (h, ([], rest, e)))

-- and what stands behind a place of it
behind : (k : ℕ) (text said : List ℕ) → IsValuelessIn (drop k text) said → IsValuelessIn text said
behind k text said (inl e) = inl e
behind k text said (inr (h, (before, after, e))) =
    inr (h, (take k text ++ before, after, sym (take-append-drop k text) ∙ ap (λ s. take k text ++ s) e ∙ sym (append_assoc (take k text) before (said ++ after))))

pub valueless_behind : (k : ℕ) (text start said : List ℕ) → start ≡ drop k text → IsValuelessIn start said → IsValuelessIn text said
valueless_behind k text start said at h = behind k text said (subst (λ t. IsValuelessIn t said) at h)
