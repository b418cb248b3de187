-- One step of a pattern's translation, at a place in the list, and the text that is wrapped.
use Rattle.std.proofs.Common.{◌≡◌, ℕ, ◌+◌, ◌<◌, Bool, true, false, ◌==◌, List, [], ◌∷◌, ◌++◌, length, get_or, drop, sym, ap, ◌∙◌, refl, codes, encode_utf8_all, if◌then◌else◌}
use Rattle.std.proofs.lemmas.Bool.{eqb-true}
use Rattle.std.proofs.lemmas.List.{at_drop_more}
use Rattle.std.proofs.lemmas.Str.{encodes-append, chars-append, IsUtf8-append}
use Rattle.jsonpath_base.specs.Prelude.{chars, IsUtf8}
use Rattle.std.specs.Str.{byte}
use Rattle.jsonpath_base.specs.Pattern.{translated, behind_backslash, wrapped}
use Rattle.jsonpath_base.specs.inner.PatternParts.{written, inside_after, escaped_after}

-- what the rest of a pattern becomes, in a state
abbrev pub rest : Bool → Bool → List ℕ → List ℕ
rest inside escaped cs = if escaped then behind_backslash inside cs else translated inside cs

-- its bytes
abbrev pub left : Bool → Bool → List ℕ → List ℕ
left inside escaped cs = encode_utf8_all (rest inside escaped cs)

rest-plain : (i slash dot : Bool) (c : ℕ) (cs : List ℕ) → slash ≡ (c == byte "\\") → dot ≡ (c == byte ".") →
    rest i false (c ∷ cs) ≡ written i false c ++ rest (inside_after i false c) (escaped_after false c) cs
unfolding translated
rest-plain true true dot c cs s d = rw (eqb-true c 92 (sym s)) refl
rest-plain false true dot c cs s d = rw (eqb-true c 92 (sym s)) refl
rest-plain true false true c cs s d = rw (eqb-true c 46 (sym d)) refl
rest-plain false false true c cs s d = rw (eqb-true c 46 (sym d)) refl
rest-plain true false false c cs s d = rw (← s, ← d) refl
rest-plain false false false c cs s d = rw (← s, ← d) refl

rest-cons : (i e : Bool) (c : ℕ) (cs : List ℕ) → rest i e (c ∷ cs) ≡ written i e c ++ rest (inside_after i e c) (escaped_after e c) cs
unfolding behind_backslash
rest-cons i true c cs = refl
rest-cons i false c cs = rest-plain i _ _ c cs refl refl

left-cons : (i e : Bool) (c : ℕ) (cs : List ℕ) →
    left i e (c ∷ cs) ≡ encode_utf8_all (written i e c) ++ left (inside_after i e c) (escaped_after e c) cs
left-cons i e c cs =
    ap encode_utf8_all (rest-cons i e c cs)
    ∙ encodes-append (written i e c) (rest (inside_after i e c) (escaped_after e c) cs)

pub left-nil : (i e : Bool) → left i e [] ≡ []
unfolding translated behind_backslash
left-nil i true = refl
left-nil i false = refl

pub left-start : (cs : List ℕ) → left false false cs ≡ encode_utf8_all (translated false cs)
left-start cs = refl

pub left-drop : (cs : List ℕ) (n c : ℕ) (i e : Bool) → (n < length cs) × (c ≡ get_or cs n c) →
    left i e (drop n cs) ≡ encode_utf8_all (written i e c) ++ left (inside_after i e c) (escaped_after e c) (drop (n + 1) cs)
left-drop cs n c i e h =
    at_drop_more (left i e) cs n c h.0
    ∙ ap (λ x. left i e (x ∷ drop (n + 1) cs)) (sym h.1)
    ∙ left-cons i e c (drop (n + 1) cs)

pub chars-wrapped : (text : List ℕ) → IsUtf8 (codes "^(?:") → IsUtf8 text → chars (codes "^(?:" ++ text ++ codes ")$") ≡ wrapped (chars text)
unfolding chars
chars-wrapped text front utf8 =
    chars-append (codes "^(?:" ++ text) (codes ")$") (IsUtf8-append (codes "^(?:") text front utf8)
    ∙ ap (λ x. x ++ codes ")$") (chars-append (codes "^(?:") text front)
