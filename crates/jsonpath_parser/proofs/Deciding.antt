-- What a test of two values by their parts decides.
use Rattle.std.proofs.Common.{◌≡◌, ◌&&◌, Bool, false, true≢false, String, Global, string_bytes, ap, sym, ◌∙◌}
use Rattle.std.proofs.lemmas.Bool.Decides.{Decides-and}
use Rattle.jsonpath_parser.specs.Prelude.{Decides}
use Rattle.std.specs.Cmp.Lexicographic.{bytes_decides}
use Rattle.std.specs.String.{string_eq}

-- a test of a value by its one or two parts

pub under : {S T : Type 0} (C : S → T) → ((s t : S) → C s ≡ C t → s ≡ t) → {u v : T} {s t : S} {r b : Bool} → Decides b (s ≡ t) → r ≡ b → u ≡ C s → v ≡ C t → Decides r (u ≡ v)
under C inj {s = s} {t = t} d e left right = (λ h. left ∙ ap C (d.0 (sym e ∙ h)) ∙ sym right, λ h. e ∙ d.1 (inj s t (sym left ∙ h ∙ right)))

pub both : {A B : Type 0} {a c : A} {b d : B} → (a ≡ c) × (b ≡ d) → ◌≡◌ {A = A × B} (a, b) (c, d)
both e = λ i. (e.0 i, e.1 i)

pub under_two : {A B T : Type 0} (C : A → B → T) → ((a c : A) (b d : B) → C a b ≡ C c d → (a ≡ c) × (b ≡ d)) → {u v : T} {a c : A} {b d : B} {r p q : Bool}
    → Decides p (a ≡ c) → Decides q (b ≡ d) → r ≡ (p && q) → u ≡ C a b → v ≡ C c d → Decides r (u ≡ v)
under_two C inj {a = a} {c = c} {b = b} {d = d} {p = p} {q = q} m n e left right =
    let k = Decides-and p q m n in (
      λ h. left ∙ (λ i. C ((k.0 (sym e ∙ h)).0 i) ((k.0 (sym e ∙ h)).1 i)) ∙ sym right,
      λ h. e ∙ k.1 (inj a c b d (sym left ∙ h ∙ right)),
    )

-- values of two kinds
pub differ : {T : Type 0} {u v : T} {r : Bool} → r ≡ false → (u ≡ v → ⊥) → Decides r (u ≡ v)
differ e n = (λ h. absurd (true≢false (sym h ∙ e)), λ h. absurd (n h))

pub string_same : (a b : String Global) → Decides (string_eq a b) (string_bytes a ≡ string_bytes b)
string_same a b = bytes_decides (string_bytes a) (string_bytes b)
