-- What is read is spelled so: lists of parts, of which each is.
use Rattle.std.proofs.Common.{◌≡◌, ℕ, zero, suc, Bool, true, cond, ◌==◌, List, [], ◌∷◌, ◌++◌, drop, codes, Some, refl, sym, ap, ◌∙◌, inl, inr, append_assoc, arith}
use Rattle.jsonpath_parser.specs.Prelude.{Behind, first, many_at, Read, separated_at, skip_blank}
use Rattle.jsonpath_parser.specs.words.inner.Reading.{◌>>=◌}
use Rattle.jsonpath_parser.proofs.laws.words.Fronts.{skip_split}
use Rattle.jsonpath_parser.proofs.SoundParts.{bind_ok, chosen, at_front, Spelled, same_parts, moved}

-- the pieces of a text with more behind a mark
pub behind : (mark text t1 t2 t3 t4 rest x b c y r : List ℕ) → text ≡ x ++ t1 → t1 ≡ b ++ t2 → t2 ≡ mark ++ t3 → t3 ≡ c ++ t4 → t4 ≡ y ++ (r ++ rest) → text ≡ x ++ ((b ++ (mark ++ (c ++ (y ++ r)))) ++ rest)
behind mark text t1 t2 t3 t4 rest x b c y r e1 e2 e3 e4 e5 = rw (e1, e2, e3, e4, e5) (simp append_assoc)

-- parts that are read for as long as the text goes on, where one in front of others is spelled by its text and theirs
module _ {A B : Type 0} (more : A → B → B) (none : B) (part_at : List ℕ → Read A) (goes_on : List ℕ → Bool) (Part : A → List ℕ → Type 0) (Parts : B → List ℕ → Type 0)
    (part : (x : A) (text rest : List ℕ) → goes_on text ≡ true → part_at text ≡ Some (x, rest) → Spelled Part x text rest) (nothing : Parts none [])
    (further : (x : A) (xs : B) (a r : List ℕ) → Part x a → Parts xs r → Parts (more x xs) (a ++ r)) where
  pub sound_many : (k : ℕ) (xs : B) (text rest : List ℕ) → many_at more none part_at goes_on k text ≡ Some (xs, rest) → Spelled Parts xs text rest
  unfolding many_at
  sound_many zero xs text rest e = absurd (cc)
  sound_many (suc k) xs text rest e = elim (chosen (goes_on text) _ _ _ e) [
    | inl go ↦ (
        let (x, read, e1) = bind_ok _ (part_at text) _ go.1 in
        let (ys, others, e2) = bind_ok _ (many_at more none part_at goes_on k x.1) _ e1 in
        let (a, ha, ea) = part x.0 text x.1 go.0 read in
        let (r, hr, er) = sound_many k ys.0 x.1 ys.1 others in
        moved Parts (more x.0 ys.0) xs text ys.1 rest e2 (a ++ r, further x.0 ys.0 a r ha hr, ea ∙ ap (λ v. a ++ v) er ∙ sym (append_assoc a r ys.1)))
    | inr stop ↦ moved Parts none xs text text rest stop.1 ([], nothing, refl)
  ]

-- where the text goes on there is a part
pub many_some : {A B : Type 0} (more : A → B → B) (none : B) (part_at : List ℕ → Read A) (goes_on : List ℕ → Bool) (k : ℕ) (xs : B) (text rest : List ℕ) → many_at more none part_at goes_on k text ≡ Some (xs, rest) → goes_on text ≡ true
    → (x : A) × (ys : B) × (xs ≡ more x ys)
unfolding many_at
many_some more none part_at goes_on zero xs text rest e go = absurd (cc)
many_some more none part_at goes_on (suc k) xs text rest e go =
    let (x, read, e1) = bind_ok _ (part_at text) _ (ap (λ b. cond b (part_at text >>= (λ x. many_at more none part_at goes_on k x.1 >>= (λ ys. Some (more x.0 ys.0, ys.1)))) (Some (none, text))) (sym go) ∙ e) in
    let (ys, others, e2) = bind_ok _ (many_at more none part_at goes_on k x.1) _ e1 in
    (x.0, ys.0, sym (same_parts (more x.0 ys.0) xs ys.1 rest e2).0)

-- parts that are read with commas between them
module _ {A B : Type 0} (more : A → B → B) (none : B) (part_at : List ℕ → Read A) (Part : A → List ℕ → Type 0) (Parts : B → List ℕ → Type 0)
    (part : (x : A) (text rest : List ℕ) → part_at text ≡ Some (x, rest) → Spelled Part x text rest) (nothing : Parts none [])
    (further : (x : A) (xs : B) (r : List ℕ) → Behind (codes ",") (Part x) (Parts xs) r → Parts (more x xs) r) where
  pub sound_separated : (k : ℕ) (xs : B) (text rest : List ℕ) → separated_at more none part_at k text ≡ Some (xs, rest)
      → (x : A) × (ys : B) × (a r : List ℕ) × (xs ≡ more x ys) × Part x a × Parts ys r × (text ≡ a ++ (r ++ rest))
  unfolding separated_at
  sound_separated zero xs text rest e = absurd (cc)
  sound_separated (suc k) xs text rest e =
      let (x, read, e1) = bind_ok _ (part_at text) _ e in
      let (a, ha, ea) = part x.0 text x.1 read in
      let (b, hb, eb) = skip_split x.1 in
      elim (chosen (first (skip_blank x.1) == 44) _ _ _ e1) [
        | inl comma ↦ (
            let (c, hc, ec) = skip_split (drop 1 (skip_blank x.1)) in
            let (ys, others, e2) = bind_ok _ (separated_at more none part_at k (skip_blank (drop 1 (skip_blank x.1)))) _ comma.1 in
            let (y, zs, d, r, same, hd, hr, er) = sound_separated k ys.0 (skip_blank (drop 1 (skip_blank x.1))) ys.1 others in
            let (all, left) = same_parts (more x.0 ys.0) xs ys.1 rest e2 in
            let pieces = behind (44 ∷ []) text x.1 (skip_blank x.1) (drop 1 (skip_blank x.1)) (skip_blank (drop 1 (skip_blank x.1))) ys.1 a b c d r ea eb (at_front (skip_blank x.1) 44 comma.0 (omega arith)) ec er in (
              x.0,
              more y zs,
              a,
              b ++ (44 ∷ (c ++ (d ++ r))),
              sym all ∙ ap (more x.0) same,
              ha,
              further y zs (b ++ (44 ∷ (c ++ (d ++ r)))) (b, c, d, r, hb, hc, hd, hr, refl),
              pieces ∙ ap (λ v. a ++ ((b ++ (44 ∷ (c ++ (d ++ r)))) ++ v)) left,
            ))
        | inr stop ↦ (
            let (same, after) = same_parts (more x.0 none) xs x.1 rest stop.1 in
            (x.0, none, a, [], sym same, ha, nothing, ea ∙ ap (λ v. a ++ v) after))
      ]
