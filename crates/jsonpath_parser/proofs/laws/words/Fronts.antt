-- What is read at the front of a text.
use Rattle.std.proofs.Common.{◌≡◌, ℕ, suc, Bool, true, false, List, [], ◌∷◌, ◌++◌, length, take, drop, refl, sym, ap, subst, arith}
use Rattle.std.proofs.lemmas.Grind.{common_steps}
use Rattle.jsonpath_parser.specs.Prelude.{first, is_blank, IsBlank, IsRun, prefix_len, skip_blank, split_while}

-- the longest front is a run, and the text is it and the rest
pub run_holds : (p : ℕ → Bool) (text : List ℕ) → IsRun p (take (prefix_len p text) text) × (text ≡ take (prefix_len p text) text ++ drop (prefix_len p text) text)
run_holds p [] = (tt, refl)
run_holds p (b ∷ s) = by_test (p b) refl (run_holds p s)
  where
    by_test : (v : Bool) → p b ≡ v → IsRun p (take (prefix_len p s) s) × (s ≡ take (prefix_len p s) s ++ drop (prefix_len p s) s)
        → IsRun p (take (prefix_len p (b ∷ s)) (b ∷ s)) × (b ∷ s ≡ take (prefix_len p (b ∷ s)) (b ∷ s) ++ drop (prefix_len p (b ∷ s)) (b ∷ s))
    by_test true e ih =
        let k : prefix_len p (b ∷ s) ≡ suc (prefix_len p s) = rw e (omega arith) in
        rw k ((e, ih.0), ap (λ v. b ∷ v) ih.1)
    by_test false e ih = rw e (tt, refl)

-- a run is as long as its bytes pass
run_len : (p : ℕ → Bool) (run more : List ℕ) → IsRun p run → p (first more) ≡ false → p 0 ≡ false → prefix_len p (run ++ more) ≡ length run
run_len p [] [] h stop none = refl
run_len p [] (c ∷ more) h stop none = rw stop refl
run_len p (b ∷ run) more h stop none = let rest = run_len p run more h.1 stop none in rw (h.0, rest) (omega arith)

-- a run goes up to a byte that does not pass
pub run_over : (p : ℕ → Bool) (run more : List ℕ) → IsRun p run → p (first more) ≡ false → p 0 ≡ false → split_while p (run ++ more) ≡ (run, more)
run_over p run more h stop none = rw (run_len p run more h stop none) (grind (arith, common_steps))

-- blanks are skipped up to what is none
pub skip_over : (b more : List ℕ) → IsBlank b → is_blank (first more) ≡ false → skip_blank (b ++ more) ≡ more
unfolding skip_blank
skip_over b more h stop = ap (λ (p : List ℕ × List ℕ). p.1) (run_over is_blank b more h stop refl)

-- what is skipped is blank
pub skip_split : (text : List ℕ) → (b : List ℕ) × IsBlank b × (text ≡ b ++ skip_blank text)
unfolding skip_blank
skip_split text = let parts = run_holds is_blank text in (take (prefix_len is_blank text) text, parts.0, parts.1)

-- the two parts of a split
pub front : (p : ℕ → Bool) (text run more : List ℕ) → (run, more) ≡ split_while p text → take (prefix_len p text) text ≡ run
front p text run more e = sym (ap (λ (q : List ℕ × List ℕ). q.0) e)

-- and what follows it
pub back : (p : ℕ → Bool) (text run more : List ℕ) → (run, more) ≡ split_while p text → drop (prefix_len p text) text ≡ more
back p text run more e = sym (ap (λ (q : List ℕ × List ℕ). q.1) e)

-- what a split cuts off is a run
pub split_run : (p : ℕ → Bool) (text run more : List ℕ) → (run, more) ≡ split_while p text → IsRun p run
split_run p text run more e = subst (λ v. IsRun p v) (front p text run more e) (run_holds p text).0
