-- How the parts of filters lie in the text that they are read from.
use Rattle.std.proofs.Common.{◌≡◌, ℕ, ◌<◌, true, ℤ, List, [], ◌∷◌, ◌++◌, drop, codes, Option, Some, sym, ap, ◌∙◌, subst, append_assoc, append-nil}
use Rattle.std.proofs.lemmas.Bool.{and_parts}
use Rattle.jsonpath_parser.specs.Prelude.{Argument, argument, Arguments, Behind, Between, is_twice, IsNothing, no_arguments, one_argument, SpellsArgument, SpellsArguments, Then, two_arguments}
use Rattle.jsonpath_parser.proofs.SoundParts.{two_front}

-- a byte twice at the front
pub twice_front : (b : ℕ) (text : List ℕ) → is_twice b text ≡ true → 0 < b → text ≡ b ∷ b ∷ drop 2 text
twice_front b text e some = let (here, next) = and_parts _ _ e in two_front text b b here next some some

-- the pieces of what stands behind a mark
pub marked : (mark text t1 t2 t3 rest b c a : List ℕ) → text ≡ b ++ t1 → t1 ≡ mark ++ t2 → t2 ≡ c ++ t3 → t3 ≡ a ++ rest → text ≡ (b ++ (mark ++ (c ++ a))) ++ rest
marked mark text t1 t2 t3 rest b c a e1 e2 e3 e4 = rw (e1, e2, e3, e4) (simp append_assoc)

-- and others behind them
pub marked_others : (mark b c a r : List ℕ) → (b ++ (mark ++ (c ++ a))) ++ r ≡ b ++ (mark ++ (c ++ (a ++ r)))
marked_others mark b c a r = simp append_assoc

-- the pieces of a call
pub call_pieces : (called inner t2 t3 t4 rest b a c : List ℕ) → inner ≡ b ++ t2 → t2 ≡ a ++ t3 → t3 ≡ c ++ t4 → t4 ≡ 41 ∷ rest → called ++ (40 ∷ inner) ≡ ((called ++ 40 ∷ []) ++ (b ++ (a ++ (c ++ 41 ∷ [])))) ++ rest
call_pieces called inner t2 t3 t4 rest b a c e1 e2 e3 e4 = rw (e1, e2, e3, e4) (simp append_assoc)

-- the pieces of a group, with what stands before it
pub group_pieces : (p text t1 t2 t3 t4 rest b a c : List ℕ) → text ≡ 40 ∷ t1 → t1 ≡ b ++ t2 → t2 ≡ a ++ t3 → t3 ≡ c ++ t4 → t4 ≡ 41 ∷ rest → p ++ text ≡ (p ++ (40 ∷ (b ++ (a ++ (c ++ 41 ∷ []))))) ++ rest
group_pieces p text t1 t2 t3 t4 rest b a c e e1 e2 e3 e4 = rw (e, e1, e2, e3, e4) (simp append_assoc)

-- the pieces of a comparison
pub compared_pieces : (a b text t1 t2 rest o c d : List ℕ) → text ≡ o ++ t1 → t1 ≡ c ++ t2 → t2 ≡ d ++ rest → a ++ (b ++ text) ≡ (a ++ (b ++ (o ++ (c ++ d)))) ++ rest
compared_pieces a b text t1 t2 rest o c d e1 e2 e3 = rw (e1, e2, e3) (simp append_assoc)

-- what stands between two texts may be seen as another thing
pub within : (P Q : List ℕ → Type 0) (before after text : List ℕ) → ((a : List ℕ) → P a → Q a) → Between before P after text → Between before Q after text
within P Q before after text f h = let (b, a, c, hb, ha, hc, e) = h in (b, a, c, hb, f a ha, hc, e)

module _ (Number : Option ℤ → List ℕ → Type 0) where
  -- one argument alone
  pub one_spelled : (xs : Arguments) (x : Argument) (a : List ℕ) → one_argument xs ≡ Some x → SpellsArguments Number xs a → SpellsArgument Number x a
  one_spelled no_arguments x a e h = absurd (cc)
  one_spelled (argument y no_arguments) x a e h =
      let (c, d, hc, hd, ec) = h in
      let k : y ≡ x = cc in
      subst (λ v. SpellsArgument Number x v) (sym (ec ∙ ap (λ v. c ++ v) hd ∙ append-nil c)) (subst (λ v. SpellsArgument Number v c) k hc)
  one_spelled (argument y (argument z more)) x a e h = absurd (cc)

  -- two
  abbrev pub SpellsTwo : Argument × Argument → List ℕ → Type 0
  SpellsTwo p text = Then (SpellsArgument Number p.0) (Behind (codes ",") (SpellsArgument Number p.1) IsNothing) text

  pub two_spelled : (xs : Arguments) (p : Argument × Argument) (a : List ℕ) → two_arguments xs ≡ Some p → SpellsArguments Number xs a → SpellsTwo p a
  two_spelled no_arguments p a e h = absurd (cc)
  two_spelled (argument y no_arguments) p a e h = absurd (cc)
  two_spelled (argument y (argument z no_arguments)) p a e h = let k : ◌≡◌ {A = Argument × Argument} (y, z) p = cc in subst (λ (q : Argument × Argument). SpellsTwo q a) k h
  two_spelled (argument y (argument z (argument w more))) p a e h = absurd (cc)
