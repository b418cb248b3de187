-- What a loan leaves, told of the text that was read for it; and answers that hold a `&mut`.
use Rattle.std.proofs.Common.{◌≡◌, List, ℕ, Option, Some, None, Result, Ok, Err, Vec, Global, false, true, OnSome, IfOk, IfErr, IfSome, option_map, is_some, refl}
use Rattle.std.specs.contracts.option.Option as OP
use Rattle.std.specs.contracts.result.Result as RP
use Rattle.std.proofs.option.Option.TheLaws as option_laws
use Rattle.std.proofs.result.Result.TheLaws as result_laws
use Rattle.serde_json.specs.contracts.value.Value.{the_row as R}
use Rattle.serde_json.proofs.value.Value.TheLaws.{the_row_laws as R-laws}
use Rattle.jsonpath_base.specs.Prelude.Documents.{answer_of, IsReference, IsReferred, IsReplaced, JsonPathError, LendsReferred, LendsThere, lent_in, Location, location_view, OutOfMemory, place_in, put_there, Tree, tree_there, Value, value_document, value_tree}
use Rattle.jsonpath_parser.specs.contracts.errors.JsonPathError.{the_row as E}
use Rattle.jsonpath_parser.proofs.errors.JsonPathError.TheLaws.{the_row_laws as E-laws}
use Rattle.jsonpath_base.specs.declared.step.Step.{Step}
use mathlib.Core.List.{[], ◌∷◌}
use mathlib.Core.Option as maybe
use seplogic.Ra.Ura.{Ura}
use base.Logic.{ent, id⊢}
use base.Fml.{Fml, GName, Lft, fex}
use denote.Follow.{follows_so, follows_if, such_by}
use denote.Param.Laws.{Laws, of_field, row_shared}
use denote.Param.Shared.{mut_ref_shared}
use denote.RattleType.{RattleType}
use denote.Ref.{MutRef, MutBor, NamedLft}
use denote.Struct.Field.{mut_ref_field}
use denote.Struct.Laws.{mut_ref_laws}
use mir.Syntax.{named}
use types.Logic.{Logic, sem}
use types.Kit.{fpack, fpick, use1, ‵, ◌$◌, ◌∵◌, !, qed, done}

-- ---- the types of what is lent and of an answer

abbrev pub Lent : Lft → RattleType
Lent κ = OP.the_row (MutRef (named 0) κ R)

abbrev pub Answer : Lft → RattleType
Answer κ = RP.the_row (Lent κ) E

abbrev first : Lft → NamedLft
first κ = record { mir = named 0; lft = κ }

pub lent_laws : (κ : Lft) → Laws (Lent κ)
lent_laws κ = option_laws.the_row_laws (MutRef (named 0) κ R) (of_field (mut_ref_field (first κ) R tt) (mut_ref_laws (first κ) R tt) refl (mut_ref_shared (first κ) R tt (row_shared R R-laws)))

pub answer_laws : (κ : Lft) → Laws (Answer κ)
answer_laws κ = result_laws.the_row_laws (Lent κ) E (lent_laws κ) E-laws

-- ---- a relation in place of another that is at least as strong

module _ {M : Type 1} {𝓤 : Ura M} (𝓛 : Logic 𝓤) (R T : RattleType) (γ : GName) (m : maybe.Option GName) (P : T.Denot → R.Denot → Type 0) (P₀ : R.Denot → Type 0) where
  abbrev Known : Type 0
  Known = (s : (T.Denot → R.Denot) × R.Denot) × ((w : T.Denot) → P w (s.0 w)) × P₀ s.1

  abbrev Held : Known → Fml
  Held s = follows_if R T γ m s.0.0 s.0.1

  known_close : (s : Known) → ent 𝓤 (sem 𝓛 (follows_if R T γ m s.0.0 s.0.1)) (sem 𝓛 (follows_so R T γ m P P₀))
  unfolding such_by
  known_close s = qed 𝓛 (‵ (follows_if R T γ m s.0.0 s.0.1) ∷ []) ∵ fpack ! Known Held s $ done !

  known_open : ent 𝓤 (sem 𝓛 (follows_so R T γ m P P₀)) (sem 𝓛 (fex Known Held))
  unfolding such_by
  known_open = id⊢ 𝓤 _

module _ {M : Type 1} {𝓤 : Ura M} (𝓛 : Logic 𝓤) (R T : RattleType) (γ : GName) (m : maybe.Option GName) (P Q : T.Denot → R.Denot → Type 0) (P₀ : R.Denot → Type 0) where
  pub so_implied : ((w : T.Denot) (n : R.Denot) → P w n → Q w n) → ent 𝓤 (sem 𝓛 (follows_so R T γ m P P₀)) (sem 𝓛 (follows_so R T γ m Q P₀))
  so_implied step =
      qed 𝓛 (‵ (follows_so R T γ m P P₀) ∷ []) ∵ use1 𝓛 (‵ (fex (Known 𝓛 R T γ m P P₀) (Held 𝓛 R T γ m P P₀))) (known_open 𝓛 R T γ m P P₀) $ fpick ! (λ s.
      use1 𝓛 (‵ (follows_so R T γ m Q P₀)) (known_close 𝓛 R T γ m Q P₀ (s.0, (λ w. step w (s.0.0 w) (s.1 w)), s.2)) $ done !)

-- ---- what was sought, and what is answered

abbrev pub Seeking : Type 0
Seeking = Result (Option (Vec Step Global)) JsonPathError

-- what a text means in a value, if reading it was not refused
abbrev pub Means : List ℕ → Value → Seeking → Type 0
Means text v s = IfOk s (λ o. IsReference text (value_document v) (option_map (λ steps. location_view steps.items) o))

-- nothing is there where no location is meant
pub no_place : (o : Option Location) (t : Tree) → is_some o ≡ false → None ≡ tree_there o t
no_place None t e = refl
no_place (Some l) t e = absurd cc

pub lent_same : (s : Seeking) (lent : Option (MutBor Value)) (t : Tree) → option_map (λ v. value_tree v.now) lent ≡ tree_there (place_in s) t → lent_in (answer_of s lent) ≡ lent
lent_same (Ok o) lent t e = refl
lent_same (Err x) None t e = refl
lent_same (Err x) (Some v) t e = absurd cc

pub written : (text : List ℕ) (old : Value) (s : Seeking) (lent : Option (MutBor Value)) → Means text old s → option_map (λ v. value_tree v.now) lent ≡ tree_there (place_in s) (value_tree old) → (u n : Value)
    → OnSome lent (value_tree n ≡ put_there (place_in s) (value_tree u) (value_tree old)) → OnSome lent (IsReplaced text (value_document old) (value_tree u) true (value_tree n))
written text old s None means there u n is = tt
written text old (Ok (Some steps)) (Some v) means there u n is = record { reference = Some (location_view steps.items); means = means; replaced = is; found = refl }
written text old (Ok None) (Some v) means there u n is = absurd cc
written text old (Err x) (Some v) means there u n is = absurd cc

pub referred_there : (text : List ℕ) (old : Value) (s : Seeking) (lent : Option (MutBor Value)) → Means text old s → option_map (λ v. value_tree v.now) lent ≡ tree_there (place_in s) (value_tree old)
    → IfOk (answer_of s lent) (λ o. IsReferred text (value_document old) (option_map (λ v. value_tree v.now) o))
referred_there text old (Ok o) lent means there = record { reference = option_map (λ steps. location_view steps.items) o; means = means; there = there }
referred_there text old (Err x) lent means there = tt

pub refused_so : (s : Seeking) (lent : Option (MutBor Value)) → IfErr s (λ e. e ≡ OutOfMemory) → IfErr (answer_of s lent) (λ e. e ≡ OutOfMemory)
refused_so (Ok o) lent memory = tt
refused_so (Err x) lent memory = memory

pub whole_there : (P : MutBor Value → Type 0) (s : Seeking) (lent : Option (MutBor Value)) → IfSome lent P → IfOk (answer_of s lent) (λ o. IfSome o P)
whole_there P (Ok o) lent h = h
whole_there P (Err x) lent h = tt

module _ {M : Type 1} {𝓤 : Ura M} (𝓛 : Logic 𝓤) (text : List ℕ) (value : MutBor Value) (s : Seeking) (lent : Option (MutBor Value)) where
  pub tie_told : Means text value.now s → option_map (λ v. value_tree v.now) lent ≡ tree_there (place_in s) (value_tree value.now) → ent 𝓤 (sem 𝓛 (LendsThere (place_in s) value lent)) (sem 𝓛 (LendsReferred text value lent))
  tie_told means there = so_implied 𝓛 R R _ _ _ _ _ (λ w n is. written text value.now s lent means there w n is)
