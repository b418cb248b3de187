-- What the clauses of the parser say of a text's reading, and of the tree that it reads.
use Rattle.std.proofs.Common.{◌≡◌, ℕ, ◌<◌, ◌≤◌, Bool, true, false, nat_le, List, Option, None, Some, IsSomeAnd, IsSome, IfSome, is_some, option_and_then, ap, sym, refl, arith, inl, inr, length, get_or, rules, ◌∙◌, subst, if◌then◌else◌}
use Rattle.std.proofs.lemmas.Bool.{le-leb, leb-true, cond-false}
use Rattle.jsonpath_base.specs.Prelude.{chars, Re}
use Rattle.regex.specs.Writes.{HasTextParts}
use Rattle.regex.specs.Patterns.{SameCaptures, Reads, Refuses, default_config, find_str}
use Rattle.regex.proofs.ForCallers.{is_match_alike}
use Rattle.regex_hir.specs.declared.hir.Hir.{Hir}
use Rattle.regex_hir.specs.Meaning.{meaning}
use Rattle.regex_syntax.specs.WellFormed.{IsWellFormed}
use Rattle.regex_syntax.specs.Brackets.{Nested}
use Rattle.regex_syntax.specs.Grammar.{Names, read, group_count}
use Rattle.regex_syntax.specs.declared.error.ErrorKind.{ErrorKind}
use Rattle.regex_syntax.specs.declared.error.ErrorKind.TheVariants.{OutOfMemory}
use Rattle.jsonpath_base.specs.Pattern.{reading, is_found}
use Rattle.jsonpath_base.specs.inner.Groups.{without_groups, IsTreeOf}
use Rattle.jsonpath_base.proofs.GroupLemmas.{found_without, text_parts, HasTextParts-without}

-- what is read, up to a depth
within : ℕ → Option (Nested Re × Names) → Option Re
within most = option_and_then (λ (re, _). if nat_le re.depth most then Some re.value else None)

some_within : (o : Option (Nested Re × Names)) (hir : Hir) (names : Names) (most : ℕ) →
    IsSomeAnd o (λ (re, found). (re.depth ≤ most) × SameCaptures (meaning hir) re.value × (names ≡ found) × (group_count (meaning hir) ≤ length names)) →
    IsSomeAnd (within most o) (SameCaptures (meaning hir))
unfolding within
some_within None hir names most h = absurd h
some_within (Some x) hir names most h = rw (le-leb x.0.depth most h.0) h.1

none_within : (o : Option (Nested Re × Names)) (most : ℕ) → IfSome o (λ (re, _). most < re.depth) → within most o ≡ None
unfolding within
none_within None most h = refl
none_within (Some x) most h = cond-false (nat_le x.0.depth most) (Some x.0.value) None (too_deep (nat_le x.0.depth most) refl)
  where
    too_deep : (b : Bool) → nat_le x.0.depth most ≡ b → nat_le x.0.depth most ≡ false
    too_deep true e = absurd (omega (arith, h, leb-true x.0.depth most e))
    too_deep false e = e

-- a text that is read has a reading, which captures as the tree does
reading-Reads : (source : List ℕ) (hir : Hir) (names : Names) → Reads default_config source hir names →
    IsSomeAnd (reading (chars source)) (SameCaptures (meaning hir))
unfolding Reads reading within
reading-Reads source hir names h = some_within (read default_config (chars source)) hir names default_config.nest_limit h

some_and : {A : Type 0} (o : Option A) (P : A → Type 0) → IsSomeAnd o P → IsSome o
some_and None P h = absurd h
some_and (Some x) P h = search rules

is_some_and : {A : Type 0} (o : Option A) (P : A → Type 0) → IsSomeAnd o P → true ≡ is_some o
is_some_and None P h = absurd h
is_some_and (Some x) P h = refl

pub is_some-Reads : (source : List ℕ) (hir : Hir) (names : Names) → Reads default_config source hir names → true ≡ is_some (reading (chars source))
is_some-Reads source hir names h = is_some_and (reading (chars source)) (SameCaptures (meaning hir)) (reading-Reads source hir names h)

-- a text that is refused, not for memory, has no reading
pub no_reading : (source : List ℕ) (kind : ErrorKind) → Refuses default_config source kind → (kind ≡ OutOfMemory → ⊥) → reading (chars source) ≡ None
unfolding Refuses reading within
no_reading source kind refused memory =
    elim refused [
      | inl out ↦ absurd (memory out)
      | inr rest ↦ elim rest [
        | inl none ↦ ap (within default_config.nest_limit) none
        | inr deep ↦ none_within (read default_config (chars source)) default_config.nest_limit deep.1
      ]
    ]

pub is_none-Refuses : (source : List ℕ) (kind : ErrorKind) → Refuses default_config source kind → (kind ≡ OutOfMemory → ⊥) → false ≡ is_some (reading (chars source))
is_none-Refuses source kind refused memory = sym (ap is_some (no_reading source kind refused memory))

found_alike : (o : Option Re) (a : Re) (text : List ℕ) → ((k : ℕ) → get_or text k 0 < 256) → IsSomeAnd o (SameCaptures a) →
    is_some (find_str a text 0) ≡ is_found o text
found_alike None a text bytes h = absurd h
found_alike (Some re) a text bytes h = is_match_alike h text bytes true 0

-- the tree that was read, as it is or without its groups
pub IsTreeOf-read : (source : List ℕ) (hir : Hir) (names : Names) → Reads default_config source hir names → IsWellFormed true hir →
    IsTreeOf (reading (chars source)) (Some hir)
IsTreeOf-read source hir names reads formed =
    let alike = reading-Reads source hir names reads in (
      some_and (reading (chars source)) (SameCaptures (meaning hir)) alike,
      (λ text bytes. found_alike (reading (chars source)) (meaning hir) text bytes alike),
      ∣ text_parts hir formed ∣₁,
    )

pub IsTreeOf-without : (source : List ℕ) (hir made : Hir) (names : Names) → Reads default_config source hir names → IsWellFormed true hir →
    meaning made ≡ without_groups (meaning hir) → IsTreeOf (reading (chars source)) (Some made)
IsTreeOf-without source hir made names reads formed is =
    let alike = reading-Reads source hir names reads in (
      some_and (reading (chars source)) (SameCaptures (meaning hir)) alike,
      (λ text bytes. ap (λ re. is_some (find_str re text 0)) is ∙ found_without (meaning hir) text 0
          ∙ found_alike (reading (chars source)) (meaning hir) text bytes alike),
      ∣ subst HasTextParts (sym is) (HasTextParts-without (meaning hir) (text_parts hir formed)) ∣₁,
    )
