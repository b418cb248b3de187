-- What the reading functions compute of lists: parts that stand one after the other. `more` puts a part in front of others, and `none` is the list of none. Only contracts inside the crate cite it.
use Rattle.std.specs.Prelude.{ℕ, zero, suc, Bool, ◌==◌, if◌then◌else◌, List, drop, Some, None}
use Rattle.jsonpath_parser.specs.tree.Syntax.{list_of}
use Rattle.jsonpath_parser.specs.words.inner.Reading.{Read, ◌>>=◌, first, skip_blank}

-- what is read behind parts that were found
abbrev pub found_then : {A B : Type 0} → (A → B → B) → List A → Read B → Read B
found_then more found read = read >>= (λ r. Some (list_of more r.0 found, r.1))

module _ {A B : Type 0} (more : A → B → B) (none : B) (part_at : List ℕ → Read A) where
  -- parts for as long as the text goes on with one, fewer than k
  unfoldable pub many_at : (List ℕ → Bool) → ℕ → List ℕ → Read B
  many_at goes_on zero text = None
  many_at goes_on (suc k) text =
      if goes_on text then part_at text >>= (λ x. many_at goes_on k x.1 >>= (λ xs. Some (more x.0 xs.0, xs.1)))
      else Some (none, text)

  -- a part, then others, each behind a comma, fewer than k
  unfoldable pub separated_at : ℕ → List ℕ → Read B
  separated_at zero text = None
  separated_at (suc k) text =
      part_at text >>= (λ x.
      if first (skip_blank x.1) == 44 then separated_at k (skip_blank (drop 1 (skip_blank x.1))) >>= (λ xs. Some (more x.0 xs.0, xs.1))
      else Some (more x.0 none, x.1))
