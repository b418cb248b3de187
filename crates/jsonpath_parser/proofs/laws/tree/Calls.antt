-- Segments and arguments of calls, as lists.
use Rattle.std.proofs.Common.{◌≡◌, ◌&&◌, List, [], ◌∷◌, length, map, None, refl, ap}
use Rattle.jsonpath_parser.specs.Prelude.{argument_view, arguments_of, FnArg, is_singular, is_step, list_all, one_argument, segment_view, segments_of, two_arguments}
use Rattle.jsonpath_parser.specs.declared.tree.model.Segment.{Segment}

pub is_singular_all : (gs : List Segment) → is_singular (segments_of (map segment_view gs)) ≡ list_all (λ g. is_step (segment_view g)) gs
is_singular_all [] = refl
is_singular_all (g ∷ gs) = ap (λ b. is_step (segment_view g) && b) (is_singular_all gs)

-- no argument, or more than one
pub one_none : (xs : List FnArg) → (length xs ≡ 1 → ⊥) → one_argument (arguments_of (map argument_view xs)) ≡ None
one_none [] h = refl
one_none (x ∷ []) h = absurd (h refl)
one_none (x ∷ y ∷ xs) h = refl

-- fewer arguments than two, or more
pub two_none : (xs : List FnArg) → (length xs ≡ 2 → ⊥) → two_arguments (arguments_of (map argument_view xs)) ≡ None
two_none [] h = refl
two_none (x ∷ []) h = refl
two_none (x ∷ y ∷ []) h = absurd (h refl)
two_none (x ∷ y ∷ z ∷ xs) h = refl
