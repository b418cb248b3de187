-- The depth of a text, a byte at a time.
use Rattle.std.proofs.Common.{◌≡◌, ℕ, ◌+◌, ◌<◌, ◌≤◌, max, true, false, nat_lt, List, [], ◌∷◌, length, drop, get_or, le_refl, ap, arith}
use Rattle.std.proofs.lemmas.Bool.Decides.{nat_tests}
use Rattle.std.proofs.lemmas.List.{drop_more, drop_all}
use Rattle.jsonpath_parser.specs.Prelude.{depth_from, next_place}
use Rattle.jsonpath_parser.specs.words.Depth.{Place, next_open}

-- what stands open counts
pub depth_from-ge : (place : Place) (o : ℕ) (bs : List ℕ) → o ≤ depth_from place o bs
depth_from-ge place o [] = le_refl o
depth_from-ge place o (b ∷ bs) = omega arith

-- one byte on
depth_from-drop : (place : Place) (o : ℕ) (text : List ℕ) (i : ℕ) → i < length text
    → depth_from place o (drop i text) ≡ max o (depth_from (next_place place (get_or text i 0)) (next_open place o (get_or text i 0)) (drop (i + 1) text))
depth_from-drop place o text i h = ap (depth_from place o) (drop_more text i 0 h)

-- a byte that leaves no more than the limit open
pub depth_within : (place : Place) (o : ℕ) (text : List ℕ) (i limit : ℕ) → i < length text → o ≤ limit
    → nat_lt limit (depth_from place o (drop i text)) ≡ nat_lt limit (depth_from (next_place place (get_or text i 0)) (next_open place o (get_or text i 0)) (drop (i + 1) text))
depth_within place o text i limit h small =
    let d = depth_from (next_place place (get_or text i 0)) (next_open place o (get_or text i 0)) (drop (i + 1) text) in
    rw (depth_from-drop place o text i h) (max_past o d limit small)
  where
    max_past : (o d limit : ℕ) → o ≤ limit → nat_lt limit (max o d) ≡ nat_lt limit d
    max_past o d limit small = grind (arith, nat_tests)

-- a byte that leaves more open
pub depth_over : (place : Place) (o : ℕ) (text : List ℕ) (i limit : ℕ) → i < length text → limit < next_open place o (get_or text i 0)
    → nat_lt limit (depth_from place o (drop i text)) ≡ true
depth_over place o text i limit h over =
    let d = depth_from (next_place place (get_or text i 0)) (next_open place o (get_or text i 0)) (drop (i + 1) text) in
    rw (depth_from-drop place o text i h) (past_max o d _ limit over (depth_from-ge _ _ _))
  where
    past_max : (o d n limit : ℕ) → limit < n → n ≤ d → nat_lt limit (max o d) ≡ true
    past_max o d n limit over up = grind (arith, nat_tests)

-- the end
pub depth_end : (place : Place) (o : ℕ) (text : List ℕ) (i limit : ℕ) → length text ≤ i → o ≤ limit → nat_lt limit (depth_from place o (drop i text)) ≡ false
depth_end place o text i limit h small = rw (drop_all i text h) (grind (arith, nat_tests))
