-- Which places a slice picks in an array, over unbounded whole numbers (RFC 9535, 2.3.4).
use Rattle.std.specs.Prelude.{ℕ, zero, suc, ◌%◌, ℤ, pos, negsuc, ◌+ℤ◌, ◌-ℤ◌, neg_ℤ, Bool, ◌&&◌, ◌==◌, List, [], ◌∷◌, Option, unwrap_or, filter, if◌then◌else◌}
use Rattle.std.specs.Int.{int_min, int_max}
use Rattle.std.specs.Int.RustNames.{unsigned_abs, int_lt, int_le}
use Rattle.std.specs.List.{range_with_len}

-- the numbers below n, from the greatest down
abbrev pub down_from : ℕ → List ℕ
down_from zero = []
down_from (suc n) = n ∷ down_from n

-- n(i): a part below 0 counts from the end
abbrev pub normalized : ℕ → ℤ → ℤ
normalized len z = if int_lt z (pos 0) then pos len +ℤ z else z

abbrev pub clamped : ℤ → ℤ → ℤ → ℤ
clamped low high z = int_max low (int_min high z)

-- whether the step divides a distance
abbrev pub divides : ℕ → ℤ → Bool
divides step distance = unsigned_abs distance % step == 0

-- lower <= i < upper, and the step divides i - lower
abbrev pub picks_rising : ℤ → ℤ → ℕ → ℕ → Bool
picks_rising lower upper step i = int_le lower (pos i) && int_lt (pos i) upper && divides step (pos i -ℤ lower)

-- lower < i <= upper, and the step divides upper - i
abbrev pub picks_falling : ℤ → ℤ → ℕ → ℕ → Bool
picks_falling lower upper step i = int_lt lower (pos i) && int_le (pos i) upper && divides step (upper -ℤ pos i)

-- a step of 0 picks nothing, one above 0 picks from the front on, and one below 0 from the back on
abbrev pub slice_by : Option ℤ → Option ℤ → ℤ → ℕ → List ℕ
slice_by start end (pos zero) len = []
slice_by start end (pos (suc n)) len =
    let lower = clamped (pos 0) (pos len) (normalized len (unwrap_or start (pos 0))) in
    let upper = clamped (pos 0) (pos len) (normalized len (unwrap_or end (pos len))) in
    filter (picks_rising lower upper (suc n)) (range_with_len 0 len)
slice_by start end (negsuc n) len =
    let upper = clamped (negsuc 0) (pos len -ℤ pos 1) (normalized len (unwrap_or start (pos len -ℤ pos 1))) in
    let lower = clamped (negsuc 0) (pos len -ℤ pos 1) (normalized len (unwrap_or end (neg_ℤ (pos len) -ℤ pos 1))) in
    filter (picks_falling lower upper (suc n)) (down_from len)

-- the places that a slice picks in an array of so many elements, in order; the step is 1 where none is given
unfoldable pub slice_of : Option ℤ → Option ℤ → Option ℤ → ℕ → List ℕ
slice_of start end step len = slice_by start end (unwrap_or step (pos 1)) len
