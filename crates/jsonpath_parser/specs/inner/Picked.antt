-- How many places a slice picks.
use Rattle.std.specs.Prelude.{ℕ, zero, suc, ◌/◌}

-- of n numbers in a row, where the first is picked, and then each that lies a step on
abbrev pub picked_of : ℕ → ℕ → ℕ
picked_of zero step = 0
picked_of (suc n) step = suc (n / step)
