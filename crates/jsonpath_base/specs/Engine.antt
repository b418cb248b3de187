-- What is in the parts that `engine` exports: the slots where patterns are built, and their finders.
use Rattle.std.specs.Prelude.{ℕ, vec_len}
use Rattle.std.specs.Borrow.{Bor}
use Rattle.jsonpath_base.specs.declared.pattern.slots.PatternSlots.{PatternSlots}
use Rattle.jsonpath_base.specs.declared.pattern.cache.QueryMatchers.{QueryMatchers}

-- the number of slots
abbrev pub cell_count : PatternSlots → ℕ
cell_count c = vec_len c.cells

-- the slots where the patterns are built
abbrev pub cells_of : QueryMatchers → Bor PatternSlots
cells_of f = f.cells

-- the number of patterns that have a place for a finder
abbrev pub finder_count : QueryMatchers → ℕ
finder_count f = vec_len f.finders
