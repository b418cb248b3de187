-- How a plan is made, for the contracts of its maker alone: the definitions here are no part of what a query means.
use Rattle.std.specs.Prelude.{◌≡◌, ℕ, Bool, true, List, [], ◌∷◌, ◌++◌, map, length, IsTrue}
use Rattle.jsonpath_parser.specs.tree.Syntax as tree
use Rattle.jsonpath_rust.specs.selection.inner.PlanViews.{Constants, ConstantPart, compared, constants_view, part_at, part_is_rooted, constant_view, AreRooted, filter_view}
use Rattle.jsonpath_rust.specs.selection.inner.Rooted.{filter_is_rooted}
use Rattle.jsonpath_rust.specs.declared.selection.plan.Filter.{Filter}
use Rattle.jsonpath_rust.specs.declared.selection.plan.Constant.{Constant}
use Rattle.jsonpath_rust.specs.declared.selection.plan.make.Maker.{Maker}
use Rattle.jsonpath_rust.specs.declared.selection.plan.numbering.Scope.{Scope}

-- the constants so far
abbrev pub constants_in : Maker → Constants
constants_in m = constants_view m.constants.items

-- the new constants are the old ones, and more after them
pub record Extends (old new : Constants) : Type 0 where
  pub more : Constants
  pub is : new ≡ old ++ more

-- what these constants mean, given the others
abbrev pub parts_where : Constants → List Constant → Constants
parts_where constants es = map (constant_view constants) es

-- Each constant means the same, whatever constants are added after them, and has no `@`.
pub record IsRight (m : Maker) : Type 0 where
  pub stable : (constants : Constants) → Extends (constants_in m) constants → parts_where constants m.constants.items ≡ constants_in m
  pub rooted : AreRooted (constants_in m)

-- The part that was made means this with the constants so far, whatever constants are added after them. If no `@` was met by its end, none was met
-- before it, and what it means passes the test that it has no `@`.
pub record Made {A : Type 0} (test : A → Bool) (old new : Maker) (part : Constants → A) (a : A) : Type 0 where
  pub grows : Extends (constants_in old) (constants_in new)
  pub says : IsRight old → (constants : Constants) → Extends (constants_in new) constants → part constants ≡ a
  pub right : IsRight old → IsRight new
  pub rooted : IsTrue new.scope.rooted → IsTrue old.scope.rooted × IsTrue (test a)

-- the test for what never becomes a constant: everything passes it
abbrev pub every : {A : Type 0} → A → Bool
every a = true

-- no constant was added between the two, and the second has this for whether no `@` was met
pub record IsBeside (old new : Maker) (rooted : Bool) : Type 0 where
  pub same : new.constants.items ≡ old.constants.items
  pub met : new.scope.rooted ≡ rooted

-- this constant was added, with this number
pub record IsKept (old new : Maker) (part : Constant) (n : ℕ) : Type 0 where
  pub number : n ≡ length old.constants.items
  pub constants : new.constants.items ≡ old.constants.items ++ part ∷ []
  pub met : new.scope.rooted ≡ old.scope.rooted

-- What the part that was made means, its number means too, if it has no `@`.
pub record IsNumbered (old new : Maker) (part : Constant) (n : ℕ) : Type 0 where
  pub made : {first : Maker} {p : ConstantPart} → Made part_is_rooted first old (λ constants. constant_view constants part) p → IsTrue (part_is_rooted p) → Made part_is_rooted first new (λ constants. part_at constants n) p

-- what the comparison that was begun and made means, the filter means too
pub record IsCompared (around : Scope) (old new : Maker) (part : Constant) (f : Filter) : Type 0 where
  pub made : {first begun : Maker} {c : tree.Filter} → IsBeside begun first around.rooted → Made part_is_rooted begun old (λ constants. constant_view constants part) (compared c) → Made filter_is_rooted first new (λ constants. filter_view constants f) c
