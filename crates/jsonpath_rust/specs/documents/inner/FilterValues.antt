-- The values in a filter, and the arguments of calls, for the evaluator's contracts alone.
use Rattle.std.specs.Prelude.{List, map, Option, Some, None}
use Rattle.std.specs.declared.fmt.Debug as debug
use Rattle.jsonpath_base.specs.Tree as tree
use Rattle.jsonpath_base.specs.Tree.{Tree}
use Rattle.jsonpath_base.specs.documents.Args.{arg_value}
use Rattle.jsonpath_rust.specs.documents.Whole.{tree_of, own_tree}
use Rattle.jsonpath_base.specs.declared.documents.queryable.Queryable.{Ghosts}
use Rattle.jsonpath_rust.specs.declared.documents.args.Args.{Args}
use Rattle.jsonpath_rust.specs.declared.documents.filter_value.FilterValueRef.{FilterValueRef}
use Rattle.jsonpath_rust.specs.declared.documents.filter_value.FilterValueRef.TheVariants as side
use Rattle.jsonpath_rust.specs.declared.documents.filter_value.Scalar.{Scalar}
use Rattle.jsonpath_rust.specs.declared.documents.filter_value.Scalar.TheVariants as scalar
use Rattle.jsonpath_rust.specs.declared.documents.filter_value.FilterValue.{FilterValue}
use Rattle.jsonpath_rust.specs.declared.documents.filter_value.FilterValue.TheVariants as operand

abbrev pub scalar_tree : Scalar → Tree
scalar_tree scalar.Null = tree.null
scalar_tree (scalar.Truth b) = tree.truth b
scalar_tree (scalar.Number n) = tree.number n
scalar_tree (scalar.Text s) = tree.text s.now

-- the value, if it is not absent
abbrev pub filter_ref_tree : {A : Type 0} {R : Ghosts A} {D : debug.Ghosts A} → FilterValueRef A R D → Option Tree
filter_ref_tree side.Absent = None
filter_ref_tree (side.Borrowed v) = Some (tree_of v)
filter_ref_tree (side.Plain s) = Some (scalar_tree s)

-- the value of an expression in a filter, if there is one
abbrev pub filter_value_tree : {A : Type 0} {R : Ghosts A} {D : debug.Ghosts A} → FilterValue A R D → Option Tree
filter_value_tree (operand.Ref s) = filter_ref_tree s
filter_value_tree (operand.Owned v) = Some (own_tree v)

-- the arguments of a custom function
abbrev pub arg_trees : {A : Type 0} {R : Ghosts A} {D : debug.Ghosts A} → Args A R D → List Tree
arg_trees {R = R} args = map (λ a. R.tree (arg_value a)) args.list.items
