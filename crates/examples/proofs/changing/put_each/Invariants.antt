use Rattle.std.proofs.Common.{◌≡◌, map, vec_len}
use Rattle.jsonpath_rust.specs.base.Values.{value_tree}
use Rattle.examples.specs.Changing.{all_put, change_view}
use Rattle.examples.proofs.changing.put_each.Given as goal

-- what is left to put makes of the document what all makes of the one that was given
abbrev pub invariant-changes : goal.invariant-changes
invariant-changes l = all_put (map change_view l.changes.items) (value_tree l.document.value) ≡ all_put (map change_view l.fn.changes.items) (value_tree l.fn.document.value)

abbrev pub decreases-changes : goal.decreases-changes
decreases-changes l = vec_len l.changes
