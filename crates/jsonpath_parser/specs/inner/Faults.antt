-- What the code's one walk over a tree finds: the first fault, which is the name of a function that is not known, and no text for each other question.
use Rattle.std.specs.Prelude.{ℕ, Bool, false, List, [], Option, Some, None, if◌then◌else◌}
use Rattle.jsonpath_parser.specs.tree.Syntax.{Test, Call, Argument}
use Rattle.jsonpath_parser.specs.tree.Typing.{TreeFold, is_truth_test, is_value_argument, takes}
use Rattle.jsonpath_parser.specs.tree.Reach.{is_one_of, or_else, other_name}
use Rattle.jsonpath_parser.specs.declared.tree.asking.Question.{Question}
use Rattle.jsonpath_parser.specs.declared.tree.asking.Question.TheVariants.{Typed, Local, Known}

abbrev pub unless : Bool → Option (List ℕ)
unless good = if good then None else Some []

abbrev pub test_fault : Question → Test → Option (List ℕ)
test_fault Typed t = unless (is_truth_test t)
test_fault Local t = None
test_fault (Known names) t = None

abbrev pub side_fault : Question → Argument → Option (List ℕ)
side_fault Typed x = unless (is_value_argument x)
side_fault Local x = None
side_fault (Known names) x = None

abbrev pub root_fault : Question → Option (List ℕ)
root_fault Typed = None
root_fault Local = unless false
root_fault (Known names) = None

abbrev pub call_fault : Question → Call → Option (List ℕ)
call_fault Typed c = unless (takes c)
call_fault Local c = None
call_fault (Known names) c = other_name (is_one_of names.now) c

abbrev pub faults : Question → TreeFold (Option (List ℕ))
faults q = record { none = None; both = or_else; of_test = test_fault q; of_side = side_fault q; of_root = root_fault q; of_call = call_fault q }
