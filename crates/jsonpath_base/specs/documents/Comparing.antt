-- The comparison of values (RFC 9535, 2.3.5.2.2). None means that there is no value.
use Rattle.std.specs.Prelude.{Bool, true, false, not, ◌||◌, Option, Some, None, chars}
use Rattle.std.specs.Int.RustNames.{int_lt}
use Rattle.jsonpath_parser.specs.tree.Syntax as syntax
use Rattle.jsonpath_parser.specs.tree.Syntax.{Operator, not_equal, greater, greater_or_equal, less_or_equal}
use Rattle.jsonpath_base.specs.Tree.{Tree, number, text}
use Rattle.jsonpath_base.specs.Same.{same}
use Rattle.jsonpath_parser.specs.Texts.{is_less}

-- both are absent, or both are the same
abbrev pub are_equal : Option Tree → Option Tree → Bool
are_equal None None = true
are_equal (Some t) (Some u) = same t u
are_equal _ _ = false

-- two numbers, by their exact values, or two texts, by their scalar values; nothing else is less
abbrev pub is_below : Option Tree → Option Tree → Bool
is_below (Some (number m)) (Some (number n)) = int_lt m n
is_below (Some (text s)) (Some (text t)) = is_less (chars s) (chars t)
is_below _ _ = false

abbrev pub compares : Operator → Option Tree → Option Tree → Bool
compares syntax.equal a b = are_equal a b
compares not_equal a b = not (are_equal a b)
compares syntax.less a b = is_below a b
compares less_or_equal a b = is_below a b || are_equal a b
compares greater a b = is_below b a
compares greater_or_equal a b = is_below b a || are_equal a b
