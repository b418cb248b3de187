-- The value to which names and indexes lead, for the contracts of look-ups alone: the definitions here are no part of what a query means.
use Rattle.std.specs.Prelude.{List, [], ◌∷◌, length, Option, Some, None, option_and_then}
use Rattle.jsonpath_parser.specs.Location as location
use Rattle.jsonpath_parser.specs.tree.Syntax as syntax
use Rattle.jsonpath_parser.specs.tree.Syntax.{Segment, one, Argument}
use Rattle.jsonpath_base.specs.Places.{child}
use Rattle.jsonpath_base.specs.Tree.{Tree, as_list}
use Rattle.jsonpath_base.specs.documents.Document.{Document}
use Rattle.jsonpath_base.specs.documents.Functions.{as_value}
use Rattle.jsonpath_base.specs.documents.Meaning.{element_of, argued}
use Rattle.jsonpath_base.specs.documents.Node.{Node}

-- by one name or one index
abbrev pub stepped : Segment → Tree → Option Tree
stepped (one (syntax.Selector.name k)) t = child (location.name k) t
stepped (one (syntax.Selector.index i)) t = option_and_then (λ ts. option_and_then (λ k. child (location.index k) t) (element_of i (length ts))) (as_list t)
stepped _ t = None

-- by one after the other
abbrev pub value_at : List Segment → Tree → Option Tree
value_at [] t = Some t
value_at (s ∷ ss) t = option_and_then (value_at ss) (stepped s t)

-- the value of a side of a comparison, if it has one
abbrev pub value_of : Argument → Document → Node → Option Tree
value_of x d n = as_value (argued x d n)
