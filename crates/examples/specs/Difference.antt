-- Where two lists of values differ.
use Rattle.std.specs.Prelude.{List, Option, Some, None, IsTrue, IsFalse, take, slice_get}
use Rattle.std.specs.List.{AllZip, filter_map}
use Rattle.jsonpath_rust.specs.View.{query_view}
use Rattle.jsonpath_rust.specs.JpQuery.{JpQuery}
use Rattle.jsonpath_rust.specs.Places.{at}
use Rattle.jsonpath_rust.specs.Same.{same}
use Rattle.jsonpath_rust.specs.Tree.{Tree}
use Rattle.jsonpath_rust.specs.Document.{Document}
use Rattle.jsonpath_rust.specs.Meaning.{selected}
use Rattle.examples.specs.declared.difference.Difference.{Difference}
use Rattle.examples.specs.declared.difference.Missing.{Missing}
use Rattle.examples.specs.declared.difference.Missing.TheVariants.{Neither, First, Second}

-- the values at the locations that a query selects in a document, in order
abbrev pub values_of : JpQuery → Document → List Tree
values_of q doc = filter_map (λ l. at l doc.root) (selected (query_view q) doc)

-- as many in one list as in the other, and the same place by place
abbrev pub AreSame : List Tree → List Tree → Type 0
AreSame = AllZip (λ t u. IsTrue (same t u))

-- how what stands at an index of the first list differs from what stands there in the second
abbrev pub IsDifferent : Missing → Option Tree → Option Tree → Type 0
IsDifferent Neither (Some t) (Some u) = IsFalse (same t u)
IsDifferent First None (Some u) = Unit {0}
IsDifferent Second (Some t) None = Unit {0}
IsDifferent _ _ _ = ⊥

-- Before the index the lists are the same place by place, and there they differ so.
pub record IsFirstDifference (d : Difference) (ts us : List Tree) : Type 0 where
  pub before : AreSame (take d.index ts) (take d.index us)
  pub there : IsDifferent d.missing (slice_get ts d.index) (slice_get us d.index)
