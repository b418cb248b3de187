-- That data holds whole values has one proof at most, so a type may carry it.
use Rattle.std.specs.Prelude.{Bool, true, IsTrue}
use Rattle.std.specs.Coded.{Coded-set, coded_bool, Unit-prop}
use Rattle.jsonpath_base.specs.documents.State.{DataIsWhole}
use Rattle.jsonpath_base.specs.declared.documents.state.data.Data.{Data}
use Rattle.jsonpath_base.specs.declared.documents.state.data.Data.TheVariants.{Ref, Refs, Value, Nothing}

is_true-prop : (b : Bool) → IsProp (IsTrue b)
is_true-prop b = Coded-set coded_bool b true

pub DataIsWhole-prop : {A : Type 0} (whole : A → Bool) (d : Data A) → IsProp (DataIsWhole whole d)
DataIsWhole-prop whole (Ref p) = is_true-prop (whole p.inner.now)
DataIsWhole-prop whole (Refs ps) = hlevel is_true-prop
DataIsWhole-prop whole (Value v) = is_true-prop (whole v)
DataIsWhole-prop whole Nothing = Unit-prop
