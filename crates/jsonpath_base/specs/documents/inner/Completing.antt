-- The steps of `flat_map` of states, for its contract alone: the definition here is no part of what a query means.
use Rattle.std.specs.Prelude.{◌≡◌, List, ◌++◌}
use Rattle.std.specs.List.{flat_map, AllZip}
use Rattle.jsonpath_base.specs.documents.State.{pointers}
use Rattle.jsonpath_base.specs.declared.documents.state.data.Data.{Data}
use Rattle.jsonpath_base.specs.declared.documents.state.pointer.Pointer.{Pointer}

-- results for the rest can be completed to results for all
abbrev pub Completes : {A : Type 0} → (Pointer A → Data A → Type 0) → List (Pointer A) → List (Pointer A) → List (Pointer A) → Type 0
Completes {A} Gives all rest got = (ds : List (Data A)) → AllZip Gives rest ds → (es : List (Data A)) × AllZip Gives all es × (flat_map pointers es ≡ got ++ flat_map pointers ds)
