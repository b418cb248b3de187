-- Why a call fails, for the crate's own contracts: the definition here is no part of what a query means.
use Rattle.std.specs.Prelude.{◌≡◌, Result, IfErr}
use Rattle.jsonpath_parser.specs.declared.errors.JsonPathError.{JsonPathError}
use Rattle.jsonpath_parser.specs.declared.errors.JsonPathError.TheVariants.{OutOfMemory}

-- it fails with `OutOfMemory` only
abbrev pub MemoryAlone : {X : Type 0} → Result X JsonPathError → Type 0
MemoryAlone result = IfErr result (λ e. e ≡ OutOfMemory)
