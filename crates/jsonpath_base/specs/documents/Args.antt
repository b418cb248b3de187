-- The arguments of a custom function.
use Rattle.jsonpath_base.specs.declared.documents.queryable.Arg.{Arg}
use Rattle.jsonpath_base.specs.declared.documents.queryable.Arg.TheVariants.{Owned, Borrowed}

-- the value that an argument is, or that it refers to
abbrev pub arg_value : {A : Type 0} → Arg A → A
arg_value (Owned v) = v
arg_value (Borrowed v) = v.now
