-- How a run that ends early shows it: the exit status, and the line on standard error.
use Rattle.std.specs.Prelude.{ℕ, List, ◌++◌, codes, decimal}
use Rattle.jsonpath_parser.specs.declared.errors.JsonPathError.{JsonPathError}
use Rattle.jsonpath_parser.specs.declared.errors.JsonPathError.TheVariants.{InvalidNumber, MaxNestingDepthExceeded, InvalidJsonPath, OutOfMemory}
use Rattle.jpath.specs.declared.fault.Fault as fault
use Rattle.jpath.specs.declared.fault.Fault.TheVariants.{Usage, Query, NotJson, NotWhole, Io, Memory}

-- the line of a query that was refused
abbrev pub query_line : JsonPathError → List ℕ
query_line (InvalidNumber _) = codes "jpath: a literal is no whole number of 64 bits"
query_line (MaxNestingDepthExceeded depth) = codes "jpath: nesting deeper than " ++ decimal depth
query_line (InvalidJsonPath _) = codes "jpath: a pattern is too large"
query_line _ = codes "jpath: not a query"

-- each fault's exit status, and its line without the newline
abbrev pub ending : fault.Fault → ℕ × List ℕ
ending (Query e) = (1, query_line e)
ending Usage = (2, codes "jpath: usage: jpath nodes, values, paths or delete, then a query")
ending NotJson = (3, codes "jpath: input is not JSON")
ending NotWhole = (4, codes "jpath: the document holds a number that is no whole number of 64 bits")
ending Io = (5, codes "jpath: reading or writing failed")
ending Memory = (6, codes "jpath: out of memory")

-- how a refusal of the parser or of a query ends a run
abbrev pub fault_of : JsonPathError → fault.Fault
fault_of OutOfMemory = Memory
fault_of e = Query e
