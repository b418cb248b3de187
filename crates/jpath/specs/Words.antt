-- What the words of a command line ask for.
use Rattle.std.specs.Prelude.{ℕ, List, [], ◌∷◌, length, nat_le, codes, Bool, ◌&&◌, Option, Some, None, option_map, option_and_then, if◌then◌else◌}
use Rattle.std.specs.Str.{bytes_eq, all_ascii_digits}
use Rattle.std.specs.Str.Parse.{digits_value}
use Rattle.jsonpath_parser.specs.declared.parse.TheConstants.{MAX_NESTING_DEPTH}
use Rattle.jpath.specs.declared.words.Command.{Command}
use Rattle.jpath.specs.declared.words.Command.TheVariants.{Print, Delete}
use Rattle.jpath.specs.declared.words.Listing.TheVariants.{Nodes, Values, Paths}

-- a command, how deep the brackets of a query may nest, and the text of the query
pub record Request : Type 0 where
  pub command : Command
  pub depth : ℕ
  pub query : List ℕ

abbrev pub command_of : List ℕ → Option Command
command_of word =
    if bytes_eq word (codes "nodes") then Some (Print Nodes)
    else (if bytes_eq word (codes "values") then Some (Print Values)
    else (if bytes_eq word (codes "paths") then Some (Print Paths)
    else (if bytes_eq word (codes "delete") then Some Delete else None)))

-- one to three ASCII digits
abbrev pub is_depth : List ℕ → Bool
is_depth word = (nat_le 1 (length word) && nat_le (length word) 3) && all_ascii_digits word

-- and the number that they spell
abbrev pub depth_of : List ℕ → Option ℕ
depth_of word = if is_depth word then Some (digits_value 10 word) else None

-- what `--depth` and such a word ask for; any other option, nothing
abbrev pub option_of : List ℕ → List ℕ → Option ℕ
option_of option word = if bytes_eq option (codes "--depth") then depth_of word else None

abbrev pub request : List ℕ → Option ℕ → List ℕ → Option Request
request command depth query = option_and_then (λ d. option_map (λ c. record { command = c; depth = d; query = query }) (command_of command)) depth

-- a command and a query, which may be any text, and between them perhaps `--depth` and a depth; nothing else
abbrev pub asked_by : List (List ℕ) → Option Request
asked_by (command ∷ query ∷ []) = request command (Some MAX_NESTING_DEPTH) query
asked_by (command ∷ option ∷ depth ∷ query ∷ []) = request command (option_of option depth) query
asked_by _ = None
