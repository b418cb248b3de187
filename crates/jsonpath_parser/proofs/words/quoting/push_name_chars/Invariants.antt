use Rattle.std.proofs.Common.{◌≡◌, ◌++◌, length, string_bytes}
use denote.Text.{Utf8}
use denote.Shadow.{shadow}
use Rattle.jsonpath_parser.specs.Prelude.{Begins, name_chars}
use Rattle.jsonpath_parser.proofs.words.quoting.push_name_chars.Given as goal

-- what is written, and then the spelling of the rest, is what was there and the spelling of the name
abbrev pub invariant-loop-path : goal.invariant-loop-path
invariant-loop-path l =
    shadow (Utf8 l.rest)
    × (string_bytes l.path ++ name_chars l.rest ≡ string_bytes l.fn.path ++ name_chars l.name)
    × Begins (string_bytes l.fn.path) (string_bytes l.path)

abbrev pub decreases-loop-path : goal.decreases-loop-path
decreases-loop-path l = length l.rest
