-- The text of a pattern that was read, and the pattern of a finder.
use Rattle.std.specs.Prelude.{ℕ, Bool, List, string_bytes}
use Rattle.jsonpath_base.specs.Pattern.{is_entire}
use Rattle.jsonpath_base.specs.declared.pattern.Pattern.{Pattern}
use Rattle.jsonpath_base.specs.declared.pattern.Finder.{Finder}

-- the text it was read from
abbrev pub source_of : Pattern → List ℕ
source_of p = string_bytes p.source

-- whether it was read for `match`, and not for `search`
abbrev pub is_for_match : Pattern → Bool
is_for_match p = is_entire p.extent

abbrev pub pattern_of : Finder → Pattern
pattern_of f = f.pattern.now
