-- What the helpers of `Pattern` do.
use Rattle.std.specs.Prelude.{◌≡◌, ℕ, ◌<◌, Bool, false, not, ◌&&◌, ◌==◌, List, [], ◌∷◌, Option, None, Some, is_some, get_or, codes, if◌then◌else◌}
use Rattle.std.specs.Str.{byte}
use Rattle.regex.specs.Patterns.{Re, find_str}
use Rattle.regex_meta.specs.Programs.{pattern_of}
use Rattle.jsonpath_base.specs.declared.pattern.groupless.Regex.{Regex}
use Rattle.jsonpath_base.specs.declared.pattern.groupless.Matcher.{Matcher}
use Rattle.jsonpath_base.specs.Pattern.{is_inside, is_found}

-- what one character of a pattern becomes, inside a class or not, after a backslash that counts or not
abbrev pub written : Bool → Bool → ℕ → List ℕ
written inside escaped c = if not escaped && not inside && c == byte "." then codes "[^\\n\\r]" else c ∷ []

-- whether the next character is inside a class, and after such a backslash
abbrev pub inside_after : Bool → Bool → ℕ → Bool
inside_after inside escaped c = if escaped then inside else (if c == byte "\\" then inside else is_inside inside c)

abbrev pub escaped_after : Bool → ℕ → Bool
escaped_after escaped c = not escaped && c == byte "\\"

-- what a regex looks for, and what its matcher looks for
abbrev pub regex_pattern : Regex → Re
regex_pattern r = pattern_of r.program

abbrev pub matcher_pattern : Matcher → Re
matcher_pattern m = pattern_of m.searcher.program.now

-- what the built regex finds
abbrev pub is_found_by : Option Regex → List ℕ → Bool
is_found_by None text = false
is_found_by (Some r) text = is_some (find_str (regex_pattern r) text 0)

-- the built regex means what is sought: it is found in the same texts
abbrev pub FindsSame : Option Re → Option Regex → Type 0
FindsSame sought regex = (text : List ℕ) → ((k : ℕ) → get_or text k 0 < 256) → is_found_by regex text ≡ is_found sought text

-- the same for its matcher
abbrev pub is_matched_by : Option Matcher → List ℕ → Bool
is_matched_by None text = false
is_matched_by (Some m) text = is_some (find_str (matcher_pattern m) text 0)

abbrev pub MatchesSame : Option Re → Option Matcher → Type 0
MatchesSame sought matcher = (text : List ℕ) → ((k : ℕ) → get_or text k 0 < 256) → is_matched_by matcher text ≡ is_found sought text
