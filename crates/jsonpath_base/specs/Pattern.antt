-- What `match` and `search` find (RFC 9535, 2.4.6 and 2.4.7). A pattern is the list of its characters, a text the list of its bytes in UTF-8.
use Rattle.std.specs.Prelude.{ℕ, Bool, true, false, not, ◌&&◌, ◌==◌, nat_le, List, [], ◌∷◌, ◌++◌, Option, None, Some, IsSome, is_some, option_and_then, codes, chars, ⊤, if◌then◌else◌}
use Rattle.std.specs.Str.{byte}
use Rattle.regex.specs.Patterns.{Re, find_str, default_config}
use Rattle.regex_syntax.specs.Grammar.{read}
use Rattle.jsonpath_parser.specs.declared.errors.JsonPathError.{JsonPathError}
use Rattle.jsonpath_parser.specs.declared.errors.JsonPathError.TheVariants.{OutOfMemory, InvalidJsonPath}
use Rattle.jsonpath_base.specs.declared.pattern.MatchKind.{MatchKind}
use Rattle.jsonpath_base.specs.declared.pattern.MatchKind.TheVariants.{Full, Partial}
use Rattle.jsonpath_base.specs.declared.pattern.build_error.PatternBuildError.{PatternBuildError}
use Rattle.jsonpath_base.specs.declared.pattern.build_error.PatternBuildError.TheVariants.{Memory, TooLarge}

-- whether a character after this one is in a class: `[` opens one, `]` closes it
abbrev pub is_inside : Bool → ℕ → Bool
is_inside inside c = if inside then not (c == byte "]") else c == byte "["

-- From an I-Regexp to what `regex` reads (RFC 9485, 5.3), inside a class or not: outside a class `.` matches each character except a line feed and a
-- carriage return. A backslash and the character after it are copied, as is all else.
unfoldable mutual
  pub translated : Bool → List ℕ → List ℕ
  translated inside [] = []
  translated inside (c ∷ cs) =
      if c == byte "\\" then c ∷ behind_backslash inside cs
      else (if c == byte "." && not inside then codes "[^\\n\\r]" ++ translated inside cs
      else c ∷ translated (is_inside inside c) cs)

  pub behind_backslash : Bool → List ℕ → List ℕ
  behind_backslash inside [] = []
  behind_backslash inside (c ∷ cs) = c ∷ translated inside cs

-- what `regex` reads in the text, if it reads something that nests no deeper than it allows
unfoldable pub reading : List ℕ → Option Re
reading cs = option_and_then (λ (re, _). if nat_le re.depth default_config.nest_limit then Some re.value else None) (read default_config cs)

-- the pattern that matches a text only as a whole (RFC 9485, 5.3)
abbrev pub wrapped : List ℕ → List ℕ
wrapped cs = codes "^(?:" ++ cs ++ codes ")$"

-- whether a pattern has to match the entire text
abbrev pub is_entire : MatchKind → Bool
is_entire Full = true
is_entire Partial = false

-- What the translated pattern looks for: with true for `match`, which takes the entire text, and with false for `search`. For `match`, `regex` has to
-- read the pattern by itself too: it does not read `a)|(b`.
abbrev pub sought : Bool → List ℕ → Option Re
sought entire cs = if entire then (if is_some (reading cs) then reading (wrapped cs) else None) else reading cs

-- the same by the bytes of the pattern
abbrev pub pattern_sought : Bool → List ℕ → Option Re
pattern_sought entire pattern = sought entire (translated false (chars pattern))

-- whether something to look for is found in a text
abbrev pub is_found : Option Re → List ℕ → Bool
is_found None text = false
is_found (Some re) text = is_some (find_str re text 0)

-- what `match` returns, with true, and `search`, with false, for the bytes of a pattern and of a text
abbrev pub found : Bool → List ℕ → List ℕ → Bool
found entire pattern text = is_found (pattern_sought entire pattern) text

-- the error is `InvalidJsonPath`, with any text
abbrev pub IsInvalid : JsonPathError → Type 0
IsInvalid (InvalidJsonPath _) = ⊤
IsInvalid _ = ⊥

-- why a pattern cannot be built: memory ran out, or there is something to look for, and `regex` refused it for its size
abbrev pub IsPatternBuildError : Option Re → PatternBuildError → Type 0
IsPatternBuildError sought Memory = ⊤
IsPatternBuildError sought TooLarge = IsSome sought

-- the error that is returned to a caller for it
abbrev pub IsPatternRefusal : Option Re → JsonPathError → Type 0
IsPatternRefusal sought OutOfMemory = ⊤
IsPatternRefusal sought (InvalidJsonPath _) = IsSome sought
IsPatternRefusal sought _ = ⊥
