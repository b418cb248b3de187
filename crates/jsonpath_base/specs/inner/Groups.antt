-- A pattern without its groups.
use Rattle.std.specs.Prelude.{◌≡◌, ℕ, ◌<◌, List, Option, None, Some, IsSome, is_some, get_or}
use Rattle.regex.specs.Patterns.{Re, empty, literal, byte_in, char_in, look, cat, alt, group, plus, find_str}
use Rattle.regex.specs.Utf8.{MatchesText}
use Rattle.regex_hir.specs.Meaning.{meaning}
use Rattle.regex_hir.specs.declared.hir.Hir.{Hir}
use Rattle.jsonpath_base.specs.Pattern.{is_found}

-- each group replaced by what is in it
abbrev pub without_groups : Re → Re
without_groups empty = empty
without_groups (literal bs) = literal bs
without_groups (byte_in rs) = byte_in rs
without_groups (char_in rs) = char_in rs
without_groups (look l) = look l
without_groups (cat a b) = cat (without_groups a) (without_groups b)
without_groups (alt a b) = alt (without_groups a) (without_groups b)
without_groups (group n a) = without_groups a
without_groups (plus greedy a) = plus greedy (without_groups a)

-- the pattern is found in the texts in which what is sought is
abbrev pub IsFoundAs : Option Re → Re → Type 0
IsFoundAs sought re = (text : List ℕ) → ((k : ℕ) → get_or text k 0 < 256) → is_some (find_str re text 0) ≡ is_found sought text

-- the tree is found in the texts in which what is sought is, and matches whole characters
abbrev pub IsTreeOf : Option Re → Option Hir → Type 0
IsTreeOf sought None = sought ≡ None
IsTreeOf sought (Some tree) = IsSome sought × IsFoundAs sought (meaning tree) × MatchesText (meaning tree)
