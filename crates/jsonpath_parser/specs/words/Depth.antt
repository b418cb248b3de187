-- How deep brackets nest in a text (a limit for readers, RFC 9535, 4.1).
use Rattle.std.specs.Prelude.{ℕ, ◌+◌, ◌-◌, max, List, [], ◌∷◌, Bool, ◌||◌, ◌==◌, if◌then◌else◌}
use Rattle.std.specs.Str.{byte}
use Rattle.jsonpath_parser.specs.words.Lexical.{is_quote}

-- `(` or `[`
abbrev pub opens : ℕ → Bool
opens b = b == byte "(" || b == byte "["

-- `)` or `]`
abbrev pub closes : ℕ → Bool
closes b = b == byte ")" || b == byte "]"

-- outside a string; inside one that this quote ends; or there, behind a backslash
pub data Place : Type 0 where
  outside : Place
  inside : ℕ → Place
  escaped : ℕ → Place

abbrev pub next_place : Place → ℕ → Place
next_place outside b = if is_quote b then inside b else outside
next_place (inside q) b = if b == byte "\\" then escaped q else (if b == q then outside else inside q)
next_place (escaped q) b = inside q

-- how many brackets stand open
abbrev pub next_open : Place → ℕ → ℕ → ℕ
next_open outside open_ b = if opens b then open_ + 1 else (if closes b then open_ - 1 else open_)
next_open _ open_ b = open_

-- the most that stand open from here on
abbrev pub depth_from : Place → ℕ → List ℕ → ℕ
depth_from place open_ [] = open_
depth_from place open_ (b ∷ bs) = max open_ (depth_from (next_place place b) (next_open place open_ b) bs)

-- the most brackets that stand open at once, those in strings left out
abbrev pub depth : List ℕ → ℕ
depth text = depth_from outside 0 text
