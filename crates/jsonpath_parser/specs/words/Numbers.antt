-- Number literals and their exact values (RFC 9535, 2.3.5.1).
use Rattle.std.specs.Prelude.{◌≡◌, ◌⊎◌, ℕ, ◌+◌, ◌^◌, ◌<◌, ◌≤◌, ℤ, pos, negsuc, neg_ℤ, ◌*ℤ◌, ◌≤ℤ◌, Bool, true, false, ◌||◌, ◌==◌, Option, Some, None, List, [], ◌∷◌, ◌++◌, length, slice_index, codes}
use Rattle.std.specs.Str.{byte}
use Rattle.std.specs.Str.Parse.{digits_value}
use Rattle.std.specs.Char.{is_ascii_digit}
use Rattle.jsonpath_parser.specs.words.Lexical.{IsRun}

-- digits, at least one
abbrev pub IsDigits : List ℕ → Type 0
IsDigits digits = IsRun is_ascii_digit digits × (0 < length digits)

-- nothing, or `-`
abbrev pub SpellsSign : Bool → List ℕ → Type 0
SpellsSign false text = text ≡ []
SpellsSign true text = text ≡ codes "-"

-- the digits before the point: `0`, or a digit from 1 to 9, then digits; with a sign before them, if there is one, they are an int or `-0`
abbrev pub IsWholePart : List ℕ → Type 0
IsWholePart digits = (digits ≡ codes "0") ⊎ (IsRun is_ascii_digit digits × (byte "1" ≤ slice_index digits 0))

-- the digits behind the point: nothing, or `.` and digits
abbrev pub SpellsFraction : List ℕ → List ℕ → Type 0
SpellsFraction [] text = text ≡ []
SpellsFraction (d ∷ ds) text = IsRun is_ascii_digit (d ∷ ds) × (text ≡ codes "." ++ d ∷ ds)

-- an exponent, from 0 on, or the negative of such a number
pub data Exponent : Type 0 where
  raised : ℕ → Exponent
  lowered : ℕ → Exponent

-- `e` or `E`
abbrev pub is_exponent_mark : ℕ → Bool
is_exponent_mark b = b == byte "e" || b == byte "E"

-- nothing, or `e` or `E`, perhaps a sign, and digits
abbrev pub SpellsExponent : Exponent → List ℕ → Type 0
SpellsExponent (raised x) text =
    ((text ≡ []) × (x ≡ 0))
    ⊎ ((mark : ℕ) × (sign digits : List ℕ) × (is_exponent_mark mark ≡ true) × ((sign ≡ []) ⊎ (sign ≡ codes "+")) × IsDigits digits × (x ≡ digits_value 10 digits) × (text ≡ mark ∷ (sign ++ digits)))
SpellsExponent (lowered x) text =
    (mark : ℕ) × (digits : List ℕ) × (is_exponent_mark mark ≡ true) × IsDigits digits × (x ≡ digits_value 10 digits) × (text ≡ mark ∷ codes "-" ++ digits)

-- the number with its sign
abbrev pub signed : Bool → ℕ → ℤ
signed false n = pos n
signed true n = neg_ℤ (pos n)

-- how far an exponent raises a power of ten, and how far it lowers it
abbrev pub up : Exponent → ℕ
up (raised x) = x
up (lowered x) = 0

abbrev pub down : Exponent → ℕ
down (raised x) = 0
down (lowered x) = x

-- v is m times ten to (e - point). What would divide stands on the other side as a factor, so nothing is rounded.
abbrev pub IsWhole : ℤ → ℕ → Exponent → ℤ → Type 0
IsWhole m point e v = v *ℤ pos (10 ^ (point + down e)) ≡ m *ℤ pos (10 ^ up e)

-- from -2^63 to 2^63 - 1
abbrev pub IsLong : ℤ → Type 0
IsLong v = (negsuc 9223372036854775807 ≤ℤ v) × (v ≤ℤ pos 9223372036854775807)

-- the value of 64 bits that this is, or none where no such value is
abbrev pub IsValue : ℤ → ℕ → Exponent → Option ℤ → Type 0
IsValue m point e (Some v) = IsLong v × IsWhole m point e v
IsValue m point e None = (v : ℤ) → IsLong v → IsWhole m point e v → ⊥

-- The text is a number literal of this value, or one without a value. Its digits before and after the point are one number with the sign; the exponent is counted from the last of them.
pub record SpellsNumber (value : Option ℤ) (text : List ℕ) : Type 0 where
  pub minus : Bool
  pub integer : List ℕ
  pub fraction : List ℕ
  pub exponent : Exponent
  pub sign_text : List ℕ
  pub fraction_text : List ℕ
  pub exponent_text : List ℕ
  pub sign_spelled : SpellsSign minus sign_text
  pub is_whole_part : IsWholePart integer
  pub fraction_spelled : SpellsFraction fraction fraction_text
  pub exponent_spelled : SpellsExponent exponent exponent_text
  pub is_value : IsValue (signed minus (digits_value 10 (integer ++ fraction))) (length fraction) exponent value
  pub spelled : text ≡ sign_text ++ (integer ++ (fraction_text ++ exponent_text))
