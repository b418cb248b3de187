-- The order of texts by their bytes in UTF-8 is their order by scalar values.
use Rattle.std.proofs.Common.{Ordering, Less, Equal, ◌≡◌, ℕ, ◌+◌, ◌/◌, ◌%◌, ◌<◌, ◌≤◌, ◌⊎◌, inl, inr, true, false, ◌==◌, nat_lt, List, [], ◌∷◌, ◌++◌, refl, sym, ap, ap₂, ◌∙◌, arith, lit<}
use Rattle.std.proofs.lemmas.Bool.{cases_lt}
use Rattle.std.proofs.lemmas.Bool.Decides.{nat_tests}
use Rattle.std.proofs.lemmas.Cmp.{same_from_slice_cmp, nat_list_cmp_total}
use Rattle.std.proofs.lemmas.Nat.{div-add-mod', mod_below, div_below}
use Rattle.std.proofs.lemmas.Str.{encodes-chars}
use Rattle.std.proofs.Math.Nat.{div-div-eq-div-mul}
use Rattle.std.specs.Str.{chars, IsUtf8}
use Rattle.jsonpath_parser.specs.Prelude.{is_less}
use Rattle.std.specs.Ordering.{is_lt, nat_cmp, ordering_reverse}
use Rattle.std.specs.Cmp.Lexicographic.{slice_cmp}
use lib.Utf8.{encode, encodes}

-- ---- lists of bytes

abbrev order : List ℕ → List ℕ → Ordering
order = slice_cmp nat_cmp

lower : (a b : ℕ) → a < b → nat_cmp a b ≡ Less
lower a b h = let e : nat_lt a b ≡ true = grind (arith, nat_tests) in rw e refl

alike : (a : ℕ) → nat_cmp a a ≡ Equal
alike a = let e : nat_lt a a ≡ false = grind (arith, nat_tests) in let f : (a == a) ≡ true = grind (arith, nat_tests) in rw (e, f) refl

-- the first byte is lower
first_lower : (a b : ℕ) (x y : List ℕ) → a < b → order (a ∷ x) (b ∷ y) ≡ Less
first_lower a b x y h = rw (lower a b h) refl

plus_lower : (k a b : ℕ) (x y : List ℕ) → a < b → order ((k + a) ∷ x) ((k + b) ∷ y) ≡ Less
plus_lower k a b x y h = first_lower (k + a) (k + b) x y (omega (arith, h))

-- the first bytes are alike
first_alike : (a b : ℕ) (x y : List ℕ) → a ≡ b → order (a ∷ x) (b ∷ y) ≡ order x y
first_alike a b x y e = rw (e, alike b) refl

front_alike : (front x y : List ℕ) → order (front ++ x) (front ++ y) ≡ order x y
front_alike [] x y = refl
front_alike (a ∷ front) x y = first_alike a a (front ++ x) (front ++ y) refl ∙ front_alike front x y

-- ---- the bytes of a scalar value

one_byte : (c : ℕ) → c < 128 → encode c ≡ c ∷ []
unfolding encode
one_byte c h = let e : nat_lt c 128 ≡ true = grind (arith, nat_tests) in rw e refl

two_bytes : (c : ℕ) → 128 ≤ c → c < 2048 → encode c ≡ (192 + c / 64) ∷ (128 + c % 64) ∷ []
unfolding encode
two_bytes c low high =
    let e : nat_lt c 128 ≡ false = grind (arith, nat_tests) in
    let f : nat_lt c 2048 ≡ true = grind (arith, nat_tests) in
    rw (e, f) refl

three_bytes : (c : ℕ) → 2048 ≤ c → c < 65536 → encode c ≡ (224 + c / 64 / 64) ∷ (128 + c / 64 % 64) ∷ (128 + c % 64) ∷ []
unfolding encode
three_bytes c low high =
    let e : nat_lt c 128 ≡ false = grind (arith, nat_tests) in
    let f : nat_lt c 2048 ≡ false = grind (arith, nat_tests) in
    let g : nat_lt c 65536 ≡ true = grind (arith, nat_tests) in
    let twice : c / 64 / 64 ≡ c / 4096 = div-div-eq-div-mul c 64 64 in
    rw (e, f, g, twice) refl

four_bytes : (c : ℕ) → 65536 ≤ c → encode c ≡ (240 + c / 64 / 64 / 64) ∷ (128 + c / 64 / 64 % 64) ∷ (128 + c / 64 % 64) ∷ (128 + c % 64) ∷ []
unfolding encode
four_bytes c low =
    let e : nat_lt c 128 ≡ false = grind (arith, nat_tests) in
    let f : nat_lt c 2048 ≡ false = grind (arith, nat_tests) in
    let g : nat_lt c 65536 ≡ false = grind (arith, nat_tests) in
    let twice : c / 64 / 64 ≡ c / 4096 = div-div-eq-div-mul c 64 64 in
    let thrice : c / 4096 / 64 ≡ c / 262144 = div-div-eq-div-mul c 4096 64 in
    rw (e, f, g, twice, thrice) refl

-- ---- as many bytes on both sides

-- of two numbers the lower has the lower front, or the same front and a lower last digit
digits : (c d : ℕ) → c < d → (c / 64 < d / 64) ⊎ ((c / 64 ≡ d / 64) × (c % 64 < d % 64))
digits c d h =
    let a = div-add-mod' c 64 in
    let b = div-add-mod' d 64 in
    let p = mod_below c 64 (lit< tt) in
    let q = mod_below d 64 (lit< tt) in
    elim (cases_lt (c / 64) (d / 64)) [ inl less ↦ inl less | inr more ↦ inr (omega (arith, a, b, p, q, h, more), omega (arith, a, b, p, q, h, more)) ]

-- the last byte of a scalar value, and the last two and three
abbrev last : ℕ → List ℕ → List ℕ
last c x = (128 + c % 64) ∷ x

abbrev last_two : ℕ → List ℕ → List ℕ
last_two c x = (128 + c / 64 % 64) ∷ last c x

abbrev last_three : ℕ → List ℕ → List ℕ
last_three c x = (128 + c / 64 / 64 % 64) ∷ last_two c x

two_lower : (k c d : ℕ) (x y : List ℕ) → c < d → order ((k + c / 64) ∷ last c x) ((k + d / 64) ∷ last d y) ≡ Less
two_lower k c d x y h =
    elim (digits c d h) [
      | inl less ↦ plus_lower k (c / 64) (d / 64) (last c x) (last d y) less
      | inr same ↦ first_alike (k + c / 64) (k + d / 64) (last c x) (last d y) (ap (λ n. k + n) same.0) ∙ plus_lower 128 (c % 64) (d % 64) x y same.1
    ]

three_lower : (k c d : ℕ) (x y : List ℕ) → c < d → order ((k + c / 64 / 64) ∷ last_two c x) ((k + d / 64 / 64) ∷ last_two d y) ≡ Less
three_lower k c d x y h =
    elim (digits c d h) [
      | inl less ↦ two_lower k (c / 64) (d / 64) (last c x) (last d y) less
      | inr same ↦
          first_alike (k + c / 64 / 64) (k + d / 64 / 64) (last_two c x) (last_two d y) (ap (λ n. k + n / 64) same.0)
          ∙ first_alike (128 + c / 64 % 64) (128 + d / 64 % 64) (last c x) (last d y) (ap (λ n. 128 + n % 64) same.0)
          ∙ plus_lower 128 (c % 64) (d % 64) x y same.1
    ]

four_lower : (k c d : ℕ) (x y : List ℕ) → c < d → order ((k + c / 64 / 64 / 64) ∷ last_three c x) ((k + d / 64 / 64 / 64) ∷ last_three d y) ≡ Less
four_lower k c d x y h =
    elim (digits c d h) [
      | inl less ↦ three_lower k (c / 64) (d / 64) (last c x) (last d y) less
      | inr same ↦
          first_alike (k + c / 64 / 64 / 64) (k + d / 64 / 64 / 64) (last_three c x) (last_three d y) (ap (λ n. k + n / 64 / 64) same.0)
          ∙ first_alike (128 + c / 64 / 64 % 64) (128 + d / 64 / 64 % 64) (last_two c x) (last_two d y) (ap (λ n. 128 + n / 64 % 64) same.0)
          ∙ first_alike (128 + c / 64 % 64) (128 + d / 64 % 64) (last c x) (last d y) (ap (λ n. 128 + n % 64) same.0)
          ∙ plus_lower 128 (c % 64) (d % 64) x y same.1
    ]

-- ---- more bytes on the right

-- the first byte is so high
record Leads (k d : ℕ) : Type 0 where
  byte : ℕ
  rest : List ℕ
  high : k ≤ byte
  is : encode d ≡ byte ∷ rest

leads_four : (d : ℕ) → 65536 ≤ d → Leads 240 d
leads_four d h = record { byte = 240 + d / 64 / 64 / 64; rest = _; high = omega arith; is = four_bytes d h }

leads_three : (d : ℕ) → 2048 ≤ d → Leads 224 d
leads_three d h =
    elim (cases_lt d 65536) [
      | inl few ↦ record { byte = 224 + d / 64 / 64; rest = _; high = omega arith; is = three_bytes d h few }
      | inr many ↦ let l = leads_four d many in record { byte = l.byte; rest = l.rest; high = omega (arith, l.high); is = l.is }
    ]

leads_two : (d : ℕ) → 128 ≤ d → Leads 192 d
leads_two d h =
    elim (cases_lt d 2048) [
      | inl few ↦ record { byte = 192 + d / 64; rest = _; high = omega arith; is = two_bytes d h few }
      | inr many ↦ let l = leads_three d many in record { byte = l.byte; rest = l.rest; high = omega (arith, l.high); is = l.is }
    ]

leads_one : (d : ℕ) → Leads 0 d
leads_one d =
    elim (cases_lt d 128) [
      | inl few ↦ record { byte = d; rest = _; high = omega arith; is = one_byte d few }
      | inr many ↦ let l = leads_two d many in record { byte = l.byte; rest = l.rest; high = omega arith; is = l.is }
    ]

led_lower : (k c d a : ℕ) (front x y : List ℕ) → encode c ≡ a ∷ front → a < k → Leads k d → order (encode c ++ x) (encode d ++ y) ≡ Less
led_lower k c d a front x y e below l = rw (e, l.is) (first_lower a l.byte (front ++ x) (l.rest ++ y) (omega (arith, below, l.high)))

-- ---- texts

-- a lower scalar value has lower bytes, whatever follows
encode_lower : (c d : ℕ) (x y : List ℕ) → c < d → order (encode c ++ x) (encode d ++ y) ≡ Less
encode_lower c d x y h =
    elim (cases_lt c 128) [
      | inl c1 ↦ elim (cases_lt d 128) [
        | inl d1 ↦ rw (one_byte c c1, one_byte d d1) (first_lower c d x y h)
        | inr d2 ↦ led_lower 192 c d c [] x y (one_byte c c1) (omega (arith, c1)) (leads_two d d2)
      ]
      | inr c2 ↦ elim (cases_lt c 2048) [
        | inl c3 ↦ elim (cases_lt d 2048) [
          | inl d3 ↦ rw (two_bytes c c2 c3, two_bytes d (omega (arith, c2, h)) d3) (two_lower 192 c d x y h)
          | inr d4 ↦ led_lower 224 c d _ _ x y (two_bytes c c2 c3) (let f = div_below c 64 32 (lit< tt) c3 in omega (arith, f)) (leads_three d d4)
        ]
        | inr c4 ↦ elim (cases_lt c 65536) [
          | inl c5 ↦ elim (cases_lt d 65536) [
            | inl d5 ↦ rw (three_bytes c c4 c5, three_bytes d (omega (arith, c4, h)) d5) (three_lower 224 c d x y h)
            | inr d6 ↦ led_lower 240 c d _ _ x y (three_bytes c c4 c5)
                (let f = div_below c 64 1024 (lit< tt) c5 in let g = div_below (c / 64) 64 16 (lit< tt) f in omega (arith, g)) (leads_four d d6)
          ]
          | inr c6 ↦ rw (four_bytes c c6, four_bytes d (omega (arith, c6, h))) (four_lower 240 c d x y h)
        ]
      ]
    ]

order-encodes : (cs ds : List ℕ) → order (encodes cs) (encodes ds) ≡ order cs ds
order-encodes [] [] = refl
order-encodes [] (d ∷ ds) = rw (leads_one d).is refl
order-encodes (c ∷ cs) [] = rw (leads_one c).is refl
order-encodes (c ∷ cs) (d ∷ ds) =
    elim (cases_lt c d) [
      | inl less ↦ encode_lower c d (encodes cs) (encodes ds) less ∙ sym (first_lower c d cs ds less)
      | inr upto ↦ elim (cases_lt d c) [
        | inl more ↦
            nat_list_cmp_total.antisymm (encodes (c ∷ cs)) (encodes (d ∷ ds)) ∙ ap ordering_reverse (encode_lower d c (encodes ds) (encodes cs) more)
            ∙ sym (nat_list_cmp_total.antisymm (c ∷ cs) (d ∷ ds) ∙ ap ordering_reverse (first_lower d c ds cs more))
        | inr also ↦
            let e : c ≡ d = omega (arith, upto, also) in
            rw e (front_alike (encode d) (encodes cs) (encodes ds)) ∙ order-encodes cs ds ∙ sym (first_alike c d cs ds e)
      ]
    ]

less_by_order : (cs ds : List ℕ) (o : Ordering) → o ≡ order cs ds → is_lt o ≡ is_less cs ds
less_by_order = same_from_slice_cmp nat_cmp is_lt is_less refl (λ _ _. refl) (λ _ _. refl) (λ x y xs ys o h. grind (arith, nat_tests))

-- the bytes of a text are less just where its scalar values are
pub less_by_bytes : (left right : List ℕ) → IsUtf8 left → IsUtf8 right → is_lt (slice_cmp nat_cmp left right) ≡ is_less (chars left) (chars right)
less_by_bytes left right p q =
    ap is_lt (ap₂ order (sym (encodes-chars left p)) (sym (encodes-chars right q)) ∙ order-encodes (chars left) (chars right))
    ∙ less_by_order (chars left) (chars right) _ refl
