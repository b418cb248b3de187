-- What a filter keeps of a range, one place after another, and how the bounds of a slice tell it.
use Rattle.std.proofs.Common.{◌≡◌, ℕ, zero, suc, ◌+◌, ◌-◌, ◌/◌, ◌%◌, ◌<◌, ◌≤◌, Bool, true, false, cond, ◌&&◌, List, [], ◌∷◌, filter, sym, ap, ap₂, ◌∙◌, refl, subst, arith, inl, inr, nat_le, nat_lt, ◌==◌, ne_eqb, ℤ, pos, negsuc, ◌-ℤ◌, ◌+ℤ◌, ◌<ℤ◌, neg_ℤ, Option, unwrap_or, All, rules, length}
use Rattle.std.proofs.lemmas.Int.{ints}
use Rattle.std.proofs.lemmas.Bool.{cases_lt}
use Rattle.std.proofs.lemmas.Bool.Decides.{nat_tests}
use Rattle.std.proofs.lemmas.List.Elements.{All-nil, All-cons, All-filter}
use Rattle.std.proofs.Math.Nat.{add-mod_right, mod-eq_of_lt, add-div_right, div-eq_of_lt}
use Rattle.jsonpath_parser.specs.Prelude.{clamped, normalized, picked_of, places_left, slice_by, slice_of}
use Rattle.std.specs.Int.RustNames.{unsigned_abs}
use Rattle.std.specs.Int.RustNames.{int_lt, int_le}
use Rattle.std.specs.List.{range_with_len}
use Rattle.jsonpath_parser.specs.Slice.{down_from, picks_rising, picks_falling}
use Rattle.jsonpath_parser.specs.SliceSteps.{is_risen, is_fallen, rising_places, falling_places}
use Rattle.jsonpath_parser.specs.declared.slice.SlicePlaces.{SlicePlaces}

-- ---- filters of ranges

-- nothing is kept at the front of a range
skip : (test : ℕ → Bool) (k a n : ℕ) → ((j : ℕ) → a ≤ j → j < a + k → test j ≡ false) →
    filter test (range_with_len a n) ≡ filter test (range_with_len (a + k) (n - k))
skip test zero a n none =
    let spot : a ≡ a + 0 = omega arith in
    let left : n ≡ n - 0 = omega arith in
    ap (λ x. filter test (range_with_len x n)) spot ∙ ap (λ x. filter test (range_with_len (a + 0) x)) left
skip test (suc k) a zero none =
    let left : zero ≡ zero - suc k = omega arith in
    ap (λ x. filter test (range_with_len (a + suc k) x)) left
skip test (suc k) a (suc n) none =
    let first : test a ≡ false = none a (omega arith) (omega arith) in
    let rest = skip test k (a + 1) n (λ j p q. none j (omega (arith, p)) (omega (arith, q))) in
    let spot : a + 1 + k ≡ a + suc k = omega arith in
    let left : n - k ≡ suc n - suc k = omega arith in
    ap (λ b. cond b (a ∷ filter test (range_with_len (a + 1) n)) (filter test (range_with_len (a + 1) n))) first
    ∙ rest ∙ ap (λ x. filter test (range_with_len x (n - k))) spot ∙ ap (λ x. filter test (range_with_len (a + suc k) x)) left

-- nothing is kept of a range
none_kept : (test : ℕ → Bool) (a n : ℕ) → ((j : ℕ) → a ≤ j → test j ≡ false) → filter test (range_with_len a n) ≡ []
none_kept test a zero none = refl
none_kept test a (suc n) none =
    ap (λ b. cond b (a ∷ filter test (range_with_len (a + 1) n)) (filter test (range_with_len (a + 1) n))) (none a (omega arith))
    ∙ none_kept test (a + 1) n (λ j p. none j (omega (arith, p)))

-- the same for a range that falls
skip_down : (test : ℕ → Bool) (k n : ℕ) → ((j : ℕ) → n - k ≤ j → j < n → test j ≡ false) →
    filter test (down_from n) ≡ filter test (down_from (n - k))
skip_down test zero n none = let left : n ≡ n - 0 = omega arith in ap (λ x. filter test (down_from x)) left
skip_down test (suc k) zero none = let left : zero ≡ zero - suc k = omega arith in ap (λ x. filter test (down_from x)) left
skip_down test (suc k) (suc n) none =
    let first : test n ≡ false = none n (omega arith) (omega arith) in
    let left : n - k ≡ suc n - suc k = omega arith in
    let rest = skip_down test k n (λ j p q. none j (omega (arith, p)) (omega (arith, q))) in
    ap (λ b. cond b (n ∷ filter test (down_from n)) (filter test (down_from n))) first
    ∙ rest ∙ ap (λ x. filter test (down_from x)) left

none_kept_down : (test : ℕ → Bool) (n : ℕ) → ((j : ℕ) → j < n → test j ≡ false) → filter test (down_from n) ≡ []
none_kept_down test zero none = refl
none_kept_down test (suc n) none =
    ap (λ b. cond b (n ∷ filter test (down_from n)) (filter test (down_from n))) (none n (omega arith))
    ∙ none_kept_down test n (λ j p. none j (omega (arith, p)))

-- nothing is kept behind the front of a range
cut : (test : ℕ → Bool) (n m a : ℕ) → ((j : ℕ) → a + n ≤ j → test j ≡ false) → n ≤ m → filter test (range_with_len a n) ≡ filter test (range_with_len a m)
cut test zero m a none h = sym (none_kept test a m (λ j p. none j (omega (arith, p))))
cut test (suc n) zero a none h = absurd (omega (arith, h))
cut test (suc n) (suc m) a none h =
    ap (λ xs. cond (test a) (a ∷ xs) xs) (cut test n m (a + 1) (λ j p. none j (omega (arith, p))) (omega (arith, h)))

-- two tests that agree on a range
same_from : (p q : ℕ → Bool) (a n : ℕ) → ((j : ℕ) → a ≤ j → p j ≡ q j) → filter p (range_with_len a n) ≡ filter q (range_with_len a n)
same_from p q a zero same = refl
same_from p q a (suc n) same =
    let rest = same_from p q (a + 1) n (λ j h. same j (omega (arith, h))) in
    ap₂ (λ b xs. cond b (a ∷ xs) xs) (same a (omega arith)) rest

same_below : (p q : ℕ → Bool) (n : ℕ) → ((j : ℕ) → j < n → p j ≡ q j) → filter p (down_from n) ≡ filter q (down_from n)
same_below p q zero same = refl
same_below p q (suc n) same =
    ap₂ (λ b xs. cond b (n ∷ xs) xs) (same n (omega arith)) (same_below p q n (λ j h. same j (omega (arith, h))))

-- ---- one place after another

not_divided : (r step : ℕ) → 0 < r → r < step → (r % step == 0) ≡ false
not_divided r step low high = ne_eqb _ _ (let e : r % step ≡ r = mod-eq_of_lt high in omega (arith, e, low))

none_of : (step : ℕ) → (0 % step == 0) ≡ true
none_of step = let e : 0 % step ≡ 0 = search rules in rw e refl

risen_start : (lower upper step : ℕ) → filter (is_risen lower upper step) (range_with_len 0 upper) ≡ filter (is_risen lower upper step) (range_with_len lower (upper - lower))
risen_start lower upper step =
    let zero_add : 0 + lower ≡ lower = omega arith in
    skip (is_risen lower upper step) lower 0 upper (λ j p q. grind (arith, nat_tests))
    ∙ ap (λ x. filter (is_risen lower upper step) (range_with_len x (upper - lower))) zero_add

pub rising_none : (at end step : ℕ) → end ≤ at → rising_places at end step ≡ []
unfolding rising_places
rising_none at end step past = none_kept (is_risen at end step) 0 end (λ j p. grind (arith, nat_tests))

between : (at end step j : ℕ) → at < j → j < at + step → is_risen at end step j ≡ false
between at end step j p q =
    let g : ((j - at) % step == 0) ≡ false = not_divided (j - at) step (omega (arith, p)) (omega (arith, p, q)) in
    grind (arith, nat_tests, g)

risen_turn : (at end step next : ℕ) → at < end → at < next → next ≤ at + step →
    filter (is_risen at end step) (range_with_len at (end - at)) ≡ at ∷ filter (is_risen at end step) (range_with_len next (end - next))
risen_turn at end step next high p q =
    let test = is_risen at end step in
    let n : end - at ≡ suc (end - at - 1) = omega arith in
    let here : at - at ≡ 0 = omega arith in
    let divided : ((at - at) % step == 0) ≡ true = rw here (none_of step) in
    let kept : test at ≡ true = grind (arith, nat_tests, divided) in
    let spot : at + 1 + (next - at - 1) ≡ next = omega arith in
    let left : end - at - 1 - (next - at - 1) ≡ end - next = omega arith in
    ap (λ x. filter test (range_with_len at x)) n
    ∙ ap (λ b. cond b (at ∷ filter test (range_with_len (at + 1) (end - at - 1))) (filter test (range_with_len (at + 1) (end - at - 1)))) kept
    ∙ ap (λ x. at ∷ x) (skip test (next - at - 1) (at + 1) (end - at - 1) (λ j a b. between at end step j (omega (arith, a)) (omega (arith, b)))
    ∙ ap (λ x. filter test (range_with_len x (end - at - 1 - (next - at - 1)))) spot
    ∙ ap (λ x. filter test (range_with_len next x)) left)

risen_on : (at end step next : ℕ) → at < next → (next < end → next ≡ at + step) →
    filter (is_risen at end step) (range_with_len next (end - next)) ≡ filter (is_risen next end step) (range_with_len next (end - next))
risen_on at end step next p on =
    elim (cases_lt next end) [
      | inl more ↦ let is = on more in same_from (is_risen at end step) (is_risen next end step) next (end - next) (λ j h.
          let e : j - at ≡ j - next + step = omega (arith, is, h) in
          let m : (j - at) % step ≡ (j - next) % step = ap (λ x. x % step) e ∙ add-mod_right (j - next) step in
          let a : nat_le at j ≡ nat_le next j = grind (arith, nat_tests) in
          ap₂ (λ b x. b && nat_lt j end && (x == 0)) a m)
      | inr past ↦ none_kept (is_risen at end step) next (end - next) (λ j h. grind (arith, nat_tests))
          ∙ sym (none_kept (is_risen next end step) next (end - next) (λ j h. grind (arith, nat_tests)))
    ]

rising_more : (at end step next : ℕ) → at < end → at < next → next ≤ at + step → (next < end → next ≡ at + step) → rising_places at end step ≡ at ∷ rising_places next end step
unfolding rising_places
rising_more at end step next high p q on =
    risen_start at end step ∙ risen_turn at end step next high p q ∙ ap (λ x. at ∷ x) (risen_on at end step next p on ∙ sym (risen_start next end step))

falling_none : (end at step : ℕ) → at ≤ end → falling_places end at step ≡ []
unfolding falling_places
falling_none end at step past = none_kept_down (is_fallen end at step) at (λ j p. grind (arith, nat_tests))

between_down : (end at step j : ℕ) → j < at - 1 → at < j + 1 + step → is_fallen end at step j ≡ false
between_down end at step j p q =
    let g : ((at - 1 - j) % step == 0) ≡ false = not_divided (at - 1 - j) step (omega (arith, p)) (omega (arith, p, q)) in
    grind (arith, nat_tests, g)

fallen_on : (end at step : ℕ) → filter (is_fallen end at step) (down_from (at - step)) ≡ filter (is_fallen end (at - step) step) (down_from (at - step))
fallen_on end at step =
    same_below (is_fallen end at step) (is_fallen end (at - step) step) (at - step) (λ j h.
    let e : at - 1 - j ≡ at - step - 1 - j + step = omega (arith, h) in
    let m : (at - 1 - j) % step ≡ (at - step - 1 - j) % step = ap (λ x. x % step) e ∙ add-mod_right (at - step - 1 - j) step in
    let a : nat_lt j at ≡ nat_lt j (at - step) = grind (arith, nat_tests) in
    ap₂ (λ b x. nat_le end j && b && (x == 0)) a m)

fallen_turn : (end at step : ℕ) → end < at → 0 < step → filter (is_fallen end at step) (down_from at) ≡ (at - 1) ∷ filter (is_fallen end at step) (down_from (at - step))
fallen_turn end zero step low moves = absurd (omega (arith, low))
fallen_turn end (suc m) step low moves =
    let test = is_fallen end (suc m) step in
    let first : suc m - 1 ≡ m = omega arith in
    let here : suc m - 1 - m ≡ 0 = omega arith in
    let divided : ((suc m - 1 - m) % step == 0) ≡ true = rw here (none_of step) in
    let kept : test m ≡ true = grind (arith, nat_tests, divided) in
    let left : m - (step - 1) ≡ suc m - step = omega arith in
    ap (λ b. cond b (m ∷ filter test (down_from m)) (filter test (down_from m))) kept
    ∙ ap (λ x. m ∷ x) (skip_down test (step - 1) m (λ j a b. between_down end (suc m) step j (omega (arith, b)) (omega (arith, a)))
    ∙ ap (λ x. filter test (down_from x)) left)
    ∙ ap (λ x. x ∷ filter test (down_from (suc m - step))) (sym first)

falling_more : (end at step next : ℕ) → end < at → 0 < step → next ≡ at - step → falling_places end at step ≡ (at - 1) ∷ falling_places end next step
unfolding falling_places
falling_more end at step next low moves is = rw is (fallen_turn end at step low moves ∙ ap (λ x. (at - 1) ∷ x) (fallen_on end at step))

-- ---- how many they are

picked_more : (n step : ℕ) → 0 < n → 0 < step → picked_of n step ≡ suc (picked_of (n - step) step)
picked_more zero step some moves = absurd (omega (arith, some))
picked_more (suc n) step some moves =
    elim (cases_lt n step) [
      | inl few ↦
          let none : suc n - step ≡ 0 = omega (arith, few) in
          let front : n / step ≡ 0 = div-eq_of_lt few in
          ap suc (front ∙ sym (ap (λ k. picked_of k step) none))
      | inr many ↦
          let left : suc n - step ≡ suc (n - step) = omega (arith, many) in
          let sum : n - step + step ≡ n = omega (arith, many) in
          let front : n / step ≡ (n - step) / step + 1 = ap (λ k. k / step) (sym sum) ∙ add-div_right (n - step) moves in
          let next : (n - step) / step + 1 ≡ suc ((n - step) / step) = omega arith in
          ap suc (front ∙ next ∙ sym (ap (λ k. picked_of k step) left))
    ]

rising_count : (fuel at end step : ℕ) → 0 < step → end - at ≤ fuel → length (rising_places at end step) ≡ picked_of (end - at) step
rising_count zero at end step moves enough = let none : end - at ≡ 0 = omega (arith, enough) in rw (rising_none at end step (omega (arith, enough)), none) refl
rising_count (suc fuel) at end step moves enough =
    elim (cases_lt at end) [
      | inl more ↦
          let rest = rising_count fuel (at + step) end step moves (omega (arith, enough, moves)) in
          let left : end - (at + step) ≡ end - at - step = omega arith in
          ap length (rising_more at end step (at + step) more (omega (arith, moves)) (omega arith) (λ h. refl))
          ∙ ap suc (rest ∙ ap (λ n. picked_of n step) left)
          ∙ sym (picked_more (end - at) step (omega (arith, more)) moves)
      | inr past ↦ let none : end - at ≡ 0 = omega (arith, past) in rw (rising_none at end step past, none) refl
    ]

falling_count : (fuel end at step : ℕ) → 0 < step → at - end ≤ fuel → length (falling_places end at step) ≡ picked_of (at - end) step
falling_count zero end at step moves enough = let none : at - end ≡ 0 = omega (arith, enough) in rw (falling_none end at step (omega (arith, enough)), none) refl
falling_count (suc fuel) end at step moves enough =
    elim (cases_lt end at) [
      | inl more ↦
          let rest = falling_count fuel end (at - step) step moves (omega (arith, enough, moves)) in
          let left : at - step - end ≡ at - end - step = omega arith in
          ap length (falling_more end at step (at - step) more moves refl)
          ∙ ap suc (rest ∙ ap (λ n. picked_of n step) left)
          ∙ sym (picked_more (at - end) step (omega (arith, more)) moves)
      | inr past ↦ let none : at - end ≡ 0 = omega (arith, past) in rw (falling_none end at step past, none) refl
    ]

-- ---- the places that are left

rises_left : (p : SlicePlaces) → p.falls ≡ false → places_left p ≡ rising_places p.at p.end (suc p.between)
unfolding places_left
rises_left p e = rw e refl

falls_left : (p : SlicePlaces) → p.falls ≡ true → places_left p ≡ falling_places p.end p.at (suc p.between)
unfolding places_left
falls_left p e = rw e refl

pub rises_no_more : (p : SlicePlaces) → p.falls ≡ false → p.end ≤ p.at → places_left p ≡ []
rises_no_more p e past = rises_left p e ∙ rising_none p.at p.end (suc p.between) past

pub falls_no_more : (p : SlicePlaces) → p.falls ≡ true → p.at ≤ p.end → places_left p ≡ []
falls_no_more p e past = falls_left p e ∙ falling_none p.end p.at (suc p.between) past

pub rises_on : (p : SlicePlaces) (next : ℕ) → p.falls ≡ false → p.at < p.end → p.at < next → next ≤ p.at + suc p.between → (next < p.end → next ≡ p.at + suc p.between) →
    places_left p ≡ p.at ∷ places_left (record p { at = next })
rises_on p next e high less most is =
    rises_left p e ∙ rising_more p.at p.end (suc p.between) next high less most is ∙ ap (λ xs. p.at ∷ xs) (sym (rises_left (record p { at = next }) e))

pub falls_on : (p : SlicePlaces) (next : ℕ) → p.falls ≡ true → p.end < p.at → next ≡ p.at - suc p.between → places_left p ≡ (p.at - 1) ∷ places_left (record p { at = next })
falls_on p next e low is =
    falls_left p e ∙ falling_more p.end p.at (suc p.between) next low (omega arith) is ∙ ap (λ xs. (p.at - 1) ∷ xs) (sym (falls_left (record p { at = next }) e))

pub count_rising : (p : SlicePlaces) → p.falls ≡ false → length (places_left p) ≡ picked_of (p.end - p.at) (suc p.between)
count_rising p e = ap length (rises_left p e) ∙ rising_count (p.end - p.at) p.at p.end (suc p.between) (omega arith) (omega arith)

pub count_falling : (p : SlicePlaces) → p.falls ≡ true → length (places_left p) ≡ picked_of (p.at - p.end) (suc p.between)
count_falling p e = ap length (falls_left p e) ∙ falling_count (p.at - p.end) p.end p.at (suc p.between) (omega arith) (omega arith)

-- ---- every place is below the length

all_from : (len a n : ℕ) → a + n ≤ len → All (λ i. i < len) (range_with_len a n)
all_from len a zero h = All-nil (λ i. i < len)
all_from len a (suc n) h = All-cons (λ i. i < len) a (range_with_len (a + 1) n) (omega (arith, h)) (all_from len (a + 1) n (omega (arith, h)))

all_down : (len n : ℕ) → n ≤ len → All (λ i. i < len) (down_from n)
all_down len zero h = All-nil (λ i. i < len)
all_down len (suc n) h = All-cons (λ i. i < len) n (down_from n) (omega (arith, h)) (all_down len n (omega (arith, h)))

slice_by_below : (start end : Option ℤ) (step : ℤ) (len : ℕ) → All (λ i. i < len) (slice_by start end step len)
slice_by_below start end (pos zero) len = All-nil (λ i. i < len)
slice_by_below start end (pos (suc n)) len = All-filter _ (λ i. i < len) (range_with_len 0 len) (all_from len 0 len (omega arith))
slice_by_below start end (negsuc n) len = All-filter _ (λ i. i < len) (down_from len) (all_down len len (omega arith))

pub slice_below : (start end step : Option ℤ) (len : ℕ) (xs : List ℕ) → xs ≡ slice_of start end step len → All (λ i. i < len) xs
unfolding slice_of
slice_below start end step len xs is = subst (All (λ i. i < len)) (sym is) (slice_by_below start end (unwrap_or step (pos 1)) len)

fallen_start : (lower upper step len : ℕ) → upper ≤ len → filter (is_fallen lower upper step) (down_from upper) ≡ filter (is_fallen lower upper step) (down_from len)
fallen_start lower upper step len within =
    let test = is_fallen lower upper step in
    let left : len - (len - upper) ≡ upper = omega arith in
    sym (skip_down test (len - upper) len (λ j p q. grind (arith, nat_tests)) ∙ ap (λ x. filter test (down_from x)) left)

-- ---- the same tests over unbounded whole numbers

same_filter : (p q : ℕ → Bool) → ((i : ℕ) → p i ≡ q i) → (xs : List ℕ) → filter p xs ≡ filter q xs
same_filter p q same [] = refl
same_filter p q same (x ∷ xs) =
    ap (λ b. cond b (x ∷ filter p xs) (filter p xs)) (same x)
    ∙ ap (λ ys. cond (q x) (x ∷ ys) ys) (same_filter p q same xs)

way : (a b : ℕ) → b ≤ a → unsigned_abs (pos a -ℤ pos b) ≡ a - b
way a b h = let e : pos a -ℤ pos b ≡ pos (a - b) = omega (arith, ints) in ap unsigned_abs e

same_risen : (lower upper step i : ℕ) → is_risen lower upper step i ≡ picks_rising (pos lower) (pos upper) step i
same_risen lower upper step i =
    elim (cases_lt i lower) [
      | inl below ↦ grind (arith, nat_tests)
      | inr above ↦ let e = way i lower above in rw e refl
    ]

after_end : (lower i : ℕ) (end : ℤ) → pos lower ≡ end +ℤ pos 1 → nat_le lower i ≡ int_lt end (pos i)
after_end lower i end low = elim (cases_lt i lower) [ inl below ↦ grind (arith, ints, nat_tests) | inr above ↦ grind (arith, ints, nat_tests) ]

all_three : (a a' b b' c c' : Bool) → a ≡ a' → b ≡ b' → c ≡ c' → a && b && c ≡ a' && b' && c'
all_three a a' b b' c c' p q r = ap₂ (λ x y. x && y) (ap₂ (λ x y. x && y) p q) r

stops : (a c : Bool) → a && false && c ≡ false
stops true c = refl
stops false c = refl

neither : (a a' b b' c c' : Bool) → a ≡ a' → b ≡ false → b' ≡ false → a && b && c ≡ a' && b' && c'
neither a a' b b' c c' p q r =
    ap₂ (λ x y. x && y && c) p q ∙ stops a' c ∙ sym (ap (λ y. a' && y && c') r ∙ stops a' c')

same_fallen : (lower upper step i : ℕ) (start end : ℤ) → pos lower ≡ end +ℤ pos 1 → pos upper ≡ start +ℤ pos 1 →
    is_fallen lower upper step i ≡ picks_falling end start step i
same_fallen lower upper step i start end low high =
    elim (cases_lt i upper) [
      | inl below ↦
          let e : start -ℤ pos i ≡ pos (upper - 1 - i) = omega (arith, ints, high, below) in
          let a : int_le (pos i) start ≡ true = grind (arith, ints) in
          let b : nat_lt i upper ≡ true = grind (arith, nat_tests) in
          all_three _ _ _ _ _ _ (after_end lower i end low) (b ∙ sym a) (ap (λ z. unsigned_abs z % step == 0) (sym e))
      | inr above ↦
          let a : int_le (pos i) start ≡ false = grind (arith, ints) in
          let b : nat_lt i upper ≡ false = grind (arith, nat_tests) in
          neither _ _ _ _ _ _ (after_end lower i end low) b a
    ]

-- ---- the bounds of a slice, by the sign of its step

pub rising_slice : (start end : Option ℤ) (step : ℤ) (lower upper len between : ℕ) → pos 0 <ℤ step → between ≡ unsigned_abs step - 1 → upper ≤ len →
    pos lower ≡ clamped (pos 0) (pos len) (normalized len (unwrap_or start (pos 0))) →
    pos upper ≡ clamped (pos 0) (pos len) (normalized len (unwrap_or end (pos len))) →
    rising_places lower upper (suc between) ≡ slice_by start end step len
unfolding rising_places
rising_slice start end (pos zero) lower upper len between above e within low high = absurd (omega (arith, ints, above))
rising_slice start end (negsuc n) lower upper len between above e within low high = absurd (omega (arith, ints, above))
rising_slice start end (pos (suc n)) lower upper len between above e within low high =
    let size : between ≡ n = omega (arith, e) in
    cut (is_risen lower upper (suc between)) upper len 0 (λ j p. grind (arith, nat_tests)) within
    ∙ rw (size, sym low, sym high) (same_filter _ _ (same_risen lower upper (suc n)) (range_with_len 0 len))

pub falling_slice : (start end : Option ℤ) (step : ℤ) (lower upper len between : ℕ) → step <ℤ pos 0 → between ≡ unsigned_abs step - 1 → upper ≤ len →
    pos lower ≡ clamped (negsuc 0) (pos len -ℤ pos 1) (normalized len (unwrap_or end (neg_ℤ (pos len) -ℤ pos 1))) +ℤ pos 1 →
    pos upper ≡ clamped (negsuc 0) (pos len -ℤ pos 1) (normalized len (unwrap_or start (pos len -ℤ pos 1))) +ℤ pos 1 →
    falling_places lower upper (suc between) ≡ slice_by start end step len
unfolding falling_places
falling_slice start end (pos zero) lower upper len between below e within low high = absurd (omega (arith, ints, below))
falling_slice start end (pos (suc n)) lower upper len between below e within low high = absurd (omega (arith, ints, below))
falling_slice start end (negsuc n) lower upper len between below e within low high =
    let size : between ≡ n = omega (arith, e) in
    fallen_start lower upper (suc between) len within
    ∙ ap (λ x. filter (is_fallen lower upper (suc x)) (down_from len)) size
    ∙ same_filter _ _ (λ i. same_fallen lower upper (suc n) i _ _ low high) (down_from len)
