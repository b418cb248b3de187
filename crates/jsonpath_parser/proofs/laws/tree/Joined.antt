-- Texts with another between each two, and the parts of a tree as such.
use Rattle.std.proofs.Common.{◌≡◌, ◌∙◌, refl, sym, ap, ℕ, ◌+◌, ◌<◌, ◌≤◌, List, [], ◌∷◌, ◌++◌, length, get_or, map, take, flat_map, append-nil, append_assoc, codes, Option, ℤ, pos, unwrap_or, Vec, Global}
use Rattle.jsonpath_parser.specs.Prelude.{argument_shown, argument_view, arguments_of, arguments_view, concat, filter_shown, filter_view, filters_of, filters_view, FnArg, joined, segment_shown, segment_view, segments_of, segments_shown, segments_view, selector_shown, selector_view, selectors_of, selectors_view, signed_decimal, SingularQuerySegment, step_view, steps_view}
use Rattle.std.proofs.lemmas.List.{take_more, take_all}
use Rattle.jsonpath_parser.specs.tree.Shown.{filters_shown, arguments_shown, selectors_shown, slice_shown}
use Rattle.jsonpath_parser.specs.declared.tree.model.Filter.{Filter}
use Rattle.jsonpath_parser.specs.declared.tree.model.Segment.{Segment}
use Rattle.jsonpath_parser.specs.declared.tree.model.Selector.{Selector}

-- each of the texts behind this one
abbrev pub followed : List ℕ → List (List ℕ) → List ℕ
followed between xs = flat_map (λ x. between ++ x) xs

followed_append : {A : Type 0} (between : List ℕ) (shown : A → List ℕ) (xs : List A) (x : A) → followed between (map shown (xs ++ x ∷ [])) ≡ followed between (map shown xs) ++ (between ++ shown x)
followed_append between shown [] x = append-nil (between ++ shown x)
followed_append between shown (y ∷ ys) x = ap (λ r. (between ++ shown y) ++ r) (followed_append between shown ys x) ∙ sym (append_assoc (between ++ shown y) (followed between (map shown ys)) (between ++ shown x))

-- the part at a place, behind those before it
pub followed_more : {A : Type 0} (between : List ℕ) (shown : A → List ℕ) (xs : List A) (i : ℕ) (x : A) → i < length xs → x ≡ get_or xs i x → followed between (map shown (take (i + 1) xs)) ≡ followed between (map shown (take i xs)) ++ (between ++ shown x)
followed_more between shown xs i x within is = ap (λ ys. followed between (map shown ys)) (take_more xs i x within ∙ ap (λ y. take i xs ++ y ∷ []) (sym is)) ∙ followed_append between shown (take i xs) x

-- the first part, and all others behind it
pub followed_all : {A : Type 0} (between : List ℕ) (shown : A → List ℕ) (x : A) (xs : List A) (i : ℕ) → length xs ≤ i → shown x ++ followed between (map shown (take i xs)) ≡ joined between (map shown (x ∷ xs))
followed_all between shown x xs i end = ap (λ ys. shown x ++ followed between (map shown ys)) (take_all i xs end)

followed_nothing : (xs : List (List ℕ)) → followed [] xs ≡ concat xs
followed_nothing [] = refl
followed_nothing (x ∷ xs) = ap (λ r. x ++ r) (followed_nothing xs)

joined_nothing : (xs : List (List ℕ)) → joined [] xs ≡ concat xs
joined_nothing [] = refl
joined_nothing (x ∷ xs) = ap (λ r. x ++ r) (followed_nothing xs)

segments_shown_all : (xs : List Segment) → segments_shown (segments_of (map segment_view xs)) ≡ map (λ x. segment_shown (segment_view x)) xs
segments_shown_all [] = refl
segments_shown_all (x ∷ xs) = ap (λ r. segment_shown (segment_view x) ∷ r) (segments_shown_all xs)

selectors_shown_all : (xs : List Selector) → selectors_shown (selectors_of (map selector_view xs)) ≡ map (λ x. selector_shown (selector_view x)) xs
selectors_shown_all [] = refl
selectors_shown_all (x ∷ xs) = ap (λ r. selector_shown (selector_view x) ∷ r) (selectors_shown_all xs)

filters_shown_all : (xs : List Filter) → filters_shown (filters_of (map filter_view xs)) ≡ map (λ x. filter_shown (filter_view x)) xs
filters_shown_all [] = refl
filters_shown_all (x ∷ xs) = ap (λ r. filter_shown (filter_view x) ∷ r) (filters_shown_all xs)

arguments_shown_all : (xs : List FnArg) → arguments_shown (arguments_of (map argument_view xs)) ≡ map (λ x. argument_shown (argument_view x)) xs
arguments_shown_all [] = refl
arguments_shown_all (x ∷ xs) = ap (λ r. argument_shown (argument_view x) ∷ r) (arguments_shown_all xs)

steps_shown_all : (xs : List SingularQuerySegment) → segments_shown (segments_of (map step_view xs)) ≡ map (λ x. segment_shown (step_view x)) xs
steps_shown_all [] = refl
steps_shown_all (x ∷ xs) = ap (λ r. segment_shown (step_view x) ∷ r) (steps_shown_all xs)

-- The parts of a tree, as the code joins them.

pub segments_joined : (v : Vec Segment Global) → joined [] (map (λ x. segment_shown (segment_view x)) v.items) ≡ concat (segments_shown (segments_view v))
segments_joined v = joined_nothing (map (λ x. segment_shown (segment_view x)) v.items) ∙ ap concat (sym (segments_shown_all v.items))

pub selectors_joined : (v : Vec Selector Global) → joined [] (map (λ x. selector_shown (selector_view x)) v.items) ≡ concat (selectors_shown (selectors_view v))
selectors_joined v = joined_nothing (map (λ x. selector_shown (selector_view x)) v.items) ∙ ap concat (sym (selectors_shown_all v.items))

pub arguments_joined : (v : Vec FnArg Global) → joined [] (map (λ x. argument_shown (argument_view x)) v.items) ≡ concat (arguments_shown (arguments_view v))
arguments_joined v = joined_nothing (map (λ x. argument_shown (argument_view x)) v.items) ∙ ap concat (sym (arguments_shown_all v.items))

pub steps_joined : (v : Vec SingularQuerySegment Global) → joined [] (map (λ x. segment_shown (step_view x)) v.items) ≡ concat (segments_shown (steps_view v))
steps_joined v = joined_nothing (map (λ x. segment_shown (step_view x)) v.items) ∙ ap concat (sym (steps_shown_all v.items))

pub filters_joined : (between : List ℕ) (v : Vec Filter Global) → joined between (map (λ x. filter_shown (filter_view x)) v.items) ≡ joined between (filters_shown (filters_view v))
filters_joined between v = ap (joined between) (sym (filters_shown_all v.items))

-- a name, and what stands in parentheses
pub called : (n x y : List ℕ) → x ≡ y → ((n ++ codes "(") ++ x) ++ codes ")" ≡ n ++ (codes "(" ++ (y ++ codes ")"))
called n x y same = ap (λ r. ((n ++ codes "(") ++ r) ++ codes ")") same ∙ (append_assoc (n ++ codes "(") y (codes ")") ∙ append_assoc n (codes "(") (y ++ codes ")"))

-- a slice by its parts
pub slice_parts : (start end step : Option ℤ) (a b c : ℤ) → a ≡ unwrap_or start (pos 0) → b ≡ unwrap_or end (pos 0) → c ≡ unwrap_or step (pos 1) → signed_decimal a ++ (codes ":" ++ (signed_decimal b ++ (codes ":" ++ signed_decimal c))) ≡ slice_shown start end step
slice_parts start end step a b c ea eb ec = λ i. signed_decimal (ea i) ++ (codes ":" ++ (signed_decimal (eb i) ++ (codes ":" ++ signed_decimal (ec i))))
