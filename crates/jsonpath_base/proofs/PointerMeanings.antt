-- What a JSON Pointer means in a tree is there, and is what the kit's `pointer` finds in a value.
use Rattle.std.proofs.Common.{◌≡◌, ℕ, ℤ, List, [], ◌∷◌, ◌++◌, Bool, true, false, if◌then◌else◌, ◌==◌, Option, Some, None, is_some, option_map, option_and_then, refl, sym, ap, ◌∙◌}
use Rattle.serde_json.specs.Data as json
use Rattle.jsonpath_base.specs.Prelude.{at, child, Data, index, index_of, led, list, Location, location_in, PointerLeadsAsFound, PointerLeadsToWhatIs, Step, step_in, tokens, tokens_from, Tree, tree_of, tree_of_number, trees_of, unescape, view}
use Rattle.serde_json.specs.Find as json_find
use Rattle.serde_json.specs.Find.{walk}
use Rattle.jsonpath_base.proofs.Placing.{item_at-trees_of}
use Rattle.jsonpath_base.proofs.Views.{find-members_of}

-- ---- one token

number_child : (token : List ℕ) (o : Option ℤ) → option_and_then (λ s. child s (tree_of_number o)) (step_in token (tree_of_number o)) ≡ None
number_child token None = refl
number_child token (Some n) = refl

-- the child that a token means is what the kit finds by it
child_found : (token : List ℕ) (d : Data) → option_map tree_of (json_find.step token d) ≡ option_and_then (λ s. child s (tree_of d)) (step_in token (tree_of d))
child_found token json.null = refl
child_found token (json.boolean b) = refl
child_found token (json.number n) = sym (number_child token (json_find.as_i64 n))
child_found token (json.string s) = refl
child_found token (json.array ds) = by (index_of token)
  where
    by : (o : Option ℕ) → option_map tree_of (option_and_then (λ i. json_find.get_item i ds) o) ≡ option_and_then (λ s. child s (list (trees_of ds))) (option_map index o)
    by None = refl
    by (Some i) = sym (item_at-trees_of i ds)
child_found token (json.object ms) = sym (find-members_of (unescape token) ms)

-- ---- one token after the other

-- what stands where they lead
abbrev value_led : List (List ℕ) → Tree → Option Tree
value_led ps t = option_and_then (λ l. at l t) (led ps t)

-- the location of a step and of what the tokens lead to behind it
abbrev led_by : List (List ℕ) → Tree → Option Step → Option Location
led_by ps t o = option_and_then (λ s. option_and_then (λ c. option_map (λ l. s ∷ l) (led ps c)) (child s t)) o

-- it is there, and is what the tokens lead to from the child at the step
led_first : (ps : List (List ℕ)) (t : Tree) (o : Option Step) → (option_and_then (λ l. at l t) (led_by ps t o) ≡ option_and_then (value_led ps) (option_and_then (λ s. child s t) o)) × (is_some (led_by ps t o) ≡ is_some (option_and_then (led ps) (option_and_then (λ s. child s t) o)))
led_first ps t None = (refl, refl)
led_first ps t (Some s) = by (child s t) refl
  where
    below : (c : Tree) → child s t ≡ Some c → (o : Option Location) → (option_and_then (λ l. at l t) (option_map (λ l. s ∷ l) o) ≡ option_and_then (λ l. at l c) o) × (is_some (option_map (λ l. s ∷ l) o) ≡ is_some o)
    below c e None = (refl, refl)
    below c e (Some l) = (ap (option_and_then (at l)) e, refl)

    by : (o : Option Tree) → child s t ≡ o → (option_and_then (λ l. at l t) (option_and_then (λ c. option_map (λ l. s ∷ l) (led ps c)) o) ≡ option_and_then (value_led ps) o) × (is_some (option_and_then (λ c. option_map (λ l. s ∷ l) (led ps c)) o) ≡ is_some (option_and_then (led ps) o))
    by None e = (refl, refl)
    by (Some c) e = below c e (led ps c)

value_down : (token : List ℕ) (ps : List (List ℕ)) (t : Tree) → value_led (token ∷ ps) t ≡ option_and_then (value_led ps) (option_and_then (λ s. child s t) (step_in token t))
value_down token ps t = (led_first ps t (step_in token t)).0

led_stands : (ps : List (List ℕ)) (t : Tree) → is_some (value_led ps t) ≡ is_some (led ps t)
led_stands [] t = refl
led_stands (token ∷ ps) t = ap is_some (value_down token ps t) ∙ by (option_and_then (λ s. child s t) (step_in token t)) (λ c. led_stands ps c) ∙ sym (led_first ps t (step_in token t)).1
  where
    by : (o : Option Tree) → ((c : Tree) → is_some (value_led ps c) ≡ is_some (led ps c)) → is_some (option_and_then (value_led ps) o) ≡ is_some (option_and_then (led ps) o)
    by None stands = refl
    by (Some c) stands = stands c

pub leads_to_what_is : PointerLeadsToWhatIs
leads_to_what_is text t l h = by (tokens text) h
  where
    by : (o : Option (List (List ℕ))) → option_and_then (λ ps. led ps t) o ≡ Some l → is_some (at l t) ≡ true
    by None is = absurd cc
    by (Some ps) is = sym (ap (λ o. is_some (option_and_then (λ m. at m t) o)) is) ∙ led_stands ps t ∙ ap is_some is

-- ---- the characters of a text

found_last : (o : Option Tree) → o ≡ option_and_then (value_led []) o
found_last None = refl
found_last (Some t) = refl

found_then : (ps : List (List ℕ)) (rest : List ℕ) → ((d : Data) → option_map tree_of (walk [] rest d) ≡ value_led ps (tree_of d)) → (o : Option Data) → option_map tree_of (option_and_then (walk [] rest) o) ≡ option_and_then (value_led ps) (option_map tree_of o)
found_then ps rest more None = refl
found_then ps rest more (Some d) = more d

-- the kit's `walk` finds what the tokens lead to
walked : (read rest : List ℕ) (d : Data) → option_map tree_of (walk read rest d) ≡ value_led (tokens_from read rest) (tree_of d)
unfolding walk
walked read [] d = child_found read d ∙ found_last _ ∙ sym (value_down read [] (tree_of d))
walked read (x ∷ rest) d = by (λ p e. walked p rest e) (x == 47)
  where
    by : ((p : List ℕ) (e : Data) → option_map tree_of (walk p rest e) ≡ value_led (tokens_from p rest) (tree_of e)) → (b : Bool)
        → option_map tree_of (if b then option_and_then (walk [] rest) (json_find.step read d) else walk (read ++ x ∷ []) rest d) ≡ value_led (if b then read ∷ tokens_from [] rest else tokens_from (read ++ x ∷ []) rest) (tree_of d)
    by ih true = found_then (tokens_from [] rest) rest (ih []) (json_find.step read d) ∙ ap (option_and_then (value_led (tokens_from [] rest))) (child_found read d) ∙ sym (value_down read (tokens_from [] rest) (tree_of d))
    by ih false = ih (read ++ x ∷ []) d

found : (text : List ℕ) (d : Data) → option_map tree_of (json_find.pointer text d) ≡ option_and_then (λ l. at l (tree_of d)) (location_in text (tree_of d))
found [] d = refl
found (x ∷ rest) d = by (x == 47)
  where
    by : (b : Bool) → option_map tree_of (if b then walk [] rest d else None) ≡ option_and_then (λ l. at l (tree_of d)) (option_and_then (λ ps. led ps (tree_of d)) (if b then Some (tokens_from [] rest) else None))
    by true = walked [] rest d
    by false = refl

pub leads_as_found : PointerLeadsAsFound
leads_as_found text v = found text (view v)
