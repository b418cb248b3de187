-- The way that a JSON Pointer leads, token by token.
use Rattle.std.proofs.Common.{◌≡◌, ◌≢◌, ◌<◌, ℕ, suc, List, [], ◌∷◌, ◌++◌, length, Option, Some, None, option_map, option_and_then, refl, sym, ap, ◌∙◌, append_assoc, append-nil, arith, ne_eqb}
use Rattle.std.proofs.lemmas.List.{map-append}
use Rattle.jsonpath_base.specs.Prelude.{child, GoesDown, led, Location, location_in, location_view, owned_step, step_in, tokens_from, Tree, unescape, Value, value_tree}
use Rattle.serde_json.proofs.Paths.{unescape_plain}
use Rattle.jsonpath_parser.specs.Location as location
use Rattle.jsonpath_base.specs.declared.step.Step.{Step}
use Rattle.jsonpath_base.proofs.PointerTexts.{Lacks}

-- ---- a part of a text

pub unescape_head : (x : ℕ) (xs : List ℕ) → x ≢ 126 → unescape (x ∷ xs) ≡ x ∷ unescape xs
unfolding unescape
unescape_head x [] other = refl
unescape_head x (y ∷ ys) other = rw (ne_eqb x 126 other) refl

unescape_over : (plain rest : List ℕ) → Lacks 126 plain → unescape (plain ++ rest) ≡ plain ++ unescape rest
unescape_over [] rest lacks = refl
unescape_over (x ∷ xs) rest lacks = unescape_head x (xs ++ rest) (lacks 0 (omega arith)) ∙ ap (λ l. x ∷ l) (unescape_over xs rest (λ i less. lacks (suc i) (omega (arith, less))))

pub mark_one : (behind more : List ℕ) → behind ≡ 49 ∷ more → unescape (126 ∷ behind) ≡ 47 ∷ unescape more
unfolding unescape
mark_one behind more e = rw e refl

pub mark_zero : (behind more : List ℕ) → behind ≡ 48 ∷ more → unescape (126 ∷ behind) ≡ 126 ∷ unescape more
unfolding unescape
mark_zero behind more e = rw e refl

pub mark_none : (behind : List ℕ) → ((more : List ℕ) → behind ≢ 49 ∷ more) → ((more : List ℕ) → behind ≢ 48 ∷ more) → unescape (126 ∷ behind) ≡ 126 ∷ unescape behind
unfolding unescape
mark_none [] one nil = refl
mark_none (x ∷ xs) one nil = rw (ne_eqb x 49 (λ e. one xs (ap (λ y. y ∷ xs) e)), ne_eqb x 48 (λ e. nil xs (ap (λ y. y ∷ xs) e))) refl

-- one turn of the loop over a part
pub mark_turn : (all name middle out rest plain behind mark more : List ℕ) → name ++ unescape rest ≡ all → rest ≡ plain ++ 126 ∷ behind → Lacks 126 plain → unescape (126 ∷ behind) ≡ mark ++ unescape more → middle ≡ name ++ plain → out ≡ middle ++ mark → out ++ unescape more ≡ all
mark_turn all name middle out rest plain behind mark more before cut lacks is written marked =
    let joined : out ++ unescape more ≡ name ++ (plain ++ (mark ++ unescape more)) = rw (marked, written) (simp append_assoc) in
    let spelled : unescape rest ≡ plain ++ (mark ++ unescape more) = ap unescape cut ∙ unescape_over plain (126 ∷ behind) lacks ∙ ap (λ l. plain ++ l) is in
    joined ∙ ap (λ l. name ++ l) (sym spelled) ∙ before

pub mark_end : (all name out rest : List ℕ) → name ++ unescape rest ≡ all → Lacks 126 rest → out ≡ name ++ rest → out ≡ all
mark_end all name out rest before lacks written = written ∙ ap (λ l. name ++ l) (sym (unescape_plain rest lacks)) ∙ before

-- ---- tokens

-- a token has no `/`
over_token : (read token rest : List ℕ) → Lacks 47 token → tokens_from read (token ++ rest) ≡ tokens_from (read ++ token) rest
over_token read [] rest lacks = ap (λ p. tokens_from p rest) (sym (append-nil read))
over_token read (c ∷ cs) rest lacks =
    rw (ne_eqb c 47 (lacks 0 (omega arith))) (over_token (read ++ c ∷ []) cs rest (λ i less. lacks (suc i) (omega (arith, less))) ∙ ap (λ p. tokens_from p rest) (append_assoc read (c ∷ []) cs))

pub token_then : (token rest : List ℕ) → Lacks 47 token → tokens_from [] (token ++ rest) ≡ tokens_from token rest
token_then token rest lacks = over_token [] token rest lacks

pub first_token : (text token more : List ℕ) → text ≡ token ++ 47 ∷ more → Lacks 47 token → tokens_from [] text ≡ token ∷ tokens_from [] more
first_token text token more cut lacks = ap (tokens_from []) cut ∙ token_then token (47 ∷ more) lacks

pub only_token : (token : List ℕ) → Lacks 47 token → tokens_from [] token ≡ token ∷ []
only_token token lacks = ap (tokens_from []) (sym (append-nil token)) ∙ token_then token [] lacks

-- ---- the way

pub led_down : (token : List ℕ) (ps : List (List ℕ)) (s : location.Step) (t c : Tree) → step_in token t ≡ Some s → child s t ≡ Some c → led (token ∷ ps) t ≡ option_map (λ l. s ∷ l) (led ps c)
led_down token ps s t c means down = rw (means, down) refl

led_nowhere : (token : List ℕ) (ps : List (List ℕ)) (t : Tree) (o : Option location.Step) → option_and_then (λ s. child s t) o ≡ None → option_and_then (λ s. option_and_then (λ c. option_map (λ l. s ∷ l) (led ps c)) (child s t)) o ≡ None
led_nowhere token ps t None none = refl
led_nowhere token ps t (Some s) none = ap (option_and_then (λ c. option_map (λ l. s ∷ l) (led ps c))) none

-- what is left of the text leads on from the target, as the text does from the value
abbrev pub LeadsOn : List ℕ → Value → List Step → List (List ℕ) → Value → Type 0
LeadsOn text value steps ps target = option_map (λ m. location_view steps ++ m) (led ps (value_tree target)) ≡ location_in text (value_tree value)

unmoved : (o : Option Location) → option_map (λ m. [] ++ m) o ≡ o
unmoved None = refl
unmoved (Some m) = refl

moved : (l : Location) (s : location.Step) (o : Option Location) → option_map (λ m. (l ++ s ∷ []) ++ m) o ≡ option_map (λ m. l ++ m) (option_map (λ m. s ∷ m) o)
moved l s None = refl
moved l s (Some m) = ap Some (append_assoc l (s ∷ []) m)

pub leads_from : (text rest : List ℕ) (value : Value) (steps : List Step) → text ≡ 47 ∷ rest → steps ≡ [] → LeadsOn text value steps (tokens_from [] rest) value
leads_from text rest value steps cut none =
    ap (λ ss. option_map (λ m. location_view ss ++ m) (led (tokens_from [] rest) (value_tree value))) none ∙ unmoved (led (tokens_from [] rest) (value_tree value)) ∙ ap (λ t. location_in t (value_tree value)) (sym cut)

pub leads_down : (text token : List ℕ) (all ps : List (List ℕ)) (value target below : Value) (old new : List Step) → LeadsOn text value old all target → all ≡ token ∷ ps → GoesDown token target old new below → LeadsOn text value new ps below
leads_down text token all ps value target below old new leads first g =
    ap (λ l. option_map (λ m. l ++ m) (led ps (value_tree below))) (ap location_view g.steps ∙ map-append owned_step old (g.step ∷ []))
    ∙ moved (location_view old) (owned_step g.step) (led ps (value_tree below))
    ∙ sym (ap (option_map (λ m. location_view old ++ m)) (ap (λ qs. led qs (value_tree target)) first ∙ led_down token ps (owned_step g.step) (value_tree target) (value_tree below) g.means g.child)) ∙ leads

pub leads_nowhere : (text token : List ℕ) (all ps : List (List ℕ)) (value target : Value) (steps : List Step) → LeadsOn text value steps all target → all ≡ token ∷ ps
    → option_and_then (λ s. child s (value_tree target)) (step_in token (value_tree target)) ≡ None → None ≡ location_in text (value_tree value)
leads_nowhere text token all ps value target steps leads first none =
    sym (ap (option_map (λ m. location_view steps ++ m)) (ap (λ qs. led qs (value_tree target)) first ∙ led_nowhere token ps (value_tree target) (step_in token (value_tree target)) none)) ∙ leads

-- at the end of the text
pub leads_there : (text : List ℕ) (value target : Value) (steps : List Step) → LeadsOn text value steps [] target → Some (location_view steps) ≡ location_in text (value_tree value)
leads_there text value target steps leads = ap Some (sym (append-nil (location_view steps))) ∙ leads

pub no_pointer : (text : List ℕ) (t : Tree) → 0 < length text → ((rest : List ℕ) → text ≢ 47 ∷ rest) → None ≡ location_in text t
no_pointer [] t some h = absurd (omega arith)
no_pointer (x ∷ xs) t some h = rw (ne_eqb x 47 (λ e. h xs (ap (λ y. y ∷ xs) e)))
