-- What a run tells of its end, from what its parts tell.
use Rattle.std.proofs.Common.{◌≡◌, inl, inr, ℕ, List, Option, None, Some, Result, Ok, Err, OnOk, IfSome, false, refl, sym, subst}
use Rattle.std.specs.Io.KnownBytes.{Appends}
use Rattle.serde_json.specs.Data.{Data}
use Rattle.jsonpath_parser.specs.Derives.{Derives}
use Rattle.jsonpath_parser.specs.tree.Syntax as syntax
use Rattle.jsonpath_base.specs.Values.{has_whole_numbers}
use Rattle.jpath.specs.Words.{Request, asked_by}
use Rattle.jpath.specs.Output.{IsJson, IsNoJson, IsWholeJson, IsOutput, AppendsFront, IsFaultOf}
use Rattle.jpath.specs.Printed.{IsNoOutput, IsPrinted}
use Rattle.jpath.specs.declared.fault.Fault.{Fault}
use Rattle.jpath.specs.declared.fault.Fault.TheVariants.{Usage, Query, NotJson, NotWhole, Io, Memory}

-- what holds of the bytes that were read holds of the input, where that is known
of_input : (P : List ℕ → Type 0) (input : Option (List ℕ)) (bytes : List ℕ) → IfSome input (λ b. b ≡ bytes) → P bytes → IfSome input P
of_input P None bytes same h = tt
of_input P (Some b) bytes same h = subst P (sym same) h

-- the output of the words and the bytes
is_output : (words : List (List ℕ)) (a : Request) (q : syntax.Query) (bytes out : List ℕ)
    → asked_by words ≡ Some a → Derives a.depth a.query q → IsPrinted a.command q bytes out → IsOutput words bytes out
is_output words a q bytes out asked derived (d, json, text) =
    record { asked = a; by_words = asked; query = q; derived = derived; document = d; json = json.0; whole = json.1; written = text }

-- all of it was written
pub told : {E : Type 0} (r : Result (Unit {0}) E) (words : List (List ℕ)) (input old new : Option (List ℕ)) (a : Request) (q : syntax.Query) (bytes out : List ℕ)
    → asked_by words ≡ Some a → Derives a.depth a.query q → IfSome input (λ b. b ≡ bytes) → IsPrinted a.command q bytes out → OnOk r (Appends old new out)
    → OnOk r (IfSome input (λ b. (x : List ℕ) × IsOutput words b x × Appends old new x))
told (Err e) words input old new a q bytes out asked derived same printed wrote = tt
told (Ok u) words input old new a q bytes out asked derived same printed wrote =
    of_input (λ b. (x : List ℕ) × IsOutput words b x × Appends old new x) input bytes same (out, is_output words a q bytes out asked derived printed, wrote)

-- or a beginning of it
pub told_front : (words : List (List ℕ)) (input old new : Option (List ℕ)) (a : Request) (q : syntax.Query) (bytes out : List ℕ)
    → asked_by words ≡ Some a → Derives a.depth a.query q → IfSome input (λ b. b ≡ bytes) → IsPrinted a.command q bytes out → AppendsFront old new out
    → IfSome input (λ b. (x : List ℕ) × IsOutput words b x × AppendsFront old new x)
told_front words input old new a q bytes out asked derived same printed wrote =
    of_input (λ b. (x : List ℕ) × IsOutput words b x × AppendsFront old new x) input bytes same (out, is_output words a q bytes out asked derived printed, wrote)

-- why nothing was printed is a fault of the words and the input
pub no_output : (words : List (List ℕ)) (input : Option (List ℕ)) (a : Request) (q : syntax.Query) (bytes : List ℕ) (f : Fault)
    → asked_by words ≡ Some a → Derives a.depth a.query q → IfSome input (λ b. b ≡ bytes) → IsNoOutput q bytes f → IsFaultOf words input f
no_output words input a q bytes Usage asked derived same (inl h) = absurd h
no_output words input a q bytes (Query e) asked derived same (inl h) = absurd h
no_output words input a q bytes NotJson asked derived same (inl h) = ((a, q, asked, derived), of_input IsNoJson input bytes same h)
no_output words input a q bytes NotWhole asked derived same (inl h) =
    ((a, q, asked, derived), of_input (λ b. (d : Data) × IsJson b d × (has_whole_numbers d ≡ false)) input bytes same h)
no_output words input a q bytes Io asked derived same (inl h) = (a, q, asked, derived)
no_output words input a q bytes Memory asked derived same h = rw asked refl
no_output words input a q bytes (Query e) asked derived same (inr (d, json, h)) =
    inr (h.0, (a, q, d, asked, derived, of_input (λ b. IsWholeJson b d) input bytes same json, h.1))
no_output words input a q bytes _ asked derived same (inr (d, json, h)) = absurd h
