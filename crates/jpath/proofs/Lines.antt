-- The lines of nodes.
use Rattle.std.proofs.Common.{◌≡◌, ℕ, List, [], ◌∷◌, ◌++◌, length, map, codes, Bor, arith, refl, sym, ap, ◌∙◌, append_assoc, append-nil}
use Rattle.std.specs.List.{flat_map, AllZip}
use Rattle.jsonpath_parser.specs.Location.{Location}
use Rattle.jsonpath_base.specs.Tree.{Tree}
use Rattle.jsonpath_rust.specs.documents.Document.{Document}
use Rattle.jsonpath_rust.specs.documents.Answer.{IsNodeAt, IsValueAt}
use Rattle.jpath.specs.Document.{json_tree}
use Rattle.jpath.specs.Json.{json_text}
use Rattle.jpath.specs.Output.{line, location_line}
use Rattle.jpath.specs.declared.document.Json.{Json}
use Rattle.jpath.specs.declared.words.Listing.{Listing}
use Rattle.jpath.specs.declared.words.Listing.TheVariants.{Values}

-- the lines of answered nodes are those of their locations
pub lines-AllZip : (listing : Listing) (doc : Document) (ls : List Location) (ns : List (List ℕ × Tree)) → AllZip (IsNodeAt doc) ls ns →
    flat_map (λ n. line listing n.0 (json_text n.1)) ns ≡ flat_map (location_line listing doc) ls
lines-AllZip listing doc [] [] h = refl
lines-AllZip listing doc [] (n ∷ ns) h = absurd h
lines-AllZip listing doc (l ∷ ls) [] h = absurd h
lines-AllZip listing doc (l ∷ ls) (n ∷ ns) h = rw (h.0.0.0, h.0.1, lines-AllZip listing doc ls ns h.1)

-- so are those of their values alone
pub value_lines-AllZip : (doc : Document) (ls : List Location) (ts : List Tree) → AllZip (IsValueAt doc) ls ts →
    flat_map (λ t. json_text t ++ codes "\n") ts ≡ flat_map (location_line Values doc) ls
value_lines-AllZip doc [] [] h = refl
value_lines-AllZip doc [] (t ∷ ts) h = absurd h
value_lines-AllZip doc (l ∷ ls) [] h = absurd h
value_lines-AllZip doc (l ∷ ls) (t ∷ ts) h = rw (h.0, value_lines-AllZip doc ls ts h.1)

-- the lines of lent values
abbrev pub value_lines : List (Bor Json) → List ℕ
value_lines vs = flat_map (λ t. json_text t ++ codes "\n") (map (λ v. json_tree v.now) vs)

-- one line is written, and then the rest
pub line_more : (text json new all : List ℕ) (left rest : List (Bor Json)) (v : Bor Json) → left ≡ v ∷ rest → json ≡ text ++ json_text (json_tree v.now) → new ≡ json ++ codes "\n"
    → text ++ value_lines left ≡ all → new ++ value_lines rest ≡ all
line_more text json new all left rest v front e f h =
    let t = json_text (json_tree v.now) in
    rw (f, e) (append_assoc (text ++ t) (codes "\n") (value_lines rest) ∙ append_assoc text t (codes "\n" ++ value_lines rest) ∙ ap (λ x. text ++ x) (sym (append_assoc t (codes "\n") (value_lines rest))) ∙ rw front at h)

-- all are written
pub lines_end : (text all : List ℕ) (left : List (Bor Json)) (n : ℕ) → n ≡ length left → n ≡ 0 → text ++ value_lines left ≡ all → text ≡ all
lines_end text all [] n len none h = sym (append-nil text) ∙ h
lines_end text all (v ∷ left) n len none h = absurd (omega (arith, len, none))
