-- What an operand of `&&` answers by itself.
use Rattle.std.proofs.Common.{◌≡◌, refl, IsTrue}
use Rattle.std.proofs.lemmas.Bool.{false≢true}
use Rattle.jsonpath_parser.specs.Parts.{is_comparison}
use Rattle.jsonpath_base.specs.Prelude.Documents.{Document, Filter, test, truth}
use Rattle.jsonpath_rust.specs.Prelude.States.{basic_content, Content, holds_at, is_truth, value}

-- it is true where the filter holds
pub basic-truth : (f : Filter) (d : Document) (c : Content) → is_truth (basic_content f d c) ≡ holds_at f d c
basic-truth (test t q) d c = refl
basic-truth f d c = refl

-- of a comparison it is the truth
pub basic-comparison : (f : Filter) (d : Document) (c : Content) → IsTrue (is_comparison f) → basic_content f d c ≡ value (truth (holds_at f d c))
basic-comparison (test t q) d c h = absurd (false≢true h)
basic-comparison f d c h = refl
