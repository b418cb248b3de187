-- Where a run of bytes that stand for themselves ends.
use Rattle.std.proofs.Common.{◌≡◌, ℕ, ◌<◌, true, false, List, arith}
use Rattle.std.proofs.lemmas.Bool.Decides.{nat_tests}
use Rattle.jsonpath_parser.specs.Prelude.{is_plain, is_quote, IsCharBoundary, prefix_len}
use Rattle.jsonpath_parser.proofs.laws.words.Runs.{wide_boundary}

-- what does not stand for itself is ASCII
stop_ascii : (q c : ℕ) → is_quote q ≡ true → is_plain q c ≡ false → c < 128
stop_ascii q c h e = grind (arith, nat_tests)

-- the run ends where a character does
pub plain_boundary : (q : ℕ) (bs : List ℕ) → is_quote q ≡ true → IsCharBoundary bs (prefix_len (is_plain q) bs)
plain_boundary q bs h = wide_boundary (is_plain q) bs (λ c e. stop_ascii q c h e)
