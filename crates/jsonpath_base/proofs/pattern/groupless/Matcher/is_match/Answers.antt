use Rattle.std.proofs.Common.{ap, ◌∙◌, arith, is_some}
use Rattle.regex_hir.specs.Find.{find}
use Rattle.regex_meta.specs.Programs.{pattern_of}
use Rattle.regex_meta.proofs.LeftmostLemmas.{are_bytes}
use Rattle.regex_meta.proofs.ProgramLemmas.{no_shorter_lem}
use Rattle.regex.proofs.Utf8Lemmas.{find_str_of_filled}
use Rattle.jsonpath_base.proofs.pattern.groupless.Matcher.is_match.Goals as goal

pub returns-then-self-gt0-clause-found : goal.returns-then-self-gt0-clause-found
returns-then-self-gt0-clause-found c =
    let p = c.args.self.now.searcher.program.now in
    let text = c.args.text.now in
    let positive = c.if-self-gt0.true in
    c.is_match.ensures.found ∙ ap (λ h. is_some (find (pattern_of p) h 0)) c.as_bytes.ensures.value
    ∙ ap is_some (find_str_of_filled _ text (are_bytes text c.type_inv.text) c.args.self.now.whole_characters
    (λ i t e. let long = no_shorter_lem p text i t e in omega arith) 0)
