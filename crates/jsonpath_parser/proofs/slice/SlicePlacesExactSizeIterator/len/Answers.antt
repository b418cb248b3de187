use Rattle.std.proofs.Common.{◌∙◌, sym, ap, suc}
use Rattle.jsonpath_parser.specs.Prelude.{picked_of}
use Rattle.jsonpath_parser.proofs.SliceLemmas.{count_rising, count_falling}
use Rattle.jsonpath_parser.proofs.slice.SlicePlacesExactSizeIterator.len.Goals as goal

pub returns-then-self-clause-value : goal.returns-then-self-clause-value
returns-then-self-clause-value c =
    c.places_within.ensures ∙ ap (λ n. picked_of n (suc c.args.self.now.between)) c.saturating_sub.ensures ∙ sym (count_falling c.args.self.now c.if-self.true)

pub returns-else-self-clause-value : goal.returns-else-self-clause-value
returns-else-self-clause-value c =
    c.places_within-else-self.ensures ∙ ap (λ n. picked_of n (suc c.args.self.now.between)) c.saturating_sub-else-self.ensures
    ∙ sym (count_rising c.args.self.now c.if-self.false)
