use Rattle.std.proofs.Common.{◌≡◌, Some, true≢false, sym}
use Rattle.std.proofs.lemmas.List.Elements.{All-pop}
use Rattle.jsonpath_base.specs.Prelude.{view}
use Rattle.jsonpath_base.proofs.masking.put_copy.Goals as goal

pub returns-in-Some-clause-put : goal.returns-in-Some-clause-put
returns-in-Some-clause-put c = λ u all. (All-pop (λ v. view v ≡ u) _ _ (Some c.in-Some.copy) c.in-Some.ensures.items all).1

pub returns-in-Some-clause-alike : goal.returns-in-Some-clause-alike
returns-in-Some-clause-alike c = λ u all. (All-pop (λ v. view v ≡ u) _ _ (Some c.in-Some.copy) c.in-Some.ensures.items all).0

pub returns-in_default-clause-put : goal.returns-in_default-clause-put
returns-in_default-clause-put c = absurd (true≢false (sym (c.in_default.ensures.variant.1 c.requires)))

pub returns-in_default-clause-alike : goal.returns-in_default-clause-alike
returns-in_default-clause-alike c = absurd (true≢false (sym (c.in_default.ensures.variant.1 c.requires)))

pub returns-in_default-clause-fewer : goal.returns-in_default-clause-fewer
returns-in_default-clause-fewer c = absurd (true≢false (sym (c.in_default.ensures.variant.1 c.requires)))
