use Rattle.std.proofs.Common.{sym, ap, ◌∙◌}
use Rattle.regex_hir.specs.Meaning.{meaning, cat_all, alt_all, repeat}
use Rattle.regex_hir.proofs.MeaningLemmas.{meaning-Repetition, meaning-Concat, meaning-Alternation}
use Rattle.jsonpath_base.specs.inner.Groups.{without_groups}
use Rattle.jsonpath_base.proofs.GroupLemmas.{without-repeat, without-cat_all, without-alt_all}
use Rattle.jsonpath_base.proofs.pattern.groupless.+copy.Goals as goal

pub copy_without_groups-returns-in_ok-new-in-Repetition :
    goal.copy_without_groups-returns-in_ok-new-in-Repetition
copy_without_groups-returns-in_ok-new-in-Repetition t c =
    let r = c.in-Repetition in
    let copied = ap meaning c.in_ok-new-in-Repetition.ensures.ok ∙ c.in_ok-copy_without_groups-in-Repetition.ensures
    ∙ ap (λ h. without_groups (meaning h)) c.deref-in-Repetition.ensures in
    meaning-Repetition _ _ _ _ ∙ ap (repeat r.min r.max r.greedy) copied ∙ sym (without-repeat _ _ _ _)
    ∙ sym (ap without_groups (ap meaning r.is ∙ meaning-Repetition _ _ _ _))

pub copy_without_groups-returns-in_ok-copies_without_groups-in-Concat :
    goal.copy_without_groups-returns-in_ok-copies_without_groups-in-Concat
copy_without_groups-returns-in_ok-copies_without_groups-in-Concat t c =
    meaning-Concat _ ∙ ap cat_all (rw (← c.deref-in-Concat.ensures.value) c.in_ok-copies_without_groups-in-Concat.ensures)
    ∙ sym (without-cat_all _) ∙ sym (ap without_groups (ap meaning c.in-Concat.is ∙ meaning-Concat _))

pub copy_without_groups-returns-in_ok-copies_without_groups-in-Alternation :
    goal.copy_without_groups-returns-in_ok-copies_without_groups-in-Alternation
copy_without_groups-returns-in_ok-copies_without_groups-in-Alternation t c =
    meaning-Alternation _ ∙ ap alt_all (rw (← c.deref-in-Alternation.ensures.value) c.in_ok-copies_without_groups-in-Alternation.ensures)
    ∙ sym (without-alt_all _) ∙ sym (ap without_groups (ap meaning c.in-Alternation.is ∙ meaning-Alternation _))
