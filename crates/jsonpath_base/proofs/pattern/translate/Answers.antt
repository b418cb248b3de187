use Rattle.std.proofs.Common.{◌++◌, length, sym, ap, append-nil, append_assoc, ◌∙◌, arith, string_bytes}
use Rattle.std.proofs.lemmas.Iterator.{YieldsList-from_chars}
use Rattle.std.proofs.lemmas.List.{at_drop_all, length_push}
use Rattle.std.proofs.lemmas.Iterator.Consumers.{YieldsList-turn, YieldsList-end}
use Rattle.std.proofs.lemmas.Str.{chars_from_encodes, IsUtf8-string_bytes}
use Rattle.jsonpath_base.specs.Prelude.{chars}
use Rattle.jsonpath_base.proofs.PatternText.{left, left-drop, left-nil, left-start}
use Rattle.jsonpath_base.proofs.pattern.translate.Goals as goal

pub returns-clause-value : goal.returns-clause-value
returns-clause-value c =
    let t = YieldsList-end (YieldsList-from_chars c.args.pattern.now c.utf8.pattern cc) c.loop-c.yielded _ c.loop-c.yielded_by _ _ c.in-None.is c.next.ensures.steps in
    let e = at_drop_all (left c.loop-c.inside c.loop-c.escaped) (chars c.args.pattern.now) (length c.loop-c.yielded) (omega (arith, t.1)) in
    sym (append-nil _) ∙ ap (λ x. string_bytes c.loop-c.text ++ x) (sym (e ∙ left-nil c.loop-c.inside c.loop-c.escaped))
    ∙ c.loop-c.invariant ∙ left-start (chars c.args.pattern.now)

pub loop-c-preserved : goal.loop-c-preserved
loop-c-preserved c =
    let t = YieldsList-turn (YieldsList-from_chars c.args.pattern.now c.utf8.pattern cc) c.loop-c.yielded _ c.loop-c.yielded_by _ _ c.in-Some.c c.in-Some.is c.next.ensures.steps in
    let h = left-drop (chars c.args.pattern.now) (length c.loop-c.yielded) c.in-Some.c c.loop-c.inside c.loop-c.escaped t in
    rw (length_push c.loop-c.yielded c.in-Some.c, c.in_ok-push_written.ensures.value, c.is_inside_after-inside.ensures, c.is_escaped_after-escaped.ensures)
    (append_assoc (string_bytes c.loop-c.text) _ _ ∙ ap (λ x. string_bytes c.loop-c.text ++ x) (sym h) ∙ c.loop-c.invariant)

pub returns-clause-spelled : goal.returns-clause-spelled
returns-clause-spelled c = sym (chars_from_encodes _ _ (IsUtf8-string_bytes c.loop-c.text) (sym (returns-clause-value c)))
