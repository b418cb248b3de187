use Rattle.std.proofs.Common.{◌≡◌, false, cond, Some, bytes_eq, IsTrue, sym, ap, ◌∙◌, subst}
use Rattle.jsonpath_base.specs.Prelude.Documents.{AllByRecursion, find, members_of, pairs}
use Rattle.jpath.specs.Document.{json_is_whole, json_tree, members_data}
use Rattle.jpath.proofs.document.queryable.found_among.Goals as goal

pub loop-name-preserved : goal.loop-name-preserved
loop-name-preserved c =
    let e = c.in-Some.ensures.steps in
    let k = c.args.key.now in
    let rest = pairs (members_of (members_data c.next.new.self)) in
    let other : bytes_eq k c.in-Some.name.now.now ≡ false = sym c.eq.ensures ∙ c.if-eq.false in
    (sym (ap (λ b. cond b (Some (json_tree c.in-Some.member.now)) (find k rest)) other) ∙ ap (λ xs. find k (pairs (members_of (members_data xs)))) (sym e) ∙ c.loop-name.invariant.0, λ h. (subst (AllByRecursion (λ x. IsTrue (json_is_whole x.1))) e (c.loop-name.invariant.1 h)).1)
