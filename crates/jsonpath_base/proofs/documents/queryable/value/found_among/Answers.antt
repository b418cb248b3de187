use Rattle.std.proofs.Common.{◌≡◌, false, cond, Some, string_bytes, bytes_eq, IsTrue, sym, ap, ◌∙◌, subst}
use Rattle.jsonpath_base.specs.Prelude.Documents.{AllByRecursion, find, members_of, members_view, pairs, value_is_whole, value_tree}
use Rattle.jsonpath_base.proofs.documents.queryable.value.found_among.Goals as goal

pub loop-name-preserved : goal.loop-name-preserved
loop-name-preserved c =
    let e = c.in-Some.ensures.steps in
    let k = c.args.key.now in
    let rest = pairs (members_of (members_view c.next.new.self)) in
    let other : bytes_eq k (string_bytes c.in-Some.name.now) ≡ false = ap (bytes_eq k) (sym c.as_str.ensures.value) ∙ sym c.eq.ensures ∙ c.if-eq.false in
    (sym (ap (λ b. cond b (Some (value_tree c.in-Some.member.now)) (find k rest)) other) ∙ ap (λ xs. find k (pairs (members_of (members_view xs)))) (sym e) ∙ c.loop-name.invariant.0, λ h. (subst (AllByRecursion (λ x. IsTrue (value_is_whole x.1))) e (c.loop-name.invariant.1 h)).1)
