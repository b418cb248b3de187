use Rattle.std.proofs.Common.{◌&&◌, true, false, reverse, sym, ap, ◌∙◌}
use Rattle.std.specs.List.{list_all}
use Rattle.jsonpath_base.specs.Same.{has_name}
use Rattle.cases.specs.DocTree.{pairs_of}
use Rattle.cases.proofs.Docs.{Entry}
use Rattle.cases.proofs.Comparing.{names_at, name_here}
use Rattle.cases.proofs.doc.sameness.has_names.Goals as goal

pub returns-then-not-contains_key : goal.returns-then-not-contains_key
returns-then-not-contains_key c =
    let e : Entry = (c.in-Some.name.now, c.in-Some.field-0-1.now) in
    let mine = reverse (pairs_of c.args.left.now.entries) in
    sym (c.loop-name.invariant ∙ names_at c.loop-name.name-iterator.iter c.next.new.self.iter e (λ n. has_name mine n.0) c.in-Some.ensures.steps
    ∙ ap (λ b. b && list_all (λ n. has_name mine n.0) (reverse (pairs_of c.next.new.self.iter))) (name_here c.args.left.now.entries _ _ false c.as_str.ensures.value c.if-not-contains_key.ensures))

pub loop-name-preserved : goal.loop-name-preserved
loop-name-preserved c =
    let e : Entry = (c.in-Some.name.now, c.in-Some.field-0-1.now) in
    let mine = reverse (pairs_of c.args.left.now.entries) in
    c.loop-name.invariant ∙ names_at c.loop-name.name-iterator.iter c.next.new.self.iter e (λ n. has_name mine n.0) c.in-Some.ensures.steps
    ∙ ap (λ b. b && list_all (λ n. has_name mine n.0) (reverse (pairs_of c.next.new.self.iter))) (name_here c.args.left.now.entries _ _ true c.as_str.ensures.value c.if-not-contains_key.ensures)
