use Rattle.std.proofs.Common.{if◌then◌else◌, Some, None, length, add-one, refl, ap, ◌∙◌, arith, rules}
use Rattle.std.proofs.lemmas.Option.{slice_get_read}
use Rattle.jsonpath_rust.specs.base.Values.{value_tree}
use Rattle.examples.proofs.Patching.{patched_next}
use Rattle.examples.proofs.patch.apply_each.Goals as goal

pub returns-then-not-branch-clause-stuck : goal.returns-then-not-branch-clause-stuck
returns-then-not-branch-clause-stuck c =
    let operations = c.args.operations.now in
    let operation = c.index-operations-index.result in
    let u = value_tree c.apply.new.document in
    record {
      between = value_tree c.loop-index.document;
      before = c.loop-index.invariant.0;
      operation = operation;
      there = slice_get_read operations (length operations) c.loop-index.index operation refl (omega arith) c.index-operations-index.is;
      fails = c.in_ok-apply.ensures.value ∙ ap (λ b. if b then Some u else None) c.if-not-branch.true;
    }

pub loop-index-preserved : goal.loop-index-preserved
loop-index-preserved c =
    let operations = c.args.operations.now in
    let operation = c.index-operations-index.result in
    let m = value_tree c.loop-index.document in
    let u = value_tree c.apply.new.document in
    let applies = c.in_ok-apply.ensures.value ∙ ap (λ b. if b then Some u else None) c.if-not-branch.false in
    (rw add-one (patched_next operations (value_tree c.args.document.now) m u c.loop-index.index operation (omega arith) c.index-operations-index.is c.loop-index.invariant.0 applies), search rules)
