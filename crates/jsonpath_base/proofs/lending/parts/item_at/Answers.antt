use Rattle.std.proofs.Common.{refl, ap, ◌∙◌, slice_index_or}
use Rattle.jsonpath_base.specs.Prelude.{with_item}
use Rattle.jsonpath_base.proofs.lending.parts.item_at.Goals as goal

pub returns : goal.returns
returns c = ((refl, λ w. ap (λ i. with_item c.args.items.now i w) c.next_index.ensures), record { writes_back = tt; value = c.item_mut.ensures.value ∙ ap (λ i. slice_index_or c.args.items.now.items i c.item_mut.result.now) c.next_index.ensures })
