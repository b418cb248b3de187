use Rattle.std.proofs.Common.{◌++◌, ap, ◌∙◌}
use Rattle.jsonpath_base.specs.Prelude.{out-LocationTrie}
use Rattle.jsonpath_base.proofs.InOrder.{joined_rolled, fewer_rolled, out_here, out_names, out_indexes}
use Rattle.jsonpath_base.proofs.ordering.join.Goals as goal

pub returns-clause-joined : goal.returns-clause-joined
returns-clause-joined c =
    joined_rolled c.args.marks.now c.args.others _ _ c.append-2.new.below (out_here _ _ _ ∙ out_here _ _ _)
    (ap (λ v. v.items) (out_names _ _ _) ∙ c.in_ok-append.ensures ∙ ap (λ v. v.items ++ (out-LocationTrie c.args.others).names.items) (out_names _ _ _))
    (c.in_ok-append-2.ensures ∙ ap (λ v. v.items ++ (out-LocationTrie c.args.others).indexes.items) (out_indexes _ _ _ ∙ out_indexes _ _ _))

pub returns-clause-fewer : goal.returns-clause-fewer
returns-clause-fewer c =
    fewer_rolled c.args.marks.now c.args.others _ _ c.append-2.new.below
    (ap (λ v. v.items) (out_names _ _ _) ∙ c.in_ok-append.ensures ∙ ap (λ v. v.items ++ (out-LocationTrie c.args.others).names.items) (out_names _ _ _))
    (c.in_ok-append-2.ensures ∙ ap (λ v. v.items ++ (out-LocationTrie c.args.others).indexes.items) (out_indexes _ _ _ ∙ out_indexes _ _ _))
