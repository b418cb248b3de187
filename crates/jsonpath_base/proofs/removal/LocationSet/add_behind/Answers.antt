use Rattle.std.proofs.Common.{Bool, ◌||◌, ap, ◌∙◌}
use Rattle.jsonpath_base.specs.Prelude.{HasAlso, is_location, IsSameSet, lent_location, listed, Location}
use Rattle.jsonpath_base.proofs.Counting.{also_counted}
use Rattle.jsonpath_base.proofs.removal.LocationSet.add_behind.Goals as goal

also_before : (old joined new : Location → Bool) (at : Location) → IsSameSet old joined → HasAlso joined at new → HasAlso old at new
also_before old joined new at same h = record { each = λ l. h.each l ∙ ap (λ b. is_location at l || b) (same.each l) }

pub returns-clause-added : goal.returns-clause-added
returns-clause-added c = λ tied. also_before _ _ _ (lent_location c.args.steps.now) c.in_ok-known.ensures.same (c.in_ok-rises.ensures (c.in_ok-known.ensures.known (lent_location c.args.steps.now) tied)).also

pub returns-clause-count : goal.returns-clause-count
returns-clause-count c = λ tied.
    also_counted (listed c.args.self.now.marks) _ (lent_location c.args.steps.now) (also_before _ _ _ (lent_location c.args.steps.now) c.in_ok-known.ensures.same (c.in_ok-rises.ensures (c.in_ok-known.ensures.known (lent_location c.args.steps.now) tied)).also)

pub returns-clause-last : goal.returns-clause-last
returns-clause-last c = λ tied. (c.in_ok-rises.ensures (c.in_ok-known.ensures.known (lent_location c.args.steps.now) tied)).ends
