-- The levels of marks in order are in order.
use Rattle.std.proofs.Common.{◌≡◌, true, string_cmp, nat_cmp, sym, ◌∙◌}
use Rattle.std.proofs.lemmas.Bool.{and_parts}
use Rattle.jsonpath_base.specs.Prelude.{in_order, level_in_order, LocationTrie, out-LocationTrie}
use Rattle.jsonpath_base.proofs.InOrder.{order_out}

pub names_in_order : (m : LocationTrie) → in_order m ≡ true → level_in_order string_cmp (out-LocationTrie m).names.items ≡ true
names_in_order m h = (and_parts (level_in_order string_cmp (out-LocationTrie m).names.items) (level_in_order nat_cmp (out-LocationTrie m).indexes.items) (sym (order_out m) ∙ h)).0

pub indexes_in_order : (m : LocationTrie) → in_order m ≡ true → level_in_order nat_cmp (out-LocationTrie m).indexes.items ≡ true
indexes_in_order m h = (and_parts (level_in_order string_cmp (out-LocationTrie m).names.items) (level_in_order nat_cmp (out-LocationTrie m).indexes.items) (sym (order_out m) ∙ h)).1
