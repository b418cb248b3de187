use Rattle.std.proofs.Common.{◌≡◌, ◌++◌, length, All, IsTrue, string_bytes}
use Rattle.std.specs.Vec.Iter.{into_iter_items, into_iter_len}
use Rattle.jpath.specs.Document.{json_is_whole}
use Rattle.jpath.proofs.Lines.{value_lines}
use Rattle.jpath.proofs.output.values_text.Given as goal

-- the lines so far, with those of the values that are left
abbrev pub invariant-loop-value : goal.invariant-loop-value
invariant-loop-value l =
    let rest = into_iter_items l.value-iterator in
    record {
      len : into_iter_len l.value-iterator ≡ length rest;
      whole : All (λ v. IsTrue (json_is_whole v.now)) rest;
      text : string_bytes l.text ++ value_lines rest ≡ value_lines (into_iter_items l.initial.value-iterator);
    }
