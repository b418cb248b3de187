use Rattle.std.proofs.Common.{◌≡◌, ◌+◌, ◌≤◌, drop}
use Rattle.jsonpath_parser.specs.Prelude.{digits_value_after, is_ascii_digit, IsRun, IsTrimmed, number_of}
use Rattle.jsonpath_parser.proofs.words.number.with_digits.Given as goal

abbrev pub invariant-loop-byte : goal.invariant-loop-byte
invariant-loop-byte l = record {
  trimmed : IsTrimmed l.mantissa;
  zeros : l.mantissa.zeros ≤ l.fn.start.zeros + l.byte-index;
  run : IsRun is_ascii_digit (drop l.byte-index l.bytes);
  value : digits_value_after 10 (number_of l.mantissa) (drop l.byte-index l.bytes) ≡ digits_value_after 10 (number_of l.fn.start) l.bytes;
}
