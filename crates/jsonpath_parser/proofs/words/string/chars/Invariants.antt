use Rattle.std.proofs.Common.{◌≤◌, length, string_bytes}
use denote.Text.{Utf8}
use denote.Shadow.{shadow}
use Rattle.jsonpath_parser.proofs.laws.words.StringTurns.{HasRead}
use Rattle.jsonpath_parser.proofs.words.string.chars.Given as goal

abbrev pub invariant-chars : goal.invariant-chars
invariant-chars l = shadow (Utf8 l.rest) × (length l.rest ≤ length l.fn.s) × HasRead l.fn.quote l.fn.s (string_bytes l.value) l.rest

abbrev pub decreases-chars : goal.decreases-chars
decreases-chars l = length l.rest
