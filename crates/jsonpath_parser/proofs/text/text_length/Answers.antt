use Rattle.std.proofs.Common.{rules, ap, ◌∙◌, sym, length}
use Rattle.std.proofs.lemmas.Str.{chars_from_encodes, chars-IsAscii}
use Rattle.std.specs.Str.{chars}
use Rattle.jsonpath_parser.proofs.text.text_length.Goals as goal

pub returns-then-is_ascii : goal.returns-then-is_ascii
returns-then-is_ascii c = search (rules, chars-IsAscii)

pub returns : goal.returns
returns c = search (rules, chars_from_encodes)
