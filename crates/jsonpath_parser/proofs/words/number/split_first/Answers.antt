use Rattle.std.proofs.lemmas.Str.{IsCharBoundary-after_ascii}
use Rattle.jsonpath_parser.proofs.laws.words.Runs.{within_from_byte}
use Rattle.jsonpath_parser.proofs.words.number.split_first.Goals as goal

pub split_at-requires : goal.split_at-requires
split_at-requires c = let s = c.args.s.now in IsCharBoundary-after_ascii s 0 c.utf8.s (within_from_byte s 0 c.requires.there) c.requires.ascii
