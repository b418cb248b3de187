use Rattle.jsonpath_parser.proofs.PartLaws.{stays_behind, refused_answer}
use Rattle.jsonpath_parser.proofs.cursor.part.part.Goals as goal

pub invariant_of-cursor : goal.invariant_of-cursor
invariant_of-cursor g c = record { behind = stays_behind c.args.cursor.now c.requires.stays c.read.result c.read.ensures c.in-Ok.tree c.in-Ok.rest c.in-Ok.ensures }

pub returns-in-Err : goal.returns-in-Err
returns-in-Err g c = refused_answer c.args.cursor.now c.read.result c.read-in-Err.result c.in-Err.stop c.taken-again.result c.refusal.result c.read.ensures c.read-in-Err.ensures c.in-Err.ensures c.taken-again.ensures c.refusal.ensures
