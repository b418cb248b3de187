use Rattle.std.proofs.Common.{refl, of_calls}
use Rattle.jsonpath_parser.proofs.PartKinds.{segment_law}
use Rattle.jsonpath_parser.proofs.PartLaws.{kind_stays, kind_read}
use Rattle.jsonpath_parser.specs.Prelude.{segment_view}
use Rattle.jsonpath_parser.proofs.cursor.queries.segment.Goals as goal

pub part-requires : goal.part-requires
part-requires c κs = ((refl, tt), ((λ a n s. tt), ((λ x l. tt), ((λ t. tt), kind_stays {whole = segment_view} {view = segment_view} segment_law c.args.cursor.now (search of_calls)))))

pub returns : goal.returns
returns c = kind_read {whole = segment_view} {view = segment_view} segment_law c.args.cursor.now c.part.new.cursor (search of_calls) c.part.result c.part.ensures
