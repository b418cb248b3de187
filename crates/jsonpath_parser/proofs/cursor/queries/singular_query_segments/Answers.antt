use Rattle.std.proofs.Common.{refl, of_calls}
use Rattle.jsonpath_parser.proofs.PartKinds.{steps_law}
use Rattle.jsonpath_parser.proofs.PartLaws.{kind_stays, kind_read}
use Rattle.jsonpath_parser.specs.Prelude.{segments_view, steps_view}
use Rattle.jsonpath_parser.proofs.cursor.queries.singular_query_segments.Goals as goal

pub part-requires : goal.part-requires
part-requires c κs = ((refl, tt), ((λ a n s. tt), ((λ x l. tt), ((λ t. tt), kind_stays {whole = segments_view} {view = steps_view} steps_law c.args.cursor.now (search of_calls)))))

pub returns : goal.returns
returns c = kind_read {whole = segments_view} {view = steps_view} steps_law c.args.cursor.now c.part.new.cursor (search of_calls) c.part.result c.part.ensures
