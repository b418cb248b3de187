use Rattle.std.proofs.Common.{refl, of_calls}
use Rattle.jsonpath_parser.proofs.PartKinds.{selector_law}
use Rattle.jsonpath_parser.proofs.PartLaws.{kind_stays, kind_read}
use Rattle.jsonpath_parser.specs.Prelude.{selector_view}
use Rattle.jsonpath_parser.proofs.cursor.queries.selector.Goals as goal

pub part-requires : goal.part-requires
part-requires c κs = ((refl, tt), ((λ a n s. tt), ((λ x l. tt), ((λ t. tt), kind_stays {whole = selector_view} {view = selector_view} selector_law c.args.cursor.now (search of_calls)))))

pub returns : goal.returns
returns c = kind_read {whole = selector_view} {view = selector_view} selector_law c.args.cursor.now c.part.new.cursor (search of_calls) c.part.result c.part.ensures
