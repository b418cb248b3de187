use Rattle.cases.proofs.Docs.{list_elements}
use Rattle.cases.proofs.doc.list.Goals as goal

pub returns-in-List : goal.returns-in-List
returns-in-List c = list_elements c.args.doc.now c.in-List.items c.in-List.is
