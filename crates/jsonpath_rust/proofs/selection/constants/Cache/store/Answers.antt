use Rattle.std.proofs.Common.{refl}
use Rattle.jsonpath_rust.specs.Prelude.Selection.{slots_of}
use Rattle.jsonpath_rust.proofs.laws.selection.{keeps_set, slot_set}
use Rattle.jsonpath_rust.proofs.selection.constants.Cache.store.Goals as goal

pub returns-clause-value : goal.returns-clause-value
returns-clause-value g c = slot_set (slots_of c.args.self.now) c.args.number c.args.given c.requires

pub returns-clause-right : goal.returns-clause-right
returns-clause-right g c constants doc given was = keeps_set constants doc c.args.self.now _ c.args.number c.args.given refl given was
