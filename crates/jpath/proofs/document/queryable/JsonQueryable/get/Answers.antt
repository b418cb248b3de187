use Rattle.std.proofs.Common.{IsTrue}
use Rattle.std.proofs.lemmas.List.Elements.{recursion_from_All}
use Rattle.jpath.specs.Document.{json_is_whole}
use Rattle.jpath.proofs.DocumentViews.{get-json_tree, get_whole, object_entries_whole}
use Rattle.jpath.proofs.DocumentQueries.{looked_up}
use Rattle.jpath.proofs.document.queryable.JsonQueryable.get.Goals as goal

pub returns-then-len-le-FEW_MEMBERS-clause-whole : goal.returns-then-len-le-FEW_MEMBERS-clause-whole
returns-then-len-le-FEW_MEMBERS-clause-whole c = λ h.
    let m = c.in-Object.members in
    c.found_among.ensures.whole (recursion_from_All (λ e. IsTrue (json_is_whole e.1)) m.entries (object_entries_whole c.args.self.now m c.in-Object.is h))

pub returns-clause-value : goal.returns-clause-value
returns-clause-value c = λ h.
    get-json_tree c.args.key.now c.args.self.now c.get.result (looked_up c.args.key.now c.args.self.now c.in-Object.members c.get.result c.in-Object.is c.get.ensures.value)

pub returns-clause-whole : goal.returns-clause-whole
returns-clause-whole c = λ h.
    get_whole c.args.key.now c.args.self.now c.get.result (looked_up c.args.key.now c.args.self.now c.in-Object.members c.get.result c.in-Object.is c.get.ensures.value) h
