use Rattle.jpath.proofs.DocumentViews.{array_items_whole}
use Rattle.jpath.proofs.DocumentQueries.{elements_of}
use Rattle.jpath.proofs.document.queryable.JsonQueryable.as_array.Goals as goal

pub returns-in-Array-clause-value : goal.returns-in-Array-clause-value
returns-in-Array-clause-value c = λ h. elements_of c.args.self.now c.in-Array.items c.in-Array.is

pub returns-in-Array-clause-whole : goal.returns-in-Array-clause-whole
returns-in-Array-clause-whole c = λ h. array_items_whole c.args.self.now c.in-Array.items c.in-Array.is h
