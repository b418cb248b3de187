use Rattle.jsonpath_rust.proofs.states.process.FilterQuery.process.Goals as goal

pub returns-clause-content : goal.returns-clause-content
returns-clause-content g c = rw (c.begun-given.ensures.document, c.begun-given.ensures.content) at (c.state_of.ensures.content _ c.each_target.ensures.value)
