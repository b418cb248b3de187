-- What the parser's own contracts and proofs say. The laws of proofs/ join it to the grammar, so a user need not believe it.
pub mod ReadingLists
pub mod ReadingGrammar
pub mod ReadingQuery
pub mod ReadingParts
pub mod Faults
pub mod Picked
