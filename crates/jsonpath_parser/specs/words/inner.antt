-- What the reading functions' own contracts and proofs say. The laws of proofs/ join it to the grammar, so a user need not believe it.
pub mod Places
pub mod Reading
pub mod ReadingNumbers
pub mod ReadingStrings
