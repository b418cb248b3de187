-- The definitions for this crate's own contracts and proofs. No public contract cites them.
pub mod PatternParts
pub mod Groups
pub mod LocationTries
pub mod Thinning
pub mod Masking
pub mod Lent
pub mod CurrentPath
pub mod Adding
pub mod Pointing
