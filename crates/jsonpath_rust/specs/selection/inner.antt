-- The definitions for the crate's own contracts and proofs. Nothing here is part of what a query means.
pub mod AtHand
pub mod Costs
pub mod Halting
pub mod Keeping
pub mod Only
pub mod Passing
pub mod PlanMaking
pub mod PlanViews
pub mod Planned
pub mod Rooted
pub mod Sinks
pub mod Standing
pub mod Walking
pub mod Wanting
