pub mod Asking
pub mod Calls
pub mod Joined
pub mod Kinds
pub mod Steps
pub mod TreeEquality
pub mod ViewEquations
