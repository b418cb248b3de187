pub mod selection
pub mod states
