pub mod Condition
pub mod Only
pub mod Prepared
pub mod LimitError
pub mod inner
