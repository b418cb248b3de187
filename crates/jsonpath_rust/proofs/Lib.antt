pub mod laws
pub mod Deleting
pub mod ByText
pub mod Listed
pub mod NormalPaths
pub mod NormalChanges
pub mod Stops
