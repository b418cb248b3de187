pub mod Words
pub mod Fault
pub mod Json
pub mod Output
pub mod Document
pub mod Printed
