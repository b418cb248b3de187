pub mod documents
