pub mod Syntax
pub mod Steps
pub mod View
pub mod Typing
pub mod Reach
pub mod Making
pub mod Shown
pub mod QueryTexts
