pub mod Answers
pub mod Historical
pub mod Outside
pub mod Run
