pub mod Answers
pub mod Help
pub mod Starting
