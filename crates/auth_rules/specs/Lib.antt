pub mod World
pub mod Rules
pub mod Answers
pub mod Consulting
