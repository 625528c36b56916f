pub mod Answers
pub mod Ended
pub mod Faults
pub mod Shown
