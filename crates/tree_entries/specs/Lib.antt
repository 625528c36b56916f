pub mod Asked
pub mod Faults
pub mod Front
pub mod Reading
pub mod Tree
