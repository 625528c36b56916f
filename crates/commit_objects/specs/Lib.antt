pub mod Commit
pub mod Faults
pub mod Form
pub mod Headers
pub mod Heading
pub mod Lines
pub mod Reading
pub mod Writing
