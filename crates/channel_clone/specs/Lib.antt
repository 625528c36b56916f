pub mod Files
pub mod Relations
pub mod Resolving
