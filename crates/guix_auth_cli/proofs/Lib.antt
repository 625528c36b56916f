pub mod RunLemmas
pub mod StartingLemmas
