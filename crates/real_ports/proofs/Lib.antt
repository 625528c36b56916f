pub mod CallLemmas
pub mod ConsumeLemmas
pub mod JoinLemmas
pub mod TakeLemmas
