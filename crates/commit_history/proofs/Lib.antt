pub mod MapLemmas
pub mod LeastLemmas
pub mod CountLemmas
pub mod WalkLemmas
pub mod CarryLemmas
pub mod AnswerLemmas
pub mod Rows
