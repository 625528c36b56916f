pub mod FinishLemmas
pub mod ShownLemmas
