pub mod AskedLemmas
pub mod CutLemmas
pub mod FrontLemmas
pub mod OctalLemmas
pub mod WalkLemmas
