pub mod FirstLemmas
pub mod FamilyLemmas
pub mod CauseLemmas
pub mod IntroLemmas
pub mod Tiny
pub mod Rows
