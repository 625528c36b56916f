pub mod CacheLemmas
mod FaultLemmas
mod KeyLemmas
mod LineLemmas
mod WritingLemmas
mod ReadingLemmas
mod RunLemmas
mod StepLemmas
mod WholeLemmas
mod WordLemmas
pub mod EntryLemmas
