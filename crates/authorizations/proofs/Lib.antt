pub mod EntryLemmas
pub mod FileLemmas
pub mod FormLemmas
pub mod MeetLemmas
pub mod ReadingLemmas
