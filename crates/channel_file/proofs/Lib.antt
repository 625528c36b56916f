pub mod ChannelLemmas
pub mod DependencyLemmas
pub mod Examples
pub mod FitLemmas
pub mod ListLemmas
pub mod MetadataLemmas
pub mod ReadingLemmas
