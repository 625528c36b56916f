pub mod TextLemmas
pub mod RowLemmas
pub mod MapLemmas
pub mod UpsertLemmas
pub mod SelectLemmas
pub mod StepLemmas
pub mod PlaceLemmas
