pub mod ListLemmas
pub mod PutLemmas
pub mod SetRunLemmas
pub mod SoundLemmas
