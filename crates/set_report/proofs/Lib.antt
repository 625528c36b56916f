pub mod GrowthLemmas
