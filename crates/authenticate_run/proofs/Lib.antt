pub mod PlanRunLemmas
pub mod StoreLemmas
pub mod TaskLemmas
pub mod TaskRunLemmas
