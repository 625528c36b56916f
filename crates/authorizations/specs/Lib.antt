pub mod Authorizations
pub mod Faults
pub mod Reading
pub mod ReadingInside
