pub mod Entries
pub mod EntriesInside
pub mod Faults
pub mod Found
pub mod Keys
pub mod Lines
pub mod Reading
pub mod Text
