pub mod App
pub mod Arguments
pub mod Form
pub mod GivenInside
pub mod Grammars
pub mod Limits
pub mod Words
