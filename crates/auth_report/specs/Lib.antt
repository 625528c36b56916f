pub mod FileTexts
pub mod Parts
pub mod Statistics
pub mod Texts
