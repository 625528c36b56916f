pub mod ListTexts
pub mod MemberLines
pub mod SetTexts
pub mod Warnings
