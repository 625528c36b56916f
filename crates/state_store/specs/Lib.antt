pub mod KeptTable
pub mod Place
pub mod Refusing
pub mod Statements
