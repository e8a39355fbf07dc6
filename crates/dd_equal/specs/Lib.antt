pub mod EqualCards
pub mod SuitClasses
