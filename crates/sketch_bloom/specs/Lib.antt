pub mod Filter
pub mod Columns
pub mod FoldRate
pub mod Header
pub mod Size
pub mod ExactRate
pub mod Laws
pub mod KnownAnswers
