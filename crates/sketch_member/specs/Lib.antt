pub mod Table
pub mod Form
pub mod Faults
pub mod Laws
