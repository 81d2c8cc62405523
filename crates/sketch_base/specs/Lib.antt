pub mod Bytes
pub mod Checks
pub mod Codec
pub mod ErrorValue
pub mod Items
pub mod Refusals
