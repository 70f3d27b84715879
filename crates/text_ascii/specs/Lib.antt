pub mod Bytes
pub mod Decimal
pub mod Hex
pub mod Page
pub mod Wrote
