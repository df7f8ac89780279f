pub mod Decimal
pub mod Put
mod Marked
mod Printed
