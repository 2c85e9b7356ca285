pub mod Rounding
pub mod Text
pub mod Value
pub mod Numeral
pub mod Put
