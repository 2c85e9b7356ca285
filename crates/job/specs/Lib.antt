pub mod Words
pub mod Kinds
pub mod Number
pub mod Grammar
pub mod Order
pub mod Content
pub mod Reading
pub mod Lists
