pub mod Order
pub mod Lists
pub mod Stores
pub mod Made
