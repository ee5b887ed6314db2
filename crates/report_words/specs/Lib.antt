pub mod Categories
pub mod Report
pub mod Promise
pub mod Years
