pub mod Fleet
pub mod GridOrLists
pub mod Letters
pub mod OneMore
pub mod Reading
pub mod RowTests
