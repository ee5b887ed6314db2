pub mod WholeDoubles
pub mod Between
pub mod GivenSum
pub mod Enclosed
pub mod AnyOrder
pub mod Signs
pub mod Promised
