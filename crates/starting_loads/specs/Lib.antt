pub mod Balance
pub mod Net
pub mod Loss
