pub mod Digits
pub mod Demanded
pub mod SharedOut
pub mod Promised
