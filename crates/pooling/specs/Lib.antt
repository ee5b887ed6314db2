pub mod Pool
pub mod PoolCall
pub mod PooledReport
pub mod PooledCalls
pub mod Late
