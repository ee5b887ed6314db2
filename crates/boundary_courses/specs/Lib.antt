pub mod Course
pub mod SharedCourse
pub mod PooledCalls
