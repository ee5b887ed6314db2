pub mod PoolBytes
pub mod PoolChecks
pub mod PoolAnswers
pub mod LateSteps
pub mod PoolWritten
pub mod RefusedOnly
pub mod PooledReport
pub mod PooledCalls
