pub mod NotNan
