pub mod ClassTable
