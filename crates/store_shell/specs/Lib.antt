pub mod Operation
