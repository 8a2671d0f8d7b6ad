pub mod Model
pub mod Laws
pub mod Rules
pub mod Worked
pub mod Lawfuls
