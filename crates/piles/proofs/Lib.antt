pub mod Lawfuls
pub mod Leasts
