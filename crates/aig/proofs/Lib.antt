pub mod Running
pub mod SessionEndings
