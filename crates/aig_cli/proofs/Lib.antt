pub mod Tables
pub mod Programs
