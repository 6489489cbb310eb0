pub mod Filling
pub mod GateLists
pub mod Swept
