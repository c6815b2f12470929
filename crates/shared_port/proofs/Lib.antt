pub mod Mine
pub mod Numbers
pub mod Waits
pub mod Goes
