pub mod Names
pub mod Printed
pub mod Notified
