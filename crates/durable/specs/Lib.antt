pub mod Answered
pub mod Heads
pub mod Outboxes
pub mod Printed
pub mod Waiting
