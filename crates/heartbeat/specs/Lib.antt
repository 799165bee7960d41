pub mod Repeat
pub mod Doubling
pub mod Heartbeat
pub mod Cause
