pub mod Places
pub mod Puts
pub mod Numbers
pub mod Laid
pub mod Placed
pub mod Signs
pub mod Standard
pub mod Words
