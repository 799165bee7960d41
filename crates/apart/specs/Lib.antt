pub mod Told
pub mod Text
pub mod Turn
pub mod Page
pub mod Pages
