pub mod BookSteps
pub mod CallbackLaws
pub mod Callbacks
pub mod Draining
pub mod Readings
