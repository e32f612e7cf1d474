-- Read Openings, States, Events, Needs and Steps in this order, then Local; Lists has words that they use.
pub mod Lists
pub mod Openings
pub mod States
pub mod Events
pub mod Needs
pub mod Steps
pub mod Local
-- Passed on to the crates above.
pub use Rattle.image_model.specs as image_model
