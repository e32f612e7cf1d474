pub mod Events
pub mod Inside
pub mod Records
pub mod Spent
pub mod States
pub mod Structure
pub mod Tables
