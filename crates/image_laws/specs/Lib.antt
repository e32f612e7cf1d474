-- Bases speaks of each image's slots, Formatted of the image that formatting leaves, Orders of records listed in another order.
pub mod Bases
pub mod Formatted
pub mod Orders
