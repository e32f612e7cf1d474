-- Read Entries, Ends, Redo, Undo and Images in this order. Damage says which rule an image breaks first; Histories leads to
-- journals; Slots and Fair speak of what lies on the disk; Laws has what holds of each image.
pub mod Entries
pub mod Ends
pub mod Redo
pub mod Undo
pub mod Images
pub mod Damage
pub mod Histories
pub mod Slots
pub mod Fair
pub mod Laws
