-- Read Slots, then Pages, then Masters. Laws has what holds of every slot. Inside has the words of private functions.
pub mod Slots
pub mod Pages
pub mod Masters
pub mod Laws
pub mod Inside
