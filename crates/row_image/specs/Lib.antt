-- Read Images: the page as it is written, and what a call that takes it leaves. Then Hot, the page that stands hot in a row, and Sights: what is
-- seen of a frame without a latch, and what a latch from there has. Looks has what looks keep. Inside has words of private functions alone.
pub mod Looks
pub mod Images
pub mod Hot
pub mod Sights
pub mod Inside
