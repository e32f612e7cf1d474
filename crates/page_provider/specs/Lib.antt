-- Read Providers: what a pager is and what it keeps. Then Steps: how one call goes on from there. Then Disks: what it
-- makes of the disk. Refusals has the causes, Evicts says what a call did that lets a page go, Shares how many pages
-- cool where one is brought in. Inside has words of private functions alone.
pub mod Providers
pub mod Steps
pub mod Disks
pub mod Refusals
pub mod Moves
pub mod Cools
pub mod Ends
pub mod Shares
pub mod Faults
pub mod Descents
pub mod Amounts
pub mod Gives
pub mod Fresh
pub mod Fetches
pub mod Evicts
pub mod Laws
pub mod Inside
pub mod Finds
pub mod Leaves
pub mod Comes
pub mod Sequels
pub mod Mirrored
