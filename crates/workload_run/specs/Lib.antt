-- Read Plans, which lines are made; Counts, what is counted of their answers; then Makes, how they were executed. Inside is for private functions.
pub mod Counts
pub mod Plans
pub mod Makes
pub mod Inside
-- Passed on to the crates above.
pub use Rattle.workload.specs as workload
