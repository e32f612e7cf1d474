-- Read Stages, how far a tidying has come and which neighbour it wants; and Steps, what one step does; AtOnce, where there is nothing to do. Inside has words of private functions alone.
pub mod Stages
pub mod Steps
pub mod AtOnce
pub mod Inside
