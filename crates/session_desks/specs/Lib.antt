-- Read Desks, where each session stands, and Machines, what holds between two calls; then Runs, how a part of a call goes on in each run, Syncs, how a sync does, and
-- Parts, which says all that of a machine.
pub mod Desks
pub mod Machines
pub mod Runs
pub mod Syncs
pub mod Parts
