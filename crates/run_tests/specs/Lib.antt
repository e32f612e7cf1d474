-- What the next run may rest on, where a crash cut off a run; what no run does; and what ties a run's records to each other.
pub mod Laws
pub mod RuledOut
pub mod Ties
