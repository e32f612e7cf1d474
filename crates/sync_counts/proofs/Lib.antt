pub mod CountLemmas
pub mod SyncLemmas
