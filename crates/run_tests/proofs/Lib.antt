mod NextLemmas
pub mod KeyLemmas
mod FirstLemmas
mod RuledOutLemmas
mod AnswerLemmas
mod ReadLemmas
mod RoomLemmas
mod TieLemmas
