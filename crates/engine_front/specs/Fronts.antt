-- What an engine has done.
use Rattle.std.specs.Prelude.{◌++◌, List}
use Rattle.call_parts.specs.core_state.Events.{Event}
use Rattle.call_parts.specs.row_words.Moments.{events_of}
use Rattle.call_parts.specs.rows_trait.declared.view.View.{View}

-- the events of the core from the start that the opening left, as a seat has seen them
abbrev pub events_in : View → List Event
events_in v = events_of v.given.before ++ events_of v.seen
