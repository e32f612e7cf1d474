-- The events for which the program's stand.
use Rattle.map_model.specs.Maps.{MapAnswer}
use Rattle.core_state.specs.Events as model
use Rattle.plain_core.specs.declared.event.Mode.{Mode}
use Rattle.plain_core.specs.declared.event.Mode.TheVariants as modes
use Rattle.plain_core.specs.declared.event.Following.{Following}
use Rattle.plain_core.specs.declared.event.Following.TheVariants as answers
use Rattle.plain_core.specs.declared.event.Event.{Event}
use Rattle.plain_core.specs.declared.event.Event.TheVariants as events
use Rattle.plain_images.specs.Pages.{pair_of}
use Rattle.plain_core.specs.Tables.{at}
use Rattle.std.specs.Prelude.{List, map}

-- how a row is held
abbrev pub mode_of : Mode → model.Mode
mode_of modes.Shared = model.Mode.Shared
mode_of modes.Alone = model.Mode.Alone

-- the answer to what follows a key
abbrev pub answer_of : Following → MapAnswer
answer_of (answers.Pair k v) = MapAnswer.Pair k v
answer_of (answers.Gap h) = MapAnswer.Gap h

-- the event
abbrev pub event_of : Event → model.Event
event_of (events.Enter w e) = model.Event.Enter w e
event_of (events.Begin w f) = model.Event.Begin w f
event_of (events.Lock w i mode) = model.Event.Lock w i (mode_of mode)
event_of (events.Read w p k a) = model.Event.Read w p k a
event_of (events.Next w p k a) = model.Event.Next w p k (answer_of a)
event_of (events.Peek w p k a) = model.Event.Peek w p k a
event_of (events.Change w p k v) = model.Event.Change w p k v
event_of (events.PutBack w p) = model.Event.Put_back w p
event_of (events.Split w l r q i) = model.Event.Split w l r q i
event_of (events.Lift w c) = model.Event.Lift w c
event_of (events.Join w l r q) = model.Event.Join w l r q
event_of (events.Drop w c) = model.Event.Drop w c
event_of (events.Purge w p keys) = model.Event.Purge w p keys.items
event_of (events.End w commit f) = model.Event.End w commit f
event_of (events.Unlock w i) = model.Event.Unlock w i
event_of (events.Flush w n) = model.Event.Flush w n
event_of (events.Sync n) = model.Event.Sync n
event_of (events.Post w n) = model.Event.Post w n
event_of (events.Fetch p pairs) = model.Event.Fetch p (map pair_of pairs.items)
event_of (events.Load p f) = model.Event.Load p f
event_of (events.Cool p) = model.Event.Cool p
event_of (events.Rescue p) = model.Event.Rescue p
event_of (events.Save p) = model.Event.Save p
event_of (events.Evict p) = model.Event.Evict p
event_of (events.Leave w) = model.Event.Leave w
event_of events.Tick = model.Event.Tick
event_of (events.Cut n heads) = model.Event.Cut n (at heads)
event_of (events.Ask w) = model.Event.Ask w
event_of (events.Refused w n m) = model.Event.Refused w n m
event_of (events.Miss w) = model.Event.Miss w

-- events, the first first
abbrev pub events_of : List Event → List model.Event
events_of es = map event_of es
