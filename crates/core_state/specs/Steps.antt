-- What each event makes of the state.
use Rattle.page_model.specs.Needs as page_needs
use Rattle.map_model.specs.Lists.{upd, keep}
use Rattle.map_model.specs.Maps.{MapAnswer}
use Rattle.image_model.specs.Entries.{Kind, Entry, is_write, is_call, page_kind, touches, word_in, Contents, written}
use Rattle.page_model.specs.Pairs.{Pair}
use Rattle.page_model.specs.Records.{Ref, Record, no_record, write_record}
use Rattle.rfa_model.specs.Stamps.{owed, debt_at_begin, need_of}
use Rattle.core_state.specs.Lists.{without, at_end}
use Rattle.core_state.specs.States.{Place, Row, Worker, State, start, flushed_by_all, nodes_of, gsns_of, frame_of, left_by}
use Rattle.core_state.specs.Openings.{Opening}
use Rattle.core_state.specs.Events.{Event, Mode}
use Rattle.core_state.specs.Needs.{is_held_by, is_reader, is_inside, may}
use Rattle.std.specs.Prelude.{◌≡◌, ◌⊎◌, ℕ, suc, min, max, true, false, not, ◌==◌, List, [], ◌∷◌, Some, None, if◌then◌else◌, Bool, ◌&&◌, ◌||◌}

-- ## Touches

-- w's clock and debt after it met a stamp
abbrev pub touch : ℕ → Worker → ℕ → ℕ → Worker
touch w a number log = record a { clock = max a.clock number; debt = owed w a.floor a.debt number log }

-- the worker after it touched these pages, the last of the list first
abbrev pub at_pages : State → ℕ → Worker → List ℕ → Worker
at_pages s w a [] = a
at_pages s w a (p ∷ ps) = let b = at_pages s w a ps in touch w b (s.page p).gsn (s.page p).last

-- after it touched a lock row: above its last end, and above its readers' ends
abbrev pub at_row : ℕ → Worker → Row → Worker
at_row w a o = let b = touch w a o.number o.log in record b { clock = max b.clock o.read_end }

-- ## Transactions

-- after a begin that found all logs flushed up to f
abbrev pub begun : Worker → ℕ → Worker
begun a f = record { clock = a.clock; floor = f; debt = debt_at_begin a.debt f; txn = suc a.txn; end = a.end; is_open = true; changes = [] }

-- after an end with number n
abbrev pub finished : Worker → ℕ → Worker
finished a n = record { clock = n; floor = a.floor; debt = a.debt; txn = a.txn; end = n; is_open = false; changes = [] }

-- held by w in the greater of the two modes; a sole reader becomes the holder
abbrev pub locked : Row → ℕ → Mode → Row
locked o w Mode.Shared = if is_held_by o.holder w then o else record o { readers = if is_reader w o.readers then o.readers else w ∷ o.readers }
locked o w Mode.Alone = if is_held_by o.holder w then o else record o { holder = Some w; readers = [] }

-- w's hold goes, and tells of its last end
abbrev pub unlocked : Row → ℕ → ℕ → Row
unlocked o w end =
    let others = keep (λ v. not (v == w)) o.readers in
    if is_held_by o.holder w
    then record { holder = None; readers = others; number = max o.number end; log = w; read_end = o.read_end }
    else record { holder = o.holder; readers = others; number = o.number; log = o.log; read_end = max o.read_end end }

-- ## Entries

-- of a read, the need is 1 where its row is held alone
abbrev pub read_entry : ℕ → Worker → ℕ → ℕ → Bool → Entry
read_entry w a k v alone = record { kind = Kind.Read; log = w; txn = a.txn; number = a.clock; key = k; before = 0; after = v; need = if alone then 1 else 0; refs = []; record_of = no_record }

-- a call on a key whose row its worker holds alone
abbrev pub claims : Entry → Bool
claims r = is_write r.kind || (is_call r.kind && (r.need == 1))

-- an end takes the next number, and says what it needs
abbrev pub end_entry : Kind → ℕ → Worker → ℕ → Entry
end_entry kind w a f = record { kind = kind; log = w; txn = a.txn; number = suc a.clock; key = 0; before = 0; after = 0; need = need_of a.debt f; refs = []; record_of = no_record }

-- each page with its number before
abbrev pub refs_of : State → List ℕ → List Ref
refs_of s [] = []
refs_of s (p ∷ ps) = record { page = p; prev = (s.page p).gsn } ∷ refs_of s ps

-- a write of key k in page p takes the next number, and says the word before and after
abbrev pub write_entry : Opening → Kind → State → ℕ → Worker → ℕ → ℕ → ℕ → Entry
write_entry g kind s w a p k v = record { kind = kind; log = w; txn = a.txn; number = suc a.clock; key = k; before = word_in g.format (s.page p).node k; after = v; need = 0; refs = refs_of s (p ∷ []); record_of = write_record (page_kind kind) g.format (nodes_of s) (gsns_of s) p k v }

-- a record of these pages that changes no value
abbrev pub page_entry : Kind → State → ℕ → Worker → List ℕ → Record → Entry
page_entry kind s w a ps x = record { kind = kind; log = w; txn = a.txn; number = suc a.clock; key = 0; before = 0; after = 0; need = 0; refs = refs_of s ps; record_of = x }

-- the record is entered, by the worker a with these changes from then on
abbrev pub records_in : State → ℕ → Worker → Entry → List Entry → State
records_in s w a r changes = record s {
  entries = r ∷ s.entries;
  page = λ p. if touches p r then written r p (s.page p) else s.page p;
  worker = upd s.worker w (record a { clock = r.number; changes = changes });
}

-- w touches page p and writes there
abbrev pub writes : Opening → State → Kind → ℕ → ℕ → ℕ → ℕ → (Entry → List Entry) → State
writes g s kind w p k v changes =
    let a = at_pages s w (s.worker w) (p ∷ []) in
    let r = write_entry g kind s w a p k v in records_in s w a r (changes r)

-- a record that changes no value
abbrev pub moves : State → Kind → ℕ → List ℕ → Record → State
moves s kind w ps x = let a = at_pages s w (s.worker w) ps in records_in s w a (page_entry kind s w a ps x) a.changes

-- puts the newest change back, in page p
abbrev pub put_back : Opening → State → ℕ → ℕ → List Entry → State
put_back g s w p [] = s
put_back g s w p (c ∷ cs) = writes g s Kind.Put_back w p c.key c.before (λ _. cs)

-- w touches page p
abbrev pub looks : State → ℕ → ℕ → State
looks s w p = record s { worker = upd s.worker w (at_pages s w (s.worker w) (p ∷ [])) }

-- and reads key k there
abbrev pub reads : Opening → State → ℕ → ℕ → ℕ → State
reads g s w p k = let a = at_pages s w (s.worker w) (p ∷ []) in record s {
  entries = read_entry w a k (word_in g.format (s.page p).node k) (is_held_by (s.row (g.row_of k)).holder w) ∷ s.entries;
  worker = upd s.worker w a;
}

-- a pair that follows is read, of a gap the page alone is touched
abbrev pub follows : Opening → State → ℕ → ℕ → MapAnswer → State
follows g s w p (MapAnswer.Pair k v) = reads g s w p k
follows g s w p (MapAnswer.Gap h) = looks s w p
follows g s w p _ = s

-- the end is entered, and w is not open
abbrev pub ends : State → ℕ → Entry → State
ends s w r = record s { entries = r ∷ s.entries; worker = upd s.worker w (finished (s.worker w) r.number) }

-- the contents with these pairs
abbrev pub with_pairs : List Pair → Contents → Contents
with_pairs pairs c = record c { node = record c.node { pairs = pairs } }

-- all clocks and flushed numbers are n
abbrev pub synced : State → ℕ → State
synced s n = record s {
  flushed = λ _. n;
  floor = n;
  worker = λ w. record (s.worker w) { clock = max (s.worker w).clock n };
}

-- each log begins behind the number that is said for it, but not above x, and no earlier than before
abbrev pub cut_off : Opening → State → ℕ → (ℕ → ℕ) → State
cut_off g s x heads = record s {
  floor = max s.floor (flushed_by_all g s);
  head = λ w. max (s.head w) (min (heads w) x);
  cut = max s.cut x;
}

-- ## Events

-- what the event does, where its need is met
abbrev pub happens : Opening → State → Event → State
happens g s (Event.Enter w e) = record s { inside = upd s.inside w (Some e) }
happens g s (Event.Leave w) = record s { inside = upd s.inside w None; place = λ p. left_by w (s.place p) }
happens g s (Event.Begin w f) = record s { worker = upd s.worker w (begun (s.worker w) f) }
happens g s (Event.Lock w i mode) = record s { row = upd s.row i (locked (s.row i) w mode); worker = upd s.worker w (at_row w (s.worker w) (s.row i)) }
happens g s (Event.Read w p k a) = reads g s w p k
happens g s (Event.Next w p k a) = follows g s w p a
happens g s (Event.Peek w p k a) = s
happens g s (Event.Change w p k v) = writes g s Kind.Change w p k v (λ r. r ∷ (s.worker w).changes)
happens g s (Event.Put_back w p) = put_back g s w p (s.worker w).changes
happens g s (Event.Split w l r q i) = moves s Kind.Split w (l ∷ r ∷ q ∷ []) (page_needs.split_record (nodes_of s) (gsns_of s) l r q i)
happens g s (Event.Lift w c) = moves s Kind.Lift w (0 ∷ c ∷ []) (page_needs.lift_record (nodes_of s) (gsns_of s) c)
happens g s (Event.Join w l r q) = moves s Kind.Join w (l ∷ r ∷ q ∷ []) (page_needs.join_record (nodes_of s) (gsns_of s) l r q)
happens g s (Event.Drop w c) = moves s Kind.Drop w (0 ∷ c ∷ []) (page_needs.drop_record (nodes_of s) (gsns_of s) c)
happens g s (Event.Purge w p keys) = moves s Kind.Purge w (p ∷ []) (page_needs.purge_record (gsns_of s) p keys)
happens g s (Event.End w commit f) = ends s w (end_entry (if commit then Kind.Commit else Kind.Abort) w (s.worker w) f)
happens g s (Event.Unlock w i) = record s { row = upd s.row i (unlocked (s.row i) w (s.worker w).end) }
happens g s (Event.Flush w n) = record s { flushed = upd s.flushed w n }
happens g s (Event.Sync n) = synced s n
happens g s (Event.Post w n) = record s { posted = max s.posted n }
happens g s (Event.Fetch p pairs) = record s { page = upd s.page p (with_pairs pairs (s.saved p)); saved = upd s.saved p (with_pairs pairs (s.saved p)) }
happens g s (Event.Load p f) = record s { place = upd s.place p (Place.Hot f); page = upd s.page p (s.saved p) }
happens g s (Event.Cool p) = record s { place = upd s.place p (Place.Cooling (frame_of (s.place p)) s.epoch (λ w. is_inside (s.inside w))); queue = at_end s.queue p }
happens g s (Event.Rescue p) = record s { place = upd s.place p (Place.Hot (frame_of (s.place p))); queue = without p s.queue }
happens g s (Event.Save p) = record s { saved = upd s.saved p (s.page p) }
happens g s (Event.Evict p) = record s { place = upd s.place p Place.Cold; queue = without p s.queue }
happens g s Event.Tick = record s { epoch = suc s.epoch }
happens g s (Event.Cut x heads) = cut_off g s x heads
happens g s (Event.Ask w) = s
happens g s (Event.Refused w n m) = s
happens g s (Event.Miss w) = s

-- An event whose need is not met leaves the state as it is.
abbrev pub step : Opening → State → Event → State
step g s e = if may g s e then happens g s e else s

-- the first event first
abbrev pub run : Opening → State → List Event → State
run g s [] = s
run g s (e ∷ es) = run g (step g s e) es

-- the state after these events
abbrev pub state_after : Opening → List Event → State
state_after g es = run g (start g) es

-- the need of each event is met
abbrev pub AllMet : Opening → State → List Event → Type 0
AllMet g s [] = Unit {0}
AllMet g s (e ∷ es) = (may g s e ≡ true) × AllMet g (step g s e) es

-- at some moment of the run the page was this
abbrev pub HasBeen : Opening → State → List Event → ℕ → Contents → Type 0
HasBeen g s [] p v = v ≡ s.page p
HasBeen g s (e ∷ es) p v = (v ≡ s.page p) ⊎ HasBeen g (step g s e) es p v
