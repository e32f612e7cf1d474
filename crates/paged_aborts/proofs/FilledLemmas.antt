-- How many changes events put back, and how they fill the session's log.
use Rattle.std.proofs.Common.{◌≡◌, ◌∙◌, ◌⊎◌, inl, inr, ◌≤◌, ◌<◌, ◌+◌, ◌-◌, ◌*◌, ◌==◌, ◌||◌, ◌++◌, ℕ, Bool, true, false, cond, List, [], ◌∷◌, length, ap, refl, sym, subst, arith, append-nil, true≢false}
use Rattle.std.specs.Prelude.{min}
use Rattle.std.proofs.lemmas.Bool.{and_parts, cases_eq, cases_lt, eqb-true}
use Rattle.map_model.specs.Lists.{all}
use Rattle.paged_desks.specs.image_model.Entries.{Entry, Kind}
use Rattle.paged_desks.specs.core_calls.LogEvents.{SyncsWhere}
use Rattle.paged_desks.specs.core_covers.Highs.{writes, written_in}
use Rattle.paged_desks.specs.core_state.Events.{Event}
use Rattle.paged_desks.specs.core_state.Needs.{may}
use Rattle.paged_desks.specs.core_state.Openings.{Opening}
use Rattle.paged_desks.specs.core_state.States.{State}
use Rattle.paged_desks.specs.core_state.Steps.{put_back, step}
use Rattle.paged_desks.specs.disk_image.Records.{entry_of, kind_of}
use Rattle.paged_desks.specs.disk_runs.MasterLaws.{raised}
use Rattle.paged_desks.specs.engine_trait.Logs.{Logs, OnOwn}
use Rattle.paged_desks.specs.log_block.Block.{records_text}
use Rattle.paged_desks.proofs.log_record.PartLemmas.{key_change_long}
use Rattle.paged_desks.proofs.log_record.RecordLemmas.{head_long}
use Rattle.paged_desks.specs.log_record.Spelling.{body_text, record_text}
use Rattle.paged_desks.specs.log_record.declared.record.Body.{Body}
use Rattle.paged_desks.specs.log_record.declared.record.Body.TheVariants as body
use Rattle.paged_desks.specs.log_record.declared.record.Record.{Record}
use Rattle.paged_desks.specs.row_words.Moments.{events_of}
use Rattle.paged_desks.specs.row_words.declared.event.Event as rows
use Rattle.paged_desks.specs.row_words.declared.event.Event.TheVariants as told
use Rattle.paged_desks.specs.session_state.Reserves.{Makes, MakesAll, Step, takes, takes_all}
use Rattle.paged_desks.specs.session_state.Undo.{HasRoomToUndo}
use Rattle.sync_counts.specs.Syncs.{syncs}
use Rattle.paged_desks.specs.worker_log.Calls.{After, flushed_log}
use Rattle.paged_desks.specs.worker_log.Logs.{Log}
use Rattle.paged_desks.specs.call_parts.Rooms.{AreBacks}
use Rattle.paged_desks.specs.Pages.{ArePaging}
use Rattle.paged_aborts.specs.Backs.{backs_in}
use Rattle.paged_aborts.proofs.BackEvents.{allowed}

-- ## How many

-- none while pages come
pub come_none : (es : List rows.Event) → ArePaging es → backs_in es ≡ 0
come_none [] k = refl
come_none (told.PutBack w p ∷ es) k = absurd (true≢false (sym k.0))
come_none (_ ∷ es) k = come_none es k.1

pub backs_more : (a b : List rows.Event) → backs_in (a ++ b) ≡ backs_in a + backs_in b
backs_more [] b = omega arith
backs_more (told.PutBack w p ∷ a) b = let r = backs_more a b in omega arith
backs_more (_ ∷ a) b = backs_more a b

-- what is left behind both
pub left_more : (a b : List rows.Event) (x y z : ℕ) → backs_in a + y ≡ x → backs_in b + z ≡ y → backs_in (a ++ b) + z ≡ x
left_more a b x y z p q = let r = backs_more a b in omega arith

-- each writes in one page, and no other event of an abort does
pub writes_backs : (own : ℕ) (es : List rows.Event) → AreBacks own (events_of es) → writes (events_of es) ≡ backs_in es
writes_backs own [] k = refl
writes_backs own (told.PutBack w p ∷ es) k = let r = writes_backs own es (and_parts ((w == own) || false) (all (allowed own) (events_of es)) k).1 in omega arith
writes_backs own (told.Miss w ∷ es) k = let r = writes_backs own es k in omega arith
writes_backs own (told.Fetch p pairs ∷ es) k = let r = writes_backs own es k in omega arith
writes_backs own (told.Load p f ∷ es) k = let r = writes_backs own es k in omega arith
writes_backs own (told.Cool p ∷ es) k = let r = writes_backs own es k in omega arith
writes_backs own (told.Rescue p ∷ es) k = let r = writes_backs own es k in omega arith
writes_backs own (told.Save p ∷ es) k = let r = writes_backs own es k in omega arith
writes_backs own (told.Evict p ∷ es) k = let r = writes_backs own es k in omega arith
writes_backs own (told.Tick ∷ es) k = let r = writes_backs own es k in omega arith
writes_backs own (told.Flush w n ∷ es) k = let r = writes_backs own es k in omega arith
writes_backs own (told.Sync n ∷ es) k = let r = writes_backs own es k in omega arith
writes_backs own (_ ∷ es) k = absurd (true≢false (sym k))

-- ## A record

longer : (x : Entry) (xs : List Entry) → xs ≡ x ∷ xs → ⊥
longer x xs e = let p = ap length e in absurd (omega arith)

abbrev first_kind : List Entry → Kind
first_kind [] = Kind.Read
first_kind (x ∷ xs) = x.kind

-- what a put-back enters is one
entered : (g : Opening) (s : State) (w p : ℕ) (x : Entry) → (step g s (Event.Put_back w p)).entries ≡ x ∷ s.entries → Kind.Put_back ≡ x.kind
entered g s w p x e = go (may g s (Event.Put_back w p)) e
  where
    back : (cs : List Entry) → (put_back g s w p cs).entries ≡ x ∷ s.entries → Kind.Put_back ≡ x.kind
    back [] q = absurd (longer x s.entries q)
    back (c ∷ cs) q = ap first_kind q

    go : (b : Bool) → (cond b (put_back g s w p (s.worker w).changes) s).entries ≡ x ∷ s.entries → Kind.Put_back ≡ x.kind
    go true q = back (s.worker w).changes q
    go false q = absurd (longer x s.entries q)

back_text : (b : Body) → Kind.Put_back ≡ kind_of b → length (body_text b) ≡ 36
back_text (body.PutBack leaf key before after) e = key_change_long (record { leaf = leaf; key = key; before = before; after = after })
back_text _ e = absurd (cc)

-- and so it is short
back_short : (g : Opening) (s : State) (w p own : ℕ) (r : Record) → (step g s (Event.Put_back w p)).entries ≡ entry_of own r ∷ s.entries → length (records_text (r ∷ [])) ≤ 64
back_short g s w p own r e =
    let t = ap length (append-nil (record_text r)) in
    let a = head_long r in
    let b = back_text r.body (entered g s w p (entry_of own r) e) in
    omega arith

-- ## A log

-- Two logs are filled alike: they may differ in their numbers, as where a sync has raised one.
pub record Alike (x y : Log) : Type 0 where
  pub blocks : y.blocks ≡ x.blocks
  pub head : y.head ≡ x.head
  pub next : y.next ≡ x.next
  pub payload : y.payload ≡ x.payload
  pub count : y.count ≡ x.count

pub alike_self : (x : Log) → Alike x x
alike_self x = record { blocks = refl; head = refl; next = refl; payload = refl; count = refl }

-- a record closes the block in hand
abbrev closed : Record → Log → Log
closed r y = record y { next = y.next + 1; payload = records_text (r ∷ []); count = 1; last = r.gsn; ends = y.ends ++ y.last ∷ [] }

-- or it joins it
abbrev joined : Record → Log → Log
joined r y = record y { payload = y.payload ++ records_text (r ∷ []); count = y.count + 1; last = r.gsn }

-- the same record makes of both what is alike
record AfterToo (r : Record) (x y : Log) : Type 0 where
  pub log : Log
  pub after : After r y log
  pub alike : Alike x log

after_too : (r : Record) (x is y : Log) → Alike x y → After r x is → AfterToo r is y
after_too r x is y a f = go (cases_lt 2000 (length x.payload + length (records_text (r ∷ []))))
  where
    long : length y.payload ≡ length x.payload
    long = ap length a.payload

    go : (2000 < length x.payload + length (records_text (r ∷ []))) ⊎ (length x.payload + length (records_text (r ∷ [])) ≤ 2000) → AfterToo r is y
    go (inl over) = record {
      log = closed r y;
      after = record { room = λ fits. absurd (let k = long in omega arith); full = λ _. refl };
      alike = subst (λ (l : Log). Alike l (closed r y)) (sym (f.full (λ fits. omega arith))) (record { blocks = a.blocks; head = a.head; next = ap (λ n. n + 1) a.next; payload = refl; count = refl });
    }
    go (inr within) = record {
      log = joined r y;
      after = record { room = λ _. refl; full = λ off. absurd (off (let k = long in omega arith)) };
      alike = subst (λ (l : Log). Alike l (joined r y)) (sym (f.room within)) (record { blocks = a.blocks; head = a.head; next = a.next; payload = ap (λ (us : List ℕ). us ++ records_text (r ∷ [])) a.payload; count = ap (λ n. n + 1) a.count });
    }

-- so does a flush
flush_too : (x y : Log) → Alike x y → Alike (flushed_log x) (flushed_log y)
flush_too x y a = record { blocks = a.blocks; head = a.head; next = λ i. a.next i + cond (a.count i == 0) 0 1; payload = refl; count = refl }

-- nothing of it waits for a flush
pub record IsClean (x : Log) : Type 0 where
  pub payload : x.payload ≡ []
  pub count : x.count ≡ 0

-- and then another flush makes nothing of it
flush_again : (x y : Log) → Alike x y → IsClean y → Alike (flushed_log x) y
flush_again x y a c = record {
  blocks = a.blocks;
  head = a.head;
  next = (let p = a.next in let q : x.next + cond (x.count == 0) 0 1 ≡ x.next + 0 = ap (λ k. x.next + cond (k == 0) 0 1) (sym a.count ∙ c.count) in omega arith);
  payload = c.payload;
  count = c.count;
}

-- room behind a flush is the same
pub room_alike : (x y : Log) (many : ℕ) → Alike x y → HasRoomToUndo (flushed_log y) many → HasRoomToUndo (flushed_log x) many
room_alike x y many a room = subst (λ (q : ℕ × ℕ). q.0 + (64 * many + 2064) ≤ 1900 * q.1) (λ i. (1900 * ((a.next i + cond (a.count i == 0) 0 1) - a.head i) + min (length {A = ℕ} []) 2000, a.blocks i)) room

-- ## Events

-- No sync is under way. Or flushes of one were made, and not yet that of this log; or that too.
pub data Phase : Type 0 where
  Idle Begun Flushed : Phase

abbrev pub is_begun : Phase → Bool
is_begun Phase.Idle = false
is_begun Phase.Begun = true
is_begun Phase.Flushed = true

-- a flush of this log that was made counts with its sync
abbrev pub owed : Phase → ℕ
owed Phase.Flushed = 1900
owed _ = 0

abbrev pub IsAt : Phase → Log → Type 0
IsAt Phase.Flushed y = IsClean y
IsAt _ y = Unit {0}

-- The steps of the log: a short record for each page that is written in, and one flush at most for each sync.
pub record Steps (p : Phase) (es : List Event) (is y : Log) : Type 0 where
  pub steps : List Step
  pub log : Log
  pub made : MakesAll steps y log
  pub alike : Alike is log
  pub takes : takes_all steps + owed p ≤ 64 * writes es + 1900 * syncs es

-- the same steps
as_before : (p q : Phase) (es fs : List Event) (is y : Log) (f : Steps q fs is y) → takes_all f.steps + owed p ≤ 64 * writes es + 1900 * syncs es → Steps p es is y
as_before p q es fs is y f le = record { steps = f.steps; log = f.log; made = f.made; alike = f.alike; takes = le }

-- with a step before them
step_before : (p q : Phase) (es fs : List Event) (is y mid : Log) (x : Step) → Makes x y mid → (f : Steps q fs is mid) → takes x + takes_all f.steps + owed p ≤ 64 * writes es + 1900 * syncs es → Steps p es is y
step_before p q es fs is y mid x m f le = record { steps = x ∷ f.steps; log = f.log; made = (mid, m, f.made); alike = f.alike; takes = (let l = le in omega arith) }

-- an event that does nothing to the log
skip : (e : Event) (es : List Event) (is y : Log) → length (written_in e) ≡ 0 → syncs (e ∷ es) ≡ syncs es → Steps Phase.Idle es is y → Steps Phase.Idle (e ∷ es) is y
skip e es is y none same f = as_before Phase.Idle Phase.Idle (e ∷ es) es is y f (let t = f.takes in omega arith)

-- a flush of a session's log, in a sync
module _ (v n own : ℕ) (es : List Event) (x mid is y : Log) (o : OnOwn v own (mid ≡ flushed_log x) (mid ≡ x)) (a : Alike x y)
    (go_on : (p : Phase) (z : Log) → is_begun p ≡ true → Alike mid z → IsAt p z → Steps p es is z) where
  flush_first : (p : Phase) → owed p ≡ 0 → Steps p (Event.Flush v n ∷ es) is y
  flush_first p none = go (cases_eq v own)
    where
      go : (v ≡ own) ⊎ (v ≡ own → ⊥) → Steps p (Event.Flush v n ∷ es) is y
      go (inl same) =
          let f = go_on Phase.Flushed (flushed_log y) refl (subst (λ (l : Log). Alike l (flushed_log y)) (sym (o.own same)) (flush_too x y a)) (record { payload = refl; count = refl }) in
          step_before p Phase.Flushed (Event.Flush v n ∷ es) es is y (flushed_log y) Step.Flushes refl f (let t = f.takes in let z = none in omega arith)
      go (inr other) =
          let f = go_on Phase.Begun y refl (subst (λ (l : Log). Alike l y) (sym (o.other other)) a) tt in
          as_before p Phase.Begun (Event.Flush v n ∷ es) es is y f (let t = f.takes in let z = none in omega arith)

  flush_more : IsClean y → Steps Phase.Flushed (Event.Flush v n ∷ es) is y
  flush_more c = go (cases_eq v own)
    where
      go : (v ≡ own) ⊎ (v ≡ own → ⊥) → Steps Phase.Flushed (Event.Flush v n ∷ es) is y
      go (inl same) =
          let f = go_on Phase.Flushed y refl (subst (λ (l : Log). Alike l y) (sym (o.own same)) (flush_again x y a c)) c in
          as_before Phase.Flushed Phase.Flushed (Event.Flush v n ∷ es) es is y f (let t = f.takes in omega arith)
      go (inr other) =
          let f = go_on Phase.Flushed y refl (subst (λ (l : Log). Alike l y) (sym (o.other other)) a) c in
          as_before Phase.Flushed Phase.Flushed (Event.Flush v n ∷ es) es is y f (let t = f.takes in omega arith)

-- the sync itself
sync_last : (p : Phase) (n : ℕ) (es : List Event) (is y : Log) → owed p ≤ 1900 → Steps Phase.Idle es is y → Steps p (Event.Sync n ∷ es) is y
sync_last p n es is y le f = as_before p Phase.Idle (Event.Sync n ∷ es) es is y f (let t = f.takes in let z = le in omega arith)

raise_too : (x mid y : Log) (n : ℕ) → mid ≡ raised x n → Alike x y → Alike mid y
raise_too x mid y n e a = subst (λ (l : Log). Alike l y) (sym e) (record { blocks = a.blocks; head = a.head; next = a.next; payload = a.payload; count = a.count })

or_none : (b : Bool) → (b || false) ≡ true → b ≡ true
or_none true e = refl
or_none false e = absurd (true≢false (sym e))

module _ (P : State → Type 0) (g : Opening) (own : ℕ) where
  others : (e : Event) (es : List Event) → AreBacks own (e ∷ es) → AreBacks own es
  others e es b = (and_parts (allowed own e) (all (allowed own) es) b).1

  -- What events of an abort make of its session's log, from one that is filled alike: so they make it of that.
  pub fills : (es : List Event) (p : Phase) (s : State) (x is y : Log) → SyncsWhere P g s (is_begun p) es → AreBacks own es → Logs own g s es x is → Alike x y → IsAt p y → Steps p es is y
  fills [] Phase.Idle s x is y w b k a c = record { steps = []; log = y; made = refl; alike = subst (λ (l : Log). Alike l y) (sym k) a; takes = omega arith }
  fills [] Phase.Begun s x is y w b k a c = absurd w
  fills [] Phase.Flushed s x is y w b k a c = absurd w
  fills (Event.Put_back v q ∷ es) Phase.Idle s x is y w b k a c =
      let e : Event = Event.Put_back v q in
      let mine : v ≡ own = eqb-true v own (or_none (v == own) (and_parts ((v == own) || false) (all (allowed own) es) b).0) in
      let r = k.1.own mine in
      let t = after_too r.record_of x k.0 y a r.after in
      let f = fills es Phase.Idle (step g s e) k.0 is t.log w (others e es b) k.2 t.alike tt in
      step_before Phase.Idle Phase.Idle (e ∷ es) es is y t.log (Step.Stages 64) (r.record_of, back_short g s v q own r.record_of r.entry, t.after) f (let z = f.takes in omega arith)
  fills (Event.Flush v n ∷ es) Phase.Idle s x is y w b k a c =
      let e : Event = Event.Flush v n in
      flush_first v n own es x k.0 is y k.1 a (λ p z begun alike at. fills es p (step g s e) k.0 is z (subst (λ (f : Bool). SyncsWhere P g (step g s e) f es) (sym begun) w.1) (others e es b) k.2 alike at) Phase.Idle refl
  fills (Event.Flush v n ∷ es) Phase.Begun s x is y w b k a c =
      let e : Event = Event.Flush v n in
      flush_first v n own es x k.0 is y k.1 a (λ p z begun alike at. fills es p (step g s e) k.0 is z (subst (λ (f : Bool). SyncsWhere P g (step g s e) f es) (sym begun) w) (others e es b) k.2 alike at) Phase.Begun refl
  fills (Event.Flush v n ∷ es) Phase.Flushed s x is y w b k a c =
      let e : Event = Event.Flush v n in
      flush_more v n own es x k.0 is y k.1 a (λ p z begun alike at. fills es p (step g s e) k.0 is z (subst (λ (f : Bool). SyncsWhere P g (step g s e) f es) (sym begun) w) (others e es b) k.2 alike at) c
  fills (Event.Sync n ∷ es) Phase.Idle s x is y w b k a c =
      let e : Event = Event.Sync n in sync_last Phase.Idle n es is y (omega arith) (fills es Phase.Idle (step g s e) k.0 is y w.1 (others e es b) k.2 (raise_too x k.0 y n k.1 a) tt)
  fills (Event.Sync n ∷ es) Phase.Begun s x is y w b k a c =
      let e : Event = Event.Sync n in sync_last Phase.Begun n es is y (omega arith) (fills es Phase.Idle (step g s e) k.0 is y w (others e es b) k.2 (raise_too x k.0 y n k.1 a) tt)
  fills (Event.Sync n ∷ es) Phase.Flushed s x is y w b k a c =
      let e : Event = Event.Sync n in sync_last Phase.Flushed n es is y (omega arith) (fills es Phase.Idle (step g s e) k.0 is y w (others e es b) k.2 (raise_too x k.0 y n k.1 a) tt)
  fills (Event.Miss v ∷ es) Phase.Idle s x is y w b k a c =
      let e : Event = Event.Miss v in skip e es is y refl refl (fills es Phase.Idle (step g s e) k.0 is y w (others e es b) k.2 (subst (λ (l : Log). Alike l y) (sym k.1) a) tt)
  fills (Event.Fetch q pairs ∷ es) Phase.Idle s x is y w b k a c =
      let e : Event = Event.Fetch q pairs in skip e es is y refl refl (fills es Phase.Idle (step g s e) k.0 is y w (others e es b) k.2 (subst (λ (l : Log). Alike l y) (sym k.1) a) tt)
  fills (Event.Load q f ∷ es) Phase.Idle s x is y w b k a c =
      let e : Event = Event.Load q f in skip e es is y refl refl (fills es Phase.Idle (step g s e) k.0 is y w (others e es b) k.2 (subst (λ (l : Log). Alike l y) (sym k.1) a) tt)
  fills (Event.Cool q ∷ es) Phase.Idle s x is y w b k a c =
      let e : Event = Event.Cool q in skip e es is y refl refl (fills es Phase.Idle (step g s e) k.0 is y w (others e es b) k.2 (subst (λ (l : Log). Alike l y) (sym k.1) a) tt)
  fills (Event.Rescue q ∷ es) Phase.Idle s x is y w b k a c =
      let e : Event = Event.Rescue q in skip e es is y refl refl (fills es Phase.Idle (step g s e) k.0 is y w (others e es b) k.2 (subst (λ (l : Log). Alike l y) (sym k.1) a) tt)
  fills (Event.Save q ∷ es) Phase.Idle s x is y w b k a c =
      let e : Event = Event.Save q in skip e es is y refl refl (fills es Phase.Idle (step g s e) k.0 is y w (others e es b) k.2 (subst (λ (l : Log). Alike l y) (sym k.1) a) tt)
  fills (Event.Evict q ∷ es) Phase.Idle s x is y w b k a c =
      let e : Event = Event.Evict q in skip e es is y refl refl (fills es Phase.Idle (step g s e) k.0 is y w (others e es b) k.2 (subst (λ (l : Log). Alike l y) (sym k.1) a) tt)
  fills (Event.Tick ∷ es) Phase.Idle s x is y w b k a c =
      let e : Event = Event.Tick in skip e es is y refl refl (fills es Phase.Idle (step g s e) k.0 is y w (others e es b) k.2 (subst (λ (l : Log). Alike l y) (sym k.1) a) tt)
  fills (_ ∷ es) Phase.Idle s x is y w b k a c = absurd (true≢false (sym b))
  fills (_ ∷ es) Phase.Begun s x is y w b k a c = absurd w
  fills (_ ∷ es) Phase.Flushed s x is y w b k a c = absurd w
