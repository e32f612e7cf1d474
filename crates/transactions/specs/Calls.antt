-- What a session's call makes of its place and of the session. A place stands for events (S), between two places a crash may leave
-- something (L), nobody else may step (Q), such events of a worker's own may stand there besides its steps (K), and it says why it hindered a call (C).
use Rattle.std.specs.Prelude.{◌≡◌, ◌⊎◌, ◌≤◌, ◌^◌, ◌%◌, ℕ, suc, Bool, true, false, ◌||◌, ◌==◌, not, leb, List, [], ◌∷◌, ◌++◌, length, map, slice_set, Option, Some, None, if◌then◌else◌}
use Rattle.core_state.specs.States.{State}
use Rattle.core_state.specs.Openings.{Opening}
use Rattle.core_state.specs.Events.{Event, Mode}
use Rattle.transactions.specs.declared.hindrance.Hindrance.{Hindrance}
use Rattle.transactions.specs.declared.hindrance.Mode as modes
use Rattle.transactions.specs.declared.hindrance.Refusal.{Refusal}
use Rattle.transactions.specs.declared.hindrance.Refusal.TheVariants as refusal
use Rattle.transactions.specs.declared.hindrance.Receipt.{Receipt}
use Rattle.transactions.specs.declared.session.Undo.{Undo}
use Rattle.core_state.specs.Steps.{state_after}
use Rattle.transactions.specs.Steps.{AreQuiet}
use Rattle.transactions.specs.Kinds.{in_any, AllMay, flushes_of}
use Rattle.transactions.specs.Paths.{flush_if, is_fault, Any, Takes, Idles, Did, Breaks, IsFirstOf, Occurs}
use Rattle.transactions.specs.Answers.{IsReceipt}
use Rattle.transactions.specs.Memory.{Memory, Ties, Knows, HasNone, mode_of, held_rows, live_value}

-- ## Tests

-- the log takes no change, or the clock is spent
abbrev pub log_refusal : (used limit clock : ℕ) → Option Refusal
log_refusal used limit clock = if leb limit used then Some (refusal.LogFull used limit) else (if leb (2 ^ 62) clock then Some refusal.ClockSpent else None)

-- there is no transaction, or one whose abort is half done
abbrev pub closed_refusal : Memory → Option Refusal
closed_refusal m = if not m.is_open || m.is_half then Some refusal.NoTransaction else None

-- of a put and a del
abbrev pub change_refusal : Memory → (used limit clock : ℕ) → Option Refusal
change_refusal m used limit clock = if not m.is_open || m.is_half then Some refusal.NoTransaction else (if length m.undo == 64 then Some refusal.TooLong else log_refusal used limit clock)

-- it is no test's refusal
abbrev pub IsHindrance : Refusal → Type 0
IsHindrance (refusal.Hindered h) = Unit {0}
IsHindrance _ = ⊥

-- a begin was refused: it was open, the log's test says so, or it was hindered
abbrev pub MayBegin : Refusal → Option Refusal → Type 0
MayBegin refusal.InTransaction o = Unit {0}
MayBegin (refusal.Hindered h) o = Unit {0}
MayBegin r o = o ≡ Some r

-- ## Calls

-- no step
abbrev pub IsNoStep : List Event → Type 0
IsNoStep steps = steps ≡ []

-- a row was taken at most
abbrev pub IsTry : ℕ → ℕ → Mode → List Event → Type 0
IsTry w row mode steps = (steps ≡ []) ⊎ (steps ≡ Event.Lock w row mode ∷ [])

-- ## The first steps of a call, where a device failed

-- of a begin
abbrev pub IsBeginsFirst : ℕ → List Event → Type 0
IsBeginsFirst w steps = (f : ℕ) × IsFirstOf (Event.Begin w f ∷ []) steps

-- of a read
abbrev pub IsReadsFirst : (w key : ℕ) → List Event → Type 0
IsReadsFirst w key steps = (page : ℕ) × (value : Option ℕ) × IsFirstOf (Event.Read w page key value ∷ []) steps

-- of a change
abbrev pub IsChangesFirst : (w key value : ℕ) → List Event → Type 0
IsChangesFirst w key value steps = (page : ℕ) × IsFirstOf (Event.Change w page key value ∷ []) steps

-- of a del: a tombstone, or a read
abbrev pub IsDelsFirst : (w key : ℕ) → List Event → Type 0
IsDelsFirst w key steps = IsChangesFirst w key (2 ^ 63) steps ⊎ IsReadsFirst w key steps

-- the row is taken first
abbrev pub IsLocked : ℕ → ℕ → Mode → (List Event → Type 0) → List Event → Type 0
IsLocked w row mode May steps = IsFirstOf (Event.Lock w row mode ∷ []) steps ⊎ ((last : List Event) × (steps ≡ Event.Lock w row mode ∷ last) × May last)

-- of an end
abbrev pub IsEndsFirst : ℕ → Bool → List Event → Type 0
IsEndsFirst w commit steps = (f : ℕ) × IsFirstOf (Event.End w commit f ∷ []) steps

-- of a change that is put back
abbrev pub IsBacksFirst : ℕ → List Event → Type 0
IsBacksFirst w steps = (page : ℕ) × IsFirstOf (Event.Put_back w page ∷ []) steps

-- changes were put back
abbrev pub put_backs : ℕ → List ℕ → List Event
put_backs w pages = map (Event.Put_back w) pages

abbrev pub unlocks : ℕ → List ℕ → List Event
unlocks w rows = map (Event.Unlock w) rows

-- the first steps of a commit
abbrev pub IsCommitsFirst : Memory → List Event → Type 0
IsCommitsFirst m steps = (f : ℕ) × IsFirstOf (Event.End m.session true f ∷ unlocks m.session (held_rows m.held (length m.held))) steps

-- the first put-backs of an abort
abbrev pub AreBacksFirst : Memory → List Event → Type 0
AreBacksFirst m steps = (pages : List ℕ) × (length pages ≤ length m.undo) × IsFirstOf (put_backs m.session pages) steps

-- of an abort: some put-backs, or all and the end's first
abbrev pub IsAbortsFirst : Memory → List Event → Type 0
IsAbortsFirst m steps = AreBacksFirst m steps ⊎ ((pages : List ℕ) × (length pages ≡ length m.undo) × (last : List Event) × (steps ≡ put_backs m.session pages ++ last) × IsEndsFirst m.session false last)

-- A refused abort has put back some of its changes, the newest first, and has the others still.
pub record Halves (old new : Memory) (steps : List Event) : Type 0 where
  pub pages : List ℕ
  pub steps_are : steps ≡ put_backs old.session pages
  pub done : List Undo
  pub count : length done ≡ length pages
  pub left : done ++ new.undo ≡ old.undo

module _ {A : Type 0} (S : Opening → List Event → List ℕ → A → Type 0) (L : Opening → List Event → List Event → A → A → Type 0) (Q : A → Bool) (K : ℕ → Event → Bool) (C : Hindrance → Opening → List Event → A → A → Type 0)
    (g : Opening) (es : List Event) (a b : A) (old new : Memory) where
  -- its worker took these steps, and the session knows
  pub record Leads (steps : List Event) : Type 0 where
    pub did : Did S L Q K g es old.session steps [] a b
    pub knows : Knows g (es ++ did.more) new

  -- the transaction begins
  pub record Starts (number : ℕ) : Type 0 where
    pub f : ℕ
    pub leads : Leads (Event.Begin old.session f ∷ [])
    pub number_is : number ≡ suc ((state_after g es).worker old.session).txn

  -- the key is read under a shared lock
  pub record Gets (key : ℕ) (value : Option ℕ) : Type 0 where
    pub page : ℕ
    pub leads : Leads (Event.Lock old.session (g.row_of key) Mode.Shared ∷ Event.Read old.session page key value ∷ [])

  -- one change, and the session has what it was
  pub record Changes (key value : ℕ) (was : Option ℕ) : Type 0 where
    pub page : ℕ
    pub word : ℕ
    pub leads : Leads (Event.Change old.session page key value ∷ [])
    pub undo : new.undo ≡ record { key = key; word = word } ∷ old.undo
    pub was_is : was ≡ live_value (Some word)

  abbrev pub Removes : ℕ → Option ℕ → Type 0
  Removes key (Some value) = Changes key (2 ^ 63) (Some value)
  Removes key None = (page : ℕ) × Leads (Event.Read old.session page key None ∷ [])

  -- the key is changed under a lock of its own, and the session has what it was
  pub record Puts (key value : ℕ) (was : Option ℕ) : Type 0 where
    pub page : ℕ
    pub word : ℕ
    pub leads : Leads (Event.Lock old.session (g.row_of key) Mode.Alone ∷ Event.Change old.session page key value ∷ [])
    pub undo : new.undo ≡ record { key = key; word = word } ∷ old.undo
    pub was_is : was ≡ live_value (Some word)

  -- the key gets a tombstone; where it had no value it is read
  abbrev pub Dels : ℕ → Option ℕ → Type 0
  Dels key (Some value) = Puts key (2 ^ 63) (Some value)
  Dels key None = (page : ℕ) × Leads (Event.Lock old.session (g.row_of key) Mode.Alone ∷ Event.Read old.session page key None ∷ [])

  -- The transaction ends, and the receipt tells of the state in which its end came. All its rows are given up, the last first.
  pub record Ends (commit : Bool) (receipt : Receipt) (before : List Event) : Type 0 where
    pub f : ℕ
    pub leads : Leads (before ++ Event.End old.session commit f ∷ unlocks old.session (held_rows old.held (length old.held)))
    pub receipt_is : Occurs g es leads.did.more (Event.End old.session commit f) (IsReceipt old.session f receipt)

  -- every change is put back, the newest first, and then it ends
  pub record Aborts (number : ℕ) : Type 0 where
    pub pages : List ℕ
    pub count : length pages ≡ length old.undo
    pub receipt : Receipt
    pub number_is : number ≡ receipt.txn
    pub ends : Ends false receipt (put_backs old.session pages)

  -- the key's row is taken
  pub record Locked (key : ℕ) (mode : modes.Mode) : Type 0 where
    pub takes : Takes S L Q K g es old.session (Event.Lock old.session (g.row_of key) (mode_of mode)) Any [] a b
    pub ties : Ties g (es ++ (takes.before ++ Event.Lock old.session (g.row_of key) (mode_of mode) ∷ takes.after)) new
    pub is : new ≡ record old { held = slice_set old.held (key % length old.held) true }

  -- the rows are given up, and these are latched still
  pub record Unlocked (rows latched : List ℕ) : Type 0 where
    pub did : Did S L Q K g es old.session (unlocks old.session rows) latched a b
    pub ties : Ties g (es ++ did.more) new

  -- changes are put back, the newest first
  pub record Backs : Type 0 where
    pub pages : List ℕ
    pub leads : Leads (put_backs old.session pages)
    pub done : List Undo
    pub count : length done ≡ length pages
    pub left : done ++ new.undo ≡ old.undo

  -- A commit ends the transaction. Behind its last step, and nowhere before, its log is flushed where a group of commits waits, and only there.
  pub record Commits (waits : State → Bool) (receipt : Receipt) : Type 0 where
    pub ends : Ends true receipt []
    pub before : List Event
    pub last : List Event
    pub whole : ends.leads.did.more ≡ before ++ last
    pub unflushed : AllMay (in_any old.session) before
    pub quiet : AreQuiet old.session last
    pub flushes_are : flushes_of old.session last ≡ flush_if (waits (state_after g (es ++ before))) old.session ((state_after g (es ++ before)).worker old.session).end
    pub none_waits : waits (state_after g (es ++ ends.leads.did.more)) ≡ false

module _ {A : Type 0} (S : Opening → List Event → List ℕ → A → Type 0) (L : Opening → List Event → List Event → A → A → Type 0) (Q : A → Bool) (K : ℕ → Event → Bool) (C : Hindrance → Opening → List Event → A → A → Type 0)
    (g : Opening) (es : List Event) where
  -- It was hindered behind these events, with these rows latched: what hindered it says why. Where a device failed w may have taken such
  -- steps from there on. Where none did it took none, and the rows are given back.
  pub record Stops (w : ℕ) (May : List Event → Type 0) (latched : List ℕ) (h : Hindrance) (a b : A) : Type 0 where
    pub to : A
    pub cause : C h g es a to
    pub breaks : is_fault h ≡ true → (to ≡ b) × Breaks S L Q K g es w May a b
    pub idles : is_fault h ≡ false → (over : Idles S L Q K g es w latched a to) × Idles S L Q K g (es ++ over.more) w [] to b

module _ {A : Type 0} (S : Opening → List Event → List ℕ → A → Type 0) (L : Opening → List Event → List Event → A → A → Type 0) (Q : A → Bool) (K : ℕ → Event → Bool) (C : Hindrance → Opening → List Event → A → A → Type 0)
    (g : Opening) (es : List Event) (a b : A) (old new : Memory) where
  -- Behind these steps of its worker it was hindered. Where a device failed, with those that it may have taken from there on they are such
  -- as MayBreak says. Where none did they are such as May says, there were no others, and the session knows.
  pub record Refused (May MayBreak : List Event → Type 0) (h : Hindrance) : Type 0 where
    pub steps : List Event
    pub latched : List ℕ
    pub at : A
    pub way : Did S L Q K g es old.session steps latched a at
    pub stops : Stops S L Q K C g (es ++ way.more) old.session (λ last. MayBreak (steps ++ last)) latched h at b
    pub may : is_fault h ≡ false → May steps
    pub leads : is_fault h ≡ false → Leads S L Q K C g es a b old new steps

  -- a test's refusal changes nothing
  abbrev pub Declines : (May MayBreak : List Event → Type 0) → Refusal → Type 0
  Declines May MayBreak (refusal.Hindered h) = Refused May MayBreak h
  Declines May MayBreak _ = Leads S L Q K C g es a b old new []

  -- it was hindered at a row, behind no step, and the rows that were latched are given back
  pub record Unlatched (h : Hindrance) : Type 0 where
    pub latched : List ℕ
    pub at : A
    pub way : Idles S L Q K g es old.session latched a at
    pub stops : Stops S L Q K C g (es ++ way.more) old.session IsNoStep latched h at b

  -- after what was due it begins, in a place that passes the tests
  pub record Begins (Test : A → Type 0) (number : ℕ) : Type 0 where
    pub at : A
    pub ready : Idles S L Q K g es old.session [] a at
    pub passes : Test at
    pub starts : Starts S L Q in_any C g (es ++ ready.more) at b old new number
    pub leads : Leads S L Q K C g es a b old new (Event.Begin old.session starts.f ∷ [])
    pub whole : leads.did.more ≡ ready.more ++ starts.leads.did.more

-- the session after an end
pub record IsEnded (m n : Memory) : Type 0 where
  pub session : n.session ≡ m.session
  pub is_open : n.is_open ≡ false
  pub is_half : n.is_half ≡ false
  pub undo : n.undo ≡ []
  pub size : length n.held ≡ length m.held
  pub held : HasNone n.held
