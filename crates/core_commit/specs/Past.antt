-- What holds of the entries of a run, the newest first: each with those behind it, which happened before. F is what is
-- flushed everywhere.
use Rattle.map_model.specs.Lists.{Has}
use Rattle.page_model.specs.Pairs as pairs
use Rattle.page_model.specs.Records as page_records
use Rattle.page_model.specs.Records.{Ref}
use Rattle.page_model.specs.Fits.{FitsAs}
use Rattle.page_model.specs.Nodes.{Format, Node}
use Rattle.page_model.specs.Tree.{lookup}
use Rattle.core_state.specs.image_model.Entries.{Entry, is_call, is_write, is_end, is_commit, is_record, is_page, is_purge, page_kind, same_txn, touches, Contents, written}
use Rattle.core_state.specs.Openings.{Opening, start_page, first}
use Rattle.core_state.specs.Steps.{claims}
use Rattle.std.specs.Prelude.{◌≡◌, ◌<◌, ◌≤◌, ℕ, max, Bool, true, false, ◌&&◌, ◌||◌, not, ◌==◌, List, [], ◌∷◌, ◌⊎◌, cond, if◌then◌else◌}

-- each element, with those behind it, has P
abbrev pub Each : {A : Type 0} → (A → List A → Type 0) → List A → Type 0
Each P [] = Unit {0}
Each P (x ∷ xs) = P x xs × Each P xs

-- 1 to n
abbrev pub Within : ℕ → ℕ → Type 0
Within n i = (0 < i) × (i ≤ n)

-- the newest element with a test, which may look at what stands behind it
abbrev pub pick : {A B : Type 0} → (A → List A → Bool) → (A → List A → B) → B → List A → B
pick q f d [] = d
pick q f d (z ∷ zs) = cond (q z zs) (f z zs) (pick q f d zs)

abbrev pub SameTxn : Entry → Entry → Type 0
SameTxn a b = (a.log ≡ b.log) × (a.txn ≡ b.txn)

-- an end of y's transaction
pub record EndOf (h : List Entry) (y : Entry) : Type 0 where
  pub end : Entry
  pub stands : Has end h
  pub is_end : is_end end.kind ≡ true
  pub same : SameTxn end y

-- ## Pages

-- the page after these entries, the newest first
abbrev pub page_at : Opening → List Entry → ℕ → Contents
page_at g [] p = start_page g p
page_at g (r ∷ h) p = if touches p r then written r p (page_at g h p) else page_at g h p

abbrev pub nodes : (ℕ → Contents) → ℕ → Node
nodes page p = (page p).node

-- the same number and log
abbrev pub HasStamp : Contents → Contents → Type 0
HasStamp v u = (v.gsn ≡ u.gsn) × (v.last ≡ u.last)

-- what worker w knows to outlast a crash: what stands in its own log, or has a number up to x
abbrev pub Covered : ℕ → ℕ → Entry → Type 0
Covered w x r = (r.log ≡ w) ⊎ (r.number ≤ x)

-- every record of a page before a record of it in log w
abbrev pub PagesCovered : ℕ → ℕ → List Entry → Type 0
PagesCovered w x h = Each (λ r b. r.log ≡ w → (p : ℕ) → touches p r ≡ true → (y : Entry) → Has y b → touches p y ≡ true → Covered w x y) h

-- ## Entries

-- of the end e behind which b stands
pub record Closes (g : Opening) (F : ℕ) (e : Entry) (b : List Entry) : Type 0 where
  pub pages : PagesCovered e.log (max e.need F) b
  -- who wrote before in a row that its transaction used has ended, and it knows of that end
  pub rows : (r : Entry) → Has r b → SameTxn r e → is_call r.kind ≡ true → (y : Entry) → Has y b → claims y ≡ true → g.row_of y.key ≡ g.row_of r.key →
      SameTxn y e ⊎ ((d : EndOf b y) × Covered e.log (max e.need F) d.end × (d.end.number < e.number))
  -- who used before a row that its transaction held alone has ended, with a number below
  pub order : (r : Entry) → Has r b → SameTxn r e → claims r ≡ true → (y : Entry) → Has y b → is_call y.kind ≡ true → g.row_of y.key ≡ g.row_of r.key →
      SameTxn y e ⊎ ((d : EndOf b y) × (d.end.number < e.number))
  -- earlier ends of its worker need no more
  pub ends : (d : Entry) → Has d b → is_end d.kind ≡ true → d.log ≡ e.log → d.need ≤ max e.need F
  pub need : e.need < e.number

-- of the entry r behind which b stands, but for what pages contain
pub record Recorded (g : Opening) (F : ℕ) (r : Entry) (b : List Entry) : Type 0 where
  pub log : Within g.workers r.log
  -- numbers rise within a log
  pub later : is_record r.kind ≡ true → (y : Entry) → Has y b → y.log ≡ r.log → y.number < r.number
  pub logged : (p : ℕ) → touches p r ≡ true → is_record r.kind ≡ true
  -- the records of a page are a chain: each names the number before, and numbers rise
  pub prev : (f : Ref) → Has f r.refs → f.prev ≡ (page_at g b f.page).gsn
  pub rises : (p : ℕ) → touches p r ≡ true → (page_at g b p).gsn < r.number
  -- its transaction had not ended
  pub still_open : (d : Entry) → Has d b → is_end d.kind ≡ true → SameTxn d r → ⊥
  -- who wrote in its row has ended; of two calls in a row one of which writes, the earlier has ended
  pub locked : is_write r.kind ≡ true → (y : Entry) → Has y b → is_write y.kind ≡ true → g.row_of y.key ≡ g.row_of r.key → SameTxn y r ⊎ ((d : EndOf b y) × (d.end.number < r.number))
  pub guarded : is_call r.kind ≡ true → (y : Entry) → Has y b → is_call y.kind ≡ true → (is_write r.kind || is_write y.kind) ≡ true → g.row_of y.key ≡ g.row_of r.key → SameTxn y r ⊎ EndOf b y
  pub closes : is_end r.kind ≡ true → Closes g F r b
  -- who wrote a key that is purged has ended, and its end is flushed everywhere
  pub purged : is_purge r.kind ≡ true → (k : ℕ) → pairs.is_in k r.record_of.keys ≡ true → (y : Entry) → Has y b → is_write y.kind ≡ true → y.key ≡ k → (d : EndOf b y) × (d.end.number ≤ F)

abbrev pub IsRecorded : Opening → ℕ → List Entry → Type 0
IsRecorded g F h = Each (Recorded g F) h

-- ## What pages contain

-- a write of this key
abbrev pub on_key : ℕ → Entry → Bool
on_key k r = is_write r.kind && (r.key == k)

-- what a record asks of its pages
pub record FitsPage (f : Format) (node : ℕ → Node) (r : Entry) : Type 0 where
  pub refs : r.refs ≡ page_records.refs_as (page_kind r.kind) r.record_of
  pub key : is_write r.kind ≡ true → (r.key ≡ r.record_of.key) × (r.before ≡ r.record_of.before) × (r.after ≡ r.record_of.after)
  pub fits : FitsAs f (page_kind r.kind) node r.record_of

pub record Fits (f : Format) (node : ℕ → Node) (r : Entry) : Type 0 where
  pub page : is_page r.kind ≡ true → FitsPage f node r
  pub none : is_page r.kind ≡ false → (p : ℕ) → touches p r ≡ false

-- what a call answered: a write the word before it, a read the word
abbrev pub answer : Entry → ℕ
answer r = if is_write r.kind then r.before else r.after

-- the key's word after these entries
abbrev pub history_value : Opening → ℕ → List Entry → ℕ
history_value g k h = lookup g.format (nodes (page_at g h)) k

-- the key's value but for the writes of e's transaction
abbrev pub not_by : Entry → ℕ → Entry → List Entry → Bool
not_by e k r b = on_key k r && not (same_txn r e)

abbrev pub without : Opening → Entry → ℕ → List Entry → ℕ
without g e k h = pick (not_by e k) (λ r b. r.after) (first g k) h

-- and what the start's pages contain after b
pub record Entered (g : Opening) (F : ℕ) (r : Entry) (b : List Entry) : Type 0 where
  pub recorded : Recorded g F r b
  pub fits : Fits g.format (nodes (page_at g b)) r
  pub answers : is_call r.kind ≡ true → answer r ≡ history_value g r.key b
  -- an abort left what the others wrote
  pub aborts : is_end r.kind ≡ true → is_commit r.kind ≡ false → (k : ℕ) → history_value g k b ≡ without g r k b

abbrev pub IsHistory : Opening → ℕ → List Entry → Type 0
IsHistory g F h = Each (Entered g F) h
