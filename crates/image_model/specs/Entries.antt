-- What happened: the records of all logs, and the reads between them. A list of entries has the newest first.
use Rattle.page_model.specs.Records as records
use Rattle.page_model.specs.Pairs.{find}
use Rattle.page_model.specs.Nodes.{Format, Node}
use Rattle.page_model.specs.Tree.{word_or}
use Rattle.page_model.specs.Records.{any, Ref, Record}
use Rattle.std.specs.Prelude.{ℕ, Bool, true, false, ◌&&◌, ◌||◌, ltb, ◌==◌, List}

-- The nine kinds of record, and a read, which stands in no log.
pub data Kind : Type 0 where
  Change Put_back Split Lift Join Drop Purge Read Commit Abort : Kind

-- a change of a key, or one that is put back
abbrev pub is_write : Kind → Bool
is_write Change = true
is_write Put_back = true
is_write _ = false

abbrev pub is_end : Kind → Bool
is_end Commit = true
is_end Abort = true
is_end _ = false

abbrev pub is_commit : Kind → Bool
is_commit Commit = true
is_commit _ = false

-- a call on a key
abbrev pub is_call : Kind → Bool
is_call Change = true
is_call Put_back = true
is_call Read = true
is_call _ = false

-- what stands in a log: all but reads
abbrev pub is_record : Kind → Bool
is_record Read = false
is_record _ = true

-- a record that changes pages
abbrev pub is_page : Kind → Bool
is_page Read = false
is_page Commit = false
is_page Abort = false
is_page _ = true

abbrev pub is_purge : Kind → Bool
is_purge Purge = true
is_purge _ = false

abbrev pub page_kind : Kind → records.Kind
page_kind Change = records.Kind.Change
page_kind Put_back = records.Kind.Put_back
page_kind Split = records.Kind.Split
page_kind Lift = records.Kind.Lift
page_kind Join = records.Kind.Join
page_kind Drop = records.Kind.Drop
page_kind _ = records.Kind.Purge

-- A record of a log, or a read. Its log is that of its worker; `txn` counts the worker's transactions; an end has
-- its need; a call has its key and the words before and after. What it makes of pages is `record_of`.
pub record Entry : Type 0 where
  pub kind : Kind
  pub log : ℕ
  pub txn : ℕ
  pub number : ℕ
  pub key : ℕ
  pub before : ℕ
  pub after : ℕ
  pub need : ℕ
  pub refs : List Ref
  pub record_of : Record

abbrev pub same_txn : Entry → Entry → Bool
same_txn a b = (a.log == b.log) && (a.txn == b.txn)

-- by number, then by log
abbrev pub earlier : Entry → Entry → Bool
earlier a b = ltb a.number b.number || ((a.number == b.number) && ltb a.log b.log)

-- a page's contents, with the number and the log of the last record that changed it
pub record Contents : Type 0 where
  pub gsn : ℕ
  pub last : ℕ
  pub node : Node

-- what the record makes of its page p
abbrev pub applied_as : Kind → Entry → ℕ → Node → Node
applied_as kind r p n = records.applied_as (page_kind kind) r.record_of p n

abbrev pub written : Entry → ℕ → Contents → Contents
written r p v = record { gsn = r.number; last = r.log; node = applied_as r.kind r p v.node }

abbrev pub touches : ℕ → Entry → Bool
touches p r = any (λ f. f.page == p) r.refs

-- the word of a key in a leaf; an absent key has a tombstone's
abbrev pub word_in : Format → Node → ℕ → ℕ
word_in f v k = word_or f.dead (find k v.pairs)
