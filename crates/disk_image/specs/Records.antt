-- The entry of the model for which a record of a log stands.
use Rattle.std.specs.Prelude.{ℕ, List, [], ◌∷◌, Option, Some, None}
use Rattle.page_model.specs.Records as records
use Rattle.image_model.specs.Entries.{Kind, Entry}
use Rattle.log_record.specs.Model.{model_of, model_ref, root_ref}
use Rattle.log_record.specs.declared.record.Record.{Record}
use Rattle.log_record.specs.declared.record.Body.{Body}
use Rattle.log_record.specs.declared.record.Body.TheVariants as body

abbrev pub kind_of : Body → Kind
kind_of (body.Change leaf key before after) = Kind.Change
kind_of (body.PutBack leaf key before after) = Kind.Put_back
kind_of (body.Split left right parent separator high level pairs) = Kind.Split
kind_of (body.Lift prev page level pairs) = Kind.Lift
kind_of (body.Join left right parent separator high pairs) = Kind.Join
kind_of (body.DropRoot prev child level pairs) = Kind.Drop
kind_of (body.Purge leaf keys) = Kind.Purge
kind_of (body.Commit need) = Kind.Commit
kind_of (body.Abort need) = Kind.Abort

-- the pages that it changes, each with its number before
abbrev pub refs_of : Body → List records.Ref
refs_of (body.Change leaf key before after) = model_ref leaf ∷ []
refs_of (body.PutBack leaf key before after) = model_ref leaf ∷ []
refs_of (body.Split left right parent separator high level pairs) = model_ref left ∷ model_ref right ∷ model_ref parent ∷ []
refs_of (body.Lift prev page level pairs) = root_ref prev ∷ model_ref page ∷ []
refs_of (body.Join left right parent separator high pairs) = model_ref left ∷ model_ref right ∷ model_ref parent ∷ []
refs_of (body.DropRoot prev child level pairs) = root_ref prev ∷ model_ref child ∷ []
refs_of (body.Purge leaf keys) = model_ref leaf ∷ []
refs_of (body.Commit need) = []
refs_of (body.Abort need) = []

-- a call's key, and the words before and after
abbrev pub key_of : Body → ℕ
key_of (body.Change leaf key before after) = key
key_of (body.PutBack leaf key before after) = key
key_of _ = 0

abbrev pub before_of : Body → ℕ
before_of (body.Change leaf key before after) = before
before_of (body.PutBack leaf key before after) = before
before_of _ = 0

abbrev pub after_of : Body → ℕ
after_of (body.Change leaf key before after) = after
after_of (body.PutBack leaf key before after) = after
after_of _ = 0

-- what an end needs
abbrev pub need_of : Body → ℕ
need_of (body.Commit need) = need
need_of (body.Abort need) = need
need_of _ = 0

-- an end makes nothing of pages
abbrev pub record_or : Option records.Record → records.Record
record_or (Some r) = r
record_or None = records.no_record

-- a record of a log
abbrev pub entry_of : ℕ → Record → Entry
entry_of log r = record {
  kind = kind_of r.body;
  log = log;
  txn = r.txn;
  number = r.gsn;
  key = key_of r.body;
  before = before_of r.body;
  after = after_of r.body;
  need = need_of r.body;
  refs = refs_of r.body;
  record_of = record_or (model_of r.body);
}
