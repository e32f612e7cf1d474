-- A record of pages, as the model of pages has it.
use Rattle.std.specs.Prelude.{◌^◌, ◌-◌, ℕ, List, [], Option, Some, None, take, map}
use Rattle.page_model.specs.Pairs as model
use Rattle.page_model.specs.Records as records
use Rattle.log_record.specs.declared.record.PageRef.{PageRef}
use Rattle.log_record.specs.declared.record.Pair.{Pair}
use Rattle.log_record.specs.declared.record.Pairs.{Pairs}
use Rattle.log_record.specs.declared.record.Keys.{Keys}
use Rattle.log_record.specs.declared.record.Body.{Body}
use Rattle.log_record.specs.declared.record.Body.TheVariants.{Change, PutBack, Split, Lift, Join, DropRoot, Purge, Commit, Abort}

abbrev pub model_ref : PageRef → records.Ref
model_ref r = record { page = r.page; prev = r.prev }

abbrev pub root_ref : ℕ → records.Ref
root_ref prev = record { page = 0; prev = prev }

abbrev pub model_pair : Pair → model.Pair
model_pair p = record { key = p.key; word = p.word }

abbrev pub model_pairs : Pairs → List model.Pair
model_pairs ps = map model_pair (take ps.count ps.pairs)

abbrev pub model_keys : Keys → List ℕ
model_keys ks = take ks.count ks.keys

abbrev pub model_write : records.Kind → PageRef → ℕ → ℕ → ℕ → records.Record
model_write kind leaf key before after = record {
  kind = kind;
  left = model_ref leaf;
  right = records.nowhere;
  parent = records.nowhere;
  key = key;
  before = before;
  after = after;
  sep = 0;
  high = 0;
  level = 0;
  pairs = [];
  keys = [];
}

abbrev pub model_change : records.Kind → records.Ref → records.Ref → records.Ref → ℕ → ℕ → ℕ → List model.Pair → List ℕ → records.Record
model_change kind left right parent sep high level pairs keys = record {
  kind = kind;
  left = left;
  right = right;
  parent = parent;
  key = 0;
  before = 0;
  after = 0;
  sep = sep;
  high = high;
  level = level;
  pairs = pairs;
  keys = keys;
}

-- what a body does to pages; an end does nothing
abbrev pub model_of : Body → Option records.Record
model_of (Change leaf key before after) = Some (model_write records.Kind.Change leaf key before after)
model_of (PutBack leaf key before after) = Some (model_write records.Kind.Put_back leaf key before after)
model_of (Split left right parent separator high level pairs) =
    Some (model_change records.Kind.Split (model_ref left) (model_ref right) (model_ref parent) separator high level (model_pairs pairs) [])
model_of (Lift prev page level pairs) = Some (model_change records.Kind.Lift (root_ref prev) (model_ref page) records.nowhere 0 (2 ^ 64 - 1) level (model_pairs pairs) [])
model_of (Join left right parent separator high pairs) =
    Some (model_change records.Kind.Join (model_ref left) (model_ref right) (model_ref parent) separator high 0 (model_pairs pairs) [])
model_of (DropRoot prev child level pairs) = Some (model_change records.Kind.Drop (root_ref prev) (model_ref child) records.nowhere 0 0 level (model_pairs pairs) [])
model_of (Purge leaf keys) = Some (model_change records.Kind.Purge (model_ref leaf) records.nowhere records.nowhere 0 0 0 [] (model_keys keys))
model_of (Commit need) = None
model_of (Abort need) = None
