-- The records that an engine puts into a log are the entries of its events: the number is one above the worker's clock behind its touches.
use Rattle.std.proofs.Common.{◌≡◌, ◌-◌, ◌^◌, ℕ, suc, List, [], ◌∷◌, refl, sym, ap, ap₂}
use Rattle.page_model.specs.Needs.{split_record, lift_record, join_record, drop_record, purge_record}
use Rattle.page_model.specs.Pairs.{Pair}
use Rattle.page_model.specs.Records as records
use Rattle.master_store.specs.image_model.Entries.{Kind, word_in}
use Rattle.rfa_model.specs.Stamps.{need_of}
use Rattle.core_disk.specs.core_state.Openings.{Opening}
use Rattle.core_disk.specs.core_state.States.{State, Worker, gsns_of, nodes_of}
use Rattle.core_disk.specs.core_state.Steps.{end_entry, page_entry, write_entry}
use Rattle.master_store.specs.log_record.Model.{model_keys, model_pairs}
use Rattle.master_store.specs.log_record.declared.record.Keys.{Keys}
use Rattle.master_store.specs.log_record.declared.record.PageRef.{PageRef}
use Rattle.master_store.specs.log_record.declared.record.Pairs.{Pairs}
use Rattle.master_store.specs.log_record.declared.record.Record.{Record}
use Rattle.master_store.specs.log_record.declared.record.Body.{Body}
use Rattle.master_store.specs.log_record.declared.record.Body.TheVariants as body
use Rattle.master_store.specs.disk_image.Records.{entry_of}

-- page p, and its number
abbrev pub page_ref : State → ℕ → PageRef
page_ref s p = record { page = p; prev = (s.page p).gsn }

-- the next record of a worker
abbrev pub next_record : Worker → Body → Record
next_record a b = record { txn = a.txn; gsn = suc a.clock; body = b }

module _ (s : State) (w : ℕ) (a : Worker) where
  pub commit_entry : (f : ℕ) → entry_of w (next_record a (body.Commit (need_of a.debt f))) ≡ end_entry Kind.Commit w a f
  commit_entry f = refl

  pub abort_entry : (f : ℕ) → entry_of w (next_record a (body.Abort (need_of a.debt f))) ≡ end_entry Kind.Abort w a f
  abort_entry f = refl

  pub change_entry : (g : Opening) (p k v : ℕ) → entry_of w (next_record a (body.Change (page_ref s p) k (word_in g.format (s.page p).node k) v)) ≡ write_entry g Kind.Change s w a p k v
  change_entry g p k v = refl

  pub put_back_entry : (g : Opening) (p k v : ℕ) → entry_of w (next_record a (body.PutBack (page_ref s p) k (word_in g.format (s.page p).node k) v)) ≡ write_entry g Kind.Put_back s w a p k v
  put_back_entry g p k v = refl

  -- a record of pages, with these pairs or keys
  module _ (kind : Kind) (ps : List ℕ) (of_pairs : List Pair → records.Record) where
    with_pairs : (xs ys : List Pair) → xs ≡ ys → page_entry kind s w a ps (of_pairs xs) ≡ page_entry kind s w a ps (of_pairs ys)
    with_pairs xs ys e = ap (λ (l : List Pair). page_entry kind s w a ps (of_pairs l)) e

  pub split_entry : (l r q i : ℕ) (xs : Pairs) → let x = split_record (nodes_of s) (gsns_of s) l r q i in model_pairs xs ≡ x.pairs
      → entry_of w (next_record a (body.Split (page_ref s l) (page_ref s r) (page_ref s q) x.sep x.high x.level xs)) ≡ page_entry Kind.Split s w a (l ∷ r ∷ q ∷ []) x
  split_entry l r q i xs e = let x = split_record (nodes_of s) (gsns_of s) l r q i in with_pairs Kind.Split (l ∷ r ∷ q ∷ []) (λ ys. record x { pairs = ys }) (model_pairs xs) x.pairs e

  -- the root of a tree reaches to the end of all keys
  pub lift_entry : (c : ℕ) (xs : Pairs) → let x = lift_record (nodes_of s) (gsns_of s) c in x.high ≡ 2 ^ 64 - 1 → model_pairs xs ≡ x.pairs
      → entry_of w (next_record a (body.Lift (s.page 0).gsn (page_ref s c) x.level xs)) ≡ page_entry Kind.Lift s w a (0 ∷ c ∷ []) x
  lift_entry c xs h e = let x = lift_record (nodes_of s) (gsns_of s) c in
      ap₂ (λ (z : ℕ) (ys : List Pair). page_entry Kind.Lift s w a (0 ∷ c ∷ []) (record x { high = z; pairs = ys })) (sym h) e

  pub join_entry : (l r q : ℕ) (xs : Pairs) → let x = join_record (nodes_of s) (gsns_of s) l r q in model_pairs xs ≡ x.pairs
      → entry_of w (next_record a (body.Join (page_ref s l) (page_ref s r) (page_ref s q) x.sep x.high xs)) ≡ page_entry Kind.Join s w a (l ∷ r ∷ q ∷ []) x
  join_entry l r q xs e = let x = join_record (nodes_of s) (gsns_of s) l r q in with_pairs Kind.Join (l ∷ r ∷ q ∷ []) (λ ys. record x { pairs = ys }) (model_pairs xs) x.pairs e

  pub drop_entry : (c : ℕ) (xs : Pairs) → let x = drop_record (nodes_of s) (gsns_of s) c in model_pairs xs ≡ x.pairs
      → entry_of w (next_record a (body.DropRoot (s.page 0).gsn (page_ref s c) x.level xs)) ≡ page_entry Kind.Drop s w a (0 ∷ c ∷ []) x
  drop_entry c xs e = let x = drop_record (nodes_of s) (gsns_of s) c in with_pairs Kind.Drop (0 ∷ c ∷ []) (λ ys. record x { pairs = ys }) (model_pairs xs) x.pairs e

  pub purge_entry : (p : ℕ) (keys : List ℕ) (xs : Keys) → model_keys xs ≡ keys → entry_of w (next_record a (body.Purge (page_ref s p) xs)) ≡ page_entry Kind.Purge s w a (p ∷ []) (purge_record (gsns_of s) p keys)
  purge_entry p keys xs e = ap (λ (l : List ℕ). page_entry Kind.Purge s w a (p ∷ []) (purge_record (gsns_of s) p l)) e
