-- Each page's last log is one of the workers' or what opening gives: only an open worker writes.
use Rattle.map_model.specs.Maps.{MapAnswer}
use Rattle.core_commit.specs.image_model.Entries.{Kind, Entry, touches, written}
use Rattle.page_model.specs.Records.{Record}
use Rattle.page_model.specs.Needs as record_needs
use Rattle.page_model.specs.Redo.{all_keys}
use Rattle.core_commit.specs.core_state.States.{State, start, nodes_of, gsns_of}
use Rattle.core_commit.specs.core_state.Openings.{Opening}
use Rattle.core_commit.specs.core_state.Events.{Event}
use Rattle.core_commit.specs.core_state.Needs.{are_hot, pages_of, is_held_by, is_settled, may_put, may_put_back, may_split, may_lift, may_join, may_drop, may_purge, needs}
use Rattle.core_commit.specs.core_state.Steps.{at_pages, page_entry, write_entry, moves, put_back, follows, happens, step, run, with_pairs}
use Rattle.map_model.proofs.ListLemmas.{at_upd}
use Rattle.core_commit.proofs.Invariants.{Inv}
use Rattle.core_commit.proofs.Runs.{Good, step_keeps, good_step, good_start}
use Rattle.core_paging.specs.Logs.{LogsWithin, EveryLastLog}
use Rattle.std.proofs.Common.{◌≡◌, ◌≤◌, ℕ, Bool, true, false, cond, ◌&&◌, ltb, List, [], ◌∷◌, length, refl, arith}
use Rattle.std.proofs.lemmas.Bool.{and_parts}

module _ (g : Opening) (most : ℕ) (fit : g.workers ≤ most) where
  -- a record of an open worker
  entered : (s : State) → Inv g s → LogsWithin most s → (w : ℕ) → (s.worker w).is_open ≡ true → (x : Entry) → x.log ≡ w → (p : ℕ) → (cond (touches p x) (written x p (s.page p)) (s.page p)).last ≤ most
  entered s i k w op x l p = go (touches p x)
    where
      go : (b : Bool) → (cond b (written x p (s.page p)) (s.page p)).last ≤ most
      go true = let a = ((i.workers w).is_log op).1 in let b = fit in omega arith
      go false = k.page p

  logs_moves : (s : State) → Inv g s → LogsWithin most s → (K : Kind) (w : ℕ) (ps : List ℕ) (y : Record) → (s.worker w).is_open ≡ true → LogsWithin most (moves s K w ps y)
  logs_moves s i k K w ps y op = record { page = entered s i k w op (page_entry K s w (at_pages s w (s.worker w) ps) ps y) refl; saved = k.saved }

  logs_event : (s : State) → Inv g s → LogsWithin most s → (e : Event) → needs g s e ≡ true → LogsWithin most (happens g s e)
  logs_event s i k (Event.Next w p j a) m = go a
    where
      go : (a : MapAnswer) → LogsWithin most (follows g s w p a)
      go (MapAnswer.Pair at word) = record { page = k.page; saved = k.saved }
      go (MapAnswer.Gap b) = record { page = k.page; saved = k.saved }
      go (MapAnswer.Value v) = k
      go (MapAnswer.Was v) = k
  logs_event s i k (Event.Change w p j v) m = record { page = entered s i k w op (write_entry g Kind.Change s w (at_pages s w (s.worker w) (p ∷ [])) p j v) refl; saved = k.saved }
    where
      op : (s.worker w).is_open ≡ true
      op = (and_parts (s.worker w).is_open (is_held_by (s.row (g.row_of j)).holder w && may_put g (s.page p).node p j v) (and_parts (ltb (length (s.worker w).changes) g.changes) ((s.worker w).is_open && (is_held_by (s.row (g.row_of j)).holder w && may_put g (s.page p).node p j v)) m).1).0
  logs_event s i k (Event.Put_back w p) m = go (s.worker w).changes
    where
      op : (s.worker w).is_open ≡ true
      op = (and_parts (s.worker w).is_open (may_put_back g (s.page p).node p (s.worker w).changes) m).0

      go : (cs : List Entry) → LogsWithin most (put_back g s w p cs)
      go [] = k
      go (c ∷ cs) = record { page = entered s i k w op (write_entry g Kind.Put_back s w (at_pages s w (s.worker w) (p ∷ [])) p c.key c.before) refl; saved = k.saved }
  logs_event s i k (Event.Split w l r q j) m = logs_moves s i k Kind.Split w (l ∷ r ∷ q ∷ []) (record_needs.split_record (nodes_of s) (gsns_of s) l r q j) (and_parts (s.worker w).is_open (may_split g (nodes_of s) l r q j) m).0
  logs_event s i k (Event.Lift w c) m = logs_moves s i k Kind.Lift w (0 ∷ c ∷ []) (record_needs.lift_record (nodes_of s) (gsns_of s) c) (and_parts (s.worker w).is_open (may_lift g (nodes_of s) c) m).0
  logs_event s i k (Event.Join w l r q) m = logs_moves s i k Kind.Join w (l ∷ r ∷ q ∷ []) (record_needs.join_record (nodes_of s) (gsns_of s) l r q) (and_parts (s.worker w).is_open (may_join g (nodes_of s) l r q) m).0
  logs_event s i k (Event.Drop w c) m = logs_moves s i k Kind.Drop w (0 ∷ c ∷ []) (record_needs.drop_record (nodes_of s) (gsns_of s) c) (and_parts (s.worker w).is_open (may_drop (nodes_of s) c) m).0
  logs_event s i k (Event.Purge w p keys) m = logs_moves s i k Kind.Purge w (p ∷ []) (record_needs.purge_record (gsns_of s) p keys) (and_parts (s.worker w).is_open (may_purge g (nodes_of s) p keys && all_keys (λ k. is_settled g s k) keys) m).0
  logs_event s i k (Event.Fetch p pairs) m = record {
    page = λ q. at_upd (λ _ v. v.last ≤ most) s.page p (with_pairs pairs (s.saved p)) q (k.saved p) (λ _. k.page q);
    saved = λ q. at_upd (λ _ v. v.last ≤ most) s.saved p (with_pairs pairs (s.saved p)) q (k.saved p) (λ _. k.saved q);
  }
  logs_event s i k (Event.Load p f) m = record { page = λ q. at_upd (λ _ v. v.last ≤ most) s.page p (s.saved p) q (k.saved p) (λ _. k.page q); saved = k.saved }
  logs_event s i k (Event.Save p) m = record { page = k.page; saved = λ q. at_upd (λ _ v. v.last ≤ most) s.saved p (s.page p) q (k.page p) (λ _. k.saved q) }
  logs_event s i k _ m = record { page = k.page; saved = k.saved }

  logs_run : (es : List Event) (s : State) → Good g s → LogsWithin most s → LogsWithin most (run g s es)
  logs_run [] s i k = k
  logs_run (e ∷ es) s i k = logs_run es (step g s e) (good_step g s e i)
      (step_keeps (LogsWithin most) g s e k (λ m. logs_event s i.inv k e (and_parts (are_hot s (pages_of e)) (needs g s e) m).1))

pub every_last_log : EveryLastLog
every_last_log g most fit low es = logs_run g most fit es (start g) (good_start g) (record { page = low; saved = low })
