-- Every event keeps the invariants, and so does every run.
use Rattle.page_model.specs.Pairs.{Pair, Rising}
use Rattle.page_model.specs.Records.{Record}
use Rattle.page_model.specs.Nodes.{holds}
use Rattle.page_model.specs.Tree.{IsTree}
use Rattle.page_model.specs.Needs as record_needs
use Rattle.map_model.specs.Lists.{upd}
use Rattle.map_model.specs.Maps.{MapAnswer}
use Rattle.core_state.specs.image_model.Entries.{Kind, Entry, Contents}
use Rattle.core_state.specs.Lists.{all_below, at_end, without}
use Rattle.core_state.specs.States.{Place, State, nodes_of, gsns_of, is_cold, is_cooling, frame_of, left_by, waits_for, start}
use Rattle.core_state.specs.Openings.{Opening}
use Rattle.core_state.specs.Events.{Event}
use Rattle.core_state.specs.Needs.{are_hot, pages_of, is_dirty, is_empty_frame, has_hot_parent, holds_answer, holds_row, is_following, is_inside, is_leaf_of, following, is_value, value_in, may_read, may, needs}
use Rattle.core_state.specs.Steps.{at_pages, page_entry, write_entry, moves, put_back, follows, happens, step, run}
use Rattle.core_commit.proofs.Invariants.{Inv, IsTold}
use Rattle.core_commit.proofs.Events.{inv_change, inv_put_back, inv_split, inv_lift, inv_join, inv_drop, inv_purge, inv_reads, inv_end}
use Rattle.core_commit.proofs.Controls.{inv_begin, inv_lock_event, inv_unlock, inv_flush, inv_sync, inv_cut, inv_looks, inv_start}
use Rattle.core_commit.proofs.Nexts.{following_is, following_at, follows_in}
use Rattle.core_commit.proofs.Copies.{Copied, loaded, copied_records, copied_place, copied_load, copied_save, copied_evict, copied_leave, copied_start, above_pages}
use Rattle.core_commit.proofs.Fetched.{fetch_is, fetch_same, fetch_gsn, fetch_tree, fetch_copied}
use Rattle.std.proofs.Common.{◌≡◌, ◌<◌, ◌≤◌, ℕ, suc, Bool, true, false, cond, ◌&&◌, not, leb, ltb, ◌==◌, List, [], ◌∷◌, Option, Some, None, length, refl, sym, ap, ◌∙◌, subst, arith, true≢false}
use Rattle.std.proofs.lemmas.Bool.{and_parts, and_from, ltb-true, ltb-false, not-true}
use mathlib.Core.Path.{fun_ext}
pub use Rattle.core_commit.specs.Invariants.{Good}

-- ## The pair that follows

-- the leaf's own key may be read
pub may_read_next : (g : Opening) (s : State) → Inv g s → (w p k at word : ℕ) → needs g s (Event.Next w p k (MapAnswer.Pair at word)) ≡ true → may_read g s w p at ≡ true
may_read_next g s i w p k at word m =
    let v = (s.page p).node in
    let m1 = and_parts (s.worker w).is_open (is_leaf_of g v p k && (is_following (MapAnswer.Pair at word) (following g.format k v.pairs v.high) && holds_answer g s w (MapAnswer.Pair at word))) m in
    let m2 = and_parts (is_leaf_of g v p k) (is_following (MapAnswer.Pair at word) (following g.format k v.pairs v.high) && holds_answer g s w (MapAnswer.Pair at word)) m1.1 in
    let m3 = and_parts (is_following (MapAnswer.Pair at word) (following g.format k v.pairs v.high)) (holds_answer g s w (MapAnswer.Pair at word)) m2.1 in
    let m4 = and_parts (ltb p g.format.pages) (holds v k) m2.0 in
    let r = rising g s i p (ltb-true p g.format.pages m4.0) k m4.1 in
    let f = following_at g.format k v.low v.pairs v.high at word r (sym (following_is (MapAnswer.Pair at word) (following g.format k v.pairs v.high) m3.0)) in
    and_from (s.worker w).is_open (holds_row (s.row (g.row_of at)) w && (ltb p g.format.pages && holds v at)) m1.0
    (and_from (holds_row (s.row (g.row_of at)) w) (ltb p g.format.pages && holds v at) m3.1
    (and_from (ltb p g.format.pages) (holds v at) m4.0 (follows_in v k at word r m4.1 f.found)))
  where
    rising : (g : Opening) (s : State) → Inv g s → (p : ℕ) → p < g.format.pages → (k : ℕ) → holds (s.page p).node k ≡ true → Rising (s.page p).node.low (s.page p).node.pairs (s.page p).node.high
    rising g s i p l k h = ((i.tree.formed p l).node (Rattle.page_model.proofs.Entries.holds_to (s.page p).node k h).lies.live).rising

inv_next : (g : Opening) (s : State) → Inv g s → (w p k : ℕ) (a : MapAnswer) → needs g s (Event.Next w p k a) ≡ true → Inv g (happens g s (Event.Next w p k a))
inv_next g s i w p k (MapAnswer.Pair at word) m = inv_reads g s i w p at (may_read_next g s i w p k at word m)
inv_next g s i w p k (MapAnswer.Gap h) m = inv_looks g s i w p (and_parts (s.worker w).is_open (is_leaf_of g (s.page p).node p k && (is_following (MapAnswer.Gap h) (following g.format k (s.page p).node.pairs (s.page p).node.high) && true)) m).0
inv_next g s i w p k (MapAnswer.Value v) m = i
inv_next g s i w p k (MapAnswer.Was v) m = i

-- ## Pages in frames

-- what moves pages changes nothing else
inv_moved : (g : Opening) (s : State) → Inv g s → (saved : ℕ → Contents) (place : ℕ → Place) (queue : List ℕ) (posted : ℕ) (inside : ℕ → Option ℕ) (epoch : ℕ) →
    Inv g (record s { saved = saved; place = place; queue = queue; posted = posted; inside = inside; epoch = epoch })
inv_moved g s v saved place queue posted inside epoch = record {
  cuts = v.cuts;
  records = v.records;
  stamps = v.stamps;
  tree = v.tree;
  rows = v.rows;
  workers = v.workers;
  told = λ f. let t = v.told f in record { history = t.history; pages = t.pages; undo = t.undo };
}

inv_load : (g : Opening) (s : State) → Inv g s → (p f : ℕ) → ((q : ℕ) → upd s.page p (s.saved p) q ≡ s.page q) → Inv g (happens g s (Event.Load p f))
inv_load g s v p f same = record {
  cuts = v.cuts;
  records = v.records;
  stamps = λ q. let k = v.stamps q in (ap (λ (c : Contents). c.gsn) (same q) ∙ k.0, ap (λ (c : Contents). c.last) (same q) ∙ k.1);
  tree = subst (IsTree g.format) (sym (fun_ext (λ q. ap (λ (c : Contents). c.node) (same q)))) v.tree;
  rows = v.rows;
  workers = v.workers;
  told = λ f. let t = v.told f in record { history = t.history; pages = λ q. same q ∙ t.pages q; undo = t.undo };
}

inv_fetch : (g : Opening) (s : State) → Inv g s → Copied s.page s.saved s.place → (p : ℕ) (pairs : List Pair) → needs g s (Event.Fetch p pairs) ≡ true → Inv g (happens g s (Event.Fetch p pairs))
inv_fetch g s v c p pairs m = let i = fetch_is g s p pairs m in record {
  cuts = v.cuts;
  records = v.records;
  stamps = λ q. let k = v.stamps q in let e = fetch_gsn s c p pairs i.cold q in (e.0 ∙ k.0, e.1 ∙ k.1);
  tree = fetch_tree g s c v.tree p pairs i;
  rows = v.rows;
  workers = v.workers;
  told = λ f. subst (IsTold g) (sym (fetch_same g s c f p pairs m)) (v.told f);
}

pub load_cold : (g : Opening) (s : State) (p f : ℕ) → needs g s (Event.Load p f) ≡ true → is_cold (s.place p) ≡ true
load_cold g s p f m =
    let a = and_parts (ltb p g.format.pages) (ltb f g.frames && (is_cold (s.place p) && (has_hot_parent g s p && is_empty_frame g s f))) m in
    let b = and_parts (ltb f g.frames) (is_cold (s.place p) && (has_hot_parent g s p && is_empty_frame g s f)) a.1 in
    (and_parts (is_cold (s.place p)) (has_hot_parent g s p && is_empty_frame g s f) b.1).0

pub evict_clean : (g : Opening) (s : State) (p : ℕ) → needs g s (Event.Evict p) ≡ true → (s.page p).gsn ≤ (s.saved p).gsn
evict_clean g s p m =
    let a = and_parts (is_cooling (s.place p)) (not (is_dirty s p) && all_below (suc g.workers) (λ w. not (waits_for (s.place p) w))) m in
    let b = and_parts (not (is_dirty s p)) (all_below (suc g.workers) (λ w. not (waits_for (s.place p) w))) a.1 in
    ltb-false (s.saved p).gsn (s.page p).gsn (not-true (is_dirty s p) b.0)

-- ## Every event

inv_event : (g : Opening) (s : State) → Good g s → (e : Event) → needs g s e ≡ true → Inv g (happens g s e)
inv_event g s i (Event.Enter w e) m = inv_moved g s i.inv s.saved s.place s.queue s.posted (upd s.inside w (Some e)) s.epoch
inv_event g s i (Event.Leave w) m = inv_moved g s i.inv s.saved (λ p. left_by w (s.place p)) s.queue s.posted (upd s.inside w None) s.epoch
inv_event g s i (Event.Begin w f) m = inv_begin g s i.inv w f m
inv_event g s i (Event.Lock w o mode) m = inv_lock_event g s i.inv w o mode m
inv_event g s i (Event.Read w p k a) m = inv_reads g s i.inv w p k (and_parts (may_read g s w p k) (is_value a (value_in g.format (s.page p).node k)) m).0
inv_event g s i (Event.Next w p k a) m = inv_next g s i.inv w p k a m
inv_event g s i (Event.Peek w p k a) m = i.inv
inv_event g s i (Event.Change w p k v) m = inv_change g s i.inv w p k v m
inv_event g s i (Event.Put_back w p) m = inv_put_back g s i.inv w p m
inv_event g s i (Event.Split w l r q j) m = inv_split g s i.inv w l r q j m
inv_event g s i (Event.Lift w c) m = inv_lift g s i.inv w c m
inv_event g s i (Event.Join w l r q) m = inv_join g s i.inv w l r q m
inv_event g s i (Event.Drop w c) m = inv_drop g s i.inv w c m
inv_event g s i (Event.Purge w p keys) m = inv_purge g s i.inv w p keys m
inv_event g s i (Event.End w commit f) m = inv_end g s i.inv w commit f m
inv_event g s i (Event.Unlock w o) m = inv_unlock g s i.inv w o m
inv_event g s i (Event.Flush w n) m = inv_flush g s i.inv w n m
inv_event g s i (Event.Sync n) m = inv_sync g s i.inv n m
inv_event g s i (Event.Post w n) m = inv_moved g s i.inv s.saved s.place s.queue (Rattle.std.proofs.Common.max s.posted n) s.inside s.epoch
inv_event g s i (Event.Fetch p pairs) m = inv_fetch g s i.inv i.copied p pairs m
inv_event g s i (Event.Load p f) m = inv_load g s i.inv p f (loaded s.page s.saved s.place i.copied p (load_cold g s p f m))
inv_event g s i (Event.Cool p) m = inv_moved g s i.inv s.saved (upd s.place p (Place.Cooling (frame_of (s.place p)) s.epoch (λ w. is_inside (s.inside w)))) (at_end s.queue p) s.posted s.inside s.epoch
inv_event g s i (Event.Rescue p) m = inv_moved g s i.inv s.saved (upd s.place p (Place.Hot (frame_of (s.place p)))) (without p s.queue) s.posted s.inside s.epoch
inv_event g s i (Event.Save p) m = inv_moved g s i.inv (upd s.saved p (s.page p)) s.place s.queue s.posted s.inside s.epoch
inv_event g s i (Event.Evict p) m = inv_moved g s i.inv s.saved (upd s.place p Place.Cold) (without p s.queue) s.posted s.inside s.epoch
inv_event g s i Event.Tick m = inv_moved g s i.inv s.saved s.place s.queue s.posted s.inside (suc s.epoch)
inv_event g s i (Event.Cut x heads) m = inv_cut g s i.inv x heads m
inv_event g s i (Event.Ask w) m = i.inv
inv_event g s i (Event.Refused w n k) m = i.inv
inv_event g s i (Event.Miss w) m = i.inv

-- pages, saved contents and places
abbrev CopiedIn : State → Type 0
CopiedIn s = Copied s.page s.saved s.place

copied_moves : (g : Opening) (s : State) → Good g s → (K : Kind) (w : ℕ) (ps : List ℕ) (y : Record) → are_hot s ps ≡ true → CopiedIn (moves s K w ps y)
copied_moves g s i K w ps y h = copied_records s i.copied x (above_pages g s i.inv w ps x h refl refl)
  where
    x : Entry
    x = page_entry K s w (at_pages s w (s.worker w) ps) ps y

copied_event : (g : Opening) (s : State) → Good g s → (e : Event) → are_hot s (pages_of e) ≡ true → needs g s e ≡ true → CopiedIn (happens g s e)
copied_event g s i (Event.Enter w e) h m = i.copied
copied_event g s i (Event.Leave w) h m = copied_leave s.page s.saved s.place w i.copied
copied_event g s i (Event.Begin w f) h m = i.copied
copied_event g s i (Event.Lock w o mode) h m = i.copied
copied_event g s i (Event.Read w p k a) h m = i.copied
copied_event g s i (Event.Next w p k a) h m = go a
  where
    go : (a : MapAnswer) → CopiedIn (follows g s w p a)
    go (MapAnswer.Pair at word) = i.copied
    go (MapAnswer.Gap h) = i.copied
    go (MapAnswer.Value v) = i.copied
    go (MapAnswer.Was v) = i.copied
copied_event g s i (Event.Peek w p k a) h m = i.copied
copied_event g s i (Event.Change w p k v) h m = copied_records s i.copied (write_entry g Kind.Change s w (at_pages s w (s.worker w) (p ∷ [])) p k v) (above_pages g s i.inv w (p ∷ []) (write_entry g Kind.Change s w (at_pages s w (s.worker w) (p ∷ [])) p k v) h refl refl)
copied_event g s i (Event.Put_back w p) h m = go (s.worker w).changes
  where
    go : (cs : List Entry) → CopiedIn (put_back g s w p cs)
    go [] = i.copied
    go (c ∷ cs) = copied_records s i.copied (write_entry g Kind.Put_back s w (at_pages s w (s.worker w) (p ∷ [])) p c.key c.before) (above_pages g s i.inv w (p ∷ []) (write_entry g Kind.Put_back s w (at_pages s w (s.worker w) (p ∷ [])) p c.key c.before) h refl refl)
copied_event g s i (Event.Split w l r q j) h m = copied_moves g s i Kind.Split w (l ∷ r ∷ q ∷ []) (record_needs.split_record (nodes_of s) (gsns_of s) l r q j) h
copied_event g s i (Event.Lift w c) h m = copied_moves g s i Kind.Lift w (0 ∷ c ∷ []) (record_needs.lift_record (nodes_of s) (gsns_of s) c) h
copied_event g s i (Event.Join w l r q) h m = copied_moves g s i Kind.Join w (l ∷ r ∷ q ∷ []) (record_needs.join_record (nodes_of s) (gsns_of s) l r q) h
copied_event g s i (Event.Drop w c) h m = copied_moves g s i Kind.Drop w (0 ∷ c ∷ []) (record_needs.drop_record (nodes_of s) (gsns_of s) c) h
copied_event g s i (Event.Purge w p keys) h m = copied_moves g s i Kind.Purge w (p ∷ []) (record_needs.purge_record (gsns_of s) p keys) h
copied_event g s i (Event.End w commit f) h m = i.copied
copied_event g s i (Event.Unlock w o) h m = i.copied
copied_event g s i (Event.Flush w n) h m = i.copied
copied_event g s i (Event.Sync n) h m = i.copied
copied_event g s i (Event.Post w n) h m = i.copied
copied_event g s i (Event.Fetch p pairs) h m = fetch_copied g s i.copied p pairs (fetch_is g s p pairs m).cold
copied_event g s i (Event.Load p f) h m = copied_load s.page s.saved s.place p f i.copied (load_cold g s p f m)
copied_event g s i (Event.Cool p) h m = copied_place s.page s.saved s.place p (Place.Cooling (frame_of (s.place p)) s.epoch (λ w. is_inside (s.inside w))) refl i.copied
copied_event g s i (Event.Rescue p) h m = copied_place s.page s.saved s.place p (Place.Hot (frame_of (s.place p))) refl i.copied
copied_event g s i (Event.Save p) h m = copied_save s.page s.saved s.place p i.copied
copied_event g s i (Event.Evict p) h m = copied_evict s.page s.saved s.place p i.copied (evict_clean g s p m)
copied_event g s i Event.Tick h m = i.copied
copied_event g s i (Event.Cut x heads) h m = i.copied
copied_event g s i (Event.Ask w) h m = i.copied
copied_event g s i (Event.Refused w n k) h m = i.copied
copied_event g s i (Event.Miss w) h m = i.copied

pub good_event : (g : Opening) (s : State) → Good g s → (e : Event) → may g s e ≡ true → Good g (happens g s e)
good_event g s i e m = let p = and_parts (are_hot s (pages_of e)) (needs g s e) m in record { inv = inv_event g s i e p.1; copied = copied_event g s i e p.0 p.1 }

-- P of a step, from P of the state and P of the event where it may happen
pub step_keeps : (P : State → Type 0) (g : Opening) (s : State) (e : Event) → P s → (may g s e ≡ true → P (happens g s e)) → P (step g s e)
step_keeps P g s e k h = go (may g s e) refl
  where
    go : (b : Bool) → may g s e ≡ b → P (cond b (happens g s e) s)
    go true m = h m
    go false m = k

pub good_step : (g : Opening) (s : State) (e : Event) → Good g s → Good g (step g s e)
good_step g s e i = step_keeps (Good g) g s e i (good_event g s i e)

pub good_run : (g : Opening) (es : List Event) (s : State) → Good g s → Good g (run g s es)
good_run g [] s i = i
good_run g (e ∷ es) s i = good_run g es (step g s e) (good_step g s e i)

pub good_start : (g : Opening) → Good g (start g)
good_start g = record { inv = inv_start g; copied = copied_start g }
