-- Where no frame can be given: nothing but a sync helps; and behind one it is not so.
use Rattle.std.proofs.Common.{◌≡◌, ◌∙◌, ◌≤◌, ◌<◌, ◌+◌, ◌++◌, ◌||◌, ◌⊎◌, inl, inr, ℕ, zero, suc, Bool, true, false, List, [], ◌∷◌, Some, None, ap, refl, sym, subst, arith, true≢false}
use Rattle.desk_parts.specs.core_calls.Fronts.{Done}
use Rattle.desk_parts.proofs.core_calls.WhereLemmas.{syncs_due}
use Rattle.desk_parts.specs.core_calls.LogEvents.{IsTaken, IsTight, IsTightBeside}
use Rattle.core_covers.specs.Lows.{EveryLow, IsAllFlushed}
use Rattle.desk_parts.specs.core_state.Events as happening
use Rattle.rfa_model.specs.Reaches.{least}
use Rattle.desk_parts.specs.core_state.Local.{is_sync}
use Rattle.desk_parts.specs.core_state.Openings.{Opening}
use Rattle.desk_parts.specs.core_state.States.{State, flushed_by_all, is_cold}
use Rattle.desk_parts.specs.core_state.Steps.{state_after}
use Rattle.desk_parts.specs.engine_calls.Parts.{behind_first}
use Rattle.lean_disk.specs.Story.{Story}
use Rattle.map_model.specs.Lists.{any}
use Rattle.page_model.specs.Nodes.{Format, covers}
use Rattle.page_pool.specs.Full.{IsHeldBack}
use Rattle.page_pool.specs.Counts.{hot_pages}
use Rattle.paged_rows.specs.Paged.{IsNamedIn, Paged}
use Rattle.paged_rows.specs.Warms.{IsCrowded, IsKept, IsNeeded}
use Rattle.paged_rows.specs.declared.wanted.Wanted.{Wanted}
use Rattle.paged_rows.specs.declared.wanted.Wanted.TheVariants as want
use Rattle.desk_parts.specs.row_opening.Openings.{EveryNeed, EveryReached}
use Rattle.desk_parts.specs.row_words.Moments.{events_of}
use Rattle.desk_parts.specs.row_words.Openings.{opening}
use Rattle.desk_parts.specs.rows_trait.declared.view.View.{View}
use Rattle.desk_parts.specs.rows_trait.Views.{state}
use Rattle.desk_parts.specs.session_desks.Syncs.{HasOpening}
use Rattle.desk_parts.proofs.session_desks.SyncViews.{core_is}
use Rattle.desk_parts.specs.session_state.Ties.{Behind}
use Rattle.paged_desks.specs.Machines.{IsNobodyInside, view_of}
use Rattle.paged_desks.specs.Pages.{HasPagedWhere, IsTightFor, hot_in}
use Rattle.paged_desks.specs.Syncs.{IsSynced}
use Rattle.paged_desks.specs.declared.machine.PagedMachine.{PagedMachine}
use Rattle.paged_desks.proofs.Going.{any_join}

-- nobody holds a page back where nobody is inside
free_of : (s : State) (p : ℕ) → IsNobodyInside s → IsHeldBack s p → ⊥
free_of s p outside h = none_some h.epoch (sym (outside h.worker) ∙ h.inside)
  where
    none_some : (e : ℕ) → None ≡ Some e → ⊥
    none_some e q = cc

-- ## A sync is due

module _ (key : ℕ) (wanted : Wanted) (on above held : ℕ) (q : Paged) (outside : IsNobodyInside (state q.view).core) (c : IsCrowded key wanted on above held q) where
  taken : (f : ℕ) → IsKept key f q → IsTaken (opening q.view.given) (state q.view).core key f
  taken f k = record { page = k.page; here = k.here; stays = go k.why }
    where
      go : {A B : Type 0} → A ⊎ (B ⊎ IsHeldBack (state q.view).core k.page) → A ⊎ B
      go (inl a) = inl a
      go (inr (inl b)) = inr b
      go (inr (inr h)) = absurd (free_of (state q.view).core k.page outside h)

  tight_for : (w : Wanted) → IsNeeded key w c.page q → IsTightFor w key (opening q.view.given) (state q.view).core
  tight_for want.Way n = record { page = c.page; below = c.below; needed = inl n; cold = c.cold; taken = λ f lt. taken f (c.kept f lt) }
  tight_for (want.Free page) n = record { page = c.page; below = c.below; needed = inr n.1; cold = c.cold; taken = λ f lt. taken f (c.kept f lt) }
  tight_for (want.Beside page) n = let b = subst (IsNamedIn (opening q.view.given) (state q.view).core key) n.0 n.1 in record { parent = b.parent; below = b.below; on = b.on; names = b.names; cold = subst (λ p. is_cold ((state q.view).core.place p) ≡ true) n.0 c.cold; taken = λ f lt. taken f (c.kept f lt) }

  pub tight_is : IsTightFor wanted key (opening q.view.given) (state q.view).core
  tight_is = tight_for wanted c.needed

-- an opening of the same sizes says the same
taken_in : (g h : Opening) (s : State) (key f : ℕ) → h.workers ≡ g.workers → IsTaken g s key f → IsTaken h s key f
taken_in g h s key f e t = record { page = t.page; here = t.here; stays = subst (λ n. (covers (s.page t.page).node key ≡ true) ⊎ (least s.flushed n < (s.page t.page).gsn)) (sym e) t.stays }

tight_in : (g h : Opening) (s : State) (key : ℕ) → h.workers ≡ g.workers → h.frames ≡ g.frames → h.format ≡ g.format → IsTight g s key → IsTight h s key
tight_in g h s key workers frames format t = record {
  page = t.page;
  below = subst (λ (f : Format). t.page < f.pages) (sym format) t.below;
  needed = t.needed;
  cold = t.cold;
  taken = λ f lt. taken_in g h s key f workers (t.taken f (subst (λ k. f < k) frames lt));
}

beside_in : (g h : Opening) (s : State) (key page : ℕ) → h.workers ≡ g.workers → h.frames ≡ g.frames → h.format ≡ g.format → IsTightBeside key page g s → IsTightBeside key page h s
beside_in g h s key page workers frames format t = record {
  parent = t.parent;
  below = subst (λ (f : Format). t.parent < f.pages) (sym format) t.below;
  on = t.on;
  names = t.names;
  cold = t.cold;
  taken = λ f lt. taken_in g h s key f workers (t.taken f (subst (λ k. f < k) frames lt));
}

for_in : (wanted : Wanted) (key : ℕ) (g h : Opening) (s : State) → h.workers ≡ g.workers → h.frames ≡ g.frames → h.format ≡ g.format → IsTightFor wanted key g s → IsTightFor wanted key h s
for_in want.Way key g h s workers frames format t = tight_in g h s key workers frames format t
for_in (want.Free page) key g h s workers frames format t = tight_in g h s key workers frames format t
for_in (want.Beside page) key g h s workers frames format t = beside_in g h s key page workers frames format t

-- in a run
pub for_behind : EveryReached → EveryNeed → (wanted : Wanted) (key : ℕ) (g : Opening) (xs : List Done) (first : List happening.Event) (v : View) → Behind g xs first v → IsTightFor wanted key (opening v.given) (state v).core → IsTightFor wanted key g (behind_first g xs first)
for_behind reached needs wanted key g xs first v b t =
    let o = b.opens in subst (λ s. IsTightFor wanted key g s) (core_is reached needs g xs first v b) (for_in wanted key (opening v.given) g (state v).core o.workers o.frames o.format t)

pub tight_behind : EveryReached → EveryNeed → (g : Opening) (xs : List Done) (first : List happening.Event) (v : View) (key : ℕ) → Behind g xs first v → IsTight (opening v.given) (state v).core key → IsTight g (behind_first g xs first) key
tight_behind reached needs g xs first v key b t =
    let o = b.opens in subst (λ s. IsTight g s key) (core_is reached needs g xs first v b) (tight_in (opening v.given) g (state v).core key o.workers o.frames o.format t)

-- ## A sync, where it is due

module _ {D : Type 0} (story : D → Story) (wanted : Wanted) (key : ℕ) (m n : PagedMachine D) (reached : EveryReached) (needs : EveryNeed) {number : ℕ} (s : IsSynced story m n number) (t : IsTightFor wanted key (opening (view_of m).given) (state (view_of m)).core) where
  or_true : (b : Bool) → (b || true) ≡ true
  or_true true = refl
  or_true false = refl

  synced : any is_sync (events_of s.events) ≡ true
  synced = ap (any is_sync) s.sync.1 ∙ (any_join is_sync s.sync.0 (happening.Event.Sync number ∷ []) ∙ or_true (any is_sync s.sync.0))

  hot : hot_in n ≡ hot_in m
  hot = (λ i. hot_pages (opening (s.given i)) (state (view_of n)).core) ∙ ap (hot_pages (opening (view_of m).given)) s.rest

  pub paged_sync : HasPagedWhere (IsTightFor wanted key) (suc m.machine.work.session.workers) m n
  paged_sync = record {
    events = s.events;
    given = s.given;
    seen = s.seen;
    paging = s.paging;
    few = let h = hot in let f = s.few in omega arith;
    same = s.same;
    turn = s.turn;
    sessions = s.sessions;
    logged = s.logged;
    master = λ none. absurd (true≢false (sym synced ∙ none));
    behind = s.behind;
    tight = λ g xs first f. syncs_due (IsTightFor wanted key g) g number (events_of s.events) (behind_first g xs first) s.sync (for_behind reached needs wanted key g xs first (view_of m) f t);
  }

  pub sync_events : paged_sync.events ≡ s.events
  unfolding paged_sync
  sync_events = refl

-- ## Behind a sync

-- no page is above what is flushed everywhere, and so there is a frame
module _ (key : ℕ) (wanted : Wanted) (on above held : ℕ) (q : Paged) (reached : EveryReached) (lows : EveryLow) (o : HasOpening q.view.given) (frames : 8 < q.pager.frames) (outside : IsNobodyInside (state q.view).core) (low : IsAllFlushed (opening q.view.given) (state q.view).core) where
  none_above : (p : ℕ) → ((state q.view).core.page p).gsn ≤ flushed_by_all (opening q.view.given) (state q.view).core
  none_above p =
      let g = o.opening in
      let es = events_of q.view.given.before ++ events_of q.view.seen in
      let at = reached g q.view.given o.opens q.view.seen in
      let all : IsAllFlushed g (state_after g es) = subst (IsAllFlushed g) at (subst (λ n. (w : ℕ) → 0 < w → w ≤ n → ((state q.view).core.worker w).clock ≤ least (state q.view).core.flushed n) (sym o.opens.workers) low) in
      let l = lows g es all p in
      let x = ap (λ (s : State). (s.page p).gsn) at in
      let y = ap (λ (s : State). least s.flushed g.workers) at in
      let z = ap (least (state q.view).core.flushed) o.opens.workers in omega arith

  pub never_full : IsCrowded key wanted on above held q → ⊥
  never_full c = go above held c.sum c.some_above c.some_held
    where
      few : on ≤ 8
      few = c.few

      go : (a h : ℕ) → on + a + h ≡ q.pager.frames → (0 < a → (p : ℕ) × (Rattle.desk_parts.specs.core_state.States.is_cooling ((state q.view).core.place p) ≡ true) × (flushed_by_all (opening q.view.given) (state q.view).core < ((state q.view).core.page p).gsn))
          → (0 < h → (p : ℕ) × (Rattle.desk_parts.specs.core_state.States.is_cooling ((state q.view).core.place p) ≡ true) × IsHeldBack (state q.view).core p) → ⊥
      go zero zero sum x y = let f = few in let k = frames in omega arith
      go zero (suc h) sum x y = let p = y (omega arith) in free_of (state q.view).core p.0 outside p.2
      go (suc a) h sum x y = let p = x (omega arith) in let k = none_above p.0 in let l = p.2 in omega arith
