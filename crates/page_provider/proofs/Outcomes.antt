-- What a call of the pager says where it refused, and where a page was saved or has left.
use Rattle.std.proofs.Common.{◌≡◌, ◌≢◌, ◌<◌, ◌≤◌, ◌||◌, ◌⊎◌, inl, inr, ℕ, Bool, true, false, List, [], ◌∷◌, ◌++◌, append-nil, length, Some, slice_get, refl, sym, ap, subst, ◌∙◌, arith, true≢false}
use Rattle.btree_descent.specs.core_state.Lists.{times}
use Rattle.btree_descent.specs.core_state.Needs.{is_dirty}
use Rattle.btree_descent.specs.core_state.States.{flushed_by_all, frame_of, in_frame}
use Rattle.btree_descent.specs.core_paging.Paging.{one_if}
use Rattle.cooling_stage.specs.declared.stage.Cooling.{Cooling}
use Rattle.cooling_stage.specs.Queue.{found}
use Rattle.btree_descent.specs.row_words.declared.event.Event.{Event}
use Rattle.btree_descent.specs.row_words.declared.event.Event.TheVariants as told
use Rattle.btree_descent.specs.row_words.declared.event.Event.TheVariants.{Evict, Save}
use Rattle.btree_descent.specs.row_words.Moments.{pager}
use Rattle.btree_descent.specs.row_words.Openings.{opening}
use Rattle.btree_descent.specs.rows_trait.declared.view.View.{View}
use Rattle.btree_descent.specs.rows_trait.Turns.{Ran}
use Rattle.btree_descent.specs.rows_trait.Views.{Shape, may, state}
use Rattle.btree_descent.proofs.rows_trait.Runs.{ran_append, ran_none}
use Rattle.row_image.specs.Images.{StaysIn}
use Rattle.page_calls.specs.declared.slots.Slot.{Slot}
use Rattle.page_moves.specs.Moves.{IsMet, IsPager}
use Rattle.page_provider.specs.declared.refusal.Refusal.{Refusal}
use Rattle.page_provider.specs.declared.refusal.Refusal.TheVariants as refusal
use Rattle.page_provider.specs.Evicts.{HasStayed, saving}
use Rattle.page_provider.specs.Inside.{IsEntered, MayGo, Missed}
use Rattle.page_provider.specs.Laws.{RowLaws}
use Rattle.page_provider.specs.Providers.{Provider, Keeps, pool}
use Rattle.page_provider.specs.Refusals.{IsOfEvict, IsOfRow, SpentAt, breaks}
use Rattle.page_provider.specs.Steps.{AreMisses, IsMissAtMost}
use Rattle.page_provider.proofs.Departures.{evict_met, go_on, low_on, page_on, save_met}
use Rattle.page_provider.proofs.Loaded.{caused_before, spent_before}
use Rattle.page_provider.proofs.Keeping.{keeps_ran, keeps_slots, plays, ran_stood}
use Rattle.page_provider.proofs.Pools.{found_entry, found_long, found_some}

-- ## Refusals

few_are : (es : List Event) → IsMissAtMost es → AreMisses es
few_are [] k = tt
few_are (told.Miss w ∷ []) k = tt
few_are (told.Miss w ∷ (e ∷ es)) k = absurd k
few_are (_ ∷ es) k = absurd k

row_breaks : (why : Refusal) → IsOfRow why → breaks why ≡ false
row_breaks (refusal.Moved m) k = refl
row_breaks (refusal.Latched l) k = refl
row_breaks (refusal.RowSpent row) k = refl
row_breaks _ k = absurd k

row_evict : (why : Refusal) → IsOfRow why → IsOfEvict why
row_evict (refusal.Moved m) k = tt
row_evict (refusal.Latched l) k = tt
row_evict (refusal.RowSpent row) k = tt
row_evict _ k = absurd k

pub row_other : (why : Refusal) → IsOfRow why → (why ≡ refusal.Broken → ⊥) × (why ≡ refusal.DiskFault → ⊥)
row_other (refusal.Moved m) k = (λ e. cc, λ e. cc)
row_other (refusal.Latched l) k = (λ e. cc, λ e. cc)
row_other (refusal.RowSpent row) k = (λ e. cc, λ e. cc)
row_other _ k = absurd k

or_false : (b : Bool) → b ≡ (b || false)
or_false true = refl
or_false false = refl

or_true : (b : Bool) → true ≡ (b || true)
or_true true = refl
or_true false = refl

-- a row of the call was not as it has to be
pub stayed_missed : {z : Shape} {v u w : View} {k : Provider} {page f : ℕ} {why : Refusal} → RowLaws → Keeps z v k → v.held ≡ [] → Ran z.alone v [] u → u.held ≡ [] → frame_of ((state v).core.place page) ≡ f → Missed z u why w → SpentAt f u why w → HasStayed z v k page why w k
stayed_missed {z = z} {v = v} {u = u} {w = w} {k = k} {why = why} laws c none r free frame m spent = record {
  saved = false;
  misses = m.misses;
  few = m.few;
  goes = record { ran = all; held = m.held ∙ free; keeps = keeps_ran laws.stood laws.standing (few_are m.misses m.few) all c };
  dirty = λ e. absurd (true≢false (sym e));
  pool = refl;
  broken = subst (λ b. k.broken ≡ (k.broken || b)) (sym (row_breaks why m.kind)) (or_false k.broken);
  kind = row_evict why m.kind;
  cause = caused_before w why r.since m.cause;
  spent = spent_before w why (sym frame) r.since spent;
  quiet = λ alone o. m.quiet alone free o;
  earlier = λ e. absurd ((row_other why m.kind).0 e);
}
  where
    all : Ran z.alone v m.misses w
    all = ran_append z.alone v [] u m.misses w r m.ran

-- the device failed, and the row was given up
pub stayed_failed : {z : Shape} {v w : View} {k : Provider} {page : ℕ} {es : List Event} → RowLaws → (slots : List Slot) → Keeps z v k → IsMissAtMost es → Ran z.alone v es w → w.held ≡ [] → HasStayed z v k page refusal.DiskFault w (record k { slots = slots; broken = true })
stayed_failed {z = z} {v = v} {w = w} {k = k} {es = es} laws slots c few r none = record {
  saved = false;
  misses = es;
  few = few;
  goes = record { ran = r; held = none; keeps = keeps_slots slots true (keeps_ran laws.stood laws.standing (few_are es few) r c) };
  dirty = λ e. absurd (true≢false (sym e));
  pool = refl;
  broken = or_true k.broken;
  kind = tt;
  cause = tt;
  spent = tt;
  quiet = λ alone o. o;
  earlier = λ e. absurd (cc);
}

-- an earlier call had failed
pub stayed_broken : {z : Shape} {v : View} {k : Provider} {page : ℕ} → Keeps z v k → v.held ≡ [] → k.broken ≡ true → HasStayed z v k page refusal.Broken v k
stayed_broken {z = z} {v = v} {k = k} c none well = record {
  saved = false;
  misses = [];
  few = tt;
  goes = record { ran = ran_none z.alone v; held = none; keeps = c };
  dirty = λ e. absurd (true≢false (sym e));
  pool = refl;
  broken = or_false k.broken;
  kind = tt;
  cause = tt;
  spent = tt;
  quiet = λ alone o. o;
  earlier = λ e. well;
}

-- a part of the call refused, before which nothing was appended
pub stayed_after : {z : Shape} {v u w : View} {k is : Provider} {page : ℕ} {why : Refusal} → Ran z.alone v [] u → is_dirty (state u).core page ≡ is_dirty (state v).core page → frame_of ((state u).core.place page) ≡ frame_of ((state v).core.place page)
    → HasStayed z u k page why w is → HasStayed z v k page why w is
stayed_after {z = z} {v = v} {u = u} {w = w} {page = page} {why = why} r same frame s = record {
  saved = s.saved;
  misses = s.misses;
  few = s.few;
  goes = record { ran = ran_append z.alone v [] u (saving s.saved page ++ s.misses) w r s.goes.ran; held = s.goes.held; keeps = s.goes.keeps };
  dirty = λ e. sym same ∙ s.dirty e;
  pool = s.pool;
  broken = s.broken;
  kind = s.kind;
  cause = caused_before w why r.since s.cause;
  spent = spent_before w why frame r.since s.spent;
  quiet = s.quiet;
  earlier = s.earlier;
}

-- a part of the call refused, before which the page was saved
pub stayed_saved : {z : Shape} {v u w : View} {was k : Provider} {page : ℕ} {why : Refusal} → Ran z.alone v (Save page ∷ []) u → is_dirty (state v).core page ≡ true → is_dirty (state u).core page ≡ false
    → frame_of ((state u).core.place page) ≡ frame_of ((state v).core.place page) → k ≡ record was { slots = k.slots }
    → HasStayed z u k page why w k → HasStayed z v was page why w k
stayed_saved {z = z} {v = v} {u = u} {w = w} {was = was} {k = k} {page = page} {why = why} r dirty clean frame pool s = go s.saved refl
  where
    go : (b : Bool) → s.saved ≡ b → HasStayed z v was page why w k
    go true e = absurd (true≢false (sym (s.dirty e) ∙ clean))
    go false e = record {
      saved = true;
      misses = s.misses;
      few = s.few;
      goes = record { ran = ran_append z.alone v (Save page ∷ []) u s.misses w r (subst (λ b. Ran z.alone u (saving b page ++ s.misses) w) e s.goes.ran); held = s.goes.held; keeps = s.goes.keeps };
      dirty = λ _. dirty;
      pool = pool ∙ ap (λ b. record was { slots = k.slots; broken = b }) (sym (ap (λ (p : Provider). p.broken) pool));
      broken = s.broken ∙ ap (λ b. b || breaks why) (ap (λ (p : Provider). p.broken) pool);
      kind = s.kind;
      cause = caused_before w why r.since s.cause;
      spent = spent_before w why frame r.since s.spent;
      quiet = s.quiet;
      earlier = λ q. sym (ap (λ (p : Provider). p.broken) pool) ∙ s.earlier q;
    }

-- ## The page and its frame

module _ {z : Shape} {v : View} {k : Provider} (c : Keeps z v k) where
  -- a page that cools stands in the queue
  pub entered_some : {page : ℕ} → MayGo v page → (x : Cooling) × (found page k.queue ≡ Some x)
  entered_some {page} m =
      let t : times page (Rattle.std.proofs.Common.map (λ x. x.page) k.queue) ≡ 1 = ap (times page) c.agrees.queue ∙ ((c.sound v.seen).residence.queue page ∙ ap one_if m.cooling) in
      found_some page k.queue (omega arith)

  module _ {entry : Cooling} (e : IsEntered v k entry) where
    pub entry_frame : in_frame ((state v).core.place entry.page) entry.frame ≡ true
    entry_frame = let f = found_entry entry.page k.queue entry e.found_is in (c.agrees.entries entry f.has).frame

    pub entry_within : entry.frame < k.frames
    entry_within = subst (λ n. entry.frame < n) c.sized.given ((c.sound v.seen).residence.within entry.page entry.frame entry_frame).1

    -- there is room for one more empty frame
    pub entry_room : RowLaws → length k.empty < k.frames
    entry_room laws =
        let count = laws.counts (opening v.given) (state v).core (pool k) (c.sound v.seen).residence c.agrees in
        let some = found_long entry.page k.queue entry e.found_is in
        let given = c.sized.given in
        omega arith

    pub entry_stays : RowLaws → StaysIn z.alone v entry.frame entry.page
    entry_stays laws = laws.stays z.alone v entry.frame entry.page (either z.alone c.actor) entry_frame
      where
        either : (alone : Bool) → may alone v pager ≡ true → (alone ≡ true) ⊎ (v.actor ≡ pager)
        either true m = inl refl
        either false m = inr (plays false v m refl)

  pub is_pager : IsPager z v
  is_pager = record { actor = c.actor; order = λ es. let s = c.sound es in record { tree = s.tree; places = s.residence } }

pub entered_on : {z : Shape} {v u : View} {k : Provider} {entry : Cooling} → RowLaws → Keeps z v k → Ran z.alone v [] u → IsEntered v k entry → IsEntered u k entry
entered_on laws c r e = record { goes = go_on r.given (ran_stood laws.stood c tt r) e.goes; found_is = e.found_is }

-- up to F, whatever others have done since
pub low_ran : {z : Shape} {v u : View} {k : Provider} {page : ℕ} → RowLaws → Keeps z v k → v.held ≡ [] → MayGo v page → Ran z.alone v [] u → ((state v).core.page page).gsn ≤ flushed_by_all (opening v.given) (state v).core
    → ((state u).core.page page).gsn ≤ flushed_by_all (opening u.given) (state u).core
low_ran {z = z} {v = v} {u = u} laws c none m r low =
    let a = ap (λ x. x.gsn) (page_on (ran_stood laws.stood c tt r) m) in
    let b = low_on laws.loads z v u r.more none r.given r.seen (quiet z.alone r) in
    omega arith
  where
    quiet : (alone : Bool) → (q : Ran alone v [] u) → Rattle.btree_descent.specs.rows_trait.Views.NoSync q.more
    quiet true q = subst Rattle.btree_descent.specs.rows_trait.Views.NoSync (sym (q.all refl)) tt
    quiet false q = q.part refl

pub may_save : {v : View} {page : ℕ} → MayGo v page → ((state v).core.page page).gsn ≤ flushed_by_all (opening v.given) (state v).core → IsMet v (Save page)
may_save {v = v} {page = page} m low = save_met (opening v.given) (state v).core page m.cooling low

pub may_evict : {v : View} {page : ℕ} → MayGo v page → is_dirty (state v).core page ≡ false → IsMet v (Evict page)
may_evict {v = v} {page = page} m clean = evict_met (opening v.given) (state v).core page m.cooling clean m.unwaited
