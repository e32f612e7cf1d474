-- The next master of a run is written and synced.
use Rattle.std.proofs.Common.{◌≡◌, ◌⊎◌, inl, inr, ⊎_elim, ◌≤◌, ◌<◌, ◌-◌, ◌*◌, ℕ, suc, true, List, [], ◌∷◌, ◌++◌, length, drop, slice_index_or, Option, Some, codes, refl, sym, ap, ap₂, ◌∙◌, subst, arith}
use Rattle.std.proofs.lemmas.Bool.{cond-true}
use Rattle.std.proofs.lemmas.List.{drop_all}
use Rattle.map_model.specs.Lists.{Has}
use Rattle.page_model.specs.Page.{Page}
use Rattle.master_store.specs.image_model.Fair.{IsFair}
use Rattle.core_disk.specs.core_state.Openings.{Opening}
use Rattle.core_disk.specs.core_state.States.{State}
use Rattle.core_disk.specs.core_state.Events.{Event}
use Rattle.core_disk.specs.core_state.Needs.{may}
use Rattle.core_disk.specs.core_state.Steps.{happens, state_after}
use Rattle.core_disk.specs.core_crash.Crashes.{from_head, log_of}
use Rattle.lean_disk.specs.Area.{Area, Leaves, Write, synced, torn}
use Rattle.lean_disk.specs.Calls.{Synced, Wrote}
use Rattle.lean_disk.specs.Moments.{CrashIn, LeavesOnly}
use Rattle.lean_disk.specs.Story.{Crash, IsLawful, LeavesNow, Story, Tells}
use Rattle.lean_disk.specs.declared.disk.Did.{Did}
use Rattle.lean_disk.proofs.MomentLemmas.{goes_on, started, weaker}
use Rattle.master_store.specs.log_record.declared.record.Record.{Record}
use Rattle.master_store.specs.disk_slots.Masters.{master_slot}
use Rattle.master_store.specs.disk_slots.Slots.{IsSealed}
use Rattle.master_store.specs.disk_slots.declared.master.Master.{Master}
use Rattle.master_store.specs.disk_image.Laws.{EverySealed}
use Rattle.master_store.specs.disk_image.MasterSlots.{master_on}
use Rattle.master_store.specs.disk_image.Runs.{sealed_in}
use Rattle.master_store.specs.Masters.{WritesOnce}
use Rattle.worker_log.specs.Accounts.{joined, records_of}
use Rattle.worker_log.specs.Kept.{EndsAt, RiseFrom}
use Rattle.worker_log.specs.Laws.{EveryPrefix, EveryKept}
use Rattle.core_disk.specs.Held.{HoldsRun}
use Rattle.core_disk.specs.Versions.{EveryVersion, then}
use Rattle.core_disk.proofs.FloorLemmas.{every_floor_step}
use Rattle.core_disk.proofs.VersionLemmas.{state_then}
use Rattle.disk_runs.specs.Logs.{LogStands}
use Rattle.disk_runs.specs.Masters.{MasterStands, slot_of}
use Rattle.disk_runs.specs.MasterLaws.{EveryMaster, EveryMasterWrite, EveryNextMaster, EveryStillSync, EverySync, Installs, InstallsNext, IsAllSynced, IsStillSync, IsSync, LeavesEither, StandsNext, WritesNext, raised, with_sync}
use Rattle.disk_runs.specs.Pages.{PagesStand, Firm}
use Rattle.disk_runs.specs.Stands.{Known, Stands}
use Rattle.disk_runs.proofs.LogLemmas.{rests_log}
use Rattle.disk_runs.proofs.MasterLemmas.{counts_either, next_stands}
use Rattle.disk_runs.proofs.SlotLemmas.{one_more}
use Rattle.disk_runs.proofs.PageLemmas.{holds_page}
use Rattle.disk_runs.proofs.StandLemmas.{every_rest, log_part, page_part, still_pages}
use Rattle.master_store.specs.disk_image.Formats.{format_of}

module _ (keeps : EveryKept) (prefixes : EveryPrefix) (seals : EverySealed) (s0 : Crash) (old : Story) (g : Opening) (es : List Event) (e : Event) (x y : Known) (stands : Stands g es s0 x old)
    (later : StandsNext g es e s0 x y old) where
  abbrev n : Master
  n = x.master

  abbrev m : Master
  m = y.master

  abbrev place : ℕ
  place = 1024 * slot_of m

  abbrev bytes : List ℕ
  bytes = master_slot m

  -- a crash that leaves of area 0 what one may in the write, and of the others what one may have left before it
  pub record InWrite (c : Crash) : Type 0 where
    pub left : Leaves (torn place bytes (old.area 0)) (c.image 0)
    pub wrote : (c.writes 0 ≡ (place, bytes) ∷ (old.area 0).writes) ⊎ (c.writes 0 ≡ (old.area 0).writes)
    pub writes : (a : ℕ) → (a ≡ 0 → ⊥) → a ≤ suc g.workers → c.writes a ≡ (old.area a).writes
    pub leaves : (a : ℕ) → (a ≡ 0 → ⊥) → a ≤ suc g.workers → Leaves (old.area a) (c.image a)

  either : (c : Crash) → InWrite c → LeavesEither g es e s0 n m c
  either c it fair = ⊎_elim (λ is_n. inl (by_old is_n)) (λ is_m. inr (by_new is_m))
      (counts_either n (s0.image 0) (s0.writes 0) (old.area 0) stands.master m later.next later.valid (c.image 0) it.left fair_since)
    where
      fair_since : IsFair 1024 (IsSealed (codes "LEANMAST")) (s0.image 0) ((place, bytes) ∷ stands.master.since) (c.image 0)
      fair_since = ⊎_elim
          (λ recorded. fair.masters ((place, bytes) ∷ stands.master.since) (recorded ∙ ap (λ (ws : List Write). (place, bytes) ∷ ws) stands.master.writes))
          (λ not_so. one_more 1024 (IsSealed (codes "LEANMAST")) (s0.image 0) (place, bytes) stands.master.since (c.image 0) (fair.masters stands.master.since (not_so ∙ stands.master.writes)))
          it.wrote

      by_old : master_on (c.image 0) ≡ Some n → HoldsRun g es n c.image
      by_old is_n = record {
        master = is_n;
        is = stands.is;
        logs = λ w low high. log_part keeps prefixes seals g es s0 x old stands c fair w low high (it.writes (suc w) (λ k. omega arith) (omega arith)) (it.leaves (suc w) (λ k. omega arith) (omega arith));
        pages = page_part keeps prefixes seals g es s0 x old stands c fair (it.writes 1 (λ k. omega arith) (omega arith)) (it.leaves 1 (λ k. omega arith) (omega arith));
      }

      by_new : master_on (c.image 0) ≡ Some m → HoldsRun g (then es e) m c.image
      by_new is_m = record {
        master = is_m;
        is = later.is;
        logs = λ w low high. rests_log keeps prefixes seals g (then es e) m (s0.image (suc w)) (s0.writes (suc w)) w (y.account w) (y.log w) (old.area (suc w)) (later.logs w low high) (c.image (suc w))
            (it.leaves (suc w) (λ k. omega arith) (omega arith)) (λ since q. fair.log w low high since (it.writes (suc w) (λ k. omega arith) (omega arith) ∙ q));
        pages = holds_page g (then es e) m (s0.image 1) (s0.writes 1) y.firm y.late (old.area 1) later.pages (c.image 1) (it.leaves 1 (λ k. omega arith) (omega arith))
            (fair.pages later.pages.since (it.writes 1 (λ k. omega arith) (omega arith) ∙ later.pages.writes));
      }

  started_so : IsLawful old → LeavesOnly old old (LeavesEither g es e s0 n m)
  started_so law = started old (LeavesEither g es e s0 n m) law (λ c now fair. inl (every_rest keeps prefixes seals old s0 g es x stands c now fair))

  t0 : (a : ℕ) → a ≤ suc g.workers → Tells old a
  t0 = stands.tells

  module _ (law : IsLawful old) (mid : Story) (r1 : Did) (wrote : Wrote 0 place bytes r1 old mid) where
    t1 : (a : ℕ) → a ≤ suc g.workers → Tells mid a
    t1 a l = wrote.time.tells a ∙ t0 a l

    in_write : (c : Crash) → LeavesNow mid c → InWrite c
    in_write c now = record {
      left = wrote.crash (t0 0 (omega arith)) (c.image 0) (now.leaves 0 (t1 0 (omega arith)));
      wrote = ⊎_elim (λ q. inl (now.writes 0 (t1 0 (omega arith)) ∙ q)) (λ q. inr (now.writes 0 (t1 0 (omega arith)) ∙ q)) (wrote.writes (t0 0 (omega arith)));
      writes = λ a ne l. now.writes a (t1 a l) ∙ ap (λ (z : Area). z.writes) (wrote.elsewhere a ne);
      leaves = λ a ne l. subst (λ (z : Area). Leaves z (c.image a)) (wrote.elsewhere a ne) (now.leaves a (t1 a l));
    }

    pub while_written : LeavesOnly old mid (LeavesEither g es e s0 n m)
    while_written = goes_on old old mid (LeavesEither g es e s0 n m) (started_so law) wrote.time (λ c now. either c (in_write c now))

    module _ (new : Story) (r2 : Did) (done_so : Synced 0 r2 mid new) where
      t2 : (a : ℕ) → a ≤ suc g.workers → Tells new a
      t2 a l = done_so.time.tells a ∙ t1 a l

      in_sync : (c : Crash) → LeavesNow new c → InWrite c
      in_sync c now = record {
        left = wrote.crash (t0 0 (omega arith)) (c.image 0) (done_so.crash (t1 0 (omega arith)) (c.image 0) (now.leaves 0 (t2 0 (omega arith))));
        wrote = ⊎_elim (λ q. inl (now.writes 0 (t2 0 (omega arith)) ∙ (done_so.writes ∙ q))) (λ q. inr (now.writes 0 (t2 0 (omega arith)) ∙ (done_so.writes ∙ q))) (wrote.writes (t0 0 (omega arith)));
        writes = λ a ne l. now.writes a (t2 a l) ∙ ap (λ (z : Area). z.writes) (done_so.elsewhere a ne ∙ wrote.elsewhere a ne);
        leaves = λ a ne l. subst (λ (z : Area). Leaves z (c.image a)) (done_so.elsewhere a ne ∙ wrote.elsewhere a ne) (now.leaves a (t2 a l));
      }

      same : (a : ℕ) → (a ≡ 0 → ⊥) → new.area a ≡ old.area a
      same a ne = done_so.elsewhere a ne ∙ wrote.elsewhere a ne

      pub installs : Installs g es e s0 x y r1 r2 old new
      installs = record {
        any_moment = goes_on old mid new (LeavesEither g es e s0 n m) while_written done_so.time (λ c now. either c (in_sync c now));
        after = λ d1 d2. record {
          tells = t2;
          is = later.is;
          master = subst (MasterStands m (s0.image 0) (s0.writes 0)) (sym (done_so.done (t1 0 (omega arith)) d2 ∙ ap synced (wrote.done (t0 0 (omega arith)) d1)))
              (next_stands n (s0.image 0) (s0.writes 0) (old.area 0) stands.master m later.next later.valid);
          pages = subst (PagesStand g (then es e) m.pages m.generation (s0.image 1) (s0.writes 1) y.firm y.late) (sym (same 1 (λ k. omega arith))) later.pages;
          saved = later.saved;
          logs = λ w low high. subst (LogStands (state_after g (then es e)) m (s0.image (suc w)) (s0.writes (suc w)) w (y.account w) (y.log w)) (sym (same (suc w) (λ k. omega arith))) (later.logs w low high);
        };
      }

-- one call that writes the next master and syncs it
module _ (keeps : EveryKept) (prefixes : EveryPrefix) (seals : EverySealed) (s0 : Crash) (old new : Story) (g : Opening) (es : List Event) (e : Event) (x y : Known) (r : Did) (stands : Stands g es s0 x old)
    (later : StandsNext g es e s0 x y old) (wrote : WritesNext y.master r old new) where
  leaves_either : (c : Crash) → CrashIn old 0 (WritesOnce (1024 * slot_of y.master) (master_slot y.master) (old.area 0)) c → LeavesEither g es e s0 x.master y.master c
  leaves_either c it = either keeps prefixes seals s0 old g es e x y stands later c (record {
    left = it.here.leaves;
    wrote = ⊎_elim inr inl it.here.writes_are;
    writes = λ a ne l. it.writes a ne (stands.tells a l);
    leaves = λ a ne l. it.leaves a ne (stands.tells a l);
  })

  pub installs_next : InstallsNext g es e s0 x y r old new
  installs_next = record {
    any_moment = weaker old new (CrashIn old 0 (WritesOnce (1024 * slot_of y.master) (master_slot y.master) (old.area 0))) (LeavesEither g es e s0 x.master y.master) leaves_either wrote.any_moment;
    after = λ done. record {
      tells = λ a l. wrote.frame.tells a ∙ stands.tells a l;
      is = later.is;
      master = subst (MasterStands y.master (s0.image 0) (s0.writes 0)) (sym (wrote.done done (stands.tells 0 (omega arith)))) (next_stands x.master (s0.image 0) (s0.writes 0) (old.area 0) stands.master y.master later.next later.valid);
      pages = subst (PagesStand g (then es e) y.master.pages y.master.generation (s0.image 1) (s0.writes 1) y.firm y.late) (sym (wrote.frame.elsewhere 1 (λ k. omega arith))) later.pages;
      saved = later.saved;
      logs = λ w low high. subst (LogStands (state_after g (then es e)) y.master (s0.image (suc w)) (s0.writes (suc w)) w (y.account w) (y.log w)) (sym (wrote.frame.elsewhere (suc w) (λ k. omega arith))) (later.logs w low high);
    };
  }

pub every_next_master : EveryKept → EveryPrefix → EverySealed → (old new : Story) → EveryNextMaster old new
every_next_master keeps prefixes seals old new s0 g es e x y r stands later wrote = installs_next keeps prefixes seals s0 old new g es e x y r stands later wrote

pub every_master : EveryKept → EveryPrefix → EverySealed → (old mid new : Story) → EveryMaster old mid new
every_master keeps prefixes seals old mid new s0 g es e x y r1 r2 stands law later wrote done_so = installs keeps prefixes seals s0 old g es e x y stands later law mid r1 wrote new r2 done_so

pub every_master_write : EveryKept → EveryPrefix → EverySealed → (old new : Story) → EveryMasterWrite old new
every_master_write keeps prefixes seals old new s0 g es e x y r stands law later wrote = while_written keeps prefixes seals s0 old g es e x y stands later law new r wrote

-- ## A sync

-- numbers rise up to a greater one too
pub rise_to : (low : ℕ) (rs : List Record) (last more : ℕ) → last ≤ more → RiseFrom low rs last → RiseFrom low rs more
rise_to low [] last more le r = omega arith
rise_to low (x ∷ rs) last more le r = (r.0, rise_to x.gsn rs last more le r.1)

-- pages, blocks and generation of the next master are the same
pub same_pages : (g : Opening) (es : List Event) (n m : Master) (first : List ℕ) (older : List Write) (firm : ℕ → Firm) (late : ℕ → Option Page) (area : Area) → m.pages ≡ n.pages → m.generation ≡ n.generation
    → PagesStand g es n.pages n.generation first older firm late area → PagesStand g es m.pages m.generation first older firm late area
same_pages g es n m first older firm late area p q st = subst (λ (k : ℕ). PagesStand g es m.pages k first older firm late area) (sym q) (subst (λ (k : ℕ). PagesStand g es k n.generation first older firm late area) (sym p) st)

-- as a master of the same generation, blocks and heads has it, each log that is flushed whole goes on from the number of a sync
record IsOfSameRing (n m : Master) : Type 0 where
  generation : m.generation ≡ n.generation
  blocks : m.blocks ≡ n.blocks
  heads : m.heads ≡ n.heads

module _ (s0 : Crash) (s : Story) (g : Opening) (es : List Event) (x : Known) (m : Master) (k : ℕ) (stands : Stands g es s0 x s) (met : may g (state_after g es) (Event.Sync k) ≡ true)
    (whole : (w : ℕ) → 0 < w → w ≤ g.workers → IsAllSynced (x.account w)) (within : (w : ℕ) → 0 < w → w ≤ g.workers → (x.log w).last ≤ k) (same : IsOfSameRing x.master m) where
  abbrev now : State
  now = state_after g es

  abbrev e : Event
  e = Event.Sync k

  happened : state_after g (then es e) ≡ happens g now e
  happened = state_then g es e ∙ cond-true (may g now e) (happens g now e) now met

  log_next : (w : ℕ) → 0 < w → w ≤ g.workers → LogStands (state_after g (then es e)) m (s0.image (suc w)) (s0.writes (suc w)) w (x.account w) (raised (x.log w) k) (s.area (suc w))
  log_next w low high =
      let st = stands.logs w low high in
      let all = whole w low high in
      let last = within w low high in
      let none : drop (x.account w).synced (x.account w).written ≡ [] = ap (λ (i : ℕ). drop i (x.account w).written) all.synced ∙ drop_all (length (x.account w).written) (x.account w).written (omega arith) in
      record {
        is = record { generation = st.is.generation ∙ sym same.generation; number = st.is.number; blocks = st.is.blocks ∙ sym same.blocks; head = st.is.head ∙ ap (λ (hs : List ℕ). slice_index_or hs (w - 1) 0) (sym same.heads) };
        ranges = record { generation = st.ranges.generation; number = st.ranges.number; some = st.ranges.some; head = st.ranges.head; ring = st.ranges.ring };
        accounts = record {
          entries = st.accounts.entries ∙ ap (λ (t : State). from_head (t.head w) (log_of w t.entries)) (sym happened);
          flushed = let f = ap (λ (t : State). t.flushed w) happened in omega arith;
          order = omega arith;
        };
        began = record { first_is = st.began.first_is; older_is = st.began.older_is; sealed = λ q h. let a = st.began.sealed q (subst (λ (b : ℕ). Has q (sealed_in b (s0.image (suc w)))) same.blocks h) in let b = same.generation in omega arith };
        kept = record {
          next = st.kept.next;
          payload = st.kept.payload;
          count = st.kept.count;
          fit = st.kept.fit;
          ring = st.kept.ring;
          numbers = (st.kept.numbers.0, rise_to st.kept.numbers.0 (records_of (x.account w)) (x.log w).last k last st.kept.numbers.1);
          ends = st.kept.ends;
          ending = subst (λ (rs : List Record). EndsAt rs k) (sym all.current) tt;
          synced = st.kept.synced;
          below = λ r h. let a = st.kept.below r h in let o = st.accounts.order in omega arith;
          above = λ r h. absurd (subst (Has r) (ap₂ (λ (bs : List (List Record)) (rs : List Record). joined bs ++ rs) none all.current) h);
          holds = st.kept.holds;
        };
      }

module _ (versions : EveryVersion) (s0 : Crash) (s : Story) (g : Opening) (es : List Event) (x : Known) (m : Master) (k : ℕ) (stands : Stands g es s0 x s) (is : IsSync g es x m k) where
  same_ring : IsOfSameRing x.master m
  same_ring = record { generation = is.next.generation; blocks = is.next.blocks; heads = is.heads }

  synced_is : state_after g (then es (Event.Sync k)) ≡ happens g (state_after g es) (Event.Sync k)
  synced_is = happened s0 s g es x m k stands is.met is.flushed is.within same_ring

  pub sync_next : StandsNext g es (Event.Sync k) s0 x (with_sync x m k) s
  sync_next = record {
    next = is.next;
    valid = is.valid;
    is = record { faithful = stands.is.faithful; format = stands.is.format ∙ ap format_of (sym is.next.pages); logs = is.next.logs ∙ stands.is.logs; floor = (every_floor_step g (then es (Event.Sync k)) m.floor).own (is.floor ∙ ap (λ (t : State). t.floor) (sym synced_is)) };
    pages = same_pages g (then es (Event.Sync k)) x.master m (s0.image 1) (s0.writes 1) x.firm x.late (s.area 1) is.next.pages is.next.generation (still_pages versions g es (Event.Sync k) s0 x (s.area 1) refl stands.pages);
    saved = λ p lt. stands.saved p (let q = is.next.pages in omega arith) ∙ ap (λ (t : State). t.saved p) (sym synced_is);
    logs = log_next s0 s g es x m k stands is.met is.flushed is.within same_ring;
  }

-- no master is written
module _ (versions : EveryVersion) (s0 : Crash) (s : Story) (g : Opening) (es : List Event) (x : Known) (k : ℕ) (stands : Stands g es s0 x s) (still : IsStillSync g es x k) where
  its_own : IsOfSameRing x.master x.master
  its_own = record { generation = refl; blocks = refl; heads = refl }

  pub still_sync : Stands g (then es (Event.Sync k)) s0 (with_sync x x.master k) s
  still_sync = record {
    tells = stands.tells;
    is = record { faithful = stands.is.faithful; format = stands.is.format; logs = stands.is.logs; floor = (every_floor_step g es x.master.floor).sync k still.reached stands.is.floor };
    master = stands.master;
    pages = still_pages versions g es (Event.Sync k) s0 x (s.area 1) refl stands.pages;
    saved = λ p lt. stands.saved p lt ∙ ap (λ (t : State). t.saved p) (sym (happened s0 s g es x x.master k stands still.met still.flushed still.within its_own));
    logs = log_next s0 s g es x x.master k stands still.met still.flushed still.within its_own;
  }

pub every_sync : EveryVersion → (s : Story) → EverySync s
every_sync versions s s0 g es x m n stands is = sync_next versions s0 s g es x m n stands is

pub every_still_sync : EveryVersion → (s : Story) → EveryStillSync s
every_still_sync versions s s0 g es x n stands still = still_sync versions s0 s g es x n stands still
