-- What is left where a device failed, or a page was not to be had.
use Rattle.std.proofs.Common.{◌≡◌, ◌∙◌, ◌≤◌, ◌+◌, ◌*◌, ◌++◌, ◌||◌, ◌⊎◌, inl, inr, ℕ, suc, Bool, true, false, Err, List, [], ◌∷◌, ap, refl, sym, subst, arith, true≢false}
use Rattle.std.proofs.lemmas.Bool.{and_from, and_parts}
use Rattle.std.proofs.Math.Nat.{mul-le-mul_right}
use Rattle.std.proofs.lemmas.List.{length-append}
use Rattle.desk_parts.proofs.call_parts.AreaLemmas.{around_wider, within_wider}
use Rattle.desk_parts.proofs.call_parts.JoinLemmas.{every_join}
use Rattle.desk_parts.specs.call_parts.Areas.{is_save}
use Rattle.desk_parts.specs.call_parts.Parts.{Failed}
use Rattle.desk_parts.specs.call_parts.Rooms as rooms
use Rattle.desk_parts.specs.call_parts.Rooms.{makes_sync}
use Rattle.desk_parts.specs.call_parts.Steps.{moves_page}
use Rattle.desk_parts.specs.core_calls.LogEvents.{AreFlushes, IsSync}
use Rattle.desk_parts.specs.core_state.Events as happening
use Rattle.desk_parts.specs.core_state.Openings.{Opening}
use Rattle.desk_parts.specs.core_state.States.{State}
use Rattle.desk_parts.specs.core_state.Local.{is_sync}
use Rattle.desk_parts.specs.core_disk.Versions.{EveryVersion}
use Rattle.desk_parts.specs.Laws.{EveryPagePart, EverySyncPart}
use Rattle.desk_parts.specs.disk_image.Laws.{EverySealed}
use Rattle.desk_parts.proofs.engine_calls.MoveLemmas.{every_move}
use Rattle.lean_disk.specs.Story.{IsLawful, Story}
use Rattle.map_model.specs.Lists.{all, any}
use Rattle.page_pool.specs.Counts.{EveryFrame}
use Rattle.desk_parts.specs.page_provider.Amounts.{EveryFew}
use Rattle.desk_parts.specs.page_provider.declared.refusal.Refusal.{Refusal}
use Rattle.desk_parts.specs.page_provider.declared.refusal.Refusal.TheVariants as refusal
use Rattle.desk_parts.specs.page_provider.Moves.{Moved}
use Rattle.desk_parts.specs.page_provider.Refusals.{breaks}
use Rattle.desk_parts.specs.row_words.declared.event.Event.{Event}
use Rattle.desk_parts.specs.row_words.declared.event.Event.TheVariants as told
use Rattle.desk_parts.specs.row_words.Moments.{event_of, events_of}
use Rattle.desk_parts.specs.rows_trait.declared.view.View.{View}
use Rattle.desk_parts.specs.call_parts.Memory.{Memory}
use Rattle.desk_parts.specs.session_desks.Parts.{AreAsMany, FailsToSync, SeatFits, here, shape}
use Rattle.desk_parts.specs.session_desks.Parts as desks
use Rattle.desk_parts.specs.session_desks.declared.machine.Machine.{Machine}
use Rattle.desk_parts.proofs.session_desks.SeatLemmas.{holds_of}
use Rattle.desk_parts.specs.session_state.declared.session.Session.{Session}
use Rattle.desk_parts.specs.worker_log.Laws.{EveryKept, EveryPrefix}
use Rattle.paged_desks.specs.Inside.{HasBroken, HasDone, HasServed, IsBeside, IsOfPage, IsStopped, stopped_by}
use Rattle.paged_desks.specs.Machines.{IsReady, memory, view_of}
use Rattle.paged_desks.specs.Pages.{ArePaging, goes_on, is_paging, most_a_level}
use Rattle.paged_desks.specs.Parts.{HasFailed}
use Rattle.paged_desks.specs.Syncs.{HasNotSynced}
use Rattle.paged_desks.specs.declared.machine.PagedMachine.{PagedMachine}
use Rattle.paged_desks.specs.declared.warming.Unwarmed.{Unwarmed}
use Rattle.paged_desks.proofs.Doing.{hot_few, sessions_few}
use Rattle.paged_desks.proofs.Moments.{length_events}

-- ## Areas

pub failed_wider : (many : ℕ) (a b : Bool) (es : List happening.Event) (v : View) (was : Memory) (old new : Story) → Failed many a b es v was old new → Failed many true true es v was old new
failed_wider many a b es v was old new f = record {
  around = around_wider many a b true true old new (λ _. refl) (λ _. refl) f.around;
  fails = λ g xs first x s0 k st is. let r = f.fails g xs first x s0 k st is in record { passes = r.passes; within = within_wider many a b true true old new (λ _. refl) (λ _. refl) r.within };
}

-- ## Events

paging_one : (e : Event) → is_paging e ≡ true → rooms.is_paging (event_of e) ≡ true
paging_one (told.Fetch p pairs) k = refl
paging_one (told.Load p f) k = refl
paging_one (told.Cool p) k = refl
paging_one (told.Rescue p) k = refl
paging_one (told.Save p) k = refl
paging_one (told.Evict p) k = refl
paging_one told.Tick k = refl
paging_one (told.Miss w) k = refl
paging_one (told.Flush w n) k = refl
paging_one (told.Sync n) k = refl
paging_one _ k = absurd (true≢false (sym k))

paging_core : (es : List Event) → ArePaging es → rooms.ArePaging (events_of es)
paging_core [] k = refl
paging_core (e ∷ es) k = and_from (rooms.is_paging (event_of e)) (all rooms.is_paging (events_of es)) (paging_one e k.0) (paging_core es k.1)

paging_join : (a b : List happening.Event) → rooms.ArePaging a → rooms.ArePaging b → rooms.ArePaging (a ++ b)
paging_join [] b p q = q
paging_join (e ∷ a) b p q = let x = and_parts (rooms.is_paging e) (all rooms.is_paging a) p in and_from (rooms.is_paging e) (all rooms.is_paging (a ++ b)) x.0 (paging_join a b x.1 q)

-- ## Parts that failed

-- a call of the pager
pub broken_by : {D : Type 0} (story : D → Story) (m n : PagedMachine D) → IsReady story m → IsBeside m n → {most : ℕ} (moved : Moved most (shape m.machine) (view_of m) m.pager (view_of n) n.pager) → EveryPagePart (story m.machine.work.disk) (story n.machine.work.disk) → EveryFew → HasServed story m n → SeatFits n.machine
    → HasBroken story (3 * most) m n
broken_by story m n ready b {most = most} moved law amounts served fits =
    let many = m.machine.work.session.workers in
    let laws = law many most (shape m.machine) (view_of m) (view_of n) m.pager n.pager (memory m) refl ready.slots in record {
      events = events_of moved.events;
      paging = laws.paging moved;
      few = let a = amounts most (shape m.machine) (view_of m) m.pager (view_of n) n.pager ready.keeps moved in let e = length_events moved.events in omega arith;
      failed = failed_wider many true false (events_of moved.events) (view_of m) (memory m) (story m.machine.work.disk) (story n.machine.work.disk) (laws.failed (record { moved = moved; disk = served.disk; stays = served.stays }));
      same = (ap (λ (s : Session). s.workers) b.session, ap (λ (s : Session). s.group) b.session);
      fits = fits;
    }

-- a sync
flushes_sync : (es : List happening.Event) → AreFlushes es → all makes_sync es ≡ true
flushes_sync [] k = refl
flushes_sync (happening.Event.Flush w n ∷ es) k = flushes_sync es k
flushes_sync (e ∷ es) k = absurd k

sync_join : (a b : List happening.Event) → all makes_sync a ≡ true → all makes_sync b ≡ true → all makes_sync (a ++ b) ≡ true
sync_join [] b p q = q
sync_join (e ∷ a) b p q = let x = and_parts (makes_sync e) (all makes_sync a) p in and_from (makes_sync e) (all makes_sync (a ++ b)) x.0 (sync_join a b x.1 q)

pub sync_events : (es : List happening.Event) → AreFlushes es ⊎ ((n : ℕ) × IsSync n es) → all makes_sync es ≡ true
sync_events es (inl k) = flushes_sync es k
sync_events es (inr s) = subst (λ ys. all makes_sync ys ≡ true) (sym s.1.1) (sync_join s.1.0 (happening.Event.Sync s.0 ∷ []) (flushes_sync s.1.0 s.1.2) refl)

paging_sync : (es : List happening.Event) → all makes_sync es ≡ true → rooms.ArePaging es
paging_sync [] k = refl
paging_sync (e ∷ es) k = let x = and_parts (makes_sync e) (all makes_sync es) k in and_from (rooms.is_paging e) (all rooms.is_paging es) (or_sync (moves_page e) (makes_sync e) x.0) (paging_sync es x.1)
  where
    or_sync : (a b : Bool) → b ≡ true → (a || b) ≡ true
    or_sync true b q = refl
    or_sync false b q = q

pub not_synced : {D : Type 0} (story : D → Story) (m : PagedMachine D) (t : Machine D) → IsReady story m → EverySyncPart (story m.machine.work.disk) (story t.work.disk) → FailsToSync story m.machine t → AreAsMany m.machine t → SeatFits t
    → HasNotSynced story m (record m { machine = t })
not_synced story m t ready law s same fits =
    let many = m.machine.work.session.workers in
    let rows = (holds_of (shape m.machine) (view_of m) (here m.machine) m.machine.desks.items ready.sound.desks).rows.workers in
    let laws = law many 0 (view_of m) (view_of m) (desks.memory m.machine) (desks.memory t) m.pager.slots rows in record {
      events = s.events;
      sync = sync_events s.events s.are;
      few = s.few;
      failed = laws.failed s;
      same = same;
      fits = fits;
    }

-- where it was made for a page
pub broken_sync : {D : Type 0} {story : D → Story} (m n : PagedMachine D) → HasNotSynced story m n → HasBroken story (suc m.machine.work.session.workers) m n
broken_sync {story = story} m n s =
    let many = m.machine.work.session.workers in record {
      events = s.events;
      paging = paging_sync s.events s.sync;
      few = let a = s.few in omega arith;
      failed = failed_wider many false true s.events (view_of m) (memory m) (story m.machine.work.disk) (story n.machine.work.disk) s.failed;
      same = s.same;
      fits = s.fits;
    }

-- behind what was done
module _ {D : Type 0} (story : D → Story) (P : Opening → State → Type 0) (keeps : EveryKept) (prefixes : EveryPrefix) (seals : EverySealed) (versions : EveryVersion) (lawful : (d : D) → IsLawful (story d)) where
  pub broken_then : {p q r : PagedMachine D} {i j most : ℕ} → i + j ≤ most → HasDone story P i p q → HasBroken story j q r → HasBroken story most p r
  broken_then {p = p} {q = q} {r = r} few a b =
      let x = story p.machine.work.disk in
      let y = story q.machine.work.disk in
      let z = story r.machine.work.disk in
      let es = events_of a.paged.events in
      let many = p.machine.work.session.workers in record {
        events = es ++ b.events;
        paging = paging_join es b.events (paging_core a.paged.events a.paged.paging) b.paging;
        few = let k = a.paged.few in let l = b.few in let m = length-append es b.events in let n = length_events a.paged.events in omega arith;
        failed = failed_wider many (any is_save es || true) (any is_sync es || true) (es ++ b.events) (view_of p) (memory p) x z
            ((every_join x y z (lawful p.machine.work.disk) (every_move keeps prefixes seals versions x y z) many a.paged.events (view_of p) (view_of q) (view_of r) (memory p) (memory q) (memory r)).failed true true b.events a.part
            (subst (λ k. Failed k true true b.events (view_of q) (memory q) y z) a.paged.same.0 b.failed));
        same = (b.same.0 ∙ a.paged.same.0, b.same.1 ∙ a.paged.same.1);
        fits = b.fits;
      }

pub broken_up : {D : Type 0} {story : D → Story} {i j : ℕ} {p q : PagedMachine D} → i ≤ j → HasBroken story i p q → HasBroken story j p q
broken_up few b = record { events = b.events; paging = b.paging; few = let a = b.few in omega arith; failed = b.failed; same = b.same; fits = b.fits }

-- ## It stops

stopped_broken : {D : Type 0} {story : D → Story} {most : ℕ} {m n o : PagedMachine D} → IsStopped n o → HasBroken story most m n → HasBroken story most m o
stopped_broken {story = story} {m = m} s b = record {
  events = b.events;
  paging = b.paging;
  few = b.few;
  failed = subst (λ d. Failed m.machine.work.session.workers true true b.events (view_of m) (memory m) (story m.machine.work.disk) (story d)) (sym s.disk) b.failed;
  same = (s.same.0 ∙ b.same.0, s.same.1 ∙ b.same.1);
  fits = s.fits b.fits;
}

broke : (A : Type 0) (why : Refusal) (u : Unwarmed) → u ≡ stopped_by why → IsOfPage why → goes_on {A = A} (Err u) ≡ false → breaks why ≡ true
broke A (refusal.RowSpent row) u e k g = absurd (true≢false (ap (λ x. goes_on {A = A} (Err x)) (sym e) ∙ g))
broke A refusal.DiskFault u e k g = refl
broke A (refusal.Damaged page counts other) u e k g = refl
broke A (refusal.Altered page) u e k g = refl
broke A _ u e k g = absurd k

pub stop_broken : {D : Type 0} {story : D → Story} {most : ℕ} (m n o : PagedMachine D) (A : Type 0) (why : Refusal) (u : Unwarmed) → u ≡ stopped_by why → IsOfPage why → n.pager.broken ≡ breaks why → (n.pager.broken ≡ true → HasBroken story most m n) → (n.pager.broken ≡ true → IsStopped n o) → goes_on {A = A} (Err u) ≡ false → HasBroken story most m o
stop_broken m n o A why u by page is b off g = let e = is ∙ broke A why u by page g in stopped_broken (off e) (b e)

-- ## All of it

pub nine_levels : (n a b : ℕ) → n ≤ 8 → b ≡ a → n * most_a_level a + most_a_level b ≤ 9 * most_a_level a
nine_levels n a b few e = subst (λ c. n * most_a_level a + most_a_level c ≤ 9 * most_a_level a) (sym e) (let x = mul-le-mul_right (most_a_level a) few in let y = most_a_level a in omega arith)

pub failed_of : {D : Type 0} (story : D → Story) (m n : PagedMachine D) → IsReady story m → EveryFrame → HasBroken story (9 * most_a_level m.machine.work.session.workers) m n → HasFailed story m n
failed_of story m n ready frames b = record {
  events = b.events;
  paging = b.paging;
  few = let a = b.few in let h = hot_few story m ready frames in let w = sessions_few story m ready frames in omega arith;
  close = let a = b.few in let w = sessions_few story m ready frames in omega arith;
  fewer = b.few;
  failed = b.failed;
  same = b.same;
  fits = b.fits;
}
