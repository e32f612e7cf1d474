-- Over a run each page is to be had.
use Rattle.std.proofs.Common.{◌≡◌, ◌∙◌, ◌⊎◌, ◌++◌, ℕ, Result, Ok, Err, IfErr, List, ap, inl, inr, sym, subst}
use Rattle.desk_parts.specs.call_parts.Memory.{IsOf}
use Rattle.desk_parts.specs.call_parts.Parts.{Part}
use Rattle.desk_parts.specs.core_calls.Fronts.{Done, front}
use Rattle.desk_parts.specs.core_state.Events as happening
use Rattle.desk_parts.specs.core_state.Openings.{Opening}
use Rattle.desk_parts.specs.disk_runs.Stands.{Known, Stands}
use Rattle.lean_disk.specs.Story.{Crash, Story}
use Rattle.desk_parts.specs.page_provider.Disks.{Runs}
use Rattle.desk_parts.specs.page_provider.Faults.{EveryFound}
use Rattle.desk_parts.specs.page_provider.declared.refusal.Refusal.{Refusal}
use Rattle.desk_parts.specs.page_provider.declared.refusal.Refusal.TheVariants as refusal
use Rattle.paged_rows.specs.Warms.{IsLost, LostTo}
use Rattle.desk_parts.specs.row_words.declared.event.Event.{Event}
use Rattle.desk_parts.specs.row_words.Moments.{events_of}
use Rattle.desk_parts.specs.session_desks.Parts.{shape}
use Rattle.desk_parts.specs.session_state.Ties.{Behind}
use Rattle.paged_desks.specs.Inside.{AwayCause, UnreadCause, stopped_by}
use Rattle.paged_desks.specs.Machines.{IsReady, memory, pages, view_of}
use Rattle.paged_desks.specs.Parts.{StandsNowhere}
use Rattle.paged_desks.specs.declared.machine.PagedMachine.{PagedMachine}
use Rattle.paged_desks.specs.declared.warming.Unwarmed.{Unwarmed}
use Rattle.paged_desks.specs.declared.warming.Unwarmed.TheVariants as unwarmed

-- ## One page

module _ {D : Type 0} (story : D → Story) (m : PagedMachine D) (ready : IsReady story m) where
  -- the run stands over what the pager knows
  runs : (g : Opening) (xs : List Done) (first : List happening.Event) → Behind g xs first (view_of m) → (s0 : Crash) (a : Known) → Stands g (front xs ++ first) s0 a (story m.machine.work.disk) → IsOf g (memory m) a
      → Runs g s0 a m.pager (view_of m) (story m.machine.work.disk)
  runs g xs first b s0 a st is = record {
    opens = b.opens;
    on = record {
      stands = subst (λ es. Stands g es s0 a (story m.machine.work.disk)) (sym b.seen) st;
      knows = record { count = ready.slots.count ∙ ap (λ n. n.pages) (sym is.master); each = is.slots };
    };
    generation = ap (λ n. n.generation) is.master ∙ ready.slots.generation;
  }

  lost_nowhere : (found : EveryFound (story m.machine.work.disk)) (page : ℕ) (why : Refusal) → IsLost (pages m) page (story m.machine.work.disk) why → (why ≡ refusal.DiskFault → ⊥) → StandsNowhere story m
  lost_nowhere found page why l other g xs first b s0 a st is = other (found g s0 a (shape m.machine) m.pager (view_of m) page why ready.keeps (runs g xs first b s0 a st is) l.below l.cold l.cause)

  away_of : EveryFound (story m.machine.work.disk) → (why : Refusal) → LostTo (pages m) (story m.machine.work.disk) why → AwayCause story m why
  away_of found (refusal.Damaged page counts other) l = lost_nowhere found page (refusal.Damaged page counts other) l (λ e. cc)
  away_of found (refusal.Altered page) l = lost_nowhere found page (refusal.Altered page) l (λ e. cc)
  away_of found _ l = tt

  pub away_err : {A : Type 0} → EveryFound (story m.machine.work.disk) → (r : Result A Refusal) → IfErr r (LostTo (pages m) (story m.machine.work.disk)) → IfErr r (AwayCause story m)
  away_err found (Ok x) l = tt
  away_err found (Err why) l = away_of found why l

-- ## As the machine says it

pub unread_of : {D : Type 0} (story : D → Story) (m : PagedMachine D) (why : Refusal) (u : Unwarmed) → u ≡ stopped_by why → AwayCause story m why → UnreadCause story m u
unread_of story m why u by k = subst (UnreadCause story m) (sym by) (go why k)
  where
    go : (r : Refusal) → AwayCause story m r → UnreadCause story m (stopped_by r)
    go (refusal.RowSpent row) l = tt
    go (refusal.Damaged page counts other) l = l
    go (refusal.Altered page) l = l
    go _ l = tt

pub damaged_of : {A D : Type 0} (story : D → Story) (m : PagedMachine D) (r : Result A Unwarmed) → IfErr r (UnreadCause story m) → (page : ℕ) → (r ≡ Err (unwarmed.Damaged page)) ⊎ (r ≡ Err (unwarmed.Altered page)) → StandsNowhere story m
damaged_of story m (Ok x) k p (inl e) = cc
damaged_of story m (Ok x) k p (inr e) = cc
damaged_of story m (Err (unwarmed.Damaged page)) k p e = k
damaged_of story m (Err (unwarmed.Altered page)) k p e = k
damaged_of story m (Err unwarmed.RowSpent) k p (inl e) = cc
damaged_of story m (Err unwarmed.RowSpent) k p (inr e) = cc
damaged_of story m (Err unwarmed.DiskFault) k p (inl e) = cc
damaged_of story m (Err unwarmed.DiskFault) k p (inr e) = cc

-- ## Behind a part

module _ {D : Type 0} (story : D → Story) (m n : PagedMachine D) (events : List Event) (behind : (g : Opening) (xs : List Done) (first : List happening.Event) → Behind g xs first (view_of m) → Behind g xs (first ++ events_of events) (view_of n))
    (part : Part m.machine.work.session.workers events (view_of m) (view_of n) (memory m) (memory n) (story m.machine.work.disk) (story n.machine.work.disk)) where
  nowhere_before : StandsNowhere story n → StandsNowhere story m
  nowhere_before off g xs first b s0 a st is =
      let r = part.goes g xs first b s0 a st is in
      off g xs (first ++ events_of events) (behind g xs first b) s0 r.known r.moved.stands r.has

  pub unread_before : (u : Unwarmed) → UnreadCause story n u → UnreadCause story m u
  unread_before (unwarmed.Damaged page) k = nowhere_before k
  unread_before (unwarmed.Altered page) k = nowhere_before k
  unread_before _ k = tt

  pub unread_err : {A : Type 0} (r : Result A Unwarmed) → IfErr r (UnreadCause story n) → IfErr r (UnreadCause story m)
  unread_err (Ok x) k = tt
  unread_err (Err u) k = unread_before u k
