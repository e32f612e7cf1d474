-- A run goes on by a save, or by a sync of the pages.
use Rattle.std.proofs.Common.{◌≡◌, ⊎_elim, ◌≤◌, ◌<◌, ◌-◌, ℕ, suc, true, not, leb, List, ◌∷◌, Option, Some, None, codes, refl, sym, ap, ◌∙◌, subst, arith}
use Rattle.std.proofs.lemmas.Bool.{and_parts, cases_eq, leb-true, cond-true}
use Rattle.map_model.specs.Lists.{upd}
use Rattle.page_model.specs.Page.{Page}
use Rattle.master_store.specs.image_model.Entries as entries
use Rattle.master_store.specs.image_model.Fair.{IsFair}
use Rattle.core_disk.specs.core_state.Openings.{Opening}
use Rattle.core_disk.specs.core_state.States.{State, flushed_by_all, is_cold}
use Rattle.core_disk.specs.core_state.Events.{Event}
use Rattle.core_disk.specs.core_state.Needs.{are_hot, may, needs, pages_of}
use Rattle.core_disk.specs.core_state.Steps.{happens, state_after}
use Rattle.map_model.proofs.ListLemmas.{upd_same, upd_other}
use Rattle.lean_disk.specs.Area.{Area, Leaves, Write, torn}
use Rattle.lean_disk.specs.Calls.{Synced, Wrote}
use Rattle.lean_disk.specs.Story.{Crash, Elapses, Elsewhere, IsLawful, LeavesNow, Story, Tells}
use Rattle.lean_disk.specs.declared.disk.Did.{Did}
use Rattle.lean_disk.proofs.MomentLemmas.{goes_on, started}
use Rattle.master_store.specs.disk_slots.Pages.{page_slot}
use Rattle.master_store.specs.disk_slots.Slots.{IsSealed}
use Rattle.master_store.specs.disk_image.Laws.{EverySealed}
use Rattle.master_store.specs.page_store.Bases.{image_page}
use Rattle.master_store.specs.page_store.Saved.{place_of}
use Rattle.worker_log.specs.Laws.{EveryPrefix, EveryKept}
use Rattle.core_disk.specs.Held.{HoldsPage, HoldsRun, IsVersion}
use Rattle.core_disk.specs.Versions.{EveryVersion, then}
use Rattle.core_disk.proofs.VersionLemmas.{state_then}
use Rattle.disk_runs.specs.Fair.{IsFairFrom}
use Rattle.disk_runs.specs.Logs.{LogStands}
use Rattle.disk_runs.specs.Masters.{MasterStands}
use Rattle.disk_runs.specs.Pages.{PagesStand, last_saved, settled, Firm}
use Rattle.disk_runs.specs.Stands.{Known, LeavesRun, Stands}
use Rattle.disk_runs.specs.PageLaws.{EveryFetch, EverySave, EverySettled, IsSave, Saves, Settles, with_late, with_settled}
use Rattle.disk_runs.proofs.SlotLemmas as slots
use Rattle.disk_runs.proofs.PageLemmas.{holds_page}
use Rattle.disk_runs.proofs.SaveLemmas.{base_read, synced_stands, torn_since, torn_stands, written_stands}
use Rattle.disk_runs.proofs.StandLemmas.{every_rest, log_part, master_part, same_stands, still_master, still_pages, SameLog}
use Rattle.master_store.specs.disk_slots.declared.master.Master.{Master}

-- a crash now, after a call on the pages' area: all else is as it was
module _ (keeps : EveryKept) (prefixes : EveryPrefix) (seals : EverySealed) (g : Opening) (es : List Event) (s0 : Crash) (x : Known) (old new : Story) (stands : Stands g es s0 x old)
    (time : Elapses old new) (elsewhere : Elsewhere 1 old new) (c : Crash) (now : LeavesNow new c) (fair : IsFairFrom g.workers s0 c) where
  told : (a : ℕ) → a ≤ suc g.workers → Tells new a
  told a l = time.tells a ∙ stands.tells a l

  writes_of : (a : ℕ) → a ≤ suc g.workers → (a ≡ 1 → ⊥) → c.writes a ≡ (old.area a).writes
  writes_of a l ne = now.writes a (told a l) ∙ ap (λ (z : Area). z.writes) (elsewhere a ne)

  left_of : (a : ℕ) → a ≤ suc g.workers → (a ≡ 1 → ⊥) → Leaves (old.area a) (c.image a)
  left_of a l ne = subst (λ (z : Area). Leaves z (c.image a)) (elsewhere a ne) (now.leaves a (told a l))

  pub with_pages : ((p : ℕ) → p < x.master.pages → HoldsPage g es x.master p (c.image 1)) → HoldsRun g es x.master c.image
  with_pages pages = record {
    master = master_part keeps prefixes seals g es s0 x old stands c fair (writes_of 0 (omega arith) (λ e. omega arith)) (left_of 0 (omega arith) (λ e. omega arith));
    is = stands.is;
    logs = λ w low high. log_part keeps prefixes seals g es s0 x old stands c fair w low high (writes_of (suc w) (omega arith) (λ e. omega arith)) (left_of (suc w) (omega arith) (λ e. omega arith));
    pages = pages;
  }

-- a save changes nothing else that a disk shows
module _ (g : Opening) (es : List Event) (p : ℕ) (met : may g (state_after g es) (Event.Save p) ≡ true) where
  abbrev s : State
  s = state_after g es

  happened : state_after g (then es (Event.Save p)) ≡ happens g s (Event.Save p)
  happened = state_then g es (Event.Save p) ∙ cond-true (may g s (Event.Save p)) (happens g s (Event.Save p)) s met

  flushed_all : (s.page p).gsn ≤ flushed_by_all g s
  flushed_all = leb-true (s.page p).gsn (flushed_by_all g s) (and_parts (not (is_cold (s.place p))) (leb (s.page p).gsn (flushed_by_all g s)) (and_parts (are_hot s (pages_of (Event.Save p))) (needs g s (Event.Save p)) met).1).1

  same_log : (w : ℕ) → SameLog w s (state_after g (then es (Event.Save p)))
  same_log w = subst (SameLog w s) (sym happened) (record { entries = refl; flushed = refl; head = refl })

  saved_here : (state_after g (then es (Event.Save p))).saved p ≡ s.page p
  saved_here = ap (λ (t : State). t.saved p) happened ∙ upd_same s.saved p (s.page p) p refl

  saved_other : (q : ℕ) → (q ≡ p → ⊥) → (state_after g (then es (Event.Save p))).saved q ≡ s.saved q
  saved_other q ne = ap (λ (t : State). t.saved q) happened ∙ upd_other s.saved p (s.page p) q ne

  same_floor : (state_after g (then es (Event.Save p))).floor ≡ s.floor
  same_floor = ap (λ (t : State). t.floor) happened

module _ (keeps : EveryKept) (prefixes : EveryPrefix) (seals : EverySealed) (versions : EveryVersion) (s0 : Crash) (old new : Story) (g : Opening) (es : List Event) (x : Known) (stands : Stands g es s0 x old) (law : IsLawful old) where
  abbrev n : Master
  n = x.master

  module _ (p : ℕ) (y : Page) (result : Did) (is : IsSave g es x p y) (wrote : Wrote 1 (place_of p (1 - (x.firm p).slot)) (page_slot y) result old new) where
    number : (x.firm p).page.gsn ≤ y.gsn
    number =
        let v = (stands.pages.firms p is.within).version in
        let a = (versions g es p).known (image_page (x.firm p).page) v.been in
        let b = ap (λ (z : entries.Contents). z.gsn) is.contents in omega arith

    version : IsVersion g es p (image_page y)
    version = subst (IsVersion g es p) (sym is.contents) ((versions g es p).now (flushed_all g es p is.met))

    abbrev at : ℕ
    at = place_of p (1 - (x.firm p).slot)

    torn_now : PagesStand g es n.pages n.generation (s0.image 1) (s0.writes 1) x.firm x.late (torn at (page_slot y) (old.area 1))
    torn_now = torn_stands g es n.pages n.generation (s0.image 1) (s0.writes 1) x.firm x.late (old.area 1) stands.pages p is.within y is.stored is.generation is.newer number version

    abbrev IsFairIn : Crash → List Write → Type 0
    IsFairIn c since = IsFair 1024 (IsSealed (codes "LEANPAGE")) (s0.image 1) since (c.image 1)

    torn_since_now : torn_now.since ≡ (at, page_slot y) ∷ stands.pages.since
    unfolding torn_now
    torn_since_now = torn_since g es n.pages n.generation (s0.image 1) (s0.writes 1) x.firm x.late (old.area 1) stands.pages p is.within y is.stored is.generation is.newer number version

    -- a crash after the write, or in it
    leaves : (c : Crash) → LeavesNow new c → LeavesRun g es s0 n c
    leaves c now fair = with_pages keeps prefixes seals g es s0 x old new stands wrote.time wrote.elsewhere c now fair
        (holds_page g es n (s0.image 1) (s0.writes 1) x.firm x.late (torn at (page_slot y) (old.area 1)) torn_now (c.image 1)
        (wrote.crash t1 (c.image 1) (now.leaves 1 t2)) fair_since)
      where
        t1 : Tells old 1
        t1 = stands.tells 1 (omega arith)

        t2 : Tells new 1
        t2 = wrote.time.tells 1 ∙ t1

        one_more : IsFairIn c stands.pages.since → IsFairIn c torn_now.since
        one_more f = subst (IsFairIn c) (sym torn_since_now) (slots.one_more 1024 (IsSealed (codes "LEANPAGE")) (s0.image 1) (at, page_slot y) stands.pages.since (c.image 1) f)

        fair_since : IsFairIn c torn_now.since
        fair_since = ⊎_elim
            (λ (recorded : (new.area 1).writes ≡ (at, page_slot y) ∷ (old.area 1).writes). fair.pages torn_now.since (now.writes 1 t2 ∙ (recorded ∙ torn_now.writes)))
            (λ (not_so : (new.area 1).writes ≡ (old.area 1).writes). one_more (fair.pages stands.pages.since (now.writes 1 t2 ∙ (not_so ∙ stands.pages.writes))))
            (wrote.writes t1)

    pub saves : Saves g es s0 x p y result old new
    saves = record {
      any_moment = goes_on old old new (LeavesRun g es s0 n) (started old (LeavesRun g es s0 n) law (λ c now. every_rest keeps prefixes seals old s0 g es x stands c now)) wrote.time leaves;
      after = λ done. record {
        tells = λ a l. wrote.time.tells a ∙ stands.tells a l;
        is = still_master g es (Event.Save p) n refl (same_floor g es p is.met) stands.is;
        master = subst (MasterStands n (s0.image 0) (s0.writes 0)) (sym (wrote.elsewhere 0 (λ e. omega arith))) stands.master;
        pages = still_pages versions g es (Event.Save p) s0 (with_late x p y) (new.area 1) refl
            (subst (PagesStand g es n.pages n.generation (s0.image 1) (s0.writes 1) x.firm (upd x.late p (Some y))) (sym (wrote.done (stands.tells 1 (omega arith)) done))
            (written_stands g es n.pages n.generation (s0.image 1) (s0.writes 1) x.firm x.late (old.area 1) stands.pages p is.within y is.stored is.generation is.newer number version));
        saved = λ q lt. ⊎_elim (λ (e : q ≡ p). saved_p q e) (λ (ne : q ≡ p → ⊥). saved_q q lt ne) (cases_eq q p);
        logs = λ w low high. subst (λ (z : Area). LogStands (state_after g (then es (Event.Save p))) n (s0.image (suc w)) (s0.writes (suc w)) w (x.account w) (x.log w) z) (sym (wrote.elsewhere (suc w) (λ e. omega arith)))
            (same_stands (state_after g es) (state_after g (then es (Event.Save p))) n (s0.image (suc w)) (s0.writes (suc w)) w (x.account w) (x.log w) (old.area (suc w)) (same_log g es p is.met w) (stands.logs w low high));
      };
    }
      where
        saved_p : (q : ℕ) → q ≡ p → image_page (last_saved (x.firm q) (upd x.late p (Some y) q)) ≡ (state_after g (then es (Event.Save p))).saved q
        saved_p q e = ap (λ (o : Option Page). image_page (last_saved (x.firm q) o)) (upd_same x.late p (Some y) q e) ∙ (is.contents ∙ (sym (saved_here g es p is.met) ∙ ap (λ (u : ℕ). (state_after g (then es (Event.Save p))).saved u) (sym e)))

        saved_q : (q : ℕ) → q < n.pages → (q ≡ p → ⊥) → image_page (last_saved (x.firm q) (upd x.late p (Some y) q)) ≡ (state_after g (then es (Event.Save p))).saved q
        saved_q q lt ne = ap (λ (o : Option Page). image_page (last_saved (x.firm q) o)) (upd_other x.late p (Some y) q ne) ∙ (stands.saved q lt ∙ sym (saved_other g es p is.met q ne))

  -- the pages are synced
  module _ (result : Did) (did_so : Synced 1 result old new) where
    leaves_synced : (c : Crash) → LeavesNow new c → LeavesRun g es s0 n c
    leaves_synced c now fair = with_pages keeps prefixes seals g es s0 x old new stands did_so.time did_so.elsewhere c now fair
        (holds_page g es n (s0.image 1) (s0.writes 1) x.firm x.late (old.area 1) stands.pages (c.image 1)
        (did_so.crash (stands.tells 1 (omega arith)) (c.image 1) (now.leaves 1 (did_so.time.tells 1 ∙ stands.tells 1 (omega arith))))
        (fair.pages stands.pages.since (now.writes 1 (did_so.time.tells 1 ∙ stands.tells 1 (omega arith)) ∙ (did_so.writes ∙ stands.pages.writes))))

    pub settles : Settles g es s0 x result old new
    settles = record {
      any_moment = goes_on old old new (LeavesRun g es s0 n) (started old (LeavesRun g es s0 n) law (λ c now. every_rest keeps prefixes seals old s0 g es x stands c now)) did_so.time leaves_synced;
      after = λ done. record {
        tells = λ a l. did_so.time.tells a ∙ stands.tells a l;
        is = stands.is;
        master = subst (MasterStands n (s0.image 0) (s0.writes 0)) (sym (did_so.elsewhere 0 (λ e. omega arith))) stands.master;
        pages = subst (PagesStand g es n.pages n.generation (s0.image 1) (s0.writes 1) (with_settled x).firm (with_settled x).late) (sym (did_so.done (stands.tells 1 (omega arith)) done))
            (synced_stands g es n.pages n.generation (s0.image 1) (s0.writes 1) x.firm x.late (old.area 1) stands.pages);
        saved = λ p lt. ap image_page (same_saved (x.firm p) (x.late p)) ∙ stands.saved p lt;
        logs = λ w low high. subst (LogStands (state_after g es) n (s0.image (suc w)) (s0.writes (suc w)) w (x.account w) (x.log w)) (sym (did_so.elsewhere (suc w) (λ e. omega arith))) (stands.logs w low high);
      };
    }
      where
        same_saved : (f : Firm) (o : Option Page) → last_saved (settled f o) None ≡ last_saved f o
        same_saved f None = refl
        same_saved f (Some y) = refl

pub every_save : EveryKept → EveryPrefix → EverySealed → EveryVersion → (old new : Story) → EverySave old new
every_save keeps prefixes seals versions old new s0 g es x p y result stands law is wrote = saves keeps prefixes seals versions s0 old new g es x stands law p y result is wrote

pub every_settled : EveryKept → EveryPrefix → EverySealed → EveryVersion → (old new : Story) → EverySettled old new
every_settled keeps prefixes seals versions old new s0 g es x result stands law did_so = settles keeps prefixes seals versions s0 old new g es x stands law result did_so

pub every_fetch : (s : Story) → EveryFetch s
every_fetch s s0 g es x p stands lt = base_read g es x.master.pages x.master.generation (s0.image 1) (s0.writes 1) x.firm x.late (s.area 1) stands.pages p lt ∙ ap Some (stands.saved p lt)
