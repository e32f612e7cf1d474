-- What a disk holds as a read gives it.
use Rattle.std.proofs.Common.{◌≡◌, ◌<◌, ◌≤◌, ℕ, suc, List, ◌++◌, Option, Some, None, refl, sym, ap, ◌∙◌, subst, arith}
use Rattle.std.proofs.lemmas.List.{append_cancel_right}
use Rattle.page_model.specs.Page.{Page}
use Rattle.master_store.specs.image_model.Fair.{IsFair}
use Rattle.master_store.specs.image_model.Slots.{Slot}
use Rattle.core_disk.specs.core_state.Openings.{Opening}
use Rattle.core_disk.specs.core_state.Events.{Event}
use Rattle.lean_disk.specs.Area.{Write}
use Rattle.lean_disk.specs.Story.{Crash, IsLawful, Story}
use Rattle.master_store.specs.log_block.Block.{IsSealed}
use Rattle.master_store.specs.disk_image.Laws.{EverySealed}
use Rattle.master_store.specs.disk_image.Shown.{page_slot_in, slot_of}
use Rattle.master_store.specs.page_store.Bases.{image_page}
use Rattle.worker_log.specs.Laws.{EveryPrefix, EveryKept}
use Rattle.core_disk.specs.core_state.Steps.{state_after}
use Rattle.core_disk.specs.Held.{HoldsLog, HoldsPage, HoldsRun}
use Rattle.disk_runs.specs.Fair.{IsFairLog}
use Rattle.disk_runs.specs.Laws.{EveryRead}
use Rattle.disk_runs.specs.Logs.{LogStands}
use Rattle.disk_runs.specs.Pages.{last_saved}
use Rattle.disk_runs.specs.Stands.{Known, Stands}
use Rattle.disk_runs.proofs.LogLemmas.{rests_log}
use Rattle.disk_runs.proofs.MasterLemmas.{reads_master}
use Rattle.disk_runs.proofs.SaveLemmas.{base_read, slots_read, version_read}

some_slot : (o : Option Page) (z : Slot) → slot_of o ≡ Some z → (y : Page) × (o ≡ Some y) × (y.generation ≡ z.generation)
some_slot None z e = absurd (no e)
  where
    no : ◌≡◌ {A = Option Slot} None (Some z) → ⊥
    no e = cc
some_slot (Some y) z e = (y, refl, ap generation_or e)
  where
    generation_or : Option Slot → ℕ
    generation_or (Some s) = s.generation
    generation_or None = 0

module _ (keeps : EveryKept) (prefixes : EveryPrefix) (seals : EverySealed) (s : Story) (s0 : Crash) (g : Opening) (es : List Event) (x : Known) (stands : Stands g es s0 x s) (law : IsLawful s) where
  log_read : (w : ℕ) → 0 < w → w ≤ g.workers → HoldsLog g (state_after g es) x.master w (s.area (suc w)).bytes
  log_read w low high = rests_log keeps prefixes seals g es x.master (s0.image (suc w)) (s0.writes (suc w)) w (x.account w) (x.log w) (s.area (suc w)) st (s.area (suc w)).bytes
      (law.reads_so (suc w) (stands.tells (suc w) (omega arith))) fair
    where
      st : LogStands (state_after g es) x.master (s0.image (suc w)) (s0.writes (suc w)) w (x.account w) (x.log w) (s.area (suc w))
      st = stands.logs w low high

      fair : IsFairLog (s0.image (suc w)) (s0.writes (suc w)) (s.area (suc w)).writes (s.area (suc w)).bytes
      fair since e =
          let same : st.kept.holds.since ≡ since = append_cancel_right st.kept.holds.since since (s0.writes (suc w)) (sym (st.kept.holds.writes ∙ ap (λ (l : List Write). st.kept.holds.since ++ l) st.began.older_is) ∙ e) in
          subst (λ (l : List Write). IsFair 2048 IsSealed (s0.image (suc w)) l (s.area (suc w)).bytes) same
          (subst (λ (b : List ℕ). IsFair 2048 IsSealed b st.kept.holds.since (s.area (suc w)).bytes) st.began.first_is st.kept.holds.fair)

  page_read : (p : ℕ) → p < x.master.pages → HoldsPage g es x.master p (s.area 1).bytes
  page_read p lt = record {
    page = image_page (last_saved (x.firm p) (x.late p));
    version = version_read g es x.master.pages x.master.generation (s0.image 1) (s0.writes 1) x.firm x.late (s.area 1) stands.pages p lt;
    base = base_read g es x.master.pages x.master.generation (s0.image 1) (s0.writes 1) x.firm x.late (s.area 1) stands.pages p lt;
    slots = λ k z half e. let q = some_slot (page_slot_in x.master.pages p k (s.area 1).bytes) z e in
        let low = slots_read g es x.master.pages x.master.generation (s0.image 1) (s0.writes 1) x.firm x.late (s.area 1) stands.pages p lt k half q.0 q.1 in let f = q.2 in omega arith;
  }

  pub holds_read : HoldsRun g es x.master (λ a. (s.area a).bytes)
  holds_read = record {
    master = reads_master x.master (s0.image 0) (s0.writes 0) (s.area 0) stands.master;
    is = stands.is;
    logs = log_read;
    pages = page_read;
  }

pub every_read : EveryKept → EveryPrefix → EverySealed → (s : Story) → EveryRead s
every_read keeps prefixes seals s s0 g es x stands law = holds_read keeps prefixes seals s s0 g es x stands law
