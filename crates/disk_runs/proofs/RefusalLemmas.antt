-- What the definitions refuse.
use Rattle.std.proofs.Common.{◌≡◌, inl, ◌<◌, ◌-◌, ◌*◌, ℕ, List, length, Option, refl, ap, arith}
use Rattle.page_model.specs.Page as memory
use Rattle.core_disk.specs.core_state.Openings.{Opening}
use Rattle.core_disk.specs.core_state.Events.{Event}
use Rattle.lean_disk.specs.Area.{Area, Write, torn}
use Rattle.master_store.specs.disk_slots.declared.master.Master.{Master}
use Rattle.master_store.specs.page_store.Saved.{place_of}
use Rattle.master_store.proofs.page_store.PieceLemmas.{same_page}
use Rattle.disk_runs.specs.Masters.{MasterStands, slot_of}
use Rattle.disk_runs.specs.Pages.{Firm, PagesStand}
use Rattle.disk_runs.specs.Refusals.{Refusals}

overwritten : (g : Opening) (es : List Event) (pages generation : ℕ) (first : List ℕ) (older : List Write) (firm : ℕ → Firm) (late : ℕ → Option memory.Page) (area : Area) (p : ℕ) (bytes : List ℕ)
    → p < pages → PagesStand g es pages generation first older firm late (torn (place_of p (firm p).slot) bytes area) → ⊥
overwritten g es pages generation first older firm late area p bytes lt st =
    let it = st.unsynced (place_of p (firm p).slot, length bytes) (inl refl) in
    let at : place_of p (firm p).slot ≡ place_of it.0 (1 - (firm it.0).slot) = ap (λ (r : ℕ × ℕ). r.0) it.2 in
    let h = (st.firms p lt).half in
    let k = (st.firms it.0 it.1).half in
    let same = same_page p (firm p).slot it.0 (1 - (firm it.0).slot) h (omega arith) (omega arith) in
    let one : (firm it.0).slot ≡ (firm p).slot = ap (λ (q : ℕ). (firm q).slot) same.0 in
    let other = same.1 in omega arith

lost_master : (n : Master) (first : List ℕ) (older : List Write) (area : Area) (bytes : List ℕ) → MasterStands n first older (torn (1024 * slot_of n) bytes area) → ⊥
lost_master n first older area bytes st =
    let at : 1024 * slot_of n ≡ 1024 * (1 - slot_of n) = ap (λ (r : ℕ × ℕ). r.0) (st.late (1024 * slot_of n, length bytes) (inl refl)) in
    let half : slot_of n < 2 = omega arith in omega arith

pub refusals : Refusals
refusals = record {
  early_flush = λ s w x log a lt. let f = a.flushed in omega arith;
  unflushed = λ g es p v i lt. let f = i.number in omega arith;
  overwritten = overwritten;
  lost_master = lost_master;
  early_cut = λ g es p v r i has touched below lt. let c = i.changes r has touched below in omega arith;
}
