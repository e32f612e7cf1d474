-- How a run that saves pages begins, goes on, and is synced.
use Rattle.std.proofs.Common.{◌≡◌, ◌⊎◌, inr, ℕ, List, [], ◌∷◌, refl, sym, ◌∙◌, ap, subst}
use Rattle.lean_disk.specs.Area.{Area, Leaves, Write, synced, torn, written}
use Rattle.lean_disk.specs.Calls.{Synced, Wrote}
use Rattle.lean_disk.specs.Moments.{CrashIn, Framed}
use Rattle.lean_disk.specs.Story.{Crash, IsLawful, LeavesNow, Story, Tells}
use Rattle.lean_disk.specs.declared.disk.Did.{Did}
use Rattle.lean_disk.proofs.MomentLemmas.{crash_in, framed, framed_synced, framed_wrote, goes_on, started, weaker}
use Rattle.disk_image.specs.disk_slots.Pages.{page_slot}
use Rattle.page_store.specs.Runs.{HasSaved, IsReady, IsRun, SavesMore, SyncsSaves}
use Rattle.page_store.specs.Saved.{Save, AreSaves, IsSaving, LeavesSaves, place_of, saved, write_of}
use Rattle.page_store.proofs.CrashLemmas.{every_fewer, every_left}

-- a run that begins has saved nothing
pub run_begins : (pages a : ℕ) (s0 : Story) → IsLawful s0 → IsReady a s0 → HasSaved pages a s0 [] s0
run_begins pages a s0 law ready =
    let start : Area = s0.area a in record {
      run = record {
        any_moment = started s0 (CrashIn s0 a (LeavesSaves pages start [])) law (λ c now.
            let t : Tells s0 a = ready.seated now.counts in
            let left : LeavesSaves pages start [] start.writes (c.image a) = (every_left pages [] start (λ s has. absurd has) (ready.clean t)).between (c.image a) (now.leaves a t) in
            crash_in a s0 s0 (LeavesSaves pages start []) c (framed a s0) now (subst (λ (ws : List Write). LeavesSaves pages start [] ws (c.image a)) (sym (now.writes a t)) left));
        frame = framed a s0;
      };
      area = λ t. refl;
    }

-- what a run that goes on leaves now
module _ (pages a : ℕ) (s0 new : Story) (saves : List Save) (ready : IsReady a s0) (frame : Framed a s0 new) (saving : Tells s0 a → IsSaving pages (s0.area a) saves (new.area a)) where
  leaves_now : (c : Crash) → LeavesNow new c → CrashIn s0 a (LeavesSaves pages (s0.area a) saves) c
  leaves_now c now =
      let t : Tells s0 a = ready.seated (sym frame.counts ∙ now.counts) in
      let told : Tells new a = frame.tells a ∙ t in
      crash_in a s0 new (LeavesSaves pages (s0.area a) saves) c frame now
      (subst (λ (ws : List Write). LeavesSaves pages (s0.area a) saves ws (c.image a)) (sym (now.writes a told)) (saving t (c.image a) (now.leaves a told)))

-- one page more is saved, or its write fails
pub saves_more : (pages a : ℕ) (s0 : Story) (saves : List Save) (s : Save) (result : Did) (old new : Story) → IsReady a s0 → AreSaves pages (s ∷ saves)
    → HasSaved pages a s0 saves old → Wrote a (place_of s.page s.slot) (page_slot s.node) result old new → SavesMore pages a s0 (s ∷ saves) result new
saves_more pages a s0 saves s result old new ready are has wrote =
    let start : Area = s0.area a in
    let at : ℕ = place_of s.page s.slot in
    let bytes : List ℕ = page_slot s.node in
    let frame : Framed a s0 new = framed_wrote a at bytes result s0 old new has.run.frame wrote in
    let saving : Tells s0 a → IsSaving pages start (s ∷ saves) (new.area a) = λ t c left.
    let told : Tells old a = has.run.frame.tells a ∙ t in
    let same : old.area a ≡ saved saves start = has.area t in
    let made : ((new.area a).writes ≡ write_of s ∷ (saved saves start).writes) ⊎ ((new.area a).writes ≡ (saved saves start).writes) =
    subst (λ (x : Area). ((new.area a).writes ≡ write_of s ∷ x.writes) ⊎ ((new.area a).writes ≡ x.writes)) same (wrote.writes told) in
    (every_left pages (s ∷ saves) start are (ready.clean t)).during s saves refl (new.area a).writes c made
    (subst (λ (x : Area). Leaves (torn at bytes x) c) same (wrote.crash told c left)) in
    let run : IsRun pages a s0 (s ∷ saves) new = record {
      any_moment = goes_on s0 old new (CrashIn s0 a (LeavesSaves pages start (s ∷ saves)))
          (weaker s0 old (CrashIn s0 a (LeavesSaves pages start saves)) (CrashIn s0 a (LeavesSaves pages start (s ∷ saves)))
          (λ c it. record { notes = it.notes; writes = it.writes; leaves = it.leaves; here = every_fewer pages start saves (s ∷ saves) (c.writes a) (c.image a) (λ x h. inr h) it.here }) has.run.any_moment)
          wrote.time (leaves_now pages a s0 new (s ∷ saves) ready frame saving);
      frame = frame;
    } in record {
      run = run;
      saving = saving;
      done = λ is. record {
        run = run;
        area = λ t. wrote.done (has.run.frame.tells a ∙ t) is ∙ ap (written at bytes) (has.area t);
      };
    }

-- the pages are synced, or the sync fails
pub saves_synced : (pages a : ℕ) (s0 : Story) (saves : List Save) (result : Did) (old new : Story) → IsReady a s0 → AreSaves pages saves
    → HasSaved pages a s0 saves old → Synced a result old new → SyncsSaves pages a s0 saves result new
saves_synced pages a s0 saves result old new ready are has did =
    let start : Area = s0.area a in
    let frame : Framed a s0 new = framed_synced a result s0 old new has.run.frame did in
    let saving : Tells s0 a → IsSaving pages start saves (new.area a) = λ t c left.
    let told : Tells old a = has.run.frame.tells a ∙ t in
    let same : old.area a ≡ saved saves start = has.area t in
    let before : Leaves (saved saves start) c = subst (λ (x : Area). Leaves x c) same (did.crash told c left) in
    subst (λ (ws : List Write). LeavesSaves pages start saves ws c) (sym (did.writes ∙ ap (λ (x : Area). x.writes) same)) ((every_left pages saves start are (ready.clean t)).between c before) in record {
      run = record {
        any_moment = goes_on s0 old new (CrashIn s0 a (LeavesSaves pages start saves)) has.run.any_moment did.time (leaves_now pages a s0 new saves ready frame saving);
        frame = frame;
      };
      saving = saving;
      done = λ is t. did.done (has.run.frame.tells a ∙ t) is ∙ ap synced (has.area t);
    }
