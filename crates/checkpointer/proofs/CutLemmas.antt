-- A cut in a run.
use Rattle.std.proofs.Common.{◌≡◌, ◌≤◌, ◌<◌, ◌+◌, ◌-◌, ◌^◌, ℕ, zero, suc, List, [], ◌∷◌, length, slice_index, Option, refl, sym, ap, ◌∙◌, subst, arith}
use Rattle.disk_runs.specs.image_model.Fair.{piece}
use Rattle.disk_runs.specs.core_state.Openings.{Opening}
use Rattle.disk_runs.specs.core_state.States.{flushed_by_all}
use Rattle.disk_runs.specs.core_state.Events.{Event}
use Rattle.disk_runs.specs.core_state.Steps.{state_after}
use Rattle.disk_runs.specs.core_disk.Versions.{EveryVersion}
use Rattle.disk_runs.specs.disk_image.Laws.{EverySealed}
use Rattle.disk_runs.specs.disk_image.Shown.{head_of}
use Rattle.disk_runs.specs.disk_slots.Masters.{IsMaster}
use Rattle.disk_runs.specs.disk_slots.declared.master.Master.{Master}
use Rattle.lean_disk.specs.Moments.{CrashIn, LeavesOnly}
use Rattle.lean_disk.specs.Story.{Crash, IsLawful, Story}
use Rattle.lean_disk.proofs.MomentLemmas.{started, weaker}
use Rattle.disk_runs.specs.worker_log.Calls.{cut_log}
use Rattle.disk_runs.specs.worker_log.Laws.{EveryKept, EveryPassed, EveryPrefix}
use Rattle.disk_runs.specs.worker_log.Logs.{Log, passed_by}
use Rattle.disk_runs.specs.worker_log.Kept.{ends_of}
use Rattle.disk_runs.specs.log_record.declared.record.Record.{Record}
use Rattle.log_calls.specs.Calls.{Anything}
use Rattle.log_calls.specs.Cuts.{CutsOn}
use Rattle.log_calls.specs.Cuts as master_cuts
use Rattle.disk_runs.specs.MasterLaws.{with_cut}
use Rattle.disk_runs.specs.Masters.{slot_of}
use Rattle.disk_runs.specs.Moments.{LeavesSome}
use Rattle.disk_runs.specs.Rings.{IsNextCut, heads_of, passed_of}
use Rattle.disk_runs.specs.Stands.{Known, LeavesRun}
use Rattle.disk_runs.proofs.LineLemmas as lines
use Rattle.disk_runs.proofs.MasterLemmas.{is_slot}
use Rattle.disk_runs.proofs.MomentLemmas.{every_moment}
use Rattle.disk_runs.proofs.RingLemmas.{every_still_cut}
use Rattle.disk_runs.proofs.StandLemmas.{every_rest}
use Rattle.checkpointer.specs.Cuts.{ArePassed, AreRings, IsCutOff, IsDue, KeepsCut}
use Rattle.checkpointer.specs.Inside.{AreHeads, next_cut}
use Rattle.checkpointer.specs.Numbers.{IsNumber}

-- ## Numbers

-- there is one alone
pub one_number : (covers : List ℕ) (floor : ℕ) (first : Option ℕ) (x y : ℕ) → IsNumber covers floor first x → IsNumber covers floor first y → x ≡ y
one_number covers floor first x y a b = let p = a.greatest y b.covered b.low b.below in let q = b.greatest x a.covered a.low a.below in omega arith

-- no block is passed
cut_none : (log : Log) → cut_log 0 log ≡ log
cut_none log = ap (λ (h : ℕ). record log { head = h }) (let e : log.head + 0 ≡ log.head = omega arith in e)

ends_length : (ws : List (List Record)) → length (ends_of ws) ≡ length ws
ends_length [] = refl
ends_length (rs ∷ ws) = let e = ends_length ws in omega arith

-- ## In a run

module _ (passes : EveryPassed) (g : Opening) (es : List Event) (s0 : Crash) (k : Known) (x floor count : ℕ) (log : ℕ → Log) (m : Master) (s : Story) (due : IsDue g es s0 k x floor count log m s) (rings : AreRings count log m) (heads : List ℕ) (are : AreHeads x count log heads) (low : floor < 2 ^ 64) where
  is_master : IsMaster (slot_of k.master) k.master
  is_master = (is_slot (slot_of k.master) (piece 1024 (slot_of k.master) (s.area 0).bytes) k.master due.stands.master.there).holds

  abbrev next : Master
  next = next_cut m heads floor

  workers : g.workers ≡ count
  workers = due.count_is

  -- a head is at most the block in hand
  within : (w : ℕ) → 0 < w → w ≤ count → (log w).head + passed_by x (log w).ends ≤ (log w).next
  within w some most =
      let high : w ≤ g.workers = let e = workers in omega arith in
      let st = due.stands.logs w some high in
      let f = st.accounts.flushed in
      let le : x ≤ flushed_by_all g (state_after g es) = (Rattle.disk_runs.proofs.RingLemmas.low passes s0 s g es k x due.stands due.may_cut) in
      let p = (Rattle.disk_runs.proofs.RingLemmas.at passes s0 s g es k x due.stands due.may_cut w some high).synced in
      let n = st.kept.next in let y = st.kept.synced in
      subst (λ (l : Log). l.head + passed_by x l.ends ≤ l.next) (due.log_is w some most) (omega arith)

  head_at : (w : ℕ) → 0 < w → w ≤ count → head_of next w ≡ (log w).head + passed_by x (log w).ends
  head_at zero some most = absurd (omega arith)
  head_at (suc j) some most =
      let a = are.each j (omega arith) in
      let e : j + 1 ≡ suc j = omega arith in
      ap (slice_index heads) (let i : suc j - 1 ≡ j = omega arith in i) ∙ subst (λ (i : ℕ). slice_index heads j ≡ (log i).head + passed_by x (log i).ends) e a

  pub next_of_cut : IsNextCut g es k next x
  next_of_cut = record {
    next = record {
      sequence = ap (λ (n : Master). n.sequence + 1) (sym due.master_is);
      generation = ap (λ (n : Master). n.generation) (sym due.master_is);
      pages = ap (λ (n : Master). n.pages) (sym due.master_is);
      blocks = ap (λ (n : Master). n.blocks) (sym due.master_is);
      logs = are.logs ∙ (sym rings.logs ∙ ap (λ (n : Master). length n.heads) (sym due.master_is));
    };
    valid = valid (subst (λ (n : Master). IsMaster (slot_of n) n) due.master_is is_master);
    floor = due.floor_is;
    heads = λ w some high. let e = workers in let l = due.log_is w some (omega arith) in head_at w some (omega arith) ∙ ap (λ (z : Log). z.head + passed_by x z.ends) (sym l);
  }
    where
      valid : IsMaster (slot_of m) m → IsMaster (slot_of next) next
      valid is = record {
        pages = is.pages;
        blocks = is.blocks;
        logs = let a = are.logs in let b = rings.logs in let c = is.logs in (omega arith, omega arith);
        parity = refl;
        sequence = rings.last;
        generation = is.generation;
        floor = low;
        heads = λ j lt. let n = are.logs in let a = ap (slice_index heads) (let i : j ≡ suc j - 1 = omega arith in i) ∙ head_at (suc j) (omega arith) (omega arith) in let b = within (suc j) (omega arith) (omega arith) in let c = rings.short (suc j) (omega arith) (omega arith) in short (slice_index heads j) a b c;
      }
        where
          short : (h : ℕ) {a b : ℕ} → h ≡ a → a ≤ b → b < 2 ^ 63 → h < 2 ^ 63
          short h e le lt = omega arith

  module _ (new : Story) (is : ℕ → Log) (cuts : CutsOn next s new) (passed : ArePassed x count log is) where
    pub cut_off : IsCutOff g es s0 k x count is next new
    cut_off = record {
      known = with_cut k next (passed_of k x);
      stands = cuts s0 g es k x due.stands due.may_cut next_of_cut;
      log_is = λ w some most. ap (λ (z : Log). cut_log (passed_by x z.ends) z) (due.log_is w some most) ∙ sym (passed w some most);
      master_is = refl;
      no_earlier = lines.next (Event.Cut x (heads_of k x)) k.master next refl next_of_cut.next;
      firm = refl;
      late = refl;
    }

  pub cut_moments : (new : Story) → master_cuts.KeepsCut next s new → LeavesOnly s new (LeavesSome g es (Event.Cut x (heads_of k x) ∷ []) s0 k.master)
  cut_moments new keeps = (every_moment s s new s0 g es k.master).master (Event.Cut x (heads_of k x)) next [] refl next_of_cut.next (keeps s0 g es k x due.stands due.may_cut next_of_cut)

-- no head moves
module _ (passes : EveryPassed) (versions : EveryVersion) (g : Opening) (es : List Event) (s0 : Crash) (k : Known) (x floor count : ℕ) (log : ℕ → Log) (m : Master) (s : Story) (due : IsDue g es s0 k x floor count log m s) (none : (w : ℕ) → 0 < w → w ≤ count → passed_by x (log w).ends ≡ 0) where
  pub still_off : IsCutOff g es s0 k x count log m s
  still_off = record {
    known = k;
    stands = every_still_cut passes versions s s0 g es k x due.stands due.may_cut
        (λ w some high. let e = due.count_is in ap (λ (z : Log). passed_by x z.ends) (due.log_is w some (omega arith)) ∙ none w some (omega arith));
    log_is = due.log_is;
    master_is = due.master_is;
    no_earlier = lines.same (Event.Cut x (heads_of k x) ∷ []) k.master;
    firm = refl;
    late = refl;
  }

-- the heads are the master's, so none moves
pub none_moves : (x count : ℕ) (log : ℕ → Log) (m : Master) (heads : List ℕ) → AreRings count log m → AreHeads x count log heads → ((k : ℕ) → k < length heads → slice_index heads k ≡ slice_index m.heads k) → (w : ℕ) → 0 < w → w ≤ count → passed_by x (log w).ends ≡ 0
none_moves x count log m heads rings are same zero some most = absurd (omega arith)
none_moves x count log m heads rings are same (suc j) some most =
    let n = are.logs in
    let a = are.each j (omega arith) in
    let e : j + 1 ≡ suc j = omega arith in
    let b : slice_index heads j ≡ (log (suc j)).head + passed_by x (log (suc j)).ends = subst (λ (i : ℕ). slice_index heads j ≡ (log i).head + passed_by x (log i).ends) e a in
    let c = same j (omega arith) in
    let d : (log (suc j)).head ≡ slice_index m.heads j = rings.head (suc j) some most ∙ ap (slice_index m.heads) (let i : suc j - 1 ≡ j = omega arith in i) in
    omega arith

pub passed_none : (x count : ℕ) (log : ℕ → Log) → ((w : ℕ) → 0 < w → w ≤ count → passed_by x (log w).ends ≡ 0) → ArePassed x count log log
passed_none x count log none w some most = sym (ap (λ (n : ℕ). cut_log n (log w)) (none w some most) ∙ cut_none (log w))

-- no call was made
pub still_keeps : EveryKept → EveryPrefix → EverySealed → (x floor count : ℕ) (log : ℕ → Log) (m : Master) (s : Story) → IsLawful s → KeepsCut x floor count log m s s
still_keeps kept prefixes seals x floor count log m s law = record {
  moments = λ g es s0 k due. (every_moment s s s s0 g es k.master).call (Event.Cut x (heads_of k x) ∷ []) (started s (LeavesRun g es s0 k.master) law (λ c now. every_rest kept prefixes seals s s0 g es k due.stands c now));
  told = λ g es s0 k due. started s (λ c. c.notes ≡ s.notes) law (λ c now. now.notes);
}

pub cut_keeps : EveryPassed → (x floor count : ℕ) (log : ℕ → Log) (m : Master) (heads : List ℕ) (s new : Story) → AreRings count log m → AreHeads x count log heads → floor < 2 ^ 64 → master_cuts.KeepsCut (next_cut m heads floor) s new → LeavesOnly s new (CrashIn s 0 Anything) → KeepsCut x floor count log m s new
cut_keeps passes x floor count log m heads s new rings are low keeps inside = record {
  moments = λ g es s0 k due. cut_moments passes g es s0 k x floor count log m s due rings heads are low new keeps;
  told = λ g es s0 k due. weaker s new (CrashIn s 0 Anything) (λ c. c.notes ≡ s.notes) (λ c i. i.notes) inside;
}

-- where none moves the heads are the master's
pub same_heads : (x count : ℕ) (log : ℕ → Log) (m : Master) (heads : List ℕ) → AreRings count log m → AreHeads x count log heads → ((w : ℕ) → 0 < w → w ≤ count → passed_by x (log w).ends ≡ 0) → (k : ℕ) → k < length heads → slice_index heads k ≡ slice_index m.heads k
same_heads x count log m heads rings are none k lt =
    let n = are.logs in
    let a = are.each k (omega arith) in
    let e : k + 1 ≡ suc k = omega arith in
    let b : slice_index heads k ≡ (log (suc k)).head + passed_by x (log (suc k)).ends = subst (λ (i : ℕ). slice_index heads k ≡ (log i).head + passed_by x (log i).ends) e a in
    let c = none (suc k) (omega arith) (omega arith) in
    let d : (log (suc k)).head ≡ slice_index m.heads k = rings.head (suc k) (omega arith) (omega arith) ∙ ap (slice_index m.heads) (let i : suc k - 1 ≡ k = omega arith in i) in
    omega arith
