-- The next run's premises, by the clauses of the run before it.
use Rattle.std.proofs.Common.{◌≡◌, ◌⊎◌, inl, inr, ◌+◌, ◌<◌, ◌≤◌, ◌^◌, ℕ, suc, length, Some, refl, sym, ◌∙◌, ap, subst, arith}
use Rattle.std.specs.Prelude.{List}
use mathlib.Core.Path.{fun_ext}
use Rattle.lean_disk.specs.Area.{Area}
use Rattle.lean_disk.specs.Laws.{EveryArea, EveryMoment, HasCrash}
use Rattle.lean_disk.specs.MemDisk.{disk_story}
use Rattle.lean_disk.specs.Story.{Crash, Story, areas_of}
use Rattle.lean_disk.specs.Told.{Begins}
use Rattle.lean_disk.specs.declared.mem_disk.MemDisk.{MemDisk}
use Rattle.lean_shell.specs.disk_slots.declared.master.Master.{Master}
use Rattle.lean_shell.specs.disk_image.Fair.{IsFairCrash}
use Rattle.lean_shell.specs.disk_image.MasterSlots.{master_on}
use Rattle.lean_shell.specs.disk_image.Shown.{Areas, IsCleanDisk}
use Rattle.lean_shell.specs.recovery.Masters.{IsOpenable}
use Rattle.lean_shell.specs.Crashes.{HasMasterOf, IsUnwritten, IsYoung, MasterLeaves, TellsCrashes}
use Rattle.lean_shell.specs.Headline.{RunLeaves, Survives}
use Rattle.lean_shell.specs.Runs.{AreOf}
use Rattle.lean_shell.specs.Starts.{IsOfOpening}
use Rattle.run_tests.specs.Laws.{EveryNextRun, IsCutOff, IsOfMap, IsReadyAgain}

-- a disk that begins tells of crashes
tells_crashes : EveryArea → (most : ℕ) (d : MemDisk) (areas : ℕ) (bytes : Areas) → Begins areas bytes (disk_story d) → TellsCrashes most (disk_story d)
tells_crashes tells most d areas bytes b = record {
  all = record { master = tells d 0 b.counts; pages = tells d 1 b.counts; logs = λ m master openable w some last. tells d (suc w) b.counts };
  counts = b.counts;
}

-- the numbers of a master of the opening are far from their ends too, if its sequence number is
young_again : (m n : Master) (area : Areas) (s : Story) → (n ≡ m) ⊎ IsOfOpening m area n → n.sequence < 2 ^ 62 → m.generation + 1 < 2 ^ 62 → s.notes ≡ 0 → IsYoung n s
young_again m n area s is sequence generation notes = elim is [
  | inl same ↦ let b : n.generation ≡ m.generation = ap (λ (x : Master). x.generation) same in
      record { sequence = sequence; generation = omega (arith, b, generation); notes = omega (arith, notes) }
  | inr o ↦ let a : o.first.generation ≡ suc m.generation = ap (λ (x : Master). x.generation) o.next.is in let b : n.generation ≡ o.first.generation = o.later.generation in
      record { sequence = sequence; generation = omega (arith, a, b, generation); notes = omega (arith, notes) }
]

next_generation : (m n : Master) (area : Areas) → (n ≡ m) ⊎ IsOfOpening m area n → n.generation ≤ suc m.generation
next_generation m n area is = elim is [
  | inl same ↦ let b : n.generation ≡ m.generation = ap (λ (x : Master). x.generation) same in omega (arith, b)
  | inr o ↦ let a : o.first.generation ≡ suc m.generation = ap (λ (x : Master). x.generation) o.next.is in let b : n.generation ≡ o.first.generation = o.later.generation in omega (arith, a, b)
]

-- of as many logs, with numbers that are not far above
openable_again : (m n : Master) (most : ℕ) → length n.heads ≡ length m.heads → n.sequence < m.sequence + 2 ^ 60 → n.generation ≤ suc m.generation → m.generation + 1 < 2 ^ 62 → IsOpenable most m → m.sequence < 2 ^ 60 → IsOpenable most n
openable_again m n most logs raised later generation o small =
    record { some = omega (arith, logs, o.some); few = omega (arith, logs, o.few); sequence = omega (arith, raised, small); generation = omega (arith, later, generation) }

-- where nothing was written yet, a crash leaves what stood there
unwritten_image : EveryArea → (m : Master) (first : MemDisk) (areas : ℕ) (bytes : Areas) (input put : List ℕ) (c : Crash) → Begins areas bytes (disk_story first) → IsUnwritten m (disk_story first) input put c →
    c.image ≡ areas_of (disk_story first)
unwritten_image tells m first areas bytes input put c begins u =
    fun_ext (λ a. (u.leaves a (tells first a begins.counts)).clean (ap (λ (z : Area). z.unsynced) (begins.area a)))

-- two masters that count are one
one_master : (m n : Master) (bytes : List ℕ) → master_on bytes ≡ Some m → master_on bytes ≡ Some n → n ≡ m
one_master m n bytes one other = grind (arith, one, other)

module _ (told : EveryArea) (m : Master) (first last left : MemDisk) (x : IsCutOff m first last left) (c : Crash) (image : c.image ≡ areas_of (disk_story left))
    (fair : IsFairCrash (length m.heads) (disk_story first) c) where
  abbrev Ready : Type 0
  Ready = IsReadyAgain m (disk_story first) (disk_story left) x.feed.left x.ends.put

  ready : (n : Master) → (n ≡ m) ⊎ IsOfOpening m (areas_of (disk_story first)) n → length n.heads ≡ length m.heads → n.sequence < m.sequence + 2 ^ 60 → IsCleanDisk n c.image → IsOfMap m (disk_story first) x.feed.left x.ends.put c.image → Ready
  ready n is logs raised clean map = record {
    n = n;
    is = is;
    tells = λ most. tells_crashes told most left (disk_story last).areas (areas_of (disk_story left)) x.after.begins;
    clean = subst (IsCleanDisk n) image clean;
    young = young_again m n (areas_of (disk_story first)) (disk_story left) is (let a = x.sequence in omega arith) x.generation x.after.begins.notes;
    raised = raised;
    next_generation = next_generation m n (areas_of (disk_story first)) is;
    openable = λ most o small. openable_again m n most logs raised (next_generation m n (areas_of (disk_story first)) is) x.generation o small;
    map = subst (IsOfMap m (disk_story first) x.feed.left x.ends.put) image map;
  }

  stands : c.image ≡ areas_of (disk_story first) → Ready
  stands same = ready m (inl refl) refl (omega arith) (subst (IsCleanDisk m) (sym same) x.clean) (inl same)

  by_master : HasMasterOf x.size (AreOf x.ends.how) m (disk_story first) x.feed.left x.ends.put c → Survives m (disk_story first) x.feed.left x.ends.put c → Ready
  by_master h s =
      let one : h.n ≡ s.n = sym (one_master h.n s.n (c.image 0) h.counts s.clean.master) in
      let raised : h.n.sequence < m.sequence + 2 ^ 60 = let same = ap (λ (n : Master). n.sequence) one in let a = s.near.sequence in omega arith in
      ready h.n h.is (ap (λ (n : Master). length n.heads) one ∙ s.of_run.logs) raised (subst (λ n. IsCleanDisk n c.image) (sym one) s.clean) (inr (c, refl, s))

  by_map : HasMasterOf x.size (AreOf x.ends.how) m (disk_story first) x.feed.left x.ends.put c → RunLeaves m (disk_story first) x.feed.left x.ends.put c → Ready
  by_map h leaves = elim leaves [
    | inl u ↦ stands (unwritten_image told m first x.areas x.bytes x.feed.left x.ends.put c x.begins u)
    | inr survives ↦ by_master h (survives fair)
  ]

  pub ready_by : MasterLeaves x.size (AreOf x.ends.how) m (disk_story first) x.feed.left x.ends.put c → RunLeaves m (disk_story first) x.feed.left x.ends.put c → Ready
  ready_by masters leaves = elim masters [
    | inl u ↦ stands (unwritten_image told m first x.areas x.bytes x.feed.left x.ends.put c x.begins u)
    | inr h ↦ by_map (h fair) leaves
  ]

pub every_next_run : EveryArea → EveryMoment → EveryNextRun
every_next_run told every m first last left x =
    let tells : TellsCrashes x.size.sessions (disk_story first) = tells_crashes told x.size.sessions first x.areas x.bytes x.begins in
    let young : IsYoung m (disk_story first) = young_again m m (areas_of (disk_story first)) (disk_story first) (inl refl) (let a = x.sequence in omega arith) x.generation x.begins.notes in
    let here : HasCrash (disk_story last) x.moment = every last x.moment (x.ends.tells_on.counts ∙ x.begins.counts) x.by_now in
    let there : (disk_story last).left_at x.moment (record here.crash { image = areas_of (disk_story left) }) = x.after.left here.crash here.there in
    let later : (disk_story first).moment ≤ x.moment = subst (λ k. k ≤ x.moment) (sym x.begins.moment) (omega arith) in
    let c : Crash = record here.crash { image = areas_of (disk_story left) } in
    ready_by told m first last left x c refl (x.fair c there refl)
    ((x.ends.masters x.script m tells x.clean young).each x.moment c later there)
    ((x.headline.any_moment tells.counts m x.clean young).each x.moment c later there)
