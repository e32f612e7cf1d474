-- What is kept of the row, by which of its records the logs have.
use Rattle.std.proofs.Common.{◌≡◌, ◌⊎◌, ◌++◌, ⊎_elim, inl, inr, ℕ, ltb, true, false, true≢false, List, [], ◌∷◌, drop, length, refl, sym, ap, ◌∙◌, subst, arith}
use mathlib.Core.Path.{subst₂}
use Rattle.map_model.specs.Journals.{Journal, Name, after}
use Rattle.map_model.specs.Lists.{Has}
use Rattle.disk_runs.specs.image_model.Entries.{Entry}
use Rattle.disk_runs.specs.image_model.Ends.{kept, reach, winners}
use Rattle.disk_runs.specs.image_model.Images.{found, gathered, won_by}
use Rattle.disk_runs.specs.core_state.Openings.{Opening, first_map}
use Rattle.disk_runs.specs.core_state.Events.{Event}
use Rattle.disk_runs.specs.core_state.Steps.{state_after}
use Rattle.disk_runs.specs.core_crash.Crashes.{from_head, journal_in}
use Rattle.disk_runs.specs.core_crash.Example.{events, second}
use Rattle.disk_runs.specs.disk_slots.declared.master.Master.{Master}
use Rattle.disk_runs.specs.disk_image.Formats.{format_of}
use Rattle.disk_runs.specs.disk_image.Records.{entry_of}
use Rattle.disk_runs.specs.disk_image.Shown.{Areas, DiskStandsFor, image_by}
use Rattle.disk_runs.specs.core_disk.Held.{HoldsLog, HoldsRun}
use Rattle.disk_runs.specs.core_disk.Lives.{EveryHeld, kept_on}
use Rattle.row_crashes.specs.Left.{AnyMomentLeft, EveryLeft, Left, Nothing, Second, has_commit, ripe_events, second_name, shown}
use Rattle.lean_disk.specs.Story.{Story}
use Rattle.lean_disk.proofs.MomentLemmas.{weaker}
use Rattle.disk_runs.specs.worker_log.Logs.{Log}
use Rattle.disk_runs.specs.Fair.{IsFairFrom}
use Rattle.disk_runs.specs.Stands.{LeavesRun}
use Rattle.log_calls.specs.Calls.{KeepsMoments}
use Rattle.row_crashes.proofs.CarryLemmas.{moments_here}
use Rattle.row_crashes.specs.Row.{IsRowOpening}
use Rattle.row_crashes.proofs.RowLemmas.{IsBehind, RowFacts, change_5, commit, log_1, log_2, row_facts, up_to}

-- ## Older parts of a list

abbrev pub EachTail : (List Entry → Type 0) → List Entry → Type 0
EachTail P [] = P []
EachTail P (x ∷ xs) = P (x ∷ xs) × EachTail P xs

by_tail : (P : List Entry → Type 0) (all newer left : List Entry) → EachTail P all → newer ++ left ≡ all → P left
by_tail P [] [] left t e = subst P (sym e) t
by_tail P [] (x ∷ newer) left t e = absurd (let n : length (x ∷ (newer ++ left)) ≡ 0 = ap length e in omega arith)
by_tail P (y ∷ ys) [] left t e = subst P (sym e) t.0
by_tail P (y ∷ ys) (x ∷ newer) left t e = by_tail P ys newer left t.1 (ap (drop 1) e)

-- ## What is kept

-- of the records of both logs
abbrev pub both : (u1 u2 : List Entry) → List Entry
both u1 u2 = u2 ++ (u1 ++ [])

pub record GivesNone (u1 u2 : List Entry) : Type 0 where
  pub missing : (u1 ≡ []) ⊎ (has_commit u2 ≡ false)
  pub kept_is : kept 2 0 (both u1 u2) (second ∷ []) ≡ []
  pub won_is : winners (reach 2 0 (both u1 u2)) (both u1 u2) ≡ []

pub record GivesSecond (u1 u2 : List Entry) : Type 0 where
  pub first : length u1 ≡ 1
  pub committed : has_commit u2 ≡ true
  pub kept_is : kept 2 0 (both u1 u2) (second ∷ []) ≡ second ∷ []
  pub won_is : winners (reach 2 0 (both u1 u2)) (both u1 u2) ≡ second_name ∷ []

abbrev pub Gives : (u1 u2 : List Entry) → Type 0
Gives u1 u2 = GivesNone u1 u2 ⊎ GivesSecond u1 u2

-- from the records that were left of each
abbrev pub GivesLeft : (l1 l2 : List Entry) → Type 0
GivesLeft l1 l2 = Gives (from_head 0 l1) (from_head 0 l2)

abbrev pub Each2 : List Entry → Type 0
Each2 l2 = EachTail (λ l1. GivesLeft l1 l2) log_1

all_gives : EachTail Each2 log_2
all_gives = (
  (inr (record { first = refl; committed = refl; kept_is = refl; won_is = refl }), inl (record { missing = inl refl; kept_is = refl; won_is = refl })),
  (
    (inl (record { missing = inr refl; kept_is = refl; won_is = refl }), inl (record { missing = inl refl; kept_is = refl; won_is = refl })),
    (
      (inl (record { missing = inr refl; kept_is = refl; won_is = refl }), inl (record { missing = inl refl; kept_is = refl; won_is = refl })),
      (
        (inl (record { missing = inr refl; kept_is = refl; won_is = refl }), inl (record { missing = inl refl; kept_is = refl; won_is = refl })),
        (
          (inl (record { missing = inr refl; kept_is = refl; won_is = refl }), inl (record { missing = inl refl; kept_is = refl; won_is = refl })),
          (inl (record { missing = inr refl; kept_is = refl; won_is = refl }), inl (record { missing = inl refl; kept_is = refl; won_is = refl })),
        ),
      ),
    ),
  ),
)

-- ## The commit of log 2

abbrev pub AreBelow : List Entry → Type 0
AreBelow [] = Unit {0}
AreBelow (r ∷ l) = (ltb r.number 6 ≡ true) × AreBelow l

not_there : (l : List Entry) → AreBelow l → Has (entry_of 2 commit) l → ⊥
not_there [] b h = h
not_there (r ∷ l) b h = ⊎_elim
    (λ (e : entry_of 2 commit ≡ r). let f : ltb 6 6 ≡ true = subst (λ (x : Entry). ltb x.number 6 ≡ true) (sym e) b.0 in true≢false (sym f))
    (λ (t : Has (entry_of 2 commit) l). not_there l b.1 t)
    h

-- a part of log 2 that has it shows it
abbrev pub IsThere : List Entry → Type 0
IsThere l = Has (entry_of 2 commit) l → has_commit (from_head 0 l) ≡ true

all_there : EachTail IsThere log_2
all_there = (
  λ h. refl,
  (
    λ h. absurd (not_there (drop 1 log_2) (refl, (refl, (refl, (refl, tt)))) h),
    (
      λ h. absurd (not_there (drop 2 log_2) (refl, (refl, (refl, tt))) h),
      (
        λ h. absurd (not_there (drop 3 log_2) (refl, (refl, tt)) h),
        (λ h. absurd (not_there (drop 4 log_2) (refl, tt) h), λ h. absurd h),
      ),
    ),
  ),
)

-- ## On a disk

module _ (held : EveryHeld) (g : Opening) (es : List Event) (n : Master) (area : Areas) (opening : IsRowOpening g) (b : IsBehind g (state_after g es)) (h : HoldsRun g es n area) where
  l1 : HoldsLog g (state_after g es) n 1 (area 2)
  l1 = h.logs 1 (omega arith) (let w = opening.workers in omega arith)

  l2 : HoldsLog g (state_after g es) n 2 (area 3)
  l2 = h.logs 2 (omega arith) (let w = opening.workers in omega arith)

  shown_1 : shown n area 1 ≡ from_head 0 l1.left
  shown_1 = l1.holds.entries ∙ ap (λ (k : ℕ). from_head k l1.left) (b.head 1)

  shown_2 : shown n area 2 ≡ from_head 0 l2.left
  shown_2 = l2.holds.entries ∙ ap (λ (k : ℕ). from_head k l2.left) (b.head 2)

  gives_left : GivesLeft l1.left l2.left
  gives_left = by_tail (λ l. GivesLeft l l2.left) log_1 l1.holds.prefix.0 l1.left
      (by_tail Each2 log_2 l2.holds.prefix.0 l2.left all_gives (l2.holds.prefix.1 ∙ b.in_2)) (l1.holds.prefix.1 ∙ b.in_1)

  gives : Gives (shown n area 1) (shown n area 2)
  gives = subst₂ Gives (sym shown_1) (sym shown_2) gives_left

  logs_are : length n.heads ≡ 2
  logs_are = h.is.logs ∙ opening.workers

  floor_is : n.floor ≡ 0
  floor_is = let l = h.is.floor.low in let e = b.floor in omega arith

  abbrev z : List Entry
  z = both (shown n area 1) (shown n area 2)

  found_is : found (image_by n area) ≡ z
  found_is = ap (gathered (λ (w : ℕ). shown n area w)) logs_are

  kept_is : kept_on g (state_after g es) n area ≡ kept 2 0 z (second ∷ [])
  kept_is = ap (λ (k : ℕ). kept k n.floor (found (image_by n area)) (journal_in g (state_after g es))) opening.workers
      ∙ (ap (λ (f : ℕ). kept 2 f (found (image_by n area)) (journal_in g (state_after g es))) floor_is
      ∙ (ap (λ (y : List Entry). kept 2 0 y (journal_in g (state_after g es))) found_is ∙ ap (λ (j : Journal). kept 2 0 z j) b.journal))

  won_is : won_by (image_by n area) ≡ winners (reach 2 0 z) z
  won_is = ap (λ (k : ℕ). winners (reach k n.floor (found (image_by n area))) (found (image_by n area))) logs_are
      ∙ (ap (λ (f : ℕ). winners (reach 2 f (found (image_by n area))) (found (image_by n area))) floor_is ∙ ap (λ (y : List Entry). winners (reach 2 0 y) y) found_is)

  stands : (j : Journal) (won : List Name) → kept 2 0 z (second ∷ []) ≡ j → winners (reach 2 0 z) z ≡ won → DiskStandsFor n area (after (first_map g) j) won
  stands j won k w = subst₂ (λ (i : Journal) (v : List Name). DiskStandsFor n area (after (first_map g) i) v) (kept_is ∙ k) (won_is ∙ w) (held g es n area h).stands

  pub left : Left g n area
  left = ⊎_elim
      (λ (x : GivesNone (shown n area 1) (shown n area 2)). Nothing x.missing (stands [] [] x.kept_is x.won_is))
      (λ (x : GivesSecond (shown n area 1) (shown n area 2)). Second x.first x.committed (stands (second ∷ []) (second_name ∷ []) x.kept_is x.won_is))
      gives

  -- where log 2 is flushed its commit is there
  pub committed : (state_after g es).flushed 2 ≡ 6 → has_commit (shown n area 2) ≡ true
  committed flushed = subst (λ (l : List Entry). has_commit l ≡ true) (sym shown_2)
      (by_tail IsThere log_2 l2.holds.prefix.0 l2.left all_there (l2.holds.prefix.1 ∙ b.in_2) (l2.holds.flushed (entry_of 2 commit) (subst (Has (entry_of 2 commit)) (sym b.in_2) (inl refl)) (let f = flushed in omega arith)))

  -- where log 1 is flushed its record is there
  pub there : (state_after g es).flushed 1 ≡ 1 → length (shown n area 1) ≡ 1
  there flushed = subst (λ (l : List Entry). length l ≡ 1) (sym shown_1)
      (by_tail (λ l. Has (entry_of 1 change_5) l → length (from_head 0 l) ≡ 1) log_1 l1.holds.prefix.0 l1.left (λ h. refl, λ h. absurd h) (l1.holds.prefix.1 ∙ b.in_1)
      (l1.holds.flushed (entry_of 1 change_5) (subst (Has (entry_of 1 change_5)) (sym b.in_1) (inl refl)) (let f = flushed in omega arith)))

  -- where both are, the second transaction of worker 2 is kept
  pub ripe : (state_after g es).flushed 1 ≡ 1 → (state_after g es).flushed 2 ≡ 6 → DiskStandsFor n area (after (first_map g) (second ∷ [])) (second_name ∷ [])
  ripe one six = ⊎_elim
      (λ (x : GivesNone (shown n area 1) (shown n area 2)). absurd (⊎_elim
      (λ (none : shown n area 1 ≡ []). let a : length (shown n area 1) ≡ 0 = ap length none in let c = there one in omega arith)
      (λ (no : has_commit (shown n area 2) ≡ false). true≢false (sym (committed six) ∙ no))
      x.missing))
      (λ (x : GivesSecond (shown n area 1) (shown n area 2)). stands (second ∷ []) (second_name ∷ []) x.kept_is x.won_is)
      gives

pub every_left : EveryHeld → EveryLeft
every_left held g n area opening = record {
  during = λ h. left held g (up_to 14) n area opening (facts h.is.format).before h;
  behind = λ h. left held g events n area opening (facts h.is.format).behind h;
  committed = λ h. committed held g events n area opening (facts h.is.format).behind h (facts h.is.format).flush.here;
  ripe = λ h. ripe held g ripe_events n area opening (facts h.is.format).ripe h (facts h.is.format).flush_first.here
      ((facts h.is.format).flush_first.flushed 2 (λ e. omega arith) ∙ (facts h.is.format).flush.here);
}
  where
    facts : g.format ≡ format_of n.pages → RowFacts g
    facts format = row_facts g opening n.pages format

-- at the moments of a call behind the row
pub left_moments : EveryHeld → (first second : Log) (old new : Story) → KeepsMoments 1 first old new → AnyMomentLeft first second old new
left_moments held first second old new keeps g s0 n r = weaker old new (LeavesRun g events s0 n) (λ c. IsFairFrom g.workers s0 c → Left g n c.image)
    (λ c l fair. (every_left held g n c.image r.opening).behind (l fair)) (moments_here events first second old new keeps g s0 n r)
