-- Logs one behind the other, and in order.
use Rattle.std.proofs.Common.{◌≡◌, ◌⊎◌, inl, inr, ◌≤◌, ◌<◌, ◌++◌, ℕ, suc, List, [], length, map, refl, sym, ◌∙◌, ap, subst, arith}
use Rattle.std.proofs.lemmas.Bool.{cases_lt}
use mathlib.Core.Path.{fun_ext}
use Rattle.map_model.specs.Lists.{Has, in_order}
use Rattle.map_model.proofs.ListLemmas.{order_has}
use Rattle.disk_image.specs.image_model.Entries.{Entry, earlier}
use Rattle.disk_image.specs.image_model.Images.{IsFalling}
use Rattle.lean_disk.specs.Moments.{OnlyReads}
use Rattle.lean_disk.specs.Story.{Story, Tells, areas_of}
use Rattle.disk_image.specs.disk_slots.declared.master.Master.{Master}
use Rattle.disk_image.specs.Runs.{Logged, AreReadable, entries_in}
use Rattle.disk_image.specs.Shown.{Areas, run_of, logged_in, image_by}
use Rattle.disk_image.specs.Breaks.{StandsAt}
use Rattle.log_index.specs.Items.{Item, earlier_item, newest_first}
use Rattle.log_index.proofs.OrderLemmas.{has_reverse, map_order}
use Rattle.recovery_scan.specs.Records.{entry_of, logged_of, entries_of}
use Rattle.recovery_scan.specs.Scans.{AreOfLogs, IsBadLog, IsScanned, TellsLogs}
use Rattle.recovery_scan.specs.Inside.{Joined, IsScan, IsGathered}
use Rattle.recovery_scan.proofs.ItemLemmas.{has_either, has_back, has_map, entries_joined}

-- where only reads were made
pub same_areas : (s0 s1 : Story) → ((a : ℕ) → s1.area a ≡ s0.area a) → areas_of s1 ≡ areas_of s0
same_areas s0 s1 same = fun_ext (λ (a : ℕ). ap (λ x. x.bytes) (same a))

-- ## A log more

pub of_logs_none : (n : ℕ) → AreOfLogs n []
of_logs_none n x h = absurd h

pub of_logs_more : (n : ℕ) (old new : List Item) (P : List Item → Type 0) → AreOfLogs n old → Joined (suc n) old new P → AreOfLogs (suc n) new
of_logs_more n old new P of j x h = at (has_either old j.added x (subst (Has x) j.is h))
  where
    at : Has x old ⊎ Has x j.added → (0 < x.log) × (x.log ≤ suc n)
    at (inl m) = let few : x.log ≤ n = (of x m).1 in ((of x m).0, omega (arith, few))
    at (inr m) = let is : x.log ≡ suc n = j.of_log x m in (omega (arith, is), omega (arith, is))

pub gathered_none : (m : Master) (area : Areas) → IsGathered m area 0 []
gathered_none m area = record {
  readable = λ w some le. absurd (omega (arith, some, le));
  rising = λ w some le. absurd (omega (arith, some, le));
  records = refl;
  stands = λ x h. absurd h;
}

-- of each log up to the next one, from each log up to this one, and the next one
up_to : (P : ℕ → Type 0) (n : ℕ) → ((w : ℕ) → 0 < w → w ≤ n → P w) → P (suc n) → (w : ℕ) → 0 < w → w ≤ suc n → P w
up_to P n each next w some le = elim (cases_lt n w) [
  | inl lt ↦ let is : suc n ≡ w = omega (arith, lt, le) in subst P is next
  | inr few ↦ each w some few
]

pub gathered_more : (m : Master) (area : Areas) (n : ℕ) (old new : List Item) → suc n ≤ length m.heads → IsGathered m area n old → Joined (suc n) old new (IsScan m (suc n) area) → IsGathered m area (suc n) new
gathered_more m area n old new within g j = record {
  readable = up_to (λ w. AreReadable m.generation w (run_of m w (area (suc w)))) n g.readable j.holds.readable;
  rising = up_to (λ w. IsFalling ((image_by m area).log w)) n g.rising j.holds.rising;
  records = ap entries_of j.is ∙ (entries_joined old j.added ∙ (ap (λ (l : List Logged). entries_in l ++ entries_of old) j.holds.records
      ∙ ap (λ (l : List Entry). entries_in (logged_in m (suc n) (area (suc (suc n)))) ++ l) g.records));
  stands = λ x h. at x (has_either old j.added x (subst (Has x) j.is h));
}
  where
    there : (x : Item) → Has x j.added → Has (logged_of x) (logged_in m (suc n) (area (suc (suc n))))
    there x h = subst (Has (logged_of x)) j.holds.records (has_map logged_of (newest_first j.added) x (has_back j.added x h))

    at : (x : Item) → Has x old ⊎ Has x j.added → StandsAt m area x.log x.place (entry_of x)
    at x (inl h) = g.stands x h
    at x (inr h) =
        let is : x.log ≡ suc n = j.of_log x h in
        record {
          log = (omega (arith, is), omega (arith, is, within));
          has = subst (λ (w : ℕ). Has (logged_of x) (logged_in m w (area (suc w)))) (sym is) (there x h);
        }

-- the next log of a disk was read, where only reads were made before it
pub next_log : (m : Master) (s0 s : Story) (n k : ℕ) → k ≡ suc n → (old new : List Item) → k ≤ length m.heads → OnlyReads s0 s → (TellsLogs m s0 → IsGathered m (areas_of s0) n old)
    → Joined k old new (λ added. Tells s (suc k) → IsScan m k (areas_of s) added) → TellsLogs m s0 → IsGathered m (areas_of s0) k new
next_log m s0 s n k is old new within reads so_far j told =
    let scan : IsScan m k (areas_of s0) j.added = subst (λ (a : Areas). IsScan m k a j.added) (same_areas s0 s reads.area) (j.holds (reads.tells (suc k) ∙ told k (omega (arith, is)) within)) in
    subst (λ (i : ℕ). i ≤ length m.heads → Joined i old new (IsScan m i (areas_of s0)) → IsGathered m (areas_of s0) i new) (sym is) (λ le here. gathered_more m (areas_of s0) n old new le (so_far told) here)
    within (record { added = j.added; is = j.is; of_log = j.of_log; holds = scan })

pub next_of_logs : (n k : ℕ) → k ≡ suc n → (old new : List Item) (P : List Item → Type 0) → AreOfLogs n old → Joined k old new P → AreOfLogs k new
next_of_logs n k is old new P of j = subst (λ (i : ℕ). Joined i old new P → AreOfLogs i new) (sym is) (of_logs_more n old new P of) j

-- a bad one
pub next_bad : (m : Master) (s0 s : Story) (w place : ℕ) → OnlyReads s0 s → (Tells s (suc w) → IsBadLog m w (areas_of s) place) → Tells s0 (suc w) → IsBadLog m w (areas_of s0) place
next_bad m s0 s w place reads bad told = subst (λ (a : Areas). IsBadLog m w a place) (same_areas s0 s reads.area) (bad (reads.tells (suc w) ∙ told))

-- ## In order

module _ (old new : List Item) (is : newest_first new ≡ in_order earlier_item (newest_first old)) where
  has_before : (x : Item) → Has x new → Has x old
  has_before x h = has_reverse old x (order_has earlier_item (newest_first old) x (subst (Has x) is (has_back new x h)))

  pub of_logs_sorted : (n : ℕ) → AreOfLogs n old → AreOfLogs n new
  of_logs_sorted n of x h = of x (has_before x h)

  pub scanned : (m : Master) (area : Areas) → IsGathered m area (length m.heads) old → IsScanned m area new
  scanned m area g = record {
    readable = g.readable;
    rising = g.rising;
    records = ap (map entry_of) is ∙ (map_order entry_of earlier_item earlier (newest_first old) (λ x y h k. refl) ∙ ap (in_order earlier) g.records);
    stands = λ x h. g.stands x (has_before x h);
  }
