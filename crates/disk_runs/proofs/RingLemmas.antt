-- The heads of a cut.
use Rattle.std.proofs.Common.{◌≡◌, inl, inr, ⊎_elim, ◌≤◌, ◌<◌, ◌+◌, ◌-◌, ◌^◌, ◌&&◌, ℕ, zero, suc, max, min, true, leb, not, List, [], ◌∷◌, ◌++◌, drop, take, length, slice_index, slice_index_or, refl, sym, ap, ◌∙◌, subst, arith, true≢false}
use Rattle.std.proofs.lemmas.Bool.{and_parts, cases_lt, cond-true, leb-true, not-true, le-leb}
use Rattle.map_model.specs.Lists.{Has, keep}
use Rattle.map_model.proofs.ListLemmas.{has_left, has_right, has_cases, keep_has}
use Rattle.master_store.specs.image_model.Entries.{Entry}
use Rattle.page_model.specs.Page.{Page}
use Rattle.core_disk.proofs.core_commit.Lists.{least_le}
use Rattle.core_disk.specs.core_crash.Crashes.{from_head, log_of}
use Rattle.core_disk.specs.core_state.Openings.{Opening}
use Rattle.core_disk.specs.core_state.States.{State, flushed_by_all}
use Rattle.core_disk.specs.core_state.Events.{Event}
use Rattle.core_disk.specs.core_state.Needs.{are_hot, may, needs, is_ripe_up_to, is_saved_up_to}
use Rattle.core_disk.specs.core_state.Steps.{happens, state_after}
use Rattle.core_disk.specs.Held.{IsVersion}
use Rattle.core_disk.specs.Versions.{EveryVersion, then}
use Rattle.core_disk.proofs.FloorLemmas.{every_floor_step, floor_low}
use Rattle.core_disk.proofs.VersionLemmas.{state_then}
use Rattle.master_store.specs.disk_image.Records.{entry_of}
use Rattle.master_store.specs.disk_image.Shown.{head_of}
use Rattle.master_store.specs.disk_slots.declared.master.Master.{Master}
use Rattle.lean_disk.specs.Story.{Crash, Story}
use Rattle.master_store.specs.log_record.declared.record.Record.{Record}
use Rattle.master_store.specs.page_store.Bases.{image_page}
use Rattle.worker_log.specs.Accounts.{Account, joined, records_of}
use Rattle.worker_log.specs.Kept.{cut}
use Rattle.worker_log.specs.Laws.{EveryPassed, PassesUpTo, entries_onto}
use Rattle.worker_log.specs.Logs.{Log, passed_by, passed_end}
use Rattle.disk_runs.specs.MasterLaws.{IsCut, IsCutLog}
use Rattle.disk_runs.specs.Masters.{IsNextOf}
use Rattle.disk_runs.specs.Pages.{IsNoOlder}
use Rattle.disk_runs.specs.Rings.{EveryRing, EveryStillCut, IsNextCut, MayCut, PassesNone, heads_of, passed_of}
use Rattle.disk_runs.specs.Stands.{Known, Stands}
use Rattle.disk_runs.proofs.PageLemmas.{pages_then}
use Rattle.disk_runs.proofs.StandLemmas.{SameLog, same_stands}

-- ## Lists

entries_has_old : (w : ℕ) (acc : List Entry) (rs : List Record) (e : Entry) → Has e acc → Has e (entries_onto w acc rs)
entries_has_old w acc [] e has = has
entries_has_old w acc (r ∷ rs) e has = entries_has_old w (entry_of w r ∷ acc) rs e (inr has)

entries_has : (w : ℕ) (acc : List Entry) (rs : List Record) (r : Record) → Has r rs → Has (entry_of w r) (entries_onto w acc rs)
entries_has w acc [] r has = absurd has
entries_has w acc (s ∷ rs) r (inl is) = entries_has_old w (entry_of w s ∷ acc) rs (entry_of w r) (inl (ap (entry_of w) is))
entries_has w acc (s ∷ rs) r (inr has) = entries_has w (entry_of w s ∷ acc) rs r has

joined_dropped : (k : ℕ) (ws : List (List Record)) (r : Record) → Has r (joined (drop k ws)) → Has r (joined ws)
joined_dropped zero ws r has = has
joined_dropped (suc k) [] r has = has
joined_dropped (suc k) (v ∷ ws) r has = has_right r v (joined ws) (joined_dropped k ws r has)

cut_has : (k : ℕ) (a : Account) (r : Record) → Has r (records_of (cut k a)) → Has r (records_of a)
cut_has k a r has = ⊎_elim
    (λ old. has_left r (joined a.written) a.current (joined_dropped k a.written r old))
    (λ now. has_right r (joined a.written) a.current now)
    (has_cases r (joined (drop k a.written)) a.current has)

-- ## A cut

module _ (passes : EveryPassed) (s0 : Crash) (s : Story) (g : Opening) (es : List Event) (k : Known) (x : ℕ) (stands : Stands g es s0 k s) (cuts : MayCut g es k x) where
  abbrev now : State
  now = state_after g es

  abbrev e : Event
  e = Event.Cut x (heads_of k x)

  abbrev t : State
  t = state_after g (then es e)

  happened : t ≡ happens g now e
  happened = state_then g es e ∙ cond-true (may g now e) (happens g now e) now (cuts.met (heads_of k x))

  head_is : (w : ℕ) → t.head w ≡ max (now.head w) (min (heads_of k x w) x)
  head_is w = ap (λ (z : State). z.head w) happened

  pub low : x ≤ flushed_by_all g now
  low = leb-true x (flushed_by_all g now) (and_parts (leb x (flushed_by_all g now)) (is_ripe_up_to g now x && is_saved_up_to now x) (and_parts (are_hot now []) (needs g now e) (cuts.met (heads_of k x))).1).0

  module _ (w : ℕ) (low_w : 0 < w) (high : w ≤ g.workers) where
    abbrev log : Log
    log = k.log w

    abbrev a : Account
    a = k.account w

    flushed : x ≤ log.flushed
    flushed = let f = (stands.logs w low_w high).accounts.flushed in let l = least_le now.flushed g.workers w (low_w, high) in let u = low in omega arith

    pub at : PassesUpTo x a log
    at = passes x a log (s.area (suc w)) flushed (stands.logs w low_w high).kept

    -- each record of the account is beyond the head
    beyond : (r : Record) → Has r (records_of a) → now.head w < r.gsn
    beyond r has =
        let h : Has (entry_of w r) (from_head (now.head w) (log_of w now.entries)) = subst (Has (entry_of w r)) (stands.logs w low_w high).accounts.entries (entries_has w [] (records_of a) r has) in
        let q = (keep_has (λ r. not (leb r.number (now.head w))) (log_of w now.entries) (entry_of w r) h).1 in
        ⊎_elim (λ (lt : now.head w < r.gsn). lt) (λ (le : r.gsn ≤ now.head w). absurd (true≢false (sym (le-leb r.gsn (now.head w) le) ∙ not-true (leb r.gsn (now.head w)) q))) (cases_lt (now.head w) r.gsn)

    before : (r : Record) → Has r (joined (take (passed_of k x w) a.written)) → r.gsn ≤ t.head w
    before r has = let b = at.before r has in let l = at.low in let h = head_is w in omega arith

    behind : (r : Record) → Has r (records_of (cut (passed_of k x w) a)) → t.head w < r.gsn
    behind r has =
        let b = beyond r (cut_has (passed_of k x w) a r has) in
        let h = head_is w in
        ⊎_elim
        (λ (some : 0 < passed_of k x w). let u = at.behind some r has in omega arith)
        (λ (none : passed_of k x w ≤ 0). let u = at.none (omega arith) in omega arith)
        (cases_lt 0 (passed_of k x w))

  module _ (m : Master) (is : IsNextCut g es k m x) where
    short : (w : ℕ) → 0 < w → w ≤ g.workers → head_of m w < 2 ^ 63
    short w low_w high =
        let n : w - 1 < length m.heads = let q = is.next.logs in let l = stands.is.logs in omega arith in
        is.valid.heads (w - 1) n

    pub ring_cut : IsCut g es k m x (heads_of k x) (passed_of k x)
    ring_cut = record {
      met = cuts.met (heads_of k x);
      firm = cuts.firm;
      next = is.next;
      valid = is.valid;
      floor = let a = is.floor in let b = floor_low g es in let h = ap (λ (z : State). z.floor) happened in omega arith;
      log = λ w low_w high. record {
        synced = (at w low_w high).synced;
        head = is.heads w low_w high ∙ ap (λ (h : ℕ). h + passed_of k x w) (stands.logs w low_w high).is.head;
        short = short w low_w high;
        before = before w low_w high;
        behind = behind w low_w high;
      };
    }

  module _ (versions : EveryVersion) (still : PassesNone g k x) where
    stay : (p : ℕ) → p < k.master.pages → (y : Page) → IsNoOlder y (k.firm p).page → IsVersion g es p (image_page y) → IsVersion g (then es e) p (image_page y)
    stay p lt y no_older v = (versions g es p).cut x (heads_of k x) (image_page y) (λ r i touched below. let a = cuts.firm p lt r i touched below in let b = no_older.1 in omega arith) v

    head_same : (w : ℕ) → 0 < w → w ≤ g.workers → t.head w ≡ now.head w
    head_same w low_w high = let h = head_is w in let n = (at w low_w high).none (still w low_w high) in omega arith

    pub still_cut : Stands g (then es e) s0 k s
    still_cut = record {
      tells = stands.tells;
      is = record { faithful = stands.is.faithful; format = stands.is.format; logs = stands.is.logs; floor = (every_floor_step g es k.master.floor).cut x (heads_of k x) head_same stands.is.floor };
      master = stands.master;
      pages = pages_then g es (then es e) k.master.pages k.master.generation (s0.image 1) (s0.writes 1) k.firm k.late (s.area 1) stay stands.pages;
      saved = λ p lt. stands.saved p lt ∙ ap (λ (z : State). z.saved p) (sym happened);
      logs = λ w low_w high. same_stands now t k.master (s0.image (suc w)) (s0.writes (suc w)) w (k.account w) (k.log w) (s.area (suc w))
          (record { entries = ap (λ (z : State). log_of w z.entries) happened; flushed = ap (λ (z : State). z.flushed w) happened; head = head_same w low_w high }) (stands.logs w low_w high);
    }

pub every_ring : EveryPassed → (s : Story) → EveryRing s
every_ring passes s s0 g es k m x stands cuts is = ring_cut passes s0 s g es k x stands cuts m is

pub every_still_cut : EveryPassed → EveryVersion → (s : Story) → EveryStillCut s
every_still_cut passes versions s s0 g es k x stands cuts still = still_cut passes s0 s g es k x stands cuts versions still
