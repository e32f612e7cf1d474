-- What stands by the master of a cut.
use Rattle.std.proofs.Common.{◌≡◌, inl, inr, ◌≤◌, ◌<◌, ℕ, suc, Bool, true, false, cond, not, leb, List, [], ◌∷◌, ◌++◌, drop, take, refl, sym, ap, ◌∙◌, subst, arith, append_assoc}
use Rattle.std.proofs.lemmas.List.{take-append-drop}
use Rattle.std.proofs.lemmas.Bool.{cond-true, le-leb, lt-leb, cond-false, leb-true}
use Rattle.map_model.specs.Lists.{Has, keep}
use Rattle.page_model.specs.Page.{Page}
use Rattle.master_store.specs.image_model.Entries.{Entry}
use Rattle.core_disk.specs.core_state.Openings.{Opening}
use Rattle.core_disk.specs.core_state.States.{State}
use Rattle.core_disk.specs.core_state.Events.{Event}
use Rattle.core_disk.specs.core_state.Needs.{may}
use Rattle.core_disk.specs.core_state.Steps.{happens, state_after}
use Rattle.core_disk.specs.core_crash.Crashes.{from_head, log_of}
use Rattle.lean_disk.specs.Story.{Crash, Story}
use Rattle.master_store.specs.log_record.declared.record.Record.{Record}
use Rattle.master_store.specs.disk_slots.declared.master.Master.{Master}
use Rattle.master_store.specs.disk_image.Records.{entry_of}
use Rattle.master_store.specs.disk_image.Runs.{sealed_in}
use Rattle.master_store.specs.page_store.Bases.{image_page}
use Rattle.worker_log.specs.Accounts.{joined, records_of}
use Rattle.worker_log.specs.Kept.{cut}
use Rattle.worker_log.specs.Calls.{cut_log}
use Rattle.worker_log.specs.Laws as logs
use Rattle.worker_log.specs.Laws.{entries_onto}
use Rattle.worker_log.proofs.ListLemmas.{joined-append}
use Rattle.worker_log.proofs.ReadLemmas.{entries-join}
use Rattle.core_disk.specs.Held.{IsVersion}
use Rattle.core_disk.specs.Versions.{EveryVersion, then}
use Rattle.core_disk.proofs.FloorLemmas.{every_floor_step}
use Rattle.core_disk.proofs.VersionLemmas.{state_then}
use Rattle.disk_runs.specs.Logs.{LogStands}
use Rattle.disk_runs.specs.MasterLaws.{EveryCut, IsCut, StandsNext, with_cut}
use Rattle.disk_runs.specs.Pages.{IsNoOlder}
use Rattle.disk_runs.specs.Stands.{Known, Stands}
use Rattle.disk_runs.proofs.NextLemmas.{same_pages}
use Rattle.disk_runs.proofs.PageLemmas.{pages_then}
use Rattle.master_store.specs.disk_image.Formats.{format_of}

-- ## Lists

keep_onto_all : (p : Entry → Bool) (w : ℕ) (acc : List Entry) (rs : List Record) → ((r : Record) → Has r rs → p (entry_of w r) ≡ true) → keep p (entries_onto w acc rs) ≡ entries_onto w (keep p acc) rs
keep_onto_all p w acc [] all = refl
keep_onto_all p w acc (r ∷ rs) all = keep_onto_all p w (entry_of w r ∷ acc) rs (λ x i. all x (inr i)) ∙ ap (λ (l : List Entry). entries_onto w l rs) (cond-true (p (entry_of w r)) (entry_of w r ∷ keep p acc) (keep p acc) (all r (inl refl)))

keep_onto_none : (p : Entry → Bool) (w : ℕ) (acc : List Entry) (rs : List Record) → ((r : Record) → Has r rs → p (entry_of w r) ≡ false) → keep p (entries_onto w acc rs) ≡ keep p acc
keep_onto_none p w acc [] none = refl
keep_onto_none p w acc (r ∷ rs) none = keep_onto_none p w (entry_of w r ∷ acc) rs (λ x i. none x (inr i)) ∙ cond-false (p (entry_of w r)) (entry_of w r ∷ keep p acc) (keep p acc) (none r (inl refl))

-- from a later head on
from_later : (h k : ℕ) (l : List Entry) → h ≤ k → from_head k (from_head h l) ≡ from_head k l
from_later h k [] le = refl
from_later h k (r ∷ l) le = go (from_later h k l le) (leb r.number h) refl
  where
    go : from_head k (from_head h l) ≡ from_head k l → (b : Bool) → leb r.number h ≡ b → from_head k (cond (not b) (r ∷ from_head h l) (from_head h l)) ≡ cond (not (leb r.number k)) (r ∷ from_head k l) (from_head k l)
    go ih false e = ap (λ (z : List Entry). cond (not (leb r.number k)) (r ∷ z) z) ih
    go ih true e = ih ∙ sym (cond-false (not (leb r.number k)) (r ∷ from_head k l) (from_head k l) (ap not (le-leb r.number k (let a = leb-true r.number h e in omega arith))))

joined_split : (k : ℕ) (ws : List (List Record)) → joined (take k ws) ++ joined (drop k ws) ≡ joined ws
joined_split k ws = sym (joined-append (take k ws) (drop k ws)) ∙ ap joined (take-append-drop k ws)

module _ (versions : EveryVersion) (cuts : logs.EveryCut) (s0 : Crash) (s : Story) (g : Opening) (es : List Event) (x : Known) (m : Master) (number : ℕ) (heads passed : ℕ → ℕ) (stands : Stands g es s0 x s) (is : IsCut g es x m number heads passed) where
  abbrev now : State
  now = state_after g es

  abbrev e : Event
  e = Event.Cut number heads

  abbrev t : State
  t = state_after g (then es e)

  happened : t ≡ happens g now e
  happened = state_then g es e ∙ cond-true (may g now e) (happens g now e) now is.met

  later_head : (w : ℕ) → now.head w ≤ t.head w
  later_head w = let q = ap (λ (z : State). z.head w) happened in omega arith

  log_next : (w : ℕ) → 0 < w → w ≤ g.workers → LogStands t m (s0.image (suc w)) (s0.writes (suc w)) w (cut (passed w) (x.account w)) (cut_log (passed w) (x.log w)) (s.area (suc w))
  log_next w low high =
      let st = stands.logs w low high in
      let il = is.log w low high in
      let off = cuts (passed w) (x.account w) (x.log w) (s.area (suc w)) st.ranges il.synced (let a = il.short in let b = il.head in let c = st.is.head in omega arith) st.kept in
      let a : List Record = joined (take (passed w) (x.account w).written) in
      let b : List Record = records_of (cut (passed w) (x.account w)) in
      let all : a ++ b ≡ records_of (x.account w) = sym (append_assoc a (joined (drop (passed w) (x.account w).written)) (x.account w).current) ∙ ap (λ (l : List Record). l ++ (x.account w).current) (joined_split (passed w) (x.account w).written) in
      let h : ℕ = t.head w in
      let p : Entry → Bool = λ r. not (leb r.number h) in
      let beyond : keep p (entries_onto w [] (a ++ b)) ≡ entries_onto w [] b =
      ap (keep p) (entries-join w [] a b) ∙ (keep_onto_all p w (entries_onto w [] a) b (λ r i. ap not (lt-leb r.gsn h (il.behind r i)))
      ∙ ap (λ (l : List Entry). entries_onto w l b) (keep_onto_none p w [] a (λ r i. ap not (le-leb r.gsn h (il.before r i))))) in
      record {
        is = record { generation = st.is.generation ∙ sym is.next.generation; number = st.is.number; blocks = st.is.blocks ∙ sym is.next.blocks; head = let q = il.head in let f = st.is.head in omega arith };
        ranges = off.ranges;
        accounts = record {
          entries = sym beyond ∙ (ap (λ (l : List Record). keep p (entries_onto w [] l)) all ∙ (ap (keep p) st.accounts.entries ∙ (from_later (now.head w) h (log_of w now.entries) (later_head w) ∙ ap (λ (z : State). from_head h (log_of w z.entries)) (sym happened))));
          flushed = let f = ap (λ (z : State). z.flushed w) happened in let q = st.accounts.flushed in omega arith;
          order = st.accounts.order;
        };
        began = record { first_is = st.began.first_is; older_is = st.began.older_is; sealed = λ q i. let c = st.began.sealed q (subst (λ (k : ℕ). Has q (sealed_in k (s0.image (suc w)))) is.next.blocks i) in let d = is.next.generation in omega arith };
        kept = off.kept;
      }

  -- a version that counts before the firm one has its changes up to the cut's number
  stay : (p : ℕ) → p < x.master.pages → (y : Page) → IsNoOlder y (x.firm p).page → IsVersion g es p (image_page y) → IsVersion g (then es e) p (image_page y)
  stay p lt y no_older v = (versions g es p).cut number heads (image_page y) (λ r i touched below. let a = is.firm p lt r i touched below in let b = no_older.1 in omega arith) v

  pub cut_next : StandsNext g es e s0 x (with_cut x m passed) s
  cut_next = record {
    next = is.next;
    valid = is.valid;
    is = record { faithful = stands.is.faithful; format = stands.is.format ∙ ap format_of (sym is.next.pages); logs = is.next.logs ∙ stands.is.logs; floor = (every_floor_step g (then es e) m.floor).own is.floor };
    pages = same_pages g (then es e) x.master m (s0.image 1) (s0.writes 1) x.firm x.late (s.area 1) is.next.pages is.next.generation
        (pages_then g es (then es e) x.master.pages x.master.generation (s0.image 1) (s0.writes 1) x.firm x.late (s.area 1) stay stands.pages);
    saved = λ p lt. stands.saved p (let q = is.next.pages in omega arith) ∙ ap (λ (z : State). z.saved p) (sym happened);
    logs = log_next;
  }

pub every_cut : EveryVersion → logs.EveryCut → (s : Story) → EveryCut s
every_cut versions cuts s s0 g es x m number heads passed stands is = cut_next versions cuts s0 s g es x m number heads passed stands is
