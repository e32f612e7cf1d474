-- How a run goes on over a disk.
use Rattle.std.proofs.Common.{◌≡◌, ⊎_elim, ◌≤◌, ◌<◌, ◌+◌, ℕ, suc, Bool, true, false, ◌&&◌, not, leb, ◌==◌, List, [], ◌∷◌, length, refl, sym, ap, ap₂, ◌∙◌, subst, arith}
use Rattle.std.proofs.lemmas.Bool.{cases_eq, cases_lt, cond-true, cond-false, and_from, eq-eqb, ne_eqb, lt-leb}
use Rattle.map_model.specs.Lists.{upd}
use Rattle.master_store.specs.image_model.Entries.{Entry, is_record}
use Rattle.core_disk.specs.core_state.Openings.{Opening}
use Rattle.core_disk.specs.core_state.States.{State}
use Rattle.core_disk.specs.core_state.Events.{Event}
use Rattle.map_model.proofs.ListLemmas.{upd_same, upd_other}
use Rattle.core_disk.proofs.core_commit.Invariants.{Inv}
use Rattle.core_disk.specs.core_crash.Crashes.{from_head, log_of}
use Rattle.lean_disk.specs.Area.{Area, Leaves, Write}
use Rattle.lean_disk.specs.Moments.{CrashIn, Framed}
use Rattle.lean_disk.specs.Story.{Crash, Story}
use Rattle.lean_disk.proofs.MomentLemmas.{weaker}
use Rattle.master_store.specs.log_record.declared.record.Record.{Record}
use Rattle.master_store.specs.log_block.Block.{records_text}
use Rattle.master_store.specs.disk_slots.declared.master.Master.{Master}
use Rattle.master_store.specs.disk_image.Laws.{EverySealed}
use Rattle.master_store.specs.disk_image.MasterSlots.{master_on}
use Rattle.master_store.specs.disk_image.Records.{entry_of}
use Rattle.worker_log.specs.Accounts.{Account, records_of}
use Rattle.worker_log.specs.Logs.{Log}
use Rattle.worker_log.specs.Calls.{After}
use Rattle.worker_log.specs.Kept.{LeavesBlocks, StagesTo, flushed}
use Rattle.worker_log.specs.Laws.{EveryFlushed, EveryPrefix, EveryKept, EveryStaged, StagesOnce, entries_onto}
use Rattle.core_disk.specs.core_state.Steps.{state_after}
use Rattle.core_disk.specs.Held.{HoldsLog, HoldsPage, IsMasterOf}
use Rattle.core_disk.specs.Versions.{EveryVersion, is_cut, then}
use Rattle.core_disk.proofs.FloorLemmas.{every_floor_step}
use Rattle.core_disk.proofs.VersionLemmas.{good}
use Rattle.disk_runs.specs.Fair.{IsFairFrom}
use Rattle.disk_runs.specs.Logs.{Accounts, LogStands, Records}
use Rattle.disk_runs.specs.Laws.{EveryFlush, EveryLogCall, EveryRest, EverySame, EveryStage, EveryStill, IsFlushed, IsStaged, with_log}
use Rattle.disk_runs.specs.Masters.{MasterStands}
use Rattle.disk_runs.specs.Pages.{PagesStand}
use Rattle.disk_runs.specs.Stands.{Known, LeavesRun, Stands}
use Rattle.disk_runs.proofs.LogLemmas.{holds_log, rests_log}
use Rattle.disk_runs.proofs.PageLemmas.{holds_page, pages_then}
use Rattle.disk_runs.proofs.MasterLemmas.{holds_master}
use Rattle.master_store.specs.page_store.Bases.{image_page}
use Rattle.std.specs.Prelude.{Some}

-- ## What a crash leaves

module _ (keeps : EveryKept) (prefixes : EveryPrefix) (seals : EverySealed) (g : Opening) (es : List Event) (s0 : Crash) (x : Known) (s : Story) (stands : Stands g es s0 x s)
    (c : Crash) (fair : IsFairFrom g.workers s0 c) where
  pub master_part : c.writes 0 ≡ (s.area 0).writes → Leaves (s.area 0) (c.image 0) → master_on (c.image 0) ≡ Some x.master
  master_part wrote left = holds_master x.master (s0.image 0) (s0.writes 0) (s.area 0) stands.master (c.image 0) left (fair.masters stands.master.since (wrote ∙ stands.master.writes))

  pub page_part : c.writes 1 ≡ (s.area 1).writes → Leaves (s.area 1) (c.image 1) → (p : ℕ) → p < x.master.pages → HoldsPage g es x.master p (c.image 1)
  page_part wrote left = holds_page g es x.master (s0.image 1) (s0.writes 1) x.firm x.late (s.area 1) stands.pages (c.image 1) left (fair.pages stands.pages.since (wrote ∙ stands.pages.writes))

  pub log_part : (w : ℕ) → 0 < w → w ≤ g.workers → c.writes (suc w) ≡ (s.area (suc w)).writes → Leaves (s.area (suc w)) (c.image (suc w)) → HoldsLog g (state_after g es) x.master w (c.image (suc w))
  log_part w low high wrote left = rests_log keeps prefixes seals g es x.master (s0.image (suc w)) (s0.writes (suc w)) w (x.account w) (x.log w) (s.area (suc w)) (stands.logs w low high) (c.image (suc w)) left
      (λ since e. fair.log w low high since (wrote ∙ e))

pub every_rest : EveryKept → EveryPrefix → EverySealed → (s : Story) → EveryRest s
every_rest keeps prefixes seals s s0 g es x stands c now fair = record {
  master = master_part keeps prefixes seals g es s0 x s stands c fair (now.writes 0 (stands.tells 0 (omega arith))) (now.leaves 0 (stands.tells 0 (omega arith)));
  is = stands.is;
  logs = λ w low high. log_part keeps prefixes seals g es s0 x s stands c fair w low high (now.writes (suc w) (stands.tells (suc w) (omega arith))) (now.leaves (suc w) (stands.tells (suc w) (omega arith)));
  pages = page_part keeps prefixes seals g es s0 x s stands c fair (now.writes 1 (stands.tells 1 (omega arith))) (now.leaves 1 (stands.tells 1 (omega arith)));
}

-- in a call on log w
in_call : EveryKept → EveryPrefix → EverySealed → (g : Opening) (es : List Event) (s0 : Crash) (x : Known) (old : Story) (w : ℕ) → Stands g es s0 x old → 0 < w → w ≤ g.workers
    → (c : Crash) → CrashIn old (suc w) (LeavesBlocks (x.account w) (x.log w)) c → LeavesRun g es s0 x.master c
in_call keeps prefixes seals g es s0 x old w stands low high c it fair = record {
  master = master_part keeps prefixes seals g es s0 x old stands c fair (it.writes 0 (λ e. omega arith) (stands.tells 0 (omega arith))) (it.leaves 0 (λ e. omega arith) (stands.tells 0 (omega arith)));
  is = stands.is;
  logs = λ v a b. ⊎_elim (λ (e : v ≡ w). here v e) (λ (ne : v ≡ w → ⊥). other v a b ne) (cases_eq v w);
  pages = page_part keeps prefixes seals g es s0 x old stands c fair (it.writes 1 (λ e. omega arith) (stands.tells 1 (omega arith))) (it.leaves 1 (λ e. omega arith) (stands.tells 1 (omega arith)));
}
  where
    st : LogStands (state_after g es) x.master (s0.image (suc w)) (s0.writes (suc w)) w (x.account w) (x.log w) (old.area (suc w))
    st = stands.logs w low high

    here : (v : ℕ) → v ≡ w → HoldsLog g (state_after g es) x.master v (c.image (suc v))
    here v e = subst (λ (u : ℕ). HoldsLog g (state_after g es) x.master u (c.image (suc u))) (sym e)
        (holds_log prefixes seals g es x.master (s0.image (suc w)) (s0.writes (suc w)) w (x.account w) (x.log w) st.is st.accounts st.began (c.writes (suc w)) (c.image (suc w)) it.here (fair.log w low high))

    other : (v : ℕ) → 0 < v → v ≤ g.workers → (v ≡ w → ⊥) → HoldsLog g (state_after g es) x.master v (c.image (suc v))
    other v a b ne = log_part keeps prefixes seals g es s0 x old stands c fair v a b (it.writes (suc v) (λ e. ne (omega arith)) (stands.tells (suc v) (omega arith))) (it.leaves (suc v) (λ e. ne (omega arith)) (stands.tells (suc v) (omega arith)))

pub every_log_call : EveryKept → EveryPrefix → EverySealed → (old new : Story) → EveryLogCall old new
every_log_call keeps prefixes seals old new s0 g es x w stands low high run = weaker old new (CrashIn old (suc w) (LeavesBlocks (x.account w) (x.log w))) (LeavesRun g es s0 x.master)
    (in_call keeps prefixes seals g es s0 x old w stands low high) run

-- ## Events and calls elsewhere

-- log w is the same in both states
pub record SameLog (w : ℕ) (s t : State) : Type 0 where
  pub entries : log_of w t.entries ≡ log_of w s.entries
  pub flushed : t.flushed w ≡ s.flushed w
  pub head : t.head w ≡ s.head w

same_accounts : (w : ℕ) (s t : State) (x : Account) (log : Log) → SameLog w s t → Accounts s w x log → Accounts t w x log
same_accounts w s t x log same a = record {
  entries = a.entries ∙ ap₂ (λ (h : ℕ) (l : List Entry). from_head h l) (sym same.head) (sym same.entries);
  flushed = let e = same.flushed in let f = a.flushed in omega arith;
  order = a.order;
}

pub same_stands : (s t : State) (n : Master) (first : List ℕ) (older : List Write) (w : ℕ) (x : Account) (log : Log) (area : Area) → SameLog w s t → LogStands s n first older w x log area → LogStands t n first older w x log area
same_stands s t n first older w x log area same st = record { is = st.is; ranges = st.ranges; accounts = same_accounts w s t x log same st.accounts; began = st.began; kept = st.kept }

pub still_master : (g : Opening) (es : List Event) (e : Event) (n : Master) → is_cut e ≡ false → (state_after g (then es e)).floor ≡ (state_after g es).floor → IsMasterOf g (state_after g es) n → IsMasterOf g (state_after g (then es e)) n
still_master g es e n no_cut same is = record { faithful = is.faithful; format = is.format; logs = is.logs; floor = (every_floor_step g es n.floor).more e no_cut same is.floor }

pub still_pages : EveryVersion → (g : Opening) (es : List Event) (e : Event) (s0 : Crash) (x : Known) (area : Area) → is_cut e ≡ false
    → PagesStand g es x.master.pages x.master.generation (s0.image 1) (s0.writes 1) x.firm x.late area
    → PagesStand g (then es e) x.master.pages x.master.generation (s0.image 1) (s0.writes 1) x.firm x.late area
still_pages versions g es e s0 x area no_cut st = pages_then g es (then es e) x.master.pages x.master.generation (s0.image 1) (s0.writes 1) x.firm x.late area
    (λ p lt y ahead v. (versions g es p).more e (image_page y) no_cut v) st

pub every_still : EveryVersion → (s : Story) → EveryStill s
every_still versions s s0 g es x e stands no_cut same = record {
  tells = stands.tells;
  is = still_master g es e x.master no_cut same.floor stands.is;
  master = stands.master;
  pages = still_pages versions g es e s0 x (s.area 1) no_cut stands.pages;
  saved = λ p lt. stands.saved p lt ∙ sym (same.saved p);
  logs = λ w low high. same_stands (state_after g es) (state_after g (then es e)) x.master (s0.image (suc w)) (s0.writes (suc w)) w (x.account w) (x.log w) (s.area (suc w))
      (record { entries = same.entries w; flushed = same.flushed w; head = same.head w }) (stands.logs w low high);
}

pub every_same : (old new : Story) → EverySame old new
every_same old new s0 g es x stands tells same = record {
  tells = tells;
  is = stands.is;
  master = subst (MasterStands x.master (s0.image 0) (s0.writes 0)) (sym (same 0 (omega arith))) stands.master;
  pages = subst (PagesStand g es x.master.pages x.master.generation (s0.image 1) (s0.writes 1) x.firm x.late) (sym (same 1 (omega arith))) stands.pages;
  saved = stands.saved;
  logs = λ w low high. subst (LogStands (state_after g es) x.master (s0.image (suc w)) (s0.writes (suc w)) w (x.account w) (x.log w)) (sym (same (suc w) (omega arith))) (stands.logs w low high);
}

-- ## A call on one log

-- the other logs, pages and the master go on as they are
module _ (versions : EveryVersion) (g : Opening) (es : List Event) (e : Event) (s0 : Crash) (x : Known) (w : ℕ) (log : Log) (y : Account) (old new : Story) (low_w : 0 < w) (stands : Stands g es s0 x old)
    (no_cut : is_cut e ≡ false) (frame : Framed (suc w) old new) (floor : (state_after g (then es e)).floor ≡ (state_after g es).floor) (saved : (p : ℕ) → (state_after g (then es e)).saved p ≡ (state_after g es).saved p)
    (others : (v : ℕ) → (v ≡ w → ⊥) → SameLog v (state_after g es) (state_after g (then es e)))
    (own : LogStands (state_after g (then es e)) x.master (s0.image (suc w)) (s0.writes (suc w)) w y log (new.area (suc w))) where
  abbrev t : State
  t = state_after g (then es e)

  logs : (v : ℕ) → 0 < v → v ≤ g.workers → LogStands t x.master (s0.image (suc v)) (s0.writes (suc v)) v (upd x.account w y v) (upd x.log w log v) (new.area (suc v))
  logs v low high = ⊎_elim
      (λ (q : v ≡ w).
      subst (λ (z : Account). LogStands t x.master (s0.image (suc v)) (s0.writes (suc v)) v z (upd x.log w log v) (new.area (suc v))) (sym (upd_same x.account w y v q))
      (subst (λ (z : Log). LogStands t x.master (s0.image (suc v)) (s0.writes (suc v)) v y z (new.area (suc v))) (sym (upd_same x.log w log v q))
      (subst (λ (u : ℕ). LogStands t x.master (s0.image (suc u)) (s0.writes (suc u)) u y log (new.area (suc u))) (sym q) own)))
      (λ (ne : v ≡ w → ⊥).
      subst (λ (z : Account). LogStands t x.master (s0.image (suc v)) (s0.writes (suc v)) v z (upd x.log w log v) (new.area (suc v))) (sym (upd_other x.account w y v ne))
      (subst (λ (z : Log). LogStands t x.master (s0.image (suc v)) (s0.writes (suc v)) v (x.account v) z (new.area (suc v))) (sym (upd_other x.log w log v ne))
      (subst (LogStands t x.master (s0.image (suc v)) (s0.writes (suc v)) v (x.account v) (x.log v)) (sym (frame.elsewhere (suc v) (λ k. ne (omega arith))))
      (same_stands (state_after g es) t x.master (s0.image (suc v)) (s0.writes (suc v)) v (x.account v) (x.log v) (old.area (suc v)) (others v ne) (stands.logs v low high)))))
      (cases_eq v w)

  pub goes_on : Stands g (then es e) s0 (with_log x w log y) new
  goes_on = record {
    tells = λ a l. frame.tells a ∙ stands.tells a l;
    is = still_master g es e x.master no_cut floor stands.is;
    master = subst (MasterStands x.master (s0.image 0) (s0.writes 0)) (sym (frame.elsewhere 0 (λ k. omega arith))) stands.master;
    pages = subst (PagesStand g (then es e) x.master.pages x.master.generation (s0.image 1) (s0.writes 1) x.firm x.late) (sym (frame.elsewhere 1 (λ k. omega arith)))
        (still_pages versions g es e s0 x (old.area 1) no_cut stands.pages);
    saved = λ p lt. stands.saved p lt ∙ sym (saved p);
    logs = logs;
  }

-- a log that has the record, whichever block it went into
module _ (r : Record) (old new : Log) (after : After r old new) where
  abbrev Keeps : Log → Type 0
  Keeps l = (l.generation ≡ old.generation) × (l.log ≡ old.log) × (l.blocks ≡ old.blocks) × (l.head ≡ old.head) × (l.flushed ≡ old.flushed) × (l.last ≡ r.gsn)

  after_keeps : Keeps new
  after_keeps = ⊎_elim
      (λ (no_room : 2000 < length old.payload + length (records_text (r ∷ []))). subst Keeps (sym (after.full (λ room. omega arith))) (refl, refl, refl, refl, refl, refl))
      (λ (room : length old.payload + length (records_text (r ∷ [])) ≤ 2000). subst Keeps (sym (after.room room)) (refl, refl, refl, refl, refl, refl))
      (cases_lt 2000 (length old.payload + length (records_text (r ∷ []))))

-- a record that is entered stands in its log, and in no other
module _ (w : ℕ) (r : Entry) (s t : State) (records : Records w r s t) where
  in_own : log_of w t.entries ≡ r ∷ log_of w s.entries
  in_own = ap (log_of w) records.entries ∙ cond-true (is_record r.kind && (r.log == w)) (r ∷ log_of w s.entries) (log_of w s.entries) (and_from (is_record r.kind) (r.log == w) records.kind (eq-eqb r.log w records.log))

  in_no_other : (v : ℕ) → (v ≡ w → ⊥) → SameLog v s t
  in_no_other v ne = record {
    entries = ap (log_of v) records.entries ∙ cond-false (is_record r.kind && (r.log == v)) (r ∷ log_of v s.entries) (log_of v s.entries)
        (ap (λ (b : Bool). is_record r.kind && b) (ne_eqb r.log v (λ e. ne (sym e ∙ records.log))) ∙ and-false (is_record r.kind));
    flushed = records.flushed v;
    head = records.head v;
  }
    where
      and-false : (b : Bool) → (b && false) ≡ false
      and-false true = refl
      and-false false = refl

-- a log's head is up to what it has flushed
head_low : (g : Opening) (es : List Event) (w : ℕ) → 0 < w → w ≤ g.workers → (state_after g es).head w ≤ (state_after g es).flushed w
head_low g es w low high = let i : Inv g (state_after g es) = (good g es).inv in let a = i.cuts.heads w in let b = i.cuts.low in let c = (i.workers w).based (low, high) in omega arith

module _ (versions : EveryVersion) (once : EveryStaged) (g : Opening) (es : List Event) (s0 : Crash) (w : ℕ) (r : Record) (e : Event) (x : Known) (log : Log) (old new : Story)
    (stands : Stands g es s0 x old) (is : IsStaged g es w r e x log old new) where
  abbrev s : State
  s = state_after g es

  abbrev u : State
  u = state_after g (then es e)

  st : LogStands s x.master (s0.image (suc w)) (s0.writes (suc w)) w (x.account w) (x.log w) (old.area (suc w))
  st = stands.logs w is.low is.high

  to : StagesTo r (x.account w) (x.log w) log (new.area (suc w))
  to = is.kept (x.account w) st.kept

  one : StagesOnce r (x.account w) (x.log w)
  one = once r (x.account w) (x.log w)

  same_one : to.y ≡ one.y
  same_one = one.only to.y to.staged

  ks : Keeps r (x.log w) log is.after log
  ks = after_keeps r (x.log w) log is.after

  rec : Entry
  rec = entry_of w r

  beyond : s.head w < r.gsn
  beyond = let a = head_low g es w is.low is.high in let b = st.accounts.flushed in let c = st.accounts.order in let d = is.rises in omega arith

  accounts : Accounts u w to.y log
  accounts = record {
    entries = ap (λ (z : Account). entries_onto w [] (records_of z)) same_one ∙ (one.entries w ∙ (ap (λ (l : List Entry). entry_of w r ∷ l) st.accounts.entries ∙ (
        sym (cond-true (not (leb r.gsn (s.head w))) (entry_of w r ∷ from_head (s.head w) (log_of w s.entries)) (from_head (s.head w) (log_of w s.entries)) (ap not (lt-leb r.gsn (s.head w) beyond)))
        ∙ ap₂ (λ (h : ℕ) (l : List Entry). from_head h l) (sym (is.records.head w)) (sym (in_own w (entry_of w r) s u is.records)))));
    flushed = let a = is.records.flushed w in let b = st.accounts.flushed in let c = ks.4 in omega arith;
    order = let a = st.accounts.order in let c = ks.4 in let d = ks.5 in let f = is.rises in omega arith;
  }

  own : LogStands u x.master (s0.image (suc w)) (s0.writes (suc w)) w to.y log (new.area (suc w))
  own = record {
    is = record { generation = ks.0 ∙ st.is.generation; number = ks.1 ∙ st.is.number; blocks = ks.2 ∙ st.is.blocks; head = ks.3 ∙ st.is.head };
    ranges = is.ranges;
    accounts = accounts;
    began = record { first_is = ap (λ (z : Account). z.first) same_one ∙ (one.first ∙ st.began.first_is); older_is = ap (λ (z : Account). z.older) same_one ∙ (one.older ∙ st.began.older_is); sealed = st.began.sealed };
    kept = to.kept;
  }

  pub stage : (y : Account) × Stands g (then es e) s0 (with_log x w log y) new
  stage = (to.y, goes_on versions g es e s0 x w log to.y old new is.low stands is.event is.frame is.records.floor is.records.saved (in_no_other w (entry_of w r) s u is.records) own)

pub every_stage : EveryVersion → EveryStaged → (old new : Story) → EveryStage old new
every_stage versions once old new s0 g es w r e x log stands is = stage versions once g es s0 w r e x log old new stands is

module _ (versions : EveryVersion) (whole : EveryFlushed) (g : Opening) (es : List Event) (s0 : Crash) (w : ℕ) (e : Event) (x : Known) (log : Log) (old new : Story)
    (stands : Stands g es s0 x old) (is : IsFlushed g es w e x log old new) where
  abbrev sf : State
  sf = state_after g es

  abbrev uf : State
  uf = state_after g (then es e)

  sta : LogStands sf x.master (s0.image (suc w)) (s0.writes (suc w)) w (x.account w) (x.log w) (old.area (suc w))
  sta = stands.logs w is.low is.high

  last : log.last ≡ (x.log w).last
  last = ap (λ (l : Log). l.last) is.after

  all : log.flushed ≡ (x.log w).last
  all = ap (λ (l : Log). l.flushed) is.after

  flushed_own : LogStands uf x.master (s0.image (suc w)) (s0.writes (suc w)) w (flushed (x.account w)) log (new.area (suc w))
  flushed_own = record {
    is = record {
      generation = ap (λ (l : Log). l.generation) is.after ∙ sta.is.generation;
      number = ap (λ (l : Log). l.log) is.after ∙ sta.is.number;
      blocks = ap (λ (l : Log). l.blocks) is.after ∙ sta.is.blocks;
      head = ap (λ (l : Log). l.head) is.after ∙ sta.is.head;
    };
    ranges = is.ranges;
    accounts = record {
      entries = ap (entries_onto w []) (whole (x.account w)) ∙ (sta.accounts.entries ∙ ap₂ (λ (h : ℕ) (l : List Entry). from_head h (log_of w l)) (sym (is.flushes.head w)) (sym is.flushes.entries));
      flushed = let a = is.flushes.here in let b = is.within in let c = all in omega arith;
      order = let a = all in let b = last in omega arith;
    };
    began = record { first_is = sta.began.first_is; older_is = sta.began.older_is; sealed = sta.began.sealed };
    kept = is.kept (x.account w) sta.kept;
  }

  pub flush : Stands g (then es e) s0 (with_log x w log (flushed (x.account w))) new
  flush = goes_on versions g es e s0 x w log (flushed (x.account w)) old new is.low stands is.event is.frame is.flushes.floor is.flushes.saved
      (λ v ne. record { entries = ap (log_of v) is.flushes.entries; flushed = is.flushes.flushed v ne; head = is.flushes.head v }) flushed_own

pub every_flush : EveryVersion → EveryFlushed → (old new : Story) → EveryFlush old new
every_flush versions whole old new s0 g es w e x log stands is = flush versions whole g es s0 w e x log old new stands is
