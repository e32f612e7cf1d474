-- The records of the row are the entries of its events, from every opening of the row.
use Rattle.std.proofs.Common.{◌≡◌, ◌<◌, ◌≤◌, ◌-◌, ◌^◌, ◌==◌, if◌then◌else◌, ℕ, zero, suc, Bool, true, ◌&&◌, ltb, List, [], ◌∷◌, take, ⊎_elim, refl, sym, ap, ap₂, ◌∙◌, subst, arith}
use Rattle.std.proofs.lemmas.Bool.{cases_eq, cond-true, cond-false, eq-eqb, lt-ltb, ne_eqb}
use mathlib.Core.Path.{fun_ext, subst₂}
use Rattle.map_model.specs.Maps.{key_end, value_end}
use Rattle.map_model.specs.Lists.{upd}
use Rattle.map_model.proofs.ListLemmas.{upd_other}
use Rattle.page_model.specs.Nodes.{Format, Node}
use Rattle.page_model.specs.Page.{empty_leaf}
use Rattle.page_model.specs.Tree.{IsTree}
use Rattle.disk_runs.specs.core_state.Openings.{Opening}
use Rattle.disk_runs.specs.core_state.Events.{Event}
use Rattle.disk_runs.specs.core_state.Needs.{may}
use Rattle.disk_runs.specs.core_state.States.{State, start}
use Rattle.disk_runs.specs.core_state.Steps.{happens, run, state_after}
use Rattle.disk_runs.specs.core_crash.Crashes.{journal_in, log_of}
use Rattle.disk_runs.specs.core_crash.Example.{second}
use Rattle.disk_runs.specs.log_record.declared.record.Record.{Record}
use Rattle.disk_runs.specs.log_record.declared.record.Body.TheVariants as body
use Rattle.disk_runs.specs.image_model.Entries.{Entry}
use Rattle.disk_runs.specs.disk_image.Formats.{format_of}
use Rattle.disk_runs.specs.disk_image.Records.{entry_of}
use Rattle.disk_runs.specs.Logs.{Flushes, Records}
use Rattle.row_crashes.specs.Left.{ripe_events}
use Rattle.row_crashes.specs.Row.{IsRowOpening}

-- the first events of the row, and of a flush of log 1 behind it
abbrev pub up_to : ℕ → List Event
up_to k = take k ripe_events

-- ## Its records

abbrev pub change_5 : Record
change_5 = record { txn = 1; gsn = 1; body = body.Change (record { page = 0; prev = 0 }) 5 (2 ^ 63) 7 }

abbrev pub change_6 : Record
change_6 = record { txn = 1; gsn = 2; body = body.Change (record { page = 0; prev = 1 }) 6 (2 ^ 63) 1 }

abbrev pub put_back_6 : Record
put_back_6 = record { txn = 1; gsn = 3; body = body.PutBack (record { page = 0; prev = 2 }) 6 1 (2 ^ 63) }

abbrev pub abort : Record
abort = record { txn = 1; gsn = 4; body = body.Abort 1 }

abbrev pub change_6_again : Record
change_6_again = record { txn = 2; gsn = 5; body = body.Change (record { page = 0; prev = 3 }) 6 (2 ^ 63) 2 }

abbrev pub commit : Record
commit = record { txn = 2; gsn = 6; body = body.Commit 1 }

-- log 1 and log 2 behind them
abbrev pub log_1 : List Entry
log_1 = entry_of 1 change_5 ∷ []

abbrev pub log_2 : List Entry
log_2 = entry_of 2 commit ∷ entry_of 2 change_6_again ∷ entry_of 2 abort ∷ entry_of 2 put_back_6 ∷ entry_of 2 change_6 ∷ []

-- a state in which all are entered and worker 2 has committed
pub record IsBehind (g : Opening) (s : State) : Type 0 where
  pub in_1 : log_of 1 s.entries ≡ log_1
  pub in_2 : log_of 2 s.entries ≡ log_2
  pub head : (w : ℕ) → s.head w ≡ 0
  pub floor : s.floor ≡ 0
  pub journal : journal_in g s ≡ second ∷ []

-- each is what its event enters
pub record RowFacts (g : Opening) : Type 0 where
  pub change_5 : Records 1 (entry_of 1 change_5) (state_after g (up_to 2)) (state_after g (up_to 3))
  pub change_6 : Records 2 (entry_of 2 change_6) (state_after g (up_to 5)) (state_after g (up_to 6))
  pub put_back_6 : Records 2 (entry_of 2 put_back_6) (state_after g (up_to 6)) (state_after g (up_to 7))
  pub abort : Records 2 (entry_of 2 abort) (state_after g (up_to 7)) (state_after g (up_to 8))
  pub change_6_again : Records 2 (entry_of 2 change_6_again) (state_after g (up_to 11)) (state_after g (up_to 12))
  pub commit : Records 2 (entry_of 2 commit) (state_after g (up_to 12)) (state_after g (up_to 13))
  pub flush : Flushes 2 6 (state_after g (up_to 14)) (state_after g (up_to 15))
  pub flush_first : Flushes 1 1 (state_after g (up_to 15)) (state_after g (up_to 16))
  pub before : IsBehind g (state_after g (up_to 14))
  pub behind : IsBehind g (state_after g (up_to 15))
  pub ripe : IsBehind g (state_after g (up_to 16))

-- ## An opening that computes

-- g with other parts
abbrev pub made : (g : Opening) (workers : ℕ) → 0 < workers → (row_of : ℕ → ℕ) (changes base : ℕ) (gsn : ℕ → ℕ) → ((p : ℕ) → gsn p ≤ base)
    → (f : Format) → g.joined ≤ f.room → f.top ≤ key_end → f.dead ≤ value_end → (node : ℕ → Node) → IsTree f node → Opening
made g workers some row_of changes base gsn low f fit keys values node tree = record {
  faithful = g.faithful;
  workers = workers;
  frames = g.frames;
  row_of = row_of;
  changes = changes;
  joined = g.joined;
  base = base;
  format = f;
  gsn = gsn;
  last = g.last;
  node = node;
  some_worker = some;
  some_frame = g.some_frame;
  fit = fit;
  keys = keys;
  values = values;
  low = low;
  tree = tree;
}

-- ## Events whose needs are met

-- each of them happens, without a test
abbrev pub bare : Opening → State → List Event → State
bare g s [] = s
bare g s (e ∷ es) = bare g (happens g s e) es

abbrev pub AreMet : Opening → State → List Event → Type 0
AreMet g s [] = Unit {0}
AreMet g s (e ∷ es) = (may g s e ≡ true) × AreMet g (happens g s e) es

met_first : (g : Opening) (s : State) (es : List Event) (k : ℕ) → AreMet g s es → AreMet g s (take k es)
met_first g s [] zero m = tt
met_first g s (e ∷ es) zero m = tt
met_first g s [] (suc k) m = tt
met_first g s (e ∷ es) (suc k) m = (m.0, met_first g (happens g s e) es k m.1)

run_bare : (g : Opening) (s : State) (es : List Event) → AreMet g s es → run g s es ≡ bare g s es
run_bare g s [] m = refl
run_bare g s (e ∷ es) m = ap (λ (t : State). run g t es) (cond-true (may g s e) (happens g s e) s m.0) ∙ run_bare g (happens g s e) es m.1

-- rows that compute at 5 and 6, and pages that do at 0
abbrev pub rows : (ℕ → ℕ) → ℕ → ℕ
rows f k = if k == 5 then 5 else (if k == 6 then 6 else f k)

abbrev pub leaf : Node
leaf = empty_leaf 0 (2 ^ 64 - 1)

abbrev pub nodes : (ℕ → Node) → ℕ → Node
nodes f p = if p == 0 then leaf else f p

module _ (g : Opening) (o : 0 < 2) (changes pages : ℕ) (more : ltb 0 changes ≡ true) (some : ltb 0 pages ≡ true) (low : (p : ℕ) → 0 ≤ 0)
    (fit : g.joined ≤ 60) (keys : 2 ^ 64 - 1 ≤ key_end) (values : 2 ^ 63 ≤ value_end) (tree : IsTree (format_of pages) (nodes g.node)) where
  abbrev it : Opening
  it = made g 2 o (rows g.row_of) changes 0 (λ _. 0) low (format_of pages) fit keys values (nodes g.node) tree

  may_change : (ltb 0 changes && (ltb 0 pages && true)) ≡ true
  may_change = ap₂ (λ (a b : Bool). a && (b && true)) more some

  may_put_back : (ltb 0 pages && true) ≡ true
  may_put_back = ap (λ (b : Bool). b && true) some

  all_met : AreMet it (start it) ripe_events
  all_met = (refl, (refl, (may_change, (refl, (refl, (may_change, (may_put_back, (refl, (refl, (refl, (refl, (may_change, (refl, (refl, (refl, (refl, tt))))))))))))))))

  abbrev after_first : ℕ → State
  after_first k = bare it (start it) (up_to k)

  same : (k : ℕ) → state_after it (up_to k) ≡ after_first k
  same k = run_bare it (start it) (up_to k) (met_first it (start it) ripe_events k all_met)

  entered_5 : Records 1 (entry_of 1 change_5) (after_first 2) (after_first 3)
  entered_5 = record { entries = refl; kind = refl; log = refl; saved = λ p. refl; flushed = λ v. refl; head = λ v. refl; floor = refl }

  entered_6 : Records 2 (entry_of 2 change_6) (after_first 5) (after_first 6)
  entered_6 = record { entries = refl; kind = refl; log = refl; saved = λ p. refl; flushed = λ v. refl; head = λ v. refl; floor = refl }

  entered_back : Records 2 (entry_of 2 put_back_6) (after_first 6) (after_first 7)
  entered_back = record { entries = refl; kind = refl; log = refl; saved = λ p. refl; flushed = λ v. refl; head = λ v. refl; floor = refl }

  entered_abort : Records 2 (entry_of 2 abort) (after_first 7) (after_first 8)
  entered_abort = record { entries = refl; kind = refl; log = refl; saved = λ p. refl; flushed = λ v. refl; head = λ v. refl; floor = refl }

  entered_again : Records 2 (entry_of 2 change_6_again) (after_first 11) (after_first 12)
  entered_again = record { entries = refl; kind = refl; log = refl; saved = λ p. refl; flushed = λ v. refl; head = λ v. refl; floor = refl }

  entered_commit : Records 2 (entry_of 2 commit) (after_first 12) (after_first 13)
  entered_commit = record { entries = refl; kind = refl; log = refl; saved = λ p. refl; flushed = λ v. refl; head = λ v. refl; floor = refl }

  flushed_all : Flushes 2 6 (after_first 14) (after_first 15)
  flushed_all = record { entries = refl; saved = λ p. refl; here = refl; flushed = λ v ne. upd_other (λ (_ : ℕ). 0) 2 6 v ne; head = λ v. refl; floor = refl }

  flushed_first : Flushes 1 1 (after_first 15) (after_first 16)
  flushed_first = record { entries = refl; saved = λ p. refl; here = refl; flushed = λ v ne. upd_other (upd (λ (_ : ℕ). 0) 2 6) 1 1 v ne; head = λ v. refl; floor = refl }

  behind_14 : IsBehind it (after_first 14)
  behind_14 = record { in_1 = refl; in_2 = refl; head = λ w. refl; floor = refl; journal = refl }

  behind_15 : IsBehind it (after_first 15)
  behind_15 = record { in_1 = refl; in_2 = refl; head = λ w. refl; floor = refl; journal = refl }

  behind_16 : IsBehind it (after_first 16)
  behind_16 = record { in_1 = refl; in_2 = refl; head = λ w. refl; floor = refl; journal = refl }

  pub computed : RowFacts it
  computed = record {
    change_5 = subst₂ (Records 1 (entry_of 1 change_5)) (sym (same 2)) (sym (same 3)) entered_5;
    change_6 = subst₂ (Records 2 (entry_of 2 change_6)) (sym (same 5)) (sym (same 6)) entered_6;
    put_back_6 = subst₂ (Records 2 (entry_of 2 put_back_6)) (sym (same 6)) (sym (same 7)) entered_back;
    abort = subst₂ (Records 2 (entry_of 2 abort)) (sym (same 7)) (sym (same 8)) entered_abort;
    change_6_again = subst₂ (Records 2 (entry_of 2 change_6_again)) (sym (same 11)) (sym (same 12)) entered_again;
    commit = subst₂ (Records 2 (entry_of 2 commit)) (sym (same 12)) (sym (same 13)) entered_commit;
    flush = subst₂ (Flushes 2 6) (sym (same 14)) (sym (same 15)) flushed_all;
    flush_first = subst₂ (Flushes 1 1) (sym (same 15)) (sym (same 16)) flushed_first;
    before = subst (IsBehind it) (sym (same 14)) behind_14;
    behind = subst (IsBehind it) (sym (same 15)) behind_15;
    ripe = subst (IsBehind it) (sym (same 16)) behind_16;
  }

-- ## Every opening of the row

rows_same : (f : ℕ → ℕ) → f 5 ≡ 5 → f 6 ≡ 6 → (k : ℕ) → f k ≡ rows f k
rows_same f five six k = ⊎_elim
    (λ (e : k ≡ 5). ap f e ∙ (five ∙ sym (cond-true (k == 5) 5 (if k == 6 then 6 else f k) (eq-eqb k 5 e))))
    (λ (n : k ≡ 5 → ⊥). ⊎_elim
    (λ (e : k ≡ 6). ap f e ∙ (six ∙ (sym (cond-true (k == 6) 6 (f k) (eq-eqb k 6 e)) ∙ sym (cond-false (k == 5) 5 (if k == 6 then 6 else f k) (ne_eqb k 5 n)))))
    (λ (m : k ≡ 6 → ⊥). sym (cond-false (k == 6) 6 (f k) (ne_eqb k 6 m)) ∙ sym (cond-false (k == 5) 5 (if k == 6 then 6 else f k) (ne_eqb k 5 n)))
    (cases_eq k 6))
    (cases_eq k 5)

nodes_same : (f : ℕ → Node) → f 0 ≡ leaf → (p : ℕ) → f p ≡ nodes f p
nodes_same f e p = ⊎_elim
    (λ (z : p ≡ 0). ap f z ∙ (e ∙ sym (cond-true (p == 0) leaf (f p) (eq-eqb p 0 z))))
    (λ (n : p ≡ 0 → ⊥). sym (cond-false (p == 0) leaf (f p) (ne_eqb p 0 n)))
    (cases_eq p 0)

module _ (g : Opening) (is : IsRowOpening g) (pages : ℕ) (format : g.format ≡ format_of pages) where
  some_page : ltb 0 pages ≡ true
  some_page = lt-ltb 0 pages (subst (λ (n : ℕ). 0 < n) (ap (λ (f : Format). f.pages) format) g.tree.some)

  abbrev Facts : (o : 0 < 2) (low : (p : ℕ) → 0 ≤ 0) (f : Format) → g.joined ≤ f.room → f.top ≤ key_end → f.dead ≤ value_end → IsTree f (nodes g.node) → Type 0
  Facts o low f fit keys values tree = RowFacts (made g 2 o (rows g.row_of) g.changes 0 (λ _. 0) low f fit keys values (nodes g.node) tree)

  by_format : (o : 0 < 2) (low : (p : ℕ) → 0 ≤ 0) (t : IsTree g.format (nodes g.node)) → Facts o low g.format g.fit g.keys g.values t
  by_format o low t = subst (λ (f : Format). (fit : g.joined ≤ f.room) (keys : f.top ≤ key_end) (values : f.dead ≤ value_end) (tree : IsTree f (nodes g.node)) → Facts o low f fit keys values tree) (sym format)
      (λ fit keys values tree. computed g o g.changes pages (lt-ltb 0 g.changes is.changes) some_page low fit keys values tree) g.fit g.keys g.values t

  by_node : (o : 0 < 2) (low : (p : ℕ) → 0 ≤ 0) → RowFacts (made g 2 o (rows g.row_of) g.changes 0 (λ _. 0) low g.format g.fit g.keys g.values g.node g.tree)
  by_node o low = subst (λ (v : ℕ → Node). (t : IsTree g.format v) → RowFacts (made g 2 o (rows g.row_of) g.changes 0 (λ _. 0) low g.format g.fit g.keys g.values v t)) (sym (fun_ext (nodes_same g.node is.leaf)))
      (λ t. by_format o low t) g.tree

  by_gsn : (o : 0 < 2) (low : (p : ℕ) → g.gsn p ≤ 0) → RowFacts (made g 2 o (rows g.row_of) g.changes 0 g.gsn low g.format g.fit g.keys g.values g.node g.tree)
  by_gsn o low = subst (λ (n : ℕ → ℕ). (l : (p : ℕ) → n p ≤ 0) → RowFacts (made g 2 o (rows g.row_of) g.changes 0 n l g.format g.fit g.keys g.values g.node g.tree)) (sym (fun_ext {f = g.gsn} {g = λ _. 0} (λ p. none p)))
      (λ l. by_node o l) low
    where
      none : (p : ℕ) → g.gsn p ≡ 0
      none p = let l = low p in omega arith

  by_base : (o : 0 < 2) → RowFacts (made g 2 o (rows g.row_of) g.changes g.base g.gsn g.low g.format g.fit g.keys g.values g.node g.tree)
  by_base o = subst (λ (b : ℕ). (l : (p : ℕ) → g.gsn p ≤ b) → RowFacts (made g 2 o (rows g.row_of) g.changes b g.gsn l g.format g.fit g.keys g.values g.node g.tree)) (sym is.base) (λ l. by_gsn o l) g.low

  by_rows : (o : 0 < 2) → RowFacts (made g 2 o g.row_of g.changes g.base g.gsn g.low g.format g.fit g.keys g.values g.node g.tree)
  by_rows o = subst (λ (r : ℕ → ℕ). RowFacts (made g 2 o r g.changes g.base g.gsn g.low g.format g.fit g.keys g.values g.node g.tree)) (sym (fun_ext (rows_same g.row_of is.five is.six))) (by_base o)

  pub row_facts : RowFacts g
  row_facts = subst (λ (n : ℕ). (o : 0 < n) → RowFacts (made g n o g.row_of g.changes g.base g.gsn g.low g.format g.fit g.keys g.values g.node g.tree)) (sym is.workers) (λ o. by_rows o) g.some_worker
