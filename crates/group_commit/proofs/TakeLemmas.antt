-- What is taken is due first.
use Rattle.std.proofs.Common.{◌≡◌, ◌<◌, ◌≤◌, ◌⊎◌, ◌-◌, ℕ, Bool, true, false, cond, ◌&&◌, not, leb, ltb, ◌==◌, List, [], ◌∷◌, ◌++◌, length, drop, Option, Some, None, refl, sym, ap, ap₂, ◌∙◌, subst, inl, inr, arith, length-set}
use Rattle.std.proofs.lemmas.Bool.{cases_Bool, cases_eq, cases_lt, and_from, and_parts, and_left, or_left, or_right, eq-eqb, ne_eqb, lt-ltb, le-ltb, cond-true, both_ways, false_from_ne_true, not-true, not_from_true, not_from_false}
use Rattle.map_model.specs.Lists.{Has, in_order, upd}
use Rattle.map_model.specs.Journals.{Name}
use Rattle.map_model.proofs.ListLemmas.{upd_same, upd_other}
use Rattle.rfa_model.specs.Reaches.{least}
use Rattle.core_crash.specs.image_model.Entries.{Entry, is_end, is_commit, earlier}
use Rattle.core_crash.specs.image_model.Ends.{name_of, names_of}
use Rattle.core_crash.specs.core_state.Openings.{Opening}
use Rattle.core_crash.specs.core_state.States.{State, start, flushed_by_all}
use Rattle.core_crash.specs.core_state.Events.{Event}
use Rattle.core_crash.specs.core_state.Steps.{run}
use Rattle.core_crash.proofs.core_commit.History.{IsRecorded, SameTxn}
use Rattle.core_crash.proofs.core_commit.Invariants.{Inv}
use Rattle.core_crash.proofs.core_commit.Runs.{good_run, good_start}
use Rattle.core_crash.proofs.Journal.{commit_is_end}
use Rattle.core_crash.proofs.Ends.{one_end}
use Rattle.core_calls.specs.Refusals.{waiting}
use Rattle.core_calls.specs.Durables.{is_ripe, is_told, due}
use Rattle.core_calls.proofs.DurableLemmas.{recorded_of, entered, passes}
use Rattle.group_commit.specs.declared.receipts.Receipt.{Receipt}
use Rattle.group_commit.specs.declared.queue.End.{End}
use Rattle.group_commit.specs.Ripeness.{flushed_of}
use Rattle.group_commit.specs.Queues.{is_ripe_at, is_done, settled, ripe_first, queue_of, without_first, IsSettled, receipt_of, receipt_if, next_of, Soonest, IsSoonest, left}
use Rattle.group_commit.specs.Tracks.{AreFlushed, end_of, ends_above, is_flushed, Tracks}
use Rattle.group_commit.specs.Laws.{TakenLaws, NothingLaws, TakeLaws, EveryTake}
use Rattle.group_commit.proofs.ListLemmas.{keep_none, least_same, queue_set_same, queue_set_other}
use Rattle.group_commit.proofs.QueueLemmas.{Ordered, ordered_ends, EndIn, ends_has, has_ends, behind_first, Settles, settles, settled_first, length_ends}
use Rattle.group_commit.proofs.DueLemmas.{NotBehind, due_parted, other_name}

-- the first that is found of a queue
first_some : (f all : ℕ) (q : List End) (e : End) → ripe_first f all q ≡ Some e → (rest : List End) × (q ≡ e ∷ rest) × (e.is_commit ≡ true) × (is_ripe_at f all e ≡ true)
first_some f all [] e k = absurd (cc)
first_some f all (x ∷ q) e k = go (x.is_commit && is_ripe_at f all x) refl k
  where
    go : (b : Bool) → (x.is_commit && is_ripe_at f all x) ≡ b → cond b (Some x) None ≡ Some e → (rest : List End) × (x ∷ q ≡ e ∷ rest) × (e.is_commit ≡ true) × (is_ripe_at f all e ≡ true)
    go true t k =
        let same : x ≡ e = cc in
        let p = and_parts x.is_commit (is_ripe_at f all x) t in
        (q, ap (λ (y : End). y ∷ q) same, ap (λ (y : End). y.is_commit) (sym same) ∙ p.0, ap (is_ripe_at f all) (sym same) ∙ p.1)
    go false t k = absurd (cc)

receipt_some : (w : ℕ) (o : Option End) (r : Receipt) → receipt_if w o ≡ Some r → (e : End) × (o ≡ Some e) × (receipt_of w e ≡ r)
receipt_some w None r k = absurd (cc)
receipt_some w (Some e) r k = let same : receipt_of w e ≡ r = cc in (e, refl, same)

module _ (g : Opening) (es : List Event) (told : List Name) (fs : List ℕ) (old between : List (List End)) (flushed : AreFlushed g (run g (start g) es) fs) (a : Tracks g (run g (start g) es) told old)
    (b : IsSettled fs (least (flushed_of fs) (length fs)) old between) where
  abbrev s : State
  s = run g (start g) es

  abbrev F : ℕ
  F = flushed_by_all g s

  abbrev next : ℕ → Option Receipt
  next = next_of fs (least (flushed_of fs) (length fs)) between

  all_is : least (flushed_of fs) (length fs) ≡ F
  all_is = ap (least (flushed_of fs)) flushed.logs ∙ least_same (flushed_of fs) s.flushed g.workers g.some_worker (λ i l. flushed.each i l.0 l.1)

  records : IsRecorded g F s.entries
  records = recorded_of g es

  inv : Inv g s
  inv = (good_run g es (start g) (good_start g)).inv

  abbrev settle : (w : ℕ) → Settles (s.flushed w) F w (a.from w) s.entries
  settle w = settles g F (s.flushed w) w s.entries records (ends_above w (a.from w) s.entries) (a.from w) refl

  abbrev to : ℕ → ℕ
  to w = (settle w).to

  queue : (w : ℕ) → 0 < w → w ≤ g.workers → queue_of between w ≡ settled (s.flushed w) F (ends_above w (a.from w) s.entries)
  queue w z l =
      b.each w z (let c = a.sessions in omega arith)
      ∙ (ap₂ (λ (x y : ℕ). settled x y (queue_of old w)) (flushed.each w z l) all_is ∙ ap (settled (s.flushed w) F) (a.lists w z l))

  abbrev Q : ℕ → List End
  Q w = ends_above w (to w) s.entries

  queue_is : (w : ℕ) → 0 < w → w ≤ g.workers → queue_of between w ≡ Q w
  queue_is w z l = queue w z l ∙ (settle w).is

  ordered : (w : ℕ) → Ordered (s.flushed w) F (Q w)
  ordered w = ordered_ends g F (s.flushed w) w (to w) s.entries records

  -- its first end is no ripe abort
  begins : (w : ℕ) (x : End) (q : List End) → Q w ≡ x ∷ q → is_done (s.flushed w) F x ≡ false
  begins w x q k = settled_first (s.flushed w) F (ends_above w (a.from w) s.entries) x q ((settle w).is ∙ k)

  next_is : (w : ℕ) → 0 < w → w ≤ g.workers → next w ≡ receipt_if w (ripe_first (s.flushed w) F (Q w))
  next_is w z l = ap₂ (λ (x y : ℕ). receipt_if w (ripe_first x y (queue_of between w))) (flushed.each w z l) all_is ∙ ap (λ (q : List End). receipt_if w (ripe_first (s.flushed w) F q)) (queue_is w z l)

  -- of an end up to that number
  ripe_by : (e : Entry) → Has e s.entries → is_end e.kind ≡ true → e.number ≤ to e.log → is_flushed g s e ≡ true
  ripe_by e i k l = elim (cases_lt (a.from e.log) e.number) [
    | inl n ↦ (and_parts (not (is_commit e.kind)) (is_flushed g s e) ((settle e.log).done e i (record { is_end = k; log = refl; above = n }) l)).1
    | inr n ↦ a.ripe e i k n
  ]

  told_by : (e : Entry) → Has e s.entries → is_commit e.kind ≡ true → e.number ≤ to e.log → is_told told e ≡ true
  told_by e i k l = elim (cases_lt (a.from e.log) e.number) [
    | inl n ↦ absurd (both_ways (is_commit e.kind) (not-true (is_commit e.kind) (and_parts (not (is_commit e.kind)) (is_flushed g s e) ((settle e.log).done e i (record { is_end = commit_is_end e.kind k; log = refl; above = n }) l)).0) k)
    | inr n ↦ a.told_is e i k n
  ]

  untold_by : (e : Entry) → Has e s.entries → is_commit e.kind ≡ true → to e.log < e.number → is_told told e ≡ false
  untold_by e i k l = a.untold e i k (let c = (settle e.log).least in omega arith)

  reached_by : (w : ℕ) → to w ≤ (s.worker w).clock
  reached_by w = (settle w).most (s.worker w).clock (a.reached w) (λ e i p. ((inv.workers w).numbers e i p.log).0)

  settled_tracks : Tracks g s told between
  settled_tracks = record {
    sessions = b.sessions ∙ a.sessions;
    from = to;
    reached = reached_by;
    lists = queue_is;
    ripe = ripe_by;
    told_is = told_by;
    untold = untold_by;
    known = a.known;
  }

  -- ## What is due

  abbrev p : Entry → Bool
  p = passes g s told

  pub record Due (e : Entry) : Type 0 where
    pub commit : is_commit e.kind ≡ true
    pub ripened : is_flushed g s e ≡ true
    pub untold : is_told told e ≡ false

  due_to : (e : Entry) → p e ≡ true → Due e
  due_to e h =
      let c = and_parts (is_ripe g s e) (not (is_told told e)) h in
      let d = and_parts (is_commit e.kind) (is_flushed g s e) c.0 in
      record { commit = d.0; ripened = d.1; untold = not-true (is_told told e) c.1 }

  due_from : (e : Entry) → Due e → p e ≡ true
  due_from e d = and_from (is_ripe g s e) (not (is_told told e)) (and_from (is_commit e.kind) (is_flushed g s e) d.commit d.ripened) (not_from_false (is_told told e) d.untold)

  in_log : (e : Entry) → Has e s.entries → (0 < e.log) × (e.log ≤ g.workers)
  in_log e i = let c = (entered g es e i).2.log in (c.0, c.1)

  -- where one is due, its queue's first end is ripe, and no later
  record First (e : Entry) : Type 0 where
    end : End
    is : next e.log ≡ Some (receipt_of e.log end)
    least : end.gsn ≤ e.number

  first_of : (e : Entry) → Has e s.entries → p e ≡ true → First e
  first_of e i h = go (Q e.log) refl (has_ends e.log (to e.log) s.entries e i (record { is_end = commit_is_end e.kind d.commit; log = refl; above = above }))
    where
      d : Due e
      d = due_to e h

      above : to e.log < e.number
      above = elim (cases_lt (to e.log) e.number) [ inl n ↦ n | inr n ↦ absurd (both_ways (is_told told e) d.untold (told_by e i d.commit n)) ]

      go : (q : List End) → Q e.log ≡ q → Has (end_of e) q → First e
      go [] k j = absurd j
      go (x ∷ q) k j = record {
        end = x;
        is = next_is e.log (in_log e i).0 (in_log e i).1 ∙ (ap (λ (l : List End). receipt_if e.log (ripe_first (s.flushed e.log) F l)) k
            ∙ ap (receipt_if e.log) (cond-true (x.is_commit && is_ripe_at (s.flushed e.log) F x) (Some x) None (and_from x.is_commit (is_ripe_at (s.flushed e.log) F x) commits ripe)));
        least = (let c = at j in c.0);
      }
        where
          at : Has (end_of e) (x ∷ q) → (x.gsn ≤ e.number) × (is_ripe_at (s.flushed e.log) F x ≡ true)
          at (inl n) = (let c = ap (λ (y : End). y.gsn) n in omega arith, ap (is_ripe_at (s.flushed e.log) F) (sym n) ∙ d.ripened)
          at (inr m) = let c = (subst (Ordered (s.flushed e.log) F) k (ordered e.log)).1 (end_of e) m in let n = c.0 in (omega arith, c.1 d.ripened)

          ripe : is_ripe_at (s.flushed e.log) F x ≡ true
          ripe = (at j).1

          commits : x.is_commit ≡ true
          commits = elim (cases_Bool x.is_commit) [
            | inl t ↦ t
            | inr t ↦ absurd (both_ways (is_done (s.flushed e.log) F x) (begins e.log x q k) (and_from (not x.is_commit) (is_ripe_at (s.flushed e.log) F x) (not_from_false x.is_commit t) ripe))
          ]

  -- ## Nothing is found

  none_due : IsSoonest next (length old) None → due g s told ≡ []
  none_due n = ap (λ (l : List Entry). names_of (in_order earlier l)) (keep_none p s.entries (λ e i. false_from_ne_true (p e) (λ h. none e i (first_of e i h))))
    where
      none : (e : Entry) → Has e s.entries → First e → ⊥
      none e i c = let k = c.is in let m = n e.log (in_log e i).0 (let l = (in_log e i).1 in let d = a.sessions in omega arith) in absurd (cc)

  -- then no end of a queue is ripe
  unripe : (w : ℕ) → next w ≡ None → 0 < w → w ≤ g.workers → (x : End) → Has x (Q w) → is_ripe_at (s.flushed w) F x ≡ false
  unripe w n z l x i = go (Q w) refl i
    where
      go : (q : List End) → Q w ≡ q → Has x q → is_ripe_at (s.flushed w) F x ≡ false
      go [] k j = absurd j
      go (y ∷ q) k j = false_from_ne_true (is_ripe_at (s.flushed w) F x) (λ t. at j t)
        where
          first : is_ripe_at (s.flushed w) F y ≡ true → ⊥
          first t = elim (cases_Bool y.is_commit) [
            | inl c ↦ (let m : receipt_if w (ripe_first (s.flushed w) F (y ∷ q)) ≡ Some (receipt_of w y) = ap (receipt_if w) (cond-true (y.is_commit && is_ripe_at (s.flushed w) F y) (Some y) None (and_from y.is_commit (is_ripe_at (s.flushed w) F y) c t)) in
                let m2 : next w ≡ receipt_if w (ripe_first (s.flushed w) F (y ∷ q)) = next_is w z l ∙ ap (λ (l : List End). receipt_if w (ripe_first (s.flushed w) F l)) k in absurd (cc))
            | inr c ↦ both_ways (is_done (s.flushed w) F y) (begins w y q k) (and_from (not y.is_commit) (is_ripe_at (s.flushed w) F y) (not_from_false y.is_commit c) t)
          ]

          at : Has x (y ∷ q) → is_ripe_at (s.flushed w) F x ≡ true → ⊥
          at (inl e) t = first (ap (is_ripe_at (s.flushed w) F) (sym e) ∙ t)
          at (inr m) t = first (((subst (Ordered (s.flushed w) F) k (ordered w)).1 x m).1 t)

  waits : (w : ℕ) → next w ≡ None → 0 < w → w ≤ g.workers → length (queue_of between w) ≡ waiting g s w
  waits w n z l = ap length (queue_is w z l) ∙ length_ends w (to w) (λ (e : Entry). is_end e.kind && ((e.log == w) && not (leb e.number (s.flushed w) && leb e.need F))) s.entries same
    where
      same : (e : Entry) → Has e s.entries → (is_end e.kind && ((e.log == w) && ltb (to w) e.number)) ≡ (is_end e.kind && ((e.log == w) && not (leb e.number (s.flushed w) && leb e.need F)))
      same e i = elim (cases_Bool (is_end e.kind)) [
        | inr k ↦ and_left (is_end e.kind) ((e.log == w) && ltb (to w) e.number) k ∙ sym (and_left (is_end e.kind) ((e.log == w) && not (leb e.number (s.flushed w) && leb e.need F)) k)
        | inl k ↦ elim (cases_eq e.log w) [
          | inr m ↦ ap (λ (c : Bool). is_end e.kind && (c && ltb (to w) e.number)) (ne_eqb e.log w m) ∙ sym (ap (λ (c : Bool). is_end e.kind && (c && not (leb e.number (s.flushed w) && leb e.need F))) (ne_eqb e.log w m))
          | inl m ↦ ap (λ (c : Bool). is_end e.kind && ((e.log == w) && c)) (test k m)
        ]
      ]
        where
          test : is_end e.kind ≡ true → e.log ≡ w → ltb (to w) e.number ≡ not (leb e.number (s.flushed w) && leb e.need F)
          test k m = elim (cases_lt (to w) e.number) [
            | inl c ↦ lt-ltb (to w) e.number c ∙ sym (not_from_false (leb e.number (s.flushed w) && leb e.need F) (unripe w n z l (end_of e) (has_ends w (to w) s.entries e i (record { is_end = k; log = m; above = c }))))
            | inr c ↦ le-ltb (to w) e.number c ∙ sym (not_from_true (leb e.number (s.flushed w) && leb e.need F) (subst (λ (v : ℕ). (leb e.number (s.flushed v) && leb e.need F) ≡ true) m (ripe_by e i k (subst (λ (v : ℕ). e.number ≤ to v) (sym m) c))))
          ]

  nothing : IsSoonest next (length old) None → NothingLaws g s told between
  nothing n = record { due_is = none_due n; tracks = settled_tracks; waiting_is = λ w z l. waits w (n w z (let c = a.sessions in omega arith)) z l }

  -- ## One is found

  module _ (r : Receipt) (soon : Soonest next (length old) r) where
    some : 0 < r.log
    some = soon.some

    within : r.log ≤ g.workers
    within = let c = soon.within in let d = a.sessions in omega arith

    found : (x : End) × (ripe_first (s.flushed r.log) F (Q r.log) ≡ Some x) × (receipt_of r.log x ≡ r)
    found = receipt_some r.log (ripe_first (s.flushed r.log) F (Q r.log)) r (sym (next_is r.log some within) ∙ soon.is)

    abbrev x : End
    x = found.0

    queued : (rest : List End) × (Q r.log ≡ x ∷ rest) × (x.is_commit ≡ true) × (is_ripe_at (s.flushed r.log) F x ≡ true)
    queued = first_some (s.flushed r.log) F (Q r.log) x found.1

    entry_in : EndIn r.log (to r.log) s.entries x
    entry_in = ends_has r.log (to r.log) s.entries x (subst (λ (l : List End). Has x l) (sym queued.1) (inl refl))

    abbrev e : Entry
    e = entry_in.entry

    log_is : e.log ≡ r.log
    log_is = entry_in.picked.log

    gsn_is : e.number ≡ r.gsn
    gsn_is = ap (λ (y : End). y.gsn) entry_in.is ∙ ap (λ (y : Receipt). y.gsn) found.2

    txn_is : e.txn ≡ r.txn
    txn_is = ap (λ (y : End). y.txn) entry_in.is ∙ ap (λ (y : Receipt). y.txn) found.2

    need_is : e.need ≡ r.need
    need_is = ap (λ (y : End). y.need) entry_in.is ∙ ap (λ (y : Receipt). y.need) found.2

    commit : is_commit e.kind ≡ true
    commit = ap (λ (y : End). y.is_commit) entry_in.is ∙ queued.2

    is_flushed_now : is_flushed g s e ≡ true
    is_flushed_now = subst (λ (v : ℕ). (leb e.number (s.flushed v) && leb e.need F) ≡ true) (sym log_is) (ap (is_ripe_at (s.flushed r.log) F) entry_in.is ∙ queued.3)

    above : to e.log < e.number
    above = subst (λ (v : ℕ). to v < e.number) (sym log_is) entry_in.picked.above

    name_is : name_of e ≡ record { session = r.log; number = r.txn }
    name_is = ap₂ (λ (y z : ℕ). let n : Name = record { session = y; number = z } in n) log_is txn_is

    passed : p e ≡ true
    passed = due_from e (record { commit = commit; ripened = is_flushed_now; untold = untold_by e entry_in.has commit above })

    not_behind : (y : Entry) → Has y s.entries → p y ≡ true → NotBehind e y
    not_behind y i h = elim (soon.first y.log (receipt_of y.log (first_of y i h).end) (in_log y i).0 (let c = (in_log y i).1 in let d = a.sessions in omega arith) (first_of y i h).is) [
      | inl c ↦ inl (let d = gsn_is in let k = (first_of y i h).least in omega arith)
      | inr c ↦ both c.0 c.1
    ]
      where
        both : r.gsn ≡ (first_of y i h).end.gsn → r.log ≤ y.log → NotBehind e y
        both c d = elim (cases_lt e.number y.number) [
          | inl k ↦ inl k
          | inr k ↦ (let m = (first_of y i h).least in let n = gsn_is in let o = log_is in inr (omega arith, omega arith))
        ]

    due_is : due g s told ≡ due g s (record { session = r.log; number = r.txn } ∷ told) ++ record { session = r.log; number = r.txn } ∷ []
    due_is =
        due_parted g F s told e records entry_in.has (commit_is_end e.kind commit) (λ y h. commit_is_end y.kind (due_to y h).commit) passed not_behind
        ∙ ap (λ (n : Name). due g s (n ∷ told) ++ n ∷ []) name_is

    -- ## What is left

    abbrev from : ℕ → ℕ
    from = upd to r.log r.gsn

    from_own : (w : ℕ) → w ≡ r.log → from w ≡ r.gsn
    from_own w q = upd_same to r.log r.gsn w q

    from_other : (w : ℕ) → (w ≡ r.log → ⊥) → from w ≡ to w
    from_other w n = upd_other to r.log r.gsn w n

    -- an end of the log up to there is one up to where it was, or is this one
    up_to : (y : Entry) → Has y s.entries → is_end y.kind ≡ true → y.number ≤ from y.log → (y.number ≤ to y.log) ⊎ (y ≡ e)
    up_to y i k l = elim (cases_eq y.log r.log) [
      | inr n ↦ inl (let c = from_other y.log n in omega arith)
      | inl q ↦ elim (cases_lt (to y.log) y.number) [
        | inr n ↦ inl n
        | inl n ↦ inr (own q (subst (λ (l : List End). Has (end_of y) l) queued.1 (has_ends r.log (to r.log) s.entries y i (record { is_end = k; log = q; above = subst (λ (v : ℕ). to v < y.number) q n }))))
      ]
    ]
      where
        own : y.log ≡ r.log → Has (end_of y) (x ∷ queued.0) → y ≡ e
        own q (inl c) = one_end g F s.entries records y e i entry_in.has k (commit_is_end e.kind commit) (q ∙ sym log_is, ap (λ (z : End). z.txn) c ∙ ap (λ (z : End). z.txn) (sym entry_in.is))
        own q (inr c) =
            let d = ((subst (Ordered (s.flushed r.log) F) queued.1 (ordered r.log)).1 (end_of y) c).0 in
            let m = from_own y.log q in let o = ap (λ (z : Receipt). z.gsn) found.2 in absurd (omega arith)

    -- another transaction
    other : (y : Entry) → Has y s.entries → is_commit y.kind ≡ true → from y.log < y.number → SameTxn y e → ⊥
    other y i k l t =
        let q = one_end g F s.entries records y e i entry_in.has (commit_is_end y.kind k) (commit_is_end e.kind commit) t in
        let c = from_own y.log (t.0 ∙ log_is) in let d = ap (λ (z : Entry). z.number) q in let m = gsn_is in omega arith

    untold_now : (y : Entry) → Has y s.entries → is_commit y.kind ≡ true → from y.log < y.number → is_told (record { session = r.log; number = r.txn } ∷ told) y ≡ false
    untold_now y i k l = ap (λ (n : Name). is_told (n ∷ told) y) (sym name_is) ∙ (other_name told e y (other y i k l) ∙ untold_by y i k below)
      where
        below : to y.log < y.number
        below = elim (cases_eq y.log r.log) [
          | inl q ↦ (let c = from_own y.log q in let d = gsn_is in let m = above in let n = ap to (q ∙ sym log_is) in omega arith)
          | inr q ↦ (let c = from_other y.log q in omega arith)
        ]

    told_now : (y : Entry) → Has y s.entries → is_commit y.kind ≡ true → y.number ≤ from y.log → is_told (record { session = r.log; number = r.txn } ∷ told) y ≡ true
    told_now y i k l = elim (up_to y i (commit_is_end y.kind k) l) [
      | inl c ↦ or_right ((r.log == y.log) && (r.txn == y.txn)) (is_told told y) (told_by y i k c)
      | inr c ↦ or_left ((r.log == y.log) && (r.txn == y.txn)) (is_told told y) (and_from (r.log == y.log) (r.txn == y.txn) (eq-eqb r.log y.log (sym (ap (λ (z : Entry). z.log) c ∙ log_is))) (eq-eqb r.txn y.txn (sym (ap (λ (z : Entry). z.txn) c ∙ txn_is))))
    ]

    ripe_now : (y : Entry) → Has y s.entries → is_end y.kind ≡ true → y.number ≤ from y.log → is_flushed g s y ≡ true
    ripe_now y i k l = elim (up_to y i k l) [ inl c ↦ ripe_by y i k c | inr c ↦ ap (is_flushed g s) c ∙ is_flushed_now ]

    lists_now : (w : ℕ) → 0 < w → w ≤ g.workers → queue_of (without_first r.log between) w ≡ ends_above w (from w) s.entries
    lists_now w z l = elim (cases_eq w r.log) [
      | inr n ↦ queue_set_other between r.log w (drop 1 (queue_of between r.log)) some z n ∙ (queue_is w z l ∙ ap (λ (m : ℕ). ends_above w m s.entries) (sym (from_other w n)))
      | inl q ↦ subst (λ (v : ℕ). queue_of (without_first r.log between) v ≡ ends_above v (from v) s.entries) (sym q) own
    ]
      where
        own : queue_of (without_first r.log between) r.log ≡ ends_above r.log (from r.log) s.entries
        own =
            queue_set_same between r.log (drop 1 (queue_of between r.log)) some (let c = b.sessions in let d = soon.within in omega arith)
            ∙ (ap (drop 1) (queue_is r.log some within ∙ queued.1)
            ∙ (sym (behind_first g F (s.flushed r.log) r.log (to r.log) s.entries records x queued.0 queued.1)
            ∙ ap (λ (m : ℕ). ends_above r.log m s.entries) (ap (λ (z : Receipt). z.gsn) found.2 ∙ sym (from_own r.log refl))))

    reached_now : (w : ℕ) → from w ≤ (s.worker w).clock
    reached_now w = elim (cases_eq w r.log) [
      | inl q ↦ (let c = from_own w q in let d = ((inv.workers w).numbers e entry_in.has (log_is ∙ sym q)).0 in let m = gsn_is in omega arith)
      | inr n ↦ (let c = from_other w n in let d = reached_by w in omega arith)
    ]

    known_now : (n : Name) → Has n (record { session = r.log; number = r.txn } ∷ told) → (y : Entry) × Has y s.entries × (is_commit y.kind ≡ true) × (name_of y ≡ n)
    known_now n (inl q) = (e, entry_in.has, commit, name_is ∙ sym q)
    known_now n (inr i) = a.known n i

    taken : TakenLaws g s told (without_first r.log between) r
    taken = record {
      entry = e;
      has = entry_in.has;
      tells = record { txn = sym txn_is; log = sym log_is; gsn = sym gsn_is; need = sym need_is };
      ripe = and_from (is_commit e.kind) (is_flushed g s e) commit is_flushed_now;
      due_is = due_is;
      tracks = record {
        sessions = length-set between (r.log - 1) (drop 1 (queue_of between r.log)) ∙ (b.sessions ∙ a.sessions);
        from = from;
        reached = reached_now;
        lists = lists_now;
        ripe = ripe_now;
        told_is = told_now;
        untold = untold_now;
        known = known_now;
      };
    }

pub every_take : EveryTake
every_take g es told fs old new found flushed a t = go found t.soonest t.taken
  where
    go : (found : Option Receipt) → IsSoonest (next_of fs (least (flushed_of fs) (length fs)) t.between) (length old) found → new ≡ left found t.between → TakeLaws g (run g (start g) es) told new found
    go None soon q = subst (λ (l : List (List End)). NothingLaws g (run g (start g) es) told l) (sym q) (nothing g es told fs old t.between flushed a t.aborts soon)
    go (Some r) soon q = subst (λ (l : List (List End)). TakenLaws g (run g (start g) es) told l r) (sym q) (taken g es told fs old t.between flushed a t.aborts r soon)
