-- A master's floor below the state's: the logs reach as far without it, and so it stays while no head moves.
use Rattle.std.proofs.Common.{◌≡◌, ◌⊎◌, inl, inr, ⊎_elim, ◌≤◌, ◌<◌, ℕ, zero, suc, max, Bool, true, false, cond, ◌&&◌, ◌||◌, not, leb, ◌==◌, List, [], ◌∷◌, ◌++◌, Some, refl, sym, ap, ◌∙◌, subst, arith, true≢false}
use Rattle.std.proofs.lemmas.Bool.{and_from, and_parts, cases_eq, cases_lt, eq-eqb, eqb-true, le-leb, leb-true, lt-leb, or_cases, or_left, or_right}
use Rattle.map_model.specs.Lists.{Has, any, keep}
use Rattle.map_model.specs.Journals.{Txn, is_earlier}
use Rattle.map_model.specs.Maps.{MapAnswer}
use Rattle.map_model.proofs.ListLemmas.{has_any, has_keep, has_left, has_right, keep_has, order_has}
use Rattle.page_model.specs.Nodes.{Format}
use Rattle.rfa_model.specs.Reaches.{least}
use Rattle.core_crash.specs.image_model.Entries.{Entry, Contents, is_commit, is_record, is_write}
use Rattle.core_crash.specs.image_model.Ends.{ended, greatest, losers, reach, winners, wins}
use Rattle.core_crash.specs.image_model.Histories.{committed, txn_of}
use Rattle.core_crash.specs.image_model.Images.{Image, IsSound, found, gathered, lost, lost_by, map_of, recovered_page, redone, sorted, won_by}
use Rattle.core_crash.specs.image_model.Redo.{Redone}
use Rattle.core_crash.specs.image_model.Undo.{undo, undo_node, values}
use Rattle.page_model.specs.Tree.{value_of}
use Rattle.core_crash.specs.core_state.Openings.{Opening}
use Rattle.core_crash.specs.core_state.States.{State, flushed_by_all}
use Rattle.core_crash.specs.core_state.Events.{Event}
use Rattle.core_crash.specs.core_state.Needs.{may}
use Rattle.core_crash.specs.core_state.Steps.{follows, happens, put_back, state_after, step}
use Rattle.core_crash.specs.core_commit.Rises.{Rises}
use Rattle.core_crash.proofs.core_commit.History.{Recorded}
use Rattle.core_crash.proofs.core_commit.Invariants.{Inv}
use Rattle.core_crash.proofs.core_commit.KindFacts.{end_is_record}
use Rattle.core_crash.proofs.core_commit.Lists.{Within, each_at, has_before, le_least, least_le}
use Rattle.core_crash.proofs.core_commit.RiseLemmas.{every_rise}
use Rattle.core_crash.proofs.core_commit.Runs.{step_keeps}
use Rattle.core_crash.specs.Crashes.{Leaves, from_head, image_of, journal_in, log_of}
use Rattle.core_crash.proofs.Cuts.{same_bool}
use Rattle.core_crash.proofs.Ends.{le_greatest}
use Rattle.core_crash.proofs.Journal.{commit_is_end}
use Rattle.disk_image.specs.Laws.{Agreement}
use Rattle.core_disk.specs.MasterFloors.{HasReached, IsFloorOf}
use Rattle.core_disk.specs.FloorLaws.{EveryFloorReach, EveryFloorStep, FloorLaws, NoHeadMoves, ReachesAsFar, at_floor}
use Rattle.core_disk.specs.Versions.{is_cut, then}
use Rattle.core_disk.proofs.VersionLemmas.{OneMore, good, more_step, state_then}

-- ## Lists

least_same : (f h : ℕ → ℕ) (n : ℕ) → 0 < n → ((w : ℕ) → 0 < w → w ≤ n → f w ≡ h w) → least f n ≡ least h n
least_same f h n some same =
    let a = le_least h n (least f n) some (λ w l. let a = least_le f n w l in let e = same w l.0 l.1 in omega arith) in
    let b = le_least f n (least h n) some (λ w l. let a = least_le h n w l in let e = same w l.0 l.1 in omega arith) in
    omega arith

has_gathered : (log : ℕ → List Entry) (n w : ℕ) (r : Entry) → 0 < w → w ≤ n → Has r (log w) → Has r (gathered log n)
has_gathered log zero w r low high has = absurd (omega arith)
has_gathered log (suc n) w r low high has = ⊎_elim
    (λ (e : w ≡ suc n). has_left r (log (suc n)) (gathered log n) (subst (λ (k : ℕ). Has r (log k)) e has))
    (λ (ne : w ≡ suc n → ⊥). has_right r (log (suc n)) (gathered log n) (has_gathered log n w r low (omega arith) has))
    (cases_eq w (suc n))

-- where a transaction of the journal was committed
record CommitOf (h : List Entry) (t : Txn) : Type 0 where
  entry : Entry
  has : Has entry h
  commit : is_commit entry.kind ≡ true
  log : entry.log ≡ t.session
  txn : entry.txn ≡ t.number
  number : entry.number ≡ t.at

commit_of : (f : Format) (h : List Entry) (t : Txn) → Has t (committed f h) → CommitOf h t
commit_of f [] t i = absurd i
commit_of f (e ∷ h) t i = go (commit_of f h t) (is_commit e.kind) refl i
  where
    later : CommitOf h t → CommitOf (e ∷ h) t
    later c = record { entry = c.entry; has = inr c.has; commit = c.commit; log = c.log; txn = c.txn; number = c.number }

    go : (Has t (committed f h) → CommitOf h t) → (b : Bool) → is_commit e.kind ≡ b → Has t (cond b (txn_of f e h ∷ committed f h) (committed f h)) → CommitOf (e ∷ h) t
    go ih true k (inl q) = record {
      entry = e;
      has = inl refl;
      commit = k;
      log = ap (λ (x : Txn). x.session) (sym q);
      txn = ap (λ (x : Txn). x.number) (sym q);
      number = ap (λ (x : Txn). x.at) (sym q);
    }
    go ih true k (inr j) = later (ih j)
    go ih false k j = later (ih j)

-- ## The reach

module _ (g : Opening) (es : List Event) (logs : ℕ → List Entry) (page : ℕ → Contents) (floor : ℕ) (c : Leaves g es logs page) (is : IsFloorOf g (state_after g es) floor) where
  abbrev s : State
  s = state_after g es

  inv : Inv g s
  inv = (good g es).inv

  abbrev z : List Entry
  z = found (image_of g s logs page)

  -- a flushed record with a greater number is found
  found_above : (w : ℕ) → 0 < w → w ≤ g.workers → (r : Entry) → Has r (log_of w s.entries) → r.number ≤ s.flushed w → floor < r.number → Has r z
  found_above w low high r has flushed above =
      let h = is.heads w low high in
      has_gathered (λ v. from_head (s.head v) (logs v)) g.workers w r low high
      (has_keep (λ x. not (leb x.number (s.head w))) (logs w) r (c.flushed w low high r has flushed) (ap not (lt-leb r.number (s.head w) (omega arith))))

  greatest_far : floor < s.floor → (w : ℕ) → 0 < w → w ≤ g.workers → s.floor ≤ greatest w z
  greatest_far lt w low high =
      let r = is.reached lt w low high in
      let f = r.far in
      let own = keep_has (λ x. is_record x.kind && (x.log == w)) s.entries r.entry r.has in
      let log : r.entry.log ≡ w = eqb-true r.entry.log w (and_parts (is_record r.entry.kind) (r.entry.log == w) own.1).1 in
      let l = le_greatest w z r.entry (found_above w low high r.entry r.has r.flushed (omega arith)) log in
      omega arith

  greater_same : (w : ℕ) → 0 < w → w ≤ g.workers → max floor (greatest w z) ≡ max s.floor (greatest w z)
  greater_same w low high = let l = is.low in ⊎_elim
      (λ (lt : floor < s.floor). let far = greatest_far lt w low high in omega arith)
      (λ (ge : s.floor ≤ floor). omega arith)
      (cases_lt floor s.floor)

  reach_same : reach g.workers floor z ≡ reach g.workers s.floor z
  reach_same = least_same (λ w. max floor (greatest w z)) (λ w. max s.floor (greatest w z)) g.workers g.some_worker greater_same

  -- ## The kept

  abbrev far : ℕ
  far = reach g.workers s.floor z

  abbrev its : Txn → Entry → Bool
  its t e = wins far e && ((e.log == t.session) && (e.txn == t.number))

  -- a commit up to the state's floor is cut with the logs, or it is found and wins
  commit_wins : (t : Txn) → CommitOf s.entries t → t.at ≤ s.floor → floor < t.at → any (its t) z ≡ true
  commit_wins t k low above =
      let e = k.entry in
      let p = has_before e s.entries k.has in
      let rec = each_at (Recorded g (flushed_by_all g s)) s.entries e p.0 inv.records p.1 in
      let end = commit_is_end e.kind k.commit in
      let need = (rec.closes end).need in
      let based = (inv.workers e.log).based rec.log in
      let number = k.number in
      let own : Has e (log_of e.log s.entries) = has_keep (λ x. is_record x.kind && (x.log == e.log)) s.entries e k.has (and_from (is_record e.kind) (e.log == e.log) (end_is_record e.kind end) (eq-eqb e.log e.log refl)) in
      let there = found_above e.log rec.log.0 rec.log.1 e own (omega arith) (omega arith) in
      let least_far = le_least (λ w. max s.floor (greatest w z)) g.workers s.floor g.some_worker (λ w l. omega arith) in
      has_any (its t) z e there
      (and_from (wins far e) ((e.log == t.session) && (e.txn == t.number)) (and_from (is_commit e.kind) (leb e.need far) k.commit (le-leb e.need far (omega arith)))
      (and_from (e.log == t.session) (e.txn == t.number) (eq-eqb e.log t.session k.log) (eq-eqb e.txn t.number k.txn)))

  kept_same : (t : Txn) → Has t (journal_in g s) → (leb t.at floor || any (its t) z) ≡ (leb t.at s.floor || any (its t) z)
  kept_same t i = same_bool (leb t.at floor || any (its t) z) (leb t.at s.floor || any (its t) z) up down
    where
      up : (leb t.at floor || any (its t) z) ≡ true → (leb t.at s.floor || any (its t) z) ≡ true
      up h = ⊎_elim
          (λ (l : leb t.at floor ≡ true). or_left (leb t.at s.floor) (any (its t) z) (le-leb t.at s.floor (let a = leb-true t.at floor l in let b = is.low in omega arith)))
          (λ (w : any (its t) z ≡ true). or_right (leb t.at s.floor) (any (its t) z) w)
          (or_cases (leb t.at floor) (any (its t) z) h)

      below : t.at ≤ s.floor → (leb t.at floor || any (its t) z) ≡ true
      below low = ⊎_elim
          (λ (lt : floor < t.at). or_right (leb t.at floor) (any (its t) z) (commit_wins t (commit_of g.format s.entries t (order_has is_earlier (committed g.format s.entries) t i)) low lt))
          (λ (ge : t.at ≤ floor). or_left (leb t.at floor) (any (its t) z) (le-leb t.at floor ge))
          (cases_lt floor t.at)

      down : (leb t.at s.floor || any (its t) z) ≡ true → (leb t.at floor || any (its t) z) ≡ true
      down h = ⊎_elim
          (λ (l : leb t.at s.floor ≡ true). below (leb-true t.at s.floor l))
          (λ (w : any (its t) z ≡ true). or_right (leb t.at floor) (any (its t) z) w)
          (or_cases (leb t.at s.floor) (any (its t) z) h)

  pub as_far : ReachesAsFar g s floor z
  as_far = record {
    reach = reach_same;
    kept = λ t i. ap (λ (r : ℕ). leb t.at floor || any (λ e. wins r e && ((e.log == t.session) && (e.txn == t.number))) z) reach_same ∙ kept_same t i;
  }

pub every_floor_reach : EveryFloorReach
every_floor_reach g es logs page floor c is = as_far g es logs page floor c is

-- ## Images

-- what an image stands for, it stands for by each floor of the same reach
module _ (i : Image) (floor : ℕ) (same : reach i.logs floor (found i) ≡ reach i.logs i.floor (found i)) where
  lost_same : lost (at_floor floor i) ≡ lost i
  lost_same =
      let by : ℕ → Entry → Bool = λ far r. is_write r.kind && ((redone i).counts r.log r.number && not (ended far (found i) r)) in
      ap by same

  pub sound_at : IsSound i → IsSound (at_floor floor i)
  sound_at s = record {
    whole = s.whole;
    rising = s.rising;
    done = s.done;
    tree = s.tree;
    entries = λ r has is. s.entries r has (ap (λ (f : Entry → Bool). f r) (sym lost_same) ∙ is);
  }

  pub agreement_at : (j : Image) → Agreement (at_floor floor i) j → Agreement i j
  agreement_at j a = record {
    sound = a.sound;
    map = λ k. a.map k ∙ ap (λ (f : Entry → Bool). value_of i.format (Some (undo f (sorted i) (values i.format (redone i)) k))) lost_same;
    won = a.won ∙ ap (λ (far : ℕ). winners far (found i)) same;
    lost = a.lost ∙ ap (λ (far : ℕ). losers far (found i)) same;
    recovered = λ p lt. a.recovered p lt ∙ ap (λ (f : Entry → Bool). let v : Contents = record ((redone i).page p) { node = undo_node f (sorted i) ((redone i).page p).node } in v) lost_same;
  }

-- ## One event more

head_event : (g : Opening) (s : State) (e : Event) → is_cut e ≡ false → (happens g s e).head ≡ s.head
head_event g s (Event.Cut x heads) n = absurd (true≢false n)
head_event g s (Event.Next w q j a) n = go a
  where
    go : (a : MapAnswer) → (follows g s w q a).head ≡ s.head
    go (MapAnswer.Pair at word) = refl
    go (MapAnswer.Gap b) = refl
    go (MapAnswer.Value v) = refl
    go (MapAnswer.Was v) = refl
head_event g s (Event.Put_back w q) n = go (s.worker w).changes
  where
    go : (cs : List Entry) → (put_back g s w q cs).head ≡ s.head
    go [] = refl
    go (c ∷ cs) = refl
head_event g s _ n = refl

head_step : (g : Opening) (s : State) (e : Event) → is_cut e ≡ false → (step g s e).head ≡ s.head
head_step g s e n = step_keeps (λ t. t.head ≡ s.head) g s e refl (λ m. head_event g s e n)

-- a record stays in its log
log_more : (w : ℕ) (old new : List Entry) → OneMore old new → (r : Entry) → Has r (log_of w old) → Has r (log_of w new)
log_more w old new one r has = ⊎_elim
    (λ (same : new ≡ old). subst (λ (l : List Entry). Has r (log_of w l)) (sym same) has)
    (λ (more : (y : Entry) × (new ≡ y ∷ old)).
    let p : Entry → Bool = λ x. is_record x.kind && (x.log == w) in
    let own = keep_has p old r has in
    has_keep p new r (subst (Has r) (sym more.1) (inr own.0)) own.1)
    one

-- the state's floor is flushed everywhere
pub floor_low : (g : Opening) (es : List Event) → (state_after g es).floor ≤ flushed_by_all g (state_after g es)
floor_low g es = le_least (state_after g es).flushed g.workers (state_after g es).floor g.some_worker (λ w l. ((good g es).inv.workers w).based l)

module _ (g : Opening) (es : List Event) (floor : ℕ) where
  abbrev now : State
  now = state_after g es

  kept : Inv g now
  kept = (good g es).inv

  own_is : floor ≡ now.floor → IsFloorOf g now floor
  own_is e = record {
    low = omega arith;
    heads = λ w low high. let a = kept.cuts.heads w in let b = kept.cuts.low in omega arith;
    reached = λ lt. absurd (omega arith);
  }

  -- each log has reached what all logs are flushed to
  reached_to : IsFloorOf g now floor → (n : ℕ) → floor < n → n ≤ flushed_by_all g now → (w : ℕ) → 0 < w → w ≤ g.workers → HasReached now n w
  reached_to is n above below w low high =
      let based = (kept.workers w).based (low, high) in
      let all = least_le now.flushed g.workers w (low, high) in
      ⊎_elim
      (λ (q : now.flushed w ≤ now.floor). let r = is.reached (omega arith) w low high in let f = r.far in record { entry = r.entry; has = r.has; far = omega arith; flushed = r.flushed })
      (λ (q : (r : Entry) × Has r now.entries × (is_record r.kind ≡ true) × (r.log ≡ w) × (r.number ≡ now.flushed w)).
      let number = q.4 in
      record {
        entry = q.0;
        has = has_keep (λ x. is_record x.kind && (x.log == w)) now.entries q.0 q.1 (and_from (is_record q.0.kind) (q.0.log == w) q.2 (eq-eqb q.0.log w q.3));
        far = omega arith;
        flushed = omega arith;
      })
      (kept.workers w).in_log

  more_is : (e : Event) → is_cut e ≡ false → (step g now e).floor ≡ now.floor → IsFloorOf g now floor → IsFloorOf g (step g now e) floor
  more_is e no_cut same is = record {
    low = let l = is.low in omega arith;
    heads = λ w low high. let h = ap (λ (f : ℕ → ℕ). f w) (head_step g now e no_cut) in let l = is.heads w low high in omega arith;
    reached = λ lt w low high.
        let r = is.reached (omega arith) w low high in
        let f = r.far in
        let up = rises.flushed w low high in
        let fl = r.flushed in
        record { entry = r.entry; has = log_more w now.entries (step g now e).entries (more_step g now e) r.entry r.has; far = omega arith; flushed = omega arith };
  }
    where
      rises : Rises g now (step g now e)
      rises = every_rise g es (e ∷ [])

  sync_is : (n : ℕ) → n ≤ flushed_by_all g now → IsFloorOf g now floor → IsFloorOf g (step g now (Event.Sync n)) floor
  sync_is n all is = step_keeps (λ t. IsFloorOf g t floor) g now (Event.Sync n) is (λ met.
      let e : step g now (Event.Sync n) ≡ happens g now (Event.Sync n) = Rattle.std.proofs.lemmas.Bool.cond-true (may g now (Event.Sync n)) (happens g now (Event.Sync n)) now met in
      let rises : Rises g now (happens g now (Event.Sync n)) = subst (Rises g now) e (every_rise g es (Event.Sync n ∷ [])) in
      let up = rises.floor in
      record {
        low = let l = is.low in omega arith;
        heads = is.heads;
        reached = λ lt w low high. let r = reached_to is n lt all w low high in let f = r.flushed in let u = rises.flushed w low high in record { entry = r.entry; has = r.has; far = r.far; flushed = omega arith };
      })

  cut_is : (x : ℕ) (heads : ℕ → ℕ) → NoHeadMoves g now (step g now (Event.Cut x heads)) → IsFloorOf g now floor → IsFloorOf g (step g now (Event.Cut x heads)) floor
  cut_is x heads none is = step_keeps (λ t. NoHeadMoves g now t → IsFloorOf g t floor) g now (Event.Cut x heads) (λ _. is) (λ met still.
      let all = floor_low g es in
      record {
        low = let l = is.low in omega arith;
        heads = λ w low high. let h = still w low high in let l = is.heads w low high in omega arith;
        reached = λ lt w low high. let r = reached_to is (max now.floor (flushed_by_all g now)) lt (omega arith) w low high in record { entry = r.entry; has = r.has; far = r.far; flushed = r.flushed };
      }) none

  pub floor_laws : FloorLaws g es floor
  floor_laws = record {
    own = own_is;
    more = λ e no_cut same is. subst (λ (t : State). IsFloorOf g t floor) (sym (state_then g es e)) (more_is e no_cut (ap (λ (t : State). t.floor) (sym (state_then g es e)) ∙ same) is);
    sync = λ n all is. subst (λ (t : State). IsFloorOf g t floor) (sym (state_then g es (Event.Sync n))) (sync_is n all is);
    cut = λ x heads none is. subst (λ (t : State). IsFloorOf g t floor) (sym (state_then g es (Event.Cut x heads)))
        (cut_is x heads (subst (NoHeadMoves g now) (state_then g es (Event.Cut x heads)) none) is);
  }

pub every_floor_step : EveryFloorStep
every_floor_step g es floor = floor_laws g es floor
