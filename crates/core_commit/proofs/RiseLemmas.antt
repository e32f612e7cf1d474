-- What never falls.
use Rattle.map_model.specs.Lists.{upd}
use Rattle.map_model.specs.Maps.{MapAnswer}
use Rattle.core_state.specs.image_model.Entries.{Kind, Entry, is_record}
use Rattle.page_model.specs.Records.{Record}
use Rattle.page_model.specs.Needs as record_needs
use Rattle.core_state.specs.Lists.{most}
use Rattle.core_state.specs.States.{State, Worker, start, flushed_by_all, nodes_of, gsns_of}
use Rattle.core_state.specs.Openings.{Opening}
use Rattle.core_state.specs.Events.{Event}
use Rattle.core_state.specs.Needs.{are_hot, pages_of, is_behind, needs}
use Rattle.core_state.specs.Steps.{at_pages, at_row, begun, finished, write_entry, moves, put_back, follows, happens, step, run}
use Rattle.core_commit.specs.Rises.{Rises, EveryRise}
use Rattle.core_commit.proofs.Lists.{le_least, least_le}
use Rattle.core_commit.proofs.Invariants.{Inv, stamp_flushed}
use Rattle.core_commit.proofs.Events.{touched_all}
use Rattle.core_commit.proofs.Controls.{least_mono, upd_rises, le_most}
use Rattle.core_commit.proofs.Copies.{at_place}
use Rattle.core_commit.proofs.Runs.{Good, step_keeps, good_step, good_run, good_start}
use Rattle.std.proofs.Common.{◌≡◌, ◌≤◌, ℕ, suc, true, ◌&&◌, not, leb, ◌==◌, List, [], ◌∷◌, refl, ap, arith}
use Rattle.std.proofs.lemmas.Bool.{and_parts, eqb-true, leb-true}

-- one worker's clock and last end rise
up_one : (worker : ℕ → Worker) (w : ℕ) (a : Worker) → (worker w).clock ≤ a.clock → (worker w).end ≤ a.end → (v : ℕ) → ((worker v).clock ≤ (upd worker w a v).clock) × ((worker v).end ≤ (upd worker w a v).end)
up_one worker w a c e v = at_place (λ j b. ((worker j).clock ≤ b.clock) × ((worker j).end ≤ b.end)) worker w a v
    (λ q. let x = ap (λ (i : ℕ). (worker i).clock) q in let y = ap (λ (i : ℕ). (worker i).end) q in (omega arith, omega arith)) (λ _. (omega arith, omega arith))

end_stays : (s : State) (w : ℕ) (a : Worker) (ps : List ℕ) → (at_pages s w a ps).end ≡ a.end
end_stays s w a [] = refl
end_stays s w a (p ∷ ps) = end_stays s w a ps

-- a state that differs in one worker, and in what is not said here
with_worker : (g : Opening) (s t : State) (w : ℕ) (a : Worker) → (s.worker w).clock ≤ a.clock → (s.worker w).end ≤ a.end → t.worker ≡ upd s.worker w a → t.flushed ≡ s.flushed → t.head ≡ s.head → t.floor ≡ s.floor → t.cut ≡ s.cut → t.posted ≡ s.posted → t.epoch ≡ s.epoch → Rises g s t
with_worker g s t w a c e ew ef eh el ec ep ee = record {
  flushed = λ v _ _. let q = ap (λ (f : ℕ → ℕ). f v) ef in omega arith;
  flushed_by_all = let q = ap (λ (f : ℕ → ℕ). Rattle.rfa_model.specs.Reaches.least f g.workers) ef in omega arith;
  clocks = λ v. let q = ap (λ (f : ℕ → Worker). (f v).clock) ew in let u = (up_one s.worker w a c e v).0 in omega arith;
  ends = λ v. let q = ap (λ (f : ℕ → Worker). (f v).end) ew in let u = (up_one s.worker w a c e v).1 in omega arith;
  heads = λ v. let q = ap (λ (f : ℕ → ℕ). f v) eh in omega arith;
  floor = omega arith;
  cut = omega arith;
  posted = omega arith;
  epoch = omega arith;
}

-- the worker after it touched these pages
touched : (g : Opening) (s : State) → Inv g s → (w : ℕ) (ps : List ℕ) → ((s.worker w).clock ≤ (at_pages s w (s.worker w) ps).clock) × ((s.worker w).end ≤ (at_pages s w (s.worker w) ps).end)
touched g s i w ps = let t = touched_all s w (flushed_by_all g s) (s.worker w) ps (stamp_flushed g s i) (i.workers w).floor (i.workers w).debt in let e = end_stays s w (s.worker w) ps in (t.0, omega arith)

rises_moves : (g : Opening) (s : State) → Inv g s → (K : Kind) (w : ℕ) (ps : List ℕ) (y : Record) → Rises g s (moves s K w ps y)
rises_moves g s i K w ps y = let t = touched g s i w ps in let c = t.0 in with_worker g s (moves s K w ps y) w (record (at_pages s w (s.worker w) ps) { clock = suc (at_pages s w (s.worker w) ps).clock }) (omega arith) t.1 refl refl refl refl refl refl refl

same : (g : Opening) (s t : State) → t.worker ≡ s.worker → t.flushed ≡ s.flushed → t.head ≡ s.head → t.floor ≡ s.floor → t.cut ≡ s.cut → t.posted ≡ s.posted → s.epoch ≤ t.epoch → Rises g s t
same g s t ew ef eh el ec ep ee = record {
  flushed = λ v _ _. let q = ap (λ (f : ℕ → ℕ). f v) ef in omega arith;
  flushed_by_all = let q = ap (λ (f : ℕ → ℕ). Rattle.rfa_model.specs.Reaches.least f g.workers) ef in omega arith;
  clocks = λ v. let q = ap (λ (f : ℕ → Worker). (f v).clock) ew in omega arith;
  ends = λ v. let q = ap (λ (f : ℕ → Worker). (f v).end) ew in omega arith;
  heads = λ v. let q = ap (λ (f : ℕ → ℕ). f v) eh in omega arith;
  floor = omega arith;
  cut = omega arith;
  posted = omega arith;
  epoch = ee;
}

rises_event : (g : Opening) (s : State) → Inv g s → (e : Event) → needs g s e ≡ true → Rises g s (happens g s e)
rises_event g s i (Event.Begin w f) m = with_worker g s (happens g s (Event.Begin w f)) w (begun (s.worker w) f) (omega arith) (omega arith) refl refl refl refl refl refl refl
rises_event g s i (Event.Lock w o mode) m = with_worker g s (happens g s (Event.Lock w o mode)) w (at_row w (s.worker w) (s.row o)) (omega arith) (omega arith) refl refl refl refl refl refl refl
rises_event g s i (Event.Read w p k a) m = let t = touched g s i w (p ∷ []) in with_worker g s (happens g s (Event.Read w p k a)) w (at_pages s w (s.worker w) (p ∷ [])) t.0 t.1 refl refl refl refl refl refl refl
rises_event g s i (Event.Next w p k a) m = go a
  where
    go : (a : MapAnswer) → Rises g s (follows g s w p a)
    go (MapAnswer.Pair at word) = let t = touched g s i w (p ∷ []) in with_worker g s (follows g s w p (MapAnswer.Pair at word)) w (at_pages s w (s.worker w) (p ∷ [])) t.0 t.1 refl refl refl refl refl refl refl
    go (MapAnswer.Gap h) = let t = touched g s i w (p ∷ []) in with_worker g s (follows g s w p (MapAnswer.Gap h)) w (at_pages s w (s.worker w) (p ∷ [])) t.0 t.1 refl refl refl refl refl refl refl
    go (MapAnswer.Value v) = same g s s refl refl refl refl refl refl (omega arith)
    go (MapAnswer.Was v) = same g s s refl refl refl refl refl refl (omega arith)
rises_event g s i (Event.Change w p k v) m =
    let t = touched g s i w (p ∷ []) in let c = t.0 in
    with_worker g s (happens g s (Event.Change w p k v)) w (record (at_pages s w (s.worker w) (p ∷ [])) { clock = suc (at_pages s w (s.worker w) (p ∷ [])).clock; changes = write_entry g Kind.Change s w (at_pages s w (s.worker w) (p ∷ [])) p k v ∷ (s.worker w).changes }) (omega arith) t.1 refl refl refl refl refl refl refl
rises_event g s i (Event.Put_back w p) m = go (s.worker w).changes
  where
    go : (cs : List Entry) → Rises g s (put_back g s w p cs)
    go [] = same g s s refl refl refl refl refl refl (omega arith)
    go (c ∷ cs) =
        let t = touched g s i w (p ∷ []) in let d = t.0 in
        with_worker g s (put_back g s w p (c ∷ cs)) w (record (at_pages s w (s.worker w) (p ∷ [])) { clock = suc (at_pages s w (s.worker w) (p ∷ [])).clock; changes = cs }) (omega arith) t.1 refl refl refl refl refl refl refl
rises_event g s i (Event.Split w l r q j) m = rises_moves g s i Kind.Split w (l ∷ r ∷ q ∷ []) (record_needs.split_record (nodes_of s) (gsns_of s) l r q j)
rises_event g s i (Event.Lift w c) m = rises_moves g s i Kind.Lift w (0 ∷ c ∷ []) (record_needs.lift_record (nodes_of s) (gsns_of s) c)
rises_event g s i (Event.Join w l r q) m = rises_moves g s i Kind.Join w (l ∷ r ∷ q ∷ []) (record_needs.join_record (nodes_of s) (gsns_of s) l r q)
rises_event g s i (Event.Drop w c) m = rises_moves g s i Kind.Drop w (0 ∷ c ∷ []) (record_needs.drop_record (nodes_of s) (gsns_of s) c)
rises_event g s i (Event.Purge w p keys) m = rises_moves g s i Kind.Purge w (p ∷ []) (record_needs.purge_record (gsns_of s) p keys)
rises_event g s i (Event.End w commit f) m = let e = (i.workers w).end in with_worker g s (happens g s (Event.End w commit f)) w (finished (s.worker w) (suc (s.worker w).clock)) (omega arith) (omega arith) refl refl refl refl refl refl refl
rises_event g s i (Event.Flush w n) m =
    let p = and_parts (leb (s.flushed w) n) (Rattle.map_model.specs.Lists.any (λ r. is_record r.kind && ((r.log == w) && (r.number == n))) s.entries) m in
    let up = upd_rises s.flushed w n (leb-true (s.flushed w) n p.0) in record {
      flushed = λ v _ _. up v;
      flushed_by_all = least_mono s.flushed (upd s.flushed w n) g.workers g.some_worker up;
      clocks = λ v. omega arith;
      ends = λ v. omega arith;
      heads = λ v. omega arith;
      floor = omega arith;
      cut = omega arith;
      posted = omega arith;
      epoch = omega arith;
    }
rises_event g s i (Event.Sync n) m =
    let e = eqb-true n (most (λ w. (s.worker w).clock) g.workers) (and_parts (n == most (λ w. (s.worker w).clock) g.workers) (not (is_behind s)) m).0 in record {
      flushed = λ w a b. let c = (i.workers w).flushed in let d = le_most (λ w. (s.worker w).clock) g.workers w (a, b) in omega arith;
      flushed_by_all = le_least (λ _. n) g.workers (flushed_by_all g s) g.some_worker (λ w l. let a = least_le s.flushed g.workers w l in let b = (i.workers w).flushed in let c = le_most (λ w. (s.worker w).clock) g.workers w l in omega arith);
      clocks = λ v. omega arith;
      ends = λ v. omega arith;
      heads = λ v. omega arith;
      floor = (let z = g.some_worker in let a = (i.workers 1).based (omega arith, omega arith) in let b = (i.workers 1).flushed in let c = le_most (λ w. (s.worker w).clock) g.workers 1 (omega arith, omega arith) in omega arith);
      cut = omega arith;
      posted = omega arith;
      epoch = omega arith;
    }
rises_event g s i (Event.Post w n) m = record { flushed = λ w _ _. omega arith; flushed_by_all = omega arith; clocks = λ v. omega arith; ends = λ v. omega arith; heads = λ v. omega arith; floor = omega arith; cut = omega arith; posted = omega arith; epoch = omega arith }
rises_event g s i (Event.Cut x heads) m = record { flushed = λ w _ _. omega arith; flushed_by_all = omega arith; clocks = λ v. omega arith; ends = λ v. omega arith; heads = λ v. omega arith; floor = omega arith; cut = omega arith; posted = omega arith; epoch = omega arith }
rises_event g s i Event.Tick m = same g s (happens g s Event.Tick) refl refl refl refl refl refl (omega arith)
rises_event g s i (Event.Enter w e) m = same g s (happens g s (Event.Enter w e)) refl refl refl refl refl refl (omega arith)
rises_event g s i (Event.Leave w) m = same g s (happens g s (Event.Leave w)) refl refl refl refl refl refl (omega arith)
rises_event g s i (Event.Peek w p k a) m = same g s s refl refl refl refl refl refl (omega arith)
rises_event g s i (Event.Unlock w o) m = same g s (happens g s (Event.Unlock w o)) refl refl refl refl refl refl (omega arith)
rises_event g s i (Event.Fetch p pairs) m = same g s (happens g s (Event.Fetch p pairs)) refl refl refl refl refl refl (omega arith)
rises_event g s i (Event.Load p f) m = same g s (happens g s (Event.Load p f)) refl refl refl refl refl refl (omega arith)
rises_event g s i (Event.Cool p) m = same g s (happens g s (Event.Cool p)) refl refl refl refl refl refl (omega arith)
rises_event g s i (Event.Rescue p) m = same g s (happens g s (Event.Rescue p)) refl refl refl refl refl refl (omega arith)
rises_event g s i (Event.Save p) m = same g s (happens g s (Event.Save p)) refl refl refl refl refl refl (omega arith)
rises_event g s i (Event.Evict p) m = same g s (happens g s (Event.Evict p)) refl refl refl refl refl refl (omega arith)
rises_event g s i (Event.Ask w) m = same g s s refl refl refl refl refl refl (omega arith)
rises_event g s i (Event.Refused w n k) m = same g s s refl refl refl refl refl refl (omega arith)
rises_event g s i (Event.Miss w) m = same g s s refl refl refl refl refl refl (omega arith)

rises_more : (g : Opening) (s t u : State) → Rises g s t → Rises g t u → Rises g s u
rises_more g s t u a b = record {
  flushed = λ w l h. let x = a.flushed w l h in let y = b.flushed w l h in omega arith;
  flushed_by_all = let x = a.flushed_by_all in let y = b.flushed_by_all in omega arith;
  clocks = λ w. let x = a.clocks w in let y = b.clocks w in omega arith;
  ends = λ w. let x = a.ends w in let y = b.ends w in omega arith;
  heads = λ w. let x = a.heads w in let y = b.heads w in omega arith;
  floor = let x = a.floor in let y = b.floor in omega arith;
  cut = let x = a.cut in let y = b.cut in omega arith;
  posted = let x = a.posted in let y = b.posted in omega arith;
  epoch = let x = a.epoch in let y = b.epoch in omega arith;
}

pub rises_run : (g : Opening) (es : List Event) (s : State) → Good g s → Rises g s (run g s es)
rises_run g [] s i = same g s s refl refl refl refl refl refl (omega arith)
rises_run g (e ∷ es) s i = rises_more g s (step g s e) (run g (step g s e) es)
    (step_keeps (Rises g s) g s e (same g s s refl refl refl refl refl refl (omega arith)) (λ m. rises_event g s i.inv e (and_parts (are_hot s (pages_of e)) (needs g s e) m).1))
    (rises_run g es (step g s e) (good_step g s e i))

pub every_rise : EveryRise
every_rise g before after = rises_run g after (run g (start g) before) (good_run g before (start g) (good_start g))
