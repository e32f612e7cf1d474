-- No number of a disk that a run leaves is far above those on entry.
use Rattle.std.proofs.Common.{◌≡◌, ◌⊎◌, inl, inr, ⊎_elim, ◌≤◌, ◌<◌, ◌+◌, ◌++◌, ℕ, suc, List, [], ◌∷◌, length, refl, sym, ◌∙◌, ap, subst, arith}
use Rattle.map_model.proofs.ListLemmas.{order_has}
use Rattle.map_model.specs.Lists.{Has}
use Rattle.buffered_engine.specs.image_model.Entries.{Entry, earlier}
use Rattle.buffered_engine.specs.image_model.Images.{Image, bases, found, gathered, page_or, sorted}
use Rattle.lean_disk.specs.Story.{Crash, Story, areas_of}
use Rattle.buffered_engine.specs.disk_slots.declared.master.Master.{Master}
use Rattle.buffered_engine.specs.disk_image.Laws.{Agree}
use Rattle.buffered_engine.specs.disk_image.Shown.{image_by}
use Rattle.buffered_engine.specs.recovery.Crashes.{ShowsRecovered, ShowsStill}
use Rattle.buffered_engine.specs.recovery.Masters.{IsSameOrNext}
use Rattle.buffered_engine.specs.recovery.Opened.{IsGreatest}
use Rattle.buffered_engine.specs.core_state.Events.{Event}
use Rattle.buffered_engine.specs.core_calls.Fronts.{Done, front}
use Rattle.buffered_engine.proofs.core_disk.HeldLemmas.{gathered_same}
use Rattle.buffered_engine.specs.run_crashes.Lines.{Between, FellIn, InCall, Stopped, next_of}
use Rattle.lean_shell.specs.Crashes.{IsNear}
use Rattle.lean_shell.proofs.Runs.BeginLemmas.{one_greatest}
use Rattle.lean_shell.proofs.Runs.PrintedLemmas.{next_behind, next_is}

-- the greatest number of an image is no greater than one that its floor, records and pages are not above
pub greatest_most : (i : Image) (high top : ℕ) → IsGreatest i high → i.floor ≤ top → ((r : Entry) → Has r (found i) → r.number ≤ top) → ((p : ℕ) → p < i.format.pages → (bases i p).gsn ≤ top) → high ≤ top
greatest_most i high top h floor records pages = go h.met
  where
    go : (high ≡ i.floor) ⊎ (((r : Entry) × Has r (sorted i) × (high ≡ r.number)) ⊎ ((p : ℕ) × (p < i.format.pages) × (high ≡ (bases i p).gsn))) → high ≤ top
    go (inl e) = omega (arith, e, floor)
    go (inr (inl q)) = let e = q.2 in let a = records q.0 (order_has earlier (found i) q.0 q.1) in omega arith
    go (inr (inr q)) = let e = q.2 in let a = pages q.0 q.1 in omega arith

-- ## Before a call is answered

-- images that agree have the same records
same_found : (i j : Image) → Agree i j → found j ≡ found i
same_found i j a = ap (gathered j.log) (sym a.logs) ∙ sym (gathered_same i.log j.log i.logs a.log)

agreed : (i j : Image) (low high : ℕ) → Agree i j → IsGreatest i low → IsGreatest j high → high ≤ low
agreed i j low high a l h = greatest_most j high low h
    (let e = a.floor in let f = l.floor in omega arith)
    (λ r has. l.records r (Rattle.map_model.proofs.ListLemmas.has_order earlier (found i) r (subst (Has r) (same_found i j a) has)))
    (λ p within. let inside : p < i.format.pages = (let e = ap (λ f. f.pages) a.format in omega arith) in let e = ap (λ o. (page_or o).gsn) (a.base p inside) in let b = l.stored p inside in omega arith)

module _ (m : Master) (s : Story) (d : Crash) (n : Master) (same : IsSameOrNext m n) where
  recovered : (low high : ℕ) → ShowsRecovered m (areas_of s) n d.image → IsGreatest (image_by m (areas_of s)) low → IsGreatest (image_by n d.image) high → high ≤ low
  recovered low high x l h =
      let base : x.is.base ≡ low = one_greatest (image_by m (areas_of s)) x.is.base low x.is.greatest l in
      let floor : n.floor ≡ x.is.base = ap (λ (k : Master). k.floor) x.is.is in
      let pages : n.pages ≡ m.pages = ap (λ (k : Master). k.pages) x.is.is in
      greatest_most (image_by n d.image) high low h (omega (arith, floor, base))
      (λ r has. absurd (subst (Has r) x.none has))
      (λ p within. let e = ap (λ o. (page_or o).gsn) (x.base p within) in let b = l.recovered p (omega (arith, within, pages)) in omega arith)

  pub near_still : ShowsStill m (areas_of s) n d.image → IsNear m s n d.image
  near_still shows = record {
    sequence = ⊎_elim (λ (e : n ≡ m). let q = ap (λ (k : Master). k.sequence) e in omega arith) (λ (e : (n.sequence ≡ suc m.sequence) × (n.generation ≡ suc m.generation)). let q = e.0 in omega arith) same.numbers;
    greatest = λ low high l h. let q : high ≤ low = go shows low high l h in omega arith;
  }
    where
      go : ShowsStill m (areas_of s) n d.image → (low high : ℕ) → IsGreatest (image_by m (areas_of s)) low → IsGreatest (image_by n d.image) high → high ≤ low
      go (inl x) low high l h = agreed (image_by m (areas_of s)) (image_by n d.image) low high x.1 l h
      go (inr x) low high l h = recovered low high x l h

-- ## Events

-- of what is counted event by event
module _ (count : List Event → ℕ) (more : (xs ys : List Event) → count (xs ++ ys) ≡ count xs + count ys) (few : (xs : List Event) → count xs ≤ length xs) where
  -- the first calls have no more than all
  front_few : (later first xs : List Done) → later ++ first ≡ xs → count (front first) ≤ count (front xs)
  front_few [] first xs e = let q = ap (λ (ys : List Done). count (front ys)) e in omega arith
  front_few (x ∷ later) first xs e =
      let q = ap (λ (ys : List Done). count (front ys)) e in
      let a = more (front (later ++ first)) x.events in
      let b = front_few later first (later ++ first) refl in
      omega arith

  -- and where a crash fell there are few more
  pub fell_few : (Such : List Event → Type 0) (most own : ℕ) (unheard heard xs : List Done) → unheard ++ heard ≡ xs → count (front xs) ≤ most → ((es : List Event) → Such es → length es ≤ own)
      → (behind : List Event) → FellIn Such (next_of unheard) behind → count (front heard ++ behind) ≤ most + own
  fell_few Such most own unheard heard xs are all short behind fell = go fell
    where
      parts : count (front heard ++ behind) ≡ count (front heard) + count behind
      parts = more (front heard) behind

      go : FellIn Such (next_of unheard) behind → count (front heard ++ behind) ≤ most + own
      go (Between e) =
          let a = front_few unheard heard xs are in let b = ap (λ (es : List Event). length es) e in let c = few behind in let d = parts in
          omega (arith, a, b, c, d, all)
      go (InCall y e after is) =
          let n = next_is unheard y e in
          let a = front_few n.0 (y ∷ heard) xs (next_behind unheard heard xs y are n) in
          let b = more (front heard) y.events in
          let c = ap count is in
          let d = more behind after in
          let h = parts in
          omega (arith, a, b, c, d, h, all)
      go (Stopped such) =
          let a = front_few unheard heard xs are in let b = short behind such in let c = few behind in let d = parts in
          omega (arith, a, b, c, d, all)
