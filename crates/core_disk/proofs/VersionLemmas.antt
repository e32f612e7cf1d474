-- A version of a page stays one: what is entered has a number above what is flushed everywhere, and so above each cut.
use Rattle.std.proofs.Common.{◌≡◌, ◌⊎◌, inl, inr, ⊎_elim, ◌≤◌, ◌<◌, ℕ, suc, true, false, cond, ◌&&◌, ltb, List, [], ◌∷◌, ◌++◌, length, refl, sym, ap, ◌∙◌, subst, arith, true≢false}
use Rattle.std.proofs.lemmas.Bool.{and_parts, cases_lt}
use Rattle.map_model.specs.Lists.{Has}
use Rattle.map_model.specs.Maps.{MapAnswer}
use Rattle.core_crash.specs.image_model.Entries.{Kind, Entry, Contents, touches, word_in}
use Rattle.page_model.specs.Records.{Record}
use Rattle.page_model.specs.Needs as record_needs
use Rattle.page_model.specs.Redo.{all_keys}
use Rattle.core_crash.specs.core_state.Openings.{Opening}
use Rattle.core_crash.specs.core_state.States.{State, start, flushed_by_all, nodes_of, gsns_of}
use Rattle.core_crash.specs.core_state.Events.{Event}
use Rattle.core_crash.specs.core_state.Needs.{are_hot, is_held_by, is_settled, may_put, may_put_back, may_split, may_lift, may_join, may_drop, may_purge, needs, pages_of}
use Rattle.core_crash.specs.core_state.Steps.{at_pages, page_entry, write_entry, moves, put_back, follows, happens, step, run, HasBeen, state_after, read_entry, end_entry}
use Rattle.core_crash.proofs.core_state.Runs.{run_more}
use Rattle.core_crash.specs.core_commit.Rises.{EveryRise, Rises}
use Rattle.core_crash.proofs.core_commit.Lists.{le_least, least_le}
use Rattle.core_crash.proofs.core_commit.History.{IsRecorded, gsn_rises, number_le_gsn, page_at}
use Rattle.core_crash.proofs.core_commit.Invariants.{Inv, stamp_flushed}
use Rattle.core_crash.proofs.core_commit.Events.{touched_all}
use Rattle.core_crash.proofs.core_commit.Runs.{Good, good_run, good_start, good_step, step_keeps}
use Rattle.core_crash.specs.core_paging.Paging.{EverySaved}
use Rattle.core_disk.specs.Held.{IsVersion}
use Rattle.core_disk.specs.Versions.{EveryVersion, HasUpTo, VersionLaws, is_cut, then}

-- ## One event more

pub state_then : (g : Opening) (es : List Event) (e : Event) → state_after g (then es e) ≡ step g (state_after g es) e
state_then g es e = run_more g (start g) es (e ∷ [])

pub been_then : (g : Opening) (s : State) (es : List Event) (e : Event) (p : ℕ) (v : Contents) → HasBeen g s es p v → HasBeen g s (es ++ e ∷ []) p v
been_then g s [] e p v b = inl b
been_then g s (x ∷ es) e p v (inl b) = inl b
been_then g s (x ∷ es) e p v (inr b) = inr (been_then g (step g s x) es e p v b)

been_now : (g : Opening) (s : State) (es : List Event) (p : ℕ) → HasBeen g s es p ((run g s es).page p)
been_now g s [] p = refl
been_now g s (x ∷ es) p = inr (been_now g (step g s x) es p)

pub good : (g : Opening) (es : List Event) → Good g (state_after g es)
good g es = good_run g es (start g) (good_start g)

-- ## What is entered

-- the number of a record that comes is above what is flushed everywhere
above : (g : Opening) (s : State) → Inv g s → (w : ℕ) (ps : List ℕ) → (s.worker w).is_open ≡ true → flushed_by_all g s < suc (at_pages s w (s.worker w) ps).clock
above g s i w ps op =
    let t = touched_all s w (flushed_by_all g s) (s.worker w) ps (stamp_flushed g s i) (i.workers w).floor (i.workers w).debt in
    let a = t.0 in let c = (i.workers w).flushed in let d = least_le s.flushed g.workers w ((i.workers w).is_log op) in omega arith

-- entries come, and those of page p have a number above x
abbrev Adds : ℕ → ℕ → List Entry → List Entry → Type 0
Adds p x old new = (r : Entry) → Has r new → touches p r ≡ true → Has r old ⊎ (x < r.number)

adds_none : (p x : ℕ) (h : List Entry) → Adds p x h h
adds_none p x h r i t = inl i

adds_high : (p x : ℕ) (h : List Entry) (y : Entry) → x < y.number → Adds p x h (y ∷ h)
adds_high p x h y l r (inl e) t = inr (let q = ap (λ (z : Entry). z.number) e in omega arith)
adds_high p x h y l r (inr i) t = inl i

adds_quiet : (p x : ℕ) (h : List Entry) (y : Entry) → touches p y ≡ false → Adds p x h (y ∷ h)
adds_quiet p x h y n r (inl e) t = absurd (true≢false (sym t ∙ (ap (touches p) e ∙ n)))
adds_quiet p x h y n r (inr i) t = inl i

module _ (g : Opening) (s : State) (i : Inv g s) (p : ℕ) where
  abbrev F : ℕ
  F = flushed_by_all g s

  adds_moves : (K : Kind) (w : ℕ) (ps : List ℕ) (y : Record) → (s.worker w).is_open ≡ true → Adds p F s.entries (moves s K w ps y).entries
  adds_moves K w ps y op = adds_high p F s.entries (page_entry K s w (at_pages s w (s.worker w) ps) ps y) (above g s i w ps op)

  adds_event : (e : Event) → needs g s e ≡ true → Adds p F s.entries (happens g s e).entries
  adds_event (Event.Read w q j a) m = λ r h t. ⊎_elim (λ e. absurd (true≢false (sym t ∙ ap (touches p) e))) inl h
  adds_event (Event.Next w q j a) m = go a
    where
      go : (a : MapAnswer) → Adds p F s.entries (follows g s w q a).entries
      go (MapAnswer.Pair at word) = λ r h t. ⊎_elim (λ e. absurd (true≢false (sym t ∙ ap (touches p) e))) inl h
      go (MapAnswer.Gap b) = adds_none p F s.entries
      go (MapAnswer.Value v) = adds_none p F s.entries
      go (MapAnswer.Was v) = adds_none p F s.entries
  adds_event (Event.Change w q j v) m = adds_high p F s.entries (write_entry g Kind.Change s w (at_pages s w (s.worker w) (q ∷ [])) q j v) (above g s i w (q ∷ [])
      (and_parts (s.worker w).is_open (is_held_by (s.row (g.row_of j)).holder w && may_put g (s.page q).node q j v) (and_parts (ltb (length (s.worker w).changes) g.changes) ((s.worker w).is_open && (is_held_by (s.row (g.row_of j)).holder w && may_put g (s.page q).node q j v)) m).1).0)
  adds_event (Event.Put_back w q) m = go (s.worker w).changes
    where
      op : (s.worker w).is_open ≡ true
      op = (and_parts (s.worker w).is_open (may_put_back g (s.page q).node q (s.worker w).changes) m).0

      go : (cs : List Entry) → Adds p F s.entries (put_back g s w q cs).entries
      go [] = adds_none p F s.entries
      go (c ∷ cs) = adds_high p F s.entries (write_entry g Kind.Put_back s w (at_pages s w (s.worker w) (q ∷ [])) q c.key c.before) (above g s i w (q ∷ []) op)
  adds_event (Event.Split w l r q j) m = adds_moves Kind.Split w (l ∷ r ∷ q ∷ []) (record_needs.split_record (nodes_of s) (gsns_of s) l r q j) (and_parts (s.worker w).is_open (may_split g (nodes_of s) l r q j) m).0
  adds_event (Event.Lift w c) m = adds_moves Kind.Lift w (0 ∷ c ∷ []) (record_needs.lift_record (nodes_of s) (gsns_of s) c) (and_parts (s.worker w).is_open (may_lift g (nodes_of s) c) m).0
  adds_event (Event.Join w l r q) m = adds_moves Kind.Join w (l ∷ r ∷ q ∷ []) (record_needs.join_record (nodes_of s) (gsns_of s) l r q) (and_parts (s.worker w).is_open (may_join g (nodes_of s) l r q) m).0
  adds_event (Event.Drop w c) m = adds_moves Kind.Drop w (0 ∷ c ∷ []) (record_needs.drop_record (nodes_of s) (gsns_of s) c) (and_parts (s.worker w).is_open (may_drop (nodes_of s) c) m).0
  adds_event (Event.Purge w q keys) m = adds_moves Kind.Purge w (q ∷ []) (record_needs.purge_record (gsns_of s) q keys) (and_parts (s.worker w).is_open (may_purge g (nodes_of s) q keys && all_keys (λ k. is_settled g s k) keys) m).0
  adds_event (Event.End w commit f) m = λ r h t. ⊎_elim (λ e. absurd (true≢false (sym t ∙ ap (touches p) e))) inl h
  adds_event _ m = adds_none p F s.entries

  adds_step : (e : Event) → Adds p F s.entries (step g s e).entries
  adds_step e = step_keeps (λ t. Adds p F s.entries t.entries) g s e (adds_none p F s.entries) (λ m. adds_event e (and_parts (are_hot s (pages_of e)) (needs g s e) m).1)

-- the cut's number stands, whatever happens but a cut
cut_event : (g : Opening) (s : State) (e : Event) → is_cut e ≡ false → (happens g s e).cut ≡ s.cut
cut_event g s (Event.Cut x heads) n = absurd (true≢false n)
cut_event g s (Event.Next w q j a) n = go a
  where
    go : (a : MapAnswer) → (follows g s w q a).cut ≡ s.cut
    go (MapAnswer.Pair at word) = refl
    go (MapAnswer.Gap b) = refl
    go (MapAnswer.Value v) = refl
    go (MapAnswer.Was v) = refl
cut_event g s (Event.Put_back w q) n = go (s.worker w).changes
  where
    go : (cs : List Entry) → (put_back g s w q cs).cut ≡ s.cut
    go [] = refl
    go (c ∷ cs) = refl
cut_event g s _ n = refl

cut_step : (g : Opening) (s : State) (e : Event) → is_cut e ≡ false → (step g s e).cut ≡ s.cut
cut_step g s e n = step_keeps (λ t. t.cut ≡ s.cut) g s e refl (λ m. cut_event g s e n)

-- ## A page's number never falls

-- nothing is entered, or one entry
abbrev pub OneMore : List Entry → List Entry → Type 0
OneMore old new = (new ≡ old) ⊎ ((r : Entry) × (new ≡ r ∷ old))

more_event : (g : Opening) (s : State) (e : Event) → OneMore s.entries (happens g s e).entries
more_event g s (Event.Read w q j a) = inr (read_entry w (at_pages s w (s.worker w) (q ∷ [])) j (word_in g.format (s.page q).node j) (is_held_by (s.row (g.row_of j)).holder w), refl)
more_event g s (Event.Next w q j a) = go a
  where
    go : (a : MapAnswer) → OneMore s.entries (follows g s w q a).entries
    go (MapAnswer.Pair at word) = inr (read_entry w (at_pages s w (s.worker w) (q ∷ [])) at (word_in g.format (s.page q).node at) (is_held_by (s.row (g.row_of at)).holder w), refl)
    go (MapAnswer.Gap b) = inl refl
    go (MapAnswer.Value v) = inl refl
    go (MapAnswer.Was v) = inl refl
more_event g s (Event.Change w q j v) = inr (write_entry g Kind.Change s w (at_pages s w (s.worker w) (q ∷ [])) q j v, refl)
more_event g s (Event.Put_back w q) = go (s.worker w).changes
  where
    go : (cs : List Entry) → OneMore s.entries (put_back g s w q cs).entries
    go [] = inl refl
    go (c ∷ cs) = inr (write_entry g Kind.Put_back s w (at_pages s w (s.worker w) (q ∷ [])) q c.key c.before, refl)
more_event g s (Event.Split w l r q j) = let ps : List ℕ = l ∷ r ∷ q ∷ [] in inr (page_entry Kind.Split s w (at_pages s w (s.worker w) ps) ps (record_needs.split_record (nodes_of s) (gsns_of s) l r q j), refl)
more_event g s (Event.Lift w c) = let ps : List ℕ = 0 ∷ c ∷ [] in inr (page_entry Kind.Lift s w (at_pages s w (s.worker w) ps) ps (record_needs.lift_record (nodes_of s) (gsns_of s) c), refl)
more_event g s (Event.Join w l r q) = let ps : List ℕ = l ∷ r ∷ q ∷ [] in inr (page_entry Kind.Join s w (at_pages s w (s.worker w) ps) ps (record_needs.join_record (nodes_of s) (gsns_of s) l r q), refl)
more_event g s (Event.Drop w c) = let ps : List ℕ = 0 ∷ c ∷ [] in inr (page_entry Kind.Drop s w (at_pages s w (s.worker w) ps) ps (record_needs.drop_record (nodes_of s) (gsns_of s) c), refl)
more_event g s (Event.Purge w q keys) = let ps : List ℕ = q ∷ [] in inr (page_entry Kind.Purge s w (at_pages s w (s.worker w) ps) ps (record_needs.purge_record (gsns_of s) q keys), refl)
more_event g s (Event.End w commit f) = inr (end_entry (cond commit Kind.Commit Kind.Abort) w (s.worker w) f, refl)
more_event g s _ = inl refl

pub more_step : (g : Opening) (s : State) (e : Event) → OneMore s.entries (step g s e).entries
more_step g s e = step_keeps (λ t. OneMore s.entries t.entries) g s e (inl refl) (λ m. more_event g s e)

gsn_step : (g : Opening) (s : State) (e : Event) (p : ℕ) → Good g s → (s.page p).gsn ≤ ((step g s e).page p).gsn
gsn_step g s e p i =
    let k : Good g (step g s e) = good_step g s e i in
    let was = (i.inv.stamps p).0 in
    let is = (k.inv.stamps p).0 in
    ⊎_elim
    (λ (same : (step g s e).entries ≡ s.entries). let h = ap (λ (l : List Entry). (page_at g l p).gsn) same in omega arith)
    (λ (q : (r : Entry) × ((step g s e).entries ≡ r ∷ s.entries)).
    let F = flushed_by_all g (step g s e) in
    let h : IsRecorded g F (q.0 ∷ s.entries) = subst (IsRecorded g F) q.1 k.inv.records in
    let up = gsn_rises g F p q.0 s.entries h.0 in
    let e2 = ap (λ (l : List Entry). (page_at g l p).gsn) q.1 in omega arith)
    (more_step g s e)

gsn_run : (g : Opening) (es : List Event) (s : State) (p : ℕ) → Good g s → (s.page p).gsn ≤ ((run g s es).page p).gsn
gsn_run g [] s p i = omega arith
gsn_run g (e ∷ es) s p i = let a = gsn_step g s e p i in let b = gsn_run g es (step g s e) p (good_step g s e i) in omega arith

been_low : (g : Opening) (es : List Event) (s : State) (p : ℕ) (v : Contents) → Good g s → HasBeen g s es p v → v.gsn ≤ ((run g s es).page p).gsn
been_low g [] s p v i b = let e = ap (λ (x : Contents). x.gsn) b in omega arith
been_low g (x ∷ es) s p v i (inl b) = let e = ap (λ (x : Contents). x.gsn) b in let r = gsn_run g (x ∷ es) s p i in omega arith
been_low g (x ∷ es) s p v i (inr b) = been_low g es (step g s x) p v (good_step g s x i) b

module _ (rises : EveryRise) (saves : EverySaved) (g : Opening) (es : List Event) (p : ℕ) where
  abbrev s : State
  s = state_after g es

  inv : Inv g s
  inv = (good g es).inv

  cut_low : s.cut ≤ flushed_by_all g s
  cut_low = le_least s.flushed g.workers s.cut g.some_worker (λ w l. let b = (inv.workers w).based l in let d = inv.cuts.low in omega arith)

  step_rises : (e : Event) → Rises g s (step g s e)
  step_rises e = rises g es (e ∷ [])

  -- the version of a state after one event more
  grown : (e : Event) (v : Contents) → IsVersion g es p v → ((r : Entry) → Has r (step g s e).entries → touches p r ≡ true → r.number ≤ (step g s e).cut → r.number ≤ v.gsn) → IsVersion g (then es e) p v
  grown e v i c = record {
    been = been_then g (start g) es e p v i.been;
    number = subst (λ (t : State). v.gsn ≤ flushed_by_all g t) (sym (state_then g es e)) (let a = i.number in let b = (step_rises e).flushed_by_all in omega arith);
    changes = subst (λ (t : State). (r : Entry) → Has r t.entries → touches p r ≡ true → r.number ≤ t.cut → r.number ≤ v.gsn) (sym (state_then g es e)) c;
  }

  more : (e : Event) (v : Contents) → is_cut e ≡ false → IsVersion g es p v → IsVersion g (then es e) p v
  more e v n i = grown e v i (λ r h t l. let same = cut_step g s e n in ⊎_elim
      (λ (old : Has r s.entries). i.changes r old t (omega arith))
      (λ (new : flushed_by_all g s < r.number). absurd (let low = cut_low in omega arith))
      (adds_step g s inv p e r h t))

  -- a cut
  module _ (x : ℕ) (heads : ℕ → ℕ) (v : Contents) (up : HasUpTo g es p x v) (i : IsVersion g es p v) where
    abbrev Has_all : State → Type 0
    Has_all t = (r : Entry) → Has r t.entries → touches p r ≡ true → r.number ≤ t.cut → r.number ≤ v.gsn

    cut : IsVersion g (then es (Event.Cut x heads)) p v
    cut = grown (Event.Cut x heads) v i (step_keeps Has_all g s (Event.Cut x heads) i.changes
        (λ m r h t l. ⊎_elim (λ (lt : s.cut < r.number). up r h t (omega arith)) (λ (le : r.number ≤ s.cut). i.changes r h t le) (cases_lt s.cut r.number)))

  covered : (e : Event) (x : ℕ) (v : Contents) → x ≤ flushed_by_all g s → HasUpTo g es p x v → HasUpTo g (then es e) p x v
  covered e x v low up = subst (λ (t : State). (r : Entry) → Has r t.entries → touches p r ≡ true → r.number ≤ x → r.number ≤ v.gsn) (sym (state_then g es e))
      (λ r h t l. ⊎_elim
      (λ (old : Has r s.entries). up r old t l)
      (λ (new : flushed_by_all g s < r.number). absurd (omega arith))
      (adds_step g s inv p e r h t))

  laws : VersionLaws g es p
  laws = record {
    saved = record { been = (saves g es).pages p; number = (saves g es).numbers p; changes = (saves g es).changes p };
    now = λ l. record {
      been = been_now g (start g) es p;
      number = l;
      changes = λ r h t c. let a = number_le_gsn g (flushed_by_all g s) p s.entries inv.records r h t in let e = (inv.stamps p).0 in omega arith;
    };
    known = λ v b. been_low g es (start g) p v (good_start g) b;
    more = more;
    cut = cut;
    covered = covered;
  }

pub every_version : EveryRise → EverySaved → EveryVersion
every_version rises saves g es p = laws rises saves g es p
