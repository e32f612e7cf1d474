-- A session's marks are counted, rise, and undo.
use Rattle.std.proofs.Common.{◌≡◌, ◌<◌, ℕ, suc, Bool, true, false, cond, ltb, List, [], ◌∷◌, ◌++◌, map, Option, refl, sym, ap, ap₂, ◌∙◌, subst, inl, inr, arith, true≢false}
use Rattle.std.proofs.lemmas.Bool.{cases_Bool, cases_eq, eq-eqb, ne_eqb, and_parts, cond-true, cond-false}
use Rattle.map_model.specs.Maps.{MapCall, MapAnswer}
use Rattle.page_model.specs.Nodes.{Format}
use Rattle.core_crash.specs.image_model.Entries.{Kind, Entry, is_end}
use Rattle.core_crash.specs.image_model.Histories.{said, write_call}
use Rattle.core_crash.specs.core_state.Openings.{Opening}
use Rattle.core_crash.specs.core_state.States.{State, Worker, start}
use Rattle.core_crash.specs.core_state.Events.{Event}
use Rattle.core_crash.specs.core_state.Local.{is_of}
use Rattle.core_crash.specs.core_state.Needs.{pages_of, are_hot, needs, may}
use Rattle.core_crash.specs.core_state.Steps.{happens, run}
use Rattle.core_crash.proofs.core_commit.Invariants.{Inv}
use Rattle.core_crash.proofs.core_commit.Runs.{Good, good_event, good_start}
use Rattle.core_crash.proofs.core_commit.Says.{said_live, said_dead}
use Rattle.core_calls.specs.Marks.{Mark, Began, Called, Back, Ended, mark, onto, marks}
use Rattle.core_calls.specs.Deeds.{marks_by}
use Rattle.core_calls.specs.Counts.{begun_in, IsAbove, Undo, undo_onto, without_first, undo_in, value_call, UndoesNewest, AreOrdered, EveryOrdered}
use Rattle.core_calls.proofs.EntryLemmas.{entry_mark, listed, IsUndoing, Adds, None_new, One_new, Begin_new, adds}

abbrev pub undo_of : Format → Entry → Undo
undo_of f c = record { key = c.key; value = said f c.before }

-- what is known of w's marks
pub record Counted (f : Format) (s : State) (w : ℕ) (ms : List Mark) : Type 0 where
  pub ordered : AreOrdered ms
  pub begun : (s.worker w).txn ≡ begun_in ms
  pub above : (n : ℕ) → (s.worker w).end < n → IsAbove n ms
  pub undo : (s.worker w).is_open ≡ true → undo_in ms ≡ map (undo_of f) (s.worker w).changes

abbrev one : Opening → State → Event → ℕ → List Mark → List Mark
one g s e w earlier = cond (is_of e w) (onto (mark g s e) earlier) earlier

-- the worker is as it was, but for its clock
pub record Alike (a b : Worker) : Type 0 where
  pub txn : a.txn ≡ b.txn
  pub end : a.end ≡ b.end
  pub opens : a.is_open ≡ true → b.is_open ≡ true
  pub changes : a.changes ≡ b.changes

alike : (f : Format) (s t : State) (w : ℕ) (ms : List Mark) → Alike (t.worker w) (s.worker w) → Counted f s w ms → Counted f t w ms
alike f s t w ms a c = record {
  ordered = c.ordered;
  begun = a.txn ∙ c.begun;
  above = λ n l. c.above n (let q = a.end in omega arith);
  undo = λ o. c.undo (a.opens o) ∙ ap (map (undo_of f)) (sym a.changes);
}

-- a write of a word is a call that puts back its value
write_is : (f : Format) (k word : ℕ) → write_call f k word ≡ value_call k (said f word)
write_is f k word = go (ltb word f.dead) refl
  where
    go : (b : Bool) → ltb word f.dead ≡ b → cond b (MapCall.Put k word) (MapCall.Del k) ≡ value_call k (said f word)
    go true q = ap (value_call k) (sym (said_live f word q))
    go false q = ap (value_call k) (sym (said_dead f word q))

write_undo : (f : Format) (k word : ℕ) (a : Option ℕ) (us : List Undo) → undo_onto (write_call f k word) (MapAnswer.Was a) us ≡ record { key = k; value = a } ∷ us
write_undo f k word a us = go (ltb word f.dead)
  where
    go : (b : Bool) → undo_onto (cond b (MapCall.Put k word) (MapCall.Del k)) (MapAnswer.Was a) us ≡ record { key = k; value = a } ∷ us
    go true = refl
    go false = refl

-- an entry of w
module _ (f : Format) (s t : State) (w : ℕ) (r : Entry) (ms : List Mark) (was : (s.worker w).is_open ≡ true) (txn_s : (t.worker w).txn ≡ (s.worker w).txn) (txn_r : r.txn ≡ (s.worker w).txn) (c : Counted f s w ms) where
  -- that ends nothing
  module _ (stays : (t.worker w).end ≡ (s.worker w).end) where
    calls : (K : Kind) → is_end K ≡ false → (t.worker w).changes ≡ listed K r (s.worker w).changes → IsUndoing K r (s.worker w).changes → Counted f t w (onto (entry_mark f K r) ms)
    calls Kind.Change e l u = record {
      ordered = c.ordered;
      begun = txn_s ∙ c.begun;
      above = λ n z. c.above n (let q = stays in omega arith);
      undo = λ o. write_undo f r.key r.after (said f r.before) (undo_in ms) ∙ (ap (λ (us : List Undo). undo_of f r ∷ us) (c.undo was) ∙ ap (map (undo_of f)) (sym l));
    }
    calls Kind.Put_back e l u = go (s.worker w).changes refl u
      where
        go : (cs : List Entry) → (s.worker w).changes ≡ cs → IsUndoing Kind.Put_back r cs → Counted f t w (Back (write_call f r.key r.after) (MapAnswer.Was (said f r.before)) ∷ ms)
        go [] q v = absurd v
        go (x ∷ cs) q v = record {
          ordered = (c.ordered, subst (UndoesNewest (write_call f r.key r.after)) (sym (c.undo was ∙ ap (map (undo_of f)) q)) (write_is f r.key r.after ∙ ap₂ (λ (k b : ℕ). value_call k (said f b)) v.0 v.1));
          begun = txn_s ∙ c.begun;
          above = λ n z. c.above n (let q = stays in omega arith);
          undo = λ o. ap without_first (c.undo was ∙ ap (map (undo_of f)) q) ∙ ap (map (undo_of f)) (sym (l ∙ ap (listed Kind.Put_back r) q));
        }
    calls Kind.Read e l u = record { ordered = c.ordered; begun = txn_s ∙ c.begun; above = λ n z. c.above n (let q = stays in omega arith); undo = λ o. c.undo was ∙ ap (map (undo_of f)) (sym l) }
    calls Kind.Commit e l u = absurd (true≢false e)
    calls Kind.Abort e l u = absurd (true≢false e)
    calls Kind.Split e l u = record { ordered = c.ordered; begun = txn_s ∙ c.begun; above = λ n z. c.above n (let q = stays in omega arith); undo = λ o. c.undo was ∙ ap (map (undo_of f)) (sym l) }
    calls Kind.Lift e l u = record { ordered = c.ordered; begun = txn_s ∙ c.begun; above = λ n z. c.above n (let q = stays in omega arith); undo = λ o. c.undo was ∙ ap (map (undo_of f)) (sym l) }
    calls Kind.Join e l u = record { ordered = c.ordered; begun = txn_s ∙ c.begun; above = λ n z. c.above n (let q = stays in omega arith); undo = λ o. c.undo was ∙ ap (map (undo_of f)) (sym l) }
    calls Kind.Drop e l u = record { ordered = c.ordered; begun = txn_s ∙ c.begun; above = λ n z. c.above n (let q = stays in omega arith); undo = λ o. c.undo was ∙ ap (map (undo_of f)) (sym l) }
    calls Kind.Purge e l u = record { ordered = c.ordered; begun = txn_s ∙ c.begun; above = λ n z. c.above n (let q = stays in omega arith); undo = λ o. c.undo was ∙ ap (map (undo_of f)) (sym l) }

  -- an end
  module _ (now : (t.worker w).end ≡ r.number) (more : (s.worker w).end < r.number) (closed : (t.worker w).is_open ≡ false) where
    ended : (commit : Bool) → (commit ≡ false → (s.worker w).changes ≡ []) → Counted f t w (Ended commit r.txn r.number ∷ ms)
    ended commit e = record {
      ordered = (c.ordered, txn_r ∙ c.begun, c.above r.number more, λ q. c.undo was ∙ ap (map (undo_of f)) (e q));
      begun = txn_s ∙ c.begun;
      above = λ n z. (let q = now in (c.above n (omega arith), (omega arith)));
      undo = λ o. absurd (true≢false (sym o ∙ closed));
    }

    ends : (K : Kind) → is_end K ≡ true → IsUndoing K r (s.worker w).changes → Counted f t w (onto (entry_mark f K r) ms)
    ends Kind.Commit e u = ended true (λ q. absurd (true≢false q))
    ends Kind.Abort e u = ended false (λ _. u)
    ends Kind.Change e u = absurd (true≢false (sym e))
    ends Kind.Put_back e u = absurd (true≢false (sym e))
    ends Kind.Read e u = absurd (true≢false (sym e))
    ends Kind.Split e u = absurd (true≢false (sym e))
    ends Kind.Lift e u = absurd (true≢false (sym e))
    ends Kind.Join e u = absurd (true≢false (sym e))
    ends Kind.Drop e u = absurd (true≢false (sym e))
    ends Kind.Purge e u = absurd (true≢false (sym e))

counted_event : (g : Opening) (s : State) (e : Event) (w : ℕ) (ms : List Mark) → Inv g s → Adds g s e → Counted g.format s w ms → Counted g.format (happens g s e) w (one g s e w ms)
counted_event g s e w ms inv (None_new q) c = subst (Counted g.format (happens g s e) w) (sym still)
    (alike g.format s (happens g s e) w ms (record { txn = q.txns w; end = q.ends w; opens = λ o. sym (q.opens w) ∙ o; changes = q.changes w }) c)
  where
    still : one g s e w ms ≡ ms
    still = ap (λ (o : Option Mark). cond (is_of e w) (onto o ms) ms) q.mark ∙ go (is_of e w)
      where
        go : (b : Bool) → cond b ms ms ≡ ms
        go true = refl
        go false = refl
counted_event g s e w ms inv (Begin_new q) c = elim (cases_eq w q.worker) [ inl i ↦ own i | inr i ↦ other i ]
  where
    own : w ≡ q.worker → Counted g.format (happens g s e) w (one g s e w ms)
    own i = subst (Counted g.format (happens g s e) w) (sym (cond-true (is_of e w) (onto (mark g s e) ms) ms (q.by w ∙ eq-eqb q.worker w (sym i)) ∙ ap (λ (o : Option Mark). onto o ms) q.mark)) (record {
      ordered = (c.ordered, ap suc (ap (λ (v : ℕ). (s.worker v).txn) (sym i) ∙ c.begun));
      begun = ap (λ (v : ℕ). ((happens g s e).worker v).txn) i ∙ (q.next ∙ ap suc (ap (λ (v : ℕ). (s.worker v).txn) (sym i) ∙ c.begun));
      above = λ n l. c.above n (let a = ap (λ (v : ℕ). ((happens g s e).worker v).end) i in let b = q.end_stays in let d = ap (λ (v : ℕ). (s.worker v).end) i in omega arith);
      undo = λ o. ap (map (undo_of g.format)) (sym (ap (λ (v : ℕ). ((happens g s e).worker v).changes) i ∙ q.fresh));
    })

    other : (w ≡ q.worker → ⊥) → Counted g.format (happens g s e) w (one g s e w ms)
    other i = subst (Counted g.format (happens g s e) w) (sym (cond-false (is_of e w) (onto (mark g s e) ms) ms (q.by w ∙ ne_eqb q.worker w (λ j. i (sym j)))))
        (alike g.format s (happens g s e) w ms (let o = q.others w i in record { txn = ap (λ (a : Worker). a.txn) o; end = ap (λ (a : Worker). a.end) o; opens = λ z. ap (λ (a : Worker). a.is_open) (sym o) ∙ z; changes = ap (λ (a : Worker). a.changes) o }) c)
counted_event g s e w ms inv (One_new q) c = elim (cases_eq w q.worker) [ inl i ↦ own i | inr i ↦ other i ]
  where
    own : w ≡ q.worker → Counted g.format (happens g s e) w (one g s e w ms)
    own i = subst (Counted g.format (happens g s e) w) (sym (cond-true (is_of e w) (onto (mark g s e) ms) ms (q.by w ∙ eq-eqb q.worker w (sym i)) ∙ ap (λ (o : Option Mark). onto o ms) q.mark))
        (elim (cases_Bool (is_end q.entry.kind)) [
          | inl z ↦ ends g.format s (happens g s e) w q.entry ms (at (λ (v : ℕ). (s.worker v).is_open) ∙ q.was_open) (q.txns w) (q.txn ∙ sym (at (λ (v : ℕ). (s.worker v).txn))) c
              (at (λ (v : ℕ). ((happens g s e).worker v).end) ∙ q.end_now z) (let a = (inv.workers w).end in let b = q.above z in let d = at (λ (v : ℕ). (s.worker v).clock) in omega arith) (at (λ (v : ℕ). ((happens g s e).worker v).is_open) ∙ q.closed z)
              q.entry.kind z (subst (IsUndoing q.entry.kind q.entry) (sym (at (λ (v : ℕ). (s.worker v).changes))) q.undoing)
          | inr z ↦ calls g.format s (happens g s e) w q.entry ms (at (λ (v : ℕ). (s.worker v).is_open) ∙ q.was_open) (q.txns w) (q.txn ∙ sym (at (λ (v : ℕ). (s.worker v).txn))) c
              (at (λ (v : ℕ). ((happens g s e).worker v).end) ∙ (q.end_stays z ∙ sym (at (λ (v : ℕ). (s.worker v).end))))
              q.entry.kind z (at (λ (v : ℕ). ((happens g s e).worker v).changes) ∙ (q.changes z ∙ ap (listed q.entry.kind q.entry) (sym (at (λ (v : ℕ). (s.worker v).changes)))))
              (subst (IsUndoing q.entry.kind q.entry) (sym (at (λ (v : ℕ). (s.worker v).changes))) q.undoing)
        ])
      where
        at : {A : Type 0} (h : ℕ → A) → h w ≡ h q.worker
        at h = ap h i

    other : (w ≡ q.worker → ⊥) → Counted g.format (happens g s e) w (one g s e w ms)
    other i = subst (Counted g.format (happens g s e) w) (sym (cond-false (is_of e w) (onto (mark g s e) ms) ms (q.by w ∙ ne_eqb q.worker w (λ j. i (sym j)))))
        (alike g.format s (happens g s e) w ms (let o = q.others w i in record { txn = ap (λ (a : Worker). a.txn) o; end = ap (λ (a : Worker). a.end) o; opens = λ z. ap (λ (a : Worker). a.is_open) (sym o) ∙ z; changes = ap (λ (a : Worker). a.changes) o }) c)

counted_run : (g : Opening) (es : List Event) (s : State) (w : ℕ) (ms : List Mark) → Good g s → Counted g.format s w ms → Counted g.format (run g s es) w (marks g s es w ms)
counted_run g [] s w ms i c = c
counted_run g (e ∷ es) s w ms i c = go (may g s e) refl (λ t ns k j. counted_run g es t w ns k j)
  where
    go : (b : Bool) → may g s e ≡ b → ((t : State) (ns : List Mark) → Good g t → Counted g.format t w ns → Counted g.format (run g t es) w (marks g t es w ns)) →
        Counted g.format (run g (cond b (happens g s e) s) es) w (marks g (cond b (happens g s e) s) es w (cond b (one g s e w ms) ms))
    go true m ih = ih (happens g s e) (one g s e w ms) (good_event g s i e m) (counted_event g s e w ms i.inv (adds g s e (and_parts (are_hot s (pages_of e)) (needs g s e) m).1) c)
    go false m ih = ih s ms i c

pub counted : (g : Opening) (es : List Event) (w : ℕ) → Counted g.format (run g (start g) es) w (marks g (start g) es w [])
counted g es w = counted_run g es (start g) w [] (good_start g) (record { ordered = tt; begun = refl; above = λ n l. tt; undo = λ o. refl })

-- so of those behind
ordered_behind : (a b : List Mark) → AreOrdered (a ++ b) → AreOrdered b
ordered_behind [] b o = o
ordered_behind (Began n ∷ a) b o = ordered_behind a b o.0
ordered_behind (Called c v alone ∷ a) b o = ordered_behind a b o
ordered_behind (Back c v ∷ a) b o = ordered_behind a b o.0
ordered_behind (Ended c n at ∷ a) b o = ordered_behind a b o.0

pub every_ordered : EveryOrdered
every_ordered g es xs a w = ordered_behind (a.rest w) (marks_by w xs) (subst AreOrdered (a.each w) (counted g es w).ordered)
