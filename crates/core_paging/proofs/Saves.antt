-- What is known of saved contents.
use Rattle.map_model.specs.Lists.{upd, all, Has}
use Rattle.map_model.specs.Maps.{MapAnswer}
use Rattle.core_commit.specs.image_model.Entries.{Kind, Entry, Contents, touches}
use Rattle.page_model.specs.Records.{Record}
use Rattle.page_model.specs.Needs as record_needs
use Rattle.core_commit.specs.core_state.Lists.{most}
use Rattle.core_commit.specs.core_state.States.{State, start, flushed_by_all, nodes_of, gsns_of, is_cold}
use Rattle.core_commit.specs.core_state.Openings.{Opening}
use Rattle.core_commit.specs.core_state.Events.{Event}
use Rattle.core_commit.specs.core_state.Needs.{is_held_by, is_settled, may_put, may_put_back, may_split, may_lift, may_join, may_drop, may_purge, is_behind, is_ripe_up_to, is_saved_up_to, needs}
use Rattle.core_commit.specs.core_state.Steps.{at_pages, page_entry, write_entry, moves, put_back, follows, happens, step, run, HasBeen, with_pairs}
use Rattle.page_model.specs.Redo.{all_keys}
use Rattle.core_commit.proofs.Lists.{le_least, least_le}
use Rattle.map_model.proofs.ListLemmas.{upd_same, upd_other}
use Rattle.core_commit.proofs.History.{number_le_gsn, touch_ref}
use Rattle.core_commit.proofs.Invariants.{Inv, stamp_flushed}
use Rattle.core_commit.proofs.Events.{touched_all}
use Rattle.core_commit.proofs.Controls.{least_mono, upd_rises, le_most}
use Rattle.core_commit.proofs.Copies.{at_place}
use Rattle.core_commit.proofs.Runs.{Good, step_keeps}
use Rattle.core_paging.proofs.Places.{all_has}
use Rattle.std.proofs.Common.{◌≡◌, ◌≤◌, ◌<◌, ℕ, suc, max, true, false, ◌&&◌, ◌||◌, not, leb, ltb, ◌==◌, List, [], ◌∷◌, ◌⊎◌, length, refl, sym, ap, ◌∙◌, subst, inl, inr, arith, true≢false}
use Rattle.std.proofs.lemmas.Bool.{cases_eq, cases_lt, eqb-true, and_parts, or_cases, leb-true, le-leb, not-true}
pub use Rattle.core_paging.specs.Kept.{Saves}

-- a change of the page has a number up to the page's
had : (g : Opening) (s : State) → Inv g s → (p : ℕ) (r : Entry) → Has r s.entries → touches p r ≡ true → r.number ≤ (s.page p).gsn
had g s i p r h t = let a = number_le_gsn g (flushed_by_all g s) p s.entries i.records r h t in let e = (i.stamps p).0 in omega arith

-- a record that comes has a number above the cut
above_cut : (g : Opening) (s : State) → Inv g s → (w : ℕ) (ps : List ℕ) → (s.worker w).is_open ≡ true → s.cut < suc (at_pages s w (s.worker w) ps).clock
above_cut g s i w ps op =
    let t = touched_all s w (flushed_by_all g s) (s.worker w) ps (stamp_flushed g s i) (i.workers w).floor (i.workers w).debt in
    let a = t.0 in let b = (i.workers w).based ((i.workers w).is_log op) in let c = (i.workers w).flushed in let d = i.cuts.low in omega arith

saves_more : (g : Opening) (s : State) → Saves g s → (x : Entry) → s.cut < x.number → (p : ℕ) (r : Entry) → Has r (x ∷ s.entries) → touches p r ≡ true → r.number ≤ s.cut → r.number ≤ (s.saved p).gsn
saves_more g s k x n p r (inl e) t l = let q = ap (λ (z : Entry). z.number) e in absurd (omega arith)
saves_more g s k x n p r (inr h) t l = k.held p r h t l

-- an entry that touches no page
saves_quiet : (g : Opening) (s : State) → Saves g s → (x : Entry) → ((p : ℕ) → touches p x ≡ false) → (p : ℕ) (r : Entry) → Has r (x ∷ s.entries) → touches p r ≡ true → r.number ≤ s.cut → r.number ≤ (s.saved p).gsn
saves_quiet g s k x n p r (inl e) t l = absurd (true≢false (sym t ∙ (ap (touches p) e ∙ n p)))
saves_quiet g s k x n p r (inr h) t l = k.held p r h t l

-- ## The least flushed number does not fall

flush_rises : (g : Opening) (s : State) (w n : ℕ) → needs g s (Event.Flush w n) ≡ true → flushed_by_all g s ≤ flushed_by_all g (happens g s (Event.Flush w n))
flush_rises g s w n m =
    let p = and_parts (leb (s.flushed w) n) (Rattle.map_model.specs.Lists.any (λ r. Rattle.core_commit.specs.image_model.Entries.is_record r.kind && ((r.log == w) && (r.number == n))) s.entries) m in
    least_mono s.flushed (upd s.flushed w n) g.workers g.some_worker (upd_rises s.flushed w n (leb-true (s.flushed w) n p.0))

sync_rises : (g : Opening) (s : State) → Inv g s → (n : ℕ) → needs g s (Event.Sync n) ≡ true → flushed_by_all g s ≤ flushed_by_all g (happens g s (Event.Sync n))
sync_rises g s i n m =
    let e = eqb-true n (most (λ w. (s.worker w).clock) g.workers) (and_parts (n == most (λ w. (s.worker w).clock) g.workers) (not (is_behind s)) m).0 in
    le_least (λ _. n) g.workers (flushed_by_all g s) g.some_worker (λ w l. let a = least_le s.flushed g.workers w l in let b = (i.workers w).flushed in let c = le_most (λ w. (s.worker w).clock) g.workers w l in omega arith)

-- ## Every event

saves_cut : (g : Opening) (s : State) → Saves g s → (x : ℕ) (heads : ℕ → ℕ) → needs g s (Event.Cut x heads) ≡ true → (p : ℕ) (r : Entry) → Has r s.entries → touches p r ≡ true → r.number ≤ max s.cut x → r.number ≤ (s.saved p).gsn
saves_cut g s k x heads m p r h t l = elim (cases_lt x r.number) [
  | inl lt ↦ k.held p r h t (omega arith)
  | inr le ↦ (let a = all_has (λ r. not (leb r.number x) || all (λ f. leb r.number (s.saved f.page).gsn) r.refs) s.entries m2.1 r h in
      elim (or_cases (not (leb r.number x)) (all (λ f. leb r.number (s.saved f.page).gsn) r.refs) a) [
        | inl n ↦ absurd (true≢false (sym (le-leb r.number x le) ∙ not-true (leb r.number x) n))
        | inr b ↦ (let f = touch_ref p r t in
            subst (λ (j : ℕ). r.number ≤ (s.saved j).gsn) f.2 (leb-true r.number (s.saved f.0.page).gsn (all_has (λ f. leb r.number (s.saved f.page).gsn) r.refs b f.0 f.1)))
      ])
]
  where
    m2 : (is_ripe_up_to g s x ≡ true) × (is_saved_up_to s x ≡ true)
    m2 = and_parts (is_ripe_up_to g s x) (is_saved_up_to s x) (and_parts (leb x (flushed_by_all g s)) (is_ripe_up_to g s x && is_saved_up_to s x) m).1

saves_moves : (g : Opening) (s : State) → Good g s → Saves g s → (K : Kind) (w : ℕ) (ps : List ℕ) (y : Record) → (s.worker w).is_open ≡ true → Saves g (moves s K w ps y)
saves_moves g s i k K w ps y op = record { numbers = k.numbers; held = saves_more g s k (page_entry K s w (at_pages s w (s.worker w) ps) ps y) (above_cut g s i.inv w ps op) }

pub saves_event : (g : Opening) (s : State) → Good g s → Saves g s → (e : Event) → needs g s e ≡ true → Saves g (happens g s e)
saves_event g s i k (Event.Read w p j a) m = record { numbers = k.numbers; held = λ q r h t l. elim h [ inl e ↦ absurd (true≢false (sym t ∙ ap (touches q) e)) | inr h ↦ k.held q r h t l ] }
saves_event g s i k (Event.Next w p j a) m = go a
  where
    go : (a : MapAnswer) → Saves g (follows g s w p a)
    go (MapAnswer.Pair at word) = record { numbers = k.numbers; held = λ q r h t l. elim h [ inl e ↦ absurd (true≢false (sym t ∙ ap (touches q) e)) | inr h ↦ k.held q r h t l ] }
    go (MapAnswer.Gap b) = record { numbers = k.numbers; held = k.held }
    go (MapAnswer.Value v) = k
    go (MapAnswer.Was v) = k
saves_event g s i k (Event.Change w p j v) m = record {
  numbers = k.numbers;
  held = saves_more g s k (write_entry g Kind.Change s w (at_pages s w (s.worker w) (p ∷ [])) p j v) (above_cut g s i.inv w (p ∷ []) op);
}
  where
    op : (s.worker w).is_open ≡ true
    op = (and_parts (s.worker w).is_open (is_held_by (s.row (g.row_of j)).holder w && may_put g (s.page p).node p j v) (and_parts (ltb (length (s.worker w).changes) g.changes) ((s.worker w).is_open && (is_held_by (s.row (g.row_of j)).holder w && may_put g (s.page p).node p j v)) m).1).0
saves_event g s i k (Event.Put_back w p) m = go (s.worker w).changes
  where
    op : (s.worker w).is_open ≡ true
    op = (and_parts (s.worker w).is_open (may_put_back g (s.page p).node p (s.worker w).changes) m).0

    go : (cs : List Entry) → Saves g (put_back g s w p cs)
    go [] = k
    go (c ∷ cs) = record { numbers = k.numbers; held = saves_more g s k (write_entry g Kind.Put_back s w (at_pages s w (s.worker w) (p ∷ [])) p c.key c.before) (above_cut g s i.inv w (p ∷ []) op) }
saves_event g s i k (Event.Split w l r q j) m = saves_moves g s i k Kind.Split w (l ∷ r ∷ q ∷ []) (record_needs.split_record (nodes_of s) (gsns_of s) l r q j) (and_parts (s.worker w).is_open (may_split g (nodes_of s) l r q j) m).0
saves_event g s i k (Event.Lift w c) m = saves_moves g s i k Kind.Lift w (0 ∷ c ∷ []) (record_needs.lift_record (nodes_of s) (gsns_of s) c) (and_parts (s.worker w).is_open (may_lift g (nodes_of s) c) m).0
saves_event g s i k (Event.Join w l r q) m = saves_moves g s i k Kind.Join w (l ∷ r ∷ q ∷ []) (record_needs.join_record (nodes_of s) (gsns_of s) l r q) (and_parts (s.worker w).is_open (may_join g (nodes_of s) l r q) m).0
saves_event g s i k (Event.Drop w c) m = saves_moves g s i k Kind.Drop w (0 ∷ c ∷ []) (record_needs.drop_record (nodes_of s) (gsns_of s) c) (and_parts (s.worker w).is_open (may_drop (nodes_of s) c) m).0
saves_event g s i k (Event.Purge w p keys) m = saves_moves g s i k Kind.Purge w (p ∷ []) (record_needs.purge_record (gsns_of s) p keys) (and_parts (s.worker w).is_open (may_purge g (nodes_of s) p keys && all_keys (λ k. is_settled g s k) keys) m).0
saves_event g s i k (Event.End w commit f) m = record { numbers = k.numbers; held = λ q r h t l. elim h [ inl e ↦ absurd (true≢false (sym t ∙ ap (touches q) e)) | inr h ↦ k.held q r h t l ] }
saves_event g s i k (Event.Flush w n) m = record { numbers = λ p. let a = k.numbers p in let b = flush_rises g s w n m in omega arith; held = k.held }
saves_event g s i k (Event.Sync n) m = record { numbers = λ p. let a = k.numbers p in let b = sync_rises g s i.inv n m in omega arith; held = k.held }
saves_event g s i k (Event.Fetch p pairs) m = record {
  numbers = λ c. at_place (λ _ v. v.gsn ≤ flushed_by_all g s) s.saved p (with_pairs pairs (s.saved p)) c (λ _. k.numbers p) (λ _. k.numbers c);
  held = λ c r h t l. at_place (λ j v. touches j r ≡ true → r.number ≤ v.gsn) s.saved p (with_pairs pairs (s.saved p)) c (λ e t. k.held p r h (ap (λ (j : ℕ). touches j r) (sym e) ∙ t) l) (λ _ t. k.held c r h t l) t;
}
saves_event g s i k (Event.Save p) m = record {
  numbers = λ c. at_place (λ j v. v.gsn ≤ flushed_by_all g s) s.saved p (s.page p) c (λ _. leb-true (s.page p).gsn (flushed_by_all g s) (and_parts (not (is_cold (s.place p))) (leb (s.page p).gsn (flushed_by_all g s)) m).1) (λ _. k.numbers c);
  held = λ c r h t l. at_place (λ j v. touches j r ≡ true → r.number ≤ v.gsn) s.saved p (s.page p) c (λ e t. had g s i.inv p r h (ap (λ (j : ℕ). touches j r) (sym e) ∙ t)) (λ _ t. k.held c r h t l) t;
}
saves_event g s i k (Event.Cut x heads) m = record { numbers = k.numbers; held = saves_cut g s k x heads m }
saves_event g s i k _ m = record { numbers = k.numbers; held = k.held }

pub saves_start : (g : Opening) → Saves g (start g)
saves_start g = record {
  numbers = λ p. let a = g.low p in le_least (λ _. g.base) g.workers (g.gsn p) g.some_worker (λ w l. omega arith);
  held = λ p r h. absurd h;
}

-- ## What is saved has been there

-- what is saved of the page is as it was, what the page was, or what it is
abbrev IsKept : State → State → ℕ → Type 0
IsKept s t p = (t.saved p ≡ s.saved p) ⊎ (t.saved p ≡ s.page p) ⊎ (t.saved p ≡ t.page p)

saved_event : (g : Opening) (s : State) (e : Event) (p : ℕ) → IsKept s (happens g s e) p
saved_event g s (Event.Save q) p = elim (cases_eq p q) [
  | inl e ↦ inr (inl (upd_same s.saved q (s.page q) p e ∙ ap s.page (sym e)))
  | inr n ↦ inl (upd_other s.saved q (s.page q) p n)
]
saved_event g s (Event.Fetch q pairs) p = elim (cases_eq p q) [
  | inl e ↦ inr (inr (upd_same s.saved q (with_pairs pairs (s.saved q)) p e ∙ sym (upd_same s.page q (with_pairs pairs (s.saved q)) p e)))
  | inr n ↦ inl (upd_other s.saved q (with_pairs pairs (s.saved q)) p n)
]
saved_event g s (Event.Next w q j a) p = go a
  where
    go : (a : MapAnswer) → IsKept s (follows g s w q a) p
    go (MapAnswer.Pair at word) = inl refl
    go (MapAnswer.Gap b) = inl refl
    go (MapAnswer.Value v) = inl refl
    go (MapAnswer.Was v) = inl refl
saved_event g s (Event.Put_back w q) p = go (s.worker w).changes
  where
    go : (cs : List Entry) → IsKept s (put_back g s w q cs) p
    go [] = inl refl
    go (c ∷ cs) = inl refl
saved_event g s _ p = inl refl

saved_step : (g : Opening) (s : State) (e : Event) (p : ℕ) → IsKept s (step g s e) p
saved_step g s e p = step_keeps (λ t. IsKept s t p) g s e (inl refl) (λ _. saved_event g s e p)

pub now_been : (g : Opening) (es : List Event) (s : State) (p : ℕ) (v : Contents) → v ≡ s.page p → HasBeen g s es p v
now_been g [] s p v e = e
now_been g (x ∷ es) s p v e = inl e

pub saved_run : (g : Opening) (es : List Event) (s : State) (p : ℕ) → ((run g s es).saved p ≡ s.saved p) ⊎ HasBeen g s es p ((run g s es).saved p)
saved_run g [] s p = inl refl
saved_run g (e ∷ es) s p = elim (saved_run g es (step g s e) p) [
  | inr h ↦ inr (inr h)
  | inl h ↦ elim (saved_step g s e p) [
    | inl q ↦ inl (h ∙ q)
    | inr (inl q) ↦ inr (inl (h ∙ q))
    | inr (inr q) ↦ inr (inr (now_been g es (step g s e) p ((run g (step g s e) es).saved p) (h ∙ q)))
  ]
]
