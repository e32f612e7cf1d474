-- Records before the heads of their logs change nothing.
use Rattle.page_model.specs.Tree as page_tree
use Rattle.std.proofs.Common.{◌≡◌, ℕ, ◌≤◌, max, Bool, true, false, cond, ◌&&◌, ◌||◌, not, leb, ◌==◌, List, [], ◌∷◌, ◌⊎◌, None, refl, sym, ap, ap₂, ◌∙◌, subst, inl, inr, arith, true≢false}
use Rattle.std.proofs.lemmas.Bool.{cases_Bool, cases_eq, and_parts, or_cases, or_left, or_right, and_from, leb-true, le-leb, and_left, and_right, cond-true, cond-false, false_from_ne_true, not_from_true, not_from_false}
use Rattle.map_model.specs.Lists.{upd, keep, Has}
use Rattle.rfa_model.specs.Reaches.{least}
use Rattle.core_paging.specs.image_model.Entries.{earlier, Entry, is_write, is_end, is_commit, is_record, touches, same_txn, Contents}
use Rattle.core_paging.specs.image_model.Undo.{is_lost, undo_one, undo, values}
use Rattle.core_paging.specs.image_model.Redo.{passes, Redone, redo_one, redo}
use Rattle.core_crash.proofs.Words.{Tested, tested, found, is_cut, there, recovered, Done, committed, done_earlier, journal, after, wins, kept, IsClosed, Stands}
use Rattle.map_model.specs.Lists.{in_order}
use Rattle.core_paging.specs.image_model.Ends.{greatest, reach, ends, ended}
use Rattle.core_paging.proofs.core_commit.KindFacts.{end_is_record, write_is_no_end}
use Rattle.page_model.specs.Nodes.{Node}
use Rattle.page_model.specs.Tree.{IsTree}
use Rattle.core_paging.specs.core_state.Openings.{Opening, first}
use Rattle.core_paging.proofs.core_commit.Lists.{has_before, before_has, each_at, le_least}
use Rattle.map_model.proofs.ListLemmas.{any_has, has_any, keep_has, has_keep, order_has}
use Rattle.core_paging.proofs.core_commit.History.{EndOf, SameTxn, same_to, Recorded, IsRecorded, IsHistory, records_of, nodes}
use Rattle.core_crash.proofs.Ends.{Cut, is_ended, ended_from, behind_end, one_end}
use Rattle.core_crash.proofs.Redo.{CountsAre, counts_are, entry_left, Had, Placed, placed_before, redo_passes, redoes, virtual, virtual_parted, redone, redone_found, redone_lost, at_prev_no, redo_stays, counts_here, counts_else}
use Rattle.core_crash.proofs.Undo.{redo_sorted, tested_sorted, tested_done, stands_local, redo_local, redo_off, undo_keep_found, undo_keep_lost, recovered_unsorted}
use Rattle.core_crash.proofs.Journal.{stood, won, commit_is_end}
use Rattle.core_crash.proofs.Kept.{kept_map, closed, ripe}
use mathlib.Core.Path.{fun_ext}

-- ## Lists

keep_on : (f : Entry → Bool) (r : Entry) (h : List Entry) → f r ≡ true → keep f (r ∷ h) ≡ r ∷ keep f h
keep_on f r h e = cond-true (f r) (r ∷ keep f h) (keep f h) e

keep_off : (f : Entry → Bool) (r : Entry) (h : List Entry) → f r ≡ false → keep f (r ∷ h) ≡ keep f h
keep_off f r h e = cond-false (f r) (r ∷ keep f h) (keep f h) e

pub keep_same : {A : Type 0} (p q : A → Bool) (l : List A) → ((x : A) → Has x l → p x ≡ q x) → keep p l ≡ keep q l
keep_same p q [] h = refl
keep_same {A} p q (x ∷ l) h = ap₂ (λ (b : Bool) (t : List A). cond b (x ∷ t) t) (h x (inl refl)) (keep_same p q l (λ y i. h y (inr i)))

pub same_bool : (a b : Bool) → (a ≡ true → b ≡ true) → (b ≡ true → a ≡ true) → a ≡ b
same_bool true b f g = sym (f refl)
same_bool false true f g = g refl
same_bool false false f g = refl

-- ## What is known of the records that are cut

pub record CutOff (g : Opening) (floor R : ℕ) (up_to head : ℕ → ℕ) (snap : ℕ → Contents) (all : List Entry) : Type 0 where
  pub low : (r : Entry) → Has r all → is_cut head r ≡ true → r.number ≤ floor
  pub pages : (r : Entry) → Has r all → is_cut head r ≡ true → (p : ℕ) → touches p r ≡ true → r.number ≤ (snap p).gsn
  pub ended : (r : Entry) → Has r all → is_record r.kind ≡ true → is_cut head r ≡ true → is_ended R up_to all r ≡ true

-- ## The reach stays

greatest_cut : (floor w : ℕ) (up_to head : ℕ → ℕ) (h : List Entry) → ((r : Entry) → Has r h → is_cut head r ≡ true → r.number ≤ floor) → max floor (greatest w (keep (there head up_to) h)) ≡ max floor (greatest w (keep (found up_to) h))
greatest_cut floor w up_to head [] low = refl
greatest_cut floor w up_to head (r ∷ h) low = go (greatest_cut floor w up_to head h (λ y i. low y (inr i))) (cases_Bool (found up_to r)) (cases_Bool (is_cut head r))
  where
    A : List Entry → ℕ
    A z = max floor (greatest w z)

    go : A (keep (there head up_to) h) ≡ A (keep (found up_to) h) → (found up_to r ≡ true) ⊎ (found up_to r ≡ false) → (is_cut head r ≡ true) ⊎ (is_cut head r ≡ false) → A (keep (there head up_to) (r ∷ h)) ≡ A (keep (found up_to) (r ∷ h))
    go ih (inr f) c = ap A (keep_off (there head up_to) r h (and_left (found up_to r) (not (is_cut head r)) f)) ∙ (ih ∙ sym (ap A (keep_off (found up_to) r h f)))
    go ih (inl f) (inr c) =
        ap A (keep_on (there head up_to) r h (and_from (found up_to r) (not (is_cut head r)) f (not_from_false (is_cut head r) c)))
        ∙ (both (r.log == w) ∙ sym (ap A (keep_on (found up_to) r h f)))
      where
        both : (b : Bool) → max floor (cond b (max r.number (greatest w (keep (there head up_to) h))) (greatest w (keep (there head up_to) h))) ≡ max floor (cond b (max r.number (greatest w (keep (found up_to) h))) (greatest w (keep (found up_to) h)))
        both true = let i : max floor (greatest w (keep (there head up_to) h)) ≡ max floor (greatest w (keep (found up_to) h)) = ih in omega arith
        both false = ih
    go ih (inl f) (inl c) =
        ap A (keep_off (there head up_to) r h (and_right (found up_to r) (not (is_cut head r)) (not_from_true (is_cut head r) c)))
        ∙ (ih ∙ (sym (same (r.log == w)) ∙ sym (ap A (keep_on (found up_to) r h f))))
      where
        same : (b : Bool) → max floor (cond b (max r.number (greatest w (keep (found up_to) h))) (greatest w (keep (found up_to) h))) ≡ A (keep (found up_to) h)
        same true = let l = low r (inl refl) c in omega arith
        same false = refl

reach_cut : (g : Opening) (floor : ℕ) (up_to head : ℕ → ℕ) (h : List Entry) → ((r : Entry) → Has r h → is_cut head r ≡ true → r.number ≤ floor) → reach g.workers floor (keep (there head up_to) h) ≡ reach g.workers floor (keep (found up_to) h)
reach_cut g floor up_to head h low = ap (λ (f : ℕ → ℕ). least f g.workers) (fun_ext (λ w. greatest_cut floor w up_to head h low))

-- ## Redo stays

module _ (g : Opening) (F R : ℕ) (up_to head : ℕ → ℕ) (snap : ℕ → Contents) (low : (p : ℕ) → (snap p).gsn ≤ R) where
  IsSame : List Entry → Type 0
  IsSame h = ((p : ℕ) → (redo snap (keep (there head up_to) h)).page p ≡ (redone up_to snap h).page p)
      × ((k l : ℕ) → ((r : Entry) → Has r h → is_cut head r ≡ true → is_record r.kind ≡ true → r.log ≡ k → r.number ≡ l → ⊥) → (redo snap (keep (there head up_to) h)).counts k l ≡ (redone up_to snap h).counts k l)

  pub redo_cut : (h : List Entry) → IsRecorded g F h → ((y : Entry) → Has y h → is_record y.kind ≡ true → y.number ≤ R → found up_to y ≡ true) → Placed g snap h →
      ((r : Entry) → Has r h → is_cut head r ≡ true → (p : ℕ) → touches p r ≡ true → r.number ≤ (snap p).gsn) →
      ((p : ℕ) → (redo snap (keep (there head up_to) h)).page p ≡ (redone up_to snap h).page p)
      × ((k l : ℕ) → ((r : Entry) → Has r h → is_cut head r ≡ true → is_record r.kind ≡ true → r.log ≡ k → r.number ≡ l → ⊥) → (redo snap (keep (there head up_to) h)).counts k l ≡ (redone up_to snap h).counts k l)
  redo_cut [] hist a pl pg = (λ p. refl, λ k l n. refl)
  redo_cut (r ∷ h) hist a pl pg = go (redo_cut h hist.1 (λ y i. a y (inr i)) (placed_before g F snap r h hist.0 pl) (λ y i. pg y (inr i))) (cases_Bool (found up_to r)) (cases_Bool (is_cut head r))
    where
      d : Redone
      d = redone up_to snap h

      d' : Redone
      d' = redo snap (keep (there head up_to) h)

      Same : List Entry → Type 0
      Same h = ((p : ℕ) → (redo snap (keep (there head up_to) h)).page p ≡ (redone up_to snap h).page p)
          × ((k l : ℕ) → ((r : Entry) → Has r h → is_cut head r ≡ true → is_record r.kind ≡ true → r.log ≡ k → r.number ≡ l → ⊥) → (redo snap (keep (there head up_to) h)).counts k l ≡ (redone up_to snap h).counts k l)

      on' : there head up_to r ≡ true → redo snap (keep (there head up_to) (r ∷ h)) ≡ redo_one d' r
      on' e = ap (redo snap) (keep_on (there head up_to) r h e)

      off' : there head up_to r ≡ false → redo snap (keep (there head up_to) (r ∷ h)) ≡ d'
      off' e = ap (redo snap) (keep_off (there head up_to) r h e)

      go : Same h → (found up_to r ≡ true) ⊎ (found up_to r ≡ false) → (is_cut head r ≡ true) ⊎ (is_cut head r ≡ false) → Same (r ∷ h)
      go ih (inr f) c =
          let q = off' (and_left (found up_to r) (not (is_cut head r)) f) in (
            λ p. ap (λ (x : Redone). x.page p) q ∙ (ih.0 p ∙ sym (ap (λ (x : Redone). x.page p) (redone_lost up_to snap r h f))),
            λ k l n. ap (λ (x : Redone). x.counts k l) q ∙ (ih.1 k l (λ y i. n y (inr i)) ∙ sym (ap (λ (x : Redone). x.counts k l) (redone_lost up_to snap r h f))),
          )
      go ih (inl f) (inr c) =
          let q = on' (and_from (found up_to r) (not (is_cut head r)) f (not_from_false (is_cut head r) c)) in (
            λ p. ap (λ (x : Redone). x.page p) q ∙ (redo_local d' d r p (λ u _. ih.0 u) (ih.0 p) ∙ sym (ap (λ (x : Redone). x.page p) (redone_found up_to snap r h f))),
            λ k l n. ap (λ (x : Redone). x.counts k l) q ∙ (both k l (λ y i. n y (inr i)) ∙ sym (ap (λ (x : Redone). x.counts k l) (redone_found up_to snap r h f))),
          )
        where
          both : (k l : ℕ) → ((r : Entry) → Has r h → is_cut head r ≡ true → is_record r.kind ≡ true → r.log ≡ k → r.number ≡ l → ⊥) → (redo_one d' r).counts k l ≡ (redo_one d r).counts k l
          both k l n = elim (at k l) [
            | inl e ↦ rw (e.0, e.1) (counts_here d' r ∙ (stands_local d'.page d.page r (λ u _. ih.0 u) ∙ sym (counts_here d r)))
            | inr e ↦ counts_else d' r k l e ∙ (ih.1 k l n ∙ sym (counts_else d r k l e))
          ]
            where
              at : (k l : ℕ) → ((k ≡ r.log) × (l ≡ r.number)) ⊎ (k ≡ r.log → l ≡ r.number → ⊥)
              at k l = elim (cases_eq k r.log) [ inl a ↦ elim (cases_eq l r.number) [ inl b ↦ inl (a, b) | inr b ↦ inr (λ _ q. b q) ] | inr a ↦ inr (λ q _. a q) ]
      go ih (inl f) (inl c) =
          let q = off' (and_right (found up_to r) (not (is_cut head r)) (not_from_true (is_cut head r) c)) in (
            λ p. ap (λ (x : Redone). x.page p) q ∙ (ih.0 p ∙ (sym (stay p (cases_Bool (touches p r))) ∙ sym (ap (λ (x : Redone). x.page p) (redone_found up_to snap r h f)))),
            λ k l n. ap (λ (x : Redone). x.counts k l) q ∙ (ih.1 k l (λ y i. n y (inr i)) ∙ (sym (counts_else d r k l (λ a b. n r (inl refl) c (and_parts (is_record r.kind) (leb r.number (up_to r.log)) f).0 (sym a) (sym b))) ∙ sym (ap (λ (x : Redone). x.counts k l) (redone_found up_to snap r h f)))),
          )
        where
          stay : (p : ℕ) → (touches p r ≡ true) ⊎ (touches p r ≡ false) → (redo_one d r).page p ≡ d.page p
          stay p (inr o) = redo_off d r p o
          stay p (inl o) = redo_stays d r p (at_prev_no g F r h p (d.page p) hist.0 (λ e.
              let n = pg r (inl refl) c p o in
              let up = hist.0.rises p o in
              let s = ap (λ (v : Contents). v.gsn) ((redoes g F R up_to snap low h hist.1 (λ y i. a y (inr i)) (placed_before g F snap r h hist.0 pl) p).1 (omega arith)) in
              omega arith))

-- ## The whole

module _ (g : Opening) (F floor R : ℕ) (up_to head : ℕ → ℕ) (all : List Entry) (snap : ℕ → Contents) (is_R : R ≡ reach g.workers floor (keep (found up_to) all)) (c : Cut g F R up_to all) (lowF : (p : ℕ) → (snap p).gsn ≤ F) (had : (p : ℕ) → Had g all p (snap p)) (co : CutOff g floor R up_to head snap all) where
  z' : List Entry
  z' = keep (there head up_to) all

  -- an end of a record that is not cut is not cut
  end_stays : (r : Entry) → Has r all → is_end r.kind ≡ false → is_cut head r ≡ false → (e : Entry) → Has e all → is_end e.kind ≡ true → SameTxn e r → is_cut head e ≡ false
  end_stays r ir kr cr e ie ke s = false_from_ne_true (is_cut head e) (λ ce.
      let pr = has_before r all ir in
      let pe = has_before e all ie in
      let q = behind_end g F all c.records e pe.0 pe.1 ke r pr.0 pr.1 kr s in
      let lt = (each_at (Recorded g F) all e pe.0 c.records pe.1).later (end_is_record e.kind ke) r (before_has r pr.0 pe.0 q) (sym s.0) in
      let le = leb-true e.number (head e.log) ce in
      let le2 : e.number ≤ head r.log = subst (λ (l : ℕ). e.number ≤ head l) s.0 le in
      true≢false (sym (le-leb r.number (head r.log) (omega arith)) ∙ cr))

  ended_stays : (r : Entry) → Has r all → is_end r.kind ≡ false → is_cut head r ≡ false → ended R (keep (there head up_to) all) r ≡ is_ended R up_to all r
  ended_stays r ir kr cr = same_bool (ended R (keep (there head up_to) all) r) (is_ended R up_to all r)
      (λ h.
      let a = any_has (ends R r) (keep (there head up_to) all) h in
      let k = keep_has (there head up_to) all a.0 a.1 in
      has_any (ends R r) (keep (found up_to) all) a.0 (has_keep (found up_to) all a.0 k.0 (and_parts (found up_to a.0) (not (is_cut head a.0)) k.1).0) a.2)
      (λ h.
      let a = any_has (ends R r) (keep (found up_to) all) h in
      let k = keep_has (found up_to) all a.0 a.1 in
      let p = and_parts (is_end a.0.kind) (same_txn a.0 r && leb a.0.need R) a.2 in
      let s = same_to a.0 r (and_parts (same_txn a.0 r) (leb a.0.need R) p.1).0 in
      has_any (ends R r) (keep (there head up_to) all) a.0 (has_keep (there head up_to) all a.0 k.0 (and_from (found up_to a.0) (not (is_cut head a.0)) k.1 (not_from_false (is_cut head a.0) (end_stays r ir kr cr a.0 k.0 p.0 s)))) a.2)

  -- the lost
  lost_of : List Entry → Redone → Entry → Bool
  lost_of z d r = is_write r.kind && (d.counts r.log r.number && not (ended R z r))

  undo_cut : (d d' : Redone) → ((r : Entry) → Has r all → is_record r.kind ≡ true → is_cut head r ≡ false → d'.counts r.log r.number ≡ d.counts r.log r.number) →
      (h : List Entry) → ((r : Entry) → Has r h → Has r all) → (m : ℕ → ℕ) →
      undo (λ r. is_write r.kind && (d'.counts r.log r.number && not (ended R (keep (there head up_to) all) r))) (keep (there head up_to) h) m ≡ undo (λ r. is_write r.kind && (d.counts r.log r.number && not (is_ended R up_to all r))) (keep (found up_to) h) m
  undo_cut d d' dc [] sub m = refl
  undo_cut d d' dc (r ∷ h) sub m = go (undo_cut d d' dc h (λ y i. sub y (inr i))) (cases_Bool (found up_to r)) (cases_Bool (is_cut head r))
    where
      lost : Entry → Bool
      lost r = is_write r.kind && (d.counts r.log r.number && not (is_ended R up_to all r))

      lost' : Entry → Bool
      lost' r = is_write r.kind && (d'.counts r.log r.number && not (ended R (keep (there head up_to) all) r))

      go : ((m : ℕ → ℕ) → undo lost' (keep (there head up_to) h) m ≡ undo lost (keep (found up_to) h) m) → (found up_to r ≡ true) ⊎ (found up_to r ≡ false) → (is_cut head r ≡ true) ⊎ (is_cut head r ≡ false) → undo lost' (keep (there head up_to) (r ∷ h)) m ≡ undo lost (keep (found up_to) (r ∷ h)) m
      go ih (inr f) x = undo_keep_lost lost' (there head up_to) r h m (and_left (found up_to r) (not (is_cut head r)) f) ∙ (ih m ∙ sym (undo_keep_lost lost (found up_to) r h m f))
      go ih (inl f) (inr x) =
          undo_keep_found lost' (there head up_to) r h m (and_from (found up_to r) (not (is_cut head r)) f (not_from_false (is_cut head r) x))
          ∙ (ih (undo_one lost' m r) ∙ (ap (λ (b : Bool). undo lost (keep (found up_to) h) (cond b (upd m r.key r.before) m)) (same (cases_Bool (is_write r.kind))) ∙ sym (undo_keep_found lost (found up_to) r h m f)))
        where
          same : (is_write r.kind ≡ true) ⊎ (is_write r.kind ≡ false) → lost' r ≡ lost r
          same (inl w) = ap₂ (λ (a b : Bool). is_write r.kind && (a && not b)) (dc r (sub r (inl refl)) (and_parts (is_record r.kind) (leb r.number (up_to r.log)) f).0 x) (ended_stays r (sub r (inl refl)) (write_is_no_end r.kind w) x)
          same (inr w) = and_left (is_write r.kind) (d'.counts r.log r.number && not (ended R (keep (there head up_to) all) r)) w ∙ sym (and_left (is_write r.kind) (d.counts r.log r.number && not (is_ended R up_to all r)) w)
      go ih (inl f) (inl x) =
          undo_keep_lost lost' (there head up_to) r h m (and_right (found up_to r) (not (is_cut head r)) (not_from_true (is_cut head r) x))
          ∙ (ih m ∙ sym (undo_keep_found lost (found up_to) r h m f ∙ ap (undo lost (keep (found up_to) h)) (cond-false (lost r) (upd m r.key r.before) m none)))
        where
          none : lost r ≡ false
          none = and_right (is_write r.kind) (d.counts r.log r.number && not (is_ended R up_to all r)) (and_right (d.counts r.log r.number) (not (is_ended R up_to all r)) (not_from_true (is_ended R up_to all r) (co.ended r (sub r (inl refl)) (and_parts (is_record r.kind) (leb r.number (up_to r.log)) f).0 x)))

  low_R : (p : ℕ) → (snap p).gsn ≤ R
  low_R p = let a = lowF p in let b = c.far in omega arith

  -- two records of one number in one log are one
  unique : (a b : Entry) → Has a all → Has b all → is_record a.kind ≡ true → is_record b.kind ≡ true → a.log ≡ b.log → a.number ≡ b.number → is_cut head a ≡ is_cut head b
  unique a b ia ib ka kb l n = ap₂ (λ (i j : ℕ). leb i (head j)) n l

  reach_same : reach g.workers floor (keep (there head up_to) all) ≡ R
  reach_same = reach_cut g floor up_to head all co.low ∙ sym is_R

  pub map_cut : (k : ℕ) → recovered g floor snap (keep (there head up_to) all) k ≡ recovered g floor snap (keep (found up_to) all) k
  map_cut k =
      recovered_unsorted g F floor (there head up_to) all snap c.records k
      ∙ (ap (λ (i : ℕ). undo (λ r. is_write r.kind && (d'.counts r.log r.number && not (ended i (keep (there head up_to) all) r))) (keep (there head up_to) all) (values g.format d') k) reach_same
      ∙ (ap (λ (m : ℕ → ℕ). m k) (undo_cut d d' dc all (λ r i. i) (values g.format d'))
      ∙ (ap (λ (m : ℕ → ℕ). undo (λ r. is_write r.kind && (d.counts r.log r.number && not (is_ended R up_to all r))) (keep (found up_to) all) m k) vals
      ∙ (ap (λ (i : ℕ). undo (λ r. is_write r.kind && (d.counts r.log r.number && not (ended i (keep (found up_to) all) r))) (keep (found up_to) all) (values g.format d) k) is_R
      ∙ sym (recovered_unsorted g F floor (found up_to) all snap c.records k)))))
    where
      d : Redone
      d = redo snap (keep (found up_to) all)

      d' : Redone
      d' = redo snap (keep (there head up_to) all)

      rc : ((p : ℕ) → d'.page p ≡ d.page p) × ((k l : ℕ) → ((r : Entry) → Has r all → is_cut head r ≡ true → is_record r.kind ≡ true → r.log ≡ k → r.number ≡ l → ⊥) → d'.counts k l ≡ d.counts k l)
      rc = redo_cut g F R up_to head snap low_R all c.records c.all (λ p. inl (had p)) co.pages

      dc : (r : Entry) → Has r all → is_record r.kind ≡ true → is_cut head r ≡ false → d'.counts r.log r.number ≡ d.counts r.log r.number
      dc r ir kr x = rc.1 r.log r.number (λ y iy cy ky l n. true≢false (sym cy ∙ (unique y r iy ir ky kr l n ∙ x)))

      vals : values g.format d' ≡ values g.format d
      vals = ap (λ (pg : ℕ → Contents). values g.format (record { page = pg; counts = d.counts })) (fun_ext rc.0)

  -- ## The kept

  floor_R : floor ≤ R
  floor_R = rw is_R (le_least (λ w. max floor (greatest w (keep (found up_to) all))) g.workers floor g.some_worker (λ i l. omega arith))

  kept_same : kept g floor (keep (there head up_to) all) (journal all) ≡ keep (wins R (keep (found up_to) all)) (journal all)
  kept_same = keep_same (λ t. leb t.end.number floor || wins (reach g.workers floor (keep (there head up_to) all)) (keep (there head up_to) all) t) (wins R (keep (found up_to) all)) (journal all) (λ t i. ap (λ (r : ℕ). leb t.end.number floor || wins r (keep (there head up_to) all) t) reach_same ∙ same t i)
    where
      same : (t : Done) → Has t (journal all) → (leb t.end.number floor || wins R (keep (there head up_to) all) t) ≡ wins R (keep (found up_to) all) t
      same t i = same_bool (leb t.end.number floor || wins R (keep (there head up_to) all) t) (wins R (keep (found up_to) all) t) there_to to_there
        where
          test : Entry → Bool
          test e = is_commit e.kind && (same_txn e t.end && leb e.need R)

          st : Rattle.core_crash.proofs.Journal.Stood t all
          st = stood t all (order_has done_earlier (committed all) t i)

          ia : Has t.end all
          ia = before_has t.end st.behind all st.place

          ke : is_end t.end.kind ≡ true
          ke = commit_is_end t.end.kind st.commit

          there_to : (leb t.end.number floor || wins R (keep (there head up_to) all) t) ≡ true → wins R (keep (found up_to) all) t ≡ true
          there_to h = elim (or_cases (leb t.end.number floor) (wins R (keep (there head up_to) all) t) h) [
            | inl l ↦ (let n = leb-true t.end.number floor l in let fl = floor_R in let nd = ((each_at (Recorded g F) all t.end st.behind c.records st.place).closes ke).need in
                won g F R up_to all c t ia st.commit ∙ ended_from R up_to all t.end t.end ia ke (refl, refl) (c.all t.end ia (end_is_record t.end.kind ke) (omega arith)) (omega arith))
            | inr w ↦ (let a = any_has test (keep (there head up_to) all) w in let k = keep_has (there head up_to) all a.0 a.1 in
                has_any test (keep (found up_to) all) a.0 (has_keep (found up_to) all a.0 k.0 (and_parts (found up_to a.0) (not (is_cut head a.0)) k.1).0) a.2)
          ]

          to_there : wins R (keep (found up_to) all) t ≡ true → (leb t.end.number floor || wins R (keep (there head up_to) all) t) ≡ true
          to_there w = elim (cases_Bool (is_cut head t.end)) [
            | inl x ↦ or_left (leb t.end.number floor) (wins R (keep (there head up_to) all) t) (le-leb t.end.number floor (co.low t.end ia x))
            | inr x ↦ (let a = any_has test (keep (found up_to) all) w in let k = keep_has (found up_to) all a.0 a.1 in
                let p = and_parts (is_commit a.0.kind) (same_txn a.0 t.end && leb a.0.need R) a.2 in
                let e = one_end g F all c.records a.0 t.end k.0 ia (commit_is_end a.0.kind p.0) ke (same_to a.0 t.end (and_parts (same_txn a.0 t.end) (leb a.0.need R) p.1).0) in
                or_right (leb t.end.number floor) (wins R (keep (there head up_to) all) t) (has_any test (keep (there head up_to) all) a.0 (has_keep (there head up_to) all a.0 k.0 (and_from (found up_to a.0) (not (is_cut head a.0)) k.1 (not_from_false (is_cut head a.0) (ap (is_cut head) e ∙ x)))) a.2))
          ]

  -- each record that counts could be done
  tests : (h : List Entry) → IsHistory g F h → ((y : Entry) → Has y h → is_record y.kind ≡ true → y.number ≤ R → found up_to y ≡ true) → Placed g snap h → ((r : Entry) → Has r h → is_cut head r ≡ true → (p : ℕ) → touches p r ≡ true → r.number ≤ (snap p).gsn) →
      (tested g.format snap (keep (there head up_to) h)).sound ≡ true
  tests [] hist a pl pg = refl
  tests (r ∷ h) hist a pl pg = go (tests h hist.1 (λ y i. a y (inr i)) (placed_before g F snap r h hist.0.recorded pl) (λ y i. pg y (inr i))) (cases_Bool (there head up_to r))
    where
      go : (tested g.format snap (keep (there head up_to) h)).sound ≡ true → (there head up_to r ≡ true) ⊎ (there head up_to r ≡ false) → (tested g.format snap (keep (there head up_to) (r ∷ h))).sound ≡ true
      go ih (inr e) = ap (λ (z : List Entry). (tested g.format snap z).sound) (keep_off (there head up_to) r h e) ∙ ih
      go ih (inl e) =
          let f = (and_parts (found up_to r) (not (is_cut head r)) e).0 in
          let same = fun_ext (redo_cut g F R up_to head snap low_R h (records_of g F h hist.1) (λ y i. a y (inr i)) (placed_before g F snap r h hist.0.recorded pl) (λ y i. pg y (inr i))).0 in
          ap (λ (z : List Entry). (tested g.format snap z).sound) (keep_on (there head up_to) r h e)
          ∙ and_from (tested g.format snap (keep (there head up_to) h)).sound (passes g.format (tested g.format snap (keep (there head up_to) h)).done.page r) ih
          (ap (λ (d : Redone). passes g.format d.page r) (tested_done g snap (keep (there head up_to) h)) ∙ (ap (λ (d : ℕ → Contents). passes g.format d r) same ∙ redo_passes g F R up_to snap low_R r h hist a pl f))

  pub stands_for : IsHistory g F all → Stands g all floor (keep (there head up_to) all) snap
  stands_for hist = record {
    map = λ k. map_cut k ∙ (kept_map g F floor up_to all snap (subst (λ (i : ℕ). Cut g F i up_to all) is_R c) hist lowF had k
        ∙ ap (λ (l : List Done). after (first g) l k) (ap (λ (i : ℕ). keep (wins i (keep (found up_to) all)) (journal all)) (sym is_R) ∙ sym kept_same));
    closed = subst (IsClosed (journal all)) (sym kept_same) (closed g F R up_to all c);
    tree = subst (IsTree g.format) (sym pages) (virtual_parted g F up_to all hist);
    entries = entries;
    sound = ap (λ (t : Tested). t.sound) (tested_sorted g F (there head up_to) snap all c.records) ∙ tests all hist c.all (λ p. inl (had p)) co.pages;
  }
    where
      pages : (λ (p : ℕ). ((redo snap (in_order earlier (keep (there head up_to) all))).page p).node) ≡ nodes (virtual g up_to all)
      pages = ap (λ (d : Redone). nodes d.page) (redo_sorted g F (there head up_to) snap all c.records)
          ∙ (ap nodes (fun_ext (redo_cut g F R up_to head snap low_R all c.records c.all (λ p. inl (had p)) co.pages).0)
          ∙ ap nodes (fun_ext (λ p. (redoes g F R up_to snap low_R all c.records c.all (λ q. inl (had q)) p).0 (had p))))

      z : List Entry
      z = keep (there head up_to) all

      uncut : (b : Bool) → not b ≡ true → b ≡ false
      uncut false e = refl
      uncut true e = absurd (true≢false (sym e))

      entries : (r : Entry) → Has r z → is_lost g.workers floor z (redo snap (in_order earlier z)) r ≡ true → page_tree.entry g.format.pages (λ p. ((redo snap (in_order earlier z)).page p).node) r.key ≡ None → ⊥
      entries r i l e =
          let k = keep_has (there head up_to) all r i in
          let t = and_parts (found up_to r) (not (is_cut head r)) k.1 in
          let nc = uncut (is_cut head r) t.1 in
          let p = and_parts (is_write r.kind) ((redo snap z).counts r.log r.number && not (ended (reach g.workers floor z) z r)) (subst (λ (D : Redone). is_lost g.workers floor z D r ≡ true) (redo_sorted g F (there head up_to) snap all c.records) l) in
          let q = and_parts ((redo snap z).counts r.log r.number) (not (ended (reach g.workers floor z) z r)) p.1 in
          let b = has_before r all k.0 in
          let kr = (and_parts (is_record r.kind) (leb r.number (up_to r.log)) t.0).0 in
          let rc = (redo_cut g F R up_to head snap low_R all c.records c.all (λ p. inl (had p)) co.pages).1 r.log r.number (λ y iy cy ky lg n. true≢false (sym cy ∙ (unique y r iy k.0 ky kr lg n ∙ nc))) in
          let ca = each_at (CountsAre up_to (redone up_to snap all).counts) all r b.0 (counts_are g F R up_to snap low_R all c.records c.all (λ p. inl (had p))) b.1 t.0 in
          entry_left g F up_to all hist r b.0 b.1 p.0 (sym ca ∙ (sym rc ∙ q.0)) (never r k.0 p.0 nc q.1) (ap (λ (n : ℕ → Node). page_tree.entry g.format.pages n r.key) (sym pages) ∙ e)
        where
          never : (r : Entry) → Has r all → is_write r.kind ≡ true → is_cut head r ≡ false → not (ended (reach g.workers floor z) z r) ≡ true → (d : EndOf all r) → d.end.number ≤ F → ⊥
          never r i w nc n d le =
              let far = c.far in
              let pd = has_before d.end all d.stands in
              let need = ((each_at (Recorded g F) all d.end pd.0 c.records pd.1).closes d.is_end).need in
              let is = ended_from R up_to all r d.end d.stands d.is_end d.same (c.all d.end d.stands (end_is_record d.end.kind d.is_end) (omega arith)) (omega arith) in
              true≢false (sym n ∙ ap not (ap (λ (i : ℕ). ended i z r) reach_same ∙ (ended_stays r i (write_is_no_end r.kind w) nc ∙ is)))

  pub ripe_kept : (t : Done) → Has t (journal all) → t.end.number ≤ up_to t.end.log → t.end.need ≤ F → Has t (kept g floor (keep (there head up_to) all) (journal all))
  ripe_kept t i n need = subst (λ (l : List Done). Has t l) (sym kept_same) (ripe g F R up_to all c t i n (let far = c.far in omega arith))
