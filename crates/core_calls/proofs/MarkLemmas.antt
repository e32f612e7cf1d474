-- After every list of events, the committed transactions of the entries are those that the sessions' marks tell.
use Rattle.std.proofs.Common.{◌≡◌, ◌⊎◌, ◌≤◌, ℕ, suc, Bool, true, false, cond, ◌&&◌, ◌==◌, List, [], ◌∷◌, Option, Some, refl, sym, ap, ap₂, ◌∙◌, subst, inl, inr, arith, true≢false}
use Rattle.std.proofs.lemmas.Bool.{cases_Bool, cases_eq, eq-eqb, ne_eqb, and_parts, and_from, and_left, and_right, cond-true, cond-false}
use Rattle.map_model.specs.Lists.{Has, keep}
use Rattle.page_model.specs.Nodes.{Format}
use Rattle.core_crash.specs.image_model.Entries.{Kind, Entry, is_end, is_commit, same_txn}
use Rattle.core_crash.specs.core_state.Openings.{Opening}
use Rattle.core_crash.specs.core_state.States.{State, start}
use Rattle.core_crash.specs.core_state.Events.{Event}
use Rattle.core_crash.specs.core_state.Local.{is_of}
use Rattle.core_crash.specs.core_state.Needs.{pages_of, are_hot, needs, may}
use Rattle.core_crash.specs.core_state.Steps.{happens, run}
use Rattle.core_calls.specs.Marks.{Mark, Began, Ended, mark, onto, marks}
use Rattle.core_calls.proofs.EntryLemmas.{call_mark, entry_mark, call_marks, Deal, deal_of, deals_of, marks_in, deals_in, Quiet, Enters, Opens, Adds, None_new, One_new, Begin_new, adds}

-- an entry of w's transaction n
abbrev pub mine : ℕ → ℕ → Entry → Bool
mine w n r = (r.log == w) && (r.txn == n)

abbrev pub is_by : ℕ → Deal → Bool
is_by w d = d.session == w

pub record Marked (g : Opening) (s : State) (ms : ℕ → List Mark) : Type 0 where
  pub done : (w : ℕ) → keep (is_by w) (deals_of g.format s.entries) ≡ deals_in w (ms w)
  pub open_calls : (w : ℕ) → (s.worker w).is_open ≡ true → call_marks g.format (keep (mine w (s.worker w).txn) s.entries) ≡ marks_in (ms w)
  pub up_to : (r : Entry) → Has r s.entries → r.txn ≤ (s.worker r.log).txn

-- what an event makes of w's marks
abbrev pub told : Opening → State → Event → ℕ → List Mark → List Mark
told g s e w earlier = cond (is_of e w) (onto (mark g s e) earlier) earlier

-- ## No entry

quiet : (g : Opening) (s : State) (e : Event) (ms : ℕ → List Mark) → Quiet g s e → Marked g s ms → Marked g (happens g s e) (λ w. told g s e w (ms w))
quiet g s e ms q m = record {
  done = λ w. ap (λ (h : List Entry). keep (is_by w) (deals_of g.format h)) q.entries ∙ (m.done w ∙ ap (deals_in w) (sym (still w)));
  open_calls = λ w o. ap₂ (λ (n : ℕ) (h : List Entry). call_marks g.format (keep (mine w n) h)) (q.txns w) q.entries ∙ (m.open_calls w (sym (q.opens w) ∙ o) ∙ ap marks_in (sym (still w)));
  up_to = λ r i. let a = m.up_to r (subst (λ (h : List Entry). Has r h) q.entries i) in let b = q.txns r.log in omega arith;
}
  where
    still : (w : ℕ) → told g s e w (ms w) ≡ ms w
    still w = ap (λ (o : Option Mark). cond (is_of e w) (onto o (ms w)) (ms w)) q.mark ∙ go (is_of e w)
      where
        go : (b : Bool) → cond b (ms w) (ms w) ≡ ms w
        go true = refl
        go false = refl

-- ## A begin

opened : (g : Opening) (s : State) (e : Event) (ms : ℕ → List Mark) → Opens g s e → Marked g s ms → Marked g (happens g s e) (λ w. told g s e w (ms w))
opened g s e ms q m = record {
  done = λ w. ap (λ (h : List Entry). keep (is_by w) (deals_of g.format h)) q.entries ∙ (m.done w ∙ deals w);
  open_calls = λ w o. elim (cases_eq w q.worker) [ inl i ↦ here w i | inr n ↦ there w n o ];
  up_to = λ r i. elim (cases_eq r.log q.worker) [
    | inl k ↦ (let a = m.up_to r (subst (λ (h : List Entry). Has r h) q.entries i) in let b = q.next in let c = ap (λ (v : ℕ). ((happens g s e).worker v).txn) k in let d = ap (λ (v : ℕ). (s.worker v).txn) k in omega arith)
    | inr k ↦ (let a = m.up_to r (subst (λ (h : List Entry). Has r h) q.entries i) in let b = ap (λ (a : Rattle.core_crash.specs.core_state.States.Worker). a.txn) (q.others r.log k) in omega arith)
  ];
}
  where
    n : ℕ
    n = suc (s.worker q.worker).txn

    own : (w : ℕ) → w ≡ q.worker → told g s e w (ms w) ≡ Began n ∷ ms w
    own w i = cond-true (is_of e w) (onto (mark g s e) (ms w)) (ms w) (q.by w ∙ eq-eqb q.worker w (sym i)) ∙ ap (λ (o : Option Mark). onto o (ms w)) q.mark

    other : (w : ℕ) → (w ≡ q.worker → ⊥) → told g s e w (ms w) ≡ ms w
    other w i = cond-false (is_of e w) (onto (mark g s e) (ms w)) (ms w) (q.by w ∙ ne_eqb q.worker w (λ j. i (sym j)))

    deals : (w : ℕ) → deals_in w (ms w) ≡ deals_in w (told g s e w (ms w))
    deals w = elim (cases_eq w q.worker) [ inl i ↦ ap (deals_in w) (sym (own w i)) | inr i ↦ ap (deals_in w) (sym (other w i)) ]

    none : (w : ℕ) → w ≡ q.worker → (l : List Entry) → ((r : Entry) → Has r l → r.txn ≤ (s.worker r.log).txn) → keep (mine w n) l ≡ []
    none w i [] h = refl
    none w i (r ∷ l) h = cond-false (mine w n r) (r ∷ keep (mine w n) l) (keep (mine w n) l) (off (cases_eq r.log w)) ∙ none w i l (λ x j. h x (inr j))
      where
        off : ((r.log ≡ w) ⊎ (r.log ≡ w → ⊥)) → mine w n r ≡ false
        off (inl k) = and_right (r.log == w) (r.txn == n) (ne_eqb r.txn n (λ z. let a = h r (inl refl) in let b = ap (λ (v : ℕ). (s.worker v).txn) (k ∙ i) in absurd (omega arith)))
        off (inr k) = and_left (r.log == w) (r.txn == n) (ne_eqb r.log w k)

    here : (w : ℕ) → w ≡ q.worker → call_marks g.format (keep (mine w ((happens g s e).worker w).txn) (happens g s e).entries) ≡ marks_in (told g s e w (ms w))
    here w i =
        ap₂ (λ (k : ℕ) (h : List Entry). call_marks g.format (keep (mine w k) h)) (ap (λ (v : ℕ). ((happens g s e).worker v).txn) i ∙ q.next) q.entries
        ∙ (ap (call_marks g.format) (none w i s.entries m.up_to) ∙ ap marks_in (sym (own w i)))

    there : (w : ℕ) → (w ≡ q.worker → ⊥) → ((happens g s e).worker w).is_open ≡ true → call_marks g.format (keep (mine w ((happens g s e).worker w).txn) (happens g s e).entries) ≡ marks_in (told g s e w (ms w))
    there w i o =
        ap₂ (λ (k : ℕ) (h : List Entry). call_marks g.format (keep (mine w k) h)) (ap (λ (a : Rattle.core_crash.specs.core_state.States.Worker). a.txn) (q.others w i)) q.entries
        ∙ (m.open_calls w (ap (λ (a : Rattle.core_crash.specs.core_state.States.Worker). a.is_open) (sym (q.others w i)) ∙ o) ∙ ap marks_in (sym (other w i)))

-- ## An entry

end_or : (K : Kind) → (is_end K ≡ true) ⊎ (is_end K ≡ false)
end_or K = cases_Bool (is_end K)

-- an entry that ends nothing is a call, or says nothing
calls_more : (f : Format) (K : Kind) (r : Entry) (ms : List Mark) → is_end K ≡ false → onto (call_mark f K r) (marks_in ms) ≡ marks_in (onto (entry_mark f K r) ms)
calls_more f Kind.Change r ms e = refl
calls_more f Kind.Put_back r ms e = refl
calls_more f Kind.Read r ms e = refl
calls_more f Kind.Split r ms e = refl
calls_more f Kind.Lift r ms e = refl
calls_more f Kind.Join r ms e = refl
calls_more f Kind.Drop r ms e = refl
calls_more f Kind.Purge r ms e = refl
calls_more f Kind.Commit r ms e = absurd (true≢false e)
calls_more f Kind.Abort r ms e = absurd (true≢false e)

deals_more : (f : Format) (K : Kind) (r : Entry) (w : ℕ) (ms : List Mark) → is_commit K ≡ false → deals_in w ms ≡ deals_in w (onto (entry_mark f K r) ms)
deals_more f Kind.Change r w ms e = refl
deals_more f Kind.Put_back r w ms e = refl
deals_more f Kind.Read r w ms e = refl
deals_more f Kind.Split r w ms e = refl
deals_more f Kind.Lift r w ms e = refl
deals_more f Kind.Join r w ms e = refl
deals_more f Kind.Drop r w ms e = refl
deals_more f Kind.Purge r w ms e = refl
deals_more f Kind.Abort r w ms e = refl
deals_more f Kind.Commit r w ms e = absurd (true≢false e)

pub commit_is : (f : Format) (K : Kind) (r : Entry) → is_commit K ≡ true → entry_mark f K r ≡ Some (Ended true r.txn r.number)
commit_is f Kind.Commit r e = refl
commit_is f Kind.Change r e = absurd (true≢false (sym e))
commit_is f Kind.Put_back r e = absurd (true≢false (sym e))
commit_is f Kind.Read r e = absurd (true≢false (sym e))
commit_is f Kind.Split r e = absurd (true≢false (sym e))
commit_is f Kind.Lift r e = absurd (true≢false (sym e))
commit_is f Kind.Join r e = absurd (true≢false (sym e))
commit_is f Kind.Drop r e = absurd (true≢false (sym e))
commit_is f Kind.Purge r e = absurd (true≢false (sym e))
commit_is f Kind.Abort r e = absurd (true≢false (sym e))

entered : (g : Opening) (s : State) (e : Event) (ms : ℕ → List Mark) → Enters g s e → Marked g s ms → Marked g (happens g s e) (λ w. told g s e w (ms w))
entered g s e ms q m = record {
  done = λ w. ap (λ (h : List Entry). keep (is_by w) (deals_of f h)) q.entries ∙ elim (cases_eq w q.worker) [ inl i ↦ own_deals w i | inr n ↦ other_deals w n ];
  open_calls = λ w o. ap₂ (λ (k : ℕ) (h : List Entry). call_marks f (keep (mine w k) h)) (q.txns w) q.entries ∙ elim (cases_eq w q.worker) [ inl i ↦ own_calls w i o | inr n ↦ other_calls w n (q.opens w o) ];
  up_to = λ x i. let a = up x (subst (λ (h : List Entry). Has x h) q.entries i) in let b = q.txns x.log in omega arith;
}
  where
    f : Format
    f = g.format

    r : Entry
    r = q.entry

    own : (w : ℕ) → w ≡ q.worker → told g s e w (ms w) ≡ onto (entry_mark f r.kind r) (ms w)
    own w i = cond-true (is_of e w) (onto (mark g s e) (ms w)) (ms w) (q.by w ∙ eq-eqb q.worker w (sym i)) ∙ ap (λ (o : Option Mark). onto o (ms w)) q.mark

    other : (w : ℕ) → (w ≡ q.worker → ⊥) → told g s e w (ms w) ≡ ms w
    other w i = cond-false (is_of e w) (onto (mark g s e) (ms w)) (ms w) (q.by w ∙ ne_eqb q.worker w (λ j. i (sym j)))

    up : (x : Entry) → Has x (r ∷ s.entries) → x.txn ≤ (s.worker x.log).txn
    up x (inl k) = let a = ap (λ (y : Entry). y.txn) k in let b = q.txn in let c = ap (λ (v : ℕ). (s.worker v).txn) (ap (λ (y : Entry). y.log) k ∙ q.log) in omega arith
    up x (inr k) = m.up_to x k

    -- the calls of the open transaction
    is_mine : mine q.worker (s.worker q.worker).txn r ≡ true
    is_mine = and_from (r.log == q.worker) (r.txn == (s.worker q.worker).txn) (eq-eqb r.log q.worker q.log) (eq-eqb r.txn (s.worker q.worker).txn q.txn)

    own_calls : (w : ℕ) → w ≡ q.worker → ((happens g s e).worker w).is_open ≡ true → call_marks f (keep (mine w (s.worker w).txn) (r ∷ s.entries)) ≡ marks_in (told g s e w (ms w))
    own_calls w i o =
        ap (call_marks f) (cond-true (mine w (s.worker w).txn r) (r ∷ keep (mine w (s.worker w).txn) s.entries) (keep (mine w (s.worker w).txn) s.entries) (ap (λ (v : ℕ). mine v (s.worker v).txn r) i ∙ is_mine))
        ∙ (ap (onto (call_mark f r.kind r)) (m.open_calls w (ap (λ (v : ℕ). (s.worker v).is_open) i ∙ q.was_open))
        ∙ (calls_more f r.kind r (ms w) no_end ∙ ap marks_in (sym (own w i))))
      where
        no_end : is_end r.kind ≡ false
        no_end = elim (end_or r.kind) [ inl k ↦ absurd (true≢false (sym o ∙ (ap (λ (v : ℕ). ((happens g s e).worker v).is_open) i ∙ q.closed k))) | inr k ↦ k ]

    other_calls : (w : ℕ) → (w ≡ q.worker → ⊥) → (s.worker w).is_open ≡ true → call_marks f (keep (mine w (s.worker w).txn) (r ∷ s.entries)) ≡ marks_in (told g s e w (ms w))
    other_calls w n o =
        ap (call_marks f) (cond-false (mine w (s.worker w).txn r) (r ∷ keep (mine w (s.worker w).txn) s.entries) (keep (mine w (s.worker w).txn) s.entries) (and_left (r.log == w) (r.txn == (s.worker w).txn) (ne_eqb r.log w (λ k. n (sym k ∙ q.log)))))
        ∙ (m.open_calls w o ∙ ap marks_in (sym (other w n)))

    -- the committed transactions
    D : List Deal
    D = deals_of f s.entries

    other_deals : (w : ℕ) → (w ≡ q.worker → ⊥) → keep (is_by w) (deals_of f (r ∷ s.entries)) ≡ deals_in w (told g s e w (ms w))
    other_deals w n = go (is_commit r.kind) ∙ (m.done w ∙ ap (deals_in w) (sym (other w n)))
      where
        go : (b : Bool) → keep (is_by w) (cond b (deal_of f r s.entries ∷ D) D) ≡ keep (is_by w) D
        go true = cond-false (r.log == w) (deal_of f r s.entries ∷ keep (is_by w) D) (keep (is_by w) D) (ne_eqb r.log w (λ k. n (sym k ∙ q.log)))
        go false = refl

    own_deals : (w : ℕ) → w ≡ q.worker → keep (is_by w) (deals_of f (r ∷ s.entries)) ≡ deals_in w (told g s e w (ms w))
    own_deals w i = go (is_commit r.kind) refl ∙ ap (deals_in w) (sym (own w i))
      where
        log_is : r.log ≡ w
        log_is = q.log ∙ sym i

        txn_is : r.txn ≡ (s.worker w).txn
        txn_is = q.txn ∙ ap (λ (v : ℕ). (s.worker v).txn) (sym i)

        calls : call_marks f (keep (λ x. same_txn x r) s.entries) ≡ marks_in (ms w)
        calls = ap₂ (λ (a b : ℕ). call_marks f (keep (mine a b) s.entries)) log_is txn_is ∙ m.open_calls w (ap (λ (v : ℕ). (s.worker v).is_open) i ∙ q.was_open)

        go : (b : Bool) → is_commit r.kind ≡ b → keep (is_by w) (cond b (deal_of f r s.entries ∷ D) D) ≡ deals_in w (onto (entry_mark f r.kind r) (ms w))
        go true k =
            cond-true (r.log == w) (deal_of f r s.entries ∷ keep (is_by w) D) (keep (is_by w) D) (eq-eqb r.log w log_is)
            ∙ (ap₂ (λ (d : Deal) (ds : List Deal). d ∷ ds) (ap₂ (λ (v : ℕ) (l : List Mark). record { session = v; number = r.txn; at = r.number; marks = l }) log_is calls) (m.done w)
            ∙ ap (λ (o : Option Mark). deals_in w (onto o (ms w))) (sym (commit_is f r.kind r k)))
        go false k = m.done w ∙ deals_more f r.kind r w (ms w) k

-- ## Every event

added : (g : Opening) (s : State) (e : Event) (ms : ℕ → List Mark) → Adds g s e → Marked g s ms → Marked g (happens g s e) (λ w. told g s e w (ms w))
added g s e ms (None_new q) m = quiet g s e ms q m
added g s e ms (One_new q) m = entered g s e ms q m
added g s e ms (Begin_new q) m = opened g s e ms q m

marked_run : (g : Opening) (es : List Event) (s : State) (ms : ℕ → List Mark) → Marked g s ms → Marked g (run g s es) (λ w. marks g s es w (ms w))
marked_run g [] s ms m = m
marked_run g (e ∷ es) s ms m = go (may g s e) refl (λ t ns k. marked_run g es t ns k)
  where
    go : (b : Bool) → may g s e ≡ b → ((t : State) (ns : ℕ → List Mark) → Marked g t ns → Marked g (run g t es) (λ w. marks g t es w (ns w))) →
        Marked g (run g (cond b (happens g s e) s) es) (λ w. marks g (cond b (happens g s e) s) es w (cond b (told g s e w (ms w)) (ms w)))
    go true k ih = ih (happens g s e) (λ w. told g s e w (ms w)) (added g s e ms (adds g s e (and_parts (are_hot s (pages_of e)) (needs g s e) k).1) m)
    go false k ih = ih s ms m

pub marked : (g : Opening) (es : List Event) → Marked g (run g (start g) es) (λ w. marks g (start g) es w [])
marked g es = marked_run g es (start g) (λ w. []) (record { done = λ w. refl; open_calls = λ w o. absurd (true≢false (sym o)); up_to = λ r i. absurd i })
