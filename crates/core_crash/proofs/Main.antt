-- Every crash of every run.
use Rattle.std.proofs.Common.{◌≡◌, ℕ, ◌≤◌, true, List, [], ◌∷◌, refl, sym, ◌∙◌, subst, inl, inr, arith}
use Rattle.std.proofs.lemmas.Bool.{leb-true}
use Rattle.map_model.specs.Lists.{Has, keep}
use Rattle.core_paging.specs.image_model.Entries.{Entry, Contents}
use Rattle.core_paging.specs.core_state.States.{State, flushed_by_all, start}
use Rattle.core_paging.specs.core_state.Openings.{Opening}
use Rattle.map_model.specs.Maps.{MapAnswer}
use Rattle.core_paging.specs.core_state.Events.{Event}
use Rattle.core_paging.specs.core_state.Steps.{follows, happens, step, run, put_back}
use Rattle.core_crash.proofs.Words.{found, is_cut, EveryCrash, Done, committed, done_earlier, journal, IsRipe}
use Rattle.core_paging.specs.image_model.Ends.{reach}
use Rattle.core_paging.proofs.core_commit.KindFacts.{end_is_record}
use Rattle.core_paging.proofs.core_commit.Lists.{Within, has_before, before_has, each_at}
use Rattle.core_paging.specs.core_state.Steps.{HasBeen}
use Rattle.map_model.proofs.ListLemmas.{order_has}
use Rattle.core_paging.proofs.core_commit.History.{Recorded, page_at}
use Rattle.core_crash.proofs.Ends.{Cut, reach_all, F_reach, ended_from, found_from}
use Rattle.core_crash.proofs.Redo.{Had}
use Rattle.core_crash.proofs.Journal.{stood}
use Rattle.core_crash.proofs.Cuts.{CutOff, stands_for, ripe_kept}
use Rattle.core_paging.proofs.core_commit.Invariants.{Inv}
use Rattle.core_paging.proofs.core_commit.Runs.{Good, step_keeps, good_step, good_run, good_start}

had_now : (g : Opening) (h : List Entry) (p : ℕ) → Had g h p (page_at g h p)
had_now g [] p = refl
had_now g (r ∷ h) p = inl refl

-- the history only grows
had_step : (g : Opening) (s : State) (e : Event) (p : ℕ) (v : Contents) → Had g s.entries p v → Had g (step g s e).entries p v
had_step g s e p v h = step_keeps (λ s. Had g s.entries p v) g s e h (λ _. more e)
  where
    back : (w q : ℕ) (cs : List Entry) → Had g (put_back g s w q cs).entries p v
    back w q [] = h
    back w q (c ∷ cs) = inr h

    after : (w q : ℕ) (a : MapAnswer) → Had g (follows g s w q a).entries p v
    after w q (MapAnswer.Pair k x) = inr h
    after w q (MapAnswer.Gap x) = h
    after w q (MapAnswer.Value x) = h
    after w q (MapAnswer.Was x) = h

    more : (e : Event) → Had g (happens g s e).entries p v
    more (Event.Read w q k a) = inr h
    more (Event.Next w q k a) = after w q a
    more (Event.Change w q k x) = inr h
    more (Event.Put_back w q) = back w q (s.worker w).changes
    more (Event.Split w l r q j) = inr h
    more (Event.Lift w c) = inr h
    more (Event.Join w l r q) = inr h
    more (Event.Drop w c) = inr h
    more (Event.Purge w q keys) = inr h
    more (Event.End w c f) = inr h
    more _ = h

had_run : (g : Opening) (es : List Event) (s : State) (p : ℕ) (v : Contents) → Had g s.entries p v → Had g (run g s es).entries p v
had_run g [] s p v h = h
had_run g (e ∷ es) s p v h = had_run g es (step g s e) p v (had_step g s e p v h)

had : (g : Opening) → g.faithful ≡ true → (es : List Event) (s : State) (p : ℕ) (v : Contents) → Good g s → HasBeen g s es p v → Had g (run g s es).entries p v
had g f [] s p v i b = subst (λ (q : Contents). Had g s.entries p q) (sym (b ∙ (i.inv.told f).pages p)) (had_now g s.entries p)
had g f (e ∷ es) s p v i (inl b) = had_run g (e ∷ es) s p v (subst (λ (q : Contents). Had g s.entries p q) (sym (b ∙ (i.inv.told f).pages p)) (had_now g s.entries p))
had g f (e ∷ es) s p v i (inr b) = had g f es (step g s e) p v (good_step g s e i) b

pub every_crash : EveryCrash
every_crash g f es up_to page c = (
  stands_for g F s.floor R up_to s.head s.entries page refl cut c.numbers image co (v.told f).history,
  λ t i r. ripe_kept g F s.floor R up_to s.head s.entries page refl cut c.numbers image co t i (own t i r) r.1,
)
  where
    s : State
    s = run g (start g) es

    v : Inv g s
    v = (good_run g es (start g) (good_start g)).inv

    F : ℕ
    F = flushed_by_all g s

    R : ℕ
    R = reach g.workers s.floor (keep (found up_to) s.entries)

    image : (p : ℕ) → Had g s.entries p (page p)
    image p = had g f es (start g) p (page p) (good_start g) (c.pages p)

    cut : Cut g F R up_to s.entries
    cut = record {
      records = v.records;
      far = F_reach g s.floor up_to s.flushed s.entries c.logs (λ w l. (v.workers w).in_log);
      all = λ r i k n. reach_all g F s.floor up_to s.entries v.records (λ w l. let a = (v.workers w).based l in let b = c.logs w l in omega arith) r i k n;
    }

    log_of : (r : Entry) → Has r s.entries → Within g.workers r.log
    log_of r i = let p = has_before r s.entries i in (each_at (Recorded g F) s.entries r p.0 v.records p.1).log

    below : (r : Entry) → is_cut s.head r ≡ true → r.number ≤ s.cut
    below r x = let a = leb-true r.number (s.head r.log) x in let b = v.cuts.heads r.log in omega arith

    co : CutOff g s.floor R up_to s.head page s.entries
    co = record {
      low = λ r i x. let a = below r x in let b = v.cuts.low in omega arith;
      pages = λ r i x p t. c.changes p r i t (below r x);
      ended = λ r i k x.
          let e = v.cuts.ripe r i k (below r x) in
          let l = c.logs e.0.end.log (log_of e.0.end e.0.stands) in
          let far = cut.far in
          let e1 = e.1 in let e2 = e.2 in
          ended_from R up_to s.entries r e.0.end e.0.stands e.0.is_end e.0.same (found_from up_to e.0.end (end_is_record e.0.end.kind e.0.is_end) (omega arith)) (omega arith);
    }

    own : (t : Done) → Has t (journal s.entries) → IsRipe g s t → t.end.number ≤ up_to t.end.log
    own t i r =
        let st = stood t s.entries (order_has done_earlier (committed s.entries) t i) in
        let l = log_of t.end (before_has t.end st.behind s.entries st.place) in
        let a = c.logs t.end.log l in let b = r.0 in omega arith
