-- Queues go on having what the core has.
use Rattle.std.proofs.Common.{◌≡◌, ◌<◌, ◌≤◌, ◌-◌, ℕ, suc, Bool, true, false, cond, List, [], ◌∷◌, ◌++◌, set, refl, sym, ap, ap₂, ◌∙◌, subst, inl, inr, arith, length-set}
use Rattle.std.proofs.lemmas.Bool.{cases_eq, cond-true, false_from_ne_true}
use Rattle.map_model.specs.Lists.{Has}
use Rattle.map_model.specs.Journals.{Name}
use Rattle.core_crash.specs.image_model.Entries.{Kind, Entry, is_end, is_commit}
use Rattle.core_crash.specs.image_model.Ends.{name_of}
use Rattle.core_crash.specs.core_state.Openings.{Opening}
use Rattle.core_crash.specs.core_state.States.{State, start, flushed_by_all}
use Rattle.core_crash.specs.core_state.Events.{Event}
use Rattle.core_crash.specs.core_state.Needs.{may}
use Rattle.core_crash.specs.core_state.Steps.{end_entry, happens, run}
use Rattle.core_crash.proofs.core_state.Runs.{run_more}
use Rattle.core_crash.specs.core_commit.Rises.{EveryRise}
use Rattle.core_crash.proofs.core_commit.History.{IsRecorded}
use Rattle.core_crash.proofs.Journal.{commit_is_end}
use Rattle.core_calls.specs.Durables.{is_told}
use Rattle.core_calls.proofs.DurableLemmas.{recorded_of, told_to}
use Rattle.group_commit.specs.declared.receipts.Receipt.{Receipt}
use Rattle.group_commit.specs.declared.queue.End.{End}
use Rattle.group_commit.specs.Queues.{queue_of, pushed}
use Rattle.group_commit.specs.Tracks.{IsOfEnd, is_flushed, end_of, ends_above, Tracks}
use Rattle.group_commit.specs.Laws.{EveryStart, EveryEnd, EveryOther}
use Rattle.group_commit.proofs.ListLemmas.{queue_set_same, queue_set_other}
use Rattle.group_commit.proofs.QueueLemmas.{ends_kept, ends_end, ends_other}
use Rattle.group_commit.proofs.EventLemmas.{ends_in, quiet_run, same_ends, flushed_later}

pub every_start : EveryStart
every_start g qs n = record {
  sessions = n.sessions;
  from = λ w. 0;
  reached = λ w. omega arith;
  lists = λ w z l. n.empty w;
  ripe = λ e i k l. absurd i;
  told_is = λ e i k l. absurd i;
  untold = λ e i k l. absurd i;
  known = λ n i. absurd i;
}

-- ## No end

moved : (g : Opening) (s t : State) (told : List Name) (qs : List (List End)) → Tracks g s told qs → ends_in t.entries ≡ ends_in s.entries → ((w : ℕ) → (s.worker w).clock ≤ (t.worker w).clock) →
    ((e : Entry) → Has e s.entries → is_flushed g s e ≡ true → is_flushed g t e ≡ true) → Tracks g t told qs
moved g s t told qs a same clocks flushed = record {
  sessions = a.sessions;
  from = a.from;
  reached = λ w. let b = a.reached w in let c = clocks w in omega arith;
  lists = λ w z l. a.lists w z l ∙ (ends_kept w (a.from w) s.entries ∙ (ap (ends_above w (a.from w)) (sym same) ∙ sym (ends_kept w (a.from w) t.entries)));
  ripe = λ e i k l. let j = same_ends t.entries s.entries same e i k in flushed e j (a.ripe e j k l);
  told_is = λ e i k l. a.told_is e (same_ends t.entries s.entries same e i (commit_is_end e.kind k)) k l;
  untold = λ e i k l. a.untold e (same_ends t.entries s.entries same e i (commit_is_end e.kind k)) k l;
  known = λ n i. let d = a.known n i in (d.0, same_ends s.entries t.entries (sym same) d.0 d.1 (commit_is_end d.0.kind d.2), d.2, d.3);
}

pub every_other : EveryRise → EveryOther
every_other rises g es others told qs q a =
    subst (λ (t : State). Tracks g t told qs) (sym (run_more g (start g) es others))
    (moved g (run g (start g) es) (run g (run g (start g) es) others) told qs a (quiet_run g others (run g (start g) es) q) (rises g es others).clocks (λ e i h. flushed_later rises g es others e i h))

-- ## An end

abbrev kind_of : Bool → Kind
kind_of commit = cond commit Kind.Commit Kind.Abort

kind_is_end : (commit : Bool) → is_end (kind_of commit) ≡ true
kind_is_end true = refl
kind_is_end false = refl

kind_commits : (commit : Bool) → is_commit (kind_of commit) ≡ commit
kind_commits true = refl
kind_commits false = refl

module _ (rises : EveryRise) (g : Opening) (es : List Event) (told : List Name) (qs : List (List End)) (w : ℕ) (commit : Bool) (f : ℕ) (r : Receipt)
    (a : Tracks g (run g (start g) es) told qs) (met : may g (run g (start g) es) (Event.End w commit f) ≡ true) (of : IsOfEnd (run g (start g) es) w f r) where
  abbrev s : State
  s = run g (start g) es

  abbrev entry : Entry
  entry = end_entry (kind_of commit) w (s.worker w) f

  abbrev t : State
  t = happens g s (Event.End w commit f)

  goes : run g (start g) (es ++ Event.End w commit f ∷ []) ≡ t
  goes = run_more g (start g) es (Event.End w commit f ∷ []) ∙ cond-true (may g s (Event.End w commit f)) t s met

  clocks : (v : ℕ) → (s.worker v).clock ≤ (t.worker v).clock
  clocks v = subst (λ (u : State). (s.worker v).clock ≤ (u.worker v).clock) (cond-true (may g s (Event.End w commit f)) t s met) ((rises g es (Event.End w commit f ∷ [])).clocks v)

  records : IsRecorded g (flushed_by_all g t) (entry ∷ s.entries)
  records = subst (λ (u : State). IsRecorded g (flushed_by_all g u) u.entries) goes (recorded_of g (es ++ Event.End w commit f ∷ []))

  some : 0 < w
  some = records.0.log.0

  within : w ≤ g.workers
  within = records.0.log.1

  above : a.from w < entry.number
  above = let b = a.reached w in omega arith

  same : record { txn = r.txn; gsn = r.gsn; need = r.need; is_commit = commit } ≡ end_of entry
  same =
      ap₂ (λ (x y : ℕ). let e : End = record { txn = x; gsn = y; need = r.need; is_commit = commit } in e) of.txn of.gsn
      ∙ ap₂ (λ (x : ℕ) (y : Bool). let e : End = record { txn = (s.worker w).txn; gsn = suc (s.worker w).clock; need = x; is_commit = y } in e) of.need (sym (kind_commits commit))

  lists : (v : ℕ) → 0 < v → v ≤ g.workers → queue_of (pushed r commit qs) v ≡ ends_above v (a.from v) (entry ∷ s.entries)
  lists v z l = elim (cases_eq v w) [ inl q ↦ own q | inr n ↦ other n ]
    where
      pushed_at : pushed r commit qs ≡ set qs (w - 1) (ends_above w (a.from w) s.entries ++ end_of entry ∷ [])
      pushed_at =
          ap (λ (x : ℕ). set qs (x - 1) (queue_of qs x ++ record { txn = r.txn; gsn = r.gsn; need = r.need; is_commit = commit } ∷ [])) of.log
          ∙ ap₂ (λ (x : List End) (y : End). set qs (w - 1) (x ++ y ∷ [])) (a.lists w some within) same

      own : v ≡ w → queue_of (pushed r commit qs) v ≡ ends_above v (a.from v) (entry ∷ s.entries)
      own q = subst (λ (u : ℕ). queue_of (pushed r commit qs) u ≡ ends_above u (a.from u) (entry ∷ s.entries)) (sym q)
          (ap (λ (l : List (List End)). queue_of l w) pushed_at
          ∙ (queue_set_same qs w (ends_above w (a.from w) s.entries ++ end_of entry ∷ []) some (let b = a.sessions in let c = within in omega arith)
          ∙ sym (ends_end w (a.from w) entry s.entries (record { is_end = kind_is_end commit; log = refl; above = above }))))

      other : (v ≡ w → ⊥) → queue_of (pushed r commit qs) v ≡ ends_above v (a.from v) (entry ∷ s.entries)
      other n =
          ap (λ (l : List (List End)). queue_of l v) pushed_at
          ∙ (queue_set_other qs w v (ends_above w (a.from w) s.entries ++ end_of entry ∷ []) some z n
          ∙ (a.lists v z l ∙ sym (ends_other v (a.from v) entry s.entries (λ p. n (sym p.log)))))

  -- it is not told yet
  fresh : is_told told entry ≡ false
  fresh = false_from_ne_true (is_told told entry) (λ k. let d = a.known (name_of entry) (told_to told entry k) in
      records.0.still_open d.0 d.1 (commit_is_end d.0.kind d.2) (ap (λ (n : Name). n.session) d.3, ap (λ (n : Name). n.number) d.3))

  ripe : (e : Entry) → Has e (entry ∷ s.entries) → is_end e.kind ≡ true → e.number ≤ a.from e.log → is_flushed g s e ≡ true
  ripe e (inl q) k l = absurd (let b = ap (λ (x : Entry). x.number) q in let c = ap (λ (x : Entry). a.from x.log) q in let d = above in omega arith)
  ripe e (inr i) k l = a.ripe e i k l

  told_is : (e : Entry) → Has e (entry ∷ s.entries) → is_commit e.kind ≡ true → e.number ≤ a.from e.log → is_told told e ≡ true
  told_is e (inl q) k l = absurd (let b = ap (λ (x : Entry). x.number) q in let c = ap (λ (x : Entry). a.from x.log) q in let d = above in omega arith)
  told_is e (inr i) k l = a.told_is e i k l

  untold : (e : Entry) → Has e (entry ∷ s.entries) → is_commit e.kind ≡ true → a.from e.log < e.number → is_told told e ≡ false
  untold e (inl q) k l = ap (is_told told) q ∙ fresh
  untold e (inr i) k l = a.untold e i k l

  ended : Tracks g t told (pushed r commit qs)
  ended = record {
    sessions = length-set qs (r.log - 1) (queue_of qs r.log ++ record { txn = r.txn; gsn = r.gsn; need = r.need; is_commit = commit } ∷ []) ∙ a.sessions;
    from = a.from;
    reached = λ v. let b = a.reached v in let c = clocks v in omega arith;
    lists = lists;
    ripe = ripe;
    told_is = told_is;
    untold = untold;
    known = λ n i. let d = a.known n i in (d.0, inr d.1, d.2, d.3);
  }

pub every_end : EveryRise → EveryEnd
every_end rises g es told qs w commit f r a met of = subst (λ (t : State). Tracks g t told (pushed r commit qs)) (sym (goes rises g es told qs w commit f r a met of)) (ended rises g es told qs w commit f r a met of)
