-- What was committed and ripe stays so.
use Rattle.std.proofs.Common.{◌≡◌, inr, ⊎_elim, Bool, true, false, cond, List, [], ◌∷◌, ◌++◌, refl, sym, ap, ◌∙◌, subst, arith, append_assoc}
use Rattle.map_model.specs.Lists.{Has}
use Rattle.map_model.specs.Journals.{Txn, is_earlier, journal_of}
use Rattle.page_model.specs.Nodes.{Format}
use Rattle.master_store.specs.image_model.Entries.{Entry, is_commit}
use Rattle.master_store.specs.image_model.Histories.{committed, txn_of}
use Rattle.core_disk.specs.core_state.Openings.{Opening}
use Rattle.core_disk.specs.core_state.States.{State, flushed_by_all, start}
use Rattle.core_disk.specs.core_state.Events.{Event}
use Rattle.core_disk.specs.core_state.Steps.{run, step, state_after}
use Rattle.core_disk.proofs.core_state.Runs.{run_more}
use Rattle.core_disk.specs.core_commit.Rises.{EveryRise, Rises}
use Rattle.core_disk.proofs.core_commit.History.{Recorded}
use Rattle.core_disk.proofs.core_commit.Lists.{each_at, has_before}
use Rattle.core_disk.specs.core_crash.Crashes.{IsRipe, journal_in}
use Rattle.map_model.proofs.ListLemmas.{has_order, has_right, order_has}
use Rattle.core_disk.proofs.VersionLemmas.{good, more_step}
use Rattle.disk_runs.specs.Moments.{EveryLasting, Lasts}

-- the entries of a run stay behind those that come
entries_grow : (g : Opening) (later : List Event) (s : State) → (newer : List Entry) × ((run g s later).entries ≡ newer ++ s.entries)
entries_grow g [] s = ([], refl)
entries_grow g (e ∷ later) s =
    let q = entries_grow g later (step g s e) in
    ⊎_elim
    (λ (same : (step g s e).entries ≡ s.entries). (q.0, q.1 ∙ ap (λ (l : List Entry). q.0 ++ l) same))
    (λ (one : (r : Entry) × ((step g s e).entries ≡ r ∷ s.entries)). (q.0 ++ one.0 ∷ [], q.1 ∙ (ap (λ (l : List Entry). q.0 ++ l) one.1 ∙ sym (append_assoc q.0 (one.0 ∷ []) s.entries))))
    (more_step g s e)

committed_grow : (f : Format) (newer h : List Entry) (t : Txn) → Has t (committed f h) → Has t (committed f (newer ++ h))
committed_grow f [] h t i = i
committed_grow f (r ∷ newer) h t i = go (committed_grow f newer h t i) (is_commit r.kind)
  where
    go : Has t (committed f (newer ++ h)) → (b : Bool) → Has t (cond b (txn_of f r (newer ++ h) ∷ committed f (newer ++ h)) (committed f (newer ++ h)))
    go ih true = inr ih
    go ih false = ih

module _ (rises : EveryRise) (g : Opening) (es later : List Event) (t : Txn) (has : Has t (journal_in g (state_after g es))) where
  abbrev s : State
  s = state_after g es

  u : (newer : List Entry) × ((run g s later).entries ≡ newer ++ s.entries)
  u = entries_grow g later s

  end_is : state_after g (es ++ later) ≡ run g s later
  end_is = run_more g (start g) es later

  entries_are : (state_after g (es ++ later)).entries ≡ u.0 ++ s.entries
  entries_are = ap (λ (z : State). z.entries) end_is ∙ u.1

  rise : Rises g s (run g s later)
  rise = rises g es later

  ripe_then : IsRipe g s t → IsRipe g (run g s later) t
  ripe_then r = record {
    end = r.end;
    has = subst (Has r.end) (sym u.1) (has_right r.end u.0 s.entries r.has);
    commit = r.commit;
    session = r.session;
    number = r.number;
    flushed = (let a = r.flushed in
        let b = has_before r.end s.entries r.has in
        let l = (each_at (Recorded g (flushed_by_all g s)) s.entries r.end b.0 (good g es).inv.records b.1).log in
        let c = rise.flushed r.end.log l.0 l.1 in omega arith);
    need = (let a = r.need in let b = rise.flushed_by_all in omega arith);
  }

  pub lasts : Lasts g es later t
  lasts = record {
    has = subst (λ (l : List Entry). Has t (journal_of (committed g.format l))) (sym entries_are)
        (has_order is_earlier (committed g.format (u.0 ++ s.entries)) t (committed_grow g.format u.0 s.entries t (order_has is_earlier (committed g.format s.entries) t has)));
    ripe = λ r. subst (λ (z : State). IsRipe g z t) (sym end_is) (ripe_then r);
  }

pub every_lasting : EveryRise → EveryLasting
every_lasting rises g es later t has = lasts rises g es later t has
