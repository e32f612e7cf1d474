-- What is ripe once stays so.
use Rattle.map_model.specs.Lists.{Has}
use Rattle.map_model.specs.Maps.{MapAnswer}
use Rattle.map_model.specs.Journals.{Txn, is_earlier}
use Rattle.page_model.specs.Nodes.{Format}
use Rattle.core_paging.specs.image_model.Entries.{Entry, is_commit}
use Rattle.core_paging.specs.image_model.Histories.{txn_of, committed}
use Rattle.core_paging.specs.core_state.States.{State, start, flushed_by_all}
use Rattle.core_paging.specs.core_state.Openings.{Opening}
use Rattle.core_paging.specs.core_state.Events.{Event}
use Rattle.core_paging.specs.core_state.Needs.{may}
use Rattle.core_paging.specs.core_state.Steps.{put_back, follows, happens, step, run}
use Rattle.core_paging.proofs.core_commit.Lists.{Within, has_before, each_at}
use Rattle.core_paging.proofs.core_commit.History.{Recorded}
use Rattle.core_paging.proofs.core_commit.Invariants.{Inv}
use Rattle.core_paging.proofs.core_commit.Runs.{step_keeps, good_run, good_start}
use Rattle.core_paging.proofs.core_commit.RiseLemmas.{every_rise}
use Rattle.map_model.proofs.ListLemmas.{order_has, has_order, upd_same}
use Rattle.core_crash.specs.Crashes.{IsRipe}
use Rattle.core_crash.specs.Ripe.{EveryRipe}
use Rattle.std.proofs.Common.{◌≡◌, ℕ, Bool, true, false, cond, List, [], ◌∷◌, refl, sym, subst, inr, arith, true≢false}

-- entries come, and none goes
module _ (P : List Entry → Type 0) (more : (x : Entry) (h : List Entry) → P h → P (x ∷ h)) (g : Opening) where
  grows : (s : State) (e : Event) → P s.entries → P (happens g s e).entries
  grows s (Event.Read w p k a) h = more _ s.entries h
  grows s (Event.Next w p k a) h = go a
    where
      go : (a : MapAnswer) → P (follows g s w p a).entries
      go (MapAnswer.Pair at word) = more _ s.entries h
      go (MapAnswer.Gap b) = h
      go (MapAnswer.Value b) = h
      go (MapAnswer.Was b) = h
  grows s (Event.Change w p k v) h = more _ s.entries h
  grows s (Event.Put_back w p) h = go (s.worker w).changes
    where
      go : (cs : List Entry) → P (put_back g s w p cs).entries
      go [] = h
      go (c ∷ cs) = more _ s.entries h
  grows s (Event.Split w l r q i) h = more _ s.entries h
  grows s (Event.Lift w c) h = more _ s.entries h
  grows s (Event.Join w l r q) h = more _ s.entries h
  grows s (Event.Drop w c) h = more _ s.entries h
  grows s (Event.Purge w p keys) h = more _ s.entries h
  grows s (Event.End w commit f) h = more _ s.entries h
  grows s _ h = h

  grown : (es : List Event) (s : State) → P s.entries → P (run g s es).entries
  grown [] s h = h
  grown (e ∷ es) s h = grown es (step g s e) (step_keeps (λ t. P t.entries) g s e h (λ _. grows s e h))

committed_more : (f : Format) (t : Txn) (x : Entry) (h : List Entry) → Has t (committed f h) → Has t (committed f (x ∷ h))
committed_more f t x h i = go (is_commit x.kind)
  where
    go : (b : Bool) → Has t (cond b (txn_of f x h ∷ committed f h) (committed f h))
    go true = inr i
    go false = i

pub every_ripe : EveryRipe
every_ripe g es = record {
  flushed = λ t n m c. subst (λ (u : State). IsRipe g u t) (sym (stepped t n m)) (record {
    end = c.end;
    has = c.has;
    commit = c.commit;
    session = c.session;
    number = c.number;
    flushed = let e = upd_same s.flushed t.session n c.end.log c.session in let l = c.up_to in omega arith;
    need = let z = c.none in omega arith;
  });
  stays = λ t after i r. (
    has_order is_earlier (committed g.format (run g s after).entries) t (grown (λ h. Has t (committed g.format h)) (committed_more g.format t) g after s (order_has is_earlier (committed g.format s.entries) t i)),
    record {
      end = r.end;
      has = grown (λ h. Has r.end h) (λ x h j. inr j) g after s r.has;
      commit = r.commit;
      session = r.session;
      number = r.number;
      flushed = let q = (every_rise g es after).flushed r.end.log (within r).0 (within r).1 in let l = r.flushed in omega arith;
      need = let q = (every_rise g es after).flushed_by_all in let l = r.need in omega arith;
    },
  );
}
  where
    s : State
    s = run g (start g) es

    v : Inv g s
    v = (good_run g es (start g) (good_start g)).inv

    within : {t : Txn} (r : IsRipe g s t) → Within g.workers r.end.log
    within r = let b = has_before r.end s.entries r.has in (each_at (Recorded g (flushed_by_all g s)) s.entries r.end b.0 v.records b.1).log

    stepped : (t : Txn) (n : ℕ) → may g s (Event.Flush t.session n) ≡ true → step g s (Event.Flush t.session n) ≡ happens g s (Event.Flush t.session n)
    stepped t n m = go (may g s (Event.Flush t.session n)) m
      where
        go : (b : Bool) → b ≡ true → cond b (happens g s (Event.Flush t.session n)) s ≡ happens g s (Event.Flush t.session n)
        go true z = refl
        go false z = absurd (true≢false (sym z))
