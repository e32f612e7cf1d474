-- Behind a sync no page is above what is flushed everywhere.
use Rattle.std.proofs.Common.{◌≡◌, ◌⊎◌, ◌≤◌, ◌==◌, ◌&&◌, ◌||◌, ℕ, Bool, true, false, cond, not, leb, List, [], ◌∷◌, ◌++◌, refl, sym, ap, ◌∙◌, subst, inl, inr, arith, true≢false, append_assoc}
use Rattle.std.proofs.lemmas.Bool.{and_from, and_parts, cond-true, eqb-true, le-leb, not_from_false}
use Rattle.std.proofs.lemmas.List.{append-nil}
use Rattle.map_model.specs.Lists.{Has, any}
use Rattle.core_paging.specs.image_model.Entries.{Entry, touches, written}
use Rattle.core_paging.specs.core_state.Lists.{most}
use Rattle.core_paging.specs.core_state.Openings.{Opening}
use Rattle.core_paging.specs.core_state.States.{State, flushed_by_all, is_cold}
use Rattle.core_paging.specs.core_state.Events.{Event}
use Rattle.core_paging.specs.core_state.Needs.{is_behind, may}
use Rattle.core_paging.specs.core_state.Steps.{begun, happens, state_after}
use Rattle.core_paging.specs.core_commit.Rises.{EveryRise}
use Rattle.core_paging.proofs.core_commit.Controls.{le_most}
use Rattle.core_paging.proofs.core_commit.Copies.{at_place}
use Rattle.core_paging.proofs.core_commit.History.{page_at}
use Rattle.core_paging.proofs.core_commit.Invariants.{Inv, base_flushed}
use Rattle.core_paging.proofs.core_commit.Lists.{le_least}
use Rattle.core_paging.proofs.core_commit.Runs.{step_keeps}
use Rattle.core_covers.specs.Lows.{EveryLow, EverySync, IsAllFlushed, raises_clock}
use Rattle.core_covers.proofs.ChangeLemmas.{good, recorded, state_then}

-- ## Pages

-- a page has the number with which it began, or that of one of the entries
gsn_low : (g : Opening) (F p : ℕ) (h : List Entry) → g.base ≤ F → ((r : Entry) → Has r h → r.number ≤ F) → (page_at g h p).gsn ≤ F
gsn_low g F p [] base low = let l = g.low p in omega arith
gsn_low g F p (r ∷ h) base low = go (touches p r) (low r (inl refl)) (gsn_low g F p h base (λ x i. low x (inr i)))
  where
    go : (b : Bool) → r.number ≤ F → (page_at g h p).gsn ≤ F → (cond b (written r p (page_at g h p)) (page_at g h p)).gsn ≤ F
    go true n l = n
    go false n l = l

pub every_low : EveryLow
every_low g es all_flushed p = let a = gsn_low g F p s.entries (base_flushed g s i) low in let e = (i.stamps p).0 in omega arith
  where
    s : State
    s = state_after g es

    F : ℕ
    F = flushed_by_all g s

    i : Inv g s
    i = (good g es).inv

    low : (r : Entry) → Has r s.entries → r.number ≤ F
    low r h =
        let w = (recorded g F s.entries i.records r h).0 in
        let n = ((i.workers r.log).numbers r h refl).0 in
        let c = all_flushed r.log w.0 w.1 in omega arith

-- ## Syncs

-- all flushed numbers are the greatest clock
synced_all : (g : Opening) (s : State) (n : ℕ) → n ≡ most (λ w. (s.worker w).clock) g.workers → IsAllFlushed g (happens g s (Event.Sync n))
synced_all g s n is w some among =
    let c = le_most (λ w. (s.worker w).clock) g.workers w (some, among) in
    let l = le_least (λ _. n) g.workers n g.some_worker (λ v _. omega arith) in omega arith

synced_is : (g : Opening) (s : State) (n : ℕ) → may g s (Event.Sync n) ≡ true → n ≡ most (λ w. (s.worker w).clock) g.workers
synced_is g s n m =
    let b = and_parts (n == most (λ w. (s.worker w).clock) g.workers) (not (is_behind s)) (and_parts true ((n == most (λ w. (s.worker w).clock) g.workers) && not (is_behind s)) m).1 in
    eqb-true n (most (λ w. (s.worker w).clock) g.workers) b.0

synced : (g : Opening) (es : List Event) (n : ℕ) → may g (state_after g es) (Event.Sync n) ≡ true → IsAllFlushed g (state_after g (es ++ Event.Sync n ∷ []))
synced g es n m = subst (IsAllFlushed g) (sym (state_then g es (Event.Sync n) ∙ cond-true (may g s (Event.Sync n)) (happens g s (Event.Sync n)) s m)) (synced_all g s n (synced_is g s n m))
  where
    s : State
    s = state_after g es

-- no clock rises
abbrev Stay : (s t : State) → Type 0
Stay s t = (w : ℕ) → (t.worker w).clock ≤ (s.worker w).clock

-- ..unless by a sync
stay_event : (g : Opening) (s : State) (e : Event) → raises_clock e ≡ false → ((n : ℕ) × (e ≡ Event.Sync n)) ⊎ Stay s (happens g s e)
stay_event g s (Event.Lock w i mode) q = absurd (true≢false q)
stay_event g s (Event.Read w p k a) q = absurd (true≢false q)
stay_event g s (Event.Next w p k a) q = absurd (true≢false q)
stay_event g s (Event.Change w p k v) q = absurd (true≢false q)
stay_event g s (Event.Put_back w p) q = absurd (true≢false q)
stay_event g s (Event.Split w l r p i) q = absurd (true≢false q)
stay_event g s (Event.Lift w c) q = absurd (true≢false q)
stay_event g s (Event.Join w l r p) q = absurd (true≢false q)
stay_event g s (Event.Drop w c) q = absurd (true≢false q)
stay_event g s (Event.Purge w p keys) q = absurd (true≢false q)
stay_event g s (Event.End w commit f) q = absurd (true≢false q)
stay_event g s (Event.Sync n) q = inl (n, refl)
stay_event g s (Event.Begin w f) q = inr (λ v. at_place (λ j b. b.clock ≤ (s.worker j).clock) s.worker w (begun (s.worker w) f) v (λ e. let c = ap (λ (j : ℕ). (s.worker j).clock) e in omega arith) (λ _. omega arith))
stay_event g s _ q = inr (λ v. omega arith)

module _ (rises : EveryRise) (g : Opening) where
  one : (es : List Event) (e : Event) → raises_clock e ≡ false → IsAllFlushed g (state_after g es) → IsAllFlushed g (state_after g (es ++ e ∷ []))
  one es e q all_flushed = subst (IsAllFlushed g) (sym (state_then g es e)) (step_keeps (IsAllFlushed g) g s e all_flushed happened)
    where
      s : State
      s = state_after g es

      happened : may g s e ≡ true → IsAllFlushed g (happens g s e)
      happened m = elim (stay_event g s e q) [
        | inl sync ↦ subst (λ (x : Event). IsAllFlushed g (happens g s x)) (sym sync.1) (synced_all g s sync.0 (synced_is g s sync.0 (ap (may g s) (sym sync.1) ∙ m)))
        | inr stay ↦ λ w some among. (let a = stay w in let b = all_flushed w some among in let c = (rises g es (e ∷ [])).flushed_by_all in let d = ap (flushed_by_all g) (cond-true (may g s e) (happens g s e) s m) in omega arith)
      ]

  stays : (later es : List Event) → any raises_clock later ≡ false → IsAllFlushed g (state_after g es) → IsAllFlushed g (state_after g (es ++ later))
  stays [] es q all_flushed = subst (λ (l : List Event). IsAllFlushed g (state_after g l)) (sym (append-nil es)) all_flushed
  stays (e ∷ later) es q all_flushed =
      let b = or_none (raises_clock e) (any raises_clock later) q in
      subst (λ (l : List Event). IsAllFlushed g (state_after g l)) (append_assoc es (e ∷ []) later) (stays later (es ++ e ∷ []) b.1 (one es e b.0 all_flushed))
    where
      or_none : (a b : Bool) → (a || b) ≡ false → (a ≡ false) × (b ≡ false)
      or_none true b q = absurd (true≢false q)
      or_none false b q = (refl, q)

pub every_sync : EveryLow → EveryRise → EverySync
every_sync lows rises g es = record {
  synced = synced g es;
  stays = λ later. stays rises g later es;
  saves = λ all_flushed p framed. and_from (not (is_cold (s.place p))) (leb (s.page p).gsn (flushed_by_all g s)) (not_from_false (is_cold (s.place p)) framed) (le-leb (s.page p).gsn (flushed_by_all g s) (lows g es all_flushed p));
}
  where
    s : State
    s = state_after g es
