-- What a scan tells stood there.
use Rattle.std.proofs.Common.{◌≡◌, ◌==◌, ℕ, suc, Bool, true, false, cond, List, [], ◌∷◌, ◌++◌, Option, Some, refl, sym, ◌∙◌, ap, ap₂, subst}
use Rattle.std.proofs.lemmas.Bool.{cond-true, eq-eqb}
use Rattle.map_model.specs.declared.call.Answer.TheVariants as answer
use Rattle.map_model.specs.Lists.{keep}
use Rattle.map_model.specs.Maps.{MapAnswer, MapCall}
use Rattle.buffered_engine.specs.core_state.Events.{Event, Mode}
use Rattle.buffered_engine.specs.core_state.Local.{is_of}
use Rattle.buffered_engine.specs.core_state.Needs.{is_held_by, may, value_in}
use Rattle.buffered_engine.specs.core_state.Openings.{Opening}
use Rattle.buffered_engine.specs.core_state.States.{State}
use Rattle.buffered_engine.specs.core_state.Steps.{AllMet, state_after, step}
use Rattle.buffered_engine.specs.core_calls.Deeds.{Deed, Met, Unsaid, answered, marks_of, reads_of}
use Rattle.buffered_engine.specs.core_calls.Fronts.{Done, front, outcomes}
use Rattle.buffered_engine.specs.core_calls.Marks.{Called, Mark, found_in, marks}
use Rattle.buffered_engine.specs.core_calls.Runs.{EachTells, EveryMet, Tells}
use Rattle.buffered_engine.specs.core_calls.Scans.{is_scan}
use Rattle.buffered_engine.specs.core_calls.Steps.{Goes, Walks, is_step, scan_from}
use Rattle.buffered_engine.proofs.core_calls.RunLemmas.{marks_more}
use Rattle.buffered_engine.specs.engine_trait.Limits.{limits}
use Rattle.lean_shell.specs.Runs.{ReadsPair, ScansLocked}
use Rattle.lean_shell.proofs.Runs.PrintedLemmas.{tells_first}

-- of a get that was told
abbrev got : (key value : ℕ) → (alone : Bool) → Mark
got key value alone = Called (MapCall.Get key) (MapAnswer.Value (Some value)) alone

none_told : (b c : Bool) → ◌≡◌ {A = List Mark} (cond b (cond c [] []) []) []
none_told true true = refl
none_told true false = refl
none_told false c = refl

last_one : (newer : List Mark) (x y : Mark) → newer ++ x ∷ [] ≡ y ∷ [] → x ≡ y
last_one [] x y e = cc
last_one (z ∷ []) x y e = cc
last_one (z ∷ u ∷ newer) x y e = cc

key_is : (k j : ℕ) (a : Option ℕ) (v : ℕ) (b c : Bool) → Called (MapCall.Get j) (MapAnswer.Value a) b ≡ got k v c → (j ≡ k) × (a ≡ Some v)
key_is k j a v b c e = (cc, cc)

-- behind one event more
more : (g : Opening) (s : State) (w : ℕ) (e : Event) (es : List Event) (k v : ℕ) → ReadsPair g (step g s e) w es k v → ReadsPair g s w (e ∷ es) k v
more g s w e es k v r = record { before = e ∷ r.before; after = r.after; page = r.page; at = r.at; word = r.word; is = ap (λ (l : List Event). e ∷ l) r.is; met = r.met; stood = r.stood }

module _ (g : Opening) (w k v : ℕ) (alone : Bool) (P : ℕ → Type 0) where
  quiet : (s : State) (e : Event) (es : List Event) → marks g s (e ∷ es) w [] ≡ got k v alone ∷ [] → marks g (step g s e) es w (cond (may g s e) (cond (is_of e w) [] []) []) ≡ marks g s (e ∷ es) w []
      → marks g (step g s e) es w [] ≡ got k v alone ∷ []
  quiet s e es told same = ap (marks g (step g s e) es w) (sym (none_told (may g s e) (is_of e w))) ∙ (same ∙ told)

  -- the first pair is the one that is told
  pair_told : (s : State) (u p at j x : ℕ) (es : List Event) → u ≡ w → may g s (Event.Next u p at (MapAnswer.Pair j x)) ≡ true → marks g s (Event.Next u p at (MapAnswer.Pair j x) ∷ es) w [] ≡ got k v alone ∷ []
      → (j ≡ k) × (value_in g.format (s.page p).node j ≡ Some v)
  pair_told s u p at j x es own met told = key_is k j (value_in g.format (s.page p).node j) v (is_held_by (s.row (g.row_of j)).holder u) alone
      (last_one (marks g t es w []) (found_in g s u p j) (got k v alone)
      (sym (marks_more g t es w (found_in g s u p j ∷ [])) ∙ (ap (marks g t es w) (sym first) ∙ told)))
    where
      t : State
      t = step g s (Event.Next u p at (MapAnswer.Pair j x))

      first : cond (may g s (Event.Next u p at (MapAnswer.Pair j x))) (cond (u == w) (found_in g s u p j ∷ []) []) [] ≡ found_in g s u p j ∷ []
      first = cond-true (may g s (Event.Next u p at (MapAnswer.Pair j x))) (cond (u == w) (found_in g s u p j ∷ []) []) [] met ∙ cond-true (u == w) (found_in g s u p j ∷ []) [] (eq-eqb u w own)

  here : (s : State) (u p at j x : ℕ) (es : List Event) → u ≡ w → j ≡ k → may g s (Event.Next u p at (MapAnswer.Pair j x)) ≡ true → value_in g.format (s.page p).node j ≡ Some v → ReadsPair g s w (Event.Next u p at (MapAnswer.Pair j x) ∷ es) k v
  here s u p at j x es own key met stood = record {
    before = [];
    after = es;
    page = p;
    at = at;
    word = x;
    is = ap₂ (λ (a b : ℕ). Event.Next a p at (MapAnswer.Pair b x) ∷ es) own key;
    met = subst (λ (b : ℕ). may g s (Event.Next w p at (MapAnswer.Pair b x)) ≡ true) key (subst (λ (a : ℕ). may g s (Event.Next a p at (MapAnswer.Pair j x)) ≡ true) own met);
    stood = subst (λ (b : ℕ). value_in g.format (s.page p).node b ≡ Some v) key stood;
  }

  reads_pair : (es : List Event) (s : State) (at : ℕ) → AllMet g s es → Walks w at (keep is_step es) P → marks g s es w [] ≡ got k v alone ∷ [] → ReadsPair g s w es k v
  reads_pair [] s at met walk told = absurd (cc)
  reads_pair (Event.Lock u i Mode.Shared ∷ es) s at met walk told = more g s w (Event.Lock u i Mode.Shared) es k v (reads_pair es (step g s (Event.Lock u i Mode.Shared)) at met.1 walk.1 (quiet s (Event.Lock u i Mode.Shared) es told refl))
  reads_pair (Event.Lock u i Mode.Alone ∷ es) s at met walk told = absurd walk
  reads_pair (Event.Next u p from (MapAnswer.Pair j x) ∷ es) s at met walk told =
      let q = pair_told s u p from j x es walk.0 met.0 told in here s u p from j x es walk.0 q.0 met.0 q.1
  reads_pair (Event.Next u p from (MapAnswer.Gap h) ∷ es) s at met walk told = more g s w (Event.Next u p from (MapAnswer.Gap h)) es k v (reads_pair es (step g s (Event.Next u p from (MapAnswer.Gap h))) h met.1 walk.2 (quiet s (Event.Next u p from (MapAnswer.Gap h)) es told refl))
  reads_pair (Event.Next u p from (MapAnswer.Value y) ∷ es) s at met walk told = absurd walk
  reads_pair (Event.Next u p from (MapAnswer.Was y) ∷ es) s at met walk told = absurd walk
  reads_pair (Event.Begin u f ∷ es) s at met walk told = absurd walk
  reads_pair (Event.Read u p j a ∷ es) s at met walk told = absurd walk
  reads_pair (Event.Change u p j x ∷ es) s at met walk told = absurd walk
  reads_pair (Event.Put_back u p ∷ es) s at met walk told = absurd walk
  reads_pair (Event.End u commit f ∷ es) s at met walk told = absurd walk
  reads_pair (Event.Unlock u i ∷ es) s at met walk told = absurd walk
  reads_pair (e ∷ es) s at met walk told = more g s w e es k v (reads_pair es (step g s e) at met.1 walk (quiet s e es told refl))

-- ## Of a run

told_pair : (g : Opening) (group : ℕ) (earlier : List Done) (x : Done) → Tells limits g group earlier x → (key value : ℕ) → answered x.outcome.deed ≡ answer.Pair key value → ReadsPair g (state_after g (front earlier)) x.outcome.session x.events key value
told_pair g group earlier x t key value is = go x.outcome.deed is t.steps own
  where
    w : ℕ
    w = x.outcome.session

    own : marks g (state_after g (front earlier)) x.events w [] ≡ marks_of x.outcome.deed ++ reads_of x.outcome.unsaid
    own = t.told w ∙ cond-true (w == w) (marks_of x.outcome.deed ++ reads_of x.outcome.unsaid) [] (eq-eqb w w refl)

    go : (d : Deed) → answered d ≡ answer.Pair key value → Goes limits g w (outcomes earlier) x.outcome.unsaid d (keep is_step x.events) → marks g (state_after g (front earlier)) x.events w [] ≡ marks_of d ++ reads_of x.outcome.unsaid
        → ReadsPair g (state_after g (front earlier)) w x.events key value
    go (Met from to k v alone) e goes told =
        let names = same k v e in
        subst (λ (a : ℕ). ReadsPair g (state_after g (front earlier)) w x.events a value) names.0
        (subst (λ (b : ℕ). ReadsPair g (state_after g (front earlier)) w x.events k b) names.1
        (reads_pair g w k v alone (λ n. n ≡ suc k) x.events (state_after g (front earlier)) (scan_from (outcomes earlier) from) t.met goes.3
        (told ∙ ap (λ (us : List Unsaid). got k v alone ∷ reads_of us) goes.0)))
      where
        same : (k v : ℕ) → answer.Pair k v ≡ answer.Pair key value → (k ≡ key) × (v ≡ value)
        same k v e = (cc, cc)
    go _ e goes told = absurd (cc)

pub scans_locked : EveryMet → (g : Opening) (group : ℕ) (calls : List Done) → EachTells limits g group calls → (later earlier : List Done) (x : Done) → later ++ x ∷ earlier ≡ calls → is_scan x.outcome.deed ≡ true → ScansLocked g earlier x
scans_locked law g group calls each later earlier x are is =
    let t = (tells_first g group later (x ∷ earlier) (subst (EachTells limits g group) (sym are) each)).1 in
    record { held = law limits g group earlier x t is; told = told_pair g group earlier x t }
