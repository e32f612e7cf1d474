-- No master's floor is above a worker's clock, so a commit has a number above it.
use Rattle.std.proofs.Common.{◌≡◌, ◌≤◌, ◌<◌, ◌&&◌, ℕ, suc, Bool, true, false, cond, leb, List, [], ◌∷◌, ◌++◌, Option, Some, None, refl, sym, ap, ◌∙◌, subst, inl, inr, arith, true≢false}
use Rattle.std.proofs.lemmas.Bool.{and_parts}
use Rattle.map_model.specs.Lists.{Has, any}
use Rattle.map_model.specs.Maps.{MapAnswer}
use Rattle.buffered_engine.specs.image_model.Entries.{Entry}
use Rattle.buffered_engine.specs.core_state.Openings.{Opening}
use Rattle.buffered_engine.specs.core_state.States.{State, start, flushed_by_all}
use Rattle.buffered_engine.specs.core_state.Events.{Event}
use Rattle.buffered_engine.specs.core_state.Local.{is_of}
use Rattle.buffered_engine.specs.core_state.Needs.{are_hot, may, needs, pages_of}
use Rattle.buffered_engine.specs.core_state.Steps.{happens, run, state_after, step}
use Rattle.buffered_engine.proofs.core_state.Runs.{run_more}
use Rattle.buffered_engine.specs.core_commit.Rises.{EveryRise}
use Rattle.buffered_engine.proofs.core_commit.Invariants.{Inv}
use Rattle.buffered_engine.proofs.core_commit.Lists.{Within, least_le}
use Rattle.buffered_engine.proofs.core_commit.Runs.{good_run, good_start}
use Rattle.buffered_engine.specs.core_calls.Deeds.{Committed, Deed, marks_for, marks_of}
use Rattle.buffered_engine.specs.core_calls.Fronts.{Done, front}
use Rattle.buffered_engine.specs.core_calls.LogEvents.{Flushes, LogsGo, is_log}
use Rattle.buffered_engine.specs.core_calls.Marks.{Ended, Mark, back_in, mark, marks, onto}
use Rattle.buffered_engine.specs.core_calls.Runs.{Tells}
use Rattle.buffered_engine.specs.engine_trait.Limits.{limits}

-- ## Floors and clocks

-- the event moves the floor
abbrev is_rise : Event → Bool
is_rise (Event.Sync n) = true
is_rise (Event.Cut x heads) = true
is_rise _ = false

floor_same : (g : Opening) (s : State) (e : Event) → is_rise e ≡ false → (happens g s e).floor ≡ s.floor
floor_same g s (Event.Sync n) q = absurd (true≢false q)
floor_same g s (Event.Cut x heads) q = absurd (true≢false q)
floor_same g s (Event.Next w p k (MapAnswer.Pair at v)) q = refl
floor_same g s (Event.Next w p k _) q = refl
floor_same g s (Event.Put_back w p) q = back (s.worker w).changes
  where
    back : (cs : List Entry) → (Rattle.buffered_engine.specs.core_state.Steps.put_back g s w p cs).floor ≡ s.floor
    back [] = refl
    back (c ∷ cs) = refl
floor_same g s _ q = refl

inv_of : (g : Opening) (before : List Event) → Inv g (run g (start g) before)
inv_of g before = (good_run g before (start g) (good_start g)).inv

abbrev AreBelow : Opening → State → Type 0
AreBelow g s = (w : ℕ) → Within g.workers w → s.floor ≤ (s.worker w).clock

module _ (rises : EveryRise) (g : Opening) where
  below_step : (before : List Event) (e : Event) → AreBelow g (run g (start g) before) → AreBelow g (step g (run g (start g) before) e)
  below_step before e low w within = go e (may g s e) ((rises g before (e ∷ [])).clocks w)
    where
      s : State
      s = run g (start g) before

      stays : (e : Event) → is_rise e ≡ false → (s.worker w).clock ≤ ((happens g s e).worker w).clock → (happens g s e).floor ≤ ((happens g s e).worker w).clock
      stays e q up = let a = low w within in let b = floor_same g s e q in omega arith

      moved : (e : Event) → (s.worker w).clock ≤ ((happens g s e).worker w).clock → (happens g s e).floor ≤ ((happens g s e).worker w).clock
      moved (Event.Sync n) up = omega arith
      moved (Event.Cut x heads) up =
          let a = low w within in
          let b = least_le s.flushed g.workers w within in
          let c = ((inv_of g before).workers w).flushed in
          omega arith
      moved e up = stays e refl up

      go : (e : Event) (b : Bool) → (s.worker w).clock ≤ ((cond b (happens g s e) s).worker w).clock → (cond b (happens g s e) s).floor ≤ ((cond b (happens g s e) s).worker w).clock
      go e true up = moved e up
      go e false up = low w within

  below_run : (es before : List Event) → AreBelow g (run g (start g) before) → AreBelow g (run g (run g (start g) before) es)
  below_run [] before low = low
  below_run (e ∷ es) before low =
      subst (λ (s : State). AreBelow g (run g s es)) (run_more g (start g) before (e ∷ []))
      (below_run es (before ++ e ∷ []) (subst (AreBelow g) (sym (run_more g (start g) before (e ∷ []))) (below_step before e low)))

  below : (es : List Event) → AreBelow g (run g (start g) es)
  below es = below_run es [] (λ w within. omega arith)

  -- ## The numbers of ends

  -- an end has a number above this
  abbrev IsAbove : ℕ → Mark → Type 0
  IsAbove floor (Ended c n at) = floor < at
  IsAbove floor _ = Unit {0}

  abbrev AllAbove : ℕ → List Mark → Type 0
  AllAbove floor ms = (m : Mark) → Has m ms → IsAbove floor m

  onto_above : (floor : ℕ) (o : Option Mark) (ms : List Mark) → ((m : Mark) → o ≡ Some m → IsAbove floor m) → AllAbove floor ms → AllAbove floor (onto o ms)
  onto_above floor None ms new old = old
  onto_above floor (Some m) ms new old = λ k h. go k h
    where
      go : (k : Mark) → Has k (m ∷ ms) → IsAbove floor k
      go k (inl e) = subst (IsAbove floor) (sym e) (new m refl)
      go k (inr h) = old k h

  -- what one event tells
  end_above : (before : List Event) (floor : ℕ) → floor ≤ (run g (start g) before).floor → (e : Event) → may g (run g (start g) before) e ≡ true → (m : Mark) → mark g (run g (start g) before) e ≡ Some m → IsAbove floor m
  end_above before floor low e met m q = go e met m q
    where
      s : State
      s = run g (start g) before

      none : (m : Mark) → ◌≡◌ {A = Option Mark} None (Some m) → IsAbove floor m
      none m q = absurd (cc)

      some_is : (a b : Mark) → Some a ≡ Some b → a ≡ b
      some_is a b q = cc

      back : (cs : List Entry) (p : ℕ) → (m : Mark) → back_in g s p cs ≡ Some m → IsAbove floor m
      back [] p m q = none m q
      back (c ∷ cs) p m q = subst (IsAbove floor) (some_is _ m q) tt

      go : (e : Event) → may g s e ≡ true → (m : Mark) → mark g s e ≡ Some m → IsAbove floor m
      go (Event.End w commit f) met m q =
          let needed = (and_parts (are_hot s (pages_of (Event.End w commit f))) (needs g s (Event.End w commit f)) met).1 in
          let is_open = (and_parts (s.worker w).is_open (leb (s.worker w).floor f && (leb f (flushed_by_all g s) && Rattle.std.proofs.Common.◌||◌ commit (Rattle.buffered_engine.specs.core_state.Lists.is_empty (s.worker w).changes))) needed).0 in
          let within = ((inv_of g before).workers w).is_log is_open in
          let b = below before w within in
          subst (IsAbove floor) (some_is (Ended commit (s.worker w).txn (suc (s.worker w).clock)) m q) (omega arith)
      go (Event.Begin w f) met m q = subst (IsAbove floor) (some_is _ m q) tt
      go (Event.Read w p k a) met m q = subst (IsAbove floor) (some_is _ m q) tt
      go (Event.Next w p k (MapAnswer.Pair at v)) met m q = subst (IsAbove floor) (some_is _ m q) tt
      go (Event.Next w p k _) met m q = none m q
      go (Event.Change w p k v) met m q = subst (IsAbove floor) (some_is _ m q) tt
      go (Event.Put_back w p) met m q = back (s.worker w).changes p m q
      go _ met m q = none m q

  marks_above : (es before : List Event) (w floor : ℕ) (ms : List Mark) → floor ≤ (run g (start g) before).floor → AllAbove floor ms → AllAbove floor (marks g (run g (start g) before) es w ms)
  marks_above [] before w floor ms low old = old
  marks_above (e ∷ es) before w floor ms low old =
      subst (λ (s : State). AllAbove floor (marks g s es w (cond (may g (run g (start g) before) e) (cond (is_of e w) (onto (mark g (run g (start g) before) e) ms) ms) ms))) (run_more g (start g) before (e ∷ []))
      (marks_above es (before ++ e ∷ []) w floor (cond (may g (run g (start g) before) e) (cond (is_of e w) (onto (mark g (run g (start g) before) e) ms) ms) ms)
      (subst (λ (s : State). floor ≤ s.floor) (sym (run_more g (start g) before (e ∷ []))) (let r = (rises g before (e ∷ [])).floor in omega arith))
      (now (may g (run g (start g) before) e) (is_of e w) (end_above before floor low e)))
    where
      now : (b c : Bool) → (b ≡ true → (m : Mark) → mark g (run g (start g) before) e ≡ Some m → IsAbove floor m) → AllAbove floor (cond b (cond c (onto (mark g (run g (start g) before) e) ms) ms) ms)
      now true true new = onto_above floor (mark g (run g (start g) before) e) ms (new refl) old
      now true false new = old
      now false c new = old

  -- ## A commit

  -- what only flushes moves no floor
  floor_run : (es : List Event) (s : State) → any is_log es ≡ false → (run g s es).floor ≡ s.floor
  floor_run [] s q = refl
  floor_run (e ∷ es) s q = floor_run es (step g s e) (later (is_log e) (any is_log es) q) ∙ one (may g s e) (no_rise e (now (is_log e) (any is_log es) q))
    where
      later : (b c : Bool) → Rattle.std.proofs.Common.◌||◌ b c ≡ false → c ≡ false
      later true c q = absurd (true≢false q)
      later false c q = q

      now : (b c : Bool) → Rattle.std.proofs.Common.◌||◌ b c ≡ false → b ≡ false
      now true c q = absurd (true≢false q)
      now false c q = refl

      no_rise : (e : Event) → is_log e ≡ false → is_rise e ≡ false
      no_rise (Event.Sync n) q = absurd (true≢false q)
      no_rise (Event.Cut x heads) q = absurd (true≢false q)
      no_rise e q = refl

      one : (b : Bool) → is_rise e ≡ false → (cond b (happens g s e) s).floor ≡ s.floor
      one true q = floor_same g s e q
      one false q = refl

  -- a commit's number is above the floor, at each moment of its call
  pub commit_above : (group : ℕ) (heard : List Done) (x : Done) (n at : ℕ) → Tells limits g group heard x → x.outcome.deed ≡ Committed n at → (behind after : List Event) → behind ++ after ≡ x.events → (state_after g (front heard ++ behind)).floor < at
  commit_above group heard x n at t deed behind after split =
      let high = above in
      let same = whole in
      let up = rises_in in
      omega arith
    where
      s : State
      s = state_after g (front heard)

      has : Has (Ended true n at) (marks g s x.events x.outcome.session [])
      has = subst (Has (Ended true n at)) (sym (t.told x.outcome.session ∙ Rattle.std.proofs.lemmas.Bool.cond-true (Rattle.std.proofs.Common.◌==◌ x.outcome.session x.outcome.session) (marks_for x.outcome) [] (Rattle.std.proofs.lemmas.Bool.eq-eqb x.outcome.session x.outcome.session refl)))
          (subst (λ (d : Deed). Has (Ended true n at) (marks_of d ++ Rattle.buffered_engine.specs.core_calls.Deeds.reads_of x.outcome.unsaid)) (sym deed) (inl refl))

      above : s.floor < at
      above = marks_above x.events (front heard) x.outcome.session s.floor [] (omega arith) (λ m h. absurd h) (Ended true n at) has

      flushes : Flushes g group s x.outcome.session at x.events
      flushes = subst (λ (d : Deed). LogsGo limits g group heard x.outcome.session d x.events) deed t.logs

      last : (b : Bool) (r : State) → (run g r (cond b (Event.Flush x.outcome.session at ∷ []) [])).floor ≡ r.floor
      last true r = one (may g r (Event.Flush x.outcome.session at))
        where
          one : (b : Bool) → (cond b (happens g r (Event.Flush x.outcome.session at)) r).floor ≡ r.floor
          one true = refl
          one false = refl
      last false r = refl

      whole : (run g s x.events).floor ≡ s.floor
      whole =
          ap (λ (es : List Event). (run g s es).floor) flushes.is
          ∙ (ap (λ (r : State). r.floor) (run_more g s flushes.before (cond (leb group (Rattle.buffered_engine.specs.core_calls.LogEvents.behind (run g s flushes.before) x.outcome.session)) (Event.Flush x.outcome.session at ∷ []) []))
          ∙ (last (leb group (Rattle.buffered_engine.specs.core_calls.LogEvents.behind (run g s flushes.before) x.outcome.session)) (run g s flushes.before) ∙ floor_run flushes.before s flushes.else_none))

      rises_in : (state_after g (front heard ++ behind)).floor ≤ (run g s x.events).floor
      rises_in =
          let r = (rises g (front heard ++ behind) after).floor in
          let e : run g (state_after g (front heard ++ behind)) after ≡ run g s x.events = ap (λ (q : State). run g q after) (run_more g (start g) (front heard) behind) ∙ (sym (run_more g s behind after) ∙ ap (run g s) split) in
          let f = ap (λ (q : State). q.floor) e in
          omega arith
