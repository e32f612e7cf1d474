-- Events among which one step is taken: what they tell of a session, and how it stands behind them.
use Rattle.std.proofs.Common.{◌≡◌, ℕ, suc, Bool, true, false, cond, ◌&&◌, List, [], ◌∷◌, ◌++◌, Option, Some, None, refl, sym, ◌∙◌, ap, subst, true≢false}
use Rattle.std.proofs.lemmas.Bool.{eq-eqb, or_parts}
use Rattle.map_model.specs.declared.call.Call.{Call}
use Rattle.map_model.specs.declared.call.Call.TheVariants as call
use Rattle.map_model.specs.declared.call.Refusal.{Refusal}
use Rattle.map_model.specs.declared.call.Refusal.TheVariants as refusal
use Rattle.map_model.specs.Histories.{Step}
use Rattle.map_model.specs.Lists.{any, keep, upd}
use Rattle.lean_shell.specs.core_state.Events.{Event}
use Rattle.lean_shell.specs.core_state.Local.{is_of}
use Rattle.lean_shell.specs.core_state.Needs.{may}
use Rattle.lean_shell.specs.core_state.Openings.{Opening}
use Rattle.lean_shell.specs.core_state.States.{State, Worker}
use Rattle.lean_shell.specs.core_state.Steps.{AllMet, begun, happens, run, state_after, step}
use Rattle.lean_shell.specs.core_calls.Deeds.{Refused, Unsaid}
use Rattle.lean_shell.specs.core_calls.Fronts.{Done, front, outcomes}
use Rattle.lean_shell.specs.core_calls.LogEvents.{IsPressedYet, RefusedLogs, SyncsWhere, is_log}
use Rattle.lean_shell.specs.core_calls.Marks.{Mark, Began, Ended, mark, marks, onto}
use Rattle.lean_shell.specs.core_calls.Runs.{Tells}
use Rattle.lean_shell.specs.core_calls.Steps.{Tries, Unlocks, call_behind, is_behind_row, is_change_call, is_step, is_structure}
use Rattle.lean_shell.proofs.core_calls.WhereLemmas.{commit_never, syncs_nowhere}
use Rattle.lean_shell.specs.engine_trait.Limits.{limits}

abbrev is_sync : Event → Bool
is_sync (Event.Sync n) = true
is_sync _ = false

-- no event changes the tree, and none is a sync
abbrev pub AreStill : List Event → Type 0
AreStill [] = Unit {0}
AreStill (e ∷ es) = (is_structure e ≡ false) × (is_sync e ≡ false) × AreStill es

no_sync : (e : Event) → is_log e ≡ false → is_sync e ≡ false
no_sync (Event.Sync n) q = absurd (true≢false q)
no_sync _ q = refl

pub still : (es : List Event) → any is_structure es ≡ false → keep is_log es ≡ [] → AreStill es
still [] a b = tt
still (e ∷ es) a b = go (is_log e) refl (or_parts (is_structure e) (any is_structure es) a).0 (still es (or_parts (is_structure e) (any is_structure es) a).1) b
  where
    go : (c : Bool) → is_log e ≡ c → is_structure e ≡ false → (keep is_log es ≡ [] → AreStill es) → cond c (e ∷ keep is_log es) (keep is_log es) ≡ [] → AreStill (e ∷ es)
    go true q first rest k = absurd (cc)
    go false q first rest k = (first, no_sync e q, rest k)

-- behind which one log may be flushed
pub still_flush : (es : List Event) (b : Bool) (w n : ℕ) → any is_structure (es ++ cond b (Event.Flush w n ∷ []) []) ≡ false → any is_log es ≡ false → AreStill (es ++ cond b (Event.Flush w n ∷ []) [])
still_flush [] true w n a q = (refl, refl, tt)
still_flush [] false w n a q = tt
still_flush (e ∷ es) b w n a q =
    let p = or_parts (is_structure e) (any is_structure (es ++ cond b (Event.Flush w n ∷ []) [])) a in
    let l = or_parts (is_log e) (any is_log es) q in
    (p.0, no_sync e l.0, still_flush es b w n p.1 l.1)

-- what was set of a worker
set_here : (f : ℕ → Worker) (own : ℕ) (a : Worker) → upd f own a own ≡ a
set_here f own a = ap (λ (b : Bool). cond b a (f own)) (eq-eqb own own refl)

-- ## Events that are no steps

module _ (g : Opening) (own : ℕ) where
  same_workers : (s : State) (e : Event) → is_step e ≡ false → is_structure e ≡ false → is_sync e ≡ false → (happens g s e).worker ≡ s.worker
  same_workers s (Event.Begin w f) a b c = absurd (true≢false a)
  same_workers s (Event.Lock w i mode) a b c = absurd (true≢false a)
  same_workers s (Event.Read w p k v) a b c = absurd (true≢false a)
  same_workers s (Event.Next w p k v) a b c = absurd (true≢false a)
  same_workers s (Event.Change w p k v) a b c = absurd (true≢false a)
  same_workers s (Event.Put_back w p) a b c = absurd (true≢false a)
  same_workers s (Event.End w commit f) a b c = absurd (true≢false a)
  same_workers s (Event.Split w l r q i) a b c = absurd (true≢false b)
  same_workers s (Event.Lift w d) a b c = absurd (true≢false b)
  same_workers s (Event.Join w l r q) a b c = absurd (true≢false b)
  same_workers s (Event.Drop w d) a b c = absurd (true≢false b)
  same_workers s (Event.Purge w p keys) a b c = absurd (true≢false b)
  same_workers s (Event.Sync n) a b c = absurd (true≢false c)
  same_workers s _ a b c = refl

  same_step : (s : State) (e : Event) → is_step e ≡ false → is_structure e ≡ false → is_sync e ≡ false → (step g s e).worker ≡ s.worker
  same_step s e a b c = go (may g s e)
    where
      go : (m : Bool) → (cond m (happens g s e) s).worker ≡ s.worker
      go true = same_workers s e a b c
      go false = refl

  pub same_run : (s : State) (es : List Event) → AreStill es → keep is_step es ≡ [] → (run g s es).worker ≡ s.worker
  same_run s [] still k = refl
  same_run s (e ∷ es) still k = go (is_step e) refl (same_run (step g s e) es still.2) k
    where
      go : (b : Bool) → is_step e ≡ b → (keep is_step es ≡ [] → (run g (step g s e) es).worker ≡ (step g s e).worker) → cond b (e ∷ keep is_step es) (keep is_step es) ≡ [] → (run g (step g s e) es).worker ≡ s.worker
      go true q ih h = absurd (cc)
      go false q ih h = ih h ∙ same_step s e q still.0 still.1

  -- they tell nothing
  no_mark : (s : State) (e : Event) → is_step e ≡ false → mark g s e ≡ None
  no_mark s (Event.Begin w f) a = absurd (true≢false a)
  no_mark s (Event.Lock w i mode) a = absurd (true≢false a)
  no_mark s (Event.Read w p k v) a = absurd (true≢false a)
  no_mark s (Event.Next w p k v) a = absurd (true≢false a)
  no_mark s (Event.Change w p k v) a = absurd (true≢false a)
  no_mark s (Event.Put_back w p) a = absurd (true≢false a)
  no_mark s (Event.End w commit f) a = absurd (true≢false a)
  no_mark s _ a = refl

  unlock_mark : (s : State) (w : ℕ) (e : Event) (es : List Event) → Unlocks w (e ∷ es) → mark g s e ≡ None
  unlock_mark s w (Event.Unlock v i) es u = refl
  unlock_mark s w _ es u = absurd u

  unlock_rest : (w : ℕ) (e : Event) (es : List Event) → Unlocks w (e ∷ es) → Unlocks w es
  unlock_rest w (Event.Unlock v i) es u = u.1
  unlock_rest w _ es u = absurd u

  abbrev onto_at : State → Event → List Mark → List Mark
  onto_at s e ms = cond (may g s e) (cond (is_of e own) (onto (mark g s e) ms) ms) ms

  none_onto : (s : State) (e : Event) (ms : List Mark) → mark g s e ≡ None → onto_at s e ms ≡ ms
  none_onto s e ms none = ap (λ (o : Option Mark). cond (may g s e) (cond (is_of e own) (onto o ms) ms) ms) none ∙ go (may g s e) (is_of e own)
    where
      go : (a b : Bool) → cond a (cond b ms ms) ms ≡ ms
      go true true = refl
      go true false = refl
      go false b = refl

  unlocks_tell_none : (s : State) (w : ℕ) (es : List Event) (ms : List Mark) → Unlocks w (keep is_step es) → marks g s es own ms ≡ ms
  unlocks_tell_none s w [] ms u = refl
  unlocks_tell_none s w (e ∷ es) ms u =
      let here = go (is_step e) refl u in
      ap (marks g (step g s e) es own) (none_onto s e ms here.0) ∙ unlocks_tell_none (step g s e) w es ms here.1
    where
      go : (b : Bool) → is_step e ≡ b → Unlocks w (cond b (e ∷ keep is_step es) (keep is_step es)) → (mark g s e ≡ None) × Unlocks w (keep is_step es)
      go true q h = (unlock_mark s w e (keep is_step es) h, unlock_rest w e (keep is_step es) h)
      go false q h = (no_mark s e q, h)

  -- ## One step among them

  -- what it tells, by how the workers stood before it
  one_mark : (s : State) (es others : List Event) (at : Event) (m : Mark) → AllMet g s es → AreStill es → keep is_step es ≡ at ∷ others → Unlocks own others → is_of at own ≡ true →
      ((t : State) → t.worker ≡ s.worker → mark g t at ≡ Some m) → marks g s es own [] ≡ m ∷ []
  one_mark s [] others at m met still k u of tells = absurd (cc)
  one_mark s (e ∷ es) others at m met still k u of tells =
      go (is_step e) refl (λ rest same. one_mark (step g s e) es others at m met.1 still.2 rest u of (λ t is. tells t (is ∙ same))) k
    where
      go : (b : Bool) → is_step e ≡ b → (keep is_step es ≡ at ∷ others → (step g s e).worker ≡ s.worker → marks g (step g s e) es own [] ≡ m ∷ []) →
          cond b (e ∷ keep is_step es) (keep is_step es) ≡ at ∷ others → marks g (step g s e) es own (onto_at s e []) ≡ m ∷ []
      go true q ih h =
          let is : e ≡ at = cc in
          let rest : keep is_step es ≡ others = cc in
          let same : is_of e own ≡ true = ap (λ (x : Event). is_of x own) is ∙ of in
          let here : onto_at s e [] ≡ m ∷ [] =
          ap (λ (b : Bool). cond b (cond (is_of e own) (onto (mark g s e) []) []) []) met.0
          ∙ (ap (λ (b : Bool). cond b (onto (mark g s e) []) []) same
          ∙ ap (λ (o : Option Mark). onto o []) (ap (mark g s) is ∙ tells s refl)) in
          ap (marks g (step g s e) es own) here ∙ unlocks_tell_none (step g s e) own es (m ∷ []) (subst (Unlocks own) (sym rest) u)
      go false q ih h = ap (marks g (step g s e) es own) (none_onto s e [] (no_mark s e q)) ∙ ih h (same_step s e q still.0 still.1)

  -- where it is a begin, how the session stands then
  pub begun_at : (s : State) (es : List Event) (f : ℕ) → AllMet g s es → AreStill es → keep is_step es ≡ Event.Begin own f ∷ [] → (run g s es).worker own ≡ begun (s.worker own) f
  begun_at s [] f met still k = absurd (cc)
  begun_at s (e ∷ es) f met still k = go (is_step e) refl (begun_at (step g s e) es f met.1 still.2) k
    where
      go : (b : Bool) → is_step e ≡ b → (keep is_step es ≡ Event.Begin own f ∷ [] → (run g (step g s e) es).worker own ≡ begun ((step g s e).worker own) f) →
          cond b (e ∷ keep is_step es) (keep is_step es) ≡ Event.Begin own f ∷ [] → (run g (step g s e) es).worker own ≡ begun (s.worker own) f
      go true q ih h =
          let is : e ≡ Event.Begin own f = cc in
          let rest : keep is_step es ≡ [] = cc in
          ap (λ (r : ℕ → Worker). r own) (same_run (step g s e) es still.2 rest)
          ∙ (ap (λ (b : Bool). (cond b (happens g s e) s).worker own) met.0
          ∙ (ap (λ (x : Event). (happens g s x).worker own) is ∙ set_here s.worker own (begun (s.worker own) f)))
      go false q ih h = ih h ∙ ap (λ (r : ℕ → Worker). begun (r own) f) (same_step s e q still.0 still.1)

  pub begin_tells : (s : State) (es : List Event) (f : ℕ) → AllMet g s es → AreStill es → keep is_step es ≡ Event.Begin own f ∷ [] → marks g s es own [] ≡ Began (suc (s.worker own).txn) ∷ []
  begin_tells s es f met still k =
      one_mark s es [] (Event.Begin own f) (Began (suc (s.worker own).txn)) met still k tt (eq-eqb own own refl) (λ t same. ap (λ (r : ℕ → Worker). Some (Began (suc (r own).txn))) same)

  pub commit_tells : (s : State) (es others : List Event) (f : ℕ) → AllMet g s es → AreStill es → keep is_step es ≡ Event.End own true f ∷ others → Unlocks own others →
      marks g s es own [] ≡ Ended true (s.worker own).txn (suc (s.worker own).clock) ∷ []
  commit_tells s es others f met still k u =
      one_mark s es others (Event.End own true f) (Ended true (s.worker own).txn (suc (s.worker own).clock)) met still k u (eq-eqb own own refl)
      (λ t same. ap (λ (r : ℕ → Worker). Some (Ended true (r own).txn (suc (r own).clock))) same)

-- ## A call that is refused

-- no step, nothing at the logs, and the tree as it was
pub record HasNone (es : List Event) : Type 0 where
  pub steps : keep is_step es ≡ []
  pub logs : keep is_log es ≡ []
  pub structure : any is_structure es ≡ false

none_logged : (es : List Event) → any is_log es ≡ false → keep is_log es ≡ []
none_logged [] q = refl
none_logged (e ∷ es) q =
    let p = or_parts (is_log e) (any is_log es) q in
    go (is_log e) p.0 (none_logged es p.1)
  where
    go : (b : Bool) → b ≡ false → keep is_log es ≡ [] → cond b (e ∷ keep is_log es) (keep is_log es) ≡ []
    go true r k = absurd (true≢false r)
    go false r k = k

-- a first begin, since no end waits
begin_logs : (g : Opening) (own : ℕ) (why : Refusal) (es : List Event) → RefusedLogs limits g [] own call.Begin why es → keep is_log es ≡ []
begin_logs g own refusal.InTransaction es h = h
begin_logs g own refusal.RowSpent es h = h
begin_logs g own _ es h = h.1

module _ (g : Opening) (group own : ℕ) (c : Call) (why : Refusal) (backs : List Step) (us : List Unsaid) (es : List Event) where
  abbrev refused : Done
  refused = record { outcome = record { session = own; deed = Refused c why backs; unsaid = us }; events = es }

  pub begin_none : c ≡ call.Begin → Tells limits g group [] refused → HasNone es
  begin_none e t = record {
    steps = subst (λ (d : Call). Tries g own [] d why (keep is_step es)) e t.steps.2;
    logs = begin_logs g own why es (subst (λ (d : Call). RefusedLogs limits g [] own d why es) e t.logs);
    structure = t.structure (ap (λ (d : Call). is_change_call d && is_behind_row why) e);
  }

  -- and a commit that is no abort
  pub commit_none : (xs : List Done) → c ≡ call.Commit → call_behind (outcomes xs) call.Commit ≡ call.Commit → Tells limits g group xs refused → HasNone es
  commit_none xs e line t = record {
    steps = subst (λ (d : Call). Tries g own (outcomes xs) d why (keep is_step es)) (ap (call_behind (outcomes xs)) e ∙ line) t.steps.2;
    logs = none_logged es (syncs_nowhere (IsPressedYet g call.Commit why) g (commit_never g why) es (state_after g (front xs))
        (subst (λ (d : Call). SyncsWhere (IsPressedYet g d why) g (state_after g (front xs)) false es) line (subst (λ (d : Call). RefusedLogs limits g xs own d why es) e t.logs)));
    structure = t.structure (ap (λ (d : Call). is_change_call d && is_behind_row why) e);
  }
