-- Syncs that stand where something is so.
use Rattle.std.proofs.Common.{◌≡◌, ℕ, Bool, true, false, List, [], ◌∷◌, ◌++◌, refl, sym, subst, true≢false}
use Rattle.map_model.specs.declared.call.Call.{Call}
use Rattle.map_model.specs.declared.call.Call.TheVariants as call
use Rattle.map_model.specs.declared.call.Refusal.{Refusal}
use Rattle.map_model.specs.declared.call.Refusal.TheVariants as refusal
use Rattle.map_model.specs.Lists.{any, keep}
use Rattle.core_crash.specs.core_state.Openings.{Opening}
use Rattle.core_crash.specs.core_state.Events.{Event}
use Rattle.core_crash.specs.core_state.States.{State}
use Rattle.core_crash.specs.core_state.Steps.{run, state_after, step}
use Rattle.core_calls.specs.Fronts.{Done, front, outcomes}
use Rattle.core_calls.specs.LogEvents.{AreFlushes, AreSyncs, EveryWhere, IsPressed, IsPressedYet, IsSync, Prepares, RefusedLogs, SyncsWhere, is_log}
use Rattle.core_calls.specs.Refusals.{Limits}
use Rattle.core_calls.specs.Steps.{call_behind}

-- at the logs there is nothing else
pub syncs_alone : (P : State → Type 0) (g : Opening) (es : List Event) (s : State) (b : Bool) → SyncsWhere P g s b es → AreSyncs b (keep is_log es)
syncs_alone P g [] s false x = tt
syncs_alone P g [] s true x = absurd x
syncs_alone P g (Event.Cut y heads ∷ es) s false x = absurd x
syncs_alone P g (Event.Cut y heads ∷ es) s true x = absurd x
syncs_alone P g (Event.Flush w n ∷ es) s false x = syncs_alone P g es (step g s (Event.Flush w n)) true x.1
syncs_alone P g (Event.Flush w n ∷ es) s true x = syncs_alone P g es (step g s (Event.Flush w n)) true x
syncs_alone P g (Event.Sync n ∷ es) s false x = syncs_alone P g es (step g s (Event.Sync n)) false x.1
syncs_alone P g (Event.Sync n ∷ es) s true x = syncs_alone P g es (step g s (Event.Sync n)) false x
syncs_alone P g (e ∷ es) s false x = syncs_alone P g es (step g s e) false x
syncs_alone P g (e ∷ es) s true x = absurd x

-- events that do nothing to logs have none
pub syncs_none : (P : State → Type 0) (g : Opening) (es : List Event) (s : State) → any is_log es ≡ false → SyncsWhere P g s false es
syncs_none P g [] s n = tt
syncs_none P g (Event.Cut y heads ∷ es) s n = absurd (true≢false n)
syncs_none P g (Event.Flush w m ∷ es) s n = absurd (true≢false n)
syncs_none P g (Event.Sync m ∷ es) s n = absurd (true≢false n)
syncs_none P g (e ∷ es) s n = syncs_none P g es (step g s e) n

pub syncs_kept : (P : State → Type 0) (g : Opening) (es : List Event) (s : State) → keep is_log es ≡ [] → SyncsWhere P g s false es
syncs_kept P g es s n = syncs_none P g es s (none_kept es n)
  where
    none_kept : (es : List Event) → keep is_log es ≡ [] → any is_log es ≡ false
    none_kept [] n = refl
    none_kept (Event.Cut y heads ∷ es) n = absurd (cc)
    none_kept (Event.Flush w m ∷ es) n = absurd (cc)
    none_kept (Event.Sync m ∷ es) n = absurd (cc)
    none_kept (e ∷ es) n = none_kept es n

-- where it never is so, there are none
pub syncs_nowhere : (P : State → Type 0) (g : Opening) → ((t : State) → P t → ⊥) → (es : List Event) (s : State) → SyncsWhere P g s false es → any is_log es ≡ false
syncs_nowhere P g h [] s x = refl
syncs_nowhere P g h (Event.Cut y heads ∷ es) s x = absurd x
syncs_nowhere P g h (Event.Flush w n ∷ es) s x = absurd (h s x.0)
syncs_nowhere P g h (Event.Sync n ∷ es) s x = absurd (h s x.0)
syncs_nowhere P g h (e ∷ es) s x = syncs_nowhere P g h es (step g s e) x

-- a commit comes to no page
pub commit_never : (g : Opening) (why : Refusal) (s : State) → IsPressedYet g call.Commit why s → ⊥
commit_never g refusal.TooTall s p = p
commit_never g refusal.NoPages s p = p
commit_never g refusal.ClockSpent s p = p
commit_never g refusal.RowSpent s p = p
commit_never g why s p = p

-- further events
pub syncs_more : (P : State → Type 0) (g : Opening) (es fs : List Event) (s : State) (b : Bool) → SyncsWhere P g s b es → SyncsWhere P g (run g s es) false fs → SyncsWhere P g s b (es ++ fs)
syncs_more P g [] fs s false x y = y
syncs_more P g [] fs s true x y = absurd x
syncs_more P g (Event.Cut z heads ∷ es) fs s false x y = absurd x
syncs_more P g (Event.Cut z heads ∷ es) fs s true x y = absurd x
syncs_more P g (Event.Flush w n ∷ es) fs s false x y = (x.0, syncs_more P g es fs (step g s (Event.Flush w n)) true x.1 y)
syncs_more P g (Event.Flush w n ∷ es) fs s true x y = syncs_more P g es fs (step g s (Event.Flush w n)) true x y
syncs_more P g (Event.Sync n ∷ es) fs s false x y = (x.0, syncs_more P g es fs (step g s (Event.Sync n)) false x.1 y)
syncs_more P g (Event.Sync n ∷ es) fs s true x y = syncs_more P g es fs (step g s (Event.Sync n)) false x y
syncs_more P g (e ∷ es) fs s false x y = syncs_more P g es fs (step g s e) false x y
syncs_more P g (e ∷ es) fs s true x y = absurd x

-- a sync that is made at once
flushed_on : (P : State → Type 0) (g : Opening) (n : ℕ) (fl : List Event) (s : State) → AreFlushes fl → SyncsWhere P g s true (fl ++ Event.Sync n ∷ [])
flushed_on P g n [] s a = tt
flushed_on P g n (Event.Flush w m ∷ fl) s a = flushed_on P g n fl (step g s (Event.Flush w m)) a
flushed_on P g n (e ∷ fl) s a = absurd a

due_from : (P : State → Type 0) (g : Opening) (n : ℕ) (fl : List Event) (s : State) → AreFlushes fl → P s → SyncsWhere P g s false (fl ++ Event.Sync n ∷ [])
due_from P g n [] s a p = (p, tt)
due_from P g n (Event.Flush w m ∷ fl) s a p = (p, flushed_on P g n fl (step g s (Event.Flush w m)) a)
due_from P g n (e ∷ fl) s a p = absurd a

pub syncs_due : (P : State → Type 0) (g : Opening) (n : ℕ) (es : List Event) (s : State) → IsSync n es → P s → SyncsWhere P g s false es
syncs_due P g n es s i p = subst (SyncsWhere P g s false) (sym i.1) (due_from P g n i.0 s i.2 p)

-- a lesser thing to say
pub syncs_weaker : (P Q : State → Type 0) → ((t : State) → P t → Q t) → (g : Opening) (es : List Event) (s : State) (b : Bool) → SyncsWhere P g s b es → SyncsWhere Q g s b es
syncs_weaker P Q h g [] s false x = tt
syncs_weaker P Q h g [] s true x = absurd x
syncs_weaker P Q h g (Event.Cut z heads ∷ es) s false x = absurd x
syncs_weaker P Q h g (Event.Cut z heads ∷ es) s true x = absurd x
syncs_weaker P Q h g (Event.Flush w n ∷ es) s false x = (h s x.0, syncs_weaker P Q h g es (step g s (Event.Flush w n)) true x.1)
syncs_weaker P Q h g (Event.Flush w n ∷ es) s true x = syncs_weaker P Q h g es (step g s (Event.Flush w n)) true x
syncs_weaker P Q h g (Event.Sync n ∷ es) s false x = (h s x.0, syncs_weaker P Q h g es (step g s (Event.Sync n)) false x.1)
syncs_weaker P Q h g (Event.Sync n ∷ es) s true x = syncs_weaker P Q h g es (step g s (Event.Sync n)) false x
syncs_weaker P Q h g (e ∷ es) s false x = syncs_weaker P Q h g es (step g s e) false x
syncs_weaker P Q h g (e ∷ es) s true x = absurd x

-- a refused call that has nothing to do at the logs
pub refused_kept : (l : Limits) (g : Opening) (earlier : List Done) (w : ℕ) (c : Call) (why : Refusal) (es : List Event) → RefusedLogs l g earlier w c why [] → keep is_log es ≡ [] → RefusedLogs l g earlier w c why es
refused_kept l g earlier w call.Begin refusal.InTransaction es d n = n
refused_kept l g earlier w call.Begin refusal.RowSpent es d n = n
refused_kept l g earlier w call.Begin why es d n = (d.0, subst (Prepares d.0 l g earlier w) (sym n) d.1)
refused_kept l g earlier w c why es d n = syncs_kept (IsPressedYet g (call_behind (outcomes earlier) c) why) g es (state_after g (front earlier)) n

pub every_where : EveryWhere
every_where c d g s es = record {
  alone = λ b x. syncs_alone (IsPressed g c) g es s b x;
  none = λ n. syncs_none (IsPressed g c) g es s n;
  nowhere = λ h x. syncs_nowhere (IsPressed g c) g h es s x;
  more = λ fs x y. syncs_more (IsPressed g c) g es fs s false x y;
  due = λ n i p. syncs_due (IsPressed g c) g n es s i p;
  weaker = λ b h x. syncs_weaker (IsPressed g c) (IsPressed g d) h g es s b x;
}
