-- What events do to ends: an end adds one, and other events none; what is ripe stays so.
use Rattle.std.proofs.Common.{◌≡◌, ◌≤◌, Bool, true, false, cond, leb, List, [], ◌∷◌, refl, ◌∙◌, subst, arith, true≢false}
use Rattle.std.proofs.lemmas.Bool.{and_from, and_parts, leb-true, le-leb, or_parts}
use Rattle.map_model.specs.Lists.{Has, keep, any}
use Rattle.map_model.specs.Maps.{MapAnswer}
use Rattle.map_model.proofs.ListLemmas.{has_keep, keep_has}
use Rattle.core_crash.specs.image_model.Entries.{Entry, is_end}
use Rattle.core_crash.specs.core_state.Openings.{Opening}
use Rattle.core_crash.specs.core_state.States.{State, start, flushed_by_all}
use Rattle.core_crash.specs.core_state.Events.{Event}
use Rattle.core_crash.specs.core_state.Needs.{may}
use Rattle.core_crash.specs.core_state.Steps.{follows, put_back, happens, step, run}
use Rattle.core_crash.specs.core_commit.Rises.{EveryRise}
use Rattle.core_calls.proofs.DurableLemmas.{entered}
use Rattle.group_commit.specs.Tracks.{is_ending, is_flushed}

abbrev pub ends_in : List Entry → List Entry
ends_in h = keep (λ (e : Entry). is_end e.kind) h

quiet : (g : Opening) (s : State) (e : Event) → is_ending e ≡ false → ends_in (happens g s e).entries ≡ ends_in s.entries
quiet g s (Event.End w commit f) q = absurd (true≢false q)
quiet g s (Event.Next w p k a) q = go a
  where
    go : (a : MapAnswer) → ends_in (follows g s w p a).entries ≡ ends_in s.entries
    go (MapAnswer.Pair at v) = refl
    go (MapAnswer.Gap h) = refl
    go (MapAnswer.Value v) = refl
    go (MapAnswer.Was v) = refl
quiet g s (Event.Put_back w p) q = go (s.worker w).changes
  where
    go : (cs : List Entry) → ends_in (put_back g s w p cs).entries ≡ ends_in s.entries
    go [] = refl
    go (c ∷ cs) = refl
quiet g s e q = refl

quiet_step : (g : Opening) (s : State) (e : Event) → is_ending e ≡ false → ends_in (step g s e).entries ≡ ends_in s.entries
quiet_step g s e q = go (may g s e)
  where
    go : (b : Bool) → ends_in (cond b (happens g s e) s).entries ≡ ends_in s.entries
    go true = quiet g s e q
    go false = refl

pub quiet_run : (g : Opening) (es : List Event) (s : State) → any is_ending es ≡ false → ends_in (run g s es).entries ≡ ends_in s.entries
quiet_run g [] s q = refl
quiet_run g (e ∷ es) s q = let p = or_parts (is_ending e) (any is_ending es) q in quiet_run g es (step g s e) p.1 ∙ quiet_step g s e p.0

-- an end that stands in one list stands in the other
pub same_ends : (h k : List Entry) → ends_in h ≡ ends_in k → (e : Entry) → Has e h → is_end e.kind ≡ true → Has e k
same_ends h k q e i n = (keep_has (λ (x : Entry). is_end x.kind) k e (subst (λ (l : List Entry). Has e l) q (has_keep (λ (x : Entry). is_end x.kind) h e i n))).0

pub record Flushed (g : Opening) (s : State) (e : Entry) : Type 0 where
  pub own : e.number ≤ s.flushed e.log
  pub all : e.need ≤ flushed_by_all g s

pub flushed_to : (g : Opening) (s : State) (e : Entry) → is_flushed g s e ≡ true → Flushed g s e
flushed_to g s e h = let p = and_parts (leb e.number (s.flushed e.log)) (leb e.need (flushed_by_all g s)) h in record { own = leb-true e.number (s.flushed e.log) p.0; all = leb-true e.need (flushed_by_all g s) p.1 }

pub flushed_from : (g : Opening) (s : State) (e : Entry) → Flushed g s e → is_flushed g s e ≡ true
flushed_from g s e p = and_from (leb e.number (s.flushed e.log)) (leb e.need (flushed_by_all g s)) (le-leb e.number (s.flushed e.log) p.own) (le-leb e.need (flushed_by_all g s) p.all)

-- what is flushed stays so
pub flushed_later : EveryRise → (g : Opening) (before es : List Event) (e : Entry) → Has e (run g (start g) before).entries → is_flushed g (run g (start g) before) e ≡ true → is_flushed g (run g (run g (start g) before) es) e ≡ true
flushed_later rises g before es e i h =
    let u = rises g before es in
    let w = (entered g before e i).2.log in
    let p = flushed_to g (run g (start g) before) e h in
    let a = u.flushed e.log w.0 w.1 in let b = u.flushed_by_all in let c = p.own in let d = p.all in
    flushed_from g (run g (run g (start g) before) es) e (record { own = omega arith; all = omega arith })
