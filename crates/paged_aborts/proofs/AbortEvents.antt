-- What the events of an abort before its end say of its session.
use Rattle.std.proofs.Common.{◌≡◌, ◌∙◌, ◌==◌, ◌||◌, ◌&&◌, ◌++◌, ℕ, Bool, true, false, cond, List, [], ◌∷◌, ap, refl, sym, true≢false}
use Rattle.std.proofs.lemmas.Bool.{and_parts, eqb-true}
use Rattle.map_model.specs.Histories.{Step}
use Rattle.map_model.specs.Lists.{all, any, keep}
use Rattle.paged_desks.specs.image_model.Entries.{Entry}
use Rattle.paged_desks.specs.core_calls.Deeds.{put_backs}
use Rattle.paged_desks.specs.core_calls.Marks.{Mark, is_half}
use Rattle.paged_desks.specs.core_calls.Steps.{PutsBack, is_step, is_structure}
use Rattle.paged_desks.specs.core_state.Events as happening
use Rattle.paged_desks.specs.core_state.Lists.{is_empty}
use Rattle.paged_desks.specs.core_state.Needs.{are_hot, may, may_put_back}
use Rattle.paged_desks.specs.core_state.Openings.{Opening}
use Rattle.paged_desks.specs.core_state.States.{State}
use Rattle.paged_desks.specs.core_state.Steps.{AllMet, step}
use Rattle.paged_desks.specs.engine_calls.Aborts.{back_by, backs_by, newest_back}
use Rattle.paged_desks.specs.row_words.declared.event.Event.{Event}
use Rattle.paged_desks.specs.row_words.declared.event.Event.TheVariants as told
use Rattle.paged_desks.specs.row_words.Moments.{event_of, events_of}
use Rattle.paged_desks.specs.call_parts.Rooms.{AreBacks}
use Rattle.paged_aborts.specs.Backs.{is_back}
use Rattle.paged_aborts.proofs.BackEvents.{allowed}

-- its steps put changes back alone, and the tree stays as it is
pub record Backs (own : ℕ) (es : List happening.Event) : Type 0 where
  pub steps : PutsBack own (keep is_step es)
  pub structure : any is_structure es ≡ false

or_none : (b : Bool) → (b || false) ≡ true → b ≡ true
or_none true e = refl
or_none false e = absurd (true≢false (sym e))

-- one that is no step
rest : (own : ℕ) (e : happening.Event) (es : List happening.Event) → is_step e ≡ false → is_structure e ≡ false → Backs own es → Backs own (e ∷ es)
rest own e es s t r = record {
  steps = go (is_step e) s;
  structure = ap (λ b. b || any is_structure es) t ∙ r.structure;
}
  where
    go : (b : Bool) → b ≡ false → PutsBack own (cond b (e ∷ keep is_step es) (keep is_step es))
    go true q = absurd (true≢false q)
    go false q = r.steps

pub backs_of : (own : ℕ) (es : List happening.Event) → AreBacks own es → Backs own es
backs_of own [] k = record { steps = tt; structure = refl }
backs_of own (happening.Event.Put_back w p ∷ es) k =
    let q = and_parts ((w == own) || false) (all (allowed own) es) k in
    let r = backs_of own es q.1 in
    record { steps = (eqb-true w own (or_none (w == own) q.0), r.steps); structure = r.structure }
backs_of own (happening.Event.Miss w ∷ es) k = rest own (happening.Event.Miss w) es refl refl (backs_of own es k)
backs_of own (happening.Event.Fetch p pairs ∷ es) k = rest own (happening.Event.Fetch p pairs) es refl refl (backs_of own es k)
backs_of own (happening.Event.Load p f ∷ es) k = rest own (happening.Event.Load p f) es refl refl (backs_of own es k)
backs_of own (happening.Event.Cool p ∷ es) k = rest own (happening.Event.Cool p) es refl refl (backs_of own es k)
backs_of own (happening.Event.Rescue p ∷ es) k = rest own (happening.Event.Rescue p) es refl refl (backs_of own es k)
backs_of own (happening.Event.Save p ∷ es) k = rest own (happening.Event.Save p) es refl refl (backs_of own es k)
backs_of own (happening.Event.Evict p ∷ es) k = rest own (happening.Event.Evict p) es refl refl (backs_of own es k)
backs_of own (happening.Event.Tick ∷ es) k = rest own happening.Event.Tick es refl refl (backs_of own es k)
backs_of own (happening.Event.Flush w n ∷ es) k = rest own (happening.Event.Flush w n) es refl refl (backs_of own es k)
backs_of own (happening.Event.Sync n ∷ es) k = rest own (happening.Event.Sync n) es refl refl (backs_of own es k)
backs_of own (_ ∷ es) k = absurd (true≢false (sym k))

-- ## What is told of them

-- each put-back puts one
some_back : (g : Opening) (s : State) (w p : ℕ) (earlier : List Step) → may g s (happening.Event.Put_back w p) ≡ true → is_empty (back_by g s (happening.Event.Put_back w p) earlier) ≡ false
some_back g s w p earlier m = go (s.worker w).changes (and_parts (s.worker w).is_open (may_put_back g (s.page p).node p (s.worker w).changes) (and_parts (are_hot s (p ∷ [])) ((s.worker w).is_open && may_put_back g (s.page p).node p (s.worker w).changes) m).1).1
  where
    go : (cs : List Entry) → may_put_back g (s.page p).node p cs ≡ true → is_empty (newest_back g s w p cs earlier) ≡ false
    go [] e = absurd (true≢false (sym e))
    go (c ∷ cs) e = refl

-- so none is told where none was put back
pub told_backs : (own : ℕ) (g : Opening) (s : State) (es : List Event) (earlier : List Step) → AreBacks own (events_of es) → AllMet g s (events_of es) → is_empty (backs_by g s (events_of es) earlier) ≡ cond (any is_back es) false (is_empty earlier)
told_backs own g s [] earlier k m = refl
told_backs own g s (told.PutBack w p ∷ es) earlier k m =
    told_backs own g (step g s (happening.Event.Put_back w p)) es (back_by g s (happening.Event.Put_back w p) earlier) (and_parts ((w == own) || false) (all (allowed own) (events_of es)) k).1 m.1
    ∙ (ap (λ b. cond (any is_back es) false b) (some_back g s w p earlier m.0) ∙ none (any is_back es))
  where
    none : (b : Bool) → cond b false false ≡ false
    none true = refl
    none false = refl
told_backs own g s (told.Miss w ∷ es) earlier k m = told_backs own g (step g s (happening.Event.Miss w)) es earlier k m.1
told_backs own g s (told.Fetch p pairs ∷ es) earlier k m = told_backs own g (step g s (event_of (told.Fetch p pairs))) es earlier k m.1
told_backs own g s (told.Load p f ∷ es) earlier k m = told_backs own g (step g s (happening.Event.Load p f)) es earlier k m.1
told_backs own g s (told.Cool p ∷ es) earlier k m = told_backs own g (step g s (happening.Event.Cool p)) es earlier k m.1
told_backs own g s (told.Rescue p ∷ es) earlier k m = told_backs own g (step g s (happening.Event.Rescue p)) es earlier k m.1
told_backs own g s (told.Save p ∷ es) earlier k m = told_backs own g (step g s (happening.Event.Save p)) es earlier k m.1
told_backs own g s (told.Evict p ∷ es) earlier k m = told_backs own g (step g s (happening.Event.Evict p)) es earlier k m.1
told_backs own g s (told.Tick ∷ es) earlier k m = told_backs own g (step g s (happening.Event.Tick)) es earlier k m.1
told_backs own g s (told.Flush w n ∷ es) earlier k m = told_backs own g (step g s (happening.Event.Flush w n)) es earlier k m.1
told_backs own g s (told.Sync n ∷ es) earlier k m = told_backs own g (step g s (happening.Event.Sync n)) es earlier k m.1
told_backs own g s (_ ∷ es) earlier k m = absurd (true≢false (sym k))

-- whether the transaction is half undone behind them
pub half_with : (backs : List Step) (earlier : List Mark) → is_half ((put_backs backs ++ []) ++ earlier) ≡ cond (is_empty backs) (is_half earlier) true
half_with [] earlier = refl
half_with (x ∷ backs) earlier = refl
