-- What moves of pages and syncs leave of a state.
use Rattle.std.proofs.Common.{◌≡◌, ◌∙◌, ◌++◌, ℕ, suc, Bool, true, false, List, [], ◌∷◌, length, ap, refl, sym, subst, if◌then◌else◌, true≢false}
use Rattle.desk_parts.specs.core_calls.LogEvents.{AreFlushes}
use Rattle.desk_parts.specs.core_state.Events as happening
use Rattle.desk_parts.specs.core_state.Needs.{may}
use Rattle.desk_parts.specs.core_state.Openings.{Opening}
use Rattle.desk_parts.specs.core_state.States.{Place, State, Worker}
use Rattle.desk_parts.specs.core_state.Steps.{happens}
use Rattle.desk_parts.specs.image_model.Entries.{Contents}
use Rattle.desk_parts.specs.page_provider.Moves.{ArePagers, Moved, is_pagers}
use Rattle.desk_parts.specs.page_provider.Providers.{Keeps, Provider}
use Rattle.desk_parts.specs.page_provider.Sequels.{EverySequel}
use Rattle.desk_parts.specs.row_words.declared.event.Event.{Event}
use Rattle.desk_parts.specs.row_words.declared.event.Event.TheVariants as told
use Rattle.desk_parts.specs.row_words.declared.given.Given.{Given}
use Rattle.desk_parts.specs.row_words.Moments.{Moment, event_of, events_of}
use Rattle.desk_parts.specs.row_words.Openings.{opening}
use Rattle.desk_parts.specs.row_words.Sealed.{run, stepped}
use Rattle.desk_parts.specs.rows_trait.declared.view.View.{View}
use Rattle.desk_parts.specs.rows_trait.Views.{Shape, state}
use Rattle.desk_parts.proofs.session_desks.FloorLemmas.{seen_more}

-- one event
pub step_core : (v : Given) (m : Moment) (e : Event) → (stepped v m e).core ≡ (if may (opening v) m.core (event_of e) then happens (opening v) m.core (event_of e) else m.core)
unfolding stepped
step_core v m e = refl

-- ## Moves of pages

-- pages have moved, or were read or saved, and the global epoch may have gone on: all else is as it was
pub record IsMoved (s t : State) : Type 0 where
  pub page : ℕ → Contents
  pub saved : ℕ → Contents
  pub place : ℕ → Place
  pub queue : List ℕ
  pub epoch : ℕ
  pub is : t ≡ record s { page = page; saved = saved; place = place; queue = queue; epoch = epoch }

moved_none : (s : State) → IsMoved s s
moved_none s = record { page = s.page; saved = s.saved; place = s.place; queue = s.queue; epoch = s.epoch; is = refl }

moved_then : {s t u : State} → IsMoved s t → IsMoved t u → IsMoved s u
moved_then a b = record {
  page = b.page;
  saved = b.saved;
  place = b.place;
  queue = b.queue;
  epoch = b.epoch;
  is = b.is ∙ ap (λ (x : State). record x { page = b.page; saved = b.saved; place = b.place; queue = b.queue; epoch = b.epoch }) a.is;
}

moved_event : (g : Opening) (s : State) (e : Event) → is_pagers e ≡ true → IsMoved s (happens g s (event_of e))
moved_event g s (told.Load p f) k = let t = happens g s (happening.Event.Load p f) in record { page = t.page; saved = t.saved; place = t.place; queue = t.queue; epoch = t.epoch; is = refl }
moved_event g s (told.Fetch p pairs) k = let t = happens g s (event_of (told.Fetch p pairs)) in record { page = t.page; saved = t.saved; place = t.place; queue = t.queue; epoch = t.epoch; is = refl }
moved_event g s (told.Cool p) k = let t = happens g s (happening.Event.Cool p) in record { page = t.page; saved = t.saved; place = t.place; queue = t.queue; epoch = t.epoch; is = refl }
moved_event g s (told.Rescue p) k = let t = happens g s (happening.Event.Rescue p) in record { page = t.page; saved = t.saved; place = t.place; queue = t.queue; epoch = t.epoch; is = refl }
moved_event g s (told.Save p) k = let t = happens g s (happening.Event.Save p) in record { page = t.page; saved = t.saved; place = t.place; queue = t.queue; epoch = t.epoch; is = refl }
moved_event g s (told.Evict p) k = let t = happens g s (happening.Event.Evict p) in record { page = t.page; saved = t.saved; place = t.place; queue = t.queue; epoch = t.epoch; is = refl }
moved_event g s told.Tick k = let t = happens g s happening.Event.Tick in record { page = t.page; saved = t.saved; place = t.place; queue = t.queue; epoch = t.epoch; is = refl }
moved_event g s (told.Miss w) k = moved_none s
moved_event g s _ k = absurd (true≢false (sym k))

moved_step : (v : Given) (m : Moment) (e : Event) → is_pagers e ≡ true → IsMoved m.core (stepped v m e).core
moved_step v m e k = subst (IsMoved m.core) (sym (step_core v m e)) (go (may (opening v) m.core (event_of e)))
  where
    go : (b : Bool) → IsMoved m.core (if b then happens (opening v) m.core (event_of e) else m.core)
    go true = moved_event (opening v) m.core e k
    go false = moved_none m.core

moved_run : (v : Given) (m : Moment) (es : List Event) → ArePagers es → IsMoved m.core (run v m es).core
moved_run v m [] k = moved_none m.core
moved_run v m (e ∷ es) k = moved_then (moved_step v m e k.0) (moved_run v (stepped v m e) es k.1)

-- and the same pages are free
pub record IsRest (s t : State) : Type 0 where
  pub page : ℕ → Contents
  pub saved : ℕ → Contents
  pub place : ℕ → Place
  pub queue : List ℕ
  pub epoch : ℕ
  pub is : t ≡ record s { page = page; saved = saved; place = place; queue = queue; epoch = epoch }
  pub live : (p : ℕ) → (page p).node.live ≡ (s.page p).node.live

rest_of : {s t : State} → IsMoved s t → ((p : ℕ) → (t.page p).node.live ≡ (s.page p).node.live) → IsRest s t
rest_of {s = s} {t = t} m same = record {
  page = m.page;
  saved = m.saved;
  place = m.place;
  queue = m.queue;
  epoch = m.epoch;
  is = m.is;
  live = λ p. sym (ap (λ (x : State). (x.page p).node.live) m.is) ∙ same p;
}

-- behind a call of the pager, where nobody else steps
module _ (seq : EverySequel) {most : ℕ} {z : Shape} {v u : View} {was is : Provider} (alone : z.alone ≡ true) (c : Keeps z v was) (m : Moved most z v was u is) where
  pub seen_is : u.seen ≡ v.seen ++ m.events
  seen_is = m.goes.ran.seen ∙ ap (λ es. v.seen ++ es) (m.goes.ran.all alone)

  pub state_is : state u ≡ run v.given (state v) m.events
  state_is = seen_more v u m.events m.goes.ran.given seen_is

  pub rest_is : IsRest (state v).core (state u).core
  rest_is = rest_of (subst (λ (n : Moment). IsMoved (state v).core n.core) (sym state_is) (moved_run v.given (state v) m.events m.pagers)) (λ p. ap (λ n. n.live) (seq.pages most z v u was is alone c m p).fields)

-- ## Syncs

-- logs were flushed and synced: all else is as it was
pub record IsFlushed (s t : State) : Type 0 where
  pub flushed : ℕ → ℕ
  pub floor : ℕ
  pub worker : ℕ → Worker
  pub is : t ≡ record s { flushed = flushed; floor = floor; worker = worker }

pub flushed_none : (s : State) → IsFlushed s s
flushed_none s = record { flushed = s.flushed; floor = s.floor; worker = s.worker; is = refl }

pub flushed_then : {s t u : State} → IsFlushed s t → IsFlushed t u → IsFlushed s u
flushed_then a b = record {
  flushed = b.flushed;
  floor = b.floor;
  worker = b.worker;
  is = b.is ∙ ap (λ (x : State). record x { flushed = b.flushed; floor = b.floor; worker = b.worker }) a.is;
}

pub flushed_step : (v : Given) (m : Moment) (w n : ℕ) → IsFlushed m.core (stepped v m (told.Flush w n)).core
flushed_step v m w n = subst (IsFlushed m.core) (sym (step_core v m (told.Flush w n))) (go (may (opening v) m.core (happening.Event.Flush w n)))
  where
    go : (b : Bool) → IsFlushed m.core (if b then happens (opening v) m.core (happening.Event.Flush w n) else m.core)
    go true = let t = happens (opening v) m.core (happening.Event.Flush w n) in record { flushed = t.flushed; floor = t.floor; worker = t.worker; is = refl }
    go false = flushed_none m.core

pub synced_step : (v : Given) (m : Moment) (n : ℕ) → IsFlushed m.core (stepped v m (told.Sync n)).core
synced_step v m n = subst (IsFlushed m.core) (sym (step_core v m (told.Sync n))) (go (may (opening v) m.core (happening.Event.Sync n)))
  where
    go : (b : Bool) → IsFlushed m.core (if b then happens (opening v) m.core (happening.Event.Sync n) else m.core)
    go true = let t = happens (opening v) m.core (happening.Event.Sync n) in record { flushed = t.flushed; floor = t.floor; worker = t.worker; is = refl }
    go false = flushed_none m.core

pub flushed_run : (v : Given) (m : Moment) (es : List Event) → AreFlushes (events_of es) → IsFlushed m.core (run v m es).core
flushed_run v m [] k = flushed_none m.core
flushed_run v m (told.Flush w n ∷ es) k = flushed_then (flushed_step v m w n) (flushed_run v (stepped v m (told.Flush w n)) es k)
flushed_run v m (e ∷ es) k = absurd k

-- ## Lists of events

pub length_events : (es : List Event) → length (events_of es) ≡ length es
length_events [] = refl
length_events (e ∷ es) = ap suc (length_events es)
