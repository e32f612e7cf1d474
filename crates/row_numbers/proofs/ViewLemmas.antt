-- Tame events of rows are tame events of the core.
use Rattle.std.proofs.Common.{◌≡◌, ◌≤◌, ◌<◌, ◌^◌, ℕ, suc, max, true, List, [], ◌∷◌, refl, arith}
use Rattle.rows_trait.specs.core_state.States.{State}
use Rattle.core_numbers.specs.Numbers as numbers
use Rattle.core_numbers.specs.Numbers.{AreNumbered, AreUpTo}
use Rattle.core_numbers.proofs.NumberLemmas.{every_next, every_number, every_start}
use Rattle.rows_trait.specs.row_words.declared.event.Event.{Event}
use Rattle.rows_trait.specs.row_words.declared.event.Event.TheVariants as told
use Rattle.rows_trait.specs.row_words.declared.given.Given.{Given}
use Rattle.rows_trait.specs.row_words.Moments as moments
use Rattle.rows_trait.specs.row_words.Moments.{Moment, event_of, events_of, first_state}
use Rattle.rows_trait.specs.row_words.Openings.{opening}
use Rattle.rows_trait.specs.row_words.Sealed.{IsTame, begun, run, stepped}
use Rattle.rows_trait.specs.declared.view.View.{View}
use Rattle.rows_trait.specs.Views.{AreTame, state}
use Rattle.row_numbers.specs.Views.{EveryBegun, EveryClock, EveryFit, EveryView}

tame_core : (m : Moment) (e : Event) → IsTame m e → numbers.IsTame m.core (event_of e)
unfolding IsTame
tame_core now (told.Enter w e) t = tt
tame_core now (told.Leave w) t = tt
tame_core now (told.Begin w f) t = t refl
tame_core now (told.Lock w i m) t = tt
tame_core now (told.Read w p k a) t = tt
tame_core now (told.Next w p k a) t = tt
tame_core now (told.Peek w p k a) t = tt
tame_core now (told.Change w p k v) t = t refl
tame_core now (told.PutBack w p) t = tt
tame_core now (told.Split w l r q i) t = t refl
tame_core now (told.Lift w c) t = t refl
tame_core now (told.Join w l r q) t = t refl
tame_core now (told.Drop w c) t = t refl
tame_core now (told.Purge w p keys) t = t refl
tame_core now (told.End w commit f) t = tt
tame_core now (told.Unlock w i) t = tt
tame_core now (told.Flush w n) t = tt
tame_core now (told.Sync n) t = tt
tame_core now (told.Post w n) t = tt
tame_core now (told.Fetch p pairs) t = tt
tame_core now (told.Load p f) t = tt
tame_core now (told.Cool p) t = tt
tame_core now (told.Rescue p) t = tt
tame_core now (told.Save p) t = tt
tame_core now (told.Evict p) t = tt
tame_core now told.Tick t = tt
tame_core now (told.Cut x heads) t = tt
tame_core now (told.Ask w) t = tt
tame_core now (told.Refused w n m) t = tt
tame_core now (told.Miss w) t = tt

step_numbered : (v : Given) (m : Moment) (e : Event) → IsTame m e → AreNumbered v.base (opening v) m.core → AreNumbered v.base (opening v) (stepped v m e).core
unfolding stepped
step_numbered v m e t h = every_number (opening v) v.base m.core (event_of e ∷ []) (omega arith) h (tame_core m e t, tt)

run_numbered : (v : Given) (m : Moment) (es : List Event) → AreTame v m es → AreNumbered v.base (opening v) m.core → AreNumbered v.base (opening v) (run v m es).core
run_numbered v m [] t h = h
run_numbered v m (e ∷ es) t h = run_numbered v (stepped v m e) es t.1 (step_numbered v m e t.0 h)

pub every_view : EveryView
every_view v h t = run_numbered v.given (begun v.given) v.seen t h

pub every_begun : EveryBegun
unfolding begun
every_begun v up t = go v.before (record { core = first_state v; answer = λ _. 0 }) t (every_start (opening v) (first_state v) v.base up (λ w. refl) (λ w. refl) (λ w. refl))
  where
    go : (es : List Event) (m : Moment) → numbers.AreTame (opening v) m.core (events_of es) → AreNumbered v.base (opening v) m.core → AreNumbered v.base (opening v) (moments.run (opening v) m es).core
    go [] m t h = h
    go (e ∷ es) m t h = go es (moments.step (opening v) m e) t.1 (every_number (opening v) v.base m.core (event_of e ∷ []) (omega arith) h (t.0, tt))

pub every_fit : EveryFit
every_fit v w p few h going =
    let n = every_next v.given.base (opening v.given) (state v).core h w going in
    let c = h.low.up_to.clock w in
    let g = h.low.up_to.page p in
    record { end = omega arith; page = omega arith }

pub every_clock : EveryClock
every_clock v w few h = let c = h.low.up_to.clock w in let r = h.low.room in omega arith
