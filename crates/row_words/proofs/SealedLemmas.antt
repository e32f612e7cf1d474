-- The laws of the sealed words.
use Rattle.std.proofs.Common.{◌≡◌, ◌≢◌, ◌==◌, ◌-◌, ◌<◌, ◌^◌, ◌&&◌, not, ltb, ℕ, zero, suc, arith, Bool, true, false, List, [], ◌∷◌, ◌++◌, refl, sym, ap, ◌∙◌, subst, true≢false, cond}
use Rattle.std.proofs.lemmas.Bool.{lt-ltb}
use Rattle.std.proofs.lemmas.Bool.Decides.{nat_tests}
use Rattle.row_words.specs.declared.event.Event.{Event}
use Rattle.row_words.specs.declared.event.Event.TheVariants as told
use Rattle.row_words.specs.declared.given.Given.{Given}
use Rattle.core_state.specs.Openings.{Opening}
use Rattle.core_state.specs.States as core
use Rattle.core_state.specs.Local.{publishes_row}
use Rattle.row_words.specs.Words.{publishes, publishes_frame}
use Rattle.row_words.specs.Moments.{Moment, event_of, actor_of, is_rising, is_sync, by}
use Rattle.row_words.specs.Openings.{opening}
use Rattle.row_words.specs.Sealed.{stepped, run, Shown, changes, heard, sets, IsTame}
use Rattle.row_words.proofs.Stays as words
use Rattle.row_words.proofs.Controls.{every_control, every_own}

pub shown_stays : (v : Given) (m : Moment) (e : Event) (row i x : ℕ) → changes v m e row ≡ false → Shown v m row i x → Shown v (stepped v m e) row i x
unfolding changes Shown stepped
shown_stays v m e row i x off h = words.stays (opening v) m.core (event_of e) row i x off h

-- a page that stands hot in a row that the event does not change stands there as it was
pub hot_kept : (v : Given) (m : Moment) (e : Event) (row p : ℕ) → row < (opening v).frames → changes v m e row ≡ false → m.core.place p ≡ core.Place.Hot row
    → ((stepped v m e).core.place p ≡ core.Place.Hot row) × ((stepped v m e).core.page p ≡ m.core.page p)
unfolding changes stepped
hot_kept v m e row p lt off hot = words.hot_kept (opening v) m.core (event_of e) row p (lt-ltb row (opening v).frames lt) off hot

pub heard_stays : (v : Given) (m : Moment) (e : Event) (c i : ℕ) → sets e c i ≡ false → heard (stepped v m e) c i ≡ heard m c i
unfolding sets heard stepped
heard_stays v m e c i off = every_control (opening v) m e c i off

pub run_append : (v : Given) (m : Moment) (es fs : List Event) → run v m (es ++ fs) ≡ run v (run v m es) fs
run_append v m [] fs = refl
run_append v m (e ∷ es) fs = run_append v (stepped v m e) es fs

pub by_append : (a : ℕ) (es fs : List Event) → by a (es ++ fs) ≡ by a es ++ by a fs
by_append a [] fs = refl
by_append a (e ∷ es) fs = at (actor_of e == a) (by_append a es fs)
  where
    at : (b : Bool) → by a (es ++ fs) ≡ by a es ++ by a fs → cond b (e ∷ by a (es ++ fs)) (by a (es ++ fs)) ≡ cond b (e ∷ by a es) (by a es) ++ by a fs
    at true ih = ap (λ z. e ∷ z) ih
    at false ih = ih

-- ## Events that change neither rows nor control words

abbrev pub is_silent : Event → Bool
is_silent (told.Begin w f) = true
is_silent (told.Read w p k a) = true
is_silent (told.Next w p k a) = true
is_silent (told.Peek w p k a) = true
is_silent (told.Fetch p pairs) = true
is_silent (told.Miss w) = true
is_silent _ = false

silent_row : (g : Opening) (s : core.State) (e : Event) (row : ℕ) → is_silent e ≡ true → publishes g s (event_of e) row ≡ false
silent_row g s e row h = go e h (ltb row g.frames)
  where
    go : (e : Event) → is_silent e ≡ true → (b : Bool) → Rattle.std.specs.Prelude.if◌then◌else◌ b (publishes_frame g s (event_of e) row) (publishes_row (event_of e) (row - g.frames)) ≡ false
    go (told.Begin w f) h true = refl
    go (told.Begin w f) h false = refl
    go (told.Read w p k a) h true = refl
    go (told.Read w p k a) h false = refl
    go (told.Next w p k a) h true = refl
    go (told.Next w p k a) h false = refl
    go (told.Peek w p k a) h true = refl
    go (told.Peek w p k a) h false = refl
    go (told.Fetch p pairs) h true = refl
    go (told.Fetch p pairs) h false = refl
    go (told.Miss w) h true = refl
    go (told.Miss w) h false = refl
    go _ h b = absurd (true≢false (sym h))

pub silent_changes : (v : Given) (m : Moment) (e : Event) (row : ℕ) → is_silent e ≡ true → changes v m e row ≡ false
unfolding changes
silent_changes v m e row h = silent_row (opening v) m.core e row h

pub silent_sets : (e : Event) (c i : ℕ) → is_silent e ≡ true → sets e c i ≡ false
unfolding sets
silent_sets (told.Begin w f) c i h = refl
silent_sets (told.Read w p k a) c i h = refl
silent_sets (told.Next w p k a) c i h = refl
silent_sets (told.Peek w p k a) c i h = refl
silent_sets (told.Fetch p pairs) c i h = refl
silent_sets (told.Miss w) c i h = refl
silent_sets _ c i h = absurd (true≢false (sym h))

pub silent_part : (e : Event) → is_silent e ≡ true → is_sync e ≡ false
silent_part (told.Sync n) h = absurd (true≢false (sym h))
silent_part _ h = refl

pub miss_changes : (v : Given) (m : Moment) (a row : ℕ) → changes v m (told.Miss a) row ≡ false
miss_changes v m a row = silent_changes v m (told.Miss a) row refl

pub miss_sets : (a c i : ℕ) → sets (told.Miss a) c i ≡ false
miss_sets a c i = silent_sets (told.Miss a) c i refl

-- ## A sync

pub sync_changes : (v : Given) (m : Moment) (n row : ℕ) → changes v m (told.Sync n) row ≡ false
unfolding changes
sync_changes v m n row = go (ltb row (opening v).frames)
  where
    go : (b : Bool) → Rattle.std.specs.Prelude.if◌then◌else◌ b (publishes_frame (opening v) m.core (event_of (told.Sync n)) row) (publishes_row (event_of (told.Sync n)) (row - (opening v).frames)) ≡ false
    go true = refl
    go false = refl

pub sync_sets : (n c i : ℕ) → ((0 < c) × (i ≡ 0) → ⊥) → sets (told.Sync n) c i ≡ false
unfolding sets
sync_sets n zero i ne = refl
sync_sets n (suc c) zero ne = absurd (ne (omega arith, refl))
sync_sets n (suc c) (suc i) ne = let t : (suc i == 0) ≡ false = grind (arith, nat_tests) in rw t (go (not (suc c == 0)))
  where
    go : (b : Bool) → (b && false) ≡ false
    go true = refl
    go false = refl

-- where its need is met, each flushed word is its number
pub sync_heard : (v : Given) (m : Moment) (n w : ℕ) → 0 < w → Rattle.core_state.specs.Needs.may (opening v) m.core (event_of (told.Sync n)) ≡ true → heard (stepped v m (told.Sync n)) w 0 ≡ n
unfolding heard stepped
sync_heard v m n zero some met = absurd (omega arith)
sync_heard v m n (suc w) some met = rw met refl

-- ## Tame events

pub calm_tame : (m : Moment) (e : Event) → is_rising e ≡ false → IsTame m e
unfolding IsTame
calm_tame m e calm up = absurd (true≢false (sym up ∙ calm))

pub low_tame : (m : Moment) (e : Event) → (m.core.worker (actor_of e)).clock < 2 ^ 62 → IsTame m e
unfolding IsTame
low_tame m e low up = low

pub tame_low : (m : Moment) (e : Event) → is_rising e ≡ true → IsTame m e → (m.core.worker (actor_of e)).clock < 2 ^ 62
unfolding IsTame
tame_low m e up t = t up

-- an event of another actor, no sync, leaves what an event needs for it
pub tame_stays : (v : Given) (m : Moment) (f e : Event) → actor_of f ≢ actor_of e → is_sync f ≡ false → IsTame m e → IsTame (stepped v m f) e
unfolding IsTame stepped
tame_stays v m f e other part t up = subst (λ (a : core.Worker). a.clock < 2 ^ 62) (sym (every_own (opening v) m f (actor_of e) other part).worker) (t up)
