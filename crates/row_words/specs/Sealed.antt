-- The same words, sealed: of them the trait of rows and its rule know the laws of proofs/SealedLemmas.antt alone.
use Rattle.std.specs.Prelude.{◌≡◌, ◌<◌, ◌^◌, ℕ, Bool, true, List, [], ◌∷◌}
use Rattle.row_words.specs.declared.event.Event.{Event}
use Rattle.row_words.specs.declared.given.Given.{Given}
use Rattle.row_words.specs.Moments.{Moment, event_of, actor_of, is_rising, step, first_moment}
use Rattle.row_words.specs.Openings.{opening}
use Rattle.row_words.specs.Words.{Shows, publishes, control}
use Rattle.row_words.specs.Laws as laws

-- the moment at which the rows begin
unfoldable pub begun : Given → Moment
begun v = first_moment (opening v) v

-- the moment after an event
unfoldable pub stepped : Given → Moment → Event → Moment
stepped v m e = step (opening v) m e

-- the first event first
abbrev pub run : Given → Moment → List Event → Moment
run v m [] = m
run v m (e ∷ es) = run v (stepped v m e) es

-- word i of a row may read x
unfoldable pub Shown : Given → Moment → ℕ → ℕ → ℕ → Type 0
Shown v m row i x = Shows (opening v) m.core row i x

-- the event changes the row
unfoldable pub changes : Given → Moment → Event → ℕ → Bool
changes v m e row = publishes (opening v) m.core (event_of e) row

-- control word i of worker c, and for c = 0 of the common ones
unfoldable pub heard : Moment → ℕ → ℕ → ℕ
heard m c i = control m c i

-- the event changes the control word
unfoldable pub sets : Event → ℕ → ℕ → Bool
sets e c i = laws.sets e c i

-- a begin, or a record of pages that is no put-back, comes only while its worker's clock is below 2^62
unfoldable pub IsTame : Moment → Event → Type 0
IsTame m e = is_rising e ≡ true → (m.core.worker (actor_of e)).clock < 2 ^ 62
