-- What each step makes of a view: the clauses of the trait. In each, v is what the seat knew before and w what it knows after.
use Rattle.std.specs.Prelude.{◌≡◌, ◌≢◌, ℕ, ◌+◌, ◌<◌, ◌≤◌, ◌^◌, Bool, true, false, cond, List, [], ◌∷◌, ◌++◌, length, slice_index, Some}
use Rattle.row_words.specs.declared.event.Event.{Event}
use Rattle.row_words.specs.declared.event.Event.TheVariants.{Miss}
use Rattle.row_words.specs.declared.given.Given.{Given}
use Rattle.row_words.specs.Moments.{Moment, actor_of, by, is_rising, is_sync}
use Rattle.row_words.specs.Sealed.{stepped, Shown, changes, heard, sets, IsTame}
use Rattle.rows_trait.specs.declared.view.Act.{Act}
use Rattle.rows_trait.specs.declared.view.Act.TheVariants.{Look, Load, Store, Set, Hear, Turn}
use Rattle.rows_trait.specs.declared.view.View.{View}
use Rattle.rows_trait.specs.declared.rows.Latch.{Latch}
use Rattle.rows_trait.specs.declared.rows.Latch.TheVariants.{Held, Found}
use Rattle.rows_trait.specs.Layout.{width}
use Rattle.rows_trait.specs.Views.{IsEven, after_all, state, Spells, Has, Since, IsStill, Knows, latest, hold, holds, held_at, without, write, settle, AreApart, NoSync, may, Shape}

-- since the view v the seat has made these steps
pub record Stepped (v w : View) : Type 0 where
  pub acts : List Act
  pub steps : w.steps ≡ acts ++ v.steps

-- the view has seen what others did, and then these events of its own
pub record Goes (z : Shape) (v : View) (es : List Event) (w : View) : Type 0 where
  pub between : List Event
  pub quiet : z.alone ≡ true → between ≡ []
  pub apart : AreApart v (state v) between
  pub seen : w.seen ≡ (v.seen ++ between) ++ es
  pub part : z.alone ≡ false → NoSync es
  pub since : Stepped v w
  pub given : w.given ≡ v.given
  pub actor : w.actor ≡ v.actor
  pub live : w.live ≡ v.live
  pub made : w.made ≡ v.made
  pub ended : w.ended ≡ v.ended
  -- what is held stands in the core state as when it was latched or published
  pub stands : (row : ℕ) → holds w.held row ≡ true → Spells w.given (state w) (width z.sizes row) row (held_at w.held row).was

-- the latch of a row was loaded
pub record Looked (z : Shape) (row : ℕ) (names : ℕ → List Event) (v : View) (n : ℕ) (w : View) : Type 0 where
  pub goes : Goes z v (names n) w
  pub steps : w.steps ≡ Look row n w.seen ∷ v.steps
  pub held : w.held ≡ v.held
  -- what was loaded of the row after the same even version are its words
  pub known : IsEven n → (i x : ℕ) → Knows row n i x v.steps → Shown w.given (state w) row i x
  -- since it was loaded as the same even version no event has changed the row
  pub still : IsEven n → (at : List Event) → Since row n at v.steps → IsStill w.given row at w.seen
  pub rising : (s : ℕ) → Has row s v.steps → s ≤ n
  pub steady : z.alone ≡ true → (s : ℕ) → latest row v.steps ≡ Some s → n ≡ s
  pub free : z.alone ≡ true → holds v.held row ≡ false → IsEven n
  pub own : holds v.held row ≡ true → n ≡ (held_at v.held row).version + 1

-- a word of a row was loaded
pub record Loaded (z : Shape) (row i : ℕ) (v : View) (n : ℕ) (w : View) : Type 0 where
  pub goes : Goes z v [] w
  pub steps : w.steps ≡ Load row i n ∷ v.steps
  pub held : w.held ≡ v.held
  pub own : holds v.held row ≡ true → n ≡ slice_index (held_at v.held row).now i

-- a row was latched from this version
pub record Taken (z : Shape) (row version : ℕ) (names : ℕ → List Event) (v w : View) : Type 0 where
  pub goes : Goes z v (names version) w
  pub was : List ℕ
  pub steps : w.steps ≡ Set row (version + 1) ∷ Look row version w.seen ∷ v.steps
  pub held : w.held ≡ hold row version was was false ∷ v.held
  pub size : length was ≡ width z.sizes row
  pub known : (i x : ℕ) → Knows row version i x v.steps → slice_index was i ≡ x
  pub still : (at : List Event) → Since row version at v.steps → IsStill w.given row at w.seen
  pub rising : (s : ℕ) → Has row s v.steps → s ≤ version
  pub fresh : holds v.held row ≡ false

-- a row was not latched from this version, since its latch is n
pub record Refused (z : Shape) (row version : ℕ) (names : ℕ → List Event) (v : View) (n : ℕ) (w : View) : Type 0 where
  pub looked : Looked z row names v n w
  pub other : n ≢ version

-- it was latched, or not
abbrev pub Tried : Shape → ℕ → ℕ → (ℕ → List Event) → View → Latch → View → Type 0
Tried z row version names v Held w = Taken z row version names v w
Tried z row version names v (Found n) w = Refused z row version names v n w

-- a word of a held row was stored
pub record Stored (z : Shape) (row i x : ℕ) (v w : View) : Type 0 where
  pub goes : Goes z v [] w
  pub steps : w.steps ≡ Store row i x ∷ v.steps
  pub held : w.held ≡ write v.held row i x

-- What holds of an event and a row at the moment at which it is published: the row is one of its rows, and all of them
-- are held; after it they are what was stored there.
pub record Leaves (z : Shape) (row : ℕ) (e : Event) (v : View) (m : Moment) : Type 0 where
  pub here : changes v.given m e row ≡ true
  pub rows : (q : ℕ) → changes v.given m e q ≡ true → (holds v.held q ≡ true) × Spells v.given (stepped v.given m e) (width z.sizes q) q (held_at v.held q).now

-- so it is whatever others did meanwhile
pub record MayPublish (z : Shape) (row : ℕ) (e : Event) (v : View) : Type 0 where
  pub actor : may z.alone v (actor_of e) ≡ true
  pub part : is_sync e ≡ false
  pub words : (c i : ℕ) → sets e c i ≡ false
  pub tame : IsTame (state v) e
  pub leaves : (between : List Event) → (z.alone ≡ true → between ≡ []) → AreApart v (state v) between → Leaves z row e v (after_all v.given (v.seen ++ between))

-- the event of a held row was published, and the row's latch given up
pub record Published (z : Shape) (row : ℕ) (e : Event) (v w : View) : Type 0 where
  pub goes : Goes z v (e ∷ []) w
  pub steps : w.steps ≡ Set row ((held_at v.held row).version + 2) ∷ v.steps
  pub held : w.held ≡ settle v.given (after_all v.given (v.seen ++ goes.between)) (without v.held row) e

-- the latch of a held row was given up; if no event of it was published, that is a miss
pub record Released (z : Shape) (row : ℕ) (v w : View) : Type 0 where
  pub goes : Goes z v (cond (held_at v.held row).done [] (Miss v.actor ∷ [])) w
  pub steps : w.steps ≡ Set row ((held_at v.held row).version + 2) ∷ v.steps
  pub held : w.held ≡ without v.held row

-- ## Control words

-- a control word was loaded
pub record Heard (z : Shape) (c i : ℕ) (names : ℕ → List Event) (v : View) (n : ℕ) (w : View) : Type 0 where
  pub goes : Goes z v (names n) w
  pub steps : w.steps ≡ Hear c i n ∷ v.steps
  pub held : w.held ≡ v.held
  pub word : heard (state w) c i ≡ n

-- an event of the seat that changes no row, and of the control words this one alone
pub record IsTurning (may : ℕ → Bool) (alone : Bool) (v : Given) (workers c i : ℕ) (e : Event) : Type 0 where
  pub own : may (actor_of e) ≡ true
  pub part : alone ≡ false → is_sync e ≡ false
  pub rows : (m : Moment) (row : ℕ) → changes v m e row ≡ false
  pub words : (d j : ℕ) → d ≤ workers → ((d ≡ c) × (j ≡ i) → ⊥) → sets e d j ≡ false
  pub calm : is_rising e ≡ false

-- each of them is such
abbrev pub AreTurning : (ℕ → Bool) → Bool → Given → ℕ → ℕ → ℕ → List Event → Type 0
AreTurning may alone v workers c i [] = Unit {0}
AreTurning may alone v workers c i (e ∷ es) = IsTurning may alone v workers c i e × AreTurning may alone v workers c i es

-- The events turn a control word that is n into f n, and change nothing else that rows have, whatever others did meanwhile.
pub record MayTurn (z : Shape) (c i : ℕ) (f : ℕ → ℕ) (names : ℕ → List Event) (v : View) : Type 0 where
  pub own : (n : ℕ) → AreTurning (may z.alone v) z.alone v.given z.sizes.workers c i (names n)
  pub turns : (between : List Event) → (z.alone ≡ true → between ≡ []) → AreApart v (state v) between → (n : ℕ) → heard (after_all v.given (v.seen ++ between)) c i ≡ n
      → (heard (after_all v.given ((v.seen ++ between) ++ names n)) c i ≡ f n) × (f n < 2 ^ 64)

-- a control word was turned from n into f n
pub record Turned (z : Shape) (c i : ℕ) (f : ℕ → ℕ) (names : ℕ → List Event) (v : View) (n : ℕ) (w : View) : Type 0 where
  pub goes : Goes z v (names n) w
  pub steps : w.steps ≡ Turn c i n ∷ v.steps
  pub held : w.held ≡ v.held
  pub found : heard (after_all v.given (v.seen ++ goes.between)) c i ≡ n
  pub word : heard (state w) c i ≡ f n

-- an event that changes no row, and of the control words the flushed words alone
pub record IsSyncing (v : Given) (workers : ℕ) (e : Event) : Type 0 where
  pub rows : (m : Moment) (row : ℕ) → changes v m e row ≡ false
  pub words : (d j : ℕ) → d ≤ workers → ((0 < d) × (j ≡ 0) → ⊥) → sets e d j ≡ false
  pub calm : is_rising e ≡ false

-- each of them is such
abbrev pub AreSyncing : Given → ℕ → List Event → Type 0
AreSyncing v workers [] = Unit {0}
AreSyncing v workers (e ∷ es) = IsSyncing v workers e × AreSyncing v workers es

-- The events, of any actors, turn each flushed word into a number, and change nothing else that rows have.
pub record MaySync (z : Shape) (number : ℕ) (es : List Event) (v : View) : Type 0 where
  pub own : AreSyncing v.given z.sizes.workers es
  pub syncs : (w : ℕ) → 0 < w → w ≤ z.sizes.workers → heard (after_all v.given (v.seen ++ es)) w 0 ≡ number

-- each flushed word was turned into a number, where nobody else steps
pub record Synced (z : Shape) (number : ℕ) (es : List Event) (v w : View) : Type 0 where
  pub goes : Goes z v es w
  pub steps : w.steps ≡ v.steps
  pub held : w.held ≡ v.held

-- Over several steps: what was seen goes on from what was seen before, and the seat's own events in it are these; its steps go on too.
-- What others did in it is no sync, so what a worker knows of itself stays.
pub record Ran (alone : Bool) (v : View) (es : List Event) (w : View) : Type 0 where
  pub more : List Event
  pub seen : w.seen ≡ v.seen ++ more
  pub own : alone ≡ false → by v.actor more ≡ es
  pub all : alone ≡ true → more ≡ es
  pub part : alone ≡ false → NoSync more
  pub since : Stepped v w
  pub given : w.given ≡ v.given
  pub actor : w.actor ≡ v.actor
  pub live : w.live ≡ v.live
  pub made : w.made ≡ v.made
  pub ended : w.ended ≡ v.ended
