-- What the taking of a lock row does.
use Rattle.std.specs.Prelude.{◌≡◌, ◌≤◌, ◌^◌, ◌++◌, ℕ, true, [], ◌∷◌, length}
use Rattle.map_model.specs.declared.call.Refusal.{Refusal}
use Rattle.map_model.specs.declared.call.Refusal.TheVariants as refusal
use Rattle.session_state.specs.core_state.Needs.{holds_row, is_held_by, may}
use Rattle.session_state.specs.core_calls.Refusals.{Hinders}
use Rattle.session_state.specs.row_words.declared.event.Event.TheVariants.{Lock}
use Rattle.session_state.specs.row_words.Moments.{event_of}
use Rattle.session_state.specs.row_words.Openings.{opening}
use Rattle.session_state.specs.rows_trait.declared.view.View.{View}
use Rattle.session_state.specs.rows_trait.Views.{state}
use Rattle.session_state.specs.key_locks.declared.mode.Mode.{Mode}
use Rattle.session_state.specs.key_locks.declared.mode.Mode.TheVariants.{Alone}
use Rattle.session_state.specs.key_locks.Rows.{core_mode, event_mode}
use Rattle.session_state.specs.flush_avoidance.Clocks.{risen}
use Rattle.session_state.specs.Held.{with_row}
use Rattle.session_state.specs.declared.session.Session.{Session}

-- The session's worker took the row: nothing else was seen, and the session has the row with those that it holds. Its clock and its debt may have risen, by
-- what the row told.
pub record Takes (v w : View) (x y : Session) (row : ℕ) (mode : Mode) : Type 0 where
  pub given : w.given ≡ v.given
  pub seen : w.seen ≡ v.seen ++ Lock x.own row (event_mode mode) ∷ []
  pub met : may (opening v.given) (state v).core (event_of (Lock x.own row (event_mode mode))) ≡ true
  pub held : w.held ≡ v.held
  pub session : y ≡ record x { clock = risen x.clock y.clock; held = with_row x.held row }
  pub mine : holds_row ((state w).core.row row) x.own ≡ true
  pub alone : mode ≡ Alone → is_held_by ((state w).core.row row).holder x.own ≡ true

-- nothing was seen, but 2^61 events had been
pub record IsSpent (v w : View) : Type 0 where
  pub given : w.given ≡ v.given
  pub seen : w.seen ≡ v.seen
  pub many : 2 ^ 61 ≤ length w.seen

-- nothing was seen, and this session stands in the way
pub record IsHindered (v w : View) (own row : ℕ) (mode : Mode) (h : ℕ) : Type 0 where
  pub given : w.given ≡ v.given
  pub seen : w.seen ≡ v.seen
  pub hinders : Hinders ((state v).core.row row) own (core_mode mode) h

-- why it was not taken
abbrev pub NotTaken : Refusal → (v w : View) → (own row : ℕ) → Mode → Type 0
NotTaken refusal.RowSpent v w own row mode = IsSpent v w
NotTaken (refusal.Conflict h) v w own row mode = IsHindered v w own row mode h
NotTaken why v w own row mode = ⊥
