-- What is known of where pages stand stays while the pager appends nothing, whatever workers do.
use Rattle.std.specs.Prelude.{◌≡◌, ℕ, Bool, true, false, List, []}
use Rattle.core_paging.specs.core_state.States.{is_hot, is_cooling, is_cold, in_frame, epoch_of, waits_for}
use Rattle.version_latch.specs.row_words.declared.event.Event.{Event}
use Rattle.version_latch.specs.row_words.Moments.{pager, by}
use Rattle.version_latch.specs.rows_trait.declared.view.View.{View}
use Rattle.version_latch.specs.rows_trait.Views.{Shape, state}
use Rattle.version_latch.specs.rows_trait.Turns.{Ran}

-- the queue, the global epoch, where pages stand and what is saved of them; and a page that is not hot is as it was
pub record Stood (v u : View) : Type 0 where
  pub queue : (state u).core.queue ≡ (state v).core.queue
  pub epoch : (state u).core.epoch ≡ (state v).core.epoch
  pub hot : (q : ℕ) → is_hot ((state u).core.place q) ≡ is_hot ((state v).core.place q)
  pub cooling : (q : ℕ) → is_cooling ((state u).core.place q) ≡ is_cooling ((state v).core.place q)
  pub cold : (q : ℕ) → is_cold ((state u).core.place q) ≡ is_cold ((state v).core.place q)
  pub frame : (q f : ℕ) → in_frame ((state u).core.place q) f ≡ in_frame ((state v).core.place q) f
  pub since : (q : ℕ) → epoch_of ((state u).core.place q) ≡ epoch_of ((state v).core.place q)
  pub saved : (q : ℕ) → (state u).core.saved q ≡ (state v).core.saved q
  pub page : (q : ℕ) → is_hot ((state v).core.place q) ≡ false → (state u).core.page q ≡ (state v).core.page q
  -- a page waits for nobody anew
  pub unwaited : (q w : ℕ) → waits_for ((state v).core.place q) w ≡ false → waits_for ((state u).core.place q) w ≡ false

-- Nobody else steps, and none of the seat's events is the pager's; or the seat is the pager's, and it appends nothing.
abbrev pub IsStill : Bool → View → List Event → Type 0
IsStill true v es = by pager es ≡ []
IsStill false v es = (v.actor ≡ pager) × (es ≡ [])

-- so it is over such steps
abbrev pub EveryStood : Type 0
EveryStood = (z : Shape) (v u : View) (es : List Event) → IsStill z.alone v es → Ran z.alone v es u → Stood v u
