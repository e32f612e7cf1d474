-- A pager and its saver: what the pager has serves as the saver's parts, and what a saver's calls are to the pager.
use Rattle.std.specs.Prelude.{◌≡◌, ℕ, true, List, [], length}
use Rattle.btree_descent.specs.rows_trait.declared.view.View.{View}
use Rattle.btree_descent.specs.rows_trait.Views.{Shape}
use Rattle.page_calls.specs.declared.slots.Slot.{Slot}
use Rattle.page_provider.specs.Moves.{Moved}
use Rattle.page_provider.specs.Providers.{Keeps, Provider}
use Rattle.row_saver.specs.Savers.{HasBegun, HasGone, IsReady}

-- Where nobody else steps and no row is held, the queue and the slots of a pager serve.
abbrev pub EveryReady : Type 0
EveryReady = (z : Shape) (v : View) (k : Provider) (buffer : List ℕ) → z.alone ≡ true → v.held ≡ [] → Keeps z v k → HasBegun v.given → length k.slots ≡ length k.free → length buffer ≡ 1024 → IsReady z v k.queue k.frames k.slots buffer

-- Calls of the saver are to the pager as a call of its own: it keeps what it has to, with what is known of the slots now.
abbrev pub EverySaved : Type 0
EverySaved = (most : ℕ) (z y : Shape) (v u : View) (k : Provider) (is : List Slot) (before after : List ℕ) → z.alone ≡ true → Keeps z v k → HasGone most z y v u k.slots is before after → Moved most z v k u (record k { slots = is })
