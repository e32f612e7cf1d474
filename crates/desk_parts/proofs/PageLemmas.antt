-- A call of the pager is a part of a call of an engine.
use Rattle.std.proofs.Common.{◌≡◌, ◌++◌, ◌&&◌, ◌||◌, ℕ, Bool, true, false, List, [], ◌∷◌, length, refl, sym, ap, ◌∙◌, subst, append_assoc, true≢false}
use Rattle.std.proofs.lemmas.List.{append_cancel_left}
use Rattle.map_model.specs.Lists.{all, any}
use Rattle.call_parts.specs.core_state.Events as happening
use Rattle.call_parts.specs.core_state.Needs.{may}
use Rattle.call_parts.specs.core_state.Openings.{Opening}
use Rattle.call_parts.specs.core_state.Steps as core
use Rattle.call_parts.specs.core_state.Steps.{AllMet}
use Rattle.call_parts.specs.disk_runs.Moments.{LeavesSome}
use Rattle.call_parts.specs.disk_runs.Stands.{Known}
use Rattle.call_parts.specs.disk_slots.declared.master.Master.{Master}
use Rattle.lean_disk.specs.Moments.{LeavesOnly, OnlyReads}
use Rattle.lean_disk.specs.Story.{Crash, Story}
use Rattle.call_parts.specs.page_calls.Calls.{IsOn}
use Rattle.page_provider.specs.Disks.{Disked, Went, told}
use Rattle.page_provider.specs.Moves.{AreMet, ArePagers, Moved, is_pagers}
use Rattle.page_provider.specs.Providers.{Provider}
use Rattle.call_parts.specs.row_opening.Openings.{Opens}
use Rattle.call_parts.specs.row_words.declared.event.Event.{Event}
use Rattle.call_parts.specs.row_words.declared.event.Event.TheVariants as seen
use Rattle.call_parts.specs.row_words.declared.given.Given.{Given}
use Rattle.call_parts.specs.row_words.Moments.{Moment, actor_of, event_of, events_of, pager}
use Rattle.call_parts.specs.row_words.Openings.{opening}
use Rattle.call_parts.specs.row_words.Sealed.{stepped}
use Rattle.call_parts.specs.rows_trait.declared.view.View.{View}
use Rattle.call_parts.specs.rows_trait.Views.{Shape, state}
use Rattle.call_parts.specs.Areas.{Apart, is_save}
use Rattle.call_parts.specs.Laws.{EveryArea, EveryStep}
use Rattle.call_parts.specs.Memory.{Memory, with_slots}
use Rattle.call_parts.specs.Parts.{Failed, Part}
use Rattle.call_parts.specs.Rooms.{ArePaging, is_paging, makes_sync}
use Rattle.call_parts.specs.Steps.{Ran, Sees, moves_page, told_by}
use Rattle.desk_parts.specs.Laws.{EveryPagePart}
use Rattle.desk_parts.specs.Pages.{HasSlots, PagerCalled, PagerServed}

-- ## Events

both : (p q : Bool) → p ≡ true → q ≡ true → (p && q) ≡ true
both true true x y = refl
both true false x y = y
both false q x y = x

each : (p q : Bool) → (p && q) ≡ true → (p ≡ true) × (q ≡ true)
each true q x = (refl, x)
each false q x = absurd (true≢false (sym x))

events_more : (xs ys : List Event) → events_of (xs ++ ys) ≡ events_of xs ++ events_of ys
events_more [] ys = refl
events_more (x ∷ xs) ys = ap (λ es. event_of x ∷ es) (events_more xs ys)

-- the pager's events move pages
moves_one : (e : Event) → is_pagers e ≡ true → moves_page (event_of e) ≡ true
moves_one (seen.Fetch p pairs) q = refl
moves_one (seen.Load p f) q = refl
moves_one (seen.Cool p) q = refl
moves_one (seen.Rescue p) q = refl
moves_one (seen.Save p) q = refl
moves_one (seen.Evict p) q = refl
moves_one seen.Tick q = refl
moves_one (seen.Miss w) q = refl
moves_one _ q = absurd (true≢false (sym q))

moves_all : (es : List Event) → ArePagers es → all moves_page (events_of es) ≡ true
moves_all [] a = refl
moves_all (e ∷ es) a = both (moves_page (event_of e)) (all moves_page (events_of es)) (moves_one e a.0) (moves_all es a.1)

-- which is paging
either : (p q : Bool) → p ≡ true → (p || q) ≡ true
either true q x = refl
either false q x = absurd (true≢false (sym x))

paging_all : (es : List happening.Event) → all moves_page es ≡ true → ArePaging es
paging_all [] q = refl
paging_all (e ∷ es) q = let b = each (moves_page e) (all moves_page es) q in both (is_paging e) (all is_paging es) (either (moves_page e) (makes_sync e) b.0) (paging_all es b.1)

-- ## Needs

stepped_core : (v : Given) (m : Moment) (e : Event) → (stepped v m e).core ≡ core.step (opening v) m.core (event_of e)
unfolding stepped
stepped_core v m e = refl

-- a miss has no need, and each other event is the pager's
met_one : (g : Given) (m : Moment) (e : Event) → is_pagers e ≡ true → (actor_of e ≡ pager → may (opening g) m.core (event_of e) ≡ true) → may (opening g) m.core (event_of e) ≡ true
met_one g m (seen.Fetch p pairs) q need = need refl
met_one g m (seen.Load p f) q need = need refl
met_one g m (seen.Cool p) q need = need refl
met_one g m (seen.Rescue p) q need = need refl
met_one g m (seen.Save p) q need = need refl
met_one g m (seen.Evict p) q need = need refl
met_one g m seen.Tick q need = need refl
met_one g m (seen.Miss w) q need = refl
met_one g m _ q need = absurd (true≢false (sym q))

met_all : (g : Given) (m : Moment) (es : List Event) → ArePagers es → AreMet g m es → AllMet (opening g) m.core (events_of es)
met_all g m [] a n = tt
met_all g m (e ∷ es) a n = (met_one g m e a.0 n.0, subst (λ s. AllMet (opening g) s (events_of es)) (stepped_core g m e) (met_all g (stepped g m e) es a.1 n.1))

-- ## A call

module _ (many most : ℕ) (z : Shape) (v w : View) (k is : Provider) (memory : Memory) (old new : Story) (alone : z.alone ≡ true) (held : HasSlots memory k) (areas : EveryArea old new) (steps : EveryStep old new) where
  -- where nobody else steps its events are all that was seen
  seen_is : (m : Moved most z v k w is) → w.seen ≡ v.seen ++ m.events
  seen_is m = m.goes.ran.seen ∙ ap (λ ys. v.seen ++ ys) (m.goes.ran.all alone)

  sees : (m : Moved most z v k w is) → Sees m.events v w
  sees m = record { given = m.goes.ran.given; seen = seen_is m; met = met_all v.given (state v) m.events m.pagers (subst (AreMet v.given (state v)) (m.goes.ran.all alone) m.met) }

  -- and so they are of the core
  told_is : (m : Moved most z v k w is) → told w ≡ told v ++ events_of m.events
  told_is m = (λ i. events_of (m.goes.ran.given i).before ++ events_of (seen_is m i)) ∙ (ap (λ ys. events_of v.given.before ++ ys) (events_more v.seen m.events) ∙ sym (append_assoc (events_of v.given.before) (events_of v.seen) (events_of m.events)))

  -- in a run
  module _ (m : Moved most z v k w is) (d : Disked z.alone k v is w old new) (g : Opening) (s0 : Crash) (x : Known) (opens : Opens g v.given) (on : IsOn g (told_by v) s0 x memory.slots old) (master : x.master ≡ memory.master) where
    went : Went g s0 x v is w old new
    went = d alone g s0 x (record { opens = opens; on = subst (λ ss. IsOn g (told v) s0 x ss old) held.slots on; generation = ap (λ (n : Master). n.generation) master ∙ held.generation })

    more_is : went.more ≡ events_of m.events
    more_is = append_cancel_left (told v) went.more (events_of m.events) (sym went.is ∙ told_is m)

    any_moment : LeavesOnly old new (LeavesSome g (told_by v) (events_of m.events) s0 x.master)
    any_moment = subst (λ es. LeavesOnly old new (LeavesSome g (told v) es s0 x.master)) more_is went.any_moment

    ran : is.broken ≡ false → Ran g (told_by v) (events_of m.events) s0 x is.slots old new
    ran well = let y = went.stands well in record {
      any_moment = any_moment;
      known = y.0;
      master = y.1.master;
      log = y.1.log;
      on = subst (λ es. IsOn g es s0 y.0 is.slots new) (told_is m) y.2.on;
    }

  -- where it saved no page the device was only read
  apart : (c : PagerServed most z v w k is old new) → Apart many (any is_save (events_of c.call.moved.events)) false old new
  apart c = of (any is_save (events_of c.call.moved.events)) c.reads
    where
      of : (b : Bool) → (b ≡ false → OnlyReads old new) → Apart many b false old new
      of true q = (areas many).pages c.call.stays.frame c.call.stays.within
      of false q = (areas many).reads (q refl)

  part : (c : PagerServed most z v w k is old new) → Part many c.call.moved.events v w memory (with_slots is.slots memory) old new
  part c = (steps many v w memory).pages c.call.moved.events is.slots held.count (record {
    sees = sees c.call.moved;
    moves = moves_all c.call.moved.events c.call.moved.pagers;
    apart = apart c;
    ran = λ g s0 x opens on master. ran c.call.moved c.call.disk g s0 x opens on master c.well;
  })

  failed : (c : PagerCalled most z v w k is old new) → Failed many true false (events_of c.moved.events) v memory old new
  failed c = (steps many v w memory).breaks (events_of c.moved.events) held.count (record {
    apart = (areas many).pages c.stays.frame c.stays.within;
    ran = λ g s0 x opens on master. any_moment c.moved c.disk g s0 x opens on master;
  })

  slots : Moved most z v k w is → length is.slots ≡ length k.slots → HasSlots (with_slots is.slots memory) is
  slots m count = record { slots = refl; generation = held.generation ∙ sym m.same.generation; count = count ∙ (sym (ap (λ ss. length ss) held.slots) ∙ held.count) }

pub every_page_part : (old new : Story) → EveryArea old new → EveryStep old new → EveryPagePart old new
every_page_part old new areas steps many most z v w k is memory alone held = record {
  part = part many most z v w k is memory old new alone held areas steps;
  slots = slots many most z v w k is memory old new alone held areas steps;
  failed = failed many most z v w k is memory old new alone held areas steps;
  paging = λ m. paging_all (events_of m.events) (moves_all m.events m.pagers);
}
