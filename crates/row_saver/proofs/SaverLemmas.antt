-- What a saver's calls say of every opening, and of themselves, by what they say of rows.
use Rattle.std.proofs.Common.{◌≡◌, ◌↔◌, ◌≤◌, ◌+◌, ◌++◌, ℕ, Bool, true, false, List, [], ◌∷◌, length, Option, refl, sym, ap, subst, ◌∙◌, true≢false, arith, append-nil}
use Rattle.std.specs.Prelude.{if◌then◌else◌, Result, Ok, Err, OnOk, IsErr}
use Rattle.std.specs.Vec.{with_items}
use Rattle.std.specs.declared.vec.Vec.{Vec}
use Rattle.std.proofs.lemmas.List.{length-append}
use Rattle.map_model.specs.Lists.{all}
use Rattle.btree_descent.specs.core_state.Events as happening
use Rattle.btree_descent.specs.core_state.Needs as core
use Rattle.btree_descent.specs.core_state.Openings.{Opening}
use Rattle.btree_descent.specs.core_state.States.{Place, State, epoch_of, flushed_by_all, in_frame, is_cooling}
use Rattle.btree_descent.specs.core_state.Steps.{happens, state_after}
use Rattle.btree_descent.specs.row_words.declared.event.Event.{Event}
use Rattle.btree_descent.specs.row_words.declared.event.Event.TheVariants.{Miss, Save}
use Rattle.btree_descent.specs.row_words.declared.given.Given.{Given}
use Rattle.btree_descent.specs.row_words.Moments.{Moment}
use Rattle.btree_descent.specs.row_words.Openings.{opening}
use Rattle.btree_descent.specs.row_words.Sealed.{begun, run, stepped}
use Rattle.btree_descent.proofs.row_words.SealedLemmas.{run_append}
use Rattle.btree_descent.specs.rows_trait.declared.view.View.{View}
use Rattle.btree_descent.specs.rows_trait.Turns.{Ran}
use Rattle.btree_descent.specs.rows_trait.Views.{Shape, after_all, state}
use Rattle.btree_descent.specs.Known.{IsSound}
use Rattle.checkpointer.specs.Savers.{IsDirtyIn, IsFound, Looked, MaySave}
use Rattle.checkpointer.specs.declared.saver.Dirty.{Dirty}
use Rattle.cooling_stage.specs.declared.stage.Cooling.{Cooling}
use Rattle.held_rows.specs.Steps.{AreMisses}
use Rattle.page_calls.specs.declared.slots.Slot.{Slot}
use Rattle.page_provider.specs.Disks.{told}
use Rattle.page_provider.specs.Moves.{AreMet}
use Rattle.page_provider.proofs.Joins.{held_misses, met_misses, met_then, ran_join, ran_still}
use Rattle.page_provider.proofs.Running.{told_ran}
use Rattle.page_provider.proofs.Standing.{core_miss, core_step}
use Rattle.row_opening.specs.Openings.{EveryReached, Opens}
use Rattle.row_saver.proofs.RunLemmas.{save_met, sized_on}
use Rattle.row_saver.specs.Inside.{HasMissed, HasSaved, Looks, MaySaveIn}
use Rattle.row_saver.specs.Savers.{HasGone, IsQueue, IsReady, IsSeated, KnowsSlots, is_savers}

-- ## The frames

pub seated_in : {z : Shape} {v : View} {queue : List Cooling} {n frames : ℕ} → n ≡ frames → IsSeated z v queue frames → IsSeated z v queue n
seated_in {z = z} {v = v} {queue = queue} same r = subst (IsSeated z v queue) (sym same) r

pub ready_in : {z : Shape} {v : View} {queue : List Cooling} {n frames : ℕ} {slots : List Slot} {buffer : List ℕ} → n ≡ frames → IsReady z v queue frames slots buffer → IsReady z v queue n slots buffer
ready_in {z = z} {v = v} {queue = queue} {slots = slots} {buffer = buffer} same r = subst (λ n. IsReady z v queue n slots buffer) (sym same) r

pub ready_with : {z : Shape} {v : View} {queue : List Cooling} {frames : ℕ} {slots : List Slot} {buffer bytes : List ℕ} → bytes ≡ buffer → IsReady z v queue frames slots buffer → IsReady z v queue frames slots bytes
ready_with {z = z} {v = v} {queue = queue} {frames = frames} {slots = slots} same r = subst (IsReady z v queue frames slots) (sym same) r

-- bytes that were lent are as many behind the loan
pub refilled : {Z : Type 0} (v : Vec ℕ Z) (bytes : List ℕ) → length (with_items v bytes).items ≡ length v.items
refilled v bytes = sym (with_items v bytes).ok.0 ∙ v.ok.0

-- ## Openings

pub opens_same : {a b : Given} → b ≡ a → (o : Opening) → Opens o a ↔ Opens o b
opens_same same o = (λ h. subst (Opens o) (sym same) h, λ h. subst (Opens o) same h)

pub looked : {v u : View} (slots : List Slot) (generation : ℕ) → Looks v u → Looked (λ o. Opens o v.given) (λ o. Opens o u.given) (told v) (told u) (KnowsSlots slots generation) (KnowsSlots slots generation)
looked {v = v} {u = u} slots generation l = record { opens = λ o. opens_same l.ran.given o; front = told_ran l.ran ∙ append-nil (told v); knows = λ k h. h }

pub found_for : EveryReached → (v : View) (frame : ℕ) (d : Option Dirty) → IsFound (state v).core frame d → (o : Opening) → Opens o v.given → IsFound (state_after o (told v)) frame d
found_for reached v frame d h o opens = subst (λ s. IsFound s frame d) (reached o v.given opens v.seen) h

-- F hangs on how many workers there are alone
flushed_same : (o g : Opening) (s : State) → o.workers ≡ g.workers → flushed_by_all o s ≡ flushed_by_all g s
flushed_same o g s same = cc

pub may_save_in : EveryReached → {z : Shape} {v : View} {queue : List Cooling} {frames frame : ℕ} {slots : List Slot} {buffer : List ℕ} → IsReady z v queue frames slots buffer
    → ((o : Opening) → Opens o v.given → MaySave o (state_after o (told v)) frame) → (p : ℕ) × MaySaveIn v frame p
may_save_in reached {v = v} {frame = frame} r may =
    let o = r.begun.start in
    let opens = r.begun.opens in
    let m = may o opens in
    let s = (state v).core in
    let e : state_after o (told v) ≡ s = sym (reached o v.given opens v.seen) in
    let found : IsDirtyIn s frame m.page m.gsn = subst (λ t. IsDirtyIn t frame m.page m.gsn) e m.found in
    let low : m.gsn ≤ flushed_by_all o s = subst (λ t. m.gsn ≤ flushed_by_all o t) e m.flushed in
    let same = flushed_same o (opening v.given) s opens.workers in
    let is = found.gsn_is in (
      m.page,
      record {
        below = ((r.seated.sound v.seen).residence.within m.page frame found.stands).0;
        stands = found.stands;
        low = omega arith;
        dirty = found.dirty;
      },
    )

-- ## Places, which no save and no miss changes

place_saved : (g : Opening) (s : State) (p : ℕ) (b : Bool) → (if b then happens g s (happening.Event.Save p) else s).place ≡ s.place
place_saved g s p true = refl
place_saved g s p false = refl

places_run : (v : Given) (m : Moment) (es : List Event) → all is_savers es ≡ true → (run v m es).core.place ≡ m.core.place
places_run v m [] a = refl
places_run v m (Save p ∷ es) a = places_run v (stepped v m (Save p)) es a ∙ (ap (λ (s : State). s.place) (core_step v m (Save p)) ∙ place_saved (opening v) m.core p (core.may (opening v) m.core (happening.Event.Save p)))
places_run v m (Miss w ∷ es) a = places_run v (stepped v m (Miss w)) es a ∙ ap (λ (s : State). s.place) (core_miss v m w)
places_run v m (_ ∷ es) a = absurd (true≢false (sym a))

places_ran : {v u : View} {es : List Event} → Ran true v es u → all is_savers es ≡ true → (state u).core.place ≡ (state v).core.place
places_ran {v = v} {u = u} {es = es} r a =
    let seen : u.seen ≡ v.seen ++ es = r.seen ∙ ap (λ xs. v.seen ++ xs) (r.all refl) in
    let at : state u ≡ run v.given (state v) es = (λ i. after_all (r.given i) (seen i)) ∙ run_append v.given (begun v.given) v.seen es in
    ap (λ (m : Moment). m.core.place) at ∙ places_run v.given (state v) es a

queue_on : (s t : State) (queue : List Cooling) → t.place ≡ s.place → IsQueue s queue → IsQueue t queue
queue_on s t queue same q = record {
  entries = λ x h. let e = q.entries x h in record {
    frame = ap (λ (f : ℕ → Place). in_frame (f x.page) x.frame) same ∙ e.frame;
    cooling = ap (λ (f : ℕ → Place). is_cooling (f x.page)) same ∙ e.cooling;
    epoch = ap (λ (f : ℕ → Place). epoch_of (f x.page)) same ∙ e.epoch;
  };
  every = λ p h. q.every p (sym (ap (λ (f : ℕ → Place). is_cooling (f p)) same) ∙ h);
}

-- ## Behind a call

pub gone_looks : {z y : Shape} {v u : View} {slots : List Slot} {buffer : List ℕ} → y ≡ z → Looks v u → HasGone 0 z y v u slots slots buffer buffer
gone_looks {v = v} same l = record { shape = same; events = []; are = refl; few = omega arith; ran = l.ran; met = subst (AreMet v.given (state v)) (sym (l.ran.all refl)) tt; held = l.held; slots = refl; buffer = refl }

pub gone_saved : {z y : Shape} {v u : View} {frame p : ℕ} {was is : List Slot} {before after : List ℕ} → y ≡ z → MaySaveIn v frame p → HasSaved v p u → length is ≡ length was → length after ≡ length before → HasGone 1 z y v u was is before after
gone_saved {v = v} {frame = frame} {p = p} same m h slots buffer = record {
  shape = same;
  events = Save p ∷ [];
  are = refl;
  few = omega arith;
  ran = h.ran;
  met = subst (AreMet v.given (state v)) (sym (h.ran.all refl)) (λ _. save_met (opening v.given) (state v).core p frame m.stands m.low, tt);
  held = h.held;
  slots = slots;
  buffer = buffer;
}

savers_are : (es : List Event) → AreMisses es → all is_savers es ≡ true
savers_are [] m = refl
savers_are (Miss w ∷ es) m = savers_are es m
savers_are (_ ∷ es) m = absurd m

pub gone_missed : {z y : Shape} {v u : View} {was is : List Slot} {before after : List ℕ} → y ≡ z → HasMissed v u → length is ≡ length was → length after ≡ length before → HasGone 1 z y v u was is before after
gone_missed {v = v} {u = u} same h slots buffer = record {
  shape = same;
  events = h.misses;
  are = savers_are h.misses h.are;
  few = h.few;
  ran = h.ran;
  met = met_misses true v u h.misses refl h.ran (held_misses h.misses h.are);
  held = h.held;
  slots = slots;
  buffer = buffer;
}

-- whatever its answer
pub gone_either : {A E : Type 0} {z y : Shape} {v u : View} {was is : List Slot} {before after : List ℕ} (frame : ℕ) (q : Result A E) → y ≡ z → OnOk q ((p : ℕ) × MaySaveIn v frame p × HasSaved v p u) → (IsErr q → HasMissed v u)
    → length is ≡ length was → length after ≡ length before → HasGone 1 z y v u was is before after
gone_either frame (Ok a) same ok err slots buffer = gone_saved same ok.1 ok.2 slots buffer
gone_either frame (Err e) same ok err slots buffer = gone_missed same (err refl) slots buffer

-- nothing was appended
pub gone_still : {z : Shape} {v : View} {was is : List Slot} {buffer : List ℕ} → v.held ≡ [] → length is ≡ length was → HasGone 0 z z v v was is buffer buffer
gone_still {v = v} none slots = record { shape = refl; events = []; are = refl; few = omega arith; ran = ran_still true v; met = tt; held = none; slots = slots; buffer = refl }

savers_append : (es fs : List Event) → all is_savers es ≡ true → all is_savers fs ≡ true → all is_savers (es ++ fs) ≡ true
savers_append [] fs a b = b
savers_append (Save p ∷ es) fs a b = savers_append es fs a b
savers_append (Miss w ∷ es) fs a b = savers_append es fs a b
savers_append (_ ∷ es) fs a b = absurd (true≢false (sym a))

module _ {m : ℕ} {z y : Shape} {v u : View} {was is : List Slot} {before after : List ℕ} where
  pub gone_then : {n most : ℕ} {x : Shape} {t : View} {first : List Slot} {begin : List ℕ} → n + m ≤ most → HasGone n x z t v first was begin before → HasGone m z y v u was is before after → HasGone most x y t u first is begin after
  gone_then {t = t} most a b = record {
    shape = b.shape ∙ a.shape;
    events = a.events ++ b.events;
    are = savers_append a.events b.events a.are b.are;
    few = let i = length-append a.events b.events in let j = a.few in let k = b.few in omega arith;
    ran = ran_join true t a.events v b.events u a.ran b.ran;
    met = met_then a.ran b.ran a.met b.met;
    held = b.held;
    slots = b.slots ∙ a.slots;
    buffer = b.buffer ∙ a.buffer;
  }

  -- it may be called again
  pub ready_gone : {queue : List Cooling} {frames : ℕ} → HasGone m z y v u was is before after → IsReady z v queue frames was before → IsReady y u queue frames is after
  ready_gone {queue = queue} g r = record {
    seated = record {
      alone = ap (λ (s : Shape). s.alone) g.shape ∙ r.seated.alone;
      held = g.held;
      sized = sized_on g.shape g.ran.given r.seated.sized;
      sound = subst IsSound (sym g.ran.given) r.seated.sound;
      queued = queue_on (state v).core (state u).core queue (places_ran g.ran g.are) r.seated.queued;
    };
    begun = record { start = r.begun.start; opens = subst (Opens r.begun.start) (sym g.ran.given) r.begun.opens };
    pages = g.slots ∙ (r.pages ∙ ap (λ (g : Given). (opening g).format.pages) (sym g.ran.given));
    size = g.buffer ∙ r.size;
  }
