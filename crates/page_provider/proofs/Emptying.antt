-- A page is chosen that can leave: how the calls that look for one end.
use Rattle.std.proofs.Common.{◌≡◌, ◌≢◌, ◌<◌, ◌≤◌, ◌+◌, ◌⊎◌, inl, inr, ℕ, true, List, [], length, Some, refl, sym, ap, ◌∙◌, arith, subst, Option}
use Rattle.btree_descent.specs.core_state.States.{is_cooling}
use Rattle.btree_descent.specs.row_words.Openings.{opening}
use Rattle.btree_descent.specs.rows_trait.declared.view.View.{View}
use Rattle.btree_descent.specs.rows_trait.Turns.{Ran}
use Rattle.btree_descent.specs.rows_trait.Views.{Shape, state}
use Rattle.cooling_stage.specs.declared.stage.Cooling.{Cooling}
use Rattle.cooling_stage.specs.Queue.{found}
use Rattle.page_provider.specs.declared.refusal.Refusal.{Refusal}
use Rattle.page_provider.specs.declared.leaving.Chosen.{Chosen}
use Rattle.page_provider.specs.declared.leaving.Chosen.TheVariants as chosen
use Rattle.page_provider.specs.declared.leaving.Leave.TheVariants as leave
use Rattle.page_provider.specs.Cools.{Chills, Idle, Stepped, Turns}
use Rattle.page_provider.specs.Ends.{HasRefused}
use Rattle.page_provider.specs.Finds.{Stalls}
use Rattle.page_provider.specs.Inside.{Missed}
use Rattle.page_provider.specs.Laws.{RowLaws}
use Rattle.page_provider.specs.Leaves as leaves
use Rattle.page_provider.specs.Leaves.{Chooses, Chose, HasFlushed, HasHalted, IsCalm, IsFlushed, MissedLater, NoOther, NoneLeaves}
use Rattle.page_provider.specs.Providers.{Provider, Keeps}
use Rattle.page_provider.proofs.Chilling.{calm_then, chills_calm, chills_idle, chills_none, chills_ran, chills_step, chills_then, cooled_long, cooled_there, flushed_cooled, idle_ran, none_above, none_held, none_others, ticked, ticked_state}
use Rattle.page_provider.proofs.Flushing.{flushed_ran, same_state}
use Rattle.page_provider.proofs.Judging.{as_there, entry_is, none_same, tells}
use Rattle.page_provider.proofs.Keeping.{keeps_ran}
use Rattle.page_provider.proofs.Unsaved.{few_none, few_quiet, misses_none, misses_quiet}
use Rattle.page_provider.proofs.Moving.{halts_refused, missed_halts, refused_then, refused_up, stalls_refused}
use Rattle.btree_descent.proofs.rows_trait.Runs.{ran_append}

-- ## Refusals

stalls_calm : {n : ℕ} {z : Shape} {v u : View} {k is : Provider} {why : Refusal} → Stalls n z v k why u is → IsCalm z v k u is
stalls_calm {k = k} {is = is} s = record {
  events = s.stopped.missed.events;
  ran = s.stopped.missed.ran;
  quiet = misses_quiet s.stopped.missed.events s.stopped.missed.misses;
  none = misses_none s.stopped.missed.events s.stopped.missed.misses;
  memory = s.memory ∙ (λ i. record k { queue = sym (ap (λ (p : Provider). p.queue) s.memory) i; free = sym (ap (λ (p : Provider). p.free) s.memory) i; hand = is.hand });
}

missed_calm : {z : Shape} {v u : View} {k : Provider} {why : Refusal} → Missed z v why u → IsCalm z v k u k
missed_calm m = record { events = m.misses; ran = m.ran; quiet = few_quiet m.misses m.few; none = few_none m.misses m.few; memory = refl }

-- a part that was stopped, behind pages that cooled
module _ {z : Shape} {path : List ℕ} {v u : View} {was k : Provider} (laws : RowLaws) (h : Chills z path v was u k) where
  pub then_stalled : {w : View} {is : Provider} {why : Refusal} → Stalls 2 z u k why w is → HasRefused 3 z path v was why w is × HasHalted z v was why w is
  then_stalled s = (
    refused_up (let few : 2 ≤ 3 = omega arith in few) (refused_then h.moved h.keeps (ap (λ (p : Provider). p.broken) h.memory) (stalls_refused laws h.moved.goes.keeps h.moved.goes.held s)),
    record { kind = s.stopped.kind; calm = calm_then (chills_calm h) (stalls_calm s) },
  )

  pub then_missed : {w : View} {why : Refusal} → Missed z u why w → HasRefused 3 z path v was why w k × HasHalted z v was why w k
  then_missed m = (
    refused_up (let few : 1 ≤ 3 = omega arith in few) (refused_then h.moved h.keeps (ap (λ (p : Provider). p.broken) h.memory) (halts_refused laws h.moved.goes.keeps h.moved.goes.held (missed_halts h.moved.goes.held m))),
    record { kind = m.kind; calm = calm_then (chills_calm h) (missed_calm m) },
  )

  pub then_refused : {w : View} {is : Provider} {why : Refusal} → HasRefused 3 z path u k why w is → HasRefused 3 z path v was why w is
  then_refused r = refused_up (let few : 0 + 3 ≤ 3 = omega arith in few) (refused_then h.moved h.keeps (ap (λ (p : Provider). p.broken) h.memory) r)

  pub then_halted : {w : View} {is : Provider} {why : Refusal} → HasHalted z u k why w is → HasHalted z v was why w is
  then_halted q = record { kind = q.kind; calm = calm_then (chills_calm h) q.calm }

-- a turn, said of the rows as they were at the beginning
pub turned : (path : List ℕ) (u w : View) (k is : Provider) {y z : Shape} {done : Option Cooling} (answer : Option Cooling) → y ≡ z → done ≡ answer → Turns y path u k done w is → Turns z path u k answer w is
turned path u w k is answer shape same t = subst (λ (s : Shape × Option Cooling). Turns s.0 path u k s.1 w is) (λ i. (shape i, same i)) t

-- ## Turns, until one can leave

none_long : {k is : Provider} {n : ℕ} {v : View} → length is.queue ≡ length k.queue → NoneLeaves k n v → NoneLeaves is n v
none_long e n = record { none = n.none; some_held = n.some_held; some_above = λ few. n.some_above (let a = e in omega arith) }

-- So many pages were cooled, and none can leave.
pub record IsChilling (z : Shape) (path : List ℕ) (v : View) (was : Provider) (flushed i n : ℕ) (u : View) (is : Provider) : Type 0 where
  pub chills : Chills z path v was u is
  pub flushed_is : IsFlushed z flushed u
  pub many : i ≤ length is.queue
  pub few : n ≤ length is.queue
  pub none : z.alone ≡ true → NoneLeaves is n u

pub chilling_none : {z : Shape} {path : List ℕ} {v : View} {k : Provider} {flushed n : ℕ} → RowLaws → Keeps z v k → v.held ≡ [] → IsFlushed z flushed v → n ≤ length k.queue → (z.alone ≡ true → NoneLeaves k n v) → IsChilling z path v k flushed 0 n v k
chilling_none laws c free low few none = record { chills = chills_none laws c free; flushed_is = low; many = omega arith; few = few; none = none }

-- the queue has fewer pages than there are frames
pub chilling_few : {z : Shape} {path : List ℕ} {v u : View} {was k : Provider} {flushed i n : ℕ} → RowLaws → IsChilling z path v was flushed i n u k → (i < k.frames) × (n < k.frames) × (k.frames ≡ was.frames)
chilling_few laws j =
    let c = j.chills.moved.goes.keeps in
    let a = (tells laws c).fewer in let b = c.sized.given in let d = j.many in let e = j.few in
    (omega arith, omega arith, j.chills.moved.same.frames)

module _ {z : Shape} {path : List ℕ} {v u : View} {was k : Provider} {flushed i n : ℕ} (laws : RowLaws) (j : IsChilling z path v was flushed i n u k) where
  -- a turn has found none
  module _ {w : View} {is : Provider} (t : Idle z u k w is) where
    pub idle_chills : Chills z path v was w is
    idle_chills = chills_then j.chills (chills_idle laws j.chills.moved.goes.keeps t)

    pub idle_nobody : Chooses z is (chosen.Nobody n) w
    idle_nobody =
        let same = ap (λ (p : Provider). length p.queue) t.memory in
        let few = j.few in
        (omega arith, λ alone. none_long same (none_same u w (idle_ran t).given (same_state alone (idle_ran t)) (j.none alone)))

  -- or has cooled one
  module _ {w : View} {is : Provider} {entry : Cooling} (s : Stepped z path u k entry w is) where
    pub stepped_chills : Chills z path v was w is
    stepped_chills = chills_then j.chills (chills_step s)

    pub stepped_flushed : IsFlushed z flushed w
    stepped_flushed = flushed_cooled laws j.chills.moved.goes.held s.cooled j.flushed_is

    pub stepped_there : found entry.page is.queue ≡ Some entry
    stepped_there = cooled_there laws j.chills.moved.goes.keeps s.cooled

    hot : Rattle.btree_descent.specs.core_state.States.is_hot ((state u).core.place entry.page) ≡ true
    hot = ap Rattle.btree_descent.specs.core_state.States.is_hot s.cooled.hot

    -- which was judged
    module _ {x : View} where
      at_ran : Ran z.alone w [] x → w.held ≡ [] → x.held ≡ w.held → Chills z path v was x is
      at_ran r none free = chills_then stepped_chills (chills_ran laws s.cooled.moved.goes.keeps none r free)

      pub stepped_yes : leaves.Tells z w entry.page leave.Yes x → Chills z path v was x is × Chooses z is (chosen.Page entry) x
      stepped_yes t = (at_ran t.ran s.cooled.moved.goes.held t.held, (t.says, stepped_there))

      -- what holds behind the cool and the tick, where nobody else steps
      given_is : Ran z.alone w [] x → x.given ≡ (ticked u entry.page).given
      given_is r = r.given ∙ s.cooled.moved.goes.ran.given

      state_is : z.alone ≡ true → Ran z.alone w [] x → state x ≡ state (ticked u entry.page)
      state_is alone r = same_state alone r ∙ ticked_state alone s.cooled

      cools : z.alone ≡ true → Ran z.alone w [] x → is_cooling ((state (ticked u entry.page)).core.place entry.page) ≡ true
      cools alone r = ap (λ m. is_cooling (m.core.place entry.page)) (sym (state_is alone r)) ∙ (entry_is laws (keeps_ran laws.stood laws.standing tt r s.cooled.moved.goes.keeps) stepped_there).cooling

      -- none of the others can leave
      pub stepped_others : leaves.Tells z w entry.page leave.Yes x → NoOther z x (chosen.Page entry)
      stepped_others t alone = as_there (ticked u entry.page) x (λ g m. (q : ℕ) → q < (opening g).format.pages → q ≢ entry.page → is_cooling (m.core.place q) ≡ true → (Rattle.btree_descent.specs.core_state.States.flushed_by_all (opening g) m.core < (m.core.page q).gsn) ⊎ Rattle.page_pool.specs.Full.IsHeldBack m.core q)
          (given_is t.ran) (state_is alone t.ran) (none_others entry.page (j.none alone) hot (cools alone t.ran))

      pub stepped_above : leaves.Tells z w entry.page leave.Above x → IsChilling z path v was flushed (i + 1) n x is
      stepped_above t =
          let long = cooled_long s.cooled in let many = j.many in let few = j.few in
          record {
            chills = at_ran t.ran s.cooled.moved.goes.held t.held;
            flushed_is = flushed_ran laws s.cooled.moved.goes.held t.ran stepped_flushed;
            many = omega arith;
            few = omega arith;
            none = λ alone. none_same (ticked u entry.page) x (given_is t.ran) (state_is alone t.ran) (none_above entry.page (j.none alone) hot (cools alone t.ran) is
                (as_there x (ticked u entry.page) (λ g m. Rattle.btree_descent.specs.core_state.States.flushed_by_all (opening g) m.core < (m.core.page entry.page).gsn) (sym (given_is t.ran)) (sym (state_is alone t.ran)) (t.says alone)));
          }

      pub stepped_held : leaves.Tells z w entry.page leave.Held x → IsChilling z path v was flushed (i + 1) (n + 1) x is
      stepped_held t =
          let long = cooled_long s.cooled in let many = j.many in let few = j.few in
          record {
            chills = at_ran t.ran s.cooled.moved.goes.held t.held;
            flushed_is = flushed_ran laws s.cooled.moved.goes.held t.ran stepped_flushed;
            many = omega arith;
            few = omega arith;
            none = λ alone. none_same (ticked u entry.page) x (given_is t.ran) (state_is alone t.ran) (none_held entry.page (j.none alone) hot (cools alone t.ran) is long
                (as_there x (ticked u entry.page) (λ g m. Rattle.page_pool.specs.Full.IsHeldBack m.core entry.page) (sym (given_is t.ran)) (sym (state_is alone t.ran)) (t.says alone)));
          }

      pub stepped_missed : {why : Refusal} → Missed z w why x → HasRefused 3 z path v was why x is × HasHalted z v was why x is
      stepped_missed m = then_missed laws stepped_chills m

-- ## The flushed words, the queue, and then turns

module _ {z : Shape} {v u : View} {k : Provider} {flushed : ℕ} (laws : RowLaws) (c : Keeps z v k) (none : v.held ≡ []) (f : HasFlushed z v flushed u) where
  pub flushed_keeps : Keeps z u k
  flushed_keeps = keeps_ran laws.stood laws.standing tt f.ran c

  module _ (path : List ℕ) {x : View} where
    behind : Ran z.alone u [] x → x.held ≡ u.held → Chills z path v k x k
    behind r free = chills_ran laws c none (ran_append z.alone v [] u [] x f.ran r) (free ∙ f.held)

    pub chose_chills : {answer : Chosen} → Chose z u k answer x → Chills z path v k x k
    chose_chills a = behind a.ran a.held

    pub chose_flushed : {answer : Chosen} → Chose z u k answer x → IsFlushed z flushed x
    chose_flushed a = flushed_ran laws (f.held ∙ none) a.ran f.is

    pub later_missed : {why : Refusal} → MissedLater z u why x → HasRefused 3 z path v k why x k × HasHalted z v k why x k
    later_missed m = then_missed laws (chills_ran laws c none (ran_append z.alone v [] u [] m.at f.ran m.came) (m.free ∙ f.held)) m.missed

-- ## Pages cool until the queue has so many

-- So many turns have cooled a page each, and the queue has no more than is wanted.
pub record IsSharing (z : Shape) (path : List ℕ) (v : View) (was : Provider) (wanted i : ℕ) (u : View) (is : Provider) : Type 0 where
  pub chills : Chills z path v was u is
  pub many : i ≤ length is.queue
  pub low : (length is.queue ≡ length was.queue) ⊎ (length is.queue ≤ wanted)

pub sharing_none : {z : Shape} {path : List ℕ} {v : View} {k : Provider} {wanted : ℕ} → RowLaws → Keeps z v k → v.held ≡ [] → IsSharing z path v k wanted 0 v k
sharing_none laws c none = record { chills = chills_none laws c none; many = omega arith; low = inl refl }

module _ {z : Shape} {path : List ℕ} {v u : View} {was k : Provider} {wanted i : ℕ} (j : IsSharing z path v was wanted i u k) where
  pub sharing_more : {w : View} {is : Provider} {entry : Cooling} → length k.queue < wanted → Stepped z path u k entry w is → IsSharing z path v was wanted (i + 1) w is
  sharing_more few s = let long = cooled_long s.cooled in let many = j.many in record { chills = chills_then j.chills (chills_step s); many = omega arith; low = inr (omega arith) }

  pub sharing_idle : {w : View} {is : Provider} → RowLaws → Idle z u k w is → Chills z path v was w is
  sharing_idle laws t = chills_then j.chills (chills_idle laws j.chills.moved.goes.keeps t)

  pub sharing_low : {w : View} {is : Provider} → Idle z u k w is → (length is.queue ≡ length was.queue) ⊎ (length is.queue ≤ wanted)
  sharing_low t = let same = ap (λ (p : Provider). length p.queue) t.memory in elim j.low [ inl e ↦ inl (omega arith) | inr few ↦ inr (omega arith) ]

-- a turn was stopped behind pages that cooled
pub then_stopped : {z : Shape} {path : List ℕ} {v u w : View} {was k is : Provider} {why : Refusal} → RowLaws → Chills z path v was u k → Stalls 2 z u k why w is → HasRefused 2 z path v was why w is × HasHalted z v was why w is
then_stopped laws h s = (
  refused_up (let few : 0 + 2 ≤ 2 = omega arith in few) (refused_then h.moved h.keeps (ap (λ (p : Provider). p.broken) h.memory) (stalls_refused laws h.moved.goes.keeps h.moved.goes.held s)),
  record { kind = s.stopped.kind; calm = calm_then (chills_calm h) (stalls_calm s) },
)
