-- A page that comes into a frame, or is in none: what a fault says of it.
use Rattle.std.proofs.Common.{◌≡◌, ◌<◌, ◌≤◌, ◌&&◌, ◌⊎◌, inl, inr, not, ℕ, Bool, true, false, List, [], ◌∷◌, length, Some, refl, sym, ap, subst, ◌∙◌, arith, true≢false}
use Rattle.btree_descent.proofs.row_words.Stays.{and_true}
use Rattle.std.specs.Prelude.{if◌then◌else◌}
use Rattle.btree_descent.specs.core_state.Events as happening
use Rattle.btree_descent.specs.core_state.Needs as core
use Rattle.btree_descent.specs.core_state.Needs.{has_hot_parent}
use Rattle.btree_descent.specs.core_state.Openings.{Opening}
use Rattle.btree_descent.specs.core_state.States.{Place, State, is_cold, is_cooling, is_hot}
use Rattle.btree_descent.specs.core_state.Steps.{happens, step}
use Rattle.cooling_stage.specs.declared.stage.Cooling.{Cooling}
use Rattle.cooling_stage.specs.Queue.{found}
use Rattle.free_pages.specs.Pages.{is_in}
use Rattle.page_pool.specs.Pools.{IsEntry}
use Rattle.btree_descent.specs.row_words.declared.event.Event.{Event}
use Rattle.btree_descent.specs.row_words.declared.event.Event.TheVariants.{Rescue}
use Rattle.btree_descent.specs.row_words.Moments.{events_of}
use Rattle.map_model.specs.Lists.{all}
use Rattle.disk_runs.specs.Quiet.{is_quiet}
use Rattle.lean_disk.specs.Story.{IsLawful, Story}
use Rattle.btree_descent.specs.row_words.Openings.{opening}
use Rattle.btree_descent.specs.rows_trait.declared.view.View.{View}
use Rattle.btree_descent.specs.rows_trait.Views.{Shape, state}
use Rattle.page_provider.specs.declared.refusal.Refusal.{Refusal}
use Rattle.page_provider.specs.Comes.{HasCome, IsUnseen}
use Rattle.page_provider.specs.Cools.{Idle}
use Rattle.page_provider.specs.Ends.{HasRefused}
use Rattle.page_provider.specs.Faults.{HasLost, HasPlaced, IsWanted}
use Rattle.page_provider.specs.Finds.{Halts}
use Rattle.page_provider.specs.Disks.{Disked}
use Rattle.page_provider.specs.Laws.{DiskLaws, RowLaws}
use Rattle.page_provider.specs.Moves.{AreMet}
use Rattle.page_provider.specs.Providers.{Provider, Keeps}
use Rattle.page_provider.proofs.Hands.{idle_is, idle_path}
use Rattle.page_provider.specs.Mirrored.{sets_saved}
use Rattle.page_provider.proofs.Unsaved.{misses_none, misses_quiet}
use Rattle.page_provider.proofs.Running.{disked_quiet}
use Rattle.page_provider.proofs.Moving.{come_moved, halts_refused, moved_up, refused_up}
use Rattle.page_provider.proofs.Pools.{found_entry}
use Rattle.page_provider.proofs.Standing.{core_one}

-- ## A page of the queue

cool_hot : (x : Place) → is_cooling x ≡ true → is_hot x ≡ false
cool_hot (Place.Hot f) h = absurd (true≢false (sym h))
cool_hot (Place.Cooling f e w) h = refl
cool_hot Place.Cold h = refl

cool_cold : (x : Place) → is_cooling x ≡ true → is_cold x ≡ false
cool_cold (Place.Hot f) h = refl
cool_cold (Place.Cooling f e w) h = refl
cool_cold Place.Cold h = absurd (true≢false (sym h))

live_by : (live hot : Bool) → hot ≡ false → live ≡ not (not live && not hot)
live_by true hot e = refl
live_by false true e = absurd (true≢false e)
live_by false false e = refl

-- what is known of a page that is not hot, by the set of free pages
pub live_is : {z : Shape} {v : View} {k : Provider} → Keeps z v k → (page : ℕ) → page < (opening v.given).format.pages → is_hot ((state v).core.place page) ≡ false → (b : Bool) → is_in k.free page ≡ b → ((state v).core.page page).node.live ≡ not b
live_is {v = v} c page lt hot b e = live_by ((state v).core.page page).node.live (is_hot ((state v).core.place page)) hot ∙ ap not (sym (c.agrees.free page lt) ∙ e)

module _ {z : Shape} {v : View} {k : Provider} {entry : Cooling} (c : Keeps z v k) (there : found entry.page k.queue ≡ Some entry) where
  in_queue : IsEntry (state v).core entry
  in_queue = c.agrees.entries entry (found_entry entry.page k.queue entry there).has

  pub entry_page : entry.page < (opening v.given).format.pages
  entry_page = ((c.sound v.seen).residence.within entry.page entry.frame in_queue.frame).0

  pub entry_below : entry.page < length k.free
  entry_below = let a = entry_page in let b = c.pages in omega arith

  pub entry_hot : is_hot ((state v).core.place entry.page) ≡ false
  entry_hot = cool_hot ((state v).core.place entry.page) in_queue.cooling

  pub entry_cold : is_cold ((state v).core.place entry.page) ≡ false
  entry_cold = cool_cold ((state v).core.place entry.page) in_queue.cooling

  pub entry_live : (b : Bool) → is_in k.free entry.page ≡ b → ((state v).core.page entry.page).node.live ≡ not b
  entry_live b e = live_is c entry.page entry_page entry_hot b e

-- ## It comes, or not

rescued : (g : Opening) (s : State) (q p : ℕ) → (step g s (happening.Event.Rescue q)).page p ≡ s.page p
rescued g s q p = go (core.may g s (happening.Event.Rescue q))
  where
    go : (b : Bool) → (if b then happens g s (happening.Event.Rescue q) else s).page p ≡ s.page p
    go true = refl
    go false = refl

pub come_placed : (path : List ℕ) {z : Shape} {v u : View} {k is : Provider} {page frame : ℕ} → is_cold ((state v).core.place page) ≡ false → HasCome z (Rescue page) page frame v k u is → HasPlaced 5 z path v k page frame u is
come_placed path {v = v} {page = page} off h = record {
  moved = moved_up (let few : 1 ≤ 5 = omega arith in few) (come_moved refl refl h);
  keeps = λ f p has hot. h.others p (ap is_hot hot) ∙ hot;
  hot = h.hot;
  broken = ap (λ (p : Provider). p.broken) h.memory;
  needed = λ alone. record { events = Rescue page ∷ []; ran = h.goes.ran; few = inl refl };
  enough = λ alone cold. absurd (true≢false (sym cold ∙ off));
  others = λ alone p other. ap (λ (s : State). s.page p) (core_one h.goes.ran alone) ∙ rescued (opening v.given) (state v).core page p;
}

pub none_lost : (path : List ℕ) {z : Shape} {v u : View} {k is : Provider} {page : ℕ} → RowLaws → Keeps z v k → is_hot ((state v).core.place page) ≡ false → ((state v).core.page page).node.live ≡ true
    → Idle z v k u is × (is ≡ k) × (z.alone ≡ true → has_hot_parent (opening v.given) (state v).core page ≡ false) → HasLost 5 z path v k page u is
none_lost path laws c hot live h = record {
  moved = moved_up (omega arith) h.0.moved;
  keeps = idle_path path laws c h.0;
  broken = ap (λ (p : Provider). p.broken) h.0.memory;
  hot = hot;
  live = live;
  astray = λ one. (record { hot = hot; live = live; parent = h.2 one }, h.1);
}

-- where nobody else steps the need of the event was met right where the call began
event_met : {z : Shape} {e : Event} {page frame : ℕ} {v u : View} {k is : Provider} → HasCome z e page frame v k u is → z.alone ≡ true → AreMet v.given (state v) (e ∷ [])
event_met {v = v} h one = subst (AreMet v.given (state v)) (h.goes.ran.all one) h.met

pub rescue_parent : {z : Shape} {page frame : ℕ} {v u : View} {k is : Provider} → HasCome z (Rescue page) page frame v k u is → z.alone ≡ true → has_hot_parent (opening v.given) (state v).core page ≡ true
rescue_parent {page = page} {v = v} h one = (and_true (is_cooling ((state v).core.place page)) (has_hot_parent (opening v.given) (state v).core page) ((event_met h one).0 refl)).1

-- ## Refusals

pub halts_as : {n m : ℕ} {z : Shape} {path : List ℕ} {v u : View} {k is : Provider} {why : Refusal} → n ≤ m → RowLaws → Keeps z v k → v.held ≡ [] → is ≡ k → Halts n z v why u → HasRefused m z path v k why u is
halts_as {m = m} {z = z} {path = path} {v = v} {u = u} {k = k} {why = why} le laws c none same h = subst (λ (p : Provider). HasRefused m z path v k why u p) (sym same) (refused_up le (halts_refused laws c none h))

-- ## What is wanted

pub wanted_lost : {n : ℕ} {z : Shape} {path : List ℕ} {v u : View} {was is : Provider} {page : ℕ} → IsWanted z v page → HasLost n z path v was page u is → ⊥
wanted_lost w h = go w.at_hand h
  where
    go : {n : ℕ} {z : Shape} {path : List ℕ} {v u : View} {was is : Provider} {page : ℕ} → (is_hot ((state v).core.place page) ≡ true) ⊎ ((((state v).core.page page).node.live ≡ false) ⊎ ((z.alone ≡ true) × (has_hot_parent (opening v.given) (state v).core page ≡ true))) → HasLost n z path v was page u is → ⊥
    go (inl hot) l = true≢false (sym hot ∙ l.hot)
    go (inr (inl free)) l = true≢false (sym l.live ∙ free)
    go (inr (inr x)) l = true≢false (sym x.1 ∙ (l.astray x.0).0.parent)

-- ## The device was asked for nothing

pub halts_unseen : {n : ℕ} {z : Shape} {v u : View} {k is : Provider} {why : Refusal} → is ≡ k → Halts n z v why u → IsUnseen z.alone v k u is
halts_unseen same h = record {
  events = h.stopped.missed.events;
  ran = h.stopped.missed.ran;
  quiet = misses_quiet h.stopped.missed.events h.stopped.missed.misses;
  none = misses_none h.stopped.missed.events h.stopped.missed.misses;
  slots = ap (λ (p : Provider). p.slots) same;
  generation = ap (λ (p : Provider). p.generation) same;
}

pub come_unseen : {z : Shape} {v u : View} {k is : Provider} {page frame : ℕ} {e : Event} → all is_quiet (events_of (e ∷ [])) ≡ true → sets_saved e ≡ false → HasCome z e page frame v k u is → IsUnseen z.alone v k u is
come_unseen {e = e} quiet none h = record { events = e ∷ []; ran = h.goes.ran; quiet = quiet; none = (none, tt); slots = ap (λ (p : Provider). p.slots) h.memory; generation = ap (λ (p : Provider). p.generation) h.memory }

pub idle_unseen : {z : Shape} {v u : View} {k is : Provider} → Idle z v k u is → IsUnseen z.alone v k u is
idle_unseen h = record { events = []; ran = idle_is h; quiet = refl; none = tt; slots = ap (λ (p : Provider). p.slots) h.memory; generation = ap (λ (p : Provider). p.generation) h.memory }

pub unseen_disk : {alone : Bool} {v u : View} {was is : Provider} {s : Story} → DiskLaws → IsLawful s → IsUnseen alone v was u is → Disked alone was v is u s s
unseen_disk disk law h = disked_quiet disk law h.ran h.quiet h.slots h.generation
