-- What the slots of the pager hold behind each part of a call.
use Rattle.std.proofs.Common.{◌≡◌, ◌<◌, ◌≤◌, ◌==◌, ℕ, Bool, true, false, List, [], ◌∷◌, ◌++◌, Ok, Err, Some, None, length, refl, sym, ap, subst, ◌∙◌, arith, true≢false}
use Rattle.std.specs.Prelude.{Option, Result, IfErr, IfOk, if◌then◌else◌}
use Rattle.map_model.specs.Lists.{upd}
use Rattle.btree_descent.specs.btree_node.Words.{words_of}
use Rattle.lean_bytes.specs.Numbers.{AreWords}
use Rattle.page_model.specs.Nodes.{WellFormed}
use Rattle.page_model.specs.Page.{Page}
use Rattle.btree_descent.specs.core_state.Events as happening
use Rattle.btree_descent.specs.core_state.Needs as core
use Rattle.btree_descent.specs.core_state.Needs.{is_dirty}
use Rattle.btree_descent.specs.core_state.Openings.{Opening}
use Rattle.btree_descent.specs.core_state.States.{State, flushed_by_all}
use Rattle.btree_descent.specs.core_state.Steps.{happens, put_back, state_after}
use Rattle.cooling_stage.specs.declared.stage.Cooling.{Cooling}
use Rattle.disk_runs.specs.disk_slots.Pages.{IsPage}
use Rattle.lean_disk.specs.Story.{Story}
use Rattle.page_calls.specs.Mirrors.{EveryMirrored, KeepsMirrors, Mirrors, SavesMirrors}
use Rattle.page_calls.specs.declared.slots.Slot.{Slot}
use Rattle.disk_runs.specs.page_store.Bases.{image_page}
use Rattle.row_image.specs.Images.{written}
use Rattle.row_image.specs.Looks.{Watched}
use Rattle.row_opening.specs.Openings.{EveryReached}
use Rattle.btree_descent.specs.row_words.declared.event.Event.{Event}
use Rattle.btree_descent.specs.row_words.declared.event.Event.TheVariants as told
use Rattle.btree_descent.specs.row_words.declared.event.Met.TheVariants as met
use Rattle.btree_descent.specs.row_words.declared.given.Given.{Given}
use Rattle.btree_descent.specs.row_words.Moments.{Moment, actor_of, by, event_of, pager}
use Rattle.btree_descent.specs.row_words.Openings.{opening}
use Rattle.btree_descent.specs.row_words.Sealed.{run, stepped}
use Rattle.btree_descent.specs.rows_trait.declared.view.View.{View}
use Rattle.btree_descent.specs.rows_trait.Turns.{Ran}
use Rattle.btree_descent.specs.rows_trait.Views.{Shape, may, state}
use Rattle.btree_descent.proofs.rows_trait.Runs.{ran_append}
use Rattle.page_provider.specs.Comes.{IsUnseen}
use Rattle.page_provider.specs.Cools.{CoolsOrNot}
use Rattle.page_provider.specs.Disks as disks
use Rattle.page_provider.specs.Evicts.{HasStayed, saving}
use Rattle.page_provider.specs.Finds.{Standing, Stopped}
use Rattle.page_provider.specs.Inside.{HasGone, IsEntered, MayGo, Missed}
use Rattle.page_provider.specs.Laws.{RowLaws}
use Rattle.page_provider.specs.Leaves.{IsCalm}
use Rattle.page_provider.specs.Mirrored.{EveryMirroredGives, EveryMirroredRest, EveryMirroredRun, IsMirrored, KeepsMirrored, NoSaves, SavesNone, sets_saved}
use Rattle.page_provider.specs.Providers.{Provider, Keeps}
use Rattle.page_provider.specs.Steps.{IsMissAtMost}
use Rattle.page_provider.specs.declared.refusal.Refusal.{Refusal}
use Rattle.page_provider.proofs.Departures.{go_on, low_on, page_on, save_met}
use Rattle.page_provider.proofs.Faulting.{standing_ran}
use Rattle.page_provider.proofs.Keeping.{at_event, event_happens, parted, plays, stood_after, stood_before}
use Rattle.page_provider.proofs.Sightings.{missed_before}
use Rattle.page_provider.proofs.Standing.{core_step, ran_state, state_on}
use Rattle.page_provider.proofs.Unsaved.{few_none, misses_none}

-- ## What is saved, over events that save nothing

saved_same : (g : Opening) (s : State) (e : Event) → sets_saved e ≡ false → (q : ℕ) → (happens g s (event_of e)).saved q ≡ s.saved q
saved_same g s (told.Save p) n q = absurd (true≢false n)
saved_same g s (told.Fetch p pairs) n q = absurd (true≢false n)
saved_same g s (told.PutBack w p) n q = go (s.worker w).changes
  where
    go : (cs : _) → (put_back g s w p cs).saved q ≡ s.saved q
    go [] = refl
    go (c ∷ cs) = refl
saved_same g s (told.Next w p k (met.Pair at word)) n q = refl
saved_same g s (told.Next w p k (met.Gap b)) n q = refl
saved_same g s _ n q = refl

saved_next : (v : Given) (m : Moment) (e : Event) → sets_saved e ≡ false → (q : ℕ) → (stepped v m e).core.saved q ≡ m.core.saved q
saved_next v m e n q = ap (λ (s : State). s.saved q) (core_step v m e) ∙ go (core.may (opening v) m.core (event_of e))
  where
    go : (b : Bool) → (if b then happens (opening v) m.core (event_of e) else m.core).saved q ≡ m.core.saved q
    go true = saved_same (opening v) m.core e n q
    go false = refl

saved_run : (v : Given) (es : List Event) (m : Moment) → NoSaves es → (q : ℕ) → (run v m es).core.saved q ≡ m.core.saved q
saved_run v [] m n q = refl
saved_run v (e ∷ es) m n q = saved_run v es (stepped v m e) n.1 q ∙ saved_next v m e n.0 q

-- the pager alone saves and reads pages
not_save : (e : Event) → (actor_of e == pager) ≡ false → sets_saved e ≡ false
not_save (told.Save p) n = absurd (true≢false n)
not_save (told.Fetch p pairs) n = absurd (true≢false n)
not_save _ n = refl

none_by : (es : List Event) → NoSaves (by pager es) → NoSaves es
none_by [] n = tt
none_by (e ∷ es) n = go (none_by es) (actor_of e == pager) refl n
  where
    go : (NoSaves (by pager es) → NoSaves es) → (b : Bool) → (actor_of e == pager) ≡ b → NoSaves (if b then e ∷ by pager es else by pager es) → NoSaves (e ∷ es)
    go rest true is k = (k.0, rest k.1)
    go rest false is k = (not_save e is, rest k)

none_ran : (alone : Bool) (v u : View) (es : List Event) → may alone v pager ≡ true → (r : Ran alone v es u) → NoSaves es → NoSaves r.more
none_ran true v u es m r n = subst NoSaves (sym (r.all refl)) n
none_ran false v u es m r n = none_by r.more (subst (λ a. NoSaves (by a r.more)) (plays false v m refl) (subst NoSaves (sym (r.own refl)) n))

saved_ran : (alone : Bool) (v u : View) (es : List Event) → may alone v pager ≡ true → Ran alone v es u → NoSaves es → (q : ℕ) → (state u).core.saved q ≡ (state v).core.saved q
saved_ran alone v u es m r n q = ap (λ (t : Moment). t.core.saved q) (ran_state r) ∙ (ap (λ (t : Moment). t.core.saved q) (state_on v r.more) ∙ saved_run v.given r.more (state v) (none_ran alone v u es m r n) q)

-- ## Calls

mirrors_as : (slots : List Slot) (generation : ℕ) {a b : ℕ → _} (s : Story) → ((q : ℕ) → b q ≡ a q) → Mirrors slots generation a s → Mirrors slots generation b s
mirrors_as slots generation s same m tells p few y holds = m tells p few y holds ∙ sym (same p)

-- the slots hold what they held, and nothing was saved
mirrored_kept : {v u : View} {was is : Provider} {old new : Story} → KeepsMirrors was.slots is.slots old new → is.generation ≡ was.generation → ((q : ℕ) → (state u).core.saved q ≡ (state v).core.saved q) → IsMirrored v was old → IsMirrored u is new
mirrored_kept {v = v} {was = was} {is = is} {new = new} keeps generation same m = record {
  mirrors = mirrors_as is.slots is.generation new same (subst (λ n. Mirrors is.slots n (state v).core.saved new) (sym generation) (keeps.mirrors (state v).core.saved was.generation m.mirrors));
  spans = keeps.spans m.spans;
}

pub keeps_same : {was is : List Slot} {s : Story} → is ≡ was → KeepsMirrors was is s s
keeps_same {was = was} {s = s} same = subst (λ (n : List Slot). KeepsMirrors was n s s) (sym same) (record { mirrors = λ saved generation m. m; spans = λ m. m })

pub mirrored_rest : (z : Shape) {v u : View} {was is : Provider} {s : Story} → may z.alone v pager ≡ true → SavesNone z v was u is → IsMirrored v was s → IsMirrored u is s
mirrored_rest z {v = v} {u = u} actor n m = mirrored_kept (keeps_same n.slots) n.generation (saved_ran z.alone v u n.events actor n.ran n.none) m

-- nothing was asked of the device, and nothing saved
pub mirrored_quiet : {z : Shape} {v u : View} {k was is : Provider} {es : List Event} {s : Story} → Keeps z v k → Ran z.alone v es u → NoSaves es → is.slots ≡ was.slots → is.generation ≡ was.generation → KeepsMirrored v was u is s s
mirrored_quiet {z = z} {es = es} c r none slots generation m well = mirrored_rest z c.actor (record { events = es; ran = r; none = none; slots = slots; generation = generation }) m

pub mirrored_misses : {z : Shape} {v u : View} {k : Provider} {es : List Event} {s : Story} → Keeps z v k → Ran z.alone v es u → IsMissAtMost es → KeepsMirrored v k u k s s
mirrored_misses {es = es} c r few = mirrored_quiet c r (few_none es few) refl refl

pub mirrored_unseen : {z : Shape} {v u : View} {k was is : Provider} {s : Story} → Keeps z v k → IsUnseen z.alone v was u is → KeepsMirrored v was u is s s
mirrored_unseen c h = mirrored_quiet c h.ran h.none h.slots h.generation

pub mirrored_calm : {z : Shape} {v u : View} {was is : Provider} {s : Story} → Keeps z v was → IsCalm z v was u is → KeepsMirrored v was u is s s
mirrored_calm c q = mirrored_quiet c q.ran q.none (ap (λ (p : Provider). p.slots) q.memory) (ap (λ (p : Provider). p.generation) q.memory)

-- one call behind another
pub mirrored_then : {v u w : View} {a b d : Provider} {old mid new : Story} → b.broken ≡ false → KeepsMirrored v a u b old mid → KeepsMirrored u b w d mid new → KeepsMirrored v a w d old new
mirrored_then well p q m last = q (p m well) last

-- behind a look
pub mirrored_after : {z : Shape} {v u w : View} {k is : Provider} {old new : Story} → Keeps z v k → Ran z.alone v [] u → KeepsMirrored u k w is old new → KeepsMirrored v k w is old new
mirrored_after {z = z} c r q m last = q (mirrored_rest z c.actor (record { events = []; ran = r; none = tt; slots = refl; generation = refl }) m) last

-- the pager is broken
pub mirrored_broken : {v u : View} {was is : Provider} {old new : Story} → is.broken ≡ true → KeepsMirrored v was u is old new
mirrored_broken broken m well = absurd (true≢false (sym broken ∙ well))

-- a page was read, or not
pub read_keeps : {k was : Provider} {slots : List Slot} {old new : Story} → k ≡ was → slots ≡ k.slots → KeepsMirrors k.slots k.slots old new → KeepsMirrors was.slots slots old new
read_keeps {old = old} {new = new} same is keeps = subst (λ (n : List Slot × List Slot). KeepsMirrors n.0 n.1 old new) (λ i. ((same i).slots, sym is i)) keeps

-- ## A save

-- a sync came first
pub settled_saves : {was mid is : List Slot} {n : Page} {old half new : Story} → length mid ≡ length was → KeepsMirrors was mid old half → SavesMirrors mid is n half new → SavesMirrors was is n old new
settled_saves {n = n} size first last = record {
  mirrors = λ saved generation stored spans m. last.mirrors saved generation (subst (λ k. IsPage n.number k n) (sym size) stored) (first.spans spans) (first.mirrors saved generation m);
  spans = λ m. last.spans (first.spans m);
}

module _ {z : Shape} {v u : View} {k : Provider} {p : ℕ} (laws : RowLaws) (none : v.held ≡ []) (c : Keeps z v k) (m : MayGo v p) (low : ((state v).core.page p).gsn ≤ flushed_by_all (opening v.given) (state v).core) (r : Ran z.alone v (told.Save p ∷ []) u) where
  -- what is saved then
  saved_now : (q : ℕ) → (state u).core.saved q ≡ upd (state v).core.saved p ((state v).core.page p) q
  saved_now q =
      let d = parted z.alone v u (told.Save p) c.actor r in
      let st = stood_before z laws.stood r.given d in
      let mid : MayGo (at_event d) p = go_on refl st m in
      let s = (state (at_event d)).core in
      let own = page_on st m in
      let kept = st.saved q in
      let met : core.may (opening v.given) s (happening.Event.Save p) ≡ true = save_met (opening v.given) s p mid.cooling (let a = ap (λ x. x.gsn) own in let b = low_on laws.loads z v (at_event d) d.before none refl refl d.part in omega arith) in
      (stood_after z laws.stood r.given d).saved q ∙ (ap (λ (t : State). t.saved q) (event_happens d met) ∙ (λ i. if q == p then own i else kept i))

-- it is a stored page
stored : {z : Shape} {v : View} {k now : Provider} {entry : Cooling} {n : Page} → k ≡ now → RowLaws → Keeps z v now → IsEntered v now entry → length k.slots ≡ length k.free → AreWords (words_of n) → n ≡ written (state v).core entry.page k.generation
    → IsPage n.number (length k.slots) n
stored {v = v} {k = k} {entry = entry} {n = n} same laws c e whole words is =
    let many : (opening v.given).format.pages ≡ length k.slots = sym c.pages ∙ (ap (λ (x : Provider). length x.free) (sym same) ∙ sym whole) in
    let sound = c.sound v.seen in
    (laws.pages n.number (length k.slots) n).stored (opening v.given).format (record { room = refl; levels = refl; dead = refl }) many
    (subst (λ (y : Page). WellFormed (opening v.given).format y.node) (sym is) (sound.tree.formed entry.page e.goes.below)) refl
    (subst (λ (y : Page). y.last_log < 256) (sym is) (sound.logs entry.page)) words

pub mirrored_saved : {z : Shape} {v w : View} {k now : Provider} {entry : Cooling} {n : Page} {old new : Story} → k ≡ now → RowLaws → Keeps z v now → v.held ≡ [] → IsEntered v now entry → ((state v).core.page entry.page).gsn ≤ flushed_by_all (opening v.given) (state v).core
    → length k.slots ≡ length k.free → AreWords (words_of n) → n ≡ written (state v).core entry.page k.generation → (slots : List Slot) → SavesMirrors k.slots slots n old new → Ran z.alone v (told.Save entry.page ∷ []) w
    → KeepsMirrored v now w (record k { slots = slots }) old new
mirrored_saved {v = v} {k = k} {entry = entry} {n = n} {old = old} {new = new} same laws c none e low whole words is slots saves r was well =
    let m = subst (λ (x : Provider). IsMirrored v x old) (sym same) was in
    let number : n.number ≡ entry.page = ap (λ (y : Page). y.number) is in
    let own : image_page n ≡ (state v).core.page entry.page = ap image_page is in record {
      mirrors = mirrors_as slots k.generation new (λ q. saved_now laws none c e.goes low r q ∙ (λ i. upd (state v).core.saved (sym number i) (sym own i) q))
          (saves.mirrors (state v).core.saved k.generation (stored same laws c e whole words is) m.spans m.mirrors);
      spans = saves.spans m.spans;
    }

-- ## A page that leaves

gone_mirrored : {z : Shape} {v w : View} {k was is : Provider} {entry : Cooling} {s : Story} → Keeps z v k → HasGone z v was entry w is → KeepsMirrored v was w is s s
gone_mirrored c h = mirrored_quiet c h.goes.ran (refl, tt) (ap (λ (p : Provider). p.slots) h.pool) (ap (λ (p : Provider). p.generation) h.pool)

pub leave_mirrored : {z : Shape} {t w : View} {k mid is : Provider} {s : Story} (entry : Cooling) → Keeps z t k → is_dirty (state t).core entry.page ≡ false → (r : Result (Unit {0}) Refusal)
    → IfOk r (λ _. HasGone z t mid entry w is) → IfErr r (λ why. HasStayed z t mid entry.page why w is) → IfErr r (λ _. is ≡ mid) → KeepsMirrored t mid w is s s
leave_mirrored entry c clean (Ok a) gone stayed kept = gone_mirrored c gone
leave_mirrored {z = z} {t = t} {w = w} {mid = mid} {is = is} {s = s} entry c clean (Err why) gone stayed kept = go stayed.saved refl
  where
    go : (b : Bool) → stayed.saved ≡ b → KeepsMirrored t mid w is s s
    go true e = absurd (true≢false (sym (stayed.dirty e) ∙ clean))
    go false e = mirrored_quiet c (subst (λ b. Ran z.alone t (saving b entry.page ++ stayed.misses) w) e stayed.goes.ran) (few_none stayed.misses stayed.few) (ap (λ (p : Provider). p.slots) kept) (ap (λ (p : Provider). p.generation) kept)

-- ## A search

pub settled_mirrored : {z y : Shape} {v u w : View} {k : Provider} {s : Story} (page : ℕ) → Keeps z v k → y ≡ z → Watched z.alone v u → (r : Result (Option ℕ) Refusal) → IfOk r (λ come. Standing y u page come w) → IfErr r (λ why. Missed y u why w) → KeepsMirrored v k w k s s
settled_mirrored {z = z} {v = v} {u = u} {w = w} page c same looked (Ok come) a b = mirrored_misses c (ran_append z.alone v [] u [] w looked.ran (standing_ran z page come (subst (λ (s : Shape). Standing s u page come w) same a))) tt
settled_mirrored page c same looked (Err why) a b = let m = missed_before same looked b in mirrored_misses c m.ran m.few

-- ## Which parts save nothing

pub saves_none : {z : Shape} {v u : View} {k : Provider} {es : List Event} → Ran z.alone v es u → NoSaves es → SavesNone z v k u k
saves_none {es = es} r none = record { events = es; ran = r; none = none; slots = refl; generation = refl }

-- behind a look
pub saves_after : {z : Shape} {v n u : View} {was is : Provider} → Ran z.alone v [] n → SavesNone z n was u is → SavesNone z v was u is
saves_after {z = z} {v = v} {n = n} {u = u} r h = record { events = h.events; ran = ran_append z.alone v [] n h.events u r h.ran; none = h.none; slots = h.slots; generation = h.generation }

-- a row was another seat's
pub stopped_saves : {z : Shape} {v u : View} {was is : Provider} {most : ℕ} {why : Refusal} → is ≡ was → Stopped most z v why u → SavesNone z v was u is
stopped_saves {z = z} {v = v} {u = u} {was = was} same h = subst (λ (p : Provider). SavesNone z v was u p) (sym same) (saves_none h.missed.ran (misses_none h.missed.events h.missed.misses))

-- a page was cooled, or none
pub cooled_saves : {z : Shape} {v u : View} {was is : Provider} (page frame : ℕ) (done : Option Cooling) → CoolsOrNot z v was page frame done u is → SavesNone z v was u is
cooled_saves page frame (Some entry) h = record {
  events = h.0.moved.events;
  ran = h.0.moved.goes.ran;
  none = subst NoSaves (sym h.0.events_are) (refl, (refl, tt));
  slots = ap (λ (p : Provider). p.slots) h.0.memory;
  generation = ap (λ (p : Provider). p.generation) h.0.memory;
}
cooled_saves page frame None h = record {
  events = h.0.moved.events;
  ran = h.0.moved.goes.ran;
  none = subst NoSaves (sym h.0.events_are) tt;
  slots = ap (λ (p : Provider). p.slots) h.0.memory;
  generation = ap (λ (p : Provider). p.generation) h.0.memory;
}

-- ## Laws

pub gives_mirrored : (s : Story) → EveryMirroredGives s
gives_mirrored s v k page m tells below count = record {
  tells = tells;
  saved = λ y holds. m.mirrors tells page (omega arith) y holds;
}

pub runs_mirrored : (s : Story) → EveryMirrored s → EveryReached → EveryMirroredRun s
runs_mirrored s each reached g s0 x k v r =
    let is = each s0 g (disks.told v) x k.slots k.generation r.on in
    let same : (state v).core ≡ state_after g (disks.told v) = reached g v.given r.opens v.seen in
    record { mirrors = mirrors_as k.slots k.generation s (λ q. ap (λ (t : State). t.saved q) same) is.mirrors; spans = is.spans }

pub rest_mirrored : (s : Story) → EveryMirroredRest s
rest_mirrored s z v u k is actor n m = mirrored_rest z actor n m
