-- A save of the pager as a whole: the page as it was looked at, the device, and the row.
use Rattle.std.proofs.Common.{◌≡◌, ◌<◌, ◌≤◌, ◌^◌, ℕ, true, false, List, [], ◌∷◌, ◌++◌, length, None, Some, refl, sym, ap, subst, ◌∙◌, arith, true≢false}
use Rattle.std.specs.Prelude.{Result, Err, IfErr}
use Rattle.btree_descent.specs.btree_node.Words.{words_of}
use Rattle.lean_bytes.specs.Numbers.{AreWords}
use Rattle.page_model.specs.Page.{Page}
use Rattle.btree_descent.specs.core_state.Events as happening
use Rattle.btree_descent.specs.core_state.Needs.{is_dirty}
use Rattle.btree_descent.specs.core_state.States.{flushed_by_all, frame_of}
use Rattle.cooling_stage.specs.declared.stage.Cooling.{Cooling}
use Rattle.cooling_stage.specs.Queue.{Stage, found, stage, without}
use Rattle.lean_disk.specs.Story.{IsLawful, Story}
use Rattle.btree_descent.specs.row_words.declared.event.Event.{Event}
use Rattle.btree_descent.specs.row_words.declared.event.Event.TheVariants.{Evict, Save}
use Rattle.btree_descent.specs.row_words.Openings.{opening}
use Rattle.btree_descent.specs.rows_trait.declared.view.View.{View}
use Rattle.btree_descent.specs.rows_trait.Turns.{Ran}
use Rattle.btree_descent.specs.rows_trait.Views.{Shape, state}
use Rattle.btree_descent.proofs.rows_trait.Runs.{ran_append}
use Rattle.row_image.specs.Images.{IsImage, written}
use Rattle.page_calls.specs.declared.slots.Slot.{Slot}
use Rattle.page_calls.specs.Calls.{SavesMoments}
use Rattle.cold_pages.specs.declared.kept.Kept.{Kept}
use Rattle.cold_pages.specs.Kept.{AreWithin, left}
use Rattle.page_moves.specs.Moves.{CanEvict, CanSave, contents_of}
use Rattle.page_provider.proofs.Kept.{kept_within}
use Rattle.page_provider.specs.Disks.{Disked}
use Rattle.page_provider.specs.Evicts.{CanLeave, HasLeft, gone, leaving}
use Rattle.page_provider.specs.Steps.{Goes}
use Rattle.page_provider.specs.Inside.{HasGone, HasSaved, IsEntered, MayGo, WritesOn}
use Rattle.page_provider.specs.Laws.{DiskLaws, RowLaws}
use Rattle.page_provider.specs.Providers.{Provider, Keeps}
use Rattle.page_provider.proofs.Departures.{evicted_keeps, framed, page_on, saved_clean, saved_goes, saved_keeps}
use Rattle.page_provider.proofs.Keeping.{keeps_ran, keeps_slots, parted, ran_stood}
use Rattle.page_provider.proofs.Outcomes.{entered_on, entered_some, entry_frame, entry_stays, is_pager, low_ran, may_evict, may_save}
use Rattle.page_provider.proofs.Pools.{found_entry}
use Rattle.page_provider.proofs.Running.{disked_quiet}
use Rattle.page_provider.proofs.Writing.{disked_write, may_write}

pub if_err : {A E : Type 0} (r : Result A E) (e : E) (P : E → Type 0) → r ≡ Err e → P e → IfErr r P
if_err r e P is p = subst (λ q. IfErr q P) (sym is) p

-- ## The page

-- as it was looked at it is as the seat had seen it before
pub image_is : {z : Shape} {v u : View} {k : Provider} {entry : Cooling} {generation : ℕ} {n : Page} → RowLaws → Keeps z v k → IsEntered v k entry → IsImage z.alone v entry.frame generation n u → n ≡ written (state v).core entry.page generation
image_is {entry = entry} {generation = generation} laws c e i =
    (i.written entry.page (entry_stays c e laws)).page ∙ ap (λ x. record { number = entry.page; gsn = x.gsn; generation = generation; last_log = x.last; node = x.node }) (page_on (ran_stood laws.stood c tt i.ran) e.goes)

pub page_few : {z : Shape} {v : View} {k : Provider} {entry : Cooling} {n : Page} {generation : ℕ} → Keeps z v k → IsEntered v k entry → n ≡ written (state v).core entry.page generation → n.number < 2 ^ 32
page_few {v = v} {entry = entry} c e is = let a = ap (λ (x : Page). x.number) is in let b = e.goes.below in let d = (c.sound v.seen).few in omega arith

pub page_slots : {z : Shape} {v : View} {k now : Provider} {entry : Cooling} {n : Page} {generation : ℕ} → k ≡ now → Keeps z v now → IsEntered v now entry → n ≡ written (state v).core entry.page generation → length k.slots ≡ length k.free → n.number < length k.slots
page_slots {entry = entry} same c e is whole = let a = ap (λ (x : Page). x.number) is in let b = e.goes.below in let d = c.pages in let f = ap (λ (p : Provider). length p.free) same in omega arith

pub can_save : {z y : Shape} {v t : View} {k : Provider} {entry : Cooling} {row number generation : ℕ} {n : Page} → RowLaws → Keeps z v k → v.held ≡ [] → IsEntered v k entry → ((state v).core.page entry.page).gsn ≤ flushed_by_all (opening v.given) (state v).core
    → Ran z.alone v [] t → n ≡ written (state v).core entry.page generation → number ≡ n.gsn → y ≡ z → row ≡ entry.frame → CanSave y t row entry.page number
can_save {z = z} {v = v} {t = t} {k = k} {entry = entry} {number = number} laws c none e low r is count shape place =
    let there = keeps_ran laws.stood laws.standing tt r c in
    let e2 = entered_on laws c r e in
    subst (λ (s : Shape × ℕ). CanSave s.0 t s.1 entry.page number) (λ i. (sym shape i, sym place i)) (record {
      on = is_pager there;
      here = record { below = e2.goes.below; stands = entry_frame there e2 };
      met = may_save e2.goes (low_ran laws c none e.goes r low);
      number_is = count ∙ (ap (λ (x : Page). x.gsn) is ∙ sym (ap (λ x. x.gsn) (page_on (ran_stood laws.stood c tt r) e.goes)));
    })

-- ## Behind it

pub has_saved : {z : Shape} {v w : View} {k now : Provider} {entry : Cooling} → k ≡ now → RowLaws → Keeps z v now → v.held ≡ [] → IsEntered v now entry → ((state v).core.page entry.page).gsn ≤ flushed_by_all (opening v.given) (state v).core
    → Ran z.alone v (Save entry.page ∷ []) w → w.held ≡ [] → (slots : List Slot) → HasSaved z v now entry w (record k { slots = slots })
has_saved {z = z} {v = v} {w = w} {now = now} {entry = entry} same laws c none e low r free slots =
    let q = parted z.alone v w (Save entry.page) c.actor r in
    subst (λ (p : Provider). HasSaved z v now entry w (record p { slots = slots })) (sym same) (record {
      goes = record { ran = r; held = free; keeps = keeps_slots slots now.broken (saved_keeps laws.stood laws.standing laws.pools laws.loads none c e.goes low r q) };
      pool = refl;
      entered = record { goes = saved_goes laws.stood laws.standing laws.pools laws.loads none c e.goes low r q; found_is = e.found_is };
      clean = saved_clean laws.stood laws.standing laws.pools laws.loads none c e.goes low r q;
    })

module _ {z : Shape} {v w : View} {k now : Provider} {entry : Cooling} {n : Page} {old new : Story} (same : k ≡ now) (laws : RowLaws) (disk : DiskLaws) (c : Keeps z v now) (e : IsEntered v now entry) (low : ((state v).core.page entry.page).gsn ≤ flushed_by_all (opening v.given) (state v).core)
    (dirty : is_dirty (state v).core entry.page ≡ true) (whole : length k.slots ≡ length k.free) (words : AreWords (words_of n)) (is : n ≡ written (state v).core entry.page k.generation) (moments : SavesMoments k.slots n old new) where
  -- the device failed, and the row was given up
  pub disk_failed : {es : List Event} (slots : List Slot) → Ran z.alone v es w → Disked z.alone now v (record k { slots = slots; broken = true }) w old new
  disk_failed slots r = subst (λ (p : Provider). Disked z.alone p v (record k { slots = slots; broken = true }) w old new) same
      (disked_write disk (λ g s0 x run. may_write laws (subst (λ (p : Provider). Keeps z v p) (sym same) c) e.goes (may_save e.goes low) dirty whole words is run) moments r refl (λ b. absurd (true≢false b)))

  -- it was saved
  pub disk_saved : (slots : List Slot) → WritesOn k.slots slots n old new → Ran z.alone v (Save entry.page ∷ []) w → Disked z.alone now v (record k { slots = slots }) w old new
  disk_saved slots writes r = subst (λ (p : Provider). Disked z.alone p v (record k { slots = slots }) w old new) same
      (disked_write disk (λ g s0 x run. may_write laws (subst (λ (p : Provider). Keeps z v p) (sym same) c) e.goes (may_save e.goes low) dirty whole words is run) moments r refl
      (λ _. (writes, sym (ap (λ (x : Page). happening.Event.Save x.number ∷ []) is))))

-- ## A page that leaves

-- it is within the table, and so is each page that it names
pub leaves_within : {z : Shape} {v : View} {k now : Provider} {entry : Cooling} → k ≡ now → Keeps z v now → IsEntered v now entry → entry.page < length k.kept
leaves_within {entry = entry} same c e = subst (λ (p : Provider). entry.page < length p.kept) (sym same) (subst (λ n. entry.page < n) (sym c.kept.pages) e.goes.below)

pub names_within : {z : Shape} {v : View} {k now : Provider} {entry : Cooling} (n : Page) → k ≡ now → Keeps z v now → IsEntered v now entry → contents_of n ≡ (state v).core.page entry.page → AreWithin (length k.kept) n.node
names_within {v = v} {k = k} {now = now} {entry = entry} n same c e is =
    subst (λ x. AreWithin (length k.kept) x.node) (sym is)
    (subst (λ (p : Provider). AreWithin (length p.kept) ((state v).core.page entry.page).node) (sym same) (kept_within (opening v.given) (state v).core now.kept (c.sound v.seen).tree c.kept entry.page e.goes.below))

pub can_evict : {z y : Shape} {v t : View} {k : Provider} {entry : Cooling} {row : ℕ} → RowLaws → Keeps z v k → IsEntered v k entry → is_dirty (state v).core entry.page ≡ false → Ran z.alone v [] t → y ≡ z → row ≡ entry.frame → CanEvict y t row entry.page
can_evict {z = z} {v = v} {t = t} {k = k} {entry = entry} laws c e clean r shape place =
    let there = keeps_ran laws.stood laws.standing tt r c in
    let e2 = entered_on laws c r e in
    subst (λ (s : Shape × ℕ). CanEvict s.0 t s.1 entry.page) (λ i. (sym shape i, sym place i)) (record {
      on = is_pager there;
      here = record { below = e2.goes.below; stands = entry_frame there e2 };
      met = may_evict e2.goes (Rattle.page_provider.proofs.Departures.dirty_on (ran_stood laws.stood c tt r) e.goes ∙ clean);
    })

pub has_gone : {z : Shape} {v w : View} {k now : Provider} {entry : Cooling} → k ≡ now → RowLaws → Keeps z v now → IsEntered v now entry → is_dirty (state v).core entry.page ≡ false → Ran z.alone v (Evict entry.page ∷ []) w → w.held ≡ []
    → (n : Page) → contents_of n ≡ (state v).core.page entry.page → HasGone z v now entry w (gone k entry.page entry.frame (record k { kept = left k.kept entry.page n }))
has_gone {z = z} {v = v} {w = w} {now = now} {entry = entry} same laws c e clean r free n is =
    let q = parted z.alone v w (Evict entry.page) c.actor r in
    subst (λ (p : Provider). HasGone z v now entry w (gone p entry.page entry.frame (record p { kept = left p.kept entry.page n }))) (sym same) (record {
      goes = record { ran = r; held = free; keeps = evicted_keeps entry.frame laws.stood laws.standing laws.pools c e.goes clean (entry_frame c e) r q n is };
      pool = refl;
    })

-- ## The whole

pool_is : (k : Provider) {is : Provider} (entry : Cooling) {page frame : ℕ} → entry.page ≡ page → frame ≡ entry.frame → is ≡ gone k entry.page entry.frame (record k { kept = is.kept }) → is ≡ gone k page frame is
pool_is k {is = is} entry {page = page} same place e =
    let s : is.slots ≡ k.slots = ap (λ (p : Provider). p.slots) e in
    e ∙ (λ i. record k { queue = without (same i) k.queue; empty = k.empty ++ (sym place i) ∷ []; slots = sym s i; kept = is.kept })

pub left_clean : {z : Shape} {v u w : View} {k is : Provider} {entry : Cooling} {page : ℕ} → entry.page ≡ page → Ran z.alone v [] u → frame_of ((state v).core.place page) ≡ entry.frame → is_dirty (state v).core page ≡ false → HasGone z u k entry w is → HasLeft z v k page w is
left_clean {z = z} {v = v} {u = u} {w = w} {k = k} {is = is} {entry = entry} {page = page} same r frame clean h = record {
  goes = subst (λ b. Goes z v (leaving b page) w is) (sym clean) (record { ran = subst (λ p. Ran z.alone v (Evict p ∷ []) w) same (ran_append z.alone v [] u (Evict entry.page ∷ []) w r h.goes.ran); held = h.goes.held; keeps = h.goes.keeps });
  pool = pool_is k entry same frame h.pool;
}

pub left_dirty : {z : Shape} {v u t w : View} {k mid is : Provider} {entry : Cooling} {page : ℕ} → entry.page ≡ page → Ran z.alone v [] u → frame_of ((state v).core.place page) ≡ entry.frame → is_dirty (state v).core page ≡ true → HasSaved z u k entry t mid → HasGone z t mid entry w is → HasLeft z v k page w is
left_dirty {z = z} {v = v} {u = u} {t = t} {w = w} {k = k} {mid = mid} {is = is} {entry = entry} {page = page} same r frame dirty s h =
    let one = ran_append z.alone v [] u (Save entry.page ∷ []) t r s.goes.ran in
    let two = ran_append z.alone v (Save entry.page ∷ []) t (Evict entry.page ∷ []) w one h.goes.ran in
    let p = pool_is mid entry same frame h.pool in
    record {
      goes = subst (λ b. Goes z v (leaving b page) w is) (sym dirty) (record { ran = subst (λ p. Ran z.alone v (Save p ∷ Evict p ∷ []) w) same two; held = h.goes.held; keeps = h.goes.keeps });
      pool = p ∙ ap (λ (q : Provider). gone q page (frame_of ((state v).core.place page)) is) s.pool;
    }

-- the frame of the page is what the queue has of it
pub frame_is : {z : Shape} {v : View} {k : Provider} {entry : Cooling} {page : ℕ} → Keeps z v k → IsEntered v k entry → entry.page ≡ page → frame_of ((state v).core.place page) ≡ entry.frame
frame_is {v = v} {entry = entry} c e same = ap (λ p. frame_of ((state v).core.place p)) (sym same) ∙ framed ((state v).core.place entry.page) entry.frame (entry_frame c e)

pub entered_is : {z : Shape} {v : View} {k now : Provider} {entry : Cooling} {page : ℕ} → k ≡ now → Keeps z v now → CanLeave v page → Some entry ≡ found page k.queue → IsEntered v now entry × (entry.page ≡ page)
entered_is {v = v} {k = k} {now = now} {entry = entry} {page = page} same c m is =
    let here : found page now.queue ≡ Some entry = ap (λ (p : Provider). found page p.queue) (sym same) ∙ sym is in
    let p = (found_entry page now.queue entry here).page in
    (record { goes = subst (MayGo v) (sym p) (record { below = m.below; cooling = m.cooling; unwaited = m.unwaited }); found_is = ap (λ n. found n now.queue) p ∙ here }, p)

-- so the queue has it
pub is_found : {z : Shape} {v : View} {k now : Provider} {page : ℕ} → k ≡ now → Keeps z v now → CanLeave v page → None ≡ found page k.queue → ⊥
is_found {page = page} same c m none =
    let x = entered_some c (record { below = m.below; cooling = m.cooling; unwaited = m.unwaited }) in
    let e : None ≡ Some x.0 = none ∙ (ap (λ (p : Provider). found page p.queue) same ∙ x.1) in
    cc

-- a call that asks nothing of the device, and evicts
pub disked_gone : {z : Shape} {v w : View} {k is : Provider} {entry : Cooling} {s : Story} → DiskLaws → IsLawful s → HasGone z v k entry w is → Disked z.alone k v is w s s
disked_gone disk law h = disked_quiet disk law h.goes.ran refl (ap (λ (p : Provider). p.slots) h.pool) (ap (λ (p : Provider). p.generation) h.pool)

-- said of the queue and of the list of empty frames as the calls left them
pub gone_as : {z : Shape} {v w : View} {k now : Provider} {entry : Cooling} → k ≡ now → (queue : Stage) (empty : List ℕ) (table : List Kept) (n : Page) → queue ≡ stage k.frames (without entry.page k.queue) → empty ≡ k.empty ++ entry.frame ∷ [] → table ≡ left k.kept entry.page n → HasGone z v now entry w (gone k entry.page entry.frame (record k { kept = left k.kept entry.page n }))
    → HasGone z v now entry w (record k { frames = queue.frames; queue = queue.queue; empty = empty; kept = table })
gone_as {z = z} {v = v} {w = w} {k = k} {now = now} {entry = entry} same queue empty table n a b d h = subst (λ (s : Stage × (List ℕ × List Kept)). HasGone z v now entry w (record k { frames = s.0.frames; queue = s.0.queue; empty = s.1.0; kept = s.1.1 })) (λ i. (sym a i, (sym b i, sym d i))) h
