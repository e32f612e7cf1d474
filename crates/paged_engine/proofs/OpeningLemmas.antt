-- Where a machine's run begins.
use Rattle.std.proofs.Common.{◌≡◌, ⊎_elim, ◌≤◌, ◌<◌, ℕ, zero, suc, Bool, true, false, cond, List, length, map, get_or, Option, Some, None, slice_get, slice_index, IsTrue, refl, sym, ◌∙◌, ap, ap₂, subst, arith}
use Rattle.std.proofs.lemmas.List.{length-replicate}
use Rattle.std.proofs.lemmas.Option.{slice_get_cases}
use Rattle.page_model.specs.Page.{Page}
use Rattle.page_model.specs.Nodes.{Format, Node, holds}
use Rattle.page_model.specs.Pairs.{find}
use Rattle.page_model.specs.Tree.{entry, value_of}
use Rattle.paged_desks.specs.image_model.Entries.{Contents}
use Rattle.paged_desks.specs.image_model.Images.{Image, map_of, recovered_page}
use Rattle.paged_desks.specs.image_model.Laws.{EveryUndone, UndoneLaws}
use Rattle.paged_desks.proofs.image_model.WordLemmas.{words}
use Rattle.paged_desks.specs.core_state.Openings.{Opening, first_map, start_page}
use Rattle.lean_disk.specs.Story.{Story, areas_of, Tells}
use Rattle.paged_desks.specs.disk_runs.Pages.{Firm}
use Rattle.paged_desks.specs.disk_slots.declared.master.Master.{Master}
use Rattle.paged_desks.specs.disk_image.Formats.{format_of}
use Rattle.paged_desks.specs.disk_image.Shown.{Areas, IsCleanDisk, image_by}
use Rattle.paged_desks.specs.worker_log.Logs.{Log}
use Rattle.recovery.specs.Masters.{IsOpenable}
use Rattle.recovery.specs.Opened.{IsGreatest, IsRecovered, IsUntouched, Keeps}
use Rattle.recovery.specs.Own.{EveryOwn}
use Rattle.recovery.specs.Starts.{IsStartOf}
use Rattle.recovery.specs.Telling as telling
use Rattle.recovery.specs.declared.opening.Recovered.{Recovered}
use Rattle.paged_desks.specs.row_opening.Opened.{contents_of, page_at, page_or}
use Rattle.run_opening.specs.Starts.{EveryStart, IsStart}
use Rattle.paged_desks.specs.page_calls.Slots.{number_of, opened_slot}
use Rattle.paged_desks.specs.page_calls.declared.slots.Slot.{Slot}
use Rattle.paged_opening.specs.Opened.{HasRecovered}
use Rattle.paged_opening.proofs.MirrorLemmas.{last_is, opened_at}
use Rattle.paged_engine.specs.Openings.{BeginsOn, IsFrom, IsMadeBy, OpeningLaws}

-- the opening is one of so many workers on these pages, with this base number
pub record IsOn (pages : List Page) (base logs : ℕ) (g : Opening) : Type 0 where
  pub workers : g.workers ≡ logs
  pub format : g.format ≡ format_of (length pages)
  pub base_is : g.base ≡ base
  pub page : (p : ℕ) → start_page g p ≡ contents_of (page_at pages p)

-- what is true is so
pub is_true : (b : Bool) → IsTrue b → b ≡ true
is_true b t = t

-- what the disk told of it tells of
pub told : (s0 s1 : Story) → Keeps s0 s1 → (a : ℕ) → Tells s0 a → Tells s1 a
told s0 s1 keeps a t = subst (λ (b : Bool). IsTrue b) (sym (keeps.tells a)) t

-- what stands in the leaves depends on these pages alone
entry_same : (n : ℕ) (x y : ℕ → Node) (k : ℕ) → ((p : ℕ) → p < n → x p ≡ y p) → entry n x k ≡ entry n y k
entry_same zero x y k same = refl
entry_same (suc n) x y k same = go (entry_same n x y k (λ p lt. same p (omega arith)))
  where
    go : entry n x k ≡ entry n y k → entry (suc n) x k ≡ entry (suc n) y k
    go ih = ap (λ (v : Node). cond (holds v k) (find k v.pairs) (entry n x k)) (same n (omega arith)) ∙ ap (λ (o : Option ℕ). cond (holds (y n) k) (find k (y n).pairs) o) ih

some_one : {x y : Master} → Some x ≡ Some y → x ≡ y
some_one e = cc

module _ (undone : EveryUndone) (every_own : EveryOwn) (r : Recovered) (g : Opening) (on : IsOn r.pages.items r.master.floor (length r.master.heads) g) where
  module _ (m : Master) (area : Areas) (is : IsRecovered m area r) where
    abbrev i : Image
    i = image_by m area

    -- each page is there
    at : (p : ℕ) → p < m.pages → (v : Page) × (slice_get r.pages.items p ≡ Some v)
    at p lt = ⊎_elim (λ (q : (x : Page) × (p < length r.pages.items) × (slice_get r.pages.items p ≡ Some x) × (get_or r.pages.items p x ≡ x)). (q.0, q.2))
        (λ (q : (length r.pages.items ≤ p) × (slice_get r.pages.items p ≡ None)). absurd (let e = is.count in let low = q.0 in omega arith))
        (slice_get_cases r.pages.items p).1

    -- there are as many logs as the disk's master has
    logs_are : g.workers ≡ length m.heads
    logs_are = on.workers ∙ (ap (λ (x : Master). length x.heads) is.master ∙ length-replicate (length m.heads) 0)

    start_is : IsStartOf m area g
    start_is = record {
      format = on.format ∙ ap format_of is.count;
      logs = logs_are;
      base = subst (IsGreatest i) (sym on.base_is) is.base;
      pages = λ p lt. let v = at p lt in on.page p ∙ (ap (λ (o : Option Page). contents_of (page_or o)) v.1 ∙ (is.page p v.0 v.1).is);
    }

    laws : UndoneLaws i
    laws = undone i is.sound.sound (words i is.sound.sound (λ w low high e h. (every_own m area w e h).log) (λ w low high e h. (every_own m area w e h).before))

    abbrev there : ℕ → Node
    there p = (recovered_page i p).node

    -- its map is that for which the image stands
    map_is : (k : ℕ) → first_map g k ≡ map_of i k
    map_is k =
        ap₂ (λ (f : Format) (o : Option ℕ). value_of f o) start_is.format
        (entry_same g.format.pages g.node there k (λ p lt. ap (λ (v : Contents). v.node) (start_is.pages p (let e = ap (λ (f : Format). f.pages) start_is.format in omega arith)))
        ∙ ap (λ (f : Format). entry f.pages there k) start_is.format)
        ∙ laws.values k

  module _ (most : ℕ) (s0 s1 : Story) (has : HasRecovered most s0 s1 r) (keeps : Keeps s0 s1) (faithful : g.faithful ≡ s1.tells 1) where
    from : (tells : telling.TellsAll most s0) → IsFrom most g s0 r.master.generation r.winners r.undone
    from tells =
        let a = has.answer tells in let is : IsRecovered a.0 (areas_of s0) r = a.2 in record {
          faithful = faithful ∙ is_true (s1.tells 1) (told s0 s1 keeps 1 tells.pages);
          m = a.0;
          openable = a.1;
          sound = is.sound;
          starts = start_is a.0 (areas_of s0) is;
          map = map_is a.0 (areas_of s0) is;
          generation_is = ap (λ (x : Master). x.generation) is.master;
          won_is = is.won;
          lost_is = is.lost;
        }

    module _ (tells : telling.TellsAll most s0) (m : Master) (clean : IsCleanDisk m (areas_of s0)) (log : ℕ → Log) (made : (w : ℕ) → 0 < w → w ≤ g.workers → IsMadeBy r.master w (log w)) (untouched : (a : ℕ) → 1 < a → IsUntouched (s0.area a) (s1.area a)) (every_start : EveryStart s0 s1) where
      is_one : (has.answer tells).0 ≡ m
      is_one = some_one (sym (has.answer tells).2.sound.master ∙ clean.master)

      given : IsOpenable most m × IsRecovered m (areas_of s0) r
      given = subst (λ (x : Master). IsOpenable most x × IsRecovered x (areas_of s0) r) is_one ((has.answer tells).1, (has.answer tells).2)

      many : g.workers ≡ length m.heads
      many = logs_are m (areas_of s0) given.1

      first_tells : (a : ℕ) → a ≤ suc g.workers → Tells s0 a
      first_tells zero l = tells.master
      first_tells (suc zero) l = tells.pages
      first_tells (suc (suc a)) l = tells.logs m clean.master given.0 (suc a) (omega arith) (let o = many in omega arith)

      start : IsStart m r g log s0 s1
      start = record {
        tells = λ a l. told s0 s1 keeps a (first_tells a l);
        faithful = faithful ∙ is_true (s1.tells 1) (told s0 s1 keeps 1 tells.pages);
        clean = clean;
        recovered = given.1;
        whole = has.whole;
        opened = has.opened tells m clean;
        installed = has.installed tells m clean.master;
        untouched = λ w low high. untouched (suc w) (omega arith);
        opening = start_is m (areas_of s0) given.1;
        made = λ w low high. let a = made w low high in record { is = a.is; ranges = a.ranges; starts = a.starts (s1.area (suc w)) };
      }

      -- the slot that is firm is the one that recovery gave, and none is late
      slot_is : (firm : ℕ → Firm) → ((p : ℕ) → p < r.master.pages → (firm p).slot ≡ slice_index r.slots.items p) → (p : ℕ) (t : Slot) → slice_get (map opened_slot r.slots.items) p ≡ Some t
          → ((firm p).slot ≡ number_of t.second) × (false ≡ t.late)
      slot_is firm same p t e =
          let k = opened_at p r.slots.items t e in
          let few : p < r.master.pages = let a = k.0 in let b = has.whole.places in omega arith in
          (same p few ∙ (sym (last_is (slice_index r.slots.items p) (has.whole.halves p few)) ∙ ap (λ (u : Slot). number_of u.second) (sym k.1)), ap (λ (u : Slot). u.late) (sym k.1))

      pub begins_on : BeginsOn g (record { log = log; master = r.master; slots = map opened_slot r.slots.items }) s0 s1 m
      begins_on = record {
        next = record { base = r.master.floor; greatest = given.1.base; is = given.1.master };
        start = start_is m (areas_of s0) given.1;
        map = map_is m (areas_of s0) given.1;
        begins = λ c read. let q = every_start m r g log c read start in record { known = _; is = record { log = λ w low high. refl; master = refl; slots = slot_is q.firm q.slots }; stands = q.stands };
      }

pub every_opening : (most : ℕ) (s0 s1 : Story) → EveryUndone → EveryOwn → EveryStart s0 s1 → (r : Recovered) (log : ℕ → Log) (g : Opening) → HasRecovered most s0 s1 r → Keeps s0 s1 → g.faithful ≡ s1.tells 1
    → ((a : ℕ) → 1 < a → IsUntouched (s0.area a) (s1.area a)) → ((w : ℕ) → 0 < w → w ≤ g.workers → IsMadeBy r.master w (log w)) → IsOn r.pages.items r.master.floor (length r.master.heads) g
    → OpeningLaws most g r (record { log = log; master = r.master; slots = map opened_slot r.slots.items }) s0 s1
every_opening most s0 s1 undone own start r log g has keeps faithful untouched made on = record {
  from = from undone own r g on most s0 s1 has keeps faithful;
  clean = λ tells m clean. begins_on undone own r g on most s0 s1 has keeps faithful tells m clean log made untouched start;
}
