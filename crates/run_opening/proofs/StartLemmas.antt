-- A run begins where recovery ends.
use Rattle.std.proofs.Common.{◌≡◌, ◌⊎◌, inl, inr, ⊎_elim, ◌≤◌, ◌<◌, ◌-◌, ◌*◌, ◌%◌, ℕ, suc, List, [], ◌∷◌, length, map, replicate, get_or, Option, Some, slice_get, refl, sym, ap, ◌∙◌, subst, arith}
use Rattle.std.proofs.lemmas.Bool.{cases_eq, cases_lt}
use Rattle.std.proofs.lemmas.List.{length-replicate, get_or-replicate}
use Rattle.std.proofs.lemmas.Option.{same_Some, slice_get-get_or}
use Rattle.std.proofs.Math.Nat.{zero-mod}
use Rattle.map_model.specs.Lists.{Has}
use Rattle.page_model.specs.Nodes.{free}
use Rattle.page_model.specs.Page.{Page, new_page}
use Rattle.disk_runs.specs.image_model.Entries.{Contents, Entry}
use Rattle.disk_runs.specs.image_model.Images.{Image, bases, recovered_page, sorted}
use Rattle.disk_runs.specs.core_state.Openings.{Opening, start_page}
use Rattle.lean_disk.specs.Area.{Write}
use Rattle.lean_disk.specs.Story.{Crash, Story, areas_of}
use Rattle.disk_runs.specs.disk_slots.Masters.{IsMasterSlot, master_slot}
use Rattle.disk_runs.specs.disk_slots.Pages.{page_slot}
use Rattle.disk_runs.specs.disk_slots.declared.master.Master.{Master}
use Rattle.disk_runs.proofs.disk_slots.LawLemmas.{every_master}
use Rattle.disk_runs.specs.disk_image.Formats.{format_of}
use Rattle.disk_runs.specs.disk_image.PageSlots.{page_in}
use Rattle.disk_runs.specs.disk_image.Runs.{HasNone, sealed_in}
use Rattle.disk_runs.specs.disk_image.Shown.{head_of, image_by, page_slot_in, slot_of}
use Rattle.disk_runs.proofs.disk_image.MasterSlotLemmas.{every_master_in}
use Rattle.disk_runs.proofs.disk_image.PageSlotLemmas.{every_page_in}
use Rattle.disk_runs.specs.page_store.Bases.{image_page}
use Rattle.disk_runs.specs.page_store.Saved.{Save, place_of, write_of}
use Rattle.disk_runs.proofs.page_store.PieceLemmas.{same_page}
use Rattle.disk_runs.proofs.master_store.SlotLemmas as slots
use Rattle.disk_runs.specs.worker_log.Logs.{Log}
use Rattle.disk_runs.specs.worker_log.Kept.{IsFresh}
use Rattle.recovery.specs.Opened.{IsGreatest}
use Rattle.recovery.specs.declared.opening.Recovered.{Recovered}
use Rattle.disk_runs.specs.Fair.{IsAsRead}
use Rattle.disk_runs.specs.Masters as masters
use Rattle.disk_runs.specs.Masters.{MasterStands}
use Rattle.disk_runs.specs.Openings.{EveryOpened, MayBe, Opens, OpensLog, OpensPages}
use Rattle.disk_runs.specs.Pages.{Firm, IsBehind, Yields}
use Rattle.disk_runs.proofs.PageLemmas.{slotted}
use Rattle.disk_runs.proofs.SlotLemmas.{master_own, own_more, saves_own}
use Rattle.run_opening.specs.Starts.{EveryStart, IsStart, Starts, empty_log}
use Rattle.run_opening.proofs.FirmLemmas.{Counts, base_of_two, counts, find_save, firm_of, one_counts, wrote_save}

-- ## The base number

-- there is one greatest number
at_most : (i : Image) (a b : ℕ) → IsGreatest i a → IsGreatest i b → a ≤ b
at_most i a b x y = ⊎_elim
    (λ (e : a ≡ i.floor). let l = y.floor in omega arith)
    (λ rest. ⊎_elim
    (λ (r : (r : Entry) × Has r (sorted i) × (a ≡ r.number)). let l = y.records r.0 r.1 in let e = r.2 in omega arith)
    (λ (p : (p : ℕ) × (p < i.format.pages) × (a ≡ (bases i p).gsn)). let l = y.stored p.0 p.1 in let e = p.2 in omega arith)
    rest)
    x.met

one_greatest : (i : Image) (a b : ℕ) → IsGreatest i a → IsGreatest i b → a ≡ b
one_greatest i a b x y = let l = at_most i a b x y in let k = at_most i b a y x in omega arith

-- ## The start

module _ (s0 s : Story) (m : Master) (r : Recovered) (g : Opening) (log : ℕ → Log) (is : IsStart m r g log s0 s) where
  abbrev n : Master
  n = r.master

  abbrev bytes : List ℕ
  bytes = (s.area 1).bytes

  sequence : n.sequence ≡ suc m.sequence
  sequence = ap (λ (z : Master). z.sequence) is.recovered.master

  generation : n.generation ≡ suc m.generation
  generation = ap (λ (z : Master). z.generation) is.recovered.master

  pages : n.pages ≡ m.pages
  pages = ap (λ (z : Master). z.pages) is.recovered.master

  blocks : n.blocks ≡ m.blocks
  blocks = ap (λ (z : Master). z.blocks) is.recovered.master

  heads : n.heads ≡ replicate (length m.heads) 0
  heads = ap (λ (z : Master). z.heads) is.recovered.master

  -- ## Pages

  abbrev slot0 : ℕ → Option Page
  slot0 p = page_slot_in m.pages p 0 bytes

  abbrev slot1 : ℕ → Option Page
  slot1 p = page_slot_in m.pages p 1 bytes

  abbrev firm : ℕ → Firm
  firm p = firm_of (slot0 p) (slot1 p)

  abbrev recovered_is : ℕ → Contents
  recovered_is p = recovered_page (image_by m (areas_of s0)) p

  low : (p i : ℕ) → p < m.pages → i < 2 → (x : Page) → page_slot_in m.pages p i bytes ≡ Some x → x.generation ≤ n.generation
  low p i lt half x e = is.opened.slots p i (slotted x) lt half (ap slot_of (subst (λ (k : ℕ). page_slot_in k p i bytes ≡ Some x) (sym pages) e))

  count : (p : ℕ) → p < m.pages → Counts (slot0 p) (slot1 p) (recovered_is p) (firm p)
  count p lt = counts n.generation (slot0 p) (slot1 p) (recovered_is p) (low p 0 lt (omega arith)) (low p 1 lt (omega arith))
      (subst (λ (k : ℕ). base_of_two n.generation (page_slot_in k p 0 bytes) (page_slot_in k p 1 bytes) ≡ Some (recovered_is p)) pages (is.opened.base p lt))

  half_of : (p : ℕ) → p < m.pages → (firm p).slot < 2
  half_of p lt = ⊎_elim (λ a. let e = a.0 in omega arith) (λ b. let e = b.0 in omega arith) (count p lt).there

  there_of : (p : ℕ) → p < m.pages → page_slot_in m.pages p (firm p).slot bytes ≡ Some (firm p).page
  there_of p lt = ⊎_elim
      (λ a. subst (λ (i : ℕ). page_slot_in m.pages p i bytes ≡ Some (firm p).page) (sym a.0) a.1)
      (λ b. subst (λ (i : ℕ). page_slot_in m.pages p i bytes ≡ Some (firm p).page) (sym b.0) b.1)
      (count p lt).there

  spare_of : (p : ℕ) → p < m.pages → (y : Page) → page_slot_in m.pages p (1 - (firm p).slot) bytes ≡ Some y → Yields (firm p) y
  spare_of p lt y e = ⊎_elim
      (λ a. (count p lt).spare y (inl (a.0, subst (λ (i : ℕ). page_slot_in m.pages p i bytes ≡ Some y) (let z = a.0 in omega arith) e)))
      (λ b. (count p lt).spare y (inr (b.0, subst (λ (i : ℕ). page_slot_in m.pages p i bytes ≡ Some y) (let z = b.0 in omega arith) e)))
      (count p lt).there

  -- what stands in a slot is the firm page, or yields to it
  read_of : (p i : ℕ) → p < m.pages → i < 2 → (y : Page) → page_slot_in m.pages p i bytes ≡ Some y → ((firm p).page ≡ y) ⊎ Yields (firm p) y
  read_of p i lt half y e = ⊎_elim
      (λ (same : i ≡ (firm p).slot). inl (same_Some (firm p).page y (sym (there_of p lt) ∙ subst (λ (k : ℕ). page_slot_in m.pages p k bytes ≡ Some y) same e)))
      (λ (ne : i ≡ (firm p).slot → ⊥). inr (spare_of p lt y (subst (λ (k : ℕ). page_slot_in m.pages p k bytes ≡ Some y) (let h = half_of p lt in omega arith) e)))
      (cases_eq i (firm p).slot)

  firm_low : (p : ℕ) → p < m.pages → (firm p).page.generation ≤ n.generation
  firm_low p lt = low p (firm p).slot lt (half_of p lt) (firm p).page (there_of p lt)

  start_of : (p : ℕ) → p < m.pages → image_page (firm p).page ≡ start_page g p
  start_of p lt = (count p lt).is ∙ sym (is.opening.pages p lt)

  -- the slot that recovery gives
  given_slot : (p : ℕ) → p < m.pages → (firm p).slot ≡ get_or r.slots.items p 0
  given_slot p lt =
      let d : Page = new_page p free in
      let here : slice_get r.pages.items p ≡ Some (get_or r.pages.items p d) = slice_get-get_or r.pages.items p d (let k = is.recovered.count in omega arith) in
      let c = is.opened.counts p (get_or r.pages.items p d) here in
      one_counts (firm p) (get_or r.slots.items p 0) c.node (half_of p lt) (is.whole.halves p (let k = pages in omega arith))
      (λ e. c.other (firm p).page (subst (λ (k : ℕ). page_slot_in m.pages p k bytes ≡ Some (firm p).page) e (there_of p lt)))
      (λ e. spare_of p lt c.node (subst (λ (k : ℕ). page_slot_in m.pages p k bytes ≡ Some c.node) e c.there))

  -- what stands in a slot now
  now_may : (p i : ℕ) → p < m.pages → i < 2 → (y : Page) → page_slot_in m.pages p i bytes ≡ Some y → MayBe g n.generation p (firm p) y
  now_may p i lt half y e = record {
    generation_is = low p i lt half y e;
    is = ⊎_elim
        (λ (one : (firm p).page ≡ y). inr ((let a = ap (λ (z : Page). z.generation) one in omega arith, let a = ap (λ (z : Page). z.gsn) one in omega arith), ap image_page (sym one) ∙ start_of p lt))
        (λ yields. inl yields)
        (read_of p i lt half y e);
  }

  -- a recovered page under the next generation
  recovered_may : (p : ℕ) → p < m.pages → (y : Page) → y.generation ≡ suc m.generation → image_page y ≡ recovered_is p → MayBe g n.generation p (firm p) y
  recovered_may p lt y own same = record {
    generation_is = let q = generation in omega arith;
    is = inr (
      (
        let a = firm_low p lt in let q = generation in omega arith,
        let a = ap (λ (z : Contents). z.gsn) (same ∙ sym (count p lt).is) in omega arith,
      ),
      same ∙ sym (is.opening.pages p lt),
    );
  }

  -- one that was saved stands there now
  saved_there : (x : Save) → Has x is.installed.saves → (p i : ℕ) → x.page ≡ p → x.slot ≡ i → page_slot_in m.pages p i bytes ≡ Some x.node
  saved_there x has p i page slot = subst (λ (k : ℕ). page_slot_in m.pages p k bytes ≡ Some x.node) slot
      (subst (λ (k : ℕ). page_slot_in m.pages k x.slot bytes ≡ Some x.node) page (is.installed.holds.one is.installed.apart x has))

  -- what stood there at first under an earlier generation stands there still, or one of the next generation does
  earlier_may : (p i : ℕ) → p < m.pages → i < 2 → (y : Page) → page_slot_in m.pages p i (areas_of s0 1) ≡ Some y → y.generation ≤ m.generation → MayBe g n.generation p (firm p) y
  earlier_may p i lt half y e least = ⊎_elim (λ spared. now_may p i lt half y (is.installed.holds.other p i half spared ∙ e)) over (find_save p i is.installed.saves)
    where
      newest : (x : Page) → x.generation ≡ suc m.generation → page_slot_in m.pages p i bytes ≡ Some x → IsBehind y (firm p).page
      newest x own q = ⊎_elim
          (λ (one : (firm p).page ≡ x). inl (let a = ap (λ (z : Page). z.generation) one in omega arith))
          (λ yields. ⊎_elim
          (λ behind. ⊎_elim (λ (l : x.generation < (firm p).page.generation). inl (omega arith)) (λ l. inl (let a = l.0 in omega arith)) behind)
          (λ tie. inl (let a = tie.1 in omega arith))
          yields)
          (read_of p i lt half x q)

      over : (x : Save) × Has x is.installed.saves × (x.page ≡ p) × (x.slot ≡ i) → MayBe g n.generation p (firm p) y
      over f = record { generation_is = let q = generation in omega arith; is = inl (inl (newest f.0.node (is.installed.own f.0 f.1).generation (saved_there f.0 f.1 p i f.2 f.3))) }

  old_may : (p i : ℕ) (y : Page) → p < m.pages → i < 2 → page_slot_in m.pages p i (areas_of s0 1) ≡ Some y → MayBe g n.generation p (firm p) y
  old_may p i y lt half e = ⊎_elim
      (λ (later : m.generation < y.generation). let c = is.clean.clean.slots p i (slotted y) lt half (ap slot_of e) later in recovered_may p lt y c.0 c.1)
      (λ (least : y.generation ≤ m.generation). earlier_may p i lt half y e least)
      (cases_lt m.generation y.generation)

  new_may : (p i : ℕ) (b : List ℕ) (y : Page) → p < m.pages → i < 2 → Has (place_of p i, b) (map write_of is.installed.saves) → page_in p m.pages b ≡ Some y → MayBe g n.generation p (firm p) y
  new_may p i b y lt half has e =
      let f = wrote_save is.installed.saves (place_of p i, b) has in
      let x : Save = f.0 in
      let stored = is.installed.are x f.1 in
      let places : place_of p i ≡ place_of x.page x.slot = ap (λ (z : Write). z.0) f.2 in
      let same = same_page p i x.page x.slot half stored.half (omega arith) in
      let spelled : b ≡ page_slot x.node = ap (λ (z : Write). z.1) f.2 in
      let there : page_in x.page m.pages (page_slot x.node) ≡ Some x.node = (every_page_in x.page m.pages (page_slot x.node) x.node).1 (record { holds = stored.stored; spelled = refl }) in
      let read : page_in x.page m.pages (page_slot x.node) ≡ Some y = subst (λ (v : List ℕ). page_in x.page m.pages v ≡ Some y) spelled (subst (λ (k : ℕ). page_in k m.pages b ≡ Some y) (sym same.0) e) in
      now_may p i lt half y (saved_there x f.1 p i same.0 same.1 ∙ (sym there ∙ read))

  opens_pages : OpensPages g m.pages n.generation (areas_of s0 1) (s0.area 1).writes firm (s.area 1)
  opens_pages = record {
    synced = record { clean = (is.opened.settled 1 (omega arith)).clean; end = (is.opened.settled 1 (omega arith)).end };
    since = map write_of is.installed.saves;
    writes = is.installed.pages;
    own = saves_own m.pages is.installed.saves is.installed.are;
    page = λ p lt. record { half = half_of p lt; there = there_of p lt; generation_is = firm_low p lt; is = start_of p lt; spare = spare_of p lt };
    old = old_may;
    new = new_may;
  }

  -- ## The master

  at_n : slots.in_slot (s.area 0).bytes (slots.slot_of n) ≡ Some n
  at_n = slots.counts_there (s.area 0).bytes n is.opened.master

  master_stands : MasterStands n (areas_of s0 0) (s0.area 0).writes (s.area 0)
  master_stands = record {
    since = (1024 * masters.slot_of n, master_slot n) ∷ [];
    writes = is.installed.master;
    own = own_more (1024 * masters.slot_of n, master_slot n) [] (master_own n is.whole.master) (λ w has. absurd has);
    there = at_n;
    end = let w = slots.whole_slot (slots.slot_of n) (s.area 0).bytes n at_n in let e = (is.opened.settled 0 (omega arith)).end in omega arith;
    other = λ o e. slots.most_there (s.area 0).bytes (1 - masters.slot_of n) n o (omega arith) is.opened.master e;
    late = λ range has. absurd (subst (Has range) (is.opened.settled 0 (omega arith)).clean has);
    old = λ k o lt e. let a = slots.most_there (areas_of s0 0) k m o lt is.clean.master e in let q = sequence in omega arith;
    new = λ k b o lt has e. ⊎_elim
        (λ (w : ◌≡◌ {A = Write} (1024 * k, b) (1024 * masters.slot_of n, master_slot n)).
        let spelled : b ≡ master_slot n = ap (λ (z : Write). z.1) w in
        let held : IsMasterSlot k (master_slot n) o = subst (λ (v : List ℕ). IsMasterSlot k v o) spelled ((every_master_in k b o).0 e) in
        let one = ap (λ (z : Master). z.sequence) ((every_master (slots.slot_of n) n).one (master_slot n) k o (slots.own_slot n is.whole.master) held) in omega arith)
        (λ no_more. absurd no_more) has;
  }

  -- ## The logs

  module _ (w : ℕ) (first : 0 < w) (last : w ≤ g.workers) where
    few : w ≤ length m.heads
    few = let e = is.opening.logs in omega arith

    made : log w ≡ empty_log n w
    made = (is.made w first last).is

    fresh : IsFresh (log w) (s.area (suc w))
    fresh =
        let settled = is.opened.settled (suc w) (let l = few in omega arith) in
        record {
          clean = settled.clean;
          end = settled.end;
          new = subst (λ (l : Log). HasNone l.generation l.blocks (s.area (suc w)).bytes) (sym made) (subst (λ (k : ℕ). HasNone n.generation k (s.area (suc w)).bytes) (sym blocks) (is.opened.blocks w first few));
          reach = subst (λ (l : Log). 2048 * (l.head % l.blocks) ≤ length (s.area (suc w)).bytes) (sym made) (let z : 0 % n.blocks ≡ 0 = zero-mod n.blocks in omega arith);
        }

    head_zero : head_of n w ≡ 0
    head_zero = ap (λ (hs : List ℕ). get_or hs (w - 1) 0) heads ∙ get_or-replicate (length m.heads) (w - 1) 0 0 (let l = few in omega arith)

    opens_log : OpensLog n w (log w) (areas_of s0 (suc w)) (s0.area (suc w)).writes (s.area (suc w))
    opens_log = record {
      is = record {
        generation = ap (λ (l : Log). l.generation) made;
        number = ap (λ (l : Log). l.log) made;
        blocks = ap (λ (l : Log). l.blocks) made;
        head = ap (λ (l : Log). l.head) made ∙ sym head_zero;
      };
      head = head_zero;
      ranges = (is.made w first last).ranges;
      numbers = (ap (λ (l : Log). l.last) made, ap (λ (l : Log). l.flushed) made);
      fresh = (is.made w first last).starts fresh;
      bytes = (is.untouched w first few).bytes;
      writes = (is.untouched w first few).writes;
      sealed = λ q h. let a = is.clean.clean.blocks w q first few (subst (λ (k : ℕ). Has q (sealed_in k (areas_of s0 (suc w)))) blocks h) in let k = generation in omega arith;
    }

  -- ## All of it

  module _ (c : Crash) (read : IsAsRead s0 c) where
    -- what is said of an area by what it told is said by what a read gave
    as_read : (P : List ℕ → List Write → Type 0) (a : ℕ) → P (s0.area a).bytes (s0.area a).writes → P (c.image a) (c.writes a)
    as_read P a p = subst (λ (b : List ℕ). P b (c.writes a)) (sym (read.image a)) (subst (P (s0.area a).bytes) (sym (read.writes a)) p)

    opens : Opens g c r.master log firm s
    opens = record {
      tells = is.tells;
      faithful = is.faithful;
      format = is.opening.format ∙ ap format_of (sym pages);
      logs = ap (λ (hs : List ℕ). length hs) heads ∙ (length-replicate (length m.heads) 0 ∙ sym is.opening.logs);
      floor = one_greatest (image_by m (areas_of s0)) r.master.floor g.base is.recovered.base is.opening.base;
      master = as_read (λ b ws. MasterStands n b ws (s.area 0)) 0 master_stands;
      pages = subst (λ (k : ℕ). OpensPages g k n.generation (c.image 1) (c.writes 1) firm (s.area 1)) (sym pages) (as_read (λ b ws. OpensPages g m.pages n.generation b ws firm (s.area 1)) 1 opens_pages);
      each = λ w first last. as_read (λ b ws. OpensLog n w (log w) b ws (s.area (suc w))) (suc w) (opens_log w first last);
    }

    pub starts : EveryOpened s → Starts g r log c s
    starts every_opened = record { firm = firm; opens = opens; stands = every_opened c g r.master log firm opens; slots = λ p lt. given_slot p (let k = pages in omega arith) }

pub every_start : (s : Story) → EveryOpened s → (s0 : Story) → EveryStart s0 s
every_start s every_opened s0 m r g log c read is = starts s0 s m r g log is c read every_opened
