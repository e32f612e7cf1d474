-- What redo and undo made of a disk, and which place of it breaks a rule.
use Rattle.std.proofs.Common.{◌≡◌, ◌<◌, ◌≤◌, ◌⊎◌, ℕ, suc, Bool, true, false, ◌&&◌, leb, ltb, ◌==◌, ◌%◌, ◌^◌, List, [], ◌∷◌, ◌++◌, length, get_or, Option, Some, None, bytes_eq, append-nil, refl, sym, ◌∙◌, ap, subst, inl, inr, arith}
use Rattle.std.proofs.lemmas.Bool.{and_parts, leb-true}
use Rattle.std.specs.BTreeSet.{BTreeSet}
use Rattle.map_model.specs.Lists.{Has, all, in_order}
use Rattle.page_model.specs.Page.{Page}
use Rattle.page_model.specs.Nodes.{Format}
use Rattle.page_model.specs.Tree.{IsTree, entry}
use Rattle.page_model.specs.Check.{page_ok}
use Rattle.page_model.specs.Redo.{is_some}
use Rattle.disk_image.specs.image_model.Fair.{piece}
use Rattle.disk_image.specs.image_model.Entries as model
use Rattle.disk_image.specs.image_model.Entries.{Entry, earlier}
use Rattle.disk_image.specs.image_model.Ends as ends
use Rattle.disk_image.specs.image_model.Redo.{Redone, redo, passes}
use Rattle.disk_image.specs.image_model.Undo as undoing
use Rattle.disk_image.specs.image_model.Undo.{is_lost}
use Rattle.disk_image.specs.image_model.Images.{Image, gathered, bases, redone, lost, has_entry, page_or, IsFalling}
use Rattle.disk_image.specs.disk_slots.declared.master.Master.{Master}
use Rattle.disk_image.specs.Formats.{format_of}
use Rattle.disk_image.specs.Runs.{Block, Logged, entries_in, records_onto, records_or, logged_onto}
use Rattle.disk_image.specs.Blocks.{block_in}
use Rattle.disk_image.specs.MasterSlots.{master_of, is_among, is_master, master_in, newer, master_on}
use Rattle.disk_image.specs.Shown.{Areas, run_of, image_by}
use Rattle.disk_image.specs.Breaks.{Breaks, StandsAt}
use Rattle.disk_image.specs.Laws.{Agree, Agreement}
use Rattle.disk_image.specs.Words.{words_in}
use Rattle.disk_image.proofs.TestLemmas.{if_some}
use Rattle.disk_image.proofs.AgreementLemmas.{every_agreement}
use Rattle.node_tree.specs.Nodes.{nodes_of}
use Rattle.disk_image.specs.log_record.declared.record.Record.{Record}
use Rattle.log_index.specs.Items.{Item}
use Rattle.record_redo.specs.Pages.{pages_of}
use Rattle.recovery_scan.specs.Records.{entry_of, entries_of}
use Rattle.recovery_scan.specs.Scans.{AreOfLogs}
use Rattle.recovery_redo.specs.Recoveries.{IsLoaded, IsGreatest, IsRecovered}
use Rattle.recovery_redo.specs.declared.recover.Outcome.{Outcome}
use Rattle.recovery_redo.specs.Inside as inside
use Rattle.recovery_redo.specs.Inside.{has, IsTop, AreEnded, IsRedone, IsUndone, FailsAt, LacksAt, BreaksAt, IsAtop}
use Rattle.recovery_redo.proofs.LogLemmas.{entries_split, has_at, has_entry_of, log_at}
use Rattle.recovery_redo.proofs.PageLemmas.{node_at}
use Rattle.page_model.proofs.Same.{entry_same}
use Rattle.recovery_redo.proofs.SameLemmas.{page_ok_same}
use Rattle.disk_image.proofs.image_model.SameLemmas.{SameRedone, redo_same, passes_same}
use Rattle.recovery_redo.proofs.CountLemmas.{AreApart, apart_gathered, apart_order, redone_pages, redone_pass, counts_at}
use Rattle.recovery_redo.proofs.ImageLemmas.{image_in, lost_from, base_from, won_is, undone_is, recovered_is, sound_is}

-- ## A disk has a page

some_pages : (n : ℕ) (m : Master) → is_master n m ≡ true → 0 < m.pages
some_pages n m h =
    let rest : Bool = is_among 64 4096 m.blocks && (is_among 1 16 (length m.heads) && ((m.sequence % 2 == n) && (ltb m.sequence (2 ^ 63) && (ltb m.generation (2 ^ 63) && (ltb m.floor (2 ^ 64) && all (λ h. ltb h (2 ^ 63)) m.heads))))) in
    let a = (and_parts (is_among 16 65536 m.pages) rest h).0 in
    let l : 16 ≤ m.pages = leb-true 16 m.pages (and_parts (leb 16 m.pages) (leb m.pages 65536) a).0 in
    omega arith

some_in : (n : ℕ) (bytes : List ℕ) (m : Master) → master_in n bytes ≡ Some m → 0 < m.pages
some_in n bytes m h =
    let o = master_of (words_in 126 bytes) in
    let b = if_some (bytes_eq bytes (Rattle.disk_image.specs.disk_slots.Masters.master_slot o) && is_master n o) o m h in
    some_pages n m (ap (is_master n) (sym b.1) ∙ (and_parts (bytes_eq bytes (Rattle.disk_image.specs.disk_slots.Masters.master_slot o)) (is_master n o) b.0).1)

newer_one : (a b : Option Master) (m : Master) → newer a b ≡ Some m → (a ≡ Some m) ⊎ (b ≡ Some m)
newer_one None b m e = inr e
newer_one (Some x) None m e = inl e
newer_one (Some x) (Some y) m e = go (ltb x.sequence y.sequence) e
  where
    go : (b : Bool) → Rattle.std.proofs.Common.cond b (Some y) (Some x) ≡ Some m → (Some x ≡ Some m) ⊎ (Some y ≡ Some m)
    go true q = inr q
    go false q = inl q

pub some_on : (bytes : List ℕ) (m : Master) → master_on bytes ≡ Some m → 0 < m.pages
some_on bytes m h = elim (newer_one (master_in 0 (piece 1024 0 bytes)) (master_in 1 (piece 1024 1 bytes)) m h) [
  | inl e ↦ some_in 0 (piece 1024 0 bytes) m e
  | inr e ↦ some_in 1 (piece 1024 1 bytes) m e
]

-- ## The logs

-- each is of this log
abbrev AreOwn : ℕ → List Logged → Type 0
AreOwn log xs = (r : Entry) → Has r (entries_in xs) → r.log ≡ log

records_own : (log place : ℕ) (behind : List Logged) (rs : List Record) → AreOwn log behind → AreOwn log (records_onto log place behind rs)
records_own log place behind [] h = h
records_own log place behind (r ∷ rs) h = records_own log place (record { place = place; entry = Rattle.disk_image.specs.Records.entry_of log r } ∷ behind) rs
    (λ q m. elim m [ inl e ↦ ap (λ (u : Entry). u.log) e | inr n ↦ h q n ])

logged_own : (generation log n : ℕ) (behind : List Logged) (bs : List Block) → AreOwn log behind → AreOwn log (logged_onto generation log n behind bs)
logged_own generation log n behind [] h = h
logged_own generation log n behind (b ∷ bs) h =
    logged_own generation log n (records_onto log (b.number % n) behind (records_or (block_in generation log b.number b.bytes))) bs
    (records_own log (b.number % n) behind (records_or (block_in generation log b.number b.bytes)) h)

module _ (m : Master) (area : Areas) (old : List Page) (items : List Item) (logs floor : ℕ) (of_logs : AreOfLogs logs items) (loaded : IsLoaded m area old items logs floor) where
  abbrev i : Image
  i = image_by m area

  abbrev z : List Entry
  z = entries_of items

  order : z ≡ in_order earlier (gathered i.log logs)
  order = loaded.scan.records ∙ ap (λ n. in_order earlier (gathered i.log n)) (sym loaded.logs_is)

  rising : (w : ℕ) → 0 < w → w ≤ logs → IsFalling (i.log w)
  rising w o l = loaded.scan.rising w o (let c = loaded.logs_is in omega arith)

  own : (w : ℕ) (r : Entry) → Has r (i.log w) → r.log ≡ w
  own w r h = logged_own m.generation w m.blocks [] (run_of m w (area (suc w))) (λ q n. absurd n) r h

  apart : AreApart z
  apart = subst AreApart (sym order) (apart_order (gathered i.log logs) (apart_gathered i.log logs rising own))

  bases_is : (p : ℕ) → p < length old → pages_of old p ≡ bases i p
  bases_is p l = let c = loaded.count in sym (ap page_or (loaded.base p (omega arith)))

  format_is : format_of (length old) ≡ i.format
  format_is = ap format_of loaded.count

  agree : Agree (image_in i.log logs floor old) i
  agree = record {
    format = format_is;
    logs = loaded.logs_is;
    floor = loaded.floor_is;
    log = λ w o l. refl;
    base = λ p l. (let c = loaded.count in sym (loaded.base p (omega arith)));
  }

  stands : (k : ℕ) (x : Item) (place : ℕ) → k < length items → x ≡ get_or items k x → x.place ≡ place → StandsAt m area x.log place (entry_of x)
  stands k x place l is at = subst (λ (n : ℕ). StandsAt m area x.log n (entry_of x)) at (loaded.scan.stands x (has_at items k x l is))

  -- ## Damage

  pub undoable : (a place : ℕ) → FailsAt old items a place → Breaks m area a place
  undoable a place f =
      let older : List Entry = entries_of (Rattle.std.proofs.Common.take f.k items) in
      let s = entries_split items f.k f.x f.within f.is in
      let same = redo_same (format_of (length old)) (pages_of old) (bases i) bases_is older f.pass in
      inr (
        f.x.log,
        f.area_is,
        inr (inr (inl (record {
          r = entry_of f.x;
          stands = stands f.k f.x place f.within f.is f.place_is;
          newer = s.0;
          older = older;
          splits = sym loaded.scan.records ∙ s.1;
          fails = ap (λ (o : Format). passes o (redo (bases i) older).page (entry_of f.x)) (sym format_is)
              ∙ sym (passes_same (format_of (length old)) (entry_of f.x) (redo (pages_of old) older).page (redo (bases i) older).page same.page) ∙ f.fails;
        }))),
      )

  module _ (mid : List Page) (counted : List Bool) (all : IsRedone old mid items counted (length items)) (count : length mid ≡ length old) where
    redone_same : SameRedone (format_of (length old)) (redo (pages_of old) z) (redo (bases i) z)
    redone_same = redo_same (format_of (length old)) (pages_of old) (bases i) bases_is z (redone_pass old mid items counted all)

    redone_is : redone i ≡ redo (bases i) z
    redone_is = ap (redo (bases i)) (sym loaded.scan.records)

    nodes_is : (p : ℕ) → p < length old → nodes_of mid p ≡ undoing.nodes_of (redone i) p
    nodes_is p l =
        sym (node_at mid p) ∙ ap (λ (page : ℕ → model.Contents). (page p).node) (redone_pages old mid items counted all)
        ∙ ap (λ (v : model.Contents). v.node) (redone_same.page p l) ∙ ap (λ (e : Redone). (e.page p).node) (sym redone_is)

    pub broken : (page : ℕ) → BreaksAt mid page → Breaks m area 1 page
    broken page b =
        let l = b.within in
        let c = loaded.count in
        inl (
          refl,
          inr (record {
            page = omega arith;
            fails = ap (λ (o : Format). page_ok o (undoing.nodes_of (redone i)) page) (sym format_is)
                ∙ sym (page_ok_same (format_of (length old)) (nodes_of mid) (undoing.nodes_of (redone i)) nodes_is page (omega arith))
                ∙ ap (λ n. page_ok (format_of n) (nodes_of mid) page) (sym count) ∙ b.fails;
          }),
        )

    module _ (ended : List (BTreeSet ℕ)) (ends_at : AreEnded logs (ends.reach logs floor z) z ended) where
      has_is : (k : ℕ) → has mid k ≡ has_entry i k
      has_is k =
          ap (λ n. is_some (entry n (nodes_of mid) k)) count
          ∙ ap is_some (entry_same (length old) (nodes_of mid) (undoing.nodes_of (redone i)) k nodes_is)
          ∙ ap (λ n. is_some (entry n (undoing.nodes_of (redone i)) k)) loaded.count

      lost_is : (k : ℕ) (x : Item) → k < length items → x ≡ get_or items k x → lost i (entry_of x) ≡ inside.lost_by ended (get_or counted k false) x
      lost_is k x l is =
          let w = log_at logs items of_logs k x l is in
          ap (λ n. is_lost n m.floor (gathered i.log n) (redone i) (entry_of x)) (sym loaded.logs_is)
          ∙ ap (λ n. is_lost logs n (gathered i.log logs) (redone i) (entry_of x)) (sym loaded.floor_is)
          ∙ lost_from logs floor z ended ends_at (gathered i.log logs) order (redone i) x (get_or counted k false) w.0 w.1
          (ap (λ (e : Redone). e.counts x.log x.said.gsn) redone_is ∙ ap (λ (f : ℕ → ℕ → Bool). f x.log x.said.gsn) (sym redone_same.counts) ∙ counts_at old mid items counted all apart k x l is)

      pub lacking : (a place : ℕ) → LacksAt mid items counted ended a place → Breaks m area a place
      lacking a place h =
          inr (
            h.x.log,
            h.area_is,
            inr (inr (inr (record {
              r = entry_of h.x;
              stands = stands h.k h.x place h.within h.is h.place_is;
              has = subst (λ (y : List Entry). Has (entry_of h.x) y) loaded.scan.records (has_entry_of items h.k h.x h.within h.is);
              is_lost = lost_is h.k h.x h.within h.is ∙ h.is_lost;
              none = sym (has_is (entry_of h.x).key) ∙ h.none;
            }))),
          )

      -- ## Recovery

      module _ (tree : IsTree (format_of (length mid)) (nodes_of mid)) (new : List Page) (undone : IsUndone mid new items counted ended 0) where
        agreement : Agreement (image_in i.log logs floor old) i
        agreement = every_agreement (image_in i.log logs floor old) i agree (sound_is i.log logs floor old mid items counted of_logs order rising apart all tree count ended ends_at new undone)

        pub recovered : (outcome : Outcome) (top : ℕ) → IsTop floor z top → IsAtop top old outcome.base →
            outcome.winners ≡ length (ends.winners (ends.reach logs floor z) z) → outcome.undone ≡ length (ends.losers (ends.reach logs floor z) z) → IsRecovered m area old new outcome
        recovered outcome top highest atop winners losers =
            let base : IsGreatest floor z old outcome.base = base_from floor z old top outcome.base highest atop in
            record {
              sound = record { master = loaded.master; readable = loaded.scan.readable; sound = agreement.sound };
              pages = λ p l. (let c = loaded.count in recovered_is i.log logs floor old mid items counted of_logs order rising apart all tree count ended ends_at new undone p ∙ sym (agreement.recovered p (omega arith)));
              winners = winners ∙ won_is i.log logs floor old mid items counted of_logs order rising apart all ∙ ap length (sym agreement.won);
              undone = losers ∙ undone_is i.log logs floor old mid items counted of_logs order rising apart all ∙ ap length (sym agreement.lost);
              base = subst (λ (y : List Entry). IsGreatest m.floor y old outcome.base) loaded.scan.records (subst (λ (n : ℕ). IsGreatest n z old outcome.base) loaded.floor_is base);
            }
