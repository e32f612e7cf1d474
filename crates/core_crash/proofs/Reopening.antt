-- What opening gives after a crash.
use Rattle.map_model.specs.Lists.{Has}
use Rattle.page_model.specs.Nodes.{Format}
use Rattle.page_model.specs.Records as page_records
use Rattle.page_model.proofs.Needs as page_needs
use Rattle.core_paging.specs.image_model.Entries.{Kind, Entry, is_write, is_page, is_record, page_kind}
use Rattle.core_paging.specs.image_model.Redo.{is_sayable_as}
use Rattle.core_paging.specs.image_model.Images.{Image, found, sorted, recovered_page}
use Rattle.core_paging.proofs.image_model.UndoLemmas.{every_undone}
use Rattle.core_paging.specs.image_model.Laws.{UndoneLaws}
use Rattle.core_paging.specs.core_state.States.{State, start, flushed_by_all}
use Rattle.core_paging.specs.core_state.Openings.{Opening}
use Rattle.core_paging.specs.core_state.Steps.{run}
use Rattle.core_paging.proofs.core_commit.Lists.{has_before, each_at}
use Rattle.map_model.proofs.ListLemmas.{keep_has, order_has, has_right}
use Rattle.core_paging.proofs.core_commit.History.{Entered, IsHistory, page_at, nodes, history_parted, each_behind}
use Rattle.core_paging.proofs.core_commit.Invariants.{Inv}
use Rattle.core_paging.proofs.core_commit.Runs.{good_run, good_start}
use Rattle.core_crash.specs.Crashes.{from_head, image_of, EveryReopening}
use Rattle.core_crash.proofs.Redo.{sayable}
use Rattle.core_crash.proofs.Images.{gathered_has}
use Rattle.core_crash.proofs.Recovery.{every_crash}
use Rattle.std.proofs.Common.{◌≡◌, ◌≤◌, ℕ, Bool, true, false, cond, ◌&&◌, not, leb, ltb, ◌==◌, List, if◌then◌else◌, refl, sym, subst, arith, true≢false}
use Rattle.std.proofs.lemmas.Bool.{and_parts, leb-true, ltb-true, lt-ltb, cond-true}

write_page : (K : Kind) → is_write K ≡ true → is_page K ≡ true
write_page Kind.Change h = refl
write_page Kind.Put_back h = refl
write_page Kind.Split h = refl
write_page Kind.Lift h = refl
write_page Kind.Join h = refl
write_page Kind.Drop h = refl
write_page Kind.Purge h = refl
write_page Kind.Read h = absurd (true≢false (sym h))
write_page Kind.Commit h = absurd (true≢false (sym h))
write_page Kind.Abort h = absurd (true≢false (sym h))

-- what a write is set back to is a word that a leaf can have
said_before : (f : Format) (K : Kind) (r : page_records.Record) → is_write K ≡ true → is_sayable_as f (page_kind K) r ≡ true → r.before ≤ f.dead
said_before f Kind.Change r h s = leb-true r.before f.dead (and_parts (leb r.before f.dead) (leb r.after f.dead) s).0
said_before f Kind.Put_back r h s = leb-true r.before f.dead (and_parts (leb r.before f.dead) (leb r.after f.dead) s).0
said_before f Kind.Split r h s = absurd (true≢false (sym h))
said_before f Kind.Lift r h s = absurd (true≢false (sym h))
said_before f Kind.Join r h s = absurd (true≢false (sym h))
said_before f Kind.Drop r h s = absurd (true≢false (sym h))
said_before f Kind.Purge r h s = absurd (true≢false (sym h))
said_before f Kind.Read r h s = absurd (true≢false (sym h))
said_before f Kind.Commit r h s = absurd (true≢false (sym h))
said_before f Kind.Abort r h s = absurd (true≢false (sym h))

before_word : (g : Opening) (F : ℕ) (h : List Entry) → IsHistory g F h → (r : Entry) → Has r h → is_write r.kind ≡ true → r.before ≤ g.format.dead
before_word g F h hist r i w =
    let b = has_before r h i in
    let n = each_at (Entered g F) h r b.0 hist b.1 in
    let p = n.fits.page (write_page r.kind w) in
    let tree = history_parted g F b.0 (each_behind (Entered g F) h r b.0 hist b.1) in
    let s = sayable (page_kind r.kind) g.format (nodes (page_at g b.0)) r.record_of (page_needs.does (page_kind r.kind) g.format (nodes (page_at g b.0)) r.record_of tree p.fits) in
    let q = said_before g.format r.kind r.record_of w s in
    let e = (p.key w).1 in omega arith

pub every_reopening : EveryReopening
every_reopening g f es logs page c base low = record {
  opening = record g { base = base; gsn = gsn; last = λ p. (recovered_page i p).last; node = λ p. (recovered_page i p).node; low = below; tree = laws.tree };
  faithful = f;
  format = refl;
  workers = refl;
  frames = refl;
  row_of = refl;
  base_is = refl;
  node = λ p. refl;
  gsn = λ p l. cond-true (ltb p g.format.pages) (recovered_page i p).gsn 0 (lt-ltb p g.format.pages l);
  last = λ p l. refl;
  map = laws.values;
}
  where
    s : State
    s = run g (start g) es

    i : Image
    i = image_of g s logs page

    inv : Inv g s
    inv = (good_run g es (start g) (good_start g)).inv

    -- what the image has happened
    happened : (r : Entry) → Has r (sorted i) → Has r s.entries
    happened r j =
        let q = gathered_has (λ w. from_head (s.head w) (logs w)) g.workers r (order_has Rattle.core_paging.specs.image_model.Entries.earlier (found i) r j) in
        let p = keep_has (λ r. not (leb r.number (s.head q.0))) (logs q.0) r q.2 in
        let x = c.prefixes q.0 q.1.0 q.1.1 in
        (keep_has (λ r. is_record r.kind && (r.log == q.0)) s.entries r (subst (λ (l : List Entry). Has r l) x.1 (has_right r x.0 (logs q.0) p.0))).0

    laws : UndoneLaws i
    laws = every_undone i (every_crash g f es logs page c).stands.sound (λ r j l. before_word g (flushed_by_all g s) s.entries (inv.told f).history r (happened r j) (and_parts (is_write r.kind) _ l).0)

    gsn : ℕ → ℕ
    gsn p = if ltb p g.format.pages then (recovered_page i p).gsn else 0

    below : (p : ℕ) → gsn p ≤ base
    below p = go (ltb p g.format.pages) refl
      where
        go : (b : Bool) → ltb p g.format.pages ≡ b → cond b (recovered_page i p).gsn 0 ≤ base
        go true e = low p (ltb-true p g.format.pages e)
        go false e = omega arith
