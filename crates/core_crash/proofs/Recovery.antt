-- The image that a crash leaves breaks no rule, and stands for the map after the kept.
use Rattle.map_model.specs.Lists.{Has, keep}
use Rattle.map_model.specs.Journals as maps
use Rattle.map_model.specs.Journals.{Txn}
use Rattle.core_paging.specs.image_model.Entries.{Entry, Contents, earlier, same_txn}
use Rattle.core_paging.specs.image_model.Redo.{redo, all_pass, passes, Redone}
use Rattle.core_paging.specs.image_model.Images.{Image, StandsFor, IsFalling, found, sorted, won_by}
use Rattle.page_model.specs.Redo.{is_some}
use Rattle.page_model.specs.Tree.{entry}
use Rattle.page_model.specs.Nodes.{Format}
use Rattle.core_paging.specs.core_state.States.{State, start, flushed_by_all}
use Rattle.core_paging.specs.core_state.Openings.{first, first_map}
use Rattle.core_paging.specs.core_state.Steps.{run}
use Rattle.core_paging.proofs.core_commit.Lists.{has_before, before_has}
use Rattle.map_model.proofs.ListLemmas.{keep_has, has_keep, order_has}
use Rattle.core_paging.proofs.core_commit.History.{SameTxn, same_from}
use Rattle.core_paging.proofs.core_commit.KindFacts.{write_claims, claims_call, call_is_no_end}
use Rattle.core_paging.proofs.core_commit.Invariants.{Inv}
use Rattle.core_paging.proofs.core_commit.Runs.{good_run, good_start}
use Rattle.core_crash.specs.Crashes.{Follows, from_head, image_of, journal_in, kept_in, IsRipe, EveryCrash, EveryStored, EverySerial}
use Rattle.core_paging.proofs.Laws.{every_saved}
use Rattle.core_crash.proofs.Words as words
use Rattle.core_crash.proofs.Words.{Done, Stands, tested, journal, kept, committed, done_earlier, after}
use Rattle.core_crash.proofs.Ends.{behind_end, one_end}
use Rattle.core_crash.proofs.Journal.{stood, commit_is_end}
use Rattle.core_crash.proofs.Images as by_log
use Rattle.core_crash.proofs.Images.{Numbers, log_numbers, numbers_behind}
use Rattle.core_crash.proofs.Serial as serial
use Rattle.core_crash.proofs.Transactions.{txns, journal_as, kept_as, txns_has, has_txns, after_as, first_as, used_in, wrote_in, serial_as}
use Rattle.std.proofs.Common.{◌≡◌, ◌≤◌, ◌<◌, ℕ, Bool, true, false, cond, ◌&&◌, not, leb, List, [], ◌∷◌, Option, Some, None, refl, sym, ap, ap₂, ◌∙◌, subst}

-- each record passes, at its turn
all_pass_is : (f : Format) (page : ℕ → Contents) (z : List Entry) → all_pass f page z ≡ (tested f page z).sound
all_pass_is f page [] = refl
all_pass_is f page (r ∷ z) = ap₂ (λ (a b : Bool). a && b) (all_pass_is f page z) (ap (λ (d : Redone). passes f d.page r) (sym (done f page z)))
  where
    done : (f : Format) (page : ℕ → Contents) (z : List Entry) → (tested f page z).done ≡ redo page z
    done f page [] = refl
    done f page (r ∷ z) = ap (λ (d : Redone). Rattle.core_paging.specs.image_model.Redo.redo_one d r) (done f page z)

falling : (l : List Entry) → Numbers l → IsFalling l
falling [] n = tt
falling (r ∷ l) n = (falling l n.1, λ x i. n.0 x i)

falling_keep : (p : Entry → Bool) (l : List Entry) → IsFalling l → IsFalling (keep p l)
falling_keep p [] n = tt
falling_keep p (r ∷ l) n = go (falling_keep p l n.0) (p r)
  where
    go : IsFalling (keep p l) → (b : Bool) → IsFalling (cond b (r ∷ keep p l) (keep p l))
    go ih true = (ih, λ x i. n.1 x (keep_has p l x i).0)
    go ih false = ih

some_of : (o : Option ℕ) → (o ≡ None → ⊥) → is_some o ≡ true
some_of None n = absurd (n refl)
some_of (Some w) n = refl

pub every_crash : EveryCrash
every_crash g f es logs page c = record { stands = stands; closed = closed; followed = followed; ripe = ripe }
  where
    s : State
    s = run g (start g) es

    i : Image
    i = image_of g s logs page

    inv : Inv g s
    inv = (good_run g es (start g) (good_start g)).inv

    main : Stands g s.entries s.floor (found i) page × ((t : Done) → Has t (journal s.entries) → words.IsRipe g s t → Has t (kept g s.floor (found i) (journal s.entries)))
    main = by_log.every_image g f es logs page c

    keeps : kept_in g s i ≡ txns g.format (kept g s.floor (found i) (journal s.entries))
    keeps = ap (Rattle.core_paging.specs.image_model.Ends.kept g.workers s.floor (found i)) (journal_as g.format s.entries) ∙ kept_as g s.floor (found i) (journal s.entries)

    rising : (w : ℕ) → 0 < w → w ≤ g.workers → IsFalling (from_head (s.head w) (logs w))
    rising w a b = falling_keep (λ r. not (leb r.number (s.head w))) (logs w) (falling (logs w) (numbers_behind (c.prefixes w a b).0 (logs w) (subst Numbers (sym (c.prefixes w a b).1) (log_numbers g (flushed_by_all g s) w s.entries inv.records))))

    stands : StandsFor i (maps.after (first_map g) (kept_in g s i)) (won_by i)
    stands = record {
      sound = record {
        whole = λ p l. refl;
        rising = rising;
        done = all_pass_is g.format page (sorted i) ∙ main.0.sound;
        tree = main.0.tree;
        entries = λ r j l. some_of (entry g.format.pages (λ p. ((redo page (sorted i)).page p).node) r.key) (main.0.entries r (order_has earlier (found i) r j) l);
      };
      map = λ k. ap (λ (l : List Txn). maps.after (first_map g) l k) keeps ∙ (sym (after_as g.format (first g) (first_map g) (kept g s.floor (found i) (journal s.entries)) (first_as g) k) ∙ ap (λ (w : ℕ). Rattle.core_paging.specs.image_model.Histories.said g.format w) (sym (main.0.map k)));
      won = refl;
    }

    closed : maps.IsClosed (journal_in g s) (kept_in g s i)
    closed t u it d = subst (λ (l : List Txn). Has u l) (sym keeps) (
        let kt = txns_has g.format (kept g s.floor (found i) (journal s.entries)) t (subst (λ (l : List Txn). Has t l) keeps it) in
        let ku = txns_has g.format (journal s.entries) u (subst (λ (l : List Txn). Has u l) (journal_as g.format s.entries) d.in_journal) in
        subst (λ (x : Txn). Has x (txns g.format (kept g s.floor (found i) (journal s.entries)))) (sym ku.2)
        (has_txns g.format (kept g s.floor (found i) (journal s.entries)) ku.0 (main.0.closed kt.0 ku.0 kt.1 (record {
          key = d.key;
          used = used_in g.format d.key kt.0.calls d.used.step (subst (λ (x : Txn). Has d.used.step x.calls) kt.2 d.used.has) d.used.uses;
          wrote = (let w = wrote_in g.format d.key ku.0.calls d.wrote.step (subst (λ (x : Txn). Has d.wrote.step x.calls) ku.2 d.wrote.has) d.wrote.writes in (w.0, w.1, write_claims w.0 w.2, w.3));
          in_journal = ku.1;
          before = ap₂ (λ (x y : Txn). maps.is_earlier x y) (sym ku.2) (sym kt.2) ∙ d.before;
        }))))

    followed : (t u : Txn) → Has t (kept_in g s i) → Follows g s t u → Has u (kept_in g s i)
    followed t u it d = subst (λ (l : List Txn). Has u l) (sym keeps) (
        let kt = txns_has g.format (kept g s.floor (found i) (journal s.entries)) t (subst (λ (l : List Txn). Has t l) keeps it) in
        let ku = txns_has g.format (journal s.entries) u (subst (λ (l : List Txn). Has u l) (journal_as g.format s.entries) d.in_journal) in
        let su = stood ku.0 s.entries (order_has done_earlier (committed s.entries) ku.0 ku.1) in
        let same : SameTxn ku.0.end d.claim = (sym (d.session ∙ ap (λ (x : Txn). x.session) ku.2), sym (d.number ∙ ap (λ (x : Txn). x.number) ku.2)) in
        let pc = has_before d.claim s.entries d.has in
        let behind = behind_end g (flushed_by_all g s) s.entries inv.records ku.0.end su.behind su.place (commit_is_end ku.0.end.kind su.commit) d.claim pc.0 pc.1 (call_is_no_end d.claim.kind (claims_call d.claim d.claims)) same in
        let mine = has_keep (λ r. same_txn r ku.0.end) su.behind d.claim (before_has d.claim pc.0 su.behind behind) (same_from d.claim ku.0.end (sym same.0, sym same.1)) in
        subst (λ (x : Txn). Has x (txns g.format (kept g s.floor (found i) (journal s.entries)))) (sym ku.2)
        (has_txns g.format (kept g s.floor (found i) (journal s.entries)) ku.0 (main.0.closed kt.0 ku.0 kt.1 (record {
          key = d.key;
          used = used_in g.format d.key kt.0.calls d.used.step (subst (λ (x : Txn). Has d.used.step x.calls) kt.2 d.used.has) d.used.uses;
          wrote = (d.claim, subst (λ (l : List Entry). Has d.claim l) (sym su.calls) mine, d.claims, d.of_key);
          in_journal = ku.1;
          before = ap₂ (λ (x y : Txn). maps.is_earlier x y) (sym ku.2) (sym kt.2) ∙ d.before;
        }))))

    ripe : (t : Txn) → Has t (journal_in g s) → IsRipe g s t → Has t (kept_in g s i)
    ripe t it r =
        let kt = txns_has g.format (journal s.entries) t (subst (λ (l : List Txn). Has t l) (journal_as g.format s.entries) it) in
        let st = stood kt.0 s.entries (order_has done_earlier (committed s.entries) kt.0 kt.1) in
        let same : SameTxn r.end kt.0.end = (r.session ∙ ap (λ (x : Txn). x.session) kt.2, r.number ∙ ap (λ (x : Txn). x.number) kt.2) in
        let e = one_end g (flushed_by_all g s) s.entries inv.records r.end kt.0.end r.has (before_has kt.0.end st.behind s.entries st.place) (commit_is_end r.end.kind r.commit) (commit_is_end kt.0.end.kind st.commit) same in
        subst (λ (l : List Txn). Has t l) (sym keeps) (subst (λ (x : Txn). Has x (txns g.format (kept g s.floor (found i) (journal s.entries)))) (sym kt.2)
        (has_txns g.format (kept g s.floor (found i) (journal s.entries)) kt.0 (main.1 kt.0 kt.1 (
          subst (λ (x : Entry). x.number ≤ s.flushed x.log) e r.flushed,
          subst (λ (x : Entry). x.need ≤ flushed_by_all g s) e r.need,
        ))))

pub every_serial : EverySerial
every_serial g f es = subst (maps.Serial (first_map g)) (sym (journal_as g.format (run g (start g) es).entries)) (serial_as g.format (first g) (first_map g) (journal (run g (start g) es).entries) (first_as g) (serial.every_serial g f es))

pub every_stored : EveryStored
every_stored g f es logs a b = every_crash g f es logs (run g (start g) es).saved (let w = every_saved g es in record { prefixes = a; flushed = b; pages = w.pages; numbers = w.numbers; changes = w.changes })
