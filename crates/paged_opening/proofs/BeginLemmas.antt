-- Rows of which the root alone is in a frame are those that a new pager begins with.
use Rattle.std.proofs.Common.{◌≡◌, ◌<◌, ◌≤◌, ◌-◌, ℕ, zero, suc, Bool, ltb, List, [], ◌∷◌, length, map, not, refl, sym, ap, ◌∙◌, subst, arith}
use Rattle.page_model.specs.Page.{Page}
use Rattle.session_state.specs.row_words.Openings.{opening}
use Rattle.session_state.specs.row_words.declared.given.Given.{Given}
use Rattle.session_state.specs.rows_trait.Plain.{sizes}
use Rattle.session_state.specs.rows_trait.Rule.{IsPicture, plan}
use Rattle.session_state.specs.rows_trait.Views.{first_plain}
use Rattle.session_state.specs.rows_trait.declared.view.View.{View}
use Rattle.session_state.specs.btree_descent.Known.{IsSound}
use Rattle.session_state.specs.row_opening.Opened.{ArePages, pages_of}
use Rattle.session_state.specs.row_opening.Openings.{EveryOpened}
use Rattle.session_state.specs.row_opening.Rooted.{IsRooted, rooted_of}
use Rattle.page_calls.specs.Slots.{opened_slot}
use Rattle.page_calls.specs.declared.slots.Slot.{Slot}
use Rattle.page_model.specs.Tree.{IsTree}
use Rattle.session_state.specs.core_state.States.{is_cold}
use Rattle.session_state.specs.row_words.Moments.{format_of}
use Rattle.session_state.specs.row_words.Sealed.{begun}
use Rattle.session_state.specs.row_opening.Opened.{page_at}
use Rattle.std.proofs.lemmas.Bool.{and_from, lt-ltb}
use Rattle.cold_pages.specs.declared.kept.Kept.{Kept}
use Rattle.cold_pages.specs.Laws.{EveryKept, EveryNew, contents}
use Rattle.page_provider.specs.Fresh.{Begins, EveryFresh, fresh}
use Rattle.page_provider.specs.Providers.{IsKept, Keeps, Provider}
use Rattle.recovery.specs.Opened.{IsWhole}
use Rattle.recovery.specs.declared.opening.Recovered.{Recovered}
use Rattle.paged_opening.specs.Opened.{IsPaged, cold_of, free_of, frees_of, lone_shape}
use Rattle.paged_opening.specs.declared.opening.Opened as code
use Rattle.paged_opening.proofs.ColdLemmas.{but_same, cold_right, is_below}
use Rattle.paged_opening.proofs.FreeLemmas.{marked, of_length}

pub pages_long : (pages : List Page) → length (pages_of pages) ≡ length pages
pages_long [] = refl
pages_long (x ∷ xs) = ap suc (pages_long xs)

module _ (every : EveryOpened) (new : EveryFresh) (keeps : EveryKept) (empty : EveryNew) (pages : List Page) (faithful : Bool) (frames locks workers base : ℕ) (are : ArePages pages base) (few : length pages ≤ 65536) (some_frame : 1 ≤ frames) (some_worker : 1 ≤ workers) (few_workers : workers ≤ 16) where
  abbrev v : Given
  v = rooted_of faithful frames locks workers base pages

  module _ (o : IsRooted pages v) where
    long : suc (length (pages_of pages) - 1) ≡ length pages
    long = let a = pages_long pages in let b = are.tree.some in omega arith

    workers_is : (opening v).workers ≡ workers
    workers_is = let e : suc (workers - 1) ≡ workers = omega arith in e

    sound : IsSound v
    sound es = let at = every o.start v o.opens es in record {
      tree = at.tree;
      residence = at.places;
      logs = at.logs (let e = workers_is in omega arith);
      few = let l = long in omega arith;
      undo = at.undo;
    }

    format_is : (opening v).format ≡ format_of (length pages)
    format_is = ap format_of long

    tree_is : IsTree (opening v).format (λ p. (page_at pages p).node)
    tree_is = subst (λ f. IsTree f (λ p. (page_at pages p).node)) (sym format_is) are.tree

    -- what is kept of the pages is right of where they are
    cold_is : (q : ℕ) → q < (opening v).format.pages → is_cold ((begun v).core.place q) ≡ is_below (length pages) q
    cold_is zero l = ap is_cold o.root
    cold_is (suc q) l = ap is_cold (o.cold (suc q) (omega arith)) ∙ sym (and_from (ltb 0 (suc q)) (ltb (suc q) (length pages)) (lt-ltb 0 (suc q) (omega arith)) (lt-ltb (suc q) (length pages) (let e = long in omega arith)))

    table : IsKept (opening v) (begun v).core (cold_of pages)
    table =
        (keeps (opening v).format (λ p. contents (page_at pages p)) (is_below (length pages)) (cold_of pages) tree_is
        (cold_right keeps empty (opening v).format pages tree_is long (length pages) (omega arith))).stays
        (begun v).core.page (λ p. is_cold ((begun v).core.place p)) cold_is (λ p l c. but_same (o.page p))

    begins : Begins (lone_shape frames locks workers) (first_plain v) frames workers (free_of pages) (cold_of pages)
    begins = record {
      actor = refl;
      sound = sound;
      waiting = λ es. (every o.start v o.opens es).waiting;
      sized = record { some = some_frame; shape = refl; given = omega arith };
      some = some_worker;
      workers_are = (refl, workers_is);
      pages = of_length pages ∙ sym long;
      cold = o.cold;
      queue = o.queue;
      table = table;
      marks = λ p lt. marked pages p (let l = long in omega arith) ∙ ap (λ c. not c.node.live) (sym (o.page p));
      epoch = let e = ap (λ m. m.core.epoch) o.rest in omega arith;
    }

    -- as the rows, the seat and the pager are
    pub keeps_at : (f l w generation : ℕ) (u : View) (slots : List Slot) → f ≡ frames → l ≡ locks → w ≡ workers → u ≡ first_plain v → Keeps (lone_shape f l w) u (fresh frames workers generation (free_of pages) slots (cold_of pages))
    keeps_at f l w generation u slots p q r e =
        let made = new (lone_shape frames locks workers) (first_plain v) frames workers generation (free_of pages) slots (cold_of pages) begins in
        let k = fresh frames workers generation (free_of pages) slots (cold_of pages) in
        subst (λ (t : View). Keeps (lone_shape f l w) t k) (sym e)
        (subst (λ (n : ℕ). Keeps (lone_shape n l w) (first_plain v) k) (sym p)
        (subst (λ (n : ℕ). Keeps (lone_shape frames n w) (first_plain v) k) (sym q)
        (subst (λ (n : ℕ). Keeps (lone_shape frames locks n) (first_plain v) k) (sym r) made)))

-- ## What recovery gave, and what is made of it

module _ (every : EveryOpened) (new : EveryFresh) (keeps : EveryKept) (empty : EveryNew) (faithful : Bool) (frames locks : ℕ) (r : Recovered) (whole : IsWhole r) (are : ArePages r.pages.items r.master.floor) (some_frame : 1 ≤ frames) (o : code.Opened) where
  abbrev workers : ℕ
  workers = length r.master.heads

  abbrev given : Given
  given = rooted_of faithful frames locks workers r.master.floor r.pages.items

  abbrev pager : Provider
  pager = fresh frames workers r.master.generation (free_of r.pages.items) (map opened_slot r.slots.items) (cold_of r.pages.items)

  paged_by : (o.rows.frames ≡ frames) × (o.rows.locks ≡ locks) × (o.rows.workers ≡ workers)
      → IsPicture (plan (sizes o.rows.frames o.rows.locks o.rows.workers) o.seat.view.given) o.rows.words.items o.seat.view
      → o.seat.view ≡ first_plain given → IsRooted r.pages.items given → o.pager ≡ pager → o.free ≡ frees_of r.pages.items
      → o.master ≡ r.master → o.winners ≡ r.winners → o.undone ≡ r.undone → IsPaged faithful frames locks r o
  paged_by size fits view rooted made free master won lost =
      let m = whole.master.1 in
      let at = keeps_at every new keeps empty r.pages.items faithful frames locks workers r.master.floor are (let c = whole.count in let l = m.pages.1 in omega arith) some_frame m.logs.0 m.logs.1 rooted
      o.rows.frames o.rows.locks o.rows.workers r.master.generation o.seat.view (map opened_slot r.slots.items) size.0 size.1 size.2 view in
      record {
        frames_are = size.0;
        locks_are = size.1;
        workers_are = size.2;
        fits = fits;
        view = view;
        rooted = rooted;
        pager = made;
        keeps = subst (λ (k : Provider). Keeps (lone_shape o.rows.frames o.rows.locks o.rows.workers) o.seat.view k) (sym made) at;
        works = ap (λ (k : Provider). k.broken) made;
        free = free;
        master = master;
        won = won;
        lost = lost;
      }

  -- as the calls name it: workers, pages and slots by equal names
  pub paged : (n : ℕ) (ps qs : List Page) (ns : List ℕ) (free : List Bool) (slots : List Slot) (xs : List Page) (kept : List Kept) (ys : List Page) → n ≡ workers → ps ≡ r.pages.items → qs ≡ r.pages.items → ns ≡ r.slots.items → xs ≡ r.pages.items → ys ≡ r.pages.items
      → free ≡ free_of qs → slots ≡ map opened_slot ns → kept ≡ cold_of xs
      → (o.rows.frames ≡ frames) × (o.rows.locks ≡ locks) × (o.rows.workers ≡ n)
      → IsPicture (plan (sizes o.rows.frames o.rows.locks o.rows.workers) o.seat.view.given) o.rows.words.items o.seat.view
      → o.seat.view ≡ first_plain (rooted_of faithful frames locks n r.master.floor ps) → IsRooted ps (rooted_of faithful frames locks n r.master.floor ps)
      → o.pager ≡ fresh frames n r.master.generation free slots kept → o.free ≡ frees_of ys
      → o.master ≡ r.master → o.winners ≡ r.winners → o.undone ≡ r.undone → IsPaged faithful frames locks r o
  paged n ps qs ns free slots xs kept ys e p q s x y f t d size fits view rooted made spare =
      let table : kept ≡ cold_of r.pages.items = d ∙ ap cold_of x in
      let marks : free ≡ free_of r.pages.items = f ∙ ap free_of q in
      let known : slots ≡ map opened_slot r.slots.items = t ∙ ap (map opened_slot) s in
      paged_by (size.0, size.1, size.2 ∙ e) fits
      (view ∙ (λ i. first_plain (rooted_of faithful frames locks (e i) r.master.floor (p i))))
      (subst (λ (k : ℕ). IsRooted r.pages.items (rooted_of faithful frames locks k r.master.floor r.pages.items)) e
      (subst (λ (xs : List Page). IsRooted xs (rooted_of faithful frames locks n r.master.floor xs)) p rooted))
      (made ∙ (λ i. fresh frames (e i) r.master.generation (marks i) (known i) (table i)))
      (spare ∙ ap frees_of y)
