-- What is given of pages: the pages as they are, and an opening of the core that opens so.
use Rattle.std.proofs.Common.{◌≡◌, ◌<◌, ◌≤◌, ◌-◌, ◌^◌, ◌==◌, ltb, ℕ, zero, suc, Bool, true, List, Some, None, slice_get, get_or, [], ◌∷◌, length, refl, sym, ap, subst, ◌∙◌, inl, inr, arith}
use Rattle.std.proofs.lemmas.Bool.{cases_lt, cases_Bool, lt-ltb, le-ltb, ltb-true}
use Rattle.core_paging.specs.image_model.Entries.{Contents}
use Rattle.page_model.specs.Pairs.{Pair}
use Rattle.page_model.specs.Nodes.{Node, free}
use Rattle.page_model.specs.Page.{Page, new_page}
use Rattle.page_model.specs.Tree.{IsTree}
use Rattle.core_paging.specs.core_state.Openings.{Opening}
use Rattle.rows_trait.specs.row_words.declared.event.Event.{Event}
use Rattle.rows_trait.specs.row_words.declared.given.Given.{Given}
use Rattle.rows_trait.specs.row_words.Moments.{Moment, format_of, pairs_of, page_in, first_state}
use Rattle.rows_trait.specs.row_words.Openings.{opening}
use Rattle.rows_trait.specs.row_words.Sealed.{begun}
use Rattle.row_opening.specs.Openings.{Opens}
use Rattle.row_opening.specs.Opened.{page_at, ArePages, entries_of, pages_of, given_of, contents_of, IsOpened}
use Rattle.row_opening.specs.Rooted.{rooted_of, IsRooted}
use Rattle.row_opening.specs.Inside.{HasPlain}
use Rattle.row_opening.proofs.Links.{plain_pairs}
use Rattle.row_opening.proofs.Loads.{node_in, place_of, at, root_alone, cold_others, begins, met}

-- ## Pages as data

pairs_back : (ps : List Pair) → pairs_of (entries_of ps) ≡ ps
pairs_back [] = refl
pairs_back (x ∷ xs) = ap (λ z. x ∷ z) (pairs_back xs)

pub page_back : (pages : List Page) (p : ℕ) → page_in (pages_of pages) p ≡ contents_of (page_at pages p)
page_back [] p = refl
page_back (x ∷ xs) zero = ap (λ ps. record { gsn = x.gsn; last = x.last_log; node = record { live = x.node.live; level = x.node.level; low = x.node.low; high = x.node.high; pairs = ps } }) (pairs_back x.node.pairs)
page_back (x ∷ xs) (suc p) = page_back xs p

pub pages_long : (pages : List Page) → length (pages_of pages) ≡ length pages
pages_long [] = refl
pages_long (x ∷ xs) = ap suc (pages_long xs)

-- behind the last page there are free ones
pub page_behind : (pages : List Page) (p : ℕ) → length pages ≤ p → page_at pages p ≡ new_page 0 free
page_behind [] p h = refl
page_behind (x ∷ xs) zero h = absurd (omega arith)
page_behind (x ∷ xs) (suc p) h = page_behind xs p (omega arith)

-- what stands in the list
pub some_at : (pages : List Page) (p : ℕ) → p < length pages → slice_get pages p ≡ Some (page_at pages p)
some_at [] p h = absurd (omega arith)
some_at (x ∷ xs) zero h = refl
some_at (x ∷ xs) (suc p) h = some_at xs p (omega arith)

-- what an index reads
pub here_at : (pages : List Page) (p : ℕ) (other : Page) → p < length pages → get_or pages p other ≡ page_at pages p
here_at [] p other h = absurd (omega arith)
here_at (x ∷ xs) zero other h = refl
here_at (x ∷ xs) (suc p) other h = here_at xs p other (omega arith)

-- behind the last page nothing does
pub none_at : (pages : List Page) (p : ℕ) → length pages ≤ p → slice_get pages p ≡ None
none_at [] p h = refl
none_at (x ∷ xs) zero h = absurd (omega arith)
none_at (x ∷ xs) (suc p) h = none_at xs p (omega arith)

module _ (pages : List Page) (workers base : ℕ) (are : ArePages pages base) where
  gsn_low : (p : ℕ) → (page_at pages p).gsn ≤ base
  gsn_low p = elim (cases_lt p (length pages)) [
    | inl l ↦ are.low p l
    | inr h ↦ let e = ap (λ x. x.gsn) (page_behind pages p h) in omega arith
  ]

  log_low : (p : ℕ) → (page_at pages p).last_log < 256
  log_low p = elim (cases_lt p (length pages)) [
    | inl l ↦ are.logs p l
    | inr h ↦ let e = ap (λ x. x.last_log) (page_behind pages p h) in omega arith
  ]

  -- a free page is of no level
  pub is_live : (p : ℕ) → 0 < (page_at pages p).node.level → (p < length pages) × ((page_at pages p).node.live ≡ true)
  is_live p some = elim (cases_lt p (length pages)) [
    | inl l ↦ (
      l,
      elim (cases_Bool (page_at pages p).node.live) [
        | inl t ↦ t
        | inr f ↦ let e = ap (λ (x : Node). x.level) ((are.tree.formed p l).other f) in absurd (omega arith)
      ],
    )
    | inr h ↦ let e = ap (λ x. x.node.level) (page_behind pages p h) in absurd (omega arith)
  ]

  pub plain_children : length pages < 2 ^ 63 → (p : ℕ) → HasPlain (page_at pages p)
  plain_children few p inner =
      let some = ltb-true 0 (page_at pages p).node.level inner in
      let l = is_live p some in
      let ok = (are.tree.formed p l.0).node l.1 in
      plain_pairs (page_at pages p).node.pairs _ (λ x h. let c = (ok.children some x h).1 in omega arith)

  pub page_room : (p : ℕ) → p < length pages → length (page_at pages p).node.pairs ≤ 60
  page_room p within = elim (cases_Bool (page_at pages p).node.live) [
    | inl t ↦ ((are.tree.formed p within).node t).sized
    | inr f ↦ let e = ap (λ (n : Node). length n.pairs) ((are.tree.formed p within).other f) in omega arith
  ]

  -- the pages as they are, and what happened before
  module _ (faithful : Bool) (frames locks : ℕ) (before : List Event) where
    abbrev given : Given
    given = record { faithful = faithful; workers = workers; frames = frames; rows = locks; base = base; pages = pages_of pages; before = before }

    nodes : (λ p. (page_at pages p).node) ≡ node_in given.pages
    nodes = λ i p. (sym (page_back pages p) i).node

    tree : IsTree (opening given).format (node_in given.pages)
    tree =
        let e : length pages ≡ suc (length given.pages - 1) = let a = pages_long pages in let b = are.tree.some in omega arith in
        let P : ℕ × (ℕ → Node) → Type 0 = λ z. IsTree (format_of z.0) z.1 in
        subst P (λ i. (e i, nodes i)) are.tree

    abbrev start : Opening
    start = record {
      faithful = faithful;
      workers = (opening given).workers;
      frames = (opening given).frames;
      row_of = (opening given).row_of;
      changes = 64;
      joined = 45;
      base = base;
      format = (opening given).format;
      gsn = λ p. (page_in given.pages p).gsn;
      last = λ p. (page_in given.pages p).last;
      node = node_in given.pages;
      some_worker = (opening given).some_worker;
      some_frame = (opening given).some_frame;
      fit = (opening given).fit;
      keys = (opening given).keys;
      values = (opening given).values;
      low = λ p. subst (λ (c : Contents). c.gsn ≤ base) (sym (page_back pages p)) (gsn_low p);
      tree = tree;
    }

    opens : Opens start given
    opens = record {
      faithful = refl;
      workers = refl;
      frames = refl;
      locks = refl;
      changes = refl;
      joined = refl;
      format = refl;
      first = refl;
      logs = λ p. let a = log_low p in let b = ap (λ (c : Contents). c.last) (page_back pages p) in omega arith;
    }

  -- ## Each page in a frame

  module _ (frames locks : ℕ) (fit : length pages ≤ frames) where
    abbrev v : Given
    v = given_of frames locks workers base pages

    many : 0 < length v.pages
    many = let a = pages_long pages in let b = are.tree.some in omega arith

    fits : length v.pages ≤ v.frames
    fits = let a = pages_long pages in omega arith

    pub began : begun v ≡ at v (λ q. ltb q (length v.pages))
    began = begins v (tree true frames locks v.before) many fits refl

    pub opened : IsOpened pages v
    opened = record {
      hot = λ p l. ap (λ m. m.core.place p) began ∙ ap (λ b. place_of b p) (lt-ltb p (length v.pages) (let a = pages_long pages in omega arith));
      cold = λ p h. ap (λ m. m.core.place p) began ∙ ap (λ b. place_of b p) (le-ltb p (length v.pages) (let a = pages_long pages in omega arith));
      page = λ p. ap (λ m. m.core.page p) began ∙ page_back pages p;
      rest = subst (λ (m : Moment). m ≡ record { core = record (first_state v) { place = m.core.place }; answer = λ _. 0 }) (sym began) refl;
      met = met v (tree true frames locks v.before) many fits refl;
      start = start true frames locks v.before;
      opens = opens true frames locks v.before;
    }

  -- ## The root alone

  module _ (faithful : Bool) (frames locks : ℕ) where
    abbrev rooted_v : Given
    rooted_v = rooted_of faithful frames locks workers base pages

    rest : begun rooted_v ≡ record { core = first_state rooted_v; answer = λ _. 0 }
    unfolding begun
    rest = refl

    pub began_rooted : begun rooted_v ≡ at rooted_v (λ q. q == 0)
    began_rooted = rest ∙ ap (λ s. record { core = s; answer = λ _. 0 }) (sym (root_alone rooted_v))

    pub rooted : IsRooted pages rooted_v
    rooted = record {
      root = ap (λ m. m.core.place 0) rest;
      cold = λ p some. ap (λ m. m.core.place p) began_rooted ∙ cold_others p some;
      page = λ p. ap (λ m. m.core.page p) rest ∙ page_back pages p;
      saved = λ p. ap (λ m. m.core.saved p) rest ∙ page_back pages p;
      queue = ap (λ m. m.core.queue) rest;
      rest = rest;
      start = start faithful frames locks [];
      opens = opens faithful frames locks [];
    }
