-- The words of the rows are those of the moment at which they begin.
use Rattle.std.proofs.Common.{◌≡◌, ◌<◌, ◌≤◌, ◌+◌, ◌*◌, ◌-◌, ◌^◌, ◌==◌, not, ltb, ℕ, zero, suc, Bool, true, false, cond, List, [], ◌∷◌, ◌++◌, take, drop, Option, Some, None, slice_get, length, get_or, replicate, refl, sym, ap, subst, ◌∙◌, inl, inr, true≢false, arith}
use Rattle.std.specs.Prelude.{slice_index}
use Rattle.std.proofs.lemmas.Bool.{cases_lt, cases_Bool, lt-ltb, le-ltb, ltb-true, ltb-false, eq-eqb, eqb-true, and_parts, and_from, and_right, cond-true, cond-false}
use Rattle.std.proofs.lemmas.List.{take_at, get_or_append_left, get_or-append_right, get_or-replicate, get_or_past, length-replicate}
use Rattle.page_model.specs.Nodes.{Node}
use Rattle.page_model.specs.Pairs.{Pair, Has}
use Rattle.page_model.specs.Page.{Page, with_pairs}
use Rattle.rows_trait.specs.btree_node.Words.{words_of}
use Rattle.core_paging.specs.core_state.States.{Place, State, is_cooling, in_frame}
use Rattle.rows_trait.specs.row_words.declared.given.Given.{Given}
use Rattle.rows_trait.specs.row_words.Moments.{Moment, page_in}
use Rattle.rows_trait.specs.row_words.Openings.{opening}
use Rattle.rows_trait.specs.row_words.Words.{swip, swips, is_inner, framed, framed_page, ShowsPage, ShowsFrame, mask, Shows, control_words}
use Rattle.rows_trait.specs.row_words.Sealed.{begun, Shown, heard}
use Rattle.rows_trait.proofs.row_words.Stays.{below_false}
use Rattle.rows_trait.specs.Layout.{Sizes, width, base, row_at, count_of, control_at, size_of, cell}
use Rattle.rows_trait.specs.Plain.{sizes, IsOpening}
use Rattle.row_opening.specs.Opened.{page_at, ArePages, pages_of, given_of, contents_of}
use Rattle.row_opening.specs.Rooted.{rooted_of}
use Rattle.row_opening.specs.Inside.{linked, linked_page, page_row, empty_row, frame_row, root_row, worker_row, AreTiled}
use Rattle.row_opening.proofs.Links.{words_long, leaf_page, inner_page, same_count}
use Rattle.row_opening.proofs.Loads.{place_of, stands, at, framed_place, cold_others}
use Rattle.row_opening.proofs.Openings.{page_back, pages_long, some_at, none_at, is_live, page_room, began, began_rooted}

-- ## A page with frames for children

swips_linked : (place : ℕ → Place) (ps : List Pair) → ((x : Pair) → Has x ps → place x.word ≡ Place.Hot x.word) → swips place ps ≡ linked ps
swips_linked place [] h = refl
swips_linked place (x ∷ xs) h = let rest = swips_linked place xs (λ y i. h y (inr i)) in λ i. record { key = x.key; word = swip (h x (inl refl) i) x.word } ∷ rest i

framed_linked : (place : ℕ → Place) (p : Page) → (0 < p.node.level → p.node.live ≡ true) → (0 < p.node.level → (x : Pair) → Has x p.node.pairs → place x.word ≡ Place.Hot x.word) → framed place p.node ≡ (linked_page p).node
framed_linked place p live h = elim (cases_Bool (ltb 0 p.node.level)) [
  | inl t ↦
      cond-true (is_inner p.node) (record p.node { pairs = swips place p.node.pairs }) p.node (and_from p.node.live (ltb 0 p.node.level) (live (ltb-true 0 p.node.level t)) t)
      ∙ (ap (λ (ps : List Pair). record p.node { pairs = ps }) (swips_linked place p.node.pairs (h (ltb-true 0 p.node.level t))) ∙ sym (ap (λ (q : Page). q.node) (inner_page p t)))
  | inr f ↦
      cond-false (is_inner p.node) (record p.node { pairs = swips place p.node.pairs }) p.node (and_right p.node.live (ltb 0 p.node.level) f) ∙ sym (ap (λ (q : Page). q.node) (leaf_page p f))
]

-- only the node changes
linked_same : (p : Page) → linked_page p ≡ record p { node = (linked_page p).node }
linked_same p = go (ltb 0 p.node.level)
  where
    go : (b : Bool) → cond b (with_pairs p (linked p.node.pairs)) p ≡ record p { node = (cond b (with_pairs p (linked p.node.pairs)) p).node }
    go true = refl
    go false = refl

-- ## A page of which no child is in a frame

swips_cold : (place : ℕ → Place) (ps : List Pair) → ((x : Pair) → Has x ps → place x.word ≡ Place.Cold) → swips place ps ≡ ps
swips_cold place [] h = refl
swips_cold place (x ∷ xs) h = let rest = swips_cold place xs (λ y i. h y (inr i)) in λ i. record { key = x.key; word = swip (h x (inl refl) i) x.word } ∷ rest i

framed_cold : (place : ℕ → Place) (n : Node) → (is_inner n ≡ true → (x : Pair) → Has x n.pairs → place x.word ≡ Place.Cold) → framed place n ≡ n
framed_cold place n h = elim (cases_Bool (is_inner n)) [
  | inl t ↦ cond-true (is_inner n) (record n { pairs = swips place n.pairs }) n t ∙ ap (λ (ps : List Pair). record n { pairs = ps }) (swips_cold place n.pairs (h t))
  | inr f ↦ cond-false (is_inner n) (record n { pairs = swips place n.pairs }) n f
]

-- ## The words of a frame row

module _ (p : Page) (room : length p.node.pairs ≤ 60) where
  abbrev tail : List ℕ
  tail = 2 ^ 63 ∷ p.gsn ∷ []

  long : length (words_of p) ≡ 126
  long = words_long p room

  page_word : (i : ℕ) → i < 126 → get_or (page_row p) (i + 1) 0 ≡ get_or (words_of p) i 0
  page_word i l =
      let e : i + 1 ≡ suc i = omega arith in
      ap (λ j. get_or (page_row p) j 0) e ∙ get_or_append_left (words_of p) tail 0 i (let a = long in omega arith)

  hint_word : get_or (page_row p) 127 0 ≡ 2 ^ 63
  hint_word = get_or-append_right (words_of p) tail 126 126 0 long (omega arith)

  saved_word : get_or (page_row p) 128 0 ≡ p.gsn
  saved_word = get_or-append_right (words_of p) tail 126 127 0 long (omega arith)

mark_word : get_or empty_row 127 0 ≡ 2 ^ 63 + 1
mark_word = refl

-- ## Rows show

no_readers : (n : ℕ) → mask n [] ≡ 0
no_readers zero = refl
no_readers (suc n) = no_readers n

free_lock : (n i : ℕ) → get_or (mask n [] ∷ 0 ∷ 0 ∷ 0 ∷ 0 ∷ []) i 0 ≡ 0
free_lock n zero = no_readers n
free_lock n (suc zero) = refl
free_lock n (suc (suc zero)) = refl
free_lock n (suc (suc (suc zero))) = refl
free_lock n (suc (suc (suc (suc zero)))) = refl
free_lock n (suc (suc (suc (suc (suc i))))) = refl

not_cooling : (b : Bool) (p : ℕ) → is_cooling (place_of b p) ≡ true → ⊥
not_cooling true p h = true≢false (sym h)
not_cooling false p h = true≢false (sym h)

module _ (v : Given) (hot : ℕ → Bool) where
  abbrev s : State
  s = stands v hot

  -- a page in a frame
  shows_page : (p generation : ℕ) (page : Page) → length page.node.pairs ≤ 60 → framed_page s p generation ≡ page → (i x : ℕ) → x ≡ get_or (page_row page) (i + 1) 0 → ShowsPage s p i x
  shows_page p generation page room same i x is = record {
    page = λ l. (generation, is ∙ (page_word page room i l ∙ ap (λ q. get_or (words_of q) i 0) (sym same)));
    marked = λ e c. absurd (not_cooling (hot p) p c);
    hint = λ e c m. let a : x ≡ 2 ^ 63 = is ∙ (ap (λ j. get_or (page_row page) (j + 1) 0) e ∙ hint_word page room) in absurd (omega arith);
    saved = λ e. is ∙ (ap (λ j. get_or (page_row page) (j + 1) 0) e ∙ (saved_word page room ∙ sym (ap (λ (q : Page). q.gsn) same)));
  }

  -- the rows begin with these pages hot, each in the frame of its own number, and these are the words of the frames
  pub record AreFramed (piece : ℕ → List ℕ) : Type 0 where
    begins : begun v ≡ at v hot
    frames : 1 ≤ v.frames
    workers : 1 ≤ v.workers
    within : (p : ℕ) → hot p ≡ true → p < length v.pages
    latch : (f : ℕ) → get_or (piece f) 0 0 ≡ 0
    page : (p : ℕ) → hot p ≡ true → (i x : ℕ) → x ≡ get_or (piece p) (i + 1) 0 → ShowsPage s p i x
    empty : (f : ℕ) → hot f ≡ false → get_or (piece f) 127 0 ≡ 2 ^ 63 + 1

  module _ (piece : ℕ → List ℕ) (are : AreFramed piece) where
    shows_frame : (f i x : ℕ) → x ≡ get_or (piece f) (i + 1) 0 → ShowsFrame (opening v) s f i x
    shows_frame f i x is = record {
      page = λ p lt h.
          let a = and_parts (hot p) (p == f) (sym (framed_place (hot p) p f) ∙ h) in
          are.page p a.0 i x (is ∙ ap (λ g. get_or (piece g) (i + 1) 0) (sym (eqb-true p f a.1)));
      empty = λ e none. elim (cases_Bool (hot f)) [
        | inl t ↦
            let l = are.within f t in
            let off = below_false (opening v).format.pages (λ p. not (in_frame (place_of (hot p) p) f)) none f (omega arith) in
            absurd (true≢false (sym off ∙ ap not (framed_place (hot f) f f ∙ and_from (hot f) (f == f) t (eq-eqb f f refl))))
        | inr off ↦ is ∙ (ap (λ j. get_or (piece f) (j + 1) 0) e ∙ are.empty f off)
      ];
    }

    shown : (row i x : ℕ) → Shows (opening v) s row i x → Shown v (begun v) row i x
    unfolding Shown
    shown row i x h = subst (λ (m : Moment). Shows (opening v) m.core row i x) (sym are.begins) h

    hears : (c i x : ℕ) → x ≡ slice_index (control_words (at v hot) c) i → x ≡ heard (begun v) c i
    unfolding heard
    hears c i x h = h ∙ ap (λ m. slice_index (control_words m c) i) (sym are.begins)

    -- ## All words

    abbrev z : Sizes
    z = sizes v.frames v.rows v.workers

    module _ (old middle words : List ℕ) (zeros : old ≡ replicate (size_of z) 0) (rows : AreTiled piece (2 + 4 * v.workers) 129 v.frames old middle) (ends : AreTiled (λ _. worker_row v.base) 2 4 v.workers middle words) where
      zero_at : (j : ℕ) → get_or old j 0 ≡ 0
      zero_at j = ap (λ ws. get_or ws j 0) zeros ∙ elim (cases_lt j (size_of z)) [
        | inl l ↦ get_or-replicate (size_of z) j 0 0 l
        | inr h ↦ get_or_past (replicate (size_of z) 0) j 0 (let a = length-replicate {A = ℕ} (size_of z) 0 in omega arith)
      ]

      frame_word : (row i : ℕ) → row < v.frames → i < 129 → cell z words row i ≡ get_or (piece row) i 0
      frame_word row i lt l =
          let at : row_at z row i ≡ 2 + 4 * v.workers + 129 * row + i = cond-true (ltb row v.frames) (base z + row * 129 + i) (base z + v.frames * 129 + (row - v.frames) * 6 + i) (lt-ltb row v.frames lt) ∙ omega arith in
          ap (λ j. get_or words j 0) at ∙ (ends.others (2 + 4 * v.workers + 129 * row + i) (inr (omega arith)) ∙ rows.tiles row i lt l)

      lock_word : (row i : ℕ) → v.frames ≤ row → cell z words row i ≡ 0
      lock_word row i le =
          let at : row_at z row i ≡ base z + v.frames * 129 + (row - v.frames) * 6 + i = cond-false (ltb row v.frames) (base z + row * 129 + i) (base z + v.frames * 129 + (row - v.frames) * 6 + i) (le-ltb row v.frames le) in
          ap (λ j. get_or words j 0) at
          ∙ (ends.others (base z + v.frames * 129 + (row - v.frames) * 6 + i) (inr (omega arith))
          ∙ (rows.others (base z + v.frames * 129 + (row - v.frames) * 6 + i) (inr (omega arith)) ∙ zero_at (base z + v.frames * 129 + (row - v.frames) * 6 + i)))

      latches : (row : ℕ) → cell z words row 0 ≡ 0
      latches row = elim (cases_lt row v.frames) [
        | inl lt ↦ frame_word row 0 lt (omega arith) ∙ are.latch row
        | inr le ↦ lock_word row 0 le
      ]

      shows : (row i : ℕ) → i < width z row → Shows (opening v) s row i (cell z words row (i + 1))
      shows row i l = record {
        frame = λ t. let a = ltb-true row (opening v).frames t in let b = are.frames in let lt : row < v.frames = omega arith in
            let wide : width z row ≡ 128 = cond-true (ltb row v.frames) 128 5 (lt-ltb row v.frames lt) in
            shows_frame row i (cell z words row (i + 1)) (frame_word row (i + 1) lt (omega arith));
        lock = λ t. let a = ltb-false row (opening v).frames t in let b = are.frames in lock_word row (i + 1) (omega arith) ∙ sym (free_lock (opening v).workers i);
      }

      controls : (c i : ℕ) → c ≤ v.workers → i < count_of c → get_or words (control_at c i) 0 ≡ slice_index (control_words (at v hot) c) i
      controls zero i le l = ends.others i (inl l) ∙ (rows.others i (inl (omega arith)) ∙ (zero_at i ∙ sym (two_zeros i)))
        where
          two_zeros : (i : ℕ) → get_or {A = ℕ} (0 ∷ 0 ∷ []) i 0 ≡ 0
          two_zeros zero = refl
          two_zeros (suc zero) = refl
          two_zeros (suc (suc i)) = refl
      controls (suc w) i le l = ends.tiles w i (omega arith) l

      opens : IsOpening z v words
      opens = record {
        size = ends.long ∙ (rows.long ∙ (ap length zeros ∙ length-replicate (size_of z) 0));
        latch = λ row lt. latches row;
        rows = λ row lt i l. shown row i (cell z words row (i + 1)) (shows row i l);
        controls = λ c i le l. hears c i (get_or words (control_at c i) 0) (controls c i le l);
      }

    -- The same of rows of these sizes. The words of a vector were lent twice and came back.
    pub all_words : (of : (frames locks workers : ℕ) → Given) → of v.frames v.rows v.workers ≡ v → (frames locks workers : ℕ) → frames ≡ v.frames → locks ≡ v.rows → workers ≡ v.workers →
        (items : List ℕ) (len : ℕ) (old first middle then : List ℕ) → old ≡ replicate (size_of z) 0 → length old ≡ len → middle ≡ take len (first ++ drop (length first) items) →
        AreTiled piece (2 + 4 * v.workers) 129 v.frames old first → AreTiled (λ _. worker_row v.base) 2 4 v.workers middle then →
        IsOpening (sizes frames locks workers) (of frames locks workers) (take len (then ++ drop (length then) (take len (first ++ drop (length first) items))))
    all_words of same frames locks workers same_frames same_locks same_workers items len old first middle then zeros long lent rows ends =
        let first_long : length first ≡ len = rows.long ∙ long in
        let middle_is : middle ≡ first = lent ∙ take_at first (drop (length first) items) len first_long in
        let then_long : length then ≡ len = ends.long ∙ (ap length middle_is ∙ first_long) in
        let whole = take_at then (drop (length then) (take len (first ++ drop (length first) items))) len then_long in
        let P : ℕ × ℕ × ℕ × List ℕ → Type 0 = λ z. IsOpening (sizes z.0 z.1 z.2) (of z.0 z.1 z.2) z.3 in
        subst P (λ i. (sym same_frames i, sym same_locks i, sym same_workers i, sym whole i))
        (subst (λ u. IsOpening z u then) (sym same) (opens old first then zeros rows (subst (λ ws. AreTiled (λ _. worker_row v.base) 2 4 v.workers ws then) middle_is ends)))

module _ (pages : List Page) (workers low : ℕ) (are : ArePages pages low) (frames locks : ℕ) (some_worker : 1 ≤ workers) where
  -- the numbers stand in the page as in the state
  same_page : (v : Given) (hot : ℕ → Bool) (p : ℕ) → p < length pages → v.pages ≡ pages_of pages → (n : Node) → framed (stands v hot).place (page_at pages p).node ≡ n → framed_page (stands v hot) p (page_at pages p).generation ≡ record (page_at pages p) { node = n }
  same_page v hot p within is n node =
      let page = page_at pages p in
      let number : p ≡ page.number = sym (are.numbers p within) in
      let back : page_in v.pages p ≡ contents_of page = ap (λ xs. page_in xs p) is ∙ page_back pages p in
      let inside : framed (stands v hot).place (page_in v.pages p).node ≡ n = ap (λ c. framed (stands v hot).place c.node) back ∙ node in
      λ i. record { number = number i; gsn = (back i).gsn; generation = page.generation; last_log = (back i).last; node = inside i }

  -- ## Each page in a frame

  module _ (fit : length pages ≤ frames) where
    abbrev v_opened : Given
    v_opened = given_of frames locks workers low pages

    -- each page is hot
    abbrev among : ℕ → Bool
    among q = ltb q (length v_opened.pages)

    opened_page : (p : ℕ) → among p ≡ true → (i x : ℕ) → x ≡ get_or (frame_row (slice_get pages p)) (i + 1) 0 → ShowsPage (stands v_opened among) p i x
    opened_page p t i x is =
        let l = ltb-true p (length v_opened.pages) t in
        let within : p < length pages = let b = pages_long pages in omega arith in
        let page = page_at pages p in
        let live : 0 < page.node.level → page.node.live ≡ true = λ inner. (is_live pages workers low are p inner).1 in
        let children : 0 < page.node.level → (x : Pair) → Has x page.node.pairs → place_of (among x.word) x.word ≡ Place.Hot x.word =
        λ inner x h. ap (λ b. place_of b x.word) (lt-ltb x.word (length v_opened.pages) (let c = (((are.tree.formed p within).node (live inner)).children inner x h).1 in let b = pages_long pages in omega arith)) in
        let same = same_page v_opened among p within refl (linked_page page).node (framed_linked (stands v_opened among).place page live children) ∙ sym (linked_same page) in
        shows_page v_opened among p page.generation (linked_page page) (let a = same_count page in let b = page_room pages workers low are p within in omega arith) same i x
        (is ∙ ap (λ o. get_or (frame_row o) (i + 1) 0) (some_at pages p within))

    opened_latch : (x : Option Page) → get_or (frame_row x) 0 0 ≡ 0
    opened_latch None = refl
    opened_latch (Some p) = refl

    opened_empty : (f : ℕ) → among f ≡ false → get_or (frame_row (slice_get pages f)) 127 0 ≡ 2 ^ 63 + 1
    opened_empty f off =
        let le = ltb-false f (length v_opened.pages) off in
        ap (λ o. get_or (frame_row o) 127 0) (none_at pages f (let b = pages_long pages in omega arith)) ∙ mark_word

    pub opened_framed : AreFramed v_opened among (λ p. frame_row (slice_get pages p))
    opened_framed = record {
      begins = began pages workers low are frames locks fit;
      frames = let b = are.tree.some in omega arith;
      workers = some_worker;
      within = λ p t. ltb-true p (length v_opened.pages) t;
      latch = λ f. opened_latch (slice_get pages f);
      page = opened_page;
      empty = opened_empty;
    }

  -- ## The root alone

  module _ (faithful : Bool) (some_frame : 1 ≤ frames) where
    abbrev v_rooted : Given
    v_rooted = rooted_of faithful frames locks workers low pages

    abbrev first : ℕ → Bool
    first q = q == 0

    abbrev root : Page
    root = page_at pages 0

    -- a child is another page
    root_page : (p : ℕ) → first p ≡ true → (i x : ℕ) → x ≡ get_or (root_row root p) (i + 1) 0 → ShowsPage (stands v_rooted first) p i x
    root_page (suc p) t i x is = let e = eqb-true (suc p) 0 t in absurd (omega arith)
    root_page zero t i x is =
        let children : is_inner root.node ≡ true → (x : Pair) → Has x root.node.pairs → place_of (first x.word) x.word ≡ Place.Cold =
        λ inner x h. let a = and_parts root.node.live (ltb 0 root.node.level) inner in
        cold_others x.word (((are.tree.formed 0 are.tree.some).node a.0).children (ltb-true 0 root.node.level a.1) x h).0 in
        shows_page v_rooted first 0 root.generation root (page_room pages workers low are 0 are.tree.some)
        (same_page v_rooted first 0 are.tree.some refl root.node (framed_cold (stands v_rooted first).place root.node children)) i x is

    root_latch : (f : ℕ) → get_or (root_row root f) 0 0 ≡ 0
    root_latch zero = refl
    root_latch (suc f) = refl

    root_empty : (f : ℕ) → first f ≡ false → get_or (root_row root f) 127 0 ≡ 2 ^ 63 + 1
    root_empty zero off = absurd (true≢false (sym (eq-eqb 0 0 refl) ∙ off))
    root_empty (suc f) off = mark_word

    pub rooted_framed : AreFramed v_rooted first (root_row root)
    rooted_framed = record {
      begins = began_rooted pages workers low are faithful frames locks;
      frames = some_frame;
      workers = some_worker;
      within = λ p t. let e = eqb-true p 0 t in let a = pages_long pages in let b = are.tree.some in omega arith;
      latch = root_latch;
      page = root_page;
      empty = root_empty;
    }
