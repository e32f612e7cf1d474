-- What single words of a frame's row say of the node that stands there.
use Rattle.std.proofs.Common.{◌≡◌, ◌≢◌, ◌==◌, ◌<◌, ◌≤◌, ◌+◌, ◌*◌, ◌/◌, ◌%◌, not, ℕ, Bool, true, false, List, [], length, Option, Some, None, refl, sym, ap, subst, ◌∙◌, arith, below_more, true≢false}
use Rattle.std.specs.Prelude.{slice_index}
use Rattle.std.proofs.lemmas.Bool.{eqb-true}
use Rattle.page_model.specs.Page as stored
use Rattle.page_model.specs.Page.{word_at}
use Rattle.page_model.specs.Nodes.{Node}
use Rattle.btree_descent.specs.btree_node.Words.{words_of, Fits}
use Rattle.btree_descent.proofs.btree_node.SpellingLemmas.{page_of-words_of, spells-count, spells-word}
use Rattle.btree_descent.specs.row_words.Moments.{Moment}
use Rattle.btree_descent.specs.row_words.Openings.{opening}
use Rattle.btree_descent.specs.row_words.Words.{framed_page, is_inner}
use Rattle.btree_descent.specs.row_words.declared.given.Given.{Given}
use Rattle.btree_descent.specs.rows_trait.declared.view.Act.{Act}
use Rattle.btree_descent.specs.rows_trait.declared.view.View.{View}
use Rattle.btree_descent.specs.rows_trait.Views.{Shape, Knows, state}
use Rattle.btree_descent.proofs.rows_trait.Runs.{ran_append}
use Rattle.btree_descent.specs.version_latch.declared.glimpse.Glimpse.{Glimpse}
use Rattle.btree_descent.specs.swips.declared.hint.TheConstants.{MARK}
use Rattle.btree_descent.specs.Inside.{Agrees}
use Rattle.btree_descent.specs.Known.{IsSound}
use Rattle.btree_descent.proofs.Calls.{sound_after}
use Rattle.btree_descent.proofs.Nodes.{agreeing, fits, shown_frame, stands}
use Rattle.row_image.specs.declared.sight.Sight.{Sight}
use Rattle.row_image.specs.Hot.{StandsIn}
use Rattle.row_image.specs.Inside.{Again, Begun}
use Rattle.row_image.specs.Looks.{Watched}
use Rattle.row_image.proofs.Sighting.{all_watched}
use Rattle.page_provider.specs.Finds.{HasPair, IsNamedIn, NamedIn, NamesIn, Naming, NamingIn}
use Rattle.page_provider.proofs.Easing.{hot_is}
use Rattle.page_provider.proofs.Sightings.{hot_in, naming_since, state_same}

pub unequal_not : (a b : ℕ) → not (a == b) ≡ false → a ≡ b
unequal_not a b h = go (a == b) refl h
  where
    go : (t : Bool) → (a == b) ≡ t → not t ≡ false → a ≡ b
    go true e x = eqb-true a b e
    go false e x = absurd (true≢false x)

-- ## The head of a node

pub record HeadOf (packed : ℕ) (n : stored.Page) : Type 0 where
  pub count : packed % 256 ≡ length n.node.pairs
  pub level : packed / 256 % 256 ≡ n.node.level
  pub live : (packed / 16777216 == 1) ≡ n.node.live

pub head_of : (packed : ℕ) (n : stored.Page) → Fits n → packed ≡ slice_index (words_of n) 3 → HeadOf packed n
head_of packed n f is =
    let same = page_of-words_of n f in record {
      count = ap (λ z. z % 256) is ∙ spells-count (words_of n) n (record { spelled = refl; fits = f });
      level = ap (λ z. z / 256 % 256) is ∙ ap (λ (q : stored.Page). q.node.level) same;
      live = ap (λ z. z / 16777216 == 1) is ∙ ap (λ (q : stored.Page). q.node.live) same;
    }

-- ## The pairs

-- what words that were loaded later agree with agrees with those of before
pub agrees_before : {alone : Bool} (row version : ℕ) (n : stored.Page) {v w : View} → Watched alone v w → Agrees row version n w.steps → Agrees row version n v.steps
agrees_before row version n k a i x lt ne kn = a i x lt ne (k.knows row version i x kn)

pub head_known : (row version packed : ℕ) (n : stored.Page) (acts : List Act) → Knows row version 3 packed acts → Agrees row version n acts → packed ≡ slice_index (words_of n) 3
head_known row version packed n acts kn a = a 3 packed (omega arith) (λ z. omega arith) kn

pub word_known : (row version at x : ℕ) (n : stored.Page) (acts : List Act) → Fits n → at < length n.node.pairs → Knows row version (7 + 2 * at) x acts → Agrees row version n acts → x ≡ word_at at n.node.pairs
word_known row version at x n acts f lt kn a =
    let room = f.room in
    a (7 + 2 * at) x (omega arith) (λ z. omega arith) kn ∙ spells-word (words_of n) n at (record { spelled = refl; fits = f }) lt

-- no pair before this one has the word
abbrev pub NoneBefore : (row version word at : ℕ) → List Act → Type 0
NoneBefore row version word at acts = (n : stored.Page) → Fits n → Agrees row version n acts → is_inner n.node ≡ true → (j : ℕ) → j < at → word_at j n.node.pairs ≢ word

-- so many pairs has each inner node whose head this is
abbrev pub IsCount : (packed count : ℕ) → Type 0
IsCount packed count = (n : stored.Page) → Fits n → packed ≡ slice_index (words_of n) 3 → is_inner n.node ≡ true → count ≡ length n.node.pairs

module _ (row version word : ℕ) where
  pub none_next : {alone : Bool} {v w : View} (packed count at x : ℕ) → IsCount packed count → at < count → Knows row version 3 packed w.steps → Watched alone v w → NoneBefore row version word at v.steps → Knows row version (7 + 2 * at) x w.steps → x ≢ word
      → NoneBefore row version word (at + 1) w.steps
  none_next {w = w} packed count at x counts lt head k none kn ne n f a inner =
      let size : count ≡ length n.node.pairs = counts n f (head_known row version packed n w.steps head a) inner in
      let short : at < length n.node.pairs = omega arith in
      below_more (λ j. word_at j n.node.pairs ≢ word) at (none n f (agrees_before row version n k a) inner) (λ e. ne (word_known row version at x n w.steps f short kn a ∙ e))

  -- the first pair that has it
  pub pair_here : {alone : Bool} {v w : View} (packed count at x : ℕ) → ((n : stored.Page) → Fits n → packed ≡ slice_index (words_of n) 3 → (is_inner n.node ≡ true) × (count ≡ length n.node.pairs)) → at < count → Knows row version 3 packed w.steps → Watched alone v w
      → NoneBefore row version word at v.steps → Knows row version (7 + 2 * at) x w.steps → x ≡ word → HasPair row version word w.steps true
  pair_here {w = w} packed count at x counts lt head k none kn is n f a =
      let o = counts n f (head_known row version packed n w.steps head a) in
      let size = o.1 in
      let short : at < length n.node.pairs = omega arith in
      (at, record { inner = o.0; short = short; word_is = sym (word_known row version at x n w.steps f short kn a) ∙ is; before = none n f (agrees_before row version n k a) o.0 })

  -- all pairs were looked at
  pub none_at_all : (packed count at : ℕ) (acts : List Act) → IsCount packed count → count ≤ at → Knows row version 3 packed acts → NoneBefore row version word at acts → HasPair row version word acts false
  none_at_all packed count at acts counts all head none n f a inner j lt =
      let size : count ≡ length n.node.pairs = counts n f (head_known row version packed n acts head a) inner in
      none n f a inner j (omega arith)

-- ## The node that stands in the row

module _ {alone : Bool} {v v1 u w : View} (g : Glimpse) (b : Begun alone g.row g.version v v1) (k : Watched alone v1 u) (a : Again alone g.row g.version u w) (lt : g.row < (opening w.given).frames) (sound : IsSound v.given) (hint : ℕ) (known : Knows g.row g.version 126 hint u.steps) (unmarked : hint ≢ MARK) where
  pub names_in : (word : ℕ) (yes : Bool) → HasPair g.row g.version word u.steps yes → NamesIn g.row word yes w
  names_in word true h =
      let m = state w in
      let it = stands (opening w.given) m.core g.row hint (shown_frame w.given m g.row 126 hint lt (a.shown 126 hint known)) unmarked in
      let page = framed_page m.core it.0 0 in
      let o = h page (fits w.given m it.0 (sound_after v w (all_watched g b k a lt).ran.given sound) it.1) (agreeing (opening w.given) m.core g.row g.version it.0 u.steps (λ i x small kn. shown_frame w.given m g.row i x lt (a.shown i x kn)) it.1 it.2) in
      record { node = page; at = o.0; stands = record { stands = record { below = it.1; hot = hot_is (m.core.place it.0) g.row it.3 it.2 }; page = refl }; pair = o.1 }
  names_in word false h = λ n s.
      let m = state w in
      let page = framed_page m.core n.number 0 in
      let none = h page (fits w.given m n.number (sound_after v w (all_watched g b k a lt).ran.given sound) s.stands.below) (agreeing (opening w.given) m.core g.row g.version n.number u.steps (λ i x small kn. shown_frame w.given m g.row i x lt (a.shown i x kn)) s.stands.below (hot_in s.stands.hot)) in
      subst (λ (x : Node). is_inner x ≡ true → (j : ℕ) → j < length x.pairs → word_at j x.pairs ≢ word) (sym (ap (λ (x : stored.Page). x.node) s.page)) none

-- ## Over frames

-- a look later than others
pub named_before : {z y : Shape} {v u : View} (frames word : ℕ) (w : View) (o : Option ℕ) → y ≡ z → Watched z.alone v u → NamedIn y u frames word o w → NamedIn z v frames word o w
named_before {z = z} {v = v} {u = u} frames word w (Some f) same k h =
    let n = subst (λ (q : Shape). NamedIn q u frames word (Some f) w) same h in
    (ran_append z.alone v [] u [] w k.ran n.0, n.1, n.2)
named_before {z = z} {v = v} {u = u} frames word w None same k h =
    let n = subst (λ (q : Shape). NamedIn q u frames word None w) same h in
    (ran_append z.alone v [] u [] w k.ran n.0, n.1)

-- the node is seen in the frame where it was found, or is there no longer
pub naming_at : {z y : Shape} {v u : View} (frames word frame : ℕ) (w : View) (o : Option (Sight × ℕ)) → y ≡ z → Watched z.alone v u → IsNamedIn frame word u → NamingIn y u frame word o w → Naming z v frames word o w
naming_at frames word frame w (Some x) same k named h = naming_since same k h
naming_at {z = z} {v = v} {u = u} frames word frame w None same k named h =
    let n = subst (λ (q : Shape). NamingIn q u frame word None w) same h in
    (ran_append z.alone v [] u [] w k.ran n.0, λ only. absurd (n.1 named.node (subst (λ (q : Given × Moment). StandsIn q.0 q.1 frame named.node) (λ i. (sym n.0.given i, sym (state_same n.0 only) i)) named.stands) named.pair.inner named.at named.pair.short named.pair.word_is))
