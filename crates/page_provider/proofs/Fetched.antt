-- A page that was read is what the core has of it from then on.
use Rattle.std.proofs.Common.{◌≡◌, ◌≢◌, ◌<◌, ◌≤◌, ◌+◌, ◌^◌, ◌==◌, ◌&&◌, ◌||◌, not, leb, ltb, inl, inr, ℕ, Bool, true, false, List, [], ◌∷◌, ◌++◌, length, Option, Some, None, refl, sym, ap, subst, ◌∙◌, arith, true≢false}
use Rattle.std.specs.Prelude.{if◌then◌else◌}
use Rattle.std.proofs.lemmas.Bool.{and_from, and_parts, cases_eq, cond-true, cond-false, eq-eqb, eqb-true, le-leb, lt-ltb}
use Rattle.map_model.specs.Lists.{all, upd}
use Rattle.map_model.proofs.ListLemmas.{upd_other, upd_same}
use Rattle.btree_descent.specs.image_model.Entries.{Contents}
use Rattle.page_model.specs.Check.{is_rising, names_page}
use Rattle.page_model.specs.Nodes.{Format, Node, is_leaf}
use Rattle.page_model.specs.Page as stored
use Rattle.page_model.specs.Pairs as pairs
use Rattle.page_model.specs.Pairs.{Pair, Rising, spans}
use Rattle.page_model.specs.Records.{any}
use Rattle.page_model.proofs.Check.{rising_from}
use Rattle.page_model.proofs.Pairs.{rising_le}
use Rattle.btree_descent.specs.btree_node.Words.{IsOrdered}
use Rattle.cold_pages.specs.Compared.{IsAsKept}
use Rattle.cold_pages.specs.Laws.{IsButEntries}
use Rattle.cold_pages.proofs.KeptLemmas.{every_kept}
use Rattle.btree_descent.specs.core_state.Lists.{all_below}
use Rattle.btree_descent.specs.core_state.Openings.{Opening}
use Rattle.btree_descent.specs.core_state.States.{State, is_cold, is_hot}
use Rattle.btree_descent.specs.core_state.Events as happening
use Rattle.btree_descent.specs.core_state.Needs as core
use Rattle.btree_descent.specs.core_state.Needs.{are_same, are_words, has_hot_parent, may_have}
use Rattle.btree_descent.specs.core_state.Steps.{happens, step, with_pairs}
use Rattle.disk_runs.specs.Quiet.{is_quiet}
use Rattle.disk_runs.specs.disk_slots.Pages.{IsPage}
use Rattle.lean_disk.specs.Story.{Story, Tells}
use Rattle.btree_descent.specs.lean_proto.Still.{Stood}
use Rattle.btree_descent.specs.row_words.declared.event.Event.{Event}
use Rattle.btree_descent.specs.row_words.declared.given.Given.{Given}
use Rattle.btree_descent.specs.row_words.Moments.{Moment, event_of, events_of, pager, pairs_of}
use Rattle.btree_descent.specs.row_words.Openings.{opening}
use Rattle.row_opening.specs.Opened.{entries_of}
use Rattle.btree_descent.proofs.row_words.SealedLemmas.{calm_tame, silent_changes, silent_sets}
use Rattle.btree_descent.specs.rows_trait.declared.view.View.{View}
use Rattle.btree_descent.specs.rows_trait.Turns.{Heard, Ran}
use Rattle.btree_descent.specs.rows_trait.Views.{AreAside, BeginsTame, Shape, may, state}
use Rattle.btree_descent.proofs.rows_trait.Runs.{ran_append, ran_goes, ran_none}
use Rattle.page_calls.specs.Mirrors.{KeepsMirrors, Mirrors}
use Rattle.page_moves.specs.Moves.{contents_of}
use Rattle.page_pool.specs.Pools.{Agrees, Pool}
use Rattle.page_provider.specs.Comes.{HasContents, PlaceCause}
use Rattle.page_provider.specs.Ends.{HasRefused}
use Rattle.page_provider.specs.Faults.{FaultCause, Faulted, IsAltered, IsDescent, KeepsOthers, LeadsTo}
use Rattle.page_provider.specs.Fetches.{EveryGivenKept, HasTold, IsFound, WasRead, fetch_of, fetching}
use Rattle.page_calls.specs.Calls.{bounds_of}
use Rattle.disk_runs.specs.page_store.Slots.{IsOf}
use Rattle.page_provider.specs.Gives.{Gives, Holds}
use Rattle.page_provider.specs.Laws.{RowLaws}
use Rattle.page_provider.specs.Mirrored.{KeepsMirrored}
use Rattle.page_provider.specs.Moves.{KeepsPath, Moved, is_on, way}
use Rattle.page_provider.specs.Providers.{Keeps, Provider, pool}
use Rattle.page_provider.specs.Shares.{AreNeeded, HasShare, cools_in}
use Rattle.page_provider.specs.declared.refusal.Refusal.{Refusal}
use Rattle.page_provider.specs.declared.refusal.Refusal.TheVariants as refusal
use Rattle.page_provider.proofs.Chills.{met_parted}
use Rattle.page_provider.proofs.Coming.{cold_hot, hot_kept}
use Rattle.page_provider.proofs.Keeping.{Parted, at_event, by_event, event_happens, keeps_before, keeps_event, parted, ran_stood, stood_after, stood_before}
use Rattle.page_provider.proofs.Kept.{but_none}
use Rattle.page_provider.proofs.Chilling.{moved_ran}
use Rattle.page_provider.proofs.Moving.{moved_then, moved_up, path_then, refused_then, refused_up, same_none}
use Rattle.page_provider.proofs.Shares.{cools_append}
use Rattle.page_provider.proofs.Standing.{core_step, onward, ran_state, state_on}

-- ## The event

pub pairs_back : (xs : List Pair) → pairs_of (entries_of xs) ≡ xs
pairs_back [] = refl
pairs_back (x ∷ xs) = ap (λ (ys : List Pair). x ∷ ys) (pairs_back xs)

fetching_leaf : (page : ℕ) (n : stored.Page) → is_leaf n.node ≡ true → fetching page n ≡ fetch_of page n ∷ []
fetching_leaf page n e = cond-true (is_leaf n.node) (fetch_of page n ∷ []) [] e

fetching_other : (page : ℕ) (n : stored.Page) → is_leaf n.node ≡ false → fetching page n ≡ []
fetching_other page n e = cond-false (is_leaf n.node) (fetch_of page n ∷ []) [] e

pub fetch_aside : (alone : Bool) (v : View) (page : ℕ) (n : stored.Page) → may alone v pager ≡ true → AreAside (may alone v) v.given (fetch_of page n ∷ [])
fetch_aside alone v page n actor = (record { own = actor; part = refl; rows = λ m row. silent_changes v.given m (fetch_of page n) row refl; words = λ c i. silent_sets (fetch_of page n) c i refl }, tt)

pub fetch_tame : (m : Moment) (page : ℕ) (n : stored.Page) → BeginsTame m (fetch_of page n ∷ [])
fetch_tame m page n = (calm_tame m (fetch_of page n) refl, tt)

pub told_none : {z : Shape} {v : View} (page : ℕ) (n : stored.Page) → is_leaf n.node ≡ false → HasTold z v page n v
told_none {z = z} {v = v} page n e = record { ran = subst (λ es. Ran z.alone v es v) (sym (fetching_other page n e)) (ran_none z.alone v); held = refl }

pub told_heard : {z : Shape} {v u : View} {x : ℕ} (page : ℕ) (n : stored.Page) → may z.alone v pager ≡ true → is_leaf n.node ≡ true → Heard z 1 0 (λ _. fetch_of page n ∷ []) v x u → HasTold z v page n u
told_heard {z = z} {v = v} {u = u} page n actor e h = record { ran = subst (λ es. Ran z.alone v es u) (sym (fetching_leaf page n e)) (ran_goes z v (fetch_of page n ∷ []) u (actor, tt) h.goes); held = h.held }

-- ## Its need

ordered_rising : (a : ℕ) (xs : List Pair) (b : ℕ) → a ≤ b → IsOrdered a xs b → Rising a xs b
ordered_rising a [] b l h = l
ordered_rising a (x ∷ xs) b l h = h

words_from : (f : Format) (xs : List Pair) → ((x : Pair) → pairs.Has x xs → x.word ≤ f.dead) → are_words f xs ≡ true
words_from f [] h = refl
words_from f (x ∷ xs) h = and_from (leb x.word f.dead) (are_words f xs) (le-leb x.word f.dead (h x (inl refl))) (words_from f xs (λ y m. h y (inr m)))

same_self : (xs : List Pair) → are_same xs xs ≡ true
same_self [] = refl
same_self (x ∷ xs) = and_from (x.key == x.key) ((x.word == x.word) && are_same xs xs) (eq-eqb x.key x.key refl) (and_from (x.word == x.word) (are_same xs xs) (eq-eqb x.word x.word refl) (same_self xs))

own_from : (b c : Bool) → (b ≡ true → c ≡ true) → (not b || c) ≡ true
own_from true c h = h refl
own_from false c h = refl

leaf_live : (n : Node) → is_leaf n ≡ true → (n.live ≡ true) × (n.level ≡ 0)
leaf_live n e = let p = and_parts n.live (n.level == 0) e in (p.0, eqb-true n.level 0 p.1)

-- a well formed page that is the saved one but for its entries may be read
may_fetch : (g : Opening) (s : State) (p pages : ℕ) (n : stored.Page) → g.format.room ≡ 60 → g.format.dead ≡ 2 ^ 63 → p < g.format.pages → is_cold (s.place p) ≡ true → (s.saved p).node.low ≤ (s.saved p).node.high → IsPage p pages n → IsButEntries (s.saved p) (contents_of n)
    → is_leaf n.node ≡ true → (g.faithful ≡ true → n.node.pairs ≡ (s.saved p).node.pairs) → core.may g s (happening.Event.Fetch p n.node.pairs) ≡ true
may_fetch g s p pages n room dead below cold fences page but leaf own =
    let w = (s.saved p).node in
    let xs = n.node.pairs in
    let is : is_leaf w ≡ true = sym (ap is_leaf but.fields) ∙ leaf in
    let l = leaf_live n.node leaf in
    let many = page.fits.room in
    let size : length xs ≤ g.format.room = omega arith in
    let ordered : IsOrdered w.low xs w.high = subst (λ (x : ℕ × ℕ). IsOrdered x.0 xs x.1) (λ i. ((but.fields i).low, (but.fields i).high)) page.fits.ordered in
    let rising = rising_from w.low xs w.high (ordered_rising w.low xs w.high fences ordered) in
    let words = words_from g.format xs (λ x m. (let b = page.node.values l.0 l.1 x m in omega arith)) in
    let mine = own_from g.faithful (are_same xs w.pairs) (λ f. subst (λ ys. are_same xs ys ≡ true) (own f) (same_self xs)) in
    and_from (ltb p g.format.pages) (is_cold (s.place p) && may_have g w xs) (lt-ltb p g.format.pages below)
    (and_from (is_cold (s.place p)) (may_have g w xs) cold
    (and_from (is_leaf w) (leb (length xs) g.format.room && (is_rising w.low xs w.high && (are_words g.format xs && (not g.faithful || are_same xs w.pairs)))) is
    (and_from (leb (length xs) g.format.room) (is_rising w.low xs w.high && (are_words g.format xs && (not g.faithful || are_same xs w.pairs))) (le-leb (length xs) g.format.room size)
    (and_from (is_rising w.low xs w.high) (are_words g.format xs && (not g.faithful || are_same xs w.pairs)) rising
    (and_from (are_words g.format xs) (not g.faithful || are_same xs w.pairs) words mine)))))

-- ## What it leaves

with_but : (ps : List Pair) (x : Contents) → is_leaf x.node ≡ true → IsButEntries x (with_pairs ps x)
with_but ps x e = record { gsn = refl; last = refl; fields = refl; other = λ f. absurd (true≢false (sym e ∙ f)) }

pub buts_fetched : (s : State) (p : ℕ) (ps : List Pair) → s.page p ≡ s.saved p → is_leaf (s.saved p).node ≡ true → (q : ℕ) → IsButEntries (s.page q) (upd s.page p (with_pairs ps (s.saved p)) q)
buts_fetched s p ps same leaf q = elim (cases_eq q p) [
  | inl e ↦ subst (λ (c : Contents). IsButEntries (s.page q) c) (sym (upd_same s.page p (with_pairs ps (s.saved p)) q e))
      (subst (λ (c : Contents). IsButEntries c (with_pairs ps (s.saved p))) (sym (ap s.page e ∙ same)) (with_but ps (s.saved p) leaf))
  | inr ne ↦ but_none (upd_other s.page p (with_pairs ps (s.saved p)) q ne)
]

but_live : {x y : Contents} → IsButEntries x y → y.node.live ≡ x.node.live
but_live b = ap (λ (n : Node). n.live) b.fields

agrees_fetched : (g : Opening) (s : State) (p : ℕ) (ps : List Pair) (k : Pool) → ((q : ℕ) → IsButEntries (s.page q) (upd s.page p (with_pairs ps (s.saved p)) q)) → Agrees g s k → Agrees g (happens g s (happening.Event.Fetch p ps)) k
agrees_fetched g s p ps k but a = record {
  queue = a.queue;
  entries = λ x h. (let e = a.entries x h in record { frame = e.frame; cooling = e.cooling; epoch = e.epoch });
  empty = a.empty;
  every = a.every;
  once = a.once;
  free = λ q l. a.free q l ∙ ap (λ b. not b && not (is_hot (s.place q))) (sym (but_live (but q)));
}

-- a page that is the other but for the entries of a leaf names the same pages
leaf_none : (n : Node) (c : ℕ) → n.level ≡ 0 → names_page n c ≡ false
leaf_none n c e = go n.live
  where
    go : (b : Bool) → ((b && ltb 0 n.level) && any (λ z. z.child == c) (spans n.pairs n.high)) ≡ false
    go true = rw e refl
    go false = refl

names_but : {x y : Contents} (c : ℕ) → IsButEntries x y → names_page y.node c ≡ names_page x.node c
names_but {x} {y} c b = go (is_leaf x.node) refl
  where
    go : (d : Bool) → is_leaf x.node ≡ d → names_page y.node c ≡ names_page x.node c
    go false e = ap (λ (n : Node). names_page n c) (b.other e)
    go true e =
        let l = (leaf_live x.node e).1 in
        leaf_none y.node c (ap (λ (n : Node). n.level) b.fields ∙ l) ∙ sym (leaf_none x.node c l)

-- ## Behind it

-- What is so behind it, for the parts of the call that come then.
pub record Fetched (z : Shape) (v : View) (k : Provider) (page : ℕ) (n : stored.Page) (u : View) : Type 0 where
  pub moved : Moved 1 z v k u k
  pub ran : Ran z.alone v (fetching page n) u
  pub contents : HasContents u page n
  pub path : (path : List ℕ) → KeepsPath path v u
  pub cold : (q : ℕ) → is_cold ((state u).core.place q) ≡ is_cold ((state v).core.place q)
  pub hot : (q : ℕ) → is_hot ((state u).core.place q) ≡ is_hot ((state v).core.place q)
  pub live : ((state u).core.page page).node.live ≡ ((state v).core.page page).node.live
  pub place : z.alone ≡ true → (q : ℕ) → (state u).core.place q ≡ (state v).core.place q
  pub buts : z.alone ≡ true → (q : ℕ) → IsButEntries ((state v).core.page q) ((state u).core.page q)
  pub saved : (q : ℕ) → (state u).core.saved q ≡ upd (state v).core.saved page (contents_of n) q
  pub others : KeepsOthers z page v u

-- with its entries a leaf is what was read
filled_is : (x : Contents) (n : stored.Page) → IsButEntries x (contents_of n) → with_pairs n.node.pairs x ≡ contents_of n
filled_is x n b = λ i. record { gsn = sym b.gsn i; last = sym b.last i; node = sym b.fields i }

module _ {z : Shape} {v u : View} {k : Provider} {page : ℕ} {n : stored.Page} (laws : RowLaws) (c : Keeps z v k) (none : v.held ≡ []) (found : IsFound v k page n) (t : HasTold z v page n u) where
  but : IsButEntries ((state v).core.page page) (contents_of n)
  but = (every_kept (opening v.given).format (state v).core.page (λ p. is_cold ((state v).core.place p)) k.kept (c.sound v.seen).tree c.kept).came page n found.below found.cold found.page_is.fits.ordered found.as_kept

  same_page : (state v).core.page page ≡ (state v).core.saved page
  same_page = (c.sound v.seen).residence.cold page found.cold

  but_saved : IsButEntries ((state v).core.saved page) (contents_of n)
  but_saved = subst (λ (x : Contents). IsButEntries x (contents_of n)) same_page but

  -- ## A leaf

  module _ (leaf : is_leaf n.node ≡ true) where
    abbrev e : Event
    e = fetch_of page n

    r : Ran z.alone v (e ∷ []) u
    r = subst (λ es. Ran z.alone v es u) (fetching_leaf page n leaf) t.ran

    q : Parted v e u
    q = parted z.alone v u e c.actor r

    abbrev at : State
    at = (state (at_event q)).core

    before : Stood v (at_event q)
    before = stood_before z laws.stood r.given q

    behind : Stood (by_event q) u
    behind = stood_after z laws.stood r.given q

    kept : Keeps z (at_event q) k
    kept = keeps_before laws.stood laws.standing r.given q c

    cold_at : is_cold (at.place page) ≡ true
    cold_at = before.cold page ∙ found.cold

    page_at : at.page page ≡ at.saved page
    page_at = (c.sound (v.seen ++ q.before)).residence.cold page cold_at

    but_at : IsButEntries (at.saved page) (contents_of n)
    but_at = subst (λ (x : Contents). IsButEntries x (contents_of n)) (sym (before.saved page)) but_saved

    leaf_at : is_leaf (at.saved page).node ≡ true
    leaf_at = sym (ap is_leaf but_at.fields) ∙ leaf

    fences : (at.saved page).node.low ≤ (at.saved page).node.high
    fences =
        let w = (at.page page).node in
        let live : w.live ≡ true = ap (λ (x : Contents). x.node.live) page_at ∙ (leaf_live (at.saved page).node leaf_at).0 in
        let ok = ((c.sound (v.seen ++ q.before)).tree.formed page found.below).node live in
        subst (λ (x : Contents). x.node.low ≤ x.node.high) page_at (rising_le w.low w.pairs w.high ok.rising)

    met : core.may (opening v.given) at (event_of e) ≡ true
    met = subst (λ ps. core.may (opening v.given) at (happening.Event.Fetch page ps) ≡ true) (sym (pairs_back n.node.pairs))
        (may_fetch (opening v.given) at page (opening v.given).format.pages n refl refl found.below cold_at fences found.page_is but_at leaf
        (λ f. ap (λ (x : Contents). x.node.pairs) (found.own f ∙ sym (before.saved page))))

    abbrev gone : State
    gone = happens (opening v.given) at (event_of e)

    is_now : (state (by_event q)).core ≡ gone
    is_now = event_happens q met

    buts_at : (p : ℕ) → IsButEntries (at.page p) (gone.page p)
    buts_at = buts_fetched at page (pairs_of (entries_of n.node.pairs)) page_at leaf_at

    keeps : Keeps z u k
    keeps = keeps_event laws.stood laws.standing r q c gone is_now (record {
      frame = refl;
      worker = refl;
      page = refl;
      agrees = agrees_fetched (opening v.given) at page (pairs_of (entries_of n.node.pairs)) (pool k) buts_at kept.agrees;
      kept = (every_kept (opening v.given).format at.page (λ p. is_cold (at.place p)) k.kept (c.sound (v.seen ++ q.before)).tree kept.kept).stays gone.page (λ p. is_cold (at.place p)) (λ p l. refl) (λ p l h. buts_at p);
      epoch = kept.epoch;
    })

    cold_on : (p : ℕ) → is_cold ((state u).core.place p) ≡ is_cold ((state v).core.place p)
    cold_on p = behind.cold p ∙ (ap (λ (s : State). is_cold (s.place p)) is_now ∙ before.cold p)

    hot_on : (p : ℕ) → is_hot ((state u).core.place p) ≡ is_hot ((state v).core.place p)
    hot_on p = behind.hot p ∙ (ap (λ (s : State). is_hot (s.place p)) is_now ∙ before.hot p)

    saved_gone : (p : ℕ) → gone.saved p ≡ upd (state v).core.saved page (contents_of n) p
    saved_gone p = elim (cases_eq p page) [
      | inl same ↦ upd_same at.saved page (with_pairs (pairs_of (entries_of n.node.pairs)) (at.saved page)) p same
          ∙ (ap (λ ps. with_pairs ps (at.saved page)) (pairs_back n.node.pairs) ∙ (filled_is (at.saved page) n but_at ∙ sym (upd_same (state v).core.saved page (contents_of n) p same)))
      | inr other ↦ upd_other at.saved page (with_pairs (pairs_of (entries_of n.node.pairs)) (at.saved page)) p other ∙ (before.saved p ∙ sym (upd_other (state v).core.saved page (contents_of n) p other))
    ]

    saved_on : (p : ℕ) → (state u).core.saved p ≡ upd (state v).core.saved page (contents_of n) p
    saved_on p = behind.saved p ∙ (ap (λ (s : State). s.saved p) is_now ∙ saved_gone p)

    -- where nobody else steps
    alone_is : z.alone ≡ true → (state u).core ≡ step (opening v.given) (state v).core (event_of e)
    alone_is alone =
        let one : state u ≡ state (onward v (e ∷ [])) = ran_state r ∙ ap (λ es. state (onward v es)) (r.all alone) in
        ap (λ m. m.core) (one ∙ state_on v (e ∷ [])) ∙ core_step v.given (state v) e

    step_place : (b : Bool) (p : ℕ) → (if b then happens (opening v.given) (state v).core (event_of e) else (state v).core).place p ≡ (state v).core.place p
    step_place true p = refl
    step_place false p = refl

    step_buts : (b : Bool) (p : ℕ) → IsButEntries ((state v).core.page p) ((if b then happens (opening v.given) (state v).core (event_of e) else (state v).core).page p)
    step_buts true p = buts_fetched (state v).core page (pairs_of (entries_of n.node.pairs)) same_page (sym (ap is_leaf but_saved.fields) ∙ leaf) p
    step_buts false p = but_none refl

    step_others : (b : Bool) (p : ℕ) → p ≢ page → (if b then happens (opening v.given) (state v).core (event_of e) else (state v).core).page p ≡ (state v).core.page p
    step_others true p other = upd_other (state v).core.page page (with_pairs (pairs_of (entries_of n.node.pairs)) ((state v).core.saved page)) p other
    step_others false p other = refl

    fetched_leaf : Fetched z v k page n u
    fetched_leaf = record {
      moved = record {
        events = e ∷ [];
        goes = record { ran = r; held = t.held ∙ none; keeps = keeps };
        pagers = (refl, tt);
        ticked = tt;
        few = omega arith;
        met = met_parted r q met;
        same = same_none;
      };
      ran = t.ran;
      contents = record {
        below = subst (λ (g : Given). page < (opening g).format.pages) (sym r.given) found.below;
        cold = cold_on page ∙ found.cold;
        number_is = found.number_is;
        contents = sym (saved_on page ∙ upd_same (state v).core.saved page (contents_of n) page refl);
      };
      path = λ path f p has h.
          (let first = hot_kept before p (ap is_hot h) in
          let mid : (state (by_event q)).core.place p ≡ (state v).core.place p = ap (λ (s : State). s.place p) is_now ∙ first in
          hot_kept behind p (ap is_hot (mid ∙ h)) ∙ (mid ∙ h));
      cold = cold_on;
      hot = hot_on;
      live = ap (λ (x : Contents). x.node.live) (behind.page page (cold_hot ((state (by_event q)).core.place page) (ap (λ (s : State). is_cold (s.place page)) is_now ∙ cold_at)))
          ∙ (ap (λ (s : State). (s.page page).node.live) is_now ∙ (but_live (buts_at page) ∙ ap (λ (x : Contents). x.node.live) (before.page page (cold_hot ((state v).core.place page) found.cold))));
      place = λ alone p. ap (λ (s : State). s.place p) (alone_is alone) ∙ step_place (core.may (opening v.given) (state v).core (event_of e)) p;
      buts = λ alone p. subst (λ (s : State). IsButEntries ((state v).core.page p) (s.page p)) (sym (alone_is alone)) (step_buts (core.may (opening v.given) (state v).core (event_of e)) p);
      saved = saved_on;
      others = λ alone p other. ap (λ (s : State). s.page p) (alone_is alone) ∙ step_others (core.may (opening v.given) (state v).core (event_of e)) p other;
    }

  -- ## Another page

  module _ (other : is_leaf n.node ≡ false) where
    r0 : Ran z.alone v [] u
    r0 = subst (λ es. Ran z.alone v es u) (fetching_other page n other) t.ran

    st : Stood v u
    st = ran_stood laws.stood c tt r0

    -- it is what was saved
    whole : contents_of n ≡ (state v).core.saved page
    whole =
        let is : is_leaf ((state v).core.saved page).node ≡ false = sym (ap is_leaf but_saved.fields) ∙ other in
        (λ i. record { gsn = but_saved.gsn i; last = but_saved.last i; node = but_saved.other is i })

    alone_same : z.alone ≡ true → (state u).core ≡ (state v).core
    alone_same alone = ap (λ m. m.core) (ran_state r0 ∙ (ap (λ es. state (onward v es)) (r0.all alone) ∙ state_on v []))

    fetched_other : Fetched z v k page n u
    fetched_other = record {
      moved = moved_up (let few : 0 ≤ 1 = omega arith in few) (moved_ran laws c none r0 t.held);
      ran = t.ran;
      contents = record {
        below = subst (λ (g : Given). page < (opening g).format.pages) (sym r0.given) found.below;
        cold = st.cold page ∙ found.cold;
        number_is = found.number_is;
        contents = whole ∙ sym (st.saved page);
      };
      path = λ path f p has h. hot_kept st p (ap is_hot h) ∙ h;
      cold = st.cold;
      hot = st.hot;
      live = ap (λ (x : Contents). x.node.live) (st.page page (cold_hot ((state v).core.place page) found.cold));
      place = λ alone p. ap (λ (s : State). s.place p) (alone_same alone);
      buts = λ alone p. but_none (ap (λ (s : State). s.page p) (alone_same alone));
      saved = λ p. elim (cases_eq p page) [
        | inl same ↦ st.saved p ∙ (ap (λ i. (state v).core.saved i) same ∙ (sym whole ∙ sym (upd_same (state v).core.saved page (contents_of n) p same)))
        | inr ne ↦ st.saved p ∙ sym (upd_other (state v).core.saved page (contents_of n) p ne)
      ];
      others = λ alone p other. ap (λ (s : State). s.page p) (alone_same alone);
    }

  fetched_as : (b : Bool) → is_leaf n.node ≡ b → Fetched z v k page n u
  fetched_as true e = fetched_leaf e
  fetched_as false e = fetched_other e

  pub fetched : Fetched z v k page n u
  fetched = fetched_as (is_leaf n.node) refl

-- ## What was asked, behind it

module _ {z : Shape} {v u : View} {k : Provider} {page : ℕ} {n : stored.Page} (x : Fetched z v k page n u) where
  given : u.given ≡ v.given
  given = x.ran.given

  pub fetched_parent : (p : ℕ) → z.alone ≡ true → has_hot_parent (opening v.given) (state v).core p ≡ true → has_hot_parent (opening u.given) (state u).core p ≡ true
  fetched_parent p alone h = subst (λ (g : Given). has_hot_parent (opening g) (state u).core p ≡ true) (sym given)
      (ap (λ (f : ℕ → Bool). all_below (opening v.given).format.pages f) (λ i q. not (names_but p (x.buts alone q) i) || is_hot (x.place alone q i)) ∙ h)

  way_same : (path : List ℕ) (q : ℕ) → z.alone ≡ true → way path (state u).core q ≡ way path (state v).core q
  way_same path q alone = ap (is_on path q) (x.place alone q)

  pub fetched_descent : {path : List ℕ} → IsDescent z v path → IsDescent z u path
  fetched_descent {path} d = record {
    within = λ f h. subst (λ (g : Given). f < (opening g).frames) (sym given) (d.within f h);
    root = d.root;
    closed = λ alone q p l named on.
        way_same path q alone ∙ d.closed alone q p (subst (λ (g : Given). q < (opening g).format.pages) given l) (sym (names_but p (x.buts alone q)) ∙ named) (sym (way_same path p alone) ∙ on);
  }

  pub fetched_leads : (path : List ℕ) (p : ℕ) → LeadsTo z v path p → LeadsTo z u path p
  fetched_leads path p l = λ alone q below named hot.
      way_same path q alone ∙ l alone q (subst (λ (g : Given). q < (opening g).format.pages) given below) (sym (names_but p (x.buts alone q)) ∙ named) (sym (ap is_hot (x.place alone q)) ∙ hot)

  fetching_cools : cools_in (fetching page n) ≡ 0
  fetching_cools = go (is_leaf n.node)
    where
      go : (b : Bool) → cools_in (if b then fetch_of page n ∷ [] else []) ≡ 0
      go true = refl
      go false = refl

  needed_from : {w : View} → AreNeeded z.alone u k w → AreNeeded z.alone v k w
  needed_from {w} d =
      let same : cools_in (fetching page n ++ d.events) ≡ cools_in d.events = (let a = cools_append (fetching page n) d.events in let b = fetching_cools in omega arith) in
      record {
        events = fetching page n ++ d.events;
        ran = ran_append z.alone v (fetching page n) u d.events w x.ran d.ran;
        few = elim d.few [
          | inl a ↦ inl (same ∙ a)
          | inr more ↦ elim more [ inl a ↦ inr (inl (omega arith)) | inr a ↦ inr (inr a) ]
        ];
      }

  share_from : {path : List ℕ} {w : View} (is : Provider) → HasShare path z.alone u k w is → HasShare path z.alone v k w is
  share_from is (inl a) = inl a
  share_from is (inr (inl a)) = inr (inl a)
  share_from is (inr (inr h)) = inr (inr (record { at = h.at; before = fetching page n ++ h.before; after = h.after; came = ran_append z.alone v (fetching page n) u h.before h.at x.ran h.came; went = h.went; none = h.none }))

  pub faulted_fetched : (path : List ℕ) (w : View) (is : Provider) → (z.alone ≡ true → has_hot_parent (opening v.given) (state v).core page ≡ true) → (come : Option ℕ) → Faulted 4 z path u k page come w is → Faulted 5 z path v k page come w is
  faulted_fetched path w is parent (Some f) h = record {
    moved = moved_up (let few : 1 + 4 ≤ 5 = omega arith in few) (moved_then x.moved h.moved);
    keeps = path_then path v u w (x.path path) h.keeps;
    hot = h.hot;
    broken = h.broken;
    needed = λ alone. needed_from (h.needed alone);
    enough = λ alone cold. share_from is (h.enough alone (x.cold page ∙ cold));
    others = λ alone p other. h.others alone p other ∙ x.others alone p other;
  }
  faulted_fetched path w is parent None h = record {
    moved = moved_up (let few : 1 + 4 ≤ 5 = omega arith in few) (moved_then x.moved h.moved);
    keeps = path_then path v u w (x.path path) h.keeps;
    broken = h.broken;
    hot = sym (x.hot page) ∙ h.hot;
    live = sym x.live ∙ h.live;
    astray = λ alone. absurd (true≢false (sym (fetched_parent page alone (parent alone)) ∙ (h.astray alone).0.parent));
  }

  pub refused_fetched : {path : List ℕ} {w : View} {is : Provider} {why : Refusal} → HasRefused 4 z path u k why w is → HasRefused 5 z path v k why w is
  refused_fetched {path} h = refused_up (let few : 1 + 4 ≤ 5 = omega arith in few) (refused_then x.moved (x.path path) refl h)

-- ## The device

fetching_quiet : (page : ℕ) (n : stored.Page) (b : Bool) → all is_quiet (events_of (if b then fetch_of page n ∷ [] else [])) ≡ true
fetching_quiet page n true = refl
fetching_quiet page n false = refl

pub quiet_fetching : (page : ℕ) (n : stored.Page) → all is_quiet (events_of (fetching page n)) ≡ true
quiet_fetching page n = fetching_quiet page n (is_leaf n.node)

-- the slots hold what is saved still: where the device tells, what was read is that
pub mirrored_fetched : {z : Shape} {v u : View} {k is : Provider} {page : ℕ} {n : stored.Page} {old new : Story} → page < length k.slots → WasRead k page old n → Fetched z v k page n u → KeepsMirrors k.slots is.slots old new → is.generation ≡ k.generation → KeepsMirrored v k u is old new
mirrored_fetched {v = v} {u = u} {k = k} {is = is} {page = page} {n = n} {old = old} {new = new} few read x keeps generation m well = record {
  mirrors = subst (λ g. Mirrors is.slots g (state u).core.saved new) (sym generation) (keeps.mirrors (state u).core.saved k.generation (λ tells p l y holds. m.mirrors tells p l y holds ∙ sym (same tells p)));
  spans = keeps.spans m.spans;
}
  where
    same : Tells old 1 → (p : ℕ) → (state u).core.saved p ≡ (state v).core.saved p
    same tells p = x.saved p ∙ (elim (cases_eq p page) [
      | inl e ↦ upd_same (state v).core.saved page (contents_of n) p e ∙ (m.mirrors tells page few n (read.given tells) ∙ ap (λ i. (state v).core.saved i) (sym e))
      | inr ne ↦ upd_other (state v).core.saved page (contents_of n) p ne
    ])

-- ## What was read

pub is_found : {z : Shape} {v : View} {k : Provider} {page : ℕ} {n : stored.Page} {s : Story} → Keeps z v k → page < (opening v.given).format.pages → is_cold ((state v).core.place page) ≡ true → length k.slots ≡ length k.free → (v.given.faithful ≡ true → Gives v k page s) → WasRead k page s n → IsFound v k page n
is_found {v = v} {k = k} {page = page} {n = n} c below cold each gives read = record {
  below = below;
  cold = cold;
  number_is = read.number_is;
  page_is = subst (λ m. IsPage page m n) (each ∙ c.pages) read.page_is;
  as_kept = read.as_kept;
  own = λ f. (let g = gives f in g.saved n (read.given g.tells));
}

-- as the calls left it
pub was_read : {k now : Provider} {page : ℕ} {s : Story} {n : stored.Page} → k ≡ now → IsOf (bounds_of k.slots k.generation) page n → (Tells s 1 → Holds k.slots k.generation page (s.area 1).bytes n) → IsAsKept k.kept page n → WasRead now page s n
was_read {k} {now} {page} {s} {n} same own given kept = subst (λ (p : Provider). WasRead p page s n) same (record { number_is = own.number; page_is = own.stored; given = given; as_kept = kept })

pub altered : {k now : Provider} {page : ℕ} {s : Story} {n : stored.Page} → k ≡ now → (Tells s 1 → Holds k.slots k.generation page (s.area 1).bytes n) → (IsAsKept k.kept page n → ⊥) → Tells s 1 → IsAltered now page s
altered {k} {now} {page} {s} {n} same given other tells = subst (λ (p : Provider). IsAltered p page s) same (record { found = n; holds = given tells; other = other })

-- ## The law

pub given_kept : (s : Story) → EveryGivenKept s
given_kept s z v k page n c below cold gives holds =
    let same : contents_of n ≡ (state v).core.page page = gives.saved n holds ∙ sym ((c.sound v.seen).residence.cold page cold) in
    (every_kept (opening v.given).format (state v).core.page (λ p. is_cold ((state v).core.place p)) k.kept (c.sound v.seen).tree c.kept).passes page n below cold same

-- ## Why it did not come

pub place_fault : {z : Shape} {v u : View} {k : Provider} {page : ℕ} {n : stored.Page} → Fetched z v k page n u → (path : List ℕ) (was : Provider) (s : Story) (w : View) (is : Provider) (why : Refusal) → PlaceCause z path u page w is why → FaultCause z path v was page s w is why
place_fault x path was s w is (refusal.PoolFull on latched above held) k = record { full = k.full; cold = k.cold; others = λ alone p other. k.others alone p other ∙ x.others alone p other }
place_fault x path was s w is refusal.NoPages k = absurd k
place_fault x path was s w is (refusal.Damaged p counts other) k = absurd k
place_fault x path was s w is (refusal.Altered p) k = absurd k
place_fault x path was s w is _ k = tt
