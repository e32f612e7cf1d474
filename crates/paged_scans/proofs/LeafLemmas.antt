-- A leaf in which a scan walks: its fences, its entries, and what the walk leaves of it.
use Rattle.std.proofs.Common.{◌≡◌, ◌∙◌, ◌≤◌, ◌<◌, ◌^◌, ◌++◌, ◌&&◌, ◌==◌, ltb, leb, ℕ, suc, Bool, true, false, cond, List, [], ◌∷◌, map, length, refl, sym, ap, subst, arith, true≢false}
use Rattle.std.proofs.lemmas.Bool.{and_parts, eqb-true, ltb-true}
use Rattle.map_model.specs.Maps.{MapAnswer}
use Rattle.paged_calls.specs.core_calls.Scans.{rows_met}
use Rattle.paged_calls.specs.core_index.Walks.{met_keys}
use Rattle.paged_calls.specs.core_paging.Paging.{Residence}
use Rattle.paged_calls.specs.core_state.Events as happening
use Rattle.paged_calls.specs.core_state.Lists.{count_below}
use Rattle.paged_calls.specs.core_state.Needs.{are_hot, following, holds_answer, is_following, is_leaf_of, may, needs, pages_of}
use Rattle.paged_calls.specs.core_state.Openings.{Opening}
use Rattle.paged_calls.specs.core_state.States.{State, is_hot}
use Rattle.paged_calls.specs.core_state.Steps.{AllMet, happens, run, step}
use Rattle.paged_calls.specs.image_model.Entries.{Contents}
use Rattle.lean_disk.specs.Story.{Story}
use Rattle.page_model.specs.Nodes.{Format, Node, holds}
use Rattle.page_model.specs.Pairs.{Pair}
use Rattle.paged_calls.specs.row_words.declared.event.Event.{Event}
use Rattle.paged_calls.specs.row_words.declared.event.Event.TheVariants.{Next}
use Rattle.paged_calls.specs.row_words.Moments.{Moment, events_of, met_of}
use Rattle.paged_calls.specs.row_words.Openings.{opening}
use Rattle.paged_calls.specs.row_words.Sealed.{begun}
use Rattle.paged_calls.proofs.row_words.SealedLemmas.{run_append}
use Rattle.paged_calls.specs.rows_trait.declared.view.View.{View}
use Rattle.paged_calls.specs.rows_trait.Views.{state}
use Rattle.paged_calls.proofs.session_state.Moments.{seen_state}
use Rattle.paged_calls.proofs.call_parts.RunLemmas.{run_core}
use Rattle.row_scans.specs.Meets.{HasMet, takes_of, told_of}
use Rattle.row_scans.specs.declared.meets.Met.{Met}
use Rattle.row_scans.specs.declared.meets.Met.TheVariants as met
use Rattle.paged_calls.specs.paged_desks.Machines.{IsReady, view_of}
use Rattle.paged_calls.specs.paged_desks.Pages.{ArePaging, hot_in}
use Rattle.paged_calls.specs.paged_desks.declared.machine.PagedMachine.{PagedMachine}
use Rattle.paged_calls.specs.page_pool.Counts.{hot_pages}
use Rattle.paged_calls.specs.Growths.{AreLike}
use Rattle.paged_calls.proofs.EventLemmas.{paging_structure}
use Rattle.paged_calls.proofs.LikeLemmas.{run_came}
use Rattle.paged_calls.proofs.MadeLemmas.{core_paging, making_paging}
use Rattle.paged_scans.specs.Steps.{above_in, pages_above}
use Rattle.paged_scans.proofs.CountLemmas.{above_all, above_fewer, above_same}
use Rattle.paged_scans.proofs.PassLemmas.{locks, walk}

-- ## The events of a walk

-- as the core has them
pub events_walk : (own page key : ℕ) (rows : List ℕ) (x : Met) → events_of (takes_of own rows ++ Next own page key (told_of x) ∷ []) ≡ walk own page key rows (met_of (told_of x))
events_walk own page key [] x = refl
events_walk own page key (i ∷ rows) x = ap (λ es. happening.Event.Lock own i happening.Mode.Shared ∷ es) (events_walk own page key rows x)

pub events_takes : (own : ℕ) (rows : List ℕ) → events_of (takes_of own rows) ≡ locks own rows
events_takes own [] = refl
events_takes own (i ∷ rows) = ap (λ es. happening.Event.Lock own i happening.Mode.Shared ∷ es) (events_takes own rows)

-- how many they are
pub walk_long : (own : ℕ) (rows : List ℕ) (e : Event) → length (takes_of own rows ++ e ∷ []) ≡ suc (length rows)
walk_long own [] e = refl
walk_long own (i ∷ rows) e = ap suc (walk_long own rows e)

pub takes_long : (own : ℕ) (rows : List ℕ) → length (takes_of own rows) ≡ length rows
takes_long own [] = refl
takes_long own (i ∷ rows) = ap suc (takes_long own rows)

-- ## What they leave as it is

-- pages, and where they stand
abbrev pub IsStillThere : State → State → Type 0
IsStillThere s t = (t.page ≡ s.page) × (t.place ≡ s.place)

there_then : (s t u : State) → IsStillThere s t → IsStillThere t u → IsStillThere s u
there_then s t u a b = (b.0 ∙ a.0, b.1 ∙ a.1)

there_lock : (g : Opening) (s : State) (w i : ℕ) → IsStillThere s (step g s (happening.Event.Lock w i happening.Mode.Shared))
there_lock g s w i = go (may g s (happening.Event.Lock w i happening.Mode.Shared))
  where
    go : (b : Bool) → IsStillThere s (cond b (happens g s (happening.Event.Lock w i happening.Mode.Shared)) s)
    go true = (refl, refl)
    go false = (refl, refl)

there_next : (g : Opening) (s : State) (w page at : ℕ) (x : Met) → IsStillThere s (step g s (happening.Event.Next w page at (met_of (told_of x))))
there_next g s w page at (met.Pair j v) = go (may g s (happening.Event.Next w page at (MapAnswer.Pair j v)))
  where
    go : (b : Bool) → IsStillThere s (cond b (happens g s (happening.Event.Next w page at (MapAnswer.Pair j v))) s)
    go true = (refl, refl)
    go false = (refl, refl)
there_next g s w page at (met.Gap high) = go (may g s (happening.Event.Next w page at (MapAnswer.Gap high)))
  where
    go : (b : Bool) → IsStillThere s (cond b (happens g s (happening.Event.Next w page at (MapAnswer.Gap high))) s)
    go true = (refl, refl)
    go false = (refl, refl)

pub locks_there : (g : Opening) (w : ℕ) (rows : List ℕ) (s : State) → IsStillThere s (run g s (locks w rows))
locks_there g w [] s = (refl, refl)
locks_there g w (i ∷ rows) s = let t = step g s (happening.Event.Lock w i happening.Mode.Shared) in there_then s t (run g t (locks w rows)) (there_lock g s w i) (locks_there g w rows t)

pub walk_there : (g : Opening) (w page at : ℕ) (x : Met) (rows : List ℕ) (s : State) → IsStillThere s (run g s (walk w page at rows (met_of (told_of x))))
walk_there g w page at x [] s = there_next g s w page at x
walk_there g w page at x (i ∷ rows) s =
    let t = step g s (happening.Event.Lock w i happening.Mode.Shared) in
    there_then s t (run g t (walk w page at rows (met_of (told_of x)))) (there_lock g s w i) (walk_there g w page at x rows t)

-- ## What the walk needs

-- the page is the key's leaf, and says so
pub record IsLeafAt (g : Opening) (s : State) (page key : ℕ) (a : MapAnswer) : Type 0 where
  pub below : page < g.format.pages
  pub leaf : is_leaf_of g (s.page page).node page key ≡ true
  pub follows : is_following a (following g.format key (s.page page).node.pairs (s.page page).node.high) ≡ true

leaf_may : (g : Opening) (s : State) (w page key : ℕ) (a : MapAnswer) → may g s (happening.Event.Next w page key a) ≡ true → IsLeafAt g s page key a
leaf_may g s w page key a m =
    let n = (s.page page).node in
    let p = and_parts (are_hot s (pages_of (happening.Event.Next w page key a))) (needs g s (happening.Event.Next w page key a)) m in
    let q = and_parts (s.worker w).is_open (is_leaf_of g n page key && (is_following a (following g.format key n.pairs n.high) && holds_answer g s w a)) p.1 in
    let r = and_parts (is_leaf_of g n page key) (is_following a (following g.format key n.pairs n.high) && holds_answer g s w a) q.1 in
    record {
      below = ltb-true page g.format.pages (and_parts (ltb page g.format.pages) (holds n key) r.0).0;
      leaf = r.0;
      follows = (and_parts (is_following a (following g.format key n.pairs n.high)) (holds_answer g s w a) r.1).0;
    }

leaf_page : (g : Opening) (s t : State) (page key : ℕ) (a : MapAnswer) → t.page ≡ s.page → IsLeafAt g t page key a → IsLeafAt g s page key a
leaf_page g s t page key a e k = record {
  below = k.below;
  leaf = ap (λ p. is_leaf_of g (p page).node page key) (sym e) ∙ k.leaf;
  follows = ap (λ p. is_following a (following g.format key (p page).node.pairs (p page).node.high)) (sym e) ∙ k.follows;
}

-- behind its rows, and so before them
pub leaf_of : (g : Opening) (w page key : ℕ) (a : MapAnswer) (rows : List ℕ) (s : State) → AllMet g s (walk w page key rows a) → IsLeafAt g s page key a
leaf_of g w page key a [] s m = leaf_may g s w page key a m.0
leaf_of g w page key a (i ∷ rows) s m =
    let t = step g s (happening.Event.Lock w i happening.Mode.Shared) in
    leaf_page g s t page key a (there_lock g s w i).0 (leaf_of g w page key a rows t m.1)

-- a gap ends at the leaf's fence
gap_end : (f : Format) (key : ℕ) (ps : List Pair) (top high : ℕ) → is_following (MapAnswer.Gap high) (following f key ps top) ≡ true → top ≡ high
gap_end f key [] top high e = sym (eqb-true high top e)
gap_end f key (x ∷ xs) top high e = go (leb key x.key && ltb x.word f.dead) e (gap_end f key xs top high)
  where
    go : (b : Bool) → is_following (MapAnswer.Gap high) (cond b (MapAnswer.Pair x.key x.word) (following f key xs top)) ≡ true → (is_following (MapAnswer.Gap high) (following f key xs top) ≡ true → top ≡ high) → top ≡ high
    go true q ih = absurd (true≢false (sym q))
    go false q ih = ih q

-- ## How many entries

-- no more rows than entries
few_rows : (f : Format) (row_of : ℕ → ℕ) (key : ℕ) (ps : List Pair) → length (map row_of (met_keys f key ps)) ≤ length ps
few_rows f row_of key [] = omega arith
few_rows f row_of key (x ∷ xs) = go (leb key x.key) (ltb x.word f.dead) (few_rows f row_of key xs)
  where
    go : (b c : Bool) → length (map row_of (met_keys f key xs)) ≤ length xs → length (map row_of (cond b (x.key ∷ cond c [] (met_keys f key xs)) (met_keys f key xs))) ≤ suc (length xs)
    go true true l = omega arith
    go true false l = omega arith
    go false c l = omega arith

module _ {D : Type 0} (story : D → Story) (m : PagedMachine D) (ready : IsReady story m) where
  abbrev v : View
  v = view_of m

  -- no more pages than there may be
  pages_few : (opening v.given).format.pages ≤ 2 ^ 16
  pages_few = let a = ready.opens.few in omega arith

  pub above_few : (key : ℕ) → above_in m key ≤ 2 ^ 16
  above_few key = let a = above_all (opening v.given) (state v).core key in let b = pages_few in omega arith

  -- a leaf has sixty entries at most
  pub leaf_few : (page key : ℕ) → page < (opening v.given).format.pages → holds ((state v).core.page page).node key ≡ true → length (rows_met (opening v.given) (state v).core page key) ≤ 60
  leaf_few page key below leaf =
      let n = ((state v).core.page page).node in
      let live : n.live ≡ true = (and_parts n.live (n.level == 0) (and_parts (n.live && (n.level == 0)) (n.live && (leb n.low key && ltb key n.high)) leaf).0).0 in
      let a : length n.pairs ≤ 60 = (((ready.keeps.sound v.seen).tree.formed page below).node live).sized in
      let b = few_rows (opening v.given).format (opening v.given).row_of key n.pairs in
      omega arith

  -- while pages come each stays as it is, but for the entries of leaves
  module _ (n : PagedMachine D) (es : List Event) (paging : ArePaging es) (given : (view_of n).given ≡ v.given) (seen : (view_of n).seen ≡ v.seen ++ es) where
    abbrev g : Opening
    g = opening v.given

    abbrev s : State
    s = (state v).core

    core_is : (state (view_of n)).core ≡ run g s (events_of es)
    core_is = ap (λ (x : Moment). x.core) (seen_state v (view_of n) es given seen) ∙ run_core v.given (state v) es

    resides_on : (more : List Event) → Residence g (run g s (events_of more))
    resides_on more = subst (λ (t : State). Residence g t) (ap (λ (x : Moment). x.core) (run_append v.given (begun v.given) v.seen more) ∙ run_core v.given (state v) more)
        (ready.keeps.sound (v.seen ++ more)).residence

    like : AreLike s (state (view_of n)).core
    like = subst (λ (t : State). AreLike s t) (sym core_is) (run_came g es s resides_on (core_paging 0 es (making_paging 0 es paging) (paging_structure es paging)))

    -- so as many are above a key
    pub above_come : (key : ℕ) → above_in n key ≡ above_in m key
    above_come key = (λ i. pages_above (opening (given i)) (state (view_of n)).core key) ∙ above_same g s (state (view_of n)).core key (λ p. ap (λ (x : Node). x.high) (like p).fields)

-- ## Behind a walk

module _ {D : Type 0} (own key : ℕ) (x : Met) (m n : PagedMachine D) (d : HasMet own (view_of m) (view_of n) key x) where
  abbrev pub there : Opening
  there = opening (view_of m).given

  abbrev pub then_is : State
  then_is = (state (view_of m)).core

  abbrev pub rows_of : List ℕ
  rows_of = rows_met there then_is d.page key

  pub walk_is : (state (view_of n)).core ≡ run there then_is (walk own d.page key rows_of (met_of (told_of x)))
  walk_is = ap (λ (q : Moment). q.core) (seen_state (view_of m) (view_of n) (takes_of own rows_of ++ Next own d.page key (told_of x) ∷ []) d.given d.seen)
      ∙ (run_core (view_of m).given (state (view_of m)) (takes_of own rows_of ++ Next own d.page key (told_of x) ∷ []) ∙ ap (run there then_is) (events_walk own d.page key rows_of x))

  pub still_there : IsStillThere then_is (state (view_of n)).core
  still_there = subst (IsStillThere then_is) (sym walk_is) (walk_there there own d.page key x rows_of then_is)

  pub met_leaf : IsLeafAt there then_is d.page key (met_of (told_of x))
  met_leaf = leaf_of there own d.page key (met_of (told_of x)) rows_of then_is (subst (AllMet there then_is) (events_walk own d.page key rows_of x) d.met)

  -- the same pages are hot
  pub hot_walk : hot_in n ≡ hot_in m
  hot_walk = (λ i. hot_pages (opening (d.given i)) (state (view_of n)).core) ∙ (λ i. count_below there.format.pages (λ p. is_hot (still_there.1 i p)))

  above_walk : (at : ℕ) → above_in n at ≡ above_in m at
  above_walk at = (λ i. pages_above (opening (d.given i)) (state (view_of n)).core at) ∙ above_same there then_is (state (view_of n)).core at (λ p. ap (λ (f : ℕ → Contents). (f p).node.high) still_there.0)

  -- it has few rows
  pub few_walk : (story : D → Story) → IsReady story m → length rows_of ≤ 60
  few_walk story ready = leaf_few story m ready d.page key met_leaf.below (and_parts (ltb d.page there.format.pages) (holds (then_is.page d.page).node key) met_leaf.leaf).1

-- behind a gap there is one leaf less
pub gap_fewer : {D : Type 0} (own key high : ℕ) (m n : PagedMachine D) → HasMet own (view_of m) (view_of n) key (met.Gap high) → suc (above_in n high) ≤ above_in m key
gap_fewer own key high m n d =
    let g = opening (view_of m).given in
    let s = (state (view_of m)).core in
    let k = met_leaf own key (met.Gap high) m n d in
    let a = above_walk own key (met.Gap high) m n d high in
    let b = above_fewer g s d.page key high k.below d.leaf (gap_end g.format key (s.page d.page).node.pairs (s.page d.page).node.high high k.follows) in
    omega arith
