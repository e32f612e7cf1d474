-- Where a page finds no frame so many pages are above what is flushed everywhere; a sync leaves none.
use Rattle.std.proofs.Common.{◌≡◌, ◌⊎◌, inl, inr, ◌≤◌, ◌<◌, ◌+◌, ◌*◌, ◌++◌, ◌&&◌, ◌||◌, leb, ltb, ℕ, suc, Bool, true, false, List, [], ◌∷◌, refl, sym, ap, ◌∙◌, subst, arith, append_assoc, true≢false}
use Rattle.std.specs.Prelude.{min}
use Rattle.std.proofs.lemmas.Bool.{and_parts, eqb-true, leb-true, lt-ltb, ltb-true, or_left, or_right}
use Rattle.std.proofs.lemmas.List.{append-nil}
use Rattle.page_model.specs.Nodes.{Node, covers}
use Rattle.page_model.specs.Tree.{IsTree}
use Rattle.page_model.proofs.Tree.{Lies, ok, one, tall}
use Rattle.core_paging.specs.core_state.Openings.{Opening}
use Rattle.core_paging.specs.core_state.States.{Place, State, flushed_by_all, in_frame, nodes_of}
use Rattle.core_paging.specs.core_state.Events.{Event}
use Rattle.core_paging.specs.core_state.Lists.{count_below}
use Rattle.core_paging.specs.core_state.Needs.{may}
use Rattle.core_paging.specs.core_state.Steps.{AllMet, state_after, step}
use Rattle.core_paging.specs.Paging.{EveryResidence}
use Rattle.core_calls.specs.LogEvents.{IsTight, IsTightSomewhere, SyncsWhere}
use Rattle.core_covers.specs.Highs.{EveryHigh, is_above, pages_above, writes}
use Rattle.core_covers.specs.Lows.{EverySync}
use Rattle.core_covers.proofs.ChangeLemmas.{good, state_then}
use Rattle.sync_counts.specs.Syncs.{EverySyncCount, EveryTight, syncs}
use Rattle.sync_counts.proofs.CountLemmas.{count_all, count_either, count_into}

-- ## Where a page finds no frame

-- a live node with the key in its fences
lies : (v : Node) (k : ℕ) → covers v k ≡ true → Lies v k
lies v k h =
    let a = and_parts v.live (leb v.low k && ltb k v.high) h in
    let b = and_parts (leb v.low k) (ltb k v.high) a.1 in record { live = a.0; low = leb-true v.low k b.0; high = ltb-true k v.high b.1 }

-- a page stands in one frame
in_one : (x : Place) (i j : ℕ) → in_frame x i ≡ true → in_frame x j ≡ true → i ≡ j
in_one (Place.Hot f) i j a b = sym (eqb-true f i a) ∙ eqb-true f j b
in_one (Place.Cooling f e v) i j a b = sym (eqb-true f i a) ∙ eqb-true f j b
in_one Place.Cold i j a b = absurd (true≢false (sym a))

module _ (residence : EveryResidence) (g : Opening) (es : List Event) (key : ℕ) where
  abbrev s : State
  s = state_after g es

  tree : IsTree g.format (nodes_of s)
  tree = (good g es).inv.tree

  abbrev on_way : ℕ → Bool
  on_way p = covers (s.page p).node key

  -- a page of the way for each level
  way : count_below g.format.pages on_way ≤ suc (nodes_of s 0).level
  way =
      let a = count_into g.format.pages (suc (nodes_of s 0).level) on_way (λ _. true) (λ p _. (nodes_of s p).level)
      (λ p l c. (let t = tall g.format (nodes_of s) tree p l (lies (nodes_of s p) key c).live in omega arith, refl))
      (λ p q l k c d e. one g.format (nodes_of s) tree p q key l k (lies (nodes_of s p) key c) (lies (nodes_of s q) key d) e) in
      let b = count_all (suc (nodes_of s 0).level) in omega arith

  taken : IsTight g s key → g.frames ≤ count_below g.format.pages (λ p. on_way p || is_above g s p)
  taken t =
      let a = count_into g.frames g.format.pages (λ _. true) (λ p. on_way p || is_above g s p) (λ f l. (t.taken f l).page)
      (λ f l _. (((residence g es).within (t.taken f l).page f (t.taken f l).here).0, passes (t.taken f l).page (t.taken f l).stays))
      (λ f h l k _ _ e. in_one (s.place (t.taken f l).page) f h (t.taken f l).here (ap (λ (p : ℕ). in_frame (s.place p) h) e ∙ (t.taken h k).here)) in
      let b = count_all g.frames in omega arith
    where
      passes : (p : ℕ) → (covers (s.page p).node key ≡ true) ⊎ (flushed_by_all g s < (s.page p).gsn) → (on_way p || is_above g s p) ≡ true
      passes p (inl c) = or_left (on_way p) (is_above g s p) c
      passes p (inr high) = or_right (on_way p) (is_above g s p) (lt-ltb (flushed_by_all g s) (s.page p).gsn high)

pub every_tight : EveryResidence → EveryTight
every_tight residence g es key t =
    let a = taken residence g es key t in
    let b = count_either g.format.pages (on_way residence g es key) (is_above g (state_after g es)) in
    let c = way residence g es key in omega arith

-- ## How many syncs

module _ (tights : EveryTight) (highs : EveryHigh) (synced : EverySync) (g : Opening) (n : ℕ) (free : n + suc g.format.levels ≤ g.frames) where
  abbrev above : List Event → ℕ
  above es = pages_above g (state_after g es)

  pressed : (es : List Event) → IsTightSomewhere g (state_after g es) → n ≤ above es
  pressed es t =
      let a = tights g es t.0 t.1 in
      let i = (good g es).inv.tree in
      let b = (ok g.format (nodes_of (state_after g es)) i 0 i.some i.root.0).tall in omega arith

  -- a sync leaves none
  gone : (es : List Event) (m : ℕ) → may g (state_after g es) (Event.Sync m) ≡ true → above (es ++ Event.Sync m ∷ []) ≡ 0
  gone es m met = (highs g (es ++ Event.Sync m ∷ [])).none ((synced g es).synced m met)

  -- one event more
  module _ (es : List Event) (e : Event) (later : List Event) where
    regroup : above ((es ++ e ∷ []) ++ later) ≡ above (es ++ e ∷ later)
    regroup = ap above (append_assoc es (e ∷ []) later)

    met_then : AllMet g (step g (state_after g es) e) later → AllMet g (state_after g (es ++ e ∷ [])) later
    met_then = subst (λ (t : State). AllMet g t later) (sym (state_then g es e))

    where_then : (flushed : Bool) → SyncsWhere (IsTightSomewhere g) g (step g (state_after g es) e) flushed later → SyncsWhere (IsTightSomewhere g) g (state_after g (es ++ e ∷ [])) flushed later
    where_then flushed = subst (λ (t : State). SyncsWhere (IsTightSomewhere g) g t flushed later) (sym (state_then g es e))

  -- Behind the first flush of a sync its pages are counted.
  abbrev Counts : Bool → (es later : List Event) → Type 0
  Counts false es later = n * syncs later + min n (above (es ++ later)) ≤ min n (above es) + writes later
  Counts true es later = n * syncs later + min n (above (es ++ later)) ≤ n + writes later

  count : (later es : List Event) (flushed : Bool) → AllMet g (state_after g es) later → SyncsWhere (IsTightSomewhere g) g (state_after g es) flushed later → Counts flushed es later
  count [] es false met x = let e = ap above (append-nil es) in omega arith
  count [] es true met x = absurd x
  count (Event.Cut y heads ∷ later) es false met x = absurd x
  count (Event.Cut y heads ∷ later) es true met x = absurd x
  count (Event.Flush w m ∷ later) es false met x =
      let e : Event = Event.Flush w m in
      let a = count later (es ++ e ∷ []) true (met_then es e later met.1) (where_then es e later true x.1) in
      let b = regroup es e later in
      let p = pressed es x.0 in omega arith
  count (Event.Flush w m ∷ later) es true met x =
      let e : Event = Event.Flush w m in
      let a = count later (es ++ e ∷ []) true (met_then es e later met.1) (where_then es e later true x) in
      let b = regroup es e later in omega arith
  count (Event.Sync m ∷ later) es false met x =
      let e : Event = Event.Sync m in
      let a = count later (es ++ e ∷ []) false (met_then es e later met.1) (where_then es e later false x.1) in
      let b = regroup es e later in
      let c = gone es m met.0 in
      let p = pressed es x.0 in omega arith
  count (Event.Sync m ∷ later) es true met x =
      let e : Event = Event.Sync m in
      let a = count later (es ++ e ∷ []) false (met_then es e later met.1) (where_then es e later false x) in
      let b = regroup es e later in
      let c = gone es m met.0 in omega arith
  count (e ∷ later) es false met x =
      let a = count later (es ++ e ∷ []) false (met_then es e later met.1) (where_then es e later false x) in
      let b = regroup es e later in
      let c = (highs g es).rise (e ∷ []) in omega arith
  count (e ∷ later) es true met x = absurd x

pub every_sync_count : EveryTight → EveryHigh → EverySync → EverySyncCount
every_sync_count tights highs synced g es later = record {
  count = λ n free met x. count tights highs synced g n free later es false met x;
  abort = λ free met x few. let a = count tights highs synced g 24 free later es false met x in omega arith;
}
