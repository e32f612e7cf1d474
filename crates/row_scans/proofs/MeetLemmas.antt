-- Rows that are taken one after another, and the walk behind them.
use Rattle.std.proofs.Common.{◌≡◌, ◌⊎◌, inl, inr, ◌∙◌, ◌≤◌, ◌<◌, ◌^◌, ◌%◌, ◌++◌, ltb, ℕ, suc, Bool, true, false, cond, List, [], ◌∷◌, length, map, Err, refl, sym, ap, subst, arith, append-nil}
use Rattle.std.proofs.lemmas.Bool.{and_from, lt-ltb}
use Rattle.std.proofs.lemmas.List.{append_assoc, length-append}
use Rattle.map_model.specs.Lists.{Has}
use Rattle.map_model.proofs.ListLemmas.{has_cases, has_left, has_right}
use Rattle.map_model.specs.declared.call.Refusal.{Refusal}
use Rattle.map_model.specs.declared.call.Refusal.TheVariants as refusal
use Rattle.page_model.specs.Nodes.{holds}
use Rattle.row_changes.specs.session_state.core_calls.Refusals.{Hinders}
use Rattle.row_changes.specs.session_state.core_calls.Scans.{IsHinderedNext, IsOnWay, rows_met}
use Rattle.row_changes.specs.session_state.core_index.Walks.{met_keys}
use Rattle.row_changes.specs.session_state.core_state.Events as happening
use Rattle.row_changes.specs.session_state.core_state.Needs.{is_leaf_of, is_reader, may, value_in}
use Rattle.row_changes.specs.session_state.core_state.Openings.{Opening}
use Rattle.row_changes.specs.session_state.core_state.States.{State, is_hot}
use Rattle.row_changes.specs.session_state.core_state.Steps as core
use Rattle.row_changes.specs.session_state.core_state.Steps.{AllMet, happens}
use Rattle.row_changes.specs.session_state.flush_avoidance.Clocks.{risen}
use Rattle.row_changes.specs.session_state.key_locks.Rows.{event_mode}
use Rattle.row_changes.specs.session_state.key_locks.declared.mode.Mode.TheVariants.{Shared}
use Rattle.row_changes.specs.session_state.row_words.declared.event.Event.{Event}
use Rattle.row_changes.specs.session_state.row_words.declared.event.Event.TheVariants.{Lock, Next}
use Rattle.row_changes.specs.session_state.row_words.declared.given.Given.{Given}
use Rattle.row_changes.specs.session_state.row_words.Moments.{Moment, event_of, events_of}
use Rattle.row_changes.specs.session_state.row_words.Openings.{opening}
use Rattle.row_changes.specs.session_state.row_words.Sealed.{run, stepped}
use Rattle.row_changes.specs.session_state.rows_trait.declared.view.View.{View}
use Rattle.row_changes.specs.session_state.rows_trait.Views.{Shape, state}
use Rattle.row_changes.specs.session_state.btree_descent.Known.{Sound}
use Rattle.row_changes.specs.session_state.worker_log.Logs.{Log}
use Rattle.row_changes.specs.session_state.Held.{Held, with_row}
use Rattle.row_changes.specs.session_state.Holds.{Holds}
use Rattle.row_changes.specs.session_state.Staging.{IsButClock}
use Rattle.row_changes.specs.session_state.declared.session.Session.{Session}
use Rattle.row_changes.proofs.session_state.HeldLemmas.{reader_has}
use Rattle.row_changes.proofs.session_state.Moments.{events_more, seen_state}
use Rattle.row_changes.specs.Takes.{NotTaken, Takes}
use Rattle.row_changes.specs.Ways.{HasMetCold}
use Rattle.row_changes.proofs.SeenLemmas.{still}
use Rattle.row_changes.proofs.TakeLemmas.{row_is, takes_row, with_count}
use Rattle.row_scans.specs.Inside.{AreFirst, AreHeld, HasWalked, IsFirst, IsNextEntry}
use Rattle.row_scans.specs.Meets.{HasMet, HasTaken, IsButRows, IsInLeaf, IsNoConflict, Meets, takes_of, told_of, walk_of}
use Rattle.row_scans.specs.declared.meets.Met.{Met}
use Rattle.row_scans.specs.declared.meets.Met.TheVariants as met
use Rattle.row_scans.specs.declared.meets.Unmet.TheVariants as unmet
use Rattle.row_scans.proofs.LookLemmas.{first_few}

-- ## Events one behind another

stepped_core : (v : Given) (m : Moment) (e : Event) → (stepped v m e).core ≡ core.step (opening v) m.core (event_of e)
unfolding stepped
stepped_core v m e = refl

run_core : (v : Given) (m : Moment) (es : List Event) → (run v m es).core ≡ core.run (opening v) m.core (events_of es)
run_core v m [] = refl
run_core v m (e ∷ es) = run_core v (stepped v m e) es ∙ ap (λ s. core.run (opening v) s (events_of es)) (stepped_core v m e)

met_join : (g : Opening) (s : State) (es fs : List happening.Event) → AllMet g s es → AllMet g (core.run g s es) fs → AllMet g s (es ++ fs)
met_join g s [] fs a b = b
met_join g s (e ∷ es) fs a b = (a.0, met_join g (core.step g s e) es fs a.1 b)

-- these were seen next, each where its need was met
record Sees (es : List Event) (v w : View) : Type 0 where
  given : w.given ≡ v.given
  seen : w.seen ≡ v.seen ++ es
  met : AllMet (opening v.given) (state v).core (events_of es)

sees_core : (es : List Event) (v w : View) → Sees es v w → (state w).core ≡ core.run (opening v.given) (state v).core (events_of es)
sees_core es v w s = ap (λ m. m.core) (seen_state v w es s.given s.seen) ∙ run_core v.given (state v) es

sees_more : (es fs : List Event) (v u w : View) → Sees es v u → Sees fs u w → Sees (es ++ fs) v w
sees_more es fs v u w a b = record {
  given = b.given ∙ a.given;
  seen = b.seen ∙ (ap (λ ys. ys ++ fs) a.seen ∙ append_assoc v.seen es fs);
  met = subst (λ ys. AllMet (opening v.given) (state v).core ys) (sym (events_more es fs)) (met_join (opening v.given) (state v).core (events_of es) (events_of fs) a.met
      (subst (λ s. AllMet (opening v.given) s (events_of fs)) (sees_core es v u a) (subst (λ (k : Given). AllMet (opening k) (state u).core (events_of fs)) a.given b.met)));
}

-- ## Rows that were taken

takes_more : (own : ℕ) (rows : List ℕ) (i : ℕ) → takes_of own (rows ++ i ∷ []) ≡ takes_of own rows ++ Lock own i (event_mode Shared) ∷ []
takes_more own [] i = refl
takes_more own (r ∷ rows) i = ap (λ es. Lock own r (event_mode Shared) ∷ es) (takes_more own rows i)

sees_taken : (own : ℕ) (rows : List ℕ) (v w : View) → HasTaken own rows v w → Sees (takes_of own rows) v w
sees_taken own rows v w t = record { given = t.given; seen = t.seen; met = t.met }

-- none yet
pub none_taken : (own : ℕ) (v w : View) → w.given ≡ v.given → w.seen ≡ v.seen → HasTaken own [] v w
none_taken own v w given seen = record { given = given; seen = seen ∙ sym (append-nil v.seen); met = tt }

-- where nothing more was seen
pub taken_still : (own : ℕ) (rows : List ℕ) (v u w : View) → w.given ≡ u.given → w.seen ≡ u.seen → HasTaken own rows v u → HasTaken own rows v w
taken_still own rows v u w given seen t = record { given = given ∙ t.given; seen = seen ∙ t.seen; met = t.met }

-- and one more
pub taken_more : (own : ℕ) (rows : List ℕ) (v u w : View) (x y : Session) (i : ℕ) → x.own ≡ own → HasTaken own rows v u → Takes u w x y i Shared → HasTaken own (rows ++ i ∷ []) v w
taken_more own rows v u w x y i is t k =
    let one : Sees (Lock own i (event_mode Shared) ∷ []) u w = subst (λ n. Sees (Lock n i (event_mode Shared) ∷ []) u w) is (record { given = k.given; seen = k.seen; met = (k.met, tt) }) in
    let s = subst (λ es. Sees es v w) (sym (takes_more own rows i)) (sees_more (takes_of own rows) (Lock own i (event_mode Shared) ∷ []) v u w (sees_taken own rows v u t) one) in
    record { given = s.given; seen = s.seen; met = s.met }

-- no page changes, nor where it is
record SamePages (s t : State) : Type 0 where
  page : t.page ≡ s.page
  place : t.place ≡ s.place

lock_pages : (g : Opening) (s : State) (own i : ℕ) (m : happening.Mode) → SamePages s (core.step g s (happening.Event.Lock own i m))
lock_pages g s own i m = go (may g s (happening.Event.Lock own i m))
  where
    go : (b : Bool) → SamePages s (cond b (happens g s (happening.Event.Lock own i m)) s)
    go true = record { page = refl; place = refl }
    go false = record { page = refl; place = refl }

run_pages : (g : Opening) (own : ℕ) (rows : List ℕ) (s : State) → SamePages s (core.run g s (events_of (takes_of own rows)))
run_pages g own [] s = record { page = refl; place = refl }
run_pages g own (i ∷ rows) s =
    let e = event_of (Lock own i (event_mode Shared)) in
    let a = lock_pages g s own i happening.Mode.Shared in
    let b = run_pages g own rows (core.step g s e) in record { page = b.page ∙ a.page; place = b.place ∙ a.place }

pages_taken : (own : ℕ) (rows : List ℕ) (v w : View) → HasTaken own rows v w → SamePages (state v).core (state w).core
pages_taken own rows v w t = subst (SamePages (state v).core) (sym (sees_core (takes_of own rows) v w (sees_taken own rows v w t))) (run_pages (opening v.given) own rows (state v).core)

-- so the first entries are these still
first_on : (v w : View) (key : ℕ) (keys : List ℕ) → w.given ≡ v.given → SamePages (state v).core (state w).core → IsFirst v key keys → IsFirst w key keys
first_on v w key keys given same f = record {
  page = f.page;
  below = subst (λ (k : Given). f.page < (opening k).format.pages) (sym given) f.below;
  hot = ap (λ place. is_hot (place f.page)) same.place ∙ f.hot;
  leaf = ap (λ page. holds (page f.page).node key) same.page ∙ f.leaf;
  rest = f.rest;
  whole = (λ i. met_keys (opening (given i)).format key (same.page i f.page).node.pairs) ∙ f.whole;
}

same_still : (v w : View) → w.given ≡ v.given → w.seen ≡ v.seen → SamePages (state v).core (state w).core
same_still v w given seen = let e = ap (λ (m : Moment). m.core) (still v w given seen) in record { page = ap (λ s. s.page) e; place = ap (λ s. s.place) e }

pub first_still : (v w : View) (key : ℕ) (keys : List ℕ) → w.given ≡ v.given → w.seen ≡ v.seen → IsFirst v key keys → IsFirst w key keys
first_still v w key keys given seen f = first_on v w key keys given (same_still v w given seen) f

pub first_taken : (v w : View) (x y : Session) (i key : ℕ) (keys : List ℕ) → Takes v w x y i Shared → IsFirst v key keys → IsFirst w key keys
first_taken v w x y i key keys k f = first_on v w key keys k.given (pages_taken x.own (i ∷ []) v w (record { given = k.given; seen = k.seen; met = (k.met, tt) })) f

-- ## Rows of entries

-- the rows of the entries
abbrev pub rows_of : View → List ℕ → List ℕ
rows_of v keys = map (opening v.given).row_of keys

map_more : (f : ℕ → ℕ) (xs ys : List ℕ) → map f (xs ++ ys) ≡ map f xs ++ map f ys
map_more f [] ys = refl
map_more f (x ∷ xs) ys = ap (λ zs. f x ∷ zs) (map_more f xs ys)

pub rows_more : (v : View) (keys : List ℕ) (at : ℕ) → rows_of v (keys ++ at ∷ []) ≡ rows_of v keys ++ (opening v.given).row_of at ∷ []
rows_more v keys at = map_more (opening v.given).row_of keys (at ∷ [])

-- of the first entries they are the first rows on the way
leaf_at : (w : View) (key : ℕ) (keys : List ℕ) (f : IsFirst w key keys) → is_leaf_of (opening w.given) ((state w).core.page f.page).node f.page key ≡ true
leaf_at w key keys f = and_from (ltb f.page (opening w.given).format.pages) (holds ((state w).core.page f.page).node key) (lt-ltb f.page (opening w.given).format.pages f.below) f.leaf

pub way_of : (w : View) (key : ℕ) (keys : List ℕ) → AreFirst w key keys → IsOnWay (opening w.given) (state w).core key (rows_of w keys)
way_of w key keys (inl e) = inl (ap (rows_of w) e)
way_of w key keys (inr f) = inr (
  map (opening w.given).row_of f.rest,
  record {
    page = f.page;
    leaf = leaf_at w key keys f;
    rows = ap (map (opening w.given).row_of) f.whole ∙ map_more (opening w.given).row_of keys f.rest;
  },
)

-- the row of the next is another's
pub hindered_at : (w : View) (own key at h : ℕ) (keys : List ℕ) → IsFirst w key (keys ++ at ∷ []) → Hinders ((state w).core.row ((opening w.given).row_of at)) own happening.Mode.Shared h → IsHinderedNext (opening w.given) own h (state w).core key (rows_of w keys)
hindered_at w own key at h keys f hinders = (
  (opening w.given).row_of at,
  map (opening w.given).row_of f.rest,
  record {
    page = f.page;
    leaf = leaf_at w key (keys ++ at ∷ []) f;
    rows = ap (map (opening w.given).row_of) (f.whole ∙ append_assoc keys (at ∷ []) f.rest) ∙ map_more (opening w.given).row_of keys (at ∷ f.rest);
  },
  hinders,
)

-- ## Rows that the session has

with_kept : (h : Held) (row i : ℕ) → Has i h.rows → Has i (with_row h row).rows
with_kept h row i t = go (is_reader row h.rows)
  where
    go : (b : Bool) → Has i (cond b h (record { count = h.count; rows = h.rows ++ row ∷ [] })).rows
    go true = t
    go false = has_left i h.rows (row ∷ []) t

with_it : (h : Held) (row : ℕ) → Has row (with_row h row).rows
with_it h row = go (is_reader row h.rows) refl
  where
    go : (b : Bool) → is_reader row h.rows ≡ b → Has row (cond b h (record { count = h.count; rows = h.rows ++ row ∷ [] })).rows
    go true e = reader_has row h.rows e
    go false e = has_right row h.rows (row ∷ []) (inl refl)

pub held_more : (v w : View) (x y : Session) (at : ℕ) (keys : List ℕ) → Takes v w x y (at % x.held.count) Shared → AreHeld x keys → AreHeld y (keys ++ at ∷ [])
held_more v w x y at keys k held i t =
    let n = at % x.held.count in
    let p : Has (i % x.held.count) (with_row x.held n).rows = one (has_cases i keys (at ∷ []) t) in
    let q : Has (i % (with_row x.held n).count) (with_row x.held n).rows = subst (λ m. Has (i % m) (with_row x.held n).rows) (sym (with_count x.held n)) p in
    subst (λ (h : Held). Has (i % h.count) h.rows) (ap (λ (s : Session). s.held) (sym k.session)) q
  where
    one : Has i keys ⊎ Has i (at ∷ []) → Has (i % x.held.count) (with_row x.held (at % x.held.count)).rows
    one (inl h) = with_kept x.held (at % x.held.count) (i % x.held.count) (held i h)
    one (inr (inl e)) = subst (λ j. Has (j % x.held.count) (with_row x.held (at % x.held.count)).rows) (sym e) (with_it x.held (at % x.held.count))
    one (inr (inr none)) = absurd none

-- ## The session

pub rows_then : (x y u : Session) → IsButRows x y → IsButRows y u → IsButRows x u
rows_then x y u a b = b ∙ ap (λ (s : Session). record s { clock = risen s.clock u.clock; held = u.held }) a

pub rows_taken : (v w : View) (x y : Session) (i : ℕ) → Takes v w x y i Shared → IsButRows x y
rows_taken v w x y i k = k.session ∙ ap (λ h. record x { clock = risen x.clock y.clock; held = h }) (ap (λ (s : Session). s.held) (sym k.session))

pub rows_clock : (x y : Session) → IsButClock x y → IsButRows x y
rows_clock x y b = b ∙ ap (λ h. record x { clock = risen x.clock y.clock; held = h }) (ap (λ (s : Session). s.held) (sym b))

pub rows_same : (x : Session) → IsButRows x x
rows_same x = refl

-- ## The walk behind the rows

in_leaf_on : (g k : Opening) (s t : State) (page key : ℕ) (m : Met) → g.format ≡ k.format → t.page ≡ s.page → IsInLeaf k t page key m → IsInLeaf g s page key m
in_leaf_on g k s t page key (met.Pair at value) same p l = (l.0, (λ i. value_in (same i) (sym p i page).node at) ∙ l.1)
in_leaf_on g k s t page key (met.Gap high) same p l = l

pub has_met : (own : ℕ) (v u w : View) (key : ℕ) (keys : List ℕ) (m : Met) → HasTaken own (rows_of v keys) v u → HasWalked own u w key keys m → HasMet own v w key m
has_met own v u w key keys m t d =
    let same = pages_taken own (rows_of v keys) v u t in
    let next : Sees (Next own d.page key (told_of m) ∷ []) u w = record { given = d.given; seen = d.seen; met = (d.met, tt) } in
    let s = sees_more (takes_of own (rows_of v keys)) (Next own d.page key (told_of m) ∷ []) v u w (sees_taken own (rows_of v keys) v u t) next in
    let whole : met_keys (opening v.given).format key ((state v).core.page d.page).node.pairs ≡ keys = (λ i. met_keys (opening (sym t.given i)).format key (sym same.page i d.page).node.pairs) ∙ d.whole in
    let rows : rows_met (opening v.given) (state v).core d.page key ≡ rows_of v keys = ap (rows_of v) whole in
    let events : takes_of own (rows_of v keys) ++ Next own d.page key (told_of m) ∷ [] ≡ walk_of (opening v.given) (state v).core own d.page key m = ap (λ is. takes_of own is ++ Next own d.page key (told_of m) ∷ []) (sym rows) in
    record {
      page = d.page;
      given = s.given;
      seen = subst (λ es. w.seen ≡ v.seen ++ es) events s.seen;
      met = subst (λ es. AllMet (opening v.given) (state v).core (events_of es)) events s.met;
      leaf = in_leaf_on (opening v.given) (opening u.given) (state v).core (state u).core d.page key m (ap (λ (k : Given). (opening k).format) (sym t.given)) same.page d.leaf;
    }

-- ## A row that was not taken

module _ (own : ℕ) (v u w : View) (key : ℕ) (keys : List ℕ) (t : HasTaken own (rows_of v keys) v u) where
  rows_as : w.given ≡ u.given → rows_of v keys ≡ rows_of w keys
  rows_as given = ap (λ (k : Given). map (opening k).row_of keys) (sym (given ∙ t.given))

  module _ (same : Type 0) (given : w.given ≡ u.given) (seen : w.seen ≡ u.seen) where
    taken_there : HasTaken own (rows_of v keys) v w
    taken_there = taken_still own (rows_of v keys) v u w given seen t

    pub meets_spent : AreFirst w key keys → 2 ^ 61 ≤ length w.seen → Meets (Err (unmet.Refused refusal.RowSpent)) own v w key same
    meets_spent f many = record {
      rows = rows_of v keys;
      taken = taken_there;
      way = subst (IsOnWay (opening w.given) (state w).core key) (sym (rows_as given)) (way_of w key keys f);
      many = many;
    }

    pub meets_conflict : (at h : ℕ) → IsFirst w key (keys ++ at ∷ []) → Hinders ((state w).core.row ((opening w.given).row_of at)) own happening.Mode.Shared h → Meets (Err (unmet.Refused (refusal.Conflict h))) own v w key same
    meets_conflict at h f hinders = record {
      rows = rows_of v keys;
      taken = taken_there;
      hindered = subst (IsHinderedNext (opening w.given) own h (state w).core key) (sym (rows_as given)) (hindered_at w own key at h keys f hinders);
    }

-- where the first ones are first, so are fewer
first_fewer : (w : View) (key at : ℕ) (keys : List ℕ) → IsFirst w key (keys ++ at ∷ []) → IsFirst w key keys
first_fewer w key at keys f = record { page = f.page; below = f.below; hot = f.hot; leaf = f.leaf; rest = at ∷ f.rest; whole = f.whole ∙ append_assoc keys (at ∷ []) f.rest }

-- by why the row of the next entry was not taken: v the view at first, u the one before the look, a behind it
module _ (z : Shape) (own : ℕ) (v u a w : View) (x : Session) (log : Log) (key at : ℕ) (keys : List ℕ) (is : x.own ≡ own) (h : Holds z a x log) (t : HasTaken own (rows_of v keys) v u) (n : IsNextEntry u a key at keys) (same : Type 0) where
  pub meets_refused : (why : Refusal) → NotTaken why a w x.own (at % x.held.count) Shared → Meets (Err (unmet.Refused why)) own v w key same
  meets_refused refusal.RowSpent s = meets_spent own v u w key keys t same (s.given ∙ n.given) (s.seen ∙ n.seen) (inr (first_still u w key keys (s.given ∙ n.given) (s.seen ∙ n.seen) (first_fewer u key at keys n.first))) s.many
  meets_refused (refusal.Conflict b) s = meets_conflict own v u w key keys t same (s.given ∙ n.given) (s.seen ∙ n.seen) at b (first_still u w key (keys ++ at ∷ []) (s.given ∙ n.given) (s.seen ∙ n.seen) n.first) hinders
    where
      row : (opening w.given).row_of at ≡ at % x.held.count
      row = ap (λ (k : Given). (opening k).row_of at) s.given ∙ row_is z a x.own x.workers x.frames x.held.count at h.rows

      hinders : Hinders ((state w).core.row ((opening w.given).row_of at)) own happening.Mode.Shared b
      hinders = subst (λ (o : ℕ). Hinders ((state w).core.row ((opening w.given).row_of at)) o happening.Mode.Shared b) is
          (subst (λ (r : ℕ). Hinders ((state w).core.row r) x.own happening.Mode.Shared b) (sym row) (subst (λ (m : Moment). Hinders (m.core.row (at % x.held.count)) x.own happening.Mode.Shared b) (sym (still a w s.given s.seen)) s.hinders))
  meets_refused _ s = absurd s

-- one session alone meets no other
pub no_conflict : (why : Refusal) → why ≡ refusal.RowSpent → IsNoConflict (unmet.Refused why)
no_conflict why e = subst (λ k. IsNoConflict (unmet.Refused k)) (sym e) tt

-- ## A turn

-- what is so of keys whose rows were taken
pub record Turned (own : ℕ) (v w : View) (x : Session) (key : ℕ) (keys : List ℕ) (turn : ℕ) : Type 0 where
  pub count : length keys ≡ turn
  pub few : length keys ≤ 60
  pub rows : HasTaken own (rows_of v keys) v w
  pub held : AreHeld x keys
  pub first : AreFirst w key keys
  pub some : keys ≡ [] → ⊥

pub few_more : (u : View) (key at : ℕ) (keys : List ℕ) → Sound u.given (state u) → IsFirst u key (keys ++ at ∷ []) → length keys < 60
few_more u key at keys sound f =
    let a = first_few u key (keys ++ at ∷ []) sound f in
    let b = length-append (keys ++ at ∷ []) f.rest in
    let c = length-append keys (at ∷ []) in
    omega arith

some_more : (keys : List ℕ) (at : ℕ) → keys ++ at ∷ [] ≡ [] → ⊥
some_more keys at e = let a = ap (λ ks. length ks) e in let b = length-append keys (at ∷ []) in absurd (omega arith)

pub turn_more : (z : Shape) (own : ℕ) (v u a w : View) (x y : Session) (log : Log) (key at : ℕ) (keys more : List ℕ) (turn : ℕ) → x.own ≡ own → Holds z a x log → Sound u.given (state u) → HasTaken own (rows_of v keys) v u → AreHeld x keys → length keys ≡ turn
    → IsNextEntry u a key at keys → Takes a w x y (at % x.held.count) Shared → more ≡ keys ++ at ∷ [] → Turned own v w y key more (suc turn)
turn_more z own v u a w x y log key at keys more turn is h sound t held count n k more_is =
    subst (λ ks. Turned own v w y key ks (suc turn)) (sym more_is) (record {
      count = let b = length-append keys (at ∷ []) in omega arith;
      few = let b = length-append keys (at ∷ []) in let c = few_more u key at keys sound n.first in omega arith;
      rows = subst (λ rows. HasTaken own rows v w) (sym (rows_more v keys at))
          (taken_more own (rows_of v keys) v a w x y ((opening v.given).row_of at) is (taken_still own (rows_of v keys) v u a n.given n.seen t) (takes_row a w x y (at % x.held.count) ((opening v.given).row_of at) Shared row k));
      held = held_more a w x y at keys k held;
      first = inr (first_taken a w x y (at % x.held.count) key (keys ++ at ∷ []) k (first_still u a key (keys ++ at ∷ []) n.given n.seen n.first));
      some = some_more keys at;
    })
  where
    row : at % x.held.count ≡ (opening v.given).row_of at
    row = sym (row_is z a x.own x.workers x.frames x.held.count at h.rows) ∙ ap (λ (q : Given). (opening q).row_of at) (n.given ∙ t.given)

-- a page of the way was not hot from the first
pub cold_first : (own : ℕ) (v u a : View) (key page : ℕ) (keys : List ℕ) → HasTaken own (rows_of v keys) v u → HasMetCold key page u a → keys ≡ [] → HasMetCold key page v a
cold_first own v u a key page keys t m none = record {
  given = m.given ∙ t.given;
  seen = m.seen ∙ (t.seen ∙ (ap (λ ks. v.seen ++ takes_of own (rows_of v ks)) none ∙ append-nil v.seen));
  cold = m.cold;
}
