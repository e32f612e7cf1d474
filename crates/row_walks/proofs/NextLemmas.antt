-- Where a walk up stops, and what is next then.
use Rattle.std.proofs.Common.{◌≡◌, ◌≢◌, ◌⊎◌, inl, inr, ◌≤◌, ◌<◌, ◌+◌, ◌-◌, ◌==◌, ◌&&◌, leb, ltb, not, ℕ, zero, suc, Bool, true, false, cond, List, [], ◌∷◌, length, Option, Some, None, refl, sym, ap, ◌∙◌, subst, arith, true≢false, eq-eqb}
use Rattle.std.proofs.lemmas.Bool.{and_parts, cases_lt, cond-true, eqb-true}
use Rattle.page_model.specs.Nodes.{covers}
use Rattle.page_model.specs.Tree.{IsTree}
use Rattle.row_changes.specs.session_state.core_calls.Warms.{EveryWarm, IsWarmFrom}
use Rattle.row_changes.specs.session_state.core_state.Events as happening
use Rattle.row_changes.specs.session_state.core_state.Openings.{Opening}
use Rattle.row_changes.specs.session_state.core_state.States.{Place, State, nodes_of}
use Rattle.row_changes.specs.session_state.worker_log.Logs.{Log}
use Rattle.row_changes.specs.session_state.row_words.Openings.{opening}
use Rattle.row_changes.specs.session_state.rows_trait.Views.{Shape, state}
use Rattle.row_changes.specs.session_state.rows_trait.declared.view.View.{View}
use Rattle.row_changes.specs.session_state.Holds.{Holds}
use Rattle.row_changes.specs.session_state.declared.session.Session.{Session}
use Rattle.row_tidying.specs.tidy_rules.Tidying.{first_of, is_thin, join_under, next_drop, next_up, page_among, page_at}
use Rattle.row_tidying.proofs.MadeLemmas.{sound}
use Rattle.row_walks.specs.Inside.Levels.{IsFound, IsJoinable}
use Rattle.row_walks.specs.Inside.Nexts.{ArePassed, IsLastChild, IsNext, IsNextDrop, IsNextJoin, IsNoSingle, IsRootNext, IsStop, IsWanted, up_from}
use Rattle.row_walks.specs.Inside.Ways.{IsWayIn}
use Rattle.row_walks.specs.declared.levels.Level.{Level}
use Rattle.row_walks.specs.declared.levels.Level.TheVariants as level
use Rattle.row_walks.specs.declared.nexts.Next.{Next}
use Rattle.row_walks.specs.declared.nexts.Next.TheVariants as next
use Rattle.row_walks.proofs.LevelLemmas.{up_joins, up_passes, up_thick}

-- ## Pages by level

-- what is found of a level is a page of it
pub page_found : (s : State) (key l n q : ℕ) → page_among s key l n ≡ Some q → (q < n) × (covers (nodes_of s q) key ≡ true) × ((nodes_of s q).level ≡ l)
page_found s key l zero q e = absurd (cc)
page_found s key l (suc n) q e = go (covers (nodes_of s n) key && ((nodes_of s n).level == l)) refl (page_found s key l n q) e
  where
    named : Some n ≡ Some q → n ≡ q
    named r = cc

    go : (b : Bool) → (covers (nodes_of s n) key && ((nodes_of s n).level == l)) ≡ b → (page_among s key l n ≡ Some q → (q < n) × (covers (nodes_of s q) key ≡ true) × ((nodes_of s q).level ≡ l))
        → cond b (Some n) (page_among s key l n) ≡ Some q → (q < suc n) × (covers (nodes_of s q) key ≡ true) × ((nodes_of s q).level ≡ l)
    go true t ih r =
        let is : n ≡ q = named r in
        let a = and_parts (covers (nodes_of s n) key) ((nodes_of s n).level == l) t in
        (omega arith, ap (λ (i : ℕ). covers (nodes_of s i) key) (sym is) ∙ a.0, ap (λ (i : ℕ). (nodes_of s i).level) (sym is) ∙ eqb-true (nodes_of s n).level l a.1)
    go false t ih r = let k = ih r in let lt = k.0 in (omega arith, k.1, k.2)

-- no page of the way is above the root: else it would be hot wherever pages stand, and it is not where all are cold
pub none_above : EveryWarm → (g : Opening) (s : State) (key p : ℕ) → IsTree g.format (nodes_of s) → p < g.format.pages → covers (nodes_of s p) key ≡ true → (nodes_of s 0).level < (nodes_of s p).level → ⊥
none_above warm g s key p tree below c lt = true≢false (sym ((warm g (record s { place = λ _. Place.Cold }) key).first tree p below c lt))

-- so a level above the root's has none that is thin, nor has the root's
pub not_thin : EveryWarm → (g : Opening) (s : State) (key l : ℕ) → IsTree g.format (nodes_of s) → (nodes_of s 0).level < l → is_thin s (page_at g s key l) ≡ false
not_thin warm g s key l tree lt = go (page_at g s key l) refl
  where
    go : (o : Option ℕ) → page_at g s key l ≡ o → is_thin s o ≡ false
    go None e = refl
    go (Some p) e = let k = page_found s key l g.format.pages p e in absurd (none_above warm g s key p tree k.0 k.1 (let q = k.2 in omega arith))

pub root_thick : (g : Opening) (s : State) (key l : ℕ) → page_at g s key l ≡ Some 0 → is_thin s (page_at g s key l) ≡ false
root_thick g s key l e = ap (is_thin s) e

-- ## Where the walk stops

module _ (z : Shape) (v : View) (x : Session) (log : Log) (h : Holds z v x log) (key : ℕ) (path : List ℕ) (way : IsWayIn v key path) where
  abbrev g : Opening
  g = opening v.given

  abbrev s : State
  s = (state v).core

  pub top_is : (nodes_of s 0).level ≡ length path - 1
  top_is =
      let low = way.some in
      ap (λ (p : ℕ). (nodes_of s p).level) (sym way.root) ∙ (way.way (length path - 1) (omega arith)).level

  -- at the root, or above it
  pub stop_thick : EveryWarm → (own from top : ℕ) → top ≡ length path - 1 → from ≤ 7 → (l : ℕ) → (from ≤ l) × (top ≤ l) → (top ≤ from → l ≡ from) → (from ≤ top → l ≡ top)
      → ((j : ℕ) → from ≤ j → j < top → is_thin s (page_at g s key j) ≡ true) → ((j : ℕ) → from ≤ j → j < top → join_under own g s (page_at g s key j) (page_at g s key (suc j)) ≡ None)
      → IsStop own v key from l level.Thick
  stop_thick warm own from top top_of small l least high low thin none = elim (cases_lt top from) [
    | inl above ↦ (let e : l ≡ from = high (omega arith) in record {
      passed = record { low = least.0; high = omega arith; thin = λ j a b. absurd (omega arith); none = λ j a b. absurd (omega arith) };
      other = tt;
      found = not_thin warm g s key l (sound z v x log h).tree (let t = top_is in omega arith);
    })
    | inr within ↦ (let e : l ≡ top = low within in record {
      passed = record { low = least.0; high = (let f = way.few in omega arith); thin = λ j a b. thin j a (omega arith); none = λ j a b. none j a (omega arith) };
      other = tt;
      found = root_thick g s key l ((let k : l ≡ length path - 1 = omega arith in ap (page_at g s key) k) ∙ (way.found (length path - 1) (let w = way.some in omega arith) ∙ ap (λ (p : ℕ). Some p) way.root));
    })
  ]

  -- further down
  pub stop_found : (own from top : ℕ) → top ≡ length path - 1 → (l : ℕ) → from ≤ l → l < top → (what : Level) → IsNoSingle what → IsFound what own v key l
      → ((j : ℕ) → from ≤ j → j < l → is_thin s (page_at g s key j) ≡ true) → ((j : ℕ) → from ≤ j → j < l → join_under own g s (page_at g s key j) (page_at g s key (suc j)) ≡ None)
      → IsStop own v key from l what
  stop_found own from top top_of l low lt what other found thin none = record {
    passed = record { low = low; high = (let f = way.few in omega arith); thin = thin; none = none };
    other = other;
    found = found;
  }

-- one level further
pub further : (P : ℕ → Type 0) (from l : ℕ) → ((j : ℕ) → from ≤ j → j < l → P j) → P l → (j : ℕ) → from ≤ j → j < l + 1 → P j
further P from l before now j low lt = elim (cases_lt j l) [ inl less ↦ before j low less | inr more ↦ subst P (let e : l ≡ j = omega arith in e) now ]

-- ## What is next

module _ (own : ℕ) (v : View) (key from l : ℕ) where
  abbrev g1 : Opening
  g1 = opening v.given

  abbrev s1 : State
  s1 = (state v).core

  -- behind levels that are passed it is what is next from there on
  pub up_to : ArePassed own g1 s1 key from l → up_from own v key from ≡ up_from own v key l
  up_to p =
      let low = p.low in
      let high = p.high in
      let e : from + (l - from) ≡ l = omega arith in
      up_passes own g1 s1 key (7 - from) from (l - from) (omega arith) (λ j a b. p.thin j a (omega arith)) (λ j a b. p.none j a (omega arith))
      ∙ (let f : (7 - from) - (l - from) ≡ 7 - l = omega arith in λ i. next_up own g1 s1 key (f i) (e i))

  -- the drop, where it stops at a page that is not thin
  up_drop : IsStop own v key from l level.Thick → up_from own v key from ≡ next_drop own s1
  up_drop t = up_to t.passed ∙ up_thick own g1 s1 key (7 - l) l t.found

  pub next_root : IsStop own v key from l level.Thick → (what : Next) → IsRootNext what v → IsNext what own v key from
  next_root t next.Nothing f = up_drop t ∙ f own
  next_root t (next.Drops frame page) f = record { can = f.can; next = up_drop t ∙ f.next own }
  next_root t _ f = absurd f

  pub next_needs : (page : ℕ) → IsStop own v key from l (level.Needs page) → IsNext (next.Needs page l) own v key from
  next_needs page t = record { passed = t.passed; neighbour = t.found }

  pub next_joins : (a b d page : ℕ) → IsStop own v key from l (level.Joins a b d page) → IsNext (next.Joins a b d page l) own v key from
  next_joins a b d page t =
      let f : IsJoinable own v key l a b d page = t.found in
      let below : l < 7 = f.high in
      record {
        can = f.can;
        next = up_to t.passed ∙ ((let e : 7 - l ≡ suc (6 - l) = omega arith in ap (λ n. next_up own g1 s1 key n l) e) ∙ up_joins own g1 s1 key (6 - l) l (happening.Event.Join own f.can.left page f.can.parent) f.thin f.next);
        low = t.passed.low;
        high = f.high;
        level = (page_found s1 key (suc l) g1.format.pages f.can.parent f.found).2;
      }

  -- the walk does not stop at one that it passes
  pub no_single : IsStop own v key from l level.Single → ⊥
  no_single t = t.other

  -- a stop with what was found there
  pub stop_as : (what is : Level) → what ≡ is → IsStop own v key from l what → IsStop own v key from l is
  stop_as what is e t = subst (λ (k : Level). IsStop own v key from l k) e t
