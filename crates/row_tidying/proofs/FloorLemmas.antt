-- How far all logs are flushed, and what was done behind words that were loaded.
use Rattle.std.proofs.Common.{◌≡◌, ◌≤◌, ◌<◌, ◌+◌, ◌⊎◌, ◌++◌, ◌^◌, ℕ, List, [], ◌∷◌, length, Result, Ok, Err, inl, inr, sym, ap, ◌∙◌, subst, arith}
use Rattle.map_model.specs.declared.call.Refusal.TheVariants as refusal
use Rattle.rfa_model.proofs.ReachLemmas.{least_low}
use Rattle.row_changes.specs.session_state.engine_trait.declared.unserved.Unanswered.TheVariants as unanswered
use Rattle.row_changes.specs.session_state.engine_trait.declared.unserved.Unserved.{Unserved}
use Rattle.row_changes.specs.session_state.engine_trait.declared.unserved.Unserved.TheVariants as unserved
use Rattle.row_changes.specs.session_state.core_state.Needs.{may}
use Rattle.row_changes.specs.session_state.core_state.Openings.{Opening}
use Rattle.row_changes.specs.session_state.core_state.States.{Place, State, flushed_by_all, nodes_of}
use Rattle.row_changes.specs.session_state.core_state.Steps.{happens}
use Rattle.row_changes.specs.session_state.core_calls.Warms.{IsWarmFrom}
use Rattle.page_model.specs.Nodes.{is_leaf}
use Rattle.lean_disk.specs.Story.{Story}
use Rattle.row_changes.specs.session_state.disk_image.Records.{entry_of}
use Rattle.row_changes.specs.session_state.worker_log.Logs.{Log}
use Rattle.row_changes.specs.session_state.row_words.declared.event.Event.{Event}
use Rattle.row_changes.specs.session_state.row_words.declared.event.Event.TheVariants.{Purge}
use Rattle.row_changes.specs.session_state.row_words.Moments.{Moment, event_of}
use Rattle.row_changes.specs.session_state.row_words.Openings.{opening}
use Rattle.row_changes.specs.session_state.rows_trait.Views.{Shape, state}
use Rattle.row_changes.specs.session_state.rows_trait.declared.view.View.{View}
use Rattle.row_changes.specs.session_state.Holds.{Holds}
use Rattle.row_changes.specs.session_state.declared.session.Session.{Session}
use Rattle.row_changes.proofs.SeenLemmas.{still}
use Rattle.row_ends.specs.Flushed.{Looked, flushed_to}
use Rattle.row_ends.proofs.FlushLemmas.{flushed_all, flushed_low}
use Rattle.btree_smo.specs.Purges.{IsFloor}
use Rattle.tidy_rules.specs.Laws.{gone}
use Rattle.row_tidying.specs.Changes.{CanPurge, IsMade}
use Rattle.row_tidying.specs.Outcomes.{Clears, IsPurged, IsSpared, IsSpentWithin}
use Rattle.row_tidying.specs.declared.purges.Cleared.{Cleared}
use Rattle.row_tidying.specs.declared.purges.Cleared.TheVariants as cleared

-- ## The floor

pub few_logs : {z : Shape} {v : View} {x : Session} {log : Log} → Holds z v x log → x.workers ≤ z.sizes.workers
few_logs h = let e = h.rows.sized in omega arith

-- the least flushed number fits its word
pub floor_small : (z : Shape) (v : View) (x : Session) (log : Log) → Holds z v x log → x.clock.clock < 2 ^ 62 → flushed_by_all (opening v.given) (state v).core < 2 ^ 64
floor_small z v x log h small =
    let low = least_low (state v).core.flushed (opening v.given).workers x.own h.rows.low (let a = h.rows.workers in let b = h.rows.high in omega arith) in
    let a = h.flushed in let b = h.numbers.order in let c = h.numbers.last in
    omega arith

pub floor_is : (z : Shape) (v : View) (x : Session) (log : Log) → Holds z v x log → x.clock.clock < 2 ^ 62 → (n : ℕ) → n ≡ flushed_to (state v).core x.workers → n ≡ flushed_by_all (opening v.given) (state v).core
floor_is z v x log h small n is = is ∙ (ap (flushed_to (state v).core) (sym h.rows.workers) ∙ flushed_all (opening v.given) (state v).core (floor_small z v x log h small))

pub is_floor : (z y : Shape) (v w : View) (x : Session) (log : Log) → Holds z v x log → x.clock.clock < 2 ^ 62 → Looked v w → (n : ℕ) → n ≡ flushed_to (state v).core x.workers → IsFloor y w n
is_floor z y v w x log h small l n is = record {
  low = λ u some high.
      let at = ap (λ k. (opening k).workers) l.given in
      let all = flushed_low (state v).core x.workers u some (let e = h.rows.workers in omega arith) in
      let same = ap (λ (m : Moment). m.core.flushed u) (still v w l.given l.seen) in
      omega arith;
  exact = λ _. floor_is z v x log h small n is ∙ (λ i. flushed_by_all (opening (sym l.given i)) (sym (still v w l.given l.seen) i).core);
}

-- ## Behind words that were loaded

module _ (v u : View) (given : u.given ≡ v.given) (seen : u.seen ≡ v.seen) where
  st : state u ≡ state v
  st = still v u given seen

  pub can_purge_on : (frame : ℕ) → CanPurge v frame → CanPurge u frame
  can_purge_on frame c = record { page = c.page; stands = ap (λ (m : Moment). m.core.place c.page) st ∙ c.stands; leaf = ap (λ (m : Moment). is_leaf (nodes_of m.core c.page)) st ∙ c.leaf }

  goes : (page : ℕ) → gone (opening u.given) (state u).core page ≡ gone (opening v.given) (state v).core page
  goes page = λ i. gone (opening (given i)) (st i).core page

  pub made_from : (e : Event) (misses : List Event) (free : List ℕ) (w : View) (x y : Session) (was is : Log) (old new : Story) → IsMade e misses free u w x y was is old new → IsMade e misses free v w x y was is old new
  made_from e misses free w x y was is old new t = record {
    given = t.given ∙ given;
    seen = t.seen ∙ ap (λ ys. ys ++ e ∷ misses) seen;
    are_misses = t.are_misses;
    met = (λ i. may (opening (sym given i)) (sym st i).core (event_of e)) ∙ t.met;
    happened = t.happened ∙ (λ i. happens (opening (given i)) (st i).core (event_of e));
    entry = t.entry;
    entry_is = (λ i. (happens (opening (sym given i)) (sym st i).core (event_of e)).entries) ∙ (t.entry_is ∙ ap (λ (m : Moment). entry_of x.own t.entry ∷ m.core.entries) st);
    after = t.after;
    stands = t.stands;
    keeps = t.keeps;
    short = t.short;
    session = t.session;
    stays = t.stays ∙ ap (λ (m : Moment). m.core.place) st;
    warm = λ key hot. t.warm key (subst (λ k. IsWarmFrom (opening k) (state u).core key 0) (sym given) (subst (λ (m : Moment). IsWarmFrom (opening v.given) m.core key 0) (sym st) hot));
  }

  module _ (frame most : ℕ) (w : View) (x y : Session) (was is : Log) (old new : Story) where
    purged_from : IsPurged frame most u w x y was is old new → IsPurged frame most v w x y was is old new
    purged_from t =
        let many = ap (λ (ks : List ℕ). length ks) (goes t.page) in
        let pairs = ap (λ (m : Moment). length (nodes_of m.core t.page).pairs) st in
        record {
          page = t.page;
          misses = t.misses;
          few = t.few;
          stands = ap (λ (m : Moment). m.core.place t.page) (sym st) ∙ t.stands;
          made = subst (λ ks. IsMade (Purge x.own t.page ks) t.misses x.free v w x y was is old new) (goes t.page) (made_from (Purge x.own t.page (gone (opening u.given) (state u).core t.page)) t.misses x.free w x y was is old new t.made);
          some = let a = t.some in omega arith;
          left = let a = t.left in omega arith;
        }

    spared_from : (left : ℕ) → IsSpared frame most left u w → IsSpared frame most left v w
    spared_from left t =
        let many = ap (λ (ks : List ℕ). length ks) (goes t.page) in
        let pairs = ap (λ (m : Moment). length (nodes_of m.core t.page).pairs) st in
        record {
          misses = t.misses;
          are_misses = t.are_misses;
          few = t.few;
          given = t.given ∙ given;
          seen = t.seen ∙ ap (λ ys. ys ++ t.misses) seen;
          page = t.page;
          stands = ap (λ (m : Moment). m.core.place t.page) (sym st) ∙ t.stands;
          leaf = ap (λ (m : Moment). is_leaf (nodes_of m.core t.page)) (sym st) ∙ t.leaf;
          exact = let a = t.exact in omega arith;
          none = either (t.none) many;
        }
      where
        either : {a b : ℕ} → (a ≡ 0) ⊎ (most < left) → a ≡ b → (b ≡ 0) ⊎ (most < left)
        either (inl e) q = inl (sym q ∙ e)
        either (inr lt) q = inr lt

    pub spent_from : (n : ℕ) → IsSpentWithin n u w → IsSpentWithin n v w
    spent_from n t = record { misses = t.misses; are_misses = t.are_misses; few = t.few; given = t.given ∙ given; seen = t.seen ∙ ap (λ ys. ys ++ t.misses) seen; many = t.many }

    pub clears_from : (same broken : Type 0) (r : Result Cleared Unserved) → Clears r frame most u w x y was is old new same broken → Clears r frame most v w x y was is old new same broken
    clears_from same broken (Ok cleared.Done) t = purged_from t
    clears_from same broken (Ok (cleared.Spared left)) t = (spared_from left t.0, t.1)
    clears_from same broken (Err (unserved.Refused refusal.RowSpent)) t = (spent_from 61 t.0, t.1)
    clears_from same broken (Err (unserved.Unanswered unanswered.DiskFault)) t = t
    clears_from same broken (Err _) t = absurd t
