-- What comes of a purge.
use Rattle.std.proofs.Common.{◌≡◌, ◌⊎◌, inl, inr, ◌<◌, ◌==◌, ◌&&◌, ℕ, true, cond, List, [], ◌∷◌, length, Result, Ok, refl, sym, ap, ◌∙◌, subst, arith, true≢false}
use Rattle.page_model.specs.Needs.{purge_record}
use Rattle.page_model.specs.Pairs.{Pair}
use Rattle.row_changes.specs.session_state.image_model.Entries.{Kind}
use Rattle.row_changes.specs.session_state.core_state.Needs.{is_settled}
use Rattle.row_changes.specs.session_state.core_state.Openings.{Opening}
use Rattle.row_changes.specs.session_state.core_state.States.{Place, State, gsns_of, nodes_of}
use Rattle.row_changes.specs.session_state.core_state.Events as happening
use Rattle.row_changes.specs.session_state.core_state.Steps.{happens}
use Rattle.row_changes.specs.session_state.core_calls.Room.{free_list}
use Rattle.row_changes.specs.session_state.engine_trait.declared.unserved.Unserved.{Unserved}
use Rattle.row_changes.specs.session_state.draw_trait.declared.draw.Unstaged.{Unstaged}
use Rattle.row_changes.specs.session_state.draw_trait.declared.draw.Unstaged.TheVariants.{DiskFault, LogFull}
use Rattle.lean_disk.specs.Story.{Story}
use Rattle.row_changes.specs.session_state.log_record.declared.record.Record.{Record}
use Rattle.row_changes.specs.session_state.worker_log.Logs.{Log}
use Rattle.row_changes.specs.session_state.row_words.declared.event.Event.TheVariants.{Purge}
use Rattle.row_changes.specs.session_state.row_words.Moments.{Moment}
use Rattle.row_changes.specs.session_state.row_words.Openings.{opening}
use Rattle.row_changes.specs.session_state.rows_trait.Causes.{EveryLow}
use Rattle.row_changes.specs.session_state.rows_trait.Views.{AreLow, Shape, after_all, state}
use Rattle.row_changes.specs.session_state.rows_trait.declared.view.View.{View}
use Rattle.row_changes.specs.session_state.Holds.{Holds}
use Rattle.row_changes.specs.session_state.Numbers.{HaveRoom}
use Rattle.row_changes.specs.session_state.Staging.{Staging}
use Rattle.row_changes.specs.session_state.declared.session.Session.{Session}
use Rattle.btree_smo.specs.Purges.{CausedOf, Cleared, Clears, DrewOf, Gave, IsCalm, IsNoLeaf, Keeps, last_of, purge_entry, purgeable_keys}
use Rattle.btree_smo.specs.Outcomes.{IsHotIn, IsSpentIn, WasSo}
use Rattle.btree_smo.specs.declared.outcome.Outcome.TheVariants as outcome
use Rattle.btree_smo.specs.declared.purge.Purged.{Purged}
use Rattle.btree_smo.specs.declared.purge.Purged.TheVariants as purged
use Rattle.tidy_rules.specs.Laws.{EveryFreed, gone}
use Rattle.tidy_rules.specs.Purges.{purgeable}
use Rattle.row_tidying.specs.Changes.{CanPurge, IsMade, MayTidy}
use Rattle.row_tidying.specs.Ends.{IsExpectedOf, cleared_of, session_behind}
use Rattle.row_tidying.specs.Outcomes as answers
use Rattle.row_tidying.specs.Outcomes.{IsPurged, IsSpared}
use Rattle.row_tidying.specs.declared.purges.Cleared as told
use Rattle.row_tidying.proofs.MadeLemmas.{Told, holds_made, holds_same, hot_in, is_made, missed_core, now_is, spent_within, told_cleared, was_then}
use Rattle.row_tidying.proofs.EndLemmas.{not_full, not_spent}
use Rattle.row_changes.proofs.SeenLemmas.{ran_seen}

-- the keys that go are called the same by both
keys_same : (g : Opening) (s : State) (xs : List Pair) → purgeable_keys g s xs ≡ purgeable g s xs
keys_same g s [] = refl
keys_same g s (x ∷ xs) = λ i. cond ((x.word == g.format.dead) && is_settled g s x.key) (x.key ∷ keys_same g s xs i) (keys_same g s xs i)

module _ (free : EveryFreed) (z : Shape) (v w : View) (x y : Session) (log log_now : Log) (h : Holds z v x log) (f : MayTidy x log) (fits : HaveRoom v) (frame most : ℕ) (can : CanPurge v frame)
    (rs now : List Record) (old new : Story) (S same : Type 0) (f0 f1 : ℕ) where
  abbrev g : Opening
  g = opening v.given

  abbrev s : State
  s = (state v).core

  abbrev Clears_as : Purged → Type 0
  Clears_as o = Clears z.alone x.own frame most v rs o w y.clock now

  abbrev Draws : Purged → Type 0
  Draws o = DrewOf o (λ r. Staging r x y rs now log log_now old new S f0 f1) same

  then_so : (P : Moment → Type 0) → Gave z.alone v w → WasSo z.alone v w P → P (state v)
  then_so P m so = was_then z.alone v w P h.alone m.ran.given so

  no_leaf : (row : ℕ) → IsNoLeaf frame row w.given (state v) → w.given ≡ v.given → ⊥
  no_leaf row t given = true≢false (sym can.leaf ∙ t.none can.page (subst (λ k. IsHotIn k (state v) frame can.page) (sym given) (hot_in z v x log h can.page frame can.stands)))

  pub purge_expected : (o : Purged) → Clears_as o → Draws o → IsCalm o → IsExpectedOf o
  purge_expected purged.Done r k q = tt
  purge_expected (purged.Spared left) r k q = tt
  purge_expected (purged.Refused (outcome.RowSpent row)) r k q = tt
  purge_expected (purged.Refused (outcome.Unstaged DiskFault)) r k q = tt
  purge_expected (purged.Refused (outcome.Unstaged (LogFull used limit))) r k q = not_full v x y log log_now rs now old new S f0 f1 used limit f k
  purge_expected (purged.Refused outcome.Done) r k q = r
  purge_expected (purged.Refused (outcome.Full row)) r k q = r
  purge_expected (purged.Refused outcome.TooTall) r k q = r
  purge_expected (purged.Refused (outcome.Stale row)) r k q = no_leaf row (then_so (IsNoLeaf frame row w.given) r.0 r.1) r.0.ran.given
  purge_expected (purged.Refused (outcome.Moved m)) r k q = q
  purge_expected (purged.Refused (outcome.Latched l)) r k q = q
  purge_expected (purged.Refused outcome.ClockSpent) r k q = not_spent z v w x log h fits f frame (then_so (λ m. IsSpentIn w.given m frame) r.0 r.1)

  -- ## A purge that was made

  module _ (l : Cleared z.alone x.own frame most v rs w y.clock now) where
    then_is : after_all w.given l.past ≡ state v
    then_is = now_is z.alone v w l.past h.alone l.ran.given l.onward

    told_is : Told z.alone x.own (Purge x.own l.page l.keys) l.misses (purge_entry x.own l.page l.keys) v rs w y.clock now
    told_is = told_cleared z.alone x.own frame most v rs w y.clock now l

    keys_are : l.keys ≡ gone g s l.page
    keys_are = l.all h.alone ∙ ((λ i. purgeable_keys (opening (l.ran.given i)) (then_is i).core ((then_is i).core.page l.page).node.pairs) ∙ keys_same g s (nodes_of s l.page).pairs)

    stands_there : s.place l.page ≡ Place.Hot frame
    stands_there = ap (λ m. m.core.place l.page) (sym then_is) ∙ l.hot

    free_is : free_list g (happens g s (happening.Event.Purge x.own l.page l.keys)) ≡ x.free
    free_is = (free g s).purge x.own l.page l.keys ∙ sym h.free

    module _ (held : w.held ≡ []) (st : Staging (Ok tt) x y rs now log log_now old new S f0 f1) (last : log_now.last ≡ y.clock.clock) where
      pub purge_holds_on : Holds z w y log_now
      purge_holds_on =
          subst (λ k. Holds z w (record y { free = k }) log_now) (sym (ap (λ (k : Session). k.free) st.session))
          (holds_made z v w x log h f Kind.Purge refl refl (Purge x.own l.page l.keys) l.misses (l.page ∷ []) (purge_record (gsns_of s) l.page l.keys) (purge_entry x.own l.page l.keys) rs now y log_now told_is refl refl refl
          old new S f0 f1 held st last x.free free_is)

      pub is_purged : IsPurged frame most v w x y log log_now old new
      is_purged = record {
        page = l.page;
        misses = l.misses;
        few = l.only.1;
        stands = stands_there;
        made = subst (λ ks. IsMade (Purge x.own l.page ks) l.misses x.free v w x y log log_now old new) keys_are (subst (λ (f : List ℕ). IsMade (Purge x.own l.page l.keys) l.misses x.free v w x (record y { free = f }) log log_now old new) (sym (ap (λ (k : Session). k.free) st.session))
            (is_made z v w x log h f Kind.Purge refl refl (Purge x.own l.page l.keys) l.misses (l.page ∷ []) (purge_record (gsns_of s) l.page l.keys) (purge_entry x.own l.page l.keys) rs now y log_now told_is refl refl refl
            old new S f0 f1 held st last x.free));
        some = let e = ap (λ (ks : List ℕ). length ks) keys_are in let k = l.some in omega arith;
        left = let e = ap (λ (ks : List ℕ). length ks) keys_are in let k = l.left in let q = ap (λ m. length (m.core.page l.page).node.pairs) then_is in omega arith;
      }

  -- ## Where nothing went

  spared : (left : ℕ) → Gave z.alone v w → WasSo z.alone v w (Keeps z.alone frame most left w.given) → IsSpared frame most left v w
  spared left m so =
      let k = then_so (Keeps z.alone frame most left w.given) m so in
      let many : length (purgeable_keys (opening w.given) s (nodes_of s k.page).pairs) ≡ length (gone g s k.page) = (λ i. length (purgeable_keys (opening (m.ran.given i)) s (nodes_of s k.page).pairs)) ∙ ap (λ (ks : List ℕ). length ks) (keys_same g s (nodes_of s k.page).pairs) in
      record {
        misses = m.events;
        are_misses = m.misses;
        few = m.few;
        given = m.ran.given;
        seen = ran_seen z.alone v w m.events h.alone m.ran;
        page = k.page;
        stands = k.stands.hot;
        leaf = k.leaf;
        exact = let e = k.exact h.alone in omega arith;
        none = either (k.none h.alone) many;
      }
    where
      either : {a b : ℕ} → (a ≡ 0) ⊎ (most < left) → a ≡ b → (b ≡ 0) ⊎ (most < left)
      either (inl e) q = inl (sym q ∙ e)
      either (inr lt) q = inr lt

  module _ (low : EveryLow) (are : AreLow (length w.seen) w.steps) (held : w.held ≡ []) where
    purge_made : (same_now broken : Type 0) (o : Purged) → IsExpectedOf o → Clears_as o → Draws o → CausedOf v o w → log_now.last ≡ last_of o log.last y.clock.clock
        → (session_behind o y ≡ y → same → same_now) → ((why : Unstaged) → o ≡ purged.Refused (outcome.Unstaged why) → broken)
        → answers.Clears (cleared_of o) frame most v w x (session_behind o y) log log_now old new same_now broken
    purge_made same_now broken purged.Done t r k c last to off = is_purged r held k last
    purge_made same_now broken (purged.Spared left) t r k c last to off = (spared left r.0 r.1, to refl k)
    purge_made same_now broken (purged.Refused (outcome.RowSpent row)) t r k c last to off = (spent_within low 61 z.alone v w row h.alone are r c, to refl k)
    purge_made same_now broken (purged.Refused (outcome.Unstaged DiskFault)) t r k c last to off = (k.came, off DiskFault refl)
    purge_made same_now broken (purged.Refused _) t r k c last to off = absurd t

    -- where nothing went, all is as it was
    kept : (same → y ≡ x) → (same → log_now ≡ log) → same → Gave z.alone v w → Holds z w y log_now
    kept sx sl k m = subst (λ i. Holds z w i log_now) (sym (sx k)) (subst (λ i. Holds z w x i) (sym (sl k)) (holds_same z v w x log m.ran.given (missed_core 61 z.alone v w h.alone m) held h))

    pub purge_holds : (same → y ≡ x) → (same → log_now ≡ log) → (o : Purged) → IsExpectedOf o → Clears_as o → Draws o → log_now.last ≡ last_of o log.last y.clock.clock → (session_behind o y).works ≡ true → Holds z w (session_behind o y) log_now
    purge_holds sx sl purged.Done t r k last works = purge_holds_on r held k last
    purge_holds sx sl (purged.Spared left) t r k last works = kept sx sl k r.0
    purge_holds sx sl (purged.Refused (outcome.RowSpent row)) t r k last works = kept sx sl k r
    purge_holds sx sl (purged.Refused (outcome.Unstaged DiskFault)) t r k last works = absurd (true≢false (sym works))
    purge_holds sx sl (purged.Refused _) t r k last works = absurd t

    -- as its caller sees it
    pub purge_answered : (same_now broken : Type 0) (o : Purged) → IsExpectedOf o → Clears_as o → Draws o → CausedOf v o w → log_now.last ≡ last_of o log.last y.clock.clock
        → (session_behind o y ≡ y → same → same_now) → ((why : Unstaged) → o ≡ purged.Refused (outcome.Unstaged why) → broken)
        → (r : Result told.Cleared Unserved) (k : Session) → r ≡ cleared_of o → k ≡ session_behind o y → answers.Clears r frame most v w x k log log_now old new same_now broken
    purge_answered same_now broken o t j k c last to off r n answer after =
        subst (λ (i : Result told.Cleared Unserved). answers.Clears i frame most v w x n log log_now old new same_now broken) (sym answer)
        (subst (λ (i : Session). answers.Clears (cleared_of o) frame most v w x i log log_now old new same_now broken) (sym after) (purge_made same_now broken o t j k c last to off))
