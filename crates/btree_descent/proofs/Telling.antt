-- What a walk answers, from the answers of its parts.
use Rattle.std.proofs.Common.{◌≡◌, ◌%◌, ℕ, Bool, true, List, [], ◌∷◌, Some, None, refl, sym, ap, subst, ◌∙◌}
use Rattle.page_model.specs.Nodes.{Node}
use Rattle.page_model.specs.Page as stored
use Rattle.lean_proto.specs.core_state.Needs.{holds_row}
use Rattle.lean_proto.specs.core_state.States.{Worker, is_hot}
use Rattle.core_index.specs.Walks.{met_keys}
use Rattle.lean_proto.specs.row_words.declared.event.Event.TheVariants as event
use Rattle.lean_proto.specs.row_words.declared.event.Event.TheVariants.{Miss}
use Rattle.lean_proto.specs.row_words.declared.event.Met.{Met}
use Rattle.lean_proto.specs.row_words.declared.given.Given.{Given}
use Rattle.lean_proto.specs.row_words.Moments.{format_of}
use Rattle.lean_proto.specs.row_words.Openings.{opening}
use Rattle.lean_proto.specs.row_words.Words.{framed_page}
use Rattle.lean_proto.specs.rows_trait.declared.view.Act.{Act}
use Rattle.lean_proto.specs.rows_trait.declared.view.View.{View}
use Rattle.lean_proto.specs.rows_trait.Views.{after_all, state, may}
use Rattle.lean_proto.specs.rows_trait.Turns.{Ran}
use Rattle.lean_proto.proofs.rows_trait.Runs.{ran_append}
use Rattle.lean_proto.proofs.version_latch.Keeping.{may_ran}
use Rattle.lean_proto.specs.Kept.{OwnKept}
use Rattle.lean_proto.proofs.Owns.{own_after}
use Rattle.btree_descent.specs.declared.next.Following.{Following}
use Rattle.btree_descent.specs.declared.next.Following.TheVariants.{Pair, Gap, Unlocked, Cold, Moved, Latched}
use Rattle.btree_descent.specs.declared.next.Stamp.{Stamp}
use Rattle.btree_descent.specs.declared.descent.Head.{Head}
use Rattle.btree_descent.specs.declared.descent.Stop.{Stop}
use Rattle.btree_descent.specs.declared.descent.Stop.TheVariants as stop
use Rattle.btree_descent.specs.Descents.{Went, IsSettled, Caused}
use Rattle.btree_descent.specs.Inside.{IsSeen, answer_of}
use Rattle.btree_descent.specs.Nexts.{AreLocked, IsFirstUnlocked, MayWalk, MetUnlocked, Walked, IsWalked, IsMet, WalkCaused}
use Rattle.btree_descent.specs.Meets.{MayFollow, IsFollowed, next_of}
use Rattle.btree_descent.proofs.Following.{met_as}
use Rattle.btree_descent.proofs.Nodes.{IsLeafIn}
use Rattle.btree_descent.proofs.Pasts.{onward_after, onward_ran, up_to}

-- the worker may still say so
pub may_on : {alone : Bool} {v u : View} {worker : ℕ} {locked : ℕ → Type 0} → may alone v worker ≡ true → Ran alone v [] u → MayWalk v worker locked → MayWalk u worker locked
may_on {alone} {v} {u} {worker} {locked} actor r m =
    let own = own_after alone v u worker actor r in record {
      is_open = ap (λ (a : Worker). a.is_open) own.worker ∙ m.is_open;
      held = λ k h. subst (λ (g : Given). holds_row ((state u).core.row ((opening g).row_of k)) worker ≡ true) (sym r.given) (own.held ((opening v.given).row_of k) (m.held k h));
    }

pub follow_pair : {v : View} {worker : ℕ} {locked : ℕ → Type 0} (at value : ℕ) → locked at → MayWalk v worker locked → MayFollow v worker (Some (at, value))
follow_pair at value h m = record { is_open = m.is_open; its = m.held at h }

pub follow_none : {v : View} {worker : ℕ} {locked : ℕ → Type 0} → MayWalk v worker locked → MayFollow v worker None
follow_none m = record { is_open = m.is_open; its = tt }

-- What followed behind looks, where all that the loaded words show to be met is locked.
pub walked_of : {alone : Bool} {v u w : View} {worker key : ℕ} {locked : ℕ → Type 0} {answer : Met} {row version count number log high : ℕ} (stamp : Stamp) → may alone v worker ≡ true → Ran alone v [] u → MayWalk u worker locked
    → ((p : stored.Page) → IsSeen row version count u.steps p → AreLocked locked (met_keys (format_of 1) key p.node.pairs))
    → IsFollowed alone worker key answer row version count number log high u w → stamp.number ≡ number → stamp.log ≡ log → Walked alone worker key locked answer stamp v w
walked_of {alone} {v} {u} {w} {worker} {key} {locked} {answer} stamp actor r m meets f n l = record {
  page = f.page;
  past = f.past;
  onward = onward_after alone v u f.past r f.onward;
  ran = ran_append alone v [] u (event.Next worker f.page key answer ∷ []) w r f.ran;
  whole = f.whole;
  was_met = f.was_met;
  number = n ∙ f.number_is;
  log = l ∙ f.log_is;
  locks = locks;
  held = λ k h. subst (λ (q : Given). holds_row ((after_all q f.past).core.row ((opening q).row_of k)) worker ≡ true) (sym f.ran.given) (own.held ((opening u.given).row_of k) (m.held k (locks k h)));
}
  where
    own : OwnKept u (up_to u f.past) worker
    own =
        let mine = may_ran alone v u [] worker r actor in
        own_after alone u (up_to u f.past) worker mine (onward_ran alone u w (event.Next worker f.page key answer) f.past mine f.onward f.whole f.ran)

    locks : AreLocked locked (met_keys (opening w.given).format key ((after_all w.given f.past).core.page f.page).node.pairs)
    locks = subst (AreLocked locked) (ap (λ (n : Node). met_keys (format_of 1) key n.pairs) f.same ∙ met_as (format_of 1) (opening w.given).format key ((after_all w.given f.past).core.page f.page).node.pairs refl) (meets f.words f.seen)

-- it met an entry that is not locked
pub unlocked_of : {alone : Bool} {v w : View} {row version key : ℕ} {h : Head} {acts : List Act} {at : ℕ} {locked : ℕ → Type 0} → Ran alone v [] w → IsLeafIn w.given (state w) row version key h acts
    → ((p : stored.Page) → IsSeen row version (h.packed % 256) acts p → IsFirstUnlocked locked at (met_keys (format_of 1) key p.node.pairs)) → MetUnlocked alone key at locked v w
unlocked_of {alone} {v} {w} {row} {version} {key} {h} {acts} {at} {locked} ran leaf meets = record {
  ran = ran;
  page = h.page;
  below = leaf.below;
  hot = ap is_hot leaf.hot;
  leaf = leaf.leaf;
  first = subst (IsFirstUnlocked locked at) (ap (λ (n : Node). met_keys (format_of 1) key n.pairs) leaf.bare ∙ met_as (format_of 1) (opening w.given).format key ((state w).core.page h.page).node.pairs refl) (meets (framed_page (state w).core h.page 0) leaf.seen);
}

-- the answer counts from before looks
pub walked_before : {alone : Bool} {v u : View} (w : View) (worker key : ℕ) (locked : ℕ → Type 0) (n : Following) → Ran alone v [] u → IsWalked alone worker key locked u n w → IsWalked alone worker key locked v n w
walked_before {alone} {v} {u} w worker key locked n r d = go n d
  where
    again : {answer : Met} {stamp : Stamp} → Walked alone worker key locked answer stamp u w → Walked alone worker key locked answer stamp v w
    again {answer} f = record {
      page = f.page;
      past = f.past;
      onward = onward_after alone v u f.past r f.onward;
      ran = ran_append alone v [] u (event.Next worker f.page key answer ∷ []) w r f.ran;
      whole = f.whole;
      was_met = f.was_met;
      number = f.number;
      log = f.log;
      locks = f.locks;
      held = f.held;
    }

    go : (n : Following) → IsWalked alone worker key locked u n w → IsWalked alone worker key locked v n w
    go (Pair at value stamp) d = again d
    go (Gap high stamp) d = (again d.0, d.1)
    go (Unlocked at) d = record { ran = ran_append alone v [] u [] w r d.ran; page = d.page; below = d.below; hot = d.hot; leaf = d.leaf; first = d.first }
    go (Cold page) d = record { ran = ran_append alone v [] u [] w r d.ran; cold = d.cold }
    go (Moved m) d = ran_append alone v [] u (Miss worker ∷ []) w r d
    go (Latched l) d = ran_append alone v [] u (Miss worker ∷ []) w r d

-- ## Short of the leaf

pub stop_walked : (alone : Bool) (v w : View) (worker key : ℕ) (locked : ℕ → Type 0) (s : Stop) → Went alone worker key v (answer_of s) w → IsWalked alone worker key locked v (next_of s) w
stop_walked alone v w worker key locked (stop.Cold page) d = d
stop_walked alone v w worker key locked (stop.Moved m) d = d
stop_walked alone v w worker key locked (stop.Latched l) d = d

pub stop_caused : (u w : View) (s : Stop) → Caused u (answer_of s) w → WalkCaused u (next_of s) w
stop_caused u w (stop.Cold page) c = c
stop_caused u w (stop.Moved m) c = c
stop_caused u w (stop.Latched l) c = c

pub stop_met : (s : Stop) → IsSettled (answer_of s) → IsMet (next_of s)
stop_met (stop.Cold page) q = q
stop_met (stop.Moved m) q = q
stop_met (stop.Latched l) q = q
