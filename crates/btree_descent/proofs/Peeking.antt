-- A peek: its events, what it leaves, and when it may be.
use Rattle.std.proofs.Common.{◌≡◌, ◌≢◌, ◌&&◌, ltb, ℕ, Bool, true, false, cond, List, [], ◌∷◌, ◌++◌, Option, Some, None, refl, sym, ap, subst, ◌∙◌, eq-eqb, ne_eqb, ◌==◌}
use Rattle.std.proofs.lemmas.Bool.{lt-ltb}
use Rattle.page_model.specs.Nodes.{holds}
use Rattle.lean_proto.specs.core_state.Events as happening
use Rattle.lean_proto.specs.core_state.Needs as core
use Rattle.lean_proto.specs.core_state.Needs.{is_value, value_in}
use Rattle.lean_proto.specs.core_state.States.{is_hot}
use Rattle.lean_proto.specs.core_state.Steps.{happens}
use Rattle.lean_proto.specs.row_words.declared.event.Event.{Event}
use Rattle.lean_proto.specs.row_words.declared.event.Event.TheVariants.{Peek, Miss}
use Rattle.lean_proto.specs.row_words.declared.given.Given.{Given}
use Rattle.lean_proto.specs.row_words.Moments.{Moment, event_of}
use Rattle.lean_proto.specs.row_words.Openings.{opening}
use Rattle.lean_proto.specs.row_words.Sealed.{stepped}
use Rattle.lean_proto.specs.rows_trait.declared.view.View.{View}
use Rattle.lean_proto.specs.rows_trait.Views.{AreSilent, after_all, state}
use Rattle.lean_proto.specs.rows_trait.Turns.{Ran}
use Rattle.btree_descent.specs.declared.descent.Stop.{Stop}
use Rattle.btree_descent.specs.declared.descent.Stop.TheVariants as stop
use Rattle.btree_descent.specs.declared.peek.Peeked.{Peeked}
use Rattle.btree_descent.specs.declared.peek.Peeked.TheVariants as peeked
use Rattle.btree_descent.specs.Inside.{answer_of}
use Rattle.btree_descent.specs.Known.{Says}
use Rattle.btree_descent.specs.Named.{peek_at}
use Rattle.btree_descent.specs.Descents as descents
use Rattle.btree_descent.specs.Descents.{Onward}
use Rattle.btree_descent.specs.Peeks.{Saw, Went, Caused, IsSettled, peeked_of, seen_as}
use Rattle.btree_descent.proofs.Pasts.{LeavesPages, onward_after, same_value, state_then}
use Rattle.lean_proto.proofs.rows_trait.Runs.{ran_append}
use Rattle.lean_proto.proofs.version_latch.Naming.{one_silent, either_silent}

-- ## Its events

pub peek_silent : (p : ℕ → Bool) (v : Given) (worker page key : ℕ) (a : Option ℕ) (version n : ℕ) → p worker ≡ true → AreSilent p v (peek_at worker page key a version n)
peek_silent p v worker page key a version n m = either_silent p v (n == version) (Peek worker page key a ∷ []) (Miss worker ∷ []) (one_silent p v (Peek worker page key a) m refl refl) (one_silent p v (Miss worker) m refl refl)

pub peek_same : (worker page key : ℕ) (a : Option ℕ) (version : ℕ) → peek_at worker page key a version version ≡ Peek worker page key a ∷ []
peek_same worker page key a version = rw (eq-eqb version version refl) refl

pub peek_other : (worker page key : ℕ) (a : Option ℕ) (version n : ℕ) → n ≢ version → peek_at worker page key a version n ≡ Miss worker ∷ []
peek_other worker page key a version n ne = rw (ne_eqb n version ne) refl

-- ## What it leaves

peek_leaves : (v : Given) (m : Moment) (w p k : ℕ) (a : Option ℕ) → LeavesPages m.core (stepped v m (Peek w p k a)).core
unfolding stepped
peek_leaves v m w p k a = go (core.may (opening v) m.core (happening.Event.Peek w p k a))
  where
    go : (b : Bool) → LeavesPages m.core (cond b (happens (opening v) m.core (happening.Event.Peek w p k a)) m.core)
    go true = record { page = refl; place = refl }
    go false = record { page = refl; place = refl }

pub peek_pages : (w : View) (past : List Event) (worker p k : ℕ) (a : Option ℕ) → w.seen ≡ past ++ Peek worker p k a ∷ [] → LeavesPages (after_all w.given past).core (state w).core
peek_pages w past worker p k a seen = subst (λ (m : Moment). LeavesPages (after_all w.given past).core m.core) (sym (state_then w past (Peek worker p k a) seen)) (peek_leaves w.given (after_all w.given past) worker p k a)

all_true : (a d e f : Bool) → a ≡ true → d ≡ true → e ≡ true → f ≡ true → ((a && true) && ((d && e) && f)) ≡ true
all_true false d e f p s t u = p
all_true true false e f p s t u = s
all_true true true false f p s t u = t
all_true true true true f p s t u = u

-- it might be
pub peek_met : (w : View) (past : List Event) (worker p k : ℕ) (a : Option ℕ) → w.seen ≡ past ++ Peek worker p k a ∷ [] → Says w.given (state w) p k a
    → core.may (opening w.given) (after_all w.given past).core (event_of (Peek worker p k a)) ≡ true
peek_met w past worker p k a seen says =
    let g = opening w.given in
    let s = (after_all w.given past).core in
    let l = peek_pages w past worker p k a seen in
    let hot : is_hot (s.place p) ≡ true = ap (λ f. is_hot (f p)) (sym l.place) ∙ says.hot in
    let leaf : holds (s.page p).node k ≡ true = ap (λ f. holds (f p).node k) (sym l.page) ∙ says.leaf in
    let below : ltb p g.format.pages ≡ true = lt-ltb p g.format.pages says.below in
    let told : a ≡ value_in g.format (s.page p).node k = says.value ∙ ap (λ f. value_in g.format (f p).node k) l.page in
    let value : is_value a (value_in g.format (s.page p).node k) ≡ true = ap (λ x. is_value a x) (sym told) ∙ same_value a in
    all_true (is_hot (s.place p)) (ltb p g.format.pages) (holds (s.page p).node k) (is_value a (value_in g.format (s.page p).node k)) hot below leaf value

-- ## From the beginning of the call

saw_after : (alone : Bool) (worker key : ℕ) (a : Option ℕ) (v u w : View) → Ran alone v [] u → Saw alone worker key a u w → Saw alone worker key a v w
saw_after alone worker key a v u w r s = record {
  page = s.page;
  past = s.past;
  onward = onward_after alone v u s.past r s.onward;
  ran = ran_append alone v [] u (Peek worker s.page key a ∷ []) w r s.ran;
  seen = s.seen;
  met = s.met;
  says = s.says;
}

pub went_on : (alone : Bool) (worker key : ℕ) (v u w : View) (a : Peeked) → Ran alone v [] u → Went alone worker key u a w → Went alone worker key v a w
went_on alone worker key v u w (peeked.Found value) r d = saw_after alone worker key (Some value) v u w r d
went_on alone worker key v u w peeked.Absent r d = saw_after alone worker key None v u w r d
went_on alone worker key v u w (peeked.Cold page) r d = record { ran = ran_append alone v [] u [] w r d.ran; cold = d.cold }
went_on alone worker key v u w (peeked.Moved m) r d = ran_append alone v [] u (Miss worker ∷ []) w r d
went_on alone worker key v u w (peeked.Latched l) r d = ran_append alone v [] u (Miss worker ∷ []) w r d

-- a descent that ended short of the leaf
pub went_short : (alone : Bool) (worker key : ℕ) (v : View) (s : Stop) (w : View) → descents.Went alone worker key v (answer_of s) w → Went alone worker key v (peeked_of s) w
went_short alone worker key v (stop.Cold page) w d = d
went_short alone worker key v (stop.Moved m) w d = d
went_short alone worker key v (stop.Latched l) w d = d

pub caused_short : (v : View) (s : Stop) (w : View) → descents.Caused v (answer_of s) w → Caused v (peeked_of s) w
caused_short v (stop.Cold page) w d = d
caused_short v (stop.Moved m) w d = d
caused_short v (stop.Latched l) w d = d

pub settled_short : (s : Stop) → descents.IsSettled (answer_of s) → IsSettled (peeked_of s)
settled_short (stop.Cold page) d = d
settled_short (stop.Moved m) d = d
settled_short (stop.Latched l) d = d

-- what a leaf said
pub went_saw : (alone : Bool) (worker key : ℕ) (a : Option ℕ) (v w : View) → Saw alone worker key a v w → Went alone worker key v (seen_as a) w
went_saw alone worker key (Some value) v w s = s
went_saw alone worker key None v w s = s

pub caused_saw : (a : Option ℕ) (u w : View) → Caused u (seen_as a) w
caused_saw (Some value) u w = tt
caused_saw None u w = tt

pub settled_saw : (a : Option ℕ) → IsSettled (seen_as a)
settled_saw (Some value) = tt
settled_saw None = tt
