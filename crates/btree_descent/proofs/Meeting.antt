-- A walk's event may be, where the leaf says what follows and the worker holds the row.
use Rattle.std.proofs.Common.{◌≡◌, ◌≢◌, ◌==◌, ◌&&◌, ltb, ℕ, Bool, true, false, cond, List, [], ◌∷◌, ◌++◌, Option, Some, None, refl, sym, ap, subst, ◌∙◌, eq-eqb, ne_eqb}
use Rattle.std.proofs.lemmas.Bool.{and_from}
use Rattle.map_model.specs.Maps.{MapAnswer}
use Rattle.page_model.specs.Nodes.{holds}
use Rattle.lean_proto.specs.core_state.Openings.{Opening}
use Rattle.lean_proto.specs.core_state.Events as happening
use Rattle.lean_proto.specs.core_state.Needs as core
use Rattle.lean_proto.specs.core_state.Needs.{holds_row, holds_answer, is_following, following, is_leaf_of}
use Rattle.lean_proto.specs.core_state.States.{State, is_hot}
use Rattle.lean_proto.specs.core_state.Steps.{happens}
use Rattle.lean_proto.specs.row_words.declared.event.Event.{Event}
use Rattle.lean_proto.specs.row_words.declared.event.Event.TheVariants.{Next, Miss}
use Rattle.lean_proto.specs.row_words.declared.event.Met.{Met}
use Rattle.lean_proto.specs.row_words.declared.event.Met.TheVariants as met
use Rattle.lean_proto.specs.row_words.declared.given.Given.{Given}
use Rattle.lean_proto.specs.row_words.Moments.{Moment, met_of}
use Rattle.lean_proto.specs.row_words.Openings.{opening}
use Rattle.lean_proto.specs.row_words.Sealed.{stepped}
use Rattle.lean_proto.specs.rows_trait.declared.view.View.{View}
use Rattle.lean_proto.specs.rows_trait.Views.{AreSilent, after_all, state}
use Rattle.lean_proto.proofs.version_latch.Naming.{one_silent, either_silent}
use Rattle.btree_descent.specs.Named.{next_at, met_or}
use Rattle.btree_descent.specs.Meets.{answer_with, HoldsIts}
use Rattle.btree_descent.proofs.Pasts.{LeavesPages, state_then}

-- ## The event by the number that was loaded

pub next_silent : (p : ℕ → Bool) (v : Given) (worker page key : ℕ) (a : Option (ℕ × ℕ)) (high version n : ℕ) → p worker ≡ true → AreSilent p v (next_at worker page key a high version n)
next_silent p v worker page key a high version n m = either_silent p v (n == version) (Next worker page key (met_or a high) ∷ []) (Miss worker ∷ []) (one_silent p v (Next worker page key (met_or a high)) m refl refl) (one_silent p v (Miss worker) m refl refl)

pub next_same : (worker page key : ℕ) (a : Option (ℕ × ℕ)) (high version : ℕ) → next_at worker page key a high version version ≡ Next worker page key (met_or a high) ∷ []
next_same worker page key a high version = rw (eq-eqb version version refl) refl

pub next_other : (worker page key : ℕ) (a : Option (ℕ × ℕ)) (high version n : ℕ) → n ≢ version → next_at worker page key a high version n ≡ Miss worker ∷ []
next_other worker page key a high version n ne = rw (ne_eqb n version ne) refl

-- ## What it leaves

next_leaves : (v : Given) (m : Moment) (w p k : ℕ) (a : Met) → LeavesPages m.core (stepped v m (Next w p k a)).core
unfolding stepped
next_leaves v m w p k (met.Pair j x) = go (core.may (opening v) m.core (happening.Event.Next w p k (MapAnswer.Pair j x)))
  where
    go : (b : Bool) → LeavesPages m.core (cond b (happens (opening v) m.core (happening.Event.Next w p k (MapAnswer.Pair j x))) m.core)
    go true = record { page = refl; place = refl }
    go false = record { page = refl; place = refl }
next_leaves v m w p k (met.Gap h) = go (core.may (opening v) m.core (happening.Event.Next w p k (MapAnswer.Gap h)))
  where
    go : (b : Bool) → LeavesPages m.core (cond b (happens (opening v) m.core (happening.Event.Next w p k (MapAnswer.Gap h))) m.core)
    go true = record { page = refl; place = refl }
    go false = record { page = refl; place = refl }

pub next_pages : (w : View) (past : List Event) (worker p k : ℕ) (a : Met) → w.seen ≡ past ++ Next worker p k a ∷ [] → LeavesPages (after_all w.given past).core (state w).core
next_pages w past worker p k a seen = subst (λ (m : Moment). LeavesPages (after_all w.given past).core m.core) (sym (state_then w past (Next worker p k a) seen)) (next_leaves w.given (after_all w.given past) worker p k a)

-- ## Its need

same_answer : (a : Option (ℕ × ℕ)) (high : ℕ) → is_following (met_of (met_or a high)) (answer_with a high) ≡ true
same_answer None high = eq-eqb high high refl
same_answer (Some x) high = and_from (x.0 == x.0) (x.1 == x.1) (eq-eqb x.0 x.0 refl) (eq-eqb x.1 x.1 refl)

held_answer : (g : Opening) (s : State) (w high : ℕ) (a : Option (ℕ × ℕ)) → HoldsIts g s w a → holds_answer g s w (met_of (met_or a high)) ≡ true
held_answer g s w high None h = refl
held_answer g s w high (Some x) h = h

-- in s the worker is open, the page is the key's hot leaf, and what follows there is this
pub next_met : (g : Opening) (s : State) (w p k high : ℕ) (a : Option (ℕ × ℕ)) → (s.worker w).is_open ≡ true → is_hot (s.place p) ≡ true → ltb p g.format.pages ≡ true → holds (s.page p).node k ≡ true
    → following g.format k (s.page p).node.pairs (s.page p).node.high ≡ answer_with a high → HoldsIts g s w a → core.may g s (happening.Event.Next w p k (met_of (met_or a high))) ≡ true
next_met g s w p k high a is_open hot below leaf says lock =
    let follows : is_following (met_of (met_or a high)) (following g.format k (s.page p).node.pairs (s.page p).node.high) ≡ true = ap (is_following (met_of (met_or a high))) says ∙ same_answer a high in
    and_from (is_hot (s.place p) && true) _ (and_from (is_hot (s.place p)) true hot refl)
    (and_from (s.worker w).is_open _ is_open
    (and_from (is_leaf_of g (s.page p).node p k) _ (and_from (ltb p g.format.pages) (holds (s.page p).node k) below leaf)
    (and_from (is_following (met_of (met_or a high)) (following g.format k (s.page p).node.pairs (s.page p).node.high)) _ follows (held_answer g s w high a lock))))
