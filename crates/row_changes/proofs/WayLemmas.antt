-- A page of a key's way that is not hot.
use Rattle.std.proofs.Common.{◌≡◌, ◌∙◌, ◌&&◌, leb, ltb, ℕ, Bool, true, false, refl, sym, ap, subst, arith, true≢false}
use Rattle.std.proofs.lemmas.Bool.{and_from, le-leb, lt-ltb}
use Rattle.page_model.specs.Nodes.{Node, covers}
use Rattle.page_model.proofs.Tree.{Lies, route_lies}
use Rattle.session_state.specs.core_state.States.{nodes_of}
use Rattle.session_state.specs.row_words.declared.given.Given.{Given}
use Rattle.session_state.specs.row_words.Moments.{Moment}
use Rattle.session_state.specs.row_words.Openings.{opening}
use Rattle.session_state.specs.rows_trait.declared.view.View.{View}
use Rattle.session_state.specs.rows_trait.Views.{Shape, after_all, state}
use Rattle.session_state.specs.worker_log.Logs.{Log}
use Rattle.session_state.specs.btree_descent.Descents.{MetCold}
use Rattle.session_state.specs.btree_descent.Known.{IsCold, Sound}
use Rattle.session_state.specs.Holds.{Holds}
use Rattle.session_state.specs.declared.session.Session.{Session}
use Rattle.row_changes.proofs.SeenLemmas.{none_seen}
use Rattle.row_changes.specs.Ways.{HasMetCold, IsWarm}

-- where the pages are a tree, a page that the way names covers the key
cold_covers : (v : Given) (m : Moment) (key page : ℕ) → Sound v m → IsCold v m key page → covers (nodes_of m.core page) key ≡ true
cold_covers v m key page sound c = subst (λ (p : ℕ). covers (nodes_of m.core p) key ≡ true) (sym c.names) (covered (route_lies (opening v).format (nodes_of m.core) sound.tree c.parent key 0 c.within lies c.inner).1)
  where
    live : (b : Bool) → (nodes_of m.core c.parent).live ≡ b → (nodes_of m.core c.parent).live ≡ true
    live true e = e
    live false e = let high = ap (λ (n : Node). n.high) ((sound.tree.formed c.parent c.within).other e) in let under = c.under in absurd (omega arith)

    lies : Lies (nodes_of m.core c.parent) key
    lies = record { live = live (nodes_of m.core c.parent).live refl; low = c.above; high = c.under }

    covered : {n : Node} → Lies n key → covers n key ≡ true
    covered {n} l = and_from n.live (leb n.low key && ltb key n.high) l.live (and_from (leb n.low key) (ltb key n.high) (le-leb n.low key l.low) (lt-ltb key n.high l.high))

-- where nobody else steps nothing was seen
pub met_cold : (z : Shape) (v w : View) (key page : ℕ) → z.alone ≡ true → MetCold z.alone key page v w → HasMetCold key page v w
met_cold z v w key page alone m = record { given = m.ran.given; seen = none_seen z.alone v w alone m.ran; cold = m.cold }

-- on a warm way none is met
pub warm_met : (z : Shape) (v w : View) (x : Session) (log : Log) (key page : ℕ) → Holds z v x log → IsWarm v key → HasMetCold key page v w → ⊥
warm_met z v w x log key page h warm m = true≢false (sym (warm page c.below (cold_covers v.given (state v) key page (h.rows.tree_sound v.seen) c) (omega arith)) ∙ c.cold)
  where
    c : IsCold v.given (state v) key page
    c = subst (λ es. IsCold v.given (after_all v.given es) key page) m.seen (subst (λ (k : Given). IsCold k (after_all k w.seen) key page) m.given m.cold)
