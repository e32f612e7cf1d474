-- What is so between two calls, where rows, views and sessions are the same.
use Rattle.std.proofs.Common.{◌≡◌, ◌≤◌, ◌^◌, ℕ, sym, ap, ◌∙◌, subst}
use Rattle.btree_descent.specs.row_words.Openings.{opening}
use Rattle.btree_descent.specs.rows_trait.declared.view.View.{View}
use Rattle.btree_descent.specs.rows_trait.Views.{Shape}
use Rattle.btree_descent.specs.Known as pages
use Rattle.key_locks.specs.Rows as locking
use Rattle.engine_calls.specs.worker_log.Logs.{Log}
use Rattle.session_state.specs.Holds.{AreRows, Holds}
use Rattle.session_state.specs.Numbers.{AreClocked, AreNumbered}
use Rattle.session_state.specs.declared.session.Session.{Session}

-- what is so of the rows whatever has happened on them
pub rows_on : (z : Shape) (v w : View) (own workers frames count : ℕ) → w.given ≡ v.given → AreRows z v own workers frames count → AreRows z w own workers frames count
rows_on z v w own workers frames count e r = record {
  tree = record { some = r.tree.some; shape = r.tree.shape; given = ap (λ k. (opening k).frames) e ∙ r.tree.given };
  tree_sound = subst (λ k. pages.IsSound k) (sym e) r.tree_sound;
  locks = record { spans = r.locks.spans; given = ap (λ k. (opening k).frames) e ∙ r.locks.given; locks = ap (λ k. k.rows) e ∙ r.locks.locks; few = subst (λ k. (opening k).workers ≤ 16) (sym e) r.locks.few; works = subst (λ k. locking.IsWorker (opening k).workers own) (sym e) r.locks.works };
  locks_sound = subst (λ k. locking.IsSound k) (sym e) r.locks_sound;
  clocked = subst (λ k. AreClocked k) (sym e) r.clocked;
  numbered = subst (λ k. AreNumbered k) (sym e) r.numbered;
  workers = ap (λ k. (opening k).workers) e ∙ r.workers;
  sized = r.sized;
  low = r.low;
  high = r.high;
  most = r.most;
  few = r.few;
  few_pages = subst (λ k. (opening k).format.pages ≤ 2 ^ 16) (sym e) r.few_pages;
}

-- as another shape and session, which are the same
pub holds_as : (z y : Shape) (v : View) (x u : Session) (log : Log) → y ≡ z → u ≡ x → Holds z v x log → Holds y v u log
holds_as z y v x u log p q h = subst (λ s. Holds s v u log) (sym p) (subst (λ s. Holds z v s log) (sym q) h)
