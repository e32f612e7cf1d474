-- How sessions stand at the beginning of rows.
use Rattle.std.proofs.Common.{ltb, leb, ◌≡◌, ◌<◌, ◌≤◌, ◌+◌, ◌^◌, ℕ, suc, true, false, List, [], ◌∷◌, refl, sym, ap, subst, ◌∙◌, arith, length, replicate}
use Rattle.std.proofs.lemmas.List.{get_or-replicate, length-replicate}
use Rattle.std.proofs.lemmas.Bool.{and_parts, ltb-true, leb-true}
use Rattle.page_model.specs.Page.{Page}
use Rattle.btree_descent.specs.core_state.Openings.{Opening}
use Rattle.btree_descent.specs.core_state.Needs.{is_worker}
use Rattle.btree_descent.specs.row_words.declared.given.Given.{Given}
use Rattle.btree_descent.specs.row_words.Openings.{opening}
use Rattle.btree_descent.specs.row_words.Sealed.{begun}
use Rattle.btree_descent.specs.rows_trait.Views.{after_all}
use Rattle.row_opening.specs.Openings.{Opens}
use Rattle.row_opening.proofs.Same.{every_opened}
use Rattle.btree_descent.specs.Known as descent
use Rattle.key_locks.specs.Rows.{IsWorker, IsSound}
use Rattle.key_locks.specs.Soundness.{unbegun}
use Rattle.key_locks.proofs.Soundness.{every_sound}
use Rattle.row_opening.specs.Opened.{given_of, pages_of, IsOpened}
use Rattle.row_sessions.specs.declared.session.Session.{Session}
use Rattle.row_sessions.specs.Standing.{IsOf, no_session, first_session, session_at, AreSessions}

-- ## Sessions

first_of : (base : ℕ) → IsOf base (first_session base) (record { clock = base; floor = base; debt = 0; txn = 0; end = base; is_open = false; changes = [] })
first_of base = record { is_open = refl; clock = refl; floor = refl; debt = refl; txn = refl; end = refl; changes = refl; low = refl; last = omega arith }

pub first_sessions : (frames locks workers base : ℕ) (pages : List Page) (xs : List Session) → xs ≡ replicate (workers + 1) (first_session base) → IsOpened pages (given_of frames locks workers base pages)
    → AreSessions workers base xs (after_all (given_of frames locks workers base pages) [])
first_sessions frames locks workers base pages xs is o = let v = given_of frames locks workers base pages in let worker = ap (λ m. m.core.worker) o.rest in record {
  count = ap length is ∙ length-replicate (workers + 1) (first_session base);
  each = λ w le. let at : session_at xs w ≡ first_session base = ap (λ ys. session_at ys w) is ∙ get_or-replicate (workers + 1) w (first_session base) no_session (omega arith) in
      subst (λ x. IsOf base x ((begun v).core.worker w)) (sym at) (subst (λ f. IsOf base (first_session base) (f w)) (sym worker) (first_of base));
  idle = ap (λ f. (f 0).is_open) worker;
  flushed = λ w some le. ap (λ m. m.core.flushed w) o.rest;
}

-- ## Moments

pub pages_long : (pages : List Page) → length (pages_of pages) ≡ length pages
pages_long [] = refl
pages_long (x ∷ xs) = ap suc (pages_long xs)

pub first_sound : (frames locks workers base : ℕ) (pages : List Page) → workers ≤ 16 → length pages ≤ frames → frames < 2 ^ 32 → IsOpened pages (given_of frames locks workers base pages)
    → length (pages_of pages) ≡ length pages → descent.IsSound (given_of frames locks workers base pages)
first_sound frames locks workers base pages few fit small o long es = let v = given_of frames locks workers base pages in let at = every_opened o.start v o.opens es in record {
  tree = at.tree;
  residence = at.places;
  logs = at.logs (omega arith);
  few = omega arith;
  undo = at.undo;
}

of_worker : (g : Opening) (w : ℕ) → is_worker g w ≡ true → IsWorker g.workers w
of_worker g w h = let t = and_parts (ltb 0 w) (leb w g.workers) h in record { one = ltb-true 0 w t.0; among = leb-true w g.workers t.1 }

-- an opening opens so whatever happened before
opens_unbegun : (x : Opening) (v : Given) → Opens x v → Opens x (unbegun v)
opens_unbegun x v o = record { faithful = o.faithful; workers = o.workers; frames = o.frames; locks = o.locks; changes = o.changes; joined = o.joined; format = o.format; first = o.first; logs = o.logs }

pub first_locks : (x : Opening) (v : Given) → Opens x v → IsSound v
first_locks x v o = every_sound v (λ es i. let l = (every_opened x (unbegun v) (opens_unbegun x v o) es).locks in record {
  holder = λ w h. of_worker (opening v) w (l.holder i w h);
  reader = λ w h. of_worker (opening v) w (l.reader i w h);
})
