use Rattle.std.proofs.Common.{◌≡◌, sym, ap, subst, ◌∙◌, arith}
use Rattle.btree_descent.specs.row_words.declared.given.Given.{Given}
use Rattle.btree_descent.specs.row_words.Openings.{opening}
use Rattle.btree_descent.specs.rows_trait.declared.view.View.{View}
use Rattle.btree_descent.specs.rows_trait.Views.{state}
use Rattle.btree_descent.specs.Known.{IsSound}
use Rattle.key_locks.specs.Rows as lock_rows
use Rattle.row_opening.specs.Opened.{given_of}
use Rattle.row_sessions.specs.Standing.{AreSessions}
use Rattle.row_sessions.proofs.Opens.{pages_long, first_locks, first_sessions, first_sound}
use Rattle.row_sessions.proofs.sessions.Sessions.open.Goals as goal

pub returns-clause-stands : goal.returns-clause-stands
returns-clause-stands c =
    let a = c.args in
    let pages = a.pages.now in
    let o = c.in-Ok.ensures in
    let v = given_of a.frames a.locks a.workers a.base pages in
    let given : c.in-Ok.seat.view.given ≡ v = ap (λ (u : View). u.given) o.view in
    let are = c.in-Ok-true.ensures c.in-Ok-true.field-0-test in
    let z = o.sizes in
    let long = pages_long pages in record {
      picture = o.picture;
      held = ap (λ (u : View). u.held) o.view;
      sized = record {
        frames = z.0;
        locks = z.1;
        some = (let t = are.tree.some in omega arith);
        some_lock = omega arith;
        few = omega arith;
        given = ap (λ (g : Given). (opening g).frames) given ∙ (let t = are.tree.some in omega arith);
        rows = ap (λ (g : Given). g.rows) given;
        workers = ap (λ (g : Given). (opening g).workers) given ∙ (let t = z.2 in omega arith);
      };
      sound = subst IsSound (sym given) (first_sound a.frames a.locks a.workers a.base pages (omega arith) (omega arith) (omega arith) o.opened long);
      locks_sound = subst lock_rows.IsSound (sym given) (first_locks o.opened.start v o.opened.opens);
      unmarked = c.in-Ok-new.ensures.none;
      sessions = subst (λ n. AreSessions n a.base c.in-Ok-first_sessions.sessions.items (state c.in-Ok.seat.view)) (sym z.2) (subst (λ (u : View). AreSessions a.workers a.base c.in-Ok-first_sessions.sessions.items (state u)) (sym o.view) (first_sessions a.frames a.locks a.workers a.base pages c.in-Ok-first_sessions.sessions.items c.in-Ok-first_sessions.ensures o.opened));
    }
