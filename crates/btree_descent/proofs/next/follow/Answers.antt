use Rattle.std.proofs.Common.{◌≡◌, ◌%◌, ◌∙◌, ℕ, List, Option, Some, None, [], ◌∷◌, true, refl, sym, ap, subst}
use Rattle.std.proofs.lemmas.Bool.{lt-ltb}
use Rattle.page_model.specs.Nodes.{Node, holds}
use Rattle.lean_proto.specs.core_state.Needs.{following, holds_row}
use Rattle.lean_proto.specs.core_state.States.{Worker, is_hot}
use Rattle.lean_proto.specs.row_words.declared.event.Event.{Event}
use Rattle.lean_proto.specs.row_words.declared.event.Event.TheVariants.{Next, Miss}
use Rattle.lean_proto.specs.row_words.declared.given.Given.{Given}
use Rattle.lean_proto.specs.row_words.Moments.{format_of}
use Rattle.lean_proto.specs.row_words.Openings.{opening}
use Rattle.lean_proto.specs.row_words.Words.{framed_page}
use Rattle.lean_proto.proofs.row_words.Frames.{framed_high}
use Rattle.lean_proto.specs.rows_trait.declared.view.View.{View}
use Rattle.lean_proto.specs.rows_trait.Views.{after_all, may, state}
use Rattle.lean_proto.proofs.rows_trait.Runs.{ran_none}
use Rattle.lean_proto.proofs.version_latch.Keeping.{looked_ran}
use Rattle.lean_proto.specs.Kept.{OwnKept}
use Rattle.lean_proto.proofs.Owns.{own_after}
use Rattle.btree_descent.specs.Named.{next_at, met_or}
use Rattle.btree_descent.specs.Meets.{HoldsIts, answer_with}
use Rattle.btree_descent.proofs.Calls.{sound_after, frames_after}
use Rattle.btree_descent.proofs.Keeping.{seen_gsn}
use Rattle.btree_descent.proofs.Nodes.{leaf_in, heads}
use Rattle.btree_descent.proofs.Pasts.{passed, onward_ran, up_to}
use Rattle.btree_descent.proofs.Following.{following_as}
use Rattle.btree_descent.proofs.Meeting.{next_silent, next_same, next_other, next_pages, next_met}
use Rattle.btree_descent.proofs.next.follow.Goals as goal

pub check-requires-clause-event : goal.check-requires-clause-event
check-requires-clause-event g c n =
    let v = g.R.Rows.view c.args.seat.now in
    next_silent (may (g.R.Rows.shape c.args.rows.now).alone v) v.given c.args.worker c.args.leaf.now.head.page c.args.key c.args.pair c.args.leaf.now.head.high c.args.leaf.now.glimpse.version n c.requires.leaf.on.actor

-- the row of the pair is held at a moment up to which others alone stepped
locks_then : (v w : View) (past : List Event) (worker : ℕ) (pair : Option (ℕ × ℕ)) → w.given ≡ v.given → OwnKept v (up_to v past) worker → HoldsIts (opening v.given) (state v).core worker pair → HoldsIts (opening w.given) (after_all w.given past).core worker pair
locks_then v w past worker None given own h = tt
locks_then v w past worker (Some x) given own h =
    subst (λ (q : Given). holds_row ((after_all q past).core.row ((opening q).row_of x.0)) worker ≡ true) (sym given) (own.held ((opening v.given).row_of x.0) h)

pub returns-in-Ok-clause-ok : goal.returns-in-Ok-clause-ok
returns-in-Ok-clause-ok g c number knows =
    let may = c.requires.may in
    let y = g.R.Rows.shape c.args.rows.now in
    let v = g.R.Rows.view c.args.seat.now in
    let w = g.R.Rows.view c.check.new.seat in
    let l = c.requires.leaf in
    let row = c.args.leaf.now.glimpse.row in
    let version = c.args.leaf.now.glimpse.version in
    let h = c.args.leaf.now.head in
    let worker = c.args.worker in
    let key = c.args.key in
    let pair = c.args.pair in
    let e = Next worker h.page key (met_or pair h.high) in
    let did = passed y y row version (next_at worker h.page key pair h.high version) v v w e refl (ran_none y.alone v) c.in-Ok.ensures.ok (next_same worker h.page key pair h.high version) l.on.actor in
    let given = did.ran.given in
    let leaf = leaf_in w.given (state w) row version key h v.steps (frames_after y v w c.args.frames row given l.on.sized l.on.within) (sound_after v w given l.on.sound) (λ i k small kn. c.in-Ok.ensures.valid i k kn) l.head l.node l.level in
    let pages = next_pages w did.past worker h.page key (met_or pair h.high) did.seen in
    let s = (after_all w.given did.past).core in
    let own = own_after y.alone v (up_to v did.past) worker l.on.actor (onward_ran y.alone v w e did.past l.on.actor did.onward did.seen did.ran) in
    let open_is = ap (λ (q : Given). ((after_all q did.past).core.worker worker).is_open) given ∙ (ap (λ (a : Worker). a.is_open) own.worker ∙ may.is_open) in
    let seen = framed_page (state w).core h.page 0 in
    let high : h.high ≡ ((state w).core.page h.page).node.high = (heads row version h v.steps seen l.head leaf.fits leaf.seen.agrees).high ∙ framed_high (state w).core.place ((state w).core.page h.page).node in
    let told = subst (λ (n : Node). following (format_of 1) key n.pairs n.high ≡ answer_with pair n.high) leaf.bare (c.requires.says seen leaf.seen) in
    let then : following (opening w.given).format key (s.page h.page).node.pairs (s.page h.page).node.high ≡ answer_with pair h.high =
    (λ i. following (opening w.given).format key (sym pages.page i h.page).node.pairs (sym pages.page i h.page).node.high)
    ∙ (following_as (opening w.given).format (format_of 1) key ((state w).core.page h.page).node.high ((state w).core.page h.page).node.pairs refl
    ∙ (told ∙ ap (answer_with pair) (sym high))) in record {
      page = h.page;
      past = did.past;
      onward = did.onward;
      ran = did.ran;
      whole = did.seen;
      was_met = next_met (opening w.given) s worker h.page key h.high pair open_is (ap (λ f. is_hot (f h.page)) (sym pages.place) ∙ ap is_hot leaf.hot) (lt-ltb h.page (opening w.given).format.pages leaf.below) (ap (λ f. holds (f h.page).node key) (sym pages.page) ∙ leaf.leaf) then (locks_then v w did.past worker pair given own may.its);
      number_is = seen_gsn row version (h.packed % 256) number v.steps seen leaf.seen knows ∙ ap (λ f. (f h.page).gsn) pages.page;
      log_is = leaf.log ∙ ap (λ f. (f h.page).last) pages.page;
      below = l.node.under;
      words = seen;
      seen = leaf.seen;
      same = leaf.bare ∙ ap (λ f. (f h.page).node) pages.page;
    }

pub returns-in-Err-clause-err : goal.returns-in-Err-clause-err
returns-in-Err-clause-err g c =
    let y = g.R.Rows.shape c.args.rows.now in
    let v = g.R.Rows.view c.args.seat.now in
    let w = g.R.Rows.view c.check.new.seat in
    let h = c.args.leaf.now.head in
    let glimpse = c.args.leaf.now.glimpse in
    let e = c.in-Err.ensures.err in
    looked_ran y glimpse.row c.in-Err.moved.found (next_at c.args.worker h.page c.args.key c.args.pair h.high glimpse.version) v w (Miss c.args.worker ∷ []) e.3 (next_other c.args.worker h.page c.args.key c.args.pair h.high glimpse.version c.in-Err.moved.found (λ q. e.2 (q ∙ sym e.1))) (c.requires.leaf.on.actor, tt)

pub returns-in-Err-clause-cause : goal.returns-in-Err-clause-cause
returns-in-Err-clause-cause g c u f = c.in-Err.ensures.cause u f

pub returns-in-Err-clause-quiet : goal.returns-in-Err-clause-quiet
returns-in-Err-clause-quiet g c alone last = let e = c.in-Err.ensures.err in e.2 (e.3.steady alone c.args.leaf.now.glimpse.version last ∙ sym e.1)
