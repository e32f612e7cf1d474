use Rattle.std.proofs.Common.{◌≡◌, ◌<◌, ◌≤◌, ◌+◌, ◌-◌, ◌∙◌, ◌⊎◌, inl, inr, ℕ, true, List, [], ◌∷◌, length, refl, sym, ap, subst, arith}
use Rattle.btree_descent.specs.row_words.declared.given.Given.{Given}
use Rattle.btree_descent.specs.row_words.declared.event.Event.TheVariants.{Purge}
use Rattle.page_model.specs.Pairs.{Pair}
use Rattle.btree_descent.specs.rows_trait.Views.{Shape, state, may}
use Rattle.btree_descent.proofs.version_latch.Keeping.{may_ran}
use Rattle.btree_descent.proofs.Calls.{sound_given}
use Rattle.btree_descent.proofs.Spots.{draws_after}
use Rattle.btree_smo.specs.Outcomes.{MissedUpTo}
use Rattle.held_rows.specs.Rows.{Stood, HoldsOne}
use Rattle.held_rows.specs.Waits.{stood_then}
use Rattle.btree_smo.specs.Inside.Quiet.{with_holds}
use Rattle.btree_smo.specs.Purges.{IsFloor, Keeps}
use Rattle.btree_smo.specs.Inside.Purging.{Holding, CanGo, IsPurging, IsRecord, KeepsBeside, WentOn}
use Rattle.disk_image.specs.log_record.declared.record.Record.{Record}
use Rattle.btree_smo.proofs.Causes.{found_before, found_after}
use Rattle.btree_smo.proofs.LockRows.{hold_none}
use Rattle.btree_smo.proofs.Tombstones.{sized_on}
use Rattle.btree_smo.proofs.EnteringPurge.{may_on, holds_on, floor_on, beside_of, purging, spared, pairs_are, all_now, number_is, cleared_done, gave, so_gave, not_cleared, bare_ran, declined}
use Rattle.btree_smo.proofs.purge.purge_held.Goals as goal
use Rattle.btree_smo.proofs.purge.purge_held.Goals.{then-gone-eq0-via-then-gone-eq0, then-gone-eq0-via-else-gone-eq0+then-left-most}

pub give_up_places-requires-clause-keeps : goal.give_up_places-requires-clause-keeps
give_up_places-requires-clause-keeps g c =
    let z = g.R.Rows.shape c.args.rows.now in
    let v = g.R.Rows.view c.args.seat.now in
    let u1 = g.R.Rows.view c.look_leaf.new.seat in
    let s1 = c.look_leaf.ensures.stood in
    let hl = holds_on s1 c.requires.leaf in
    let k = beside_of (sized_on {y = z} {z = z} {v = v} {w = u1} refl s1.waited.ran.given c.requires.locks) hl (hold_none c.args.frames 0 c.args.first.row u1 hl) in
    subst (λ (q : Shape × List ℕ). KeepsBeside q.0 u1 c.args.frames c.args.first.row q.1) (λ i. (sym c.look_leaf.ensures.fits.1 i, sym c.new-places.ensures i)) k

pub returns-in-Err-clause-clears : goal.returns-in-Err-clause-clears
returns-in-Err-clause-clears g c =
    let z = g.R.Rows.shape c.args.rows.now in
    let v = g.R.Rows.view c.args.seat.now in
    let u1 = g.R.Rows.view c.look_leaf.new.seat in
    let w = g.R.Rows.view c.give_up_places.new.seat in
    let m = subst (λ (y : Shape). MissedUpTo (1 + length c.new-places.result) y.alone u1 w) c.look_leaf.ensures.fits.1 c.give_up_places.ensures.missed in
    let e = ap (λ (ps : List ℕ). length ps) c.new-places.ensures in
    declined c.args.worker c.args.first.row (g.D.Draw.staged_of c.args.draw.now) (g.D.Draw.staged_of c.args.draw.now) (g.D.Draw.clock_of c.args.draw.now) c.in-Err.why (omega arith) c.look_leaf.ensures.stood m c.in-Err.ensures.err

pub gather-requires-clause-leaf : goal.gather-requires-clause-leaf
gather-requires-clause-leaf g c =
    subst (λ (y : Shape). HoldsOne y (g.R.Rows.view c.look_leaf.new.seat) c.args.first.row) (sym c.look_leaf.ensures.fits.1) (holds_on c.look_leaf.ensures.stood c.requires.leaf)

pub gather-requires-clause-floor : goal.gather-requires-clause-floor
gather-requires-clause-floor g c =
    subst (λ (y : Shape). IsFloor y (g.R.Rows.view c.look_leaf.new.seat) c.args.floor) (sym c.look_leaf.ensures.fits.1) (floor_on c.look_leaf.ensures.stood.waited c.requires.floor)

pub returns-in-Err-gather-clause-clears : goal.returns-in-Err-gather-clause-clears
returns-in-Err-gather-clause-clears g c =
    let z = g.R.Rows.shape c.args.rows.now in
    let v = g.R.Rows.view c.args.seat.now in
    let u1 = g.R.Rows.view c.look_leaf.new.seat in
    let u = g.R.Rows.view c.gather.new.seat in
    let row = c.args.first.row in
    let places = c.gather.new.places in
    let keys = c.gather.new.keys in
    let s1 = c.look_leaf.ensures.stood in
    let e1 = c.look_leaf.ensures.fits.1 in
    let e2 = c.gather.ensures.fits.1 ∙ e1 in
    let h : Holding z c.args.frames c.args.floor row places u1 u = subst (λ (y : Shape). Holding y c.args.frames c.args.floor row places u1 u) e1 c.gather.ensures.holding in
    let hl = holds_on s1 c.requires.leaf in
    let sz = sized_on {y = z} {z = z} {v = v} {w = u1} refl s1.waited.ran.given c.requires.locks in
    let act1 = may_ran z.alone v u1 [] c.args.worker s1.waited.ran c.requires.actor in
    let both : Stood z.alone v (with_holds u u1) = stood_then s1 h.stood in
    let w = g.R.Rows.view c.give_up_places-in-Err-gather.new.seat in
    let m = subst (λ (y : Shape). MissedUpTo (1 + length places) y.alone u w) e2 c.give_up_places-in-Err-gather.ensures.missed in
    gave u1 (let f = c.gather.ensures.few in omega arith) both m

pub returns-in-Err-gather-clause-cause : goal.returns-in-Err-gather-clause-cause
returns-in-Err-gather-clause-cause g c =
    let s = c.in-Err-gather.ensures.spent in
    (s.version, s.last, found_after (found_before c.look_leaf.ensures.stood.waited.ran.since s.found) c.give_up_places-in-Err-gather.ensures.missed.ran.since)

pub returns-then-gone-eq0-clause-clears : goal.returns-then-gone-eq0-clause-clears
returns-then-gone-eq0-clause-clears g c =
    let z = g.R.Rows.shape c.args.rows.now in
    let v = g.R.Rows.view c.args.seat.now in
    let u1 = g.R.Rows.view c.look_leaf.new.seat in
    let u = g.R.Rows.view c.gather.new.seat in
    let row = c.args.first.row in
    let places = c.gather.new.places in
    let keys = c.gather.new.keys in
    let s1 = c.look_leaf.ensures.stood in
    let e1 = c.look_leaf.ensures.fits.1 in
    let e2 = c.gather.ensures.fits.1 ∙ e1 in
    let h : Holding z c.args.frames c.args.floor row places u1 u = subst (λ (y : Shape). Holding y c.args.frames c.args.floor row places u1 u) e1 c.gather.ensures.holding in
    let hl = holds_on s1 c.requires.leaf in
    let sz = sized_on {y = z} {z = z} {v = v} {w = u1} refl s1.waited.ran.given c.requires.locks in
    let act1 = may_ran z.alone v u1 [] c.args.worker s1.waited.ran c.requires.actor in
    let both : Stood z.alone v (with_holds u u1) = stood_then s1 h.stood in
    let n = c.in-Ok.node in
    let d : CanGo z c.args.locks n.node.pairs (length n.node.pairs) places keys u = subst (λ (y : Shape). CanGo y c.args.locks n.node.pairs (length n.node.pairs) places keys u) e1 c.in-Ok-gather.ensures.gone in
    let l = c.in-Ok.ensures.ok in
    let fl = floor_on s1.waited c.requires.floor in
    let op = may_on c.requires.actor s1.waited.ran c.requires.may in
    let w = g.R.Rows.view c.give_up_places-then-gone-eq0.new.seat in
    let m = subst (λ (y : Shape). MissedUpTo (1 + length places) y.alone u w) e2 c.give_up_places-then-gone-eq0.ensures.missed in
    let left = c.count.result - length c.all-gone.result.now in
    let same : length c.all-gone.result.now ≡ length keys = ap (λ (ks : List ℕ). length ks) c.all-gone.ensures.is in
    let sum : left + length keys ≡ length n.node.pairs = (let a = c.count.ensures.answer in let b = same in let f = d.few in omega arith) in
    let why : (length keys ≡ 0) ⊎ (c.args.most < left) = elim c.then-gone-eq0.branch [
      | then-gone-eq0-via-then-gone-eq0 b ↦ inl (sym same ∙ b.if-gone-eq0.true)
      | then-gone-eq0-via-else-gone-eq0+then-left-most b ↦ inr b.if-left-most.true
    ] in
    let k = spared n sz hl fl l op act1 h d c.args.most left sum why in (
      gave u1 (let f = c.gather.ensures.few in omega arith) both m,
      so_gave u1 (Keeps z.alone row c.args.most left w.given) both m (subst (λ (q : Given). Keeps z.alone row c.args.most left q (state u)) (sym m.ran.given) k),
    )

pub stage-requires-clause-page : goal.stage-requires-clause-page
stage-requires-clause-page g c =
    let v = g.R.Rows.view c.args.seat.now in
    let u1 = g.R.Rows.view c.look_leaf.new.seat in
    let l = c.in-Ok.ensures.ok in
    let s = sound_given v u1 c.look_leaf.ensures.stood.waited.ran.given c.requires.sound in
    let few = (s u1.seen).few in
    let below = l.stands.stands.below in omega arith

pub make-requires-clause-purging : goal.make-requires-clause-purging
make-requires-clause-purging g c =
    let z = g.R.Rows.shape c.args.rows.now in
    let v = g.R.Rows.view c.args.seat.now in
    let u1 = g.R.Rows.view c.look_leaf.new.seat in
    let u = g.R.Rows.view c.gather.new.seat in
    let row = c.args.first.row in
    let places = c.gather.new.places in
    let keys = c.gather.new.keys in
    let s1 = c.look_leaf.ensures.stood in
    let e1 = c.look_leaf.ensures.fits.1 in
    let e2 = c.gather.ensures.fits.1 ∙ e1 in
    let h : Holding z c.args.frames c.args.floor row places u1 u = subst (λ (y : Shape). Holding y c.args.frames c.args.floor row places u1 u) e1 c.gather.ensures.holding in
    let hl = holds_on s1 c.requires.leaf in
    let sz = sized_on {y = z} {z = z} {v = v} {w = u1} refl s1.waited.ran.given c.requires.locks in
    let act1 = may_ran z.alone v u1 [] c.args.worker s1.waited.ran c.requires.actor in
    let both : Stood z.alone v (with_holds u u1) = stood_then s1 h.stood in
    let n = c.in-Ok.node in
    let d : CanGo z c.args.locks n.node.pairs (length n.node.pairs) places keys u = subst (λ (y : Shape). CanGo y c.args.locks n.node.pairs (length n.node.pairs) places keys u) e1 c.in-Ok-gather.ensures.gone in
    let l = c.in-Ok.ensures.ok in
    let fl = floor_on s1.waited c.requires.floor in
    let op = may_on c.requires.actor s1.waited.ran c.requires.may in
    let pur : IsPurging z u c.args.worker c.args.frames row n places keys = purging n sz hl fl l op act1 h d in
    let act : may z.alone u c.args.worker ≡ true = may_ran z.alone u1 (with_holds u u1) [] c.args.worker h.stood.waited.ran act1 in
    let dd = c.args.draw.now in
    let dr = draws_after z.alone v u c.args.worker (g.D.Draw.log_of dd) (g.D.Draw.txn_of dd) (g.D.Draw.clock_of dd) (g.D.Draw.last_of dd) c.requires.actor (bare_ran u1 both.waited.ran) c.requires.draws in
    subst (λ (y : Shape). IsPurging y u c.args.worker c.args.frames row n places keys) (sym e2) pur

pub make-requires-clause-sound : goal.make-requires-clause-sound
make-requires-clause-sound g c =
    let z = g.R.Rows.shape c.args.rows.now in
    let v = g.R.Rows.view c.args.seat.now in
    let u1 = g.R.Rows.view c.look_leaf.new.seat in
    let u = g.R.Rows.view c.gather.new.seat in
    let row = c.args.first.row in
    let places = c.gather.new.places in
    let keys = c.gather.new.keys in
    let s1 = c.look_leaf.ensures.stood in
    let e1 = c.look_leaf.ensures.fits.1 in
    let e2 = c.gather.ensures.fits.1 ∙ e1 in
    let h : Holding z c.args.frames c.args.floor row places u1 u = subst (λ (y : Shape). Holding y c.args.frames c.args.floor row places u1 u) e1 c.gather.ensures.holding in
    let hl = holds_on s1 c.requires.leaf in
    let sz = sized_on {y = z} {z = z} {v = v} {w = u1} refl s1.waited.ran.given c.requires.locks in
    let act1 = may_ran z.alone v u1 [] c.args.worker s1.waited.ran c.requires.actor in
    let both : Stood z.alone v (with_holds u u1) = stood_then s1 h.stood in
    sound_given v u both.waited.ran.given c.requires.sound

pub make-requires-clause-number : goal.make-requires-clause-number
make-requires-clause-number g c =
    let z = g.R.Rows.shape c.args.rows.now in
    let v = g.R.Rows.view c.args.seat.now in
    let u1 = g.R.Rows.view c.look_leaf.new.seat in
    let u = g.R.Rows.view c.gather.new.seat in
    let row = c.args.first.row in
    let places = c.gather.new.places in
    let keys = c.gather.new.keys in
    let s1 = c.look_leaf.ensures.stood in
    let e1 = c.look_leaf.ensures.fits.1 in
    let e2 = c.gather.ensures.fits.1 ∙ e1 in
    let h : Holding z c.args.frames c.args.floor row places u1 u = subst (λ (y : Shape). Holding y c.args.frames c.args.floor row places u1 u) e1 c.gather.ensures.holding in
    let hl = holds_on s1 c.requires.leaf in
    let sz = sized_on {y = z} {z = z} {v = v} {w = u1} refl s1.waited.ran.given c.requires.locks in
    let act1 = may_ran z.alone v u1 [] c.args.worker s1.waited.ran c.requires.actor in
    let both : Stood z.alone v (with_holds u u1) = stood_then s1 h.stood in
    let n = c.in-Ok.node in
    let d : CanGo z c.args.locks n.node.pairs (length n.node.pairs) places keys u = subst (λ (y : Shape). CanGo y c.args.locks n.node.pairs (length n.node.pairs) places keys u) e1 c.in-Ok-gather.ensures.gone in
    let l = c.in-Ok.ensures.ok in
    let fl = floor_on s1.waited c.requires.floor in
    let op = may_on c.requires.actor s1.waited.ran c.requires.may in
    let pur : IsPurging z u c.args.worker c.args.frames row n places keys = purging n sz hl fl l op act1 h d in
    let act : may z.alone u c.args.worker ≡ true = may_ran z.alone u1 (with_holds u u1) [] c.args.worker h.stood.waited.ran act1 in
    let dd = c.args.draw.now in
    let dr = draws_after z.alone v u c.args.worker (g.D.Draw.log_of dd) (g.D.Draw.txn_of dd) (g.D.Draw.clock_of dd) (g.D.Draw.last_of dd) c.requires.actor (bare_ran u1 both.waited.ran) c.requires.draws in
    number_is n pur act (g.D.Draw.log_of dd) (g.D.Draw.txn_of dd) (g.D.Draw.clock_of dd) (g.D.Draw.clock_of c.stage.new.draw) (g.D.Draw.last_of dd) c.in-Ok-stage.number dr c.in-Ok-stage.ensures.clock c.in-Ok-stage.ensures.number

pub give_up_places-requires-in-Err-stage-clause-keeps : goal.give_up_places-requires-in-Err-stage-clause-keeps
give_up_places-requires-in-Err-stage-clause-keeps g c =
    let z = g.R.Rows.shape c.args.rows.now in
    let v = g.R.Rows.view c.args.seat.now in
    let u1 = g.R.Rows.view c.look_leaf.new.seat in
    let u = g.R.Rows.view c.gather.new.seat in
    let row = c.args.first.row in
    let places = c.gather.new.places in
    let keys = c.gather.new.keys in
    let s1 = c.look_leaf.ensures.stood in
    let e1 = c.look_leaf.ensures.fits.1 in
    let e2 = c.gather.ensures.fits.1 ∙ e1 in
    let h : Holding z c.args.frames c.args.floor row places u1 u = subst (λ (y : Shape). Holding y c.args.frames c.args.floor row places u1 u) e1 c.gather.ensures.holding in
    let hl = holds_on s1 c.requires.leaf in
    let sz = sized_on {y = z} {z = z} {v = v} {w = u1} refl s1.waited.ran.given c.requires.locks in
    let act1 = may_ran z.alone v u1 [] c.args.worker s1.waited.ran c.requires.actor in
    let both : Stood z.alone v (with_holds u u1) = stood_then s1 h.stood in
    subst (λ (y : Shape). KeepsBeside y u c.args.frames row places) (sym e2) (beside_of sz hl h)

pub give_up_places-requires-in-Err-gather-clause-keeps : goal.give_up_places-requires-in-Err-gather-clause-keeps
give_up_places-requires-in-Err-gather-clause-keeps g c =
    let z = g.R.Rows.shape c.args.rows.now in
    let v = g.R.Rows.view c.args.seat.now in
    let u1 = g.R.Rows.view c.look_leaf.new.seat in
    let u = g.R.Rows.view c.gather.new.seat in
    let row = c.args.first.row in
    let places = c.gather.new.places in
    let keys = c.gather.new.keys in
    let s1 = c.look_leaf.ensures.stood in
    let e1 = c.look_leaf.ensures.fits.1 in
    let e2 = c.gather.ensures.fits.1 ∙ e1 in
    let h : Holding z c.args.frames c.args.floor row places u1 u = subst (λ (y : Shape). Holding y c.args.frames c.args.floor row places u1 u) e1 c.gather.ensures.holding in
    let hl = holds_on s1 c.requires.leaf in
    let sz = sized_on {y = z} {z = z} {v = v} {w = u1} refl s1.waited.ran.given c.requires.locks in
    let act1 = may_ran z.alone v u1 [] c.args.worker s1.waited.ran c.requires.actor in
    let both : Stood z.alone v (with_holds u u1) = stood_then s1 h.stood in
    subst (λ (y : Shape). KeepsBeside y u c.args.frames row places) (sym e2) (beside_of sz hl h)

pub give_up_places-requires-then-gone-eq0-clause-keeps : goal.give_up_places-requires-then-gone-eq0-clause-keeps
give_up_places-requires-then-gone-eq0-clause-keeps g c =
    let z = g.R.Rows.shape c.args.rows.now in
    let v = g.R.Rows.view c.args.seat.now in
    let u1 = g.R.Rows.view c.look_leaf.new.seat in
    let u = g.R.Rows.view c.gather.new.seat in
    let row = c.args.first.row in
    let places = c.gather.new.places in
    let keys = c.gather.new.keys in
    let s1 = c.look_leaf.ensures.stood in
    let e1 = c.look_leaf.ensures.fits.1 in
    let e2 = c.gather.ensures.fits.1 ∙ e1 in
    let h : Holding z c.args.frames c.args.floor row places u1 u = subst (λ (y : Shape). Holding y c.args.frames c.args.floor row places u1 u) e1 c.gather.ensures.holding in
    let hl = holds_on s1 c.requires.leaf in
    let sz = sized_on {y = z} {z = z} {v = v} {w = u1} refl s1.waited.ran.given c.requires.locks in
    let act1 = may_ran z.alone v u1 [] c.args.worker s1.waited.ran c.requires.actor in
    let both : Stood z.alone v (with_holds u u1) = stood_then s1 h.stood in
    subst (λ (y : Shape). KeepsBeside y u c.args.frames row places) (sym e2) (beside_of sz hl h)

pub returns-in-Ok-stage-clause-clears : goal.returns-in-Ok-stage-clause-clears
returns-in-Ok-stage-clause-clears g c =
    let z = g.R.Rows.shape c.args.rows.now in
    let v = g.R.Rows.view c.args.seat.now in
    let u1 = g.R.Rows.view c.look_leaf.new.seat in
    let u = g.R.Rows.view c.gather.new.seat in
    let row = c.args.first.row in
    let places = c.gather.new.places in
    let keys = c.gather.new.keys in
    let s1 = c.look_leaf.ensures.stood in
    let e1 = c.look_leaf.ensures.fits.1 in
    let e2 = c.gather.ensures.fits.1 ∙ e1 in
    let h : Holding z c.args.frames c.args.floor row places u1 u = subst (λ (y : Shape). Holding y c.args.frames c.args.floor row places u1 u) e1 c.gather.ensures.holding in
    let hl = holds_on s1 c.requires.leaf in
    let sz = sized_on {y = z} {z = z} {v = v} {w = u1} refl s1.waited.ran.given c.requires.locks in
    let act1 = may_ran z.alone v u1 [] c.args.worker s1.waited.ran c.requires.actor in
    let both : Stood z.alone v (with_holds u u1) = stood_then s1 h.stood in
    let n = c.in-Ok.node in
    let d : CanGo z c.args.locks n.node.pairs (length n.node.pairs) places keys u = subst (λ (y : Shape). CanGo y c.args.locks n.node.pairs (length n.node.pairs) places keys u) e1 c.in-Ok-gather.ensures.gone in
    let l = c.in-Ok.ensures.ok in
    let fl = floor_on s1.waited c.requires.floor in
    let op = may_on c.requires.actor s1.waited.ran c.requires.may in
    let pur : IsPurging z u c.args.worker c.args.frames row n places keys = purging n sz hl fl l op act1 h d in
    let act : may z.alone u c.args.worker ≡ true = may_ran z.alone u1 (with_holds u u1) [] c.args.worker h.stood.waited.ran act1 in
    let dd = c.args.draw.now in
    let dr = draws_after z.alone v u c.args.worker (g.D.Draw.log_of dd) (g.D.Draw.txn_of dd) (g.D.Draw.clock_of dd) (g.D.Draw.last_of dd) c.requires.actor (bare_ran u1 both.waited.ran) c.requires.draws in
    let w = g.R.Rows.view c.make.new.seat in
    let went = subst (λ (y : Shape). WentOn y.alone u (Purge c.args.worker n.number keys) w) e2 c.make.ensures.went in
    let same : length c.all-gone.result.now ≡ length keys = ap (λ (ks : List ℕ). length ks) c.all-gone.ensures.is in
    let some : 0 < length keys = (let a = same in let b = c.if-gone-eq0.false in omega arith) in
    let pairs = ap (λ (ps : List Pair). length ps) (pairs_are n sz hl fl l op act1 h d) in
    let enough : length ((state u).core.page n.number).node.pairs ≤ c.args.most + length keys = (let a = same in let b = c.if-left-most.false in let q = c.count.ensures.answer in let f = d.few in let r = pairs in omega arith) in
    cleared_done n pur act u1 both.waited went (all_now n sz hl fl l op act1 h d) some enough
    (g.D.Draw.log_of dd) (g.D.Draw.txn_of dd) (g.D.Draw.clock_of dd) (g.D.Draw.clock_of c.stage.new.draw) (g.D.Draw.last_of dd) c.in-Ok-stage.number (g.D.Draw.staged_of dd) (g.D.Draw.staged_of c.stage.new.draw) dr c.in-Ok-stage.ensures.clock c.in-Ok-stage.ensures.number (subst (λ (ks : List ℕ). (r : Record) × (g.D.Draw.staged_of c.stage.new.draw ≡ r ∷ g.D.Draw.staged_of dd) × IsRecord (g.D.Draw.txn_of dd) c.in-Ok-stage.number n ks r) c.all.ensures.is c.in-Ok-stage.ensures.staged)

pub returns-in-Err-stage-clause-clears : goal.returns-in-Err-stage-clause-clears
returns-in-Err-stage-clause-clears g c =
    let z = g.R.Rows.shape c.args.rows.now in
    let v = g.R.Rows.view c.args.seat.now in
    let u1 = g.R.Rows.view c.look_leaf.new.seat in
    let u = g.R.Rows.view c.gather.new.seat in
    let row = c.args.first.row in
    let places = c.gather.new.places in
    let keys = c.gather.new.keys in
    let s1 = c.look_leaf.ensures.stood in
    let e1 = c.look_leaf.ensures.fits.1 in
    let e2 = c.gather.ensures.fits.1 ∙ e1 in
    let h : Holding z c.args.frames c.args.floor row places u1 u = subst (λ (y : Shape). Holding y c.args.frames c.args.floor row places u1 u) e1 c.gather.ensures.holding in
    let hl = holds_on s1 c.requires.leaf in
    let sz = sized_on {y = z} {z = z} {v = v} {w = u1} refl s1.waited.ran.given c.requires.locks in
    let act1 = may_ran z.alone v u1 [] c.args.worker s1.waited.ran c.requires.actor in
    let both : Stood z.alone v (with_holds u u1) = stood_then s1 h.stood in
    let n = c.in-Ok.node in
    let d : CanGo z c.args.locks n.node.pairs (length n.node.pairs) places keys u = subst (λ (y : Shape). CanGo y c.args.locks n.node.pairs (length n.node.pairs) places keys u) e1 c.in-Ok-gather.ensures.gone in
    let l = c.in-Ok.ensures.ok in
    let fl = floor_on s1.waited c.requires.floor in
    let op = may_on c.requires.actor s1.waited.ran c.requires.may in
    let pur : IsPurging z u c.args.worker c.args.frames row n places keys = purging n sz hl fl l op act1 h d in
    let act : may z.alone u c.args.worker ≡ true = may_ran z.alone u1 (with_holds u u1) [] c.args.worker h.stood.waited.ran act1 in
    let dd = c.args.draw.now in
    let dr = draws_after z.alone v u c.args.worker (g.D.Draw.log_of dd) (g.D.Draw.txn_of dd) (g.D.Draw.clock_of dd) (g.D.Draw.last_of dd) c.requires.actor (bare_ran u1 both.waited.ran) c.requires.draws in
    let w = g.R.Rows.view c.give_up_places-in-Err-stage.new.seat in
    let m = subst (λ (y : Shape). MissedUpTo (1 + length places) y.alone u w) e2 c.give_up_places-in-Err-stage.ensures.missed in
    not_cleared n pur act u1 (let f = c.gather.ensures.few in omega arith) both m
    (g.D.Draw.log_of dd) (g.D.Draw.txn_of dd) (g.D.Draw.clock_of dd) (g.D.Draw.clock_of c.stage.new.draw) (g.D.Draw.last_of dd) (g.D.Draw.staged_of dd) (g.D.Draw.staged_of c.stage.new.draw) dr c.in-Err-stage.ensures.clock c.in-Err-stage.ensures.same.0
