use Rattle.std.proofs.Common.{◌≡◌, ◌≤◌, ◌<◌, ◌+◌, ◌-◌, ◌∙◌, ℕ, suc, List, length, sym, ap, subst, arith}
use Rattle.row_walks.specs.Inside.Levels.{IsJoinable}
use Rattle.row_walks.proofs.LookLemmas.{core_looked, looked_then, way_on}
use Rattle.row_walks.proofs.SightLemmas.{alone, at_short, crowded, hot_at, joins_left, joins_right, low_frame, low_number, low_word, named, needs, own_frame, own_is, parent_frame, parent_is, stands, thick}
use Rattle.row_walks.proofs.levels.look_level.Goals as goal

pub overflow_sub-frame : goal.overflow_sub-frame
overflow_sub-frame g c = let e = ap (λ (xs : List ℕ). length xs) c.frames-frames.ensures in let lt = c.requires.level in omega arith

pub bounds-frames-frames : goal.bounds-frames-frames
bounds-frames-frames g c = let e = ap (λ (xs : List ℕ). length xs) c.frames-frames.ensures in let lt = c.requires.level in omega arith

pub overflow_sub-parent : goal.overflow_sub-parent
overflow_sub-parent g c = let e = ap (λ (xs : List ℕ). length xs) c.frames-frames.ensures in let lt = c.requires.level in omega arith

pub bounds-frames-frames-2 : goal.bounds-frames-frames-2
bounds-frames-frames-2 g c = let e = ap (λ (xs : List ℕ). length xs) c.frames-frames.ensures in let lt = c.requires.level in omega arith

pub see-child-requires-clause-hot : goal.see-child-requires-clause-hot
see-child-requires-clause-hot g c = hot_at (g.R.Rows.view c.args.seat.now) c.args.key c.args.path.now c.requires.way c.args.level _ (let lt = c.requires.level in omega arith) (own_is c.frames-frames.result.now c.args.path.now c.args.level c.frames-frames.ensures)

pub returns-then-pairs-gt-THIN-clause-found : goal.returns-then-pairs-gt-THIN-clause-found
returns-then-pairs-gt-THIN-clause-found g c =
    thick c.every_pair.ensures c.every_tidy.ensures (g.R.Rows.shape c.args.rows.now) (g.R.Rows.view c.args.seat.now) c.args.session.now c.args.log.now c.requires.holds c.requires.open_is c.args.key c.args.path.now c.requires.way c.args.level c.requires.level
    c.frames-frames.result.now c.frames-frames.ensures c.see-child.result c.see-child.ensures.seen
    (let a = c.count-pairs.ensures.answer in let b = c.if-pairs-gt-THIN.true in omega arith)

pub see-above-requires-clause-hot : goal.see-above-requires-clause-hot
see-above-requires-clause-hot g c =
    hot_at (g.R.Rows.view c.see-child.new.seat) c.args.key c.args.path.now (way_on (g.R.Rows.view c.args.seat.now) (g.R.Rows.view c.see-child.new.seat) c.see-child.ensures.looked.given (core_looked (g.R.Rows.view c.args.seat.now) (g.R.Rows.view c.see-child.new.seat) c.see-child.ensures.looked) c.args.key c.args.path.now c.requires.way) (suc c.args.level) _ c.requires.level
    (parent_is c.frames-frames.result.now c.args.path.now c.args.level c.frames-frames.ensures)

pub unreachable-requires : goal.unreachable-requires
unreachable-requires g c =
    named c.every_pair.ensures c.every_tidy.ensures (g.R.Rows.shape c.args.rows.now) (g.R.Rows.view c.args.seat.now) c.args.session.now c.args.log.now c.requires.holds c.requires.open_is c.args.key c.args.path.now c.requires.way c.args.level c.requires.level
    c.frames-frames.result.now c.frames-frames.ensures c.see-child.result c.see-child.ensures.seen (g.R.Rows.view c.see-child.new.seat) c.see-child.ensures.looked c.see-above.result c.see-above.ensures.seen
    c.from.result c.from.ensures c.in_default.ensures.none

pub returns-then-count-lt2-clause-fits : goal.returns-then-count-lt2-clause-fits
returns-then-count-lt2-clause-fits g c = (c.see-above.ensures.fits.0, c.see-above.ensures.fits.1 ∙ c.see-child.ensures.fits.1)

pub returns-then-count-lt2-clause-holds : goal.returns-then-count-lt2-clause-holds
returns-then-count-lt2-clause-holds g c = c.see-above.ensures.holds

pub returns-then-count-lt2-clause-looked : goal.returns-then-count-lt2-clause-looked
returns-then-count-lt2-clause-looked g c = looked_then (g.R.Rows.view c.args.seat.now) (g.R.Rows.view c.see-child.new.seat) (g.R.Rows.view c.see-above.new.seat) c.see-child.ensures.looked c.see-above.ensures.looked

pub returns-then-count-lt2-clause-found : goal.returns-then-count-lt2-clause-found
returns-then-count-lt2-clause-found g c =
    alone c.every_pair.ensures c.every_tidy.ensures (g.R.Rows.shape c.args.rows.now) (g.R.Rows.view c.args.seat.now) c.args.session.now c.args.log.now c.requires.holds c.requires.open_is c.args.key c.args.path.now c.requires.way c.args.level c.requires.level
    c.frames-frames.result.now c.frames-frames.ensures c.see-child.result c.see-child.ensures.seen (g.R.Rows.view c.see-child.new.seat) c.see-child.ensures.looked c.see-above.result c.see-above.ensures.seen
    c.from.result c.from.ensures c.in-Some.at c.in-Some.ensures.some (let a = c.count-pairs.ensures.answer in let b = c.if-pairs-gt-THIN.false in omega arith)
    (let a = c.count-count.ensures.answer in let b = c.if-count-lt2.true in omega arith)

pub beside-other-requires-clause-within : goal.beside-other-requires-clause-within
beside-other-requires-clause-within g c =
    let a = c.count-count.ensures.answer in let b = at_short c.every_pair.ensures c.every_tidy.ensures (g.R.Rows.shape c.args.rows.now) (g.R.Rows.view c.args.seat.now) c.args.session.now c.args.log.now c.requires.holds c.requires.open_is c.args.key c.args.path.now c.requires.way c.args.level c.requires.level
    c.frames-frames.result.now c.frames-frames.ensures c.see-child.result c.see-child.ensures.seen (g.R.Rows.view c.see-child.new.seat) c.see-child.ensures.looked c.see-above.result c.see-above.ensures.seen
    c.from.result c.from.ensures c.in-Some.at c.in-Some.ensures.some (let a = c.count-pairs.ensures.answer in let b = c.if-pairs-gt-THIN.false in omega arith) in omega arith

pub beside-other-requires-clause-two : goal.beside-other-requires-clause-two
beside-other-requires-clause-two g c = let b = c.if-count-lt2.false in omega arith

pub word_at-word-requires : goal.word_at-word-requires
word_at-word-requires g c = let a = c.count-count.ensures.answer in let b = c.beside-other.ensures.within in omega arith

pub overflow_cast-result : goal.overflow_cast-result
overflow_cast-result g c =
    let low = low_word c.every_pair.ensures c.every_tidy.ensures (g.R.Rows.shape c.args.rows.now) (g.R.Rows.view c.args.seat.now) c.args.session.now c.args.log.now c.requires.holds c.requires.open_is c.args.key c.args.path.now c.requires.way c.args.level c.requires.level
    c.frames-frames.result.now c.frames-frames.ensures c.see-child.result c.see-child.ensures.seen (g.R.Rows.view c.see-child.new.seat) c.see-child.ensures.looked c.see-above.result c.see-above.ensures.seen
    c.from.result c.from.ensures c.in-Some.at c.in-Some.ensures.some (let a = c.count-pairs.ensures.answer in let b = c.if-pairs-gt-THIN.false in omega arith)
    c.beside-other.result (let a = c.count-count.ensures.answer in let b = c.beside-other.ensures.within in omega arith) (λ more. c.beside-other.ensures.next (let a = c.count-count.ensures.answer in omega arith)) (λ end. c.beside-other.ensures.last (let a = c.count-count.ensures.answer in omega arith))
    c.word_at-word.result c.word_at-word.ensures c.if-word-lt-FRAME_BIT.true in omega arith

pub returns-then-word-lt-FRAME_BIT-clause-fits : goal.returns-then-word-lt-FRAME_BIT-clause-fits
returns-then-word-lt-FRAME_BIT-clause-fits g c = (c.see-above.ensures.fits.0, c.see-above.ensures.fits.1 ∙ c.see-child.ensures.fits.1)

pub returns-then-word-lt-FRAME_BIT-clause-holds : goal.returns-then-word-lt-FRAME_BIT-clause-holds
returns-then-word-lt-FRAME_BIT-clause-holds g c = c.see-above.ensures.holds

pub returns-then-word-lt-FRAME_BIT-clause-looked : goal.returns-then-word-lt-FRAME_BIT-clause-looked
returns-then-word-lt-FRAME_BIT-clause-looked g c = looked_then (g.R.Rows.view c.args.seat.now) (g.R.Rows.view c.see-child.new.seat) (g.R.Rows.view c.see-above.new.seat) c.see-child.ensures.looked c.see-above.ensures.looked

pub returns-then-word-lt-FRAME_BIT-clause-found : goal.returns-then-word-lt-FRAME_BIT-clause-found
returns-then-word-lt-FRAME_BIT-clause-found g c =
    needs c.every_pair.ensures c.every_tidy.ensures (g.R.Rows.shape c.args.rows.now) (g.R.Rows.view c.args.seat.now) c.args.session.now c.args.log.now c.requires.holds c.requires.open_is c.args.key c.args.path.now c.requires.way c.args.level c.requires.level
    c.frames-frames.result.now c.frames-frames.ensures c.see-child.result c.see-child.ensures.seen (g.R.Rows.view c.see-child.new.seat) c.see-child.ensures.looked c.see-above.result c.see-above.ensures.seen
    c.from.result c.from.ensures c.in-Some.at c.in-Some.ensures.some (let a = c.count-pairs.ensures.answer in let b = c.if-pairs-gt-THIN.false in omega arith)
    c.beside-other.result (let a = c.count-count.ensures.answer in let b = c.beside-other.ensures.within in omega arith) (λ more. c.beside-other.ensures.next (let a = c.count-count.ensures.answer in omega arith)) (λ end. c.beside-other.ensures.last (let a = c.count-count.ensures.answer in omega arith))
    c.word_at-word.result c.word_at-word.ensures c.if-word-lt-FRAME_BIT.true

pub overflow_cast-neighbour : goal.overflow_cast-neighbour
overflow_cast-neighbour g c =
    let low = low_frame c.every_pair.ensures c.every_tidy.ensures (g.R.Rows.shape c.args.rows.now) (g.R.Rows.view c.args.seat.now) c.args.session.now c.args.log.now c.requires.holds c.requires.open_is c.args.key c.args.path.now c.requires.way c.args.level c.requires.level
    c.frames-frames.result.now c.frames-frames.ensures c.see-child.result c.see-child.ensures.seen (g.R.Rows.view c.see-child.new.seat) c.see-child.ensures.looked c.see-above.result c.see-above.ensures.seen
    c.from.result c.from.ensures c.in-Some.at c.in-Some.ensures.some (let a = c.count-pairs.ensures.answer in let b = c.if-pairs-gt-THIN.false in omega arith)
    c.beside-other.result (let a = c.count-count.ensures.answer in let b = c.beside-other.ensures.within in omega arith) (λ more. c.beside-other.ensures.next (let a = c.count-count.ensures.answer in omega arith)) (λ end. c.beside-other.ensures.last (let a = c.count-count.ensures.answer in omega arith))
    c.word_at-word.result c.word_at-word.ensures (let b = c.if-word-lt-FRAME_BIT.false in omega arith) in let fits = c.args.session.now.frames in omega arith

pub see-sister-requires-clause-hot : goal.see-sister-requires-clause-hot
see-sister-requires-clause-hot g c =
    stands c.every_pair.ensures c.every_tidy.ensures (g.R.Rows.shape c.args.rows.now) (g.R.Rows.view c.args.seat.now) c.args.session.now c.args.log.now c.requires.holds c.requires.open_is c.args.key c.args.path.now c.requires.way c.args.level c.requires.level
    c.frames-frames.result.now c.frames-frames.ensures c.see-child.result c.see-child.ensures.seen (g.R.Rows.view c.see-child.new.seat) c.see-child.ensures.looked c.see-above.result c.see-above.ensures.seen
    c.from.result c.from.ensures c.in-Some.at c.in-Some.ensures.some (let a = c.count-pairs.ensures.answer in let b = c.if-pairs-gt-THIN.false in omega arith)
    c.beside-other.result (let a = c.count-count.ensures.answer in let b = c.beside-other.ensures.within in omega arith) (λ more. c.beside-other.ensures.next (let a = c.count-count.ensures.answer in omega arith)) (λ end. c.beside-other.ensures.last (let a = c.count-count.ensures.answer in omega arith))
    c.word_at-word.result c.word_at-word.ensures (let b = c.if-word-lt-FRAME_BIT.false in omega arith)
    (g.R.Rows.view c.see-above.new.seat) (looked_then (g.R.Rows.view c.args.seat.now) (g.R.Rows.view c.see-child.new.seat) (g.R.Rows.view c.see-above.new.seat) c.see-child.ensures.looked c.see-above.ensures.looked)

pub returns-then-pairs-count-gt-JOINED-clause-fits : goal.returns-then-pairs-count-gt-JOINED-clause-fits
returns-then-pairs-count-gt-JOINED-clause-fits g c = (c.see-sister.ensures.fits.0, c.see-sister.ensures.fits.1 ∙ (c.see-above.ensures.fits.1 ∙ c.see-child.ensures.fits.1))

pub returns-then-pairs-count-gt-JOINED-clause-holds : goal.returns-then-pairs-count-gt-JOINED-clause-holds
returns-then-pairs-count-gt-JOINED-clause-holds g c = c.see-sister.ensures.holds

pub returns-then-pairs-count-gt-JOINED-clause-looked : goal.returns-then-pairs-count-gt-JOINED-clause-looked
returns-then-pairs-count-gt-JOINED-clause-looked g c = looked_then (g.R.Rows.view c.args.seat.now) (g.R.Rows.view c.see-above.new.seat) (g.R.Rows.view c.see-sister.new.seat) (looked_then (g.R.Rows.view c.args.seat.now) (g.R.Rows.view c.see-child.new.seat) (g.R.Rows.view c.see-above.new.seat) c.see-child.ensures.looked c.see-above.ensures.looked) c.see-sister.ensures.looked

pub returns-then-pairs-count-gt-JOINED-clause-found : goal.returns-then-pairs-count-gt-JOINED-clause-found
returns-then-pairs-count-gt-JOINED-clause-found g c =
    crowded c.every_pair.ensures c.every_tidy.ensures (g.R.Rows.shape c.args.rows.now) (g.R.Rows.view c.args.seat.now) c.args.session.now c.args.log.now c.requires.holds c.requires.open_is c.args.key c.args.path.now c.requires.way c.args.level c.requires.level
    c.frames-frames.result.now c.frames-frames.ensures c.see-child.result c.see-child.ensures.seen (g.R.Rows.view c.see-child.new.seat) c.see-child.ensures.looked c.see-above.result c.see-above.ensures.seen
    c.from.result c.from.ensures c.in-Some.at c.in-Some.ensures.some (let a = c.count-pairs.ensures.answer in let b = c.if-pairs-gt-THIN.false in omega arith)
    c.beside-other.result (let a = c.count-count.ensures.answer in let b = c.beside-other.ensures.within in omega arith) (λ more. c.beside-other.ensures.next (let a = c.count-count.ensures.answer in omega arith)) (λ end. c.beside-other.ensures.last (let a = c.count-count.ensures.answer in omega arith))
    c.word_at-word.result c.word_at-word.ensures (let b = c.if-word-lt-FRAME_BIT.false in omega arith)
    (g.R.Rows.view c.see-above.new.seat) (looked_then (g.R.Rows.view c.args.seat.now) (g.R.Rows.view c.see-child.new.seat) (g.R.Rows.view c.see-above.new.seat) c.see-child.ensures.looked c.see-above.ensures.looked) c.see-sister.result c.see-sister.ensures.seen
    (let a = c.count-pairs.ensures.answer in let b = c.count.ensures.answer in let d = c.if-pairs-count-gt-JOINED.true in omega arith)

pub returns-then-other-at-clause-fits : goal.returns-then-other-at-clause-fits
returns-then-other-at-clause-fits g c = (c.see-sister.ensures.fits.0, c.see-sister.ensures.fits.1 ∙ (c.see-above.ensures.fits.1 ∙ c.see-child.ensures.fits.1))

pub returns-then-other-at-clause-holds : goal.returns-then-other-at-clause-holds
returns-then-other-at-clause-holds g c = c.see-sister.ensures.holds

pub returns-then-other-at-clause-looked : goal.returns-then-other-at-clause-looked
returns-then-other-at-clause-looked g c = looked_then (g.R.Rows.view c.args.seat.now) (g.R.Rows.view c.see-above.new.seat) (g.R.Rows.view c.see-sister.new.seat) (looked_then (g.R.Rows.view c.args.seat.now) (g.R.Rows.view c.see-child.new.seat) (g.R.Rows.view c.see-above.new.seat) c.see-child.ensures.looked c.see-above.ensures.looked) c.see-sister.ensures.looked

pub returns-then-other-at-clause-found : goal.returns-then-other-at-clause-found
returns-then-other-at-clause-found g c =
    subst (λ (n : ℕ). IsJoinable c.args.session.now.own (g.R.Rows.view c.args.seat.now) c.args.key c.args.level (c.word_at-word.result - 9223372036854775808) (own_frame c.frames-frames.result.now c.args.level) (parent_frame c.frames-frames.result.now c.args.level) n) (sym c.number.ensures)
    (joins_left c.every_pair.ensures c.every_tidy.ensures (g.R.Rows.shape c.args.rows.now) (g.R.Rows.view c.args.seat.now) c.args.session.now c.args.log.now c.requires.holds c.requires.open_is c.args.key c.args.path.now c.requires.way c.args.level c.requires.level
    c.frames-frames.result.now c.frames-frames.ensures c.see-child.result c.see-child.ensures.seen (g.R.Rows.view c.see-child.new.seat) c.see-child.ensures.looked c.see-above.result c.see-above.ensures.seen
    c.from.result c.from.ensures c.in-Some.at c.in-Some.ensures.some (let a = c.count-pairs.ensures.answer in let b = c.if-pairs-gt-THIN.false in omega arith)
    c.beside-other.result (let a = c.count-count.ensures.answer in let b = c.beside-other.ensures.within in omega arith) (λ more. c.beside-other.ensures.next (let a = c.count-count.ensures.answer in omega arith)) (λ end. c.beside-other.ensures.last (let a = c.count-count.ensures.answer in omega arith))
    c.word_at-word.result c.word_at-word.ensures (let b = c.if-word-lt-FRAME_BIT.false in omega arith)
    (g.R.Rows.view c.see-above.new.seat) (looked_then (g.R.Rows.view c.args.seat.now) (g.R.Rows.view c.see-child.new.seat) (g.R.Rows.view c.see-above.new.seat) c.see-child.ensures.looked c.see-above.ensures.looked) c.see-sister.result c.see-sister.ensures.seen
    c.if-other-at.true (let a = c.count-pairs.ensures.answer in let b = c.count.ensures.answer in let d = c.if-pairs-count-gt-JOINED.false in omega arith))

pub returns-clause-fits : goal.returns-clause-fits
returns-clause-fits g c = (c.see-sister.ensures.fits.0, c.see-sister.ensures.fits.1 ∙ (c.see-above.ensures.fits.1 ∙ c.see-child.ensures.fits.1))

pub returns-clause-holds : goal.returns-clause-holds
returns-clause-holds g c = c.see-sister.ensures.holds

pub returns-clause-looked : goal.returns-clause-looked
returns-clause-looked g c = looked_then (g.R.Rows.view c.args.seat.now) (g.R.Rows.view c.see-above.new.seat) (g.R.Rows.view c.see-sister.new.seat) (looked_then (g.R.Rows.view c.args.seat.now) (g.R.Rows.view c.see-child.new.seat) (g.R.Rows.view c.see-above.new.seat) c.see-child.ensures.looked c.see-above.ensures.looked) c.see-sister.ensures.looked

pub returns-clause-found : goal.returns-clause-found
returns-clause-found g c =
    subst (λ (n : ℕ). IsJoinable c.args.session.now.own (g.R.Rows.view c.args.seat.now) c.args.key c.args.level (own_frame c.frames-frames.result.now c.args.level) (c.word_at-word.result - 9223372036854775808) (parent_frame c.frames-frames.result.now c.args.level) n) (sym c.number-2.ensures)
    (joins_right c.every_pair.ensures c.every_tidy.ensures (g.R.Rows.shape c.args.rows.now) (g.R.Rows.view c.args.seat.now) c.args.session.now c.args.log.now c.requires.holds c.requires.open_is c.args.key c.args.path.now c.requires.way c.args.level c.requires.level
    c.frames-frames.result.now c.frames-frames.ensures c.see-child.result c.see-child.ensures.seen (g.R.Rows.view c.see-child.new.seat) c.see-child.ensures.looked c.see-above.result c.see-above.ensures.seen
    c.from.result c.from.ensures c.in-Some.at c.in-Some.ensures.some (let a = c.count-pairs.ensures.answer in let b = c.if-pairs-gt-THIN.false in omega arith)
    c.beside-other.result (let a = c.count-count.ensures.answer in let b = c.beside-other.ensures.within in omega arith) (λ more. c.beside-other.ensures.next (let a = c.count-count.ensures.answer in omega arith)) (λ end. c.beside-other.ensures.last (let a = c.count-count.ensures.answer in omega arith))
    c.word_at-word.result c.word_at-word.ensures (let b = c.if-word-lt-FRAME_BIT.false in omega arith)
    (g.R.Rows.view c.see-above.new.seat) (looked_then (g.R.Rows.view c.args.seat.now) (g.R.Rows.view c.see-child.new.seat) (g.R.Rows.view c.see-above.new.seat) c.see-child.ensures.looked c.see-above.ensures.looked) c.see-sister.result c.see-sister.ensures.seen
    (let m = c.if-other-at.false in omega arith) (let a = c.count-pairs.ensures.answer in let b = c.count.ensures.answer in let d = c.if-pairs-count-gt-JOINED.false in omega arith))

pub overflow_cast-result-then-other-at : goal.overflow_cast-result-then-other-at
overflow_cast-result-then-other-at g c =
    let low = low_number (g.R.Rows.shape c.args.rows.now) (g.R.Rows.view c.args.seat.now) c.args.session.now c.args.log.now c.requires.holds (own_frame c.frames-frames.result.now c.args.level) c.see-child.result c.see-child.ensures.seen in
    let e = c.number.ensures in
    omega arith

pub overflow_cast-result-2 : goal.overflow_cast-result-2
overflow_cast-result-2 g c =
    let low = low_number (g.R.Rows.shape c.see-above.new.rows) (g.R.Rows.view c.see-above.new.seat) c.args.session.now c.args.log.now c.see-above.ensures.holds (c.word_at-word.result - 9223372036854775808) c.see-sister.result c.see-sister.ensures.seen in
    let e = c.number-2.ensures in
    omega arith
