use Rattle.std.proofs.Common.{◌∙◌, Option, ℕ}
use Rattle.std.proofs.lemmas.Result.{IfErr-weaker, IfOk-weaker}
use Rattle.row_image.specs.Looks.{Watched}
use Rattle.row_image.specs.declared.sight.Sight.{Sight}
use Rattle.row_image.proofs.Watching.{watched_shape, watched_then}
use Rattle.page_provider.specs.Finds.{Naming}
use Rattle.page_provider.specs.Inside.{Missed}
use Rattle.page_provider.specs.declared.refusal.Refusal.{Refusal}
use Rattle.page_provider.proofs.Sightings.{missed_before, naming_before, sound_still}
use Rattle.page_provider.proofs.Asks.{actor_on, sized_on}
use Rattle.page_provider.proofs.finding.naming.Goals as goal

pub naming_any-requires-clause-sound : goal.naming_any-requires-clause-sound
naming_any-requires-clause-sound g c = sound_still (g.R.Rows.view c.args.seat.now) (g.R.Rows.view c.naming_in.new.seat) c.in_ok-found.ensures.kept.ran.given c.requires.sound

pub returns-then-first-frames-clause-ok : goal.returns-then-first-frames-clause-ok
returns-then-first-frames-clause-ok g c =
    let v = g.R.Rows.view c.args.seat.now in
    let u = g.R.Rows.view c.naming_in.new.seat in
    let w = g.R.Rows.view c.naming_any.new.seat in
    let o = c.in_ok-found.ensures in
    let P : Option (Sight × ℕ) → Type 0 = λ x. Naming (g.R.Rows.shape c.naming_in.new.rows) u c.args.frames c.args.word x w in
    let Q : Option (Sight × ℕ) → Type 0 = λ x. Naming (g.R.Rows.shape c.args.rows.now) v c.args.frames c.args.word x w in
    IfOk-weaker c.naming_any.result P Q (λ x h. naming_before c.args.frames c.args.word w x o.fits.1 o.kept h) c.naming_any.ensures.ok

pub returns-then-first-frames-clause-kept : goal.returns-then-first-frames-clause-kept
returns-then-first-frames-clause-kept g c =
    let v = g.R.Rows.view c.args.seat.now in
    let u = g.R.Rows.view c.naming_in.new.seat in
    let w = g.R.Rows.view c.naming_any.new.seat in
    let o = c.in_ok-found.ensures in
    let P : Option (Sight × ℕ) → Type 0 = λ _. Watched (g.R.Rows.shape c.naming_in.new.rows).alone u w in
    let Q : Option (Sight × ℕ) → Type 0 = λ _. Watched (g.R.Rows.shape c.args.rows.now).alone v w in
    IfOk-weaker c.naming_any.result P Q (λ x h. watched_then o.kept (watched_shape o.fits.1 h)) c.naming_any.ensures.kept

pub returns-then-first-frames-clause-err : goal.returns-then-first-frames-clause-err
returns-then-first-frames-clause-err g c =
    let v = g.R.Rows.view c.args.seat.now in
    let u = g.R.Rows.view c.naming_in.new.seat in
    let w = g.R.Rows.view c.naming_any.new.seat in
    let o = c.in_ok-found.ensures in
    let P : Refusal → Type 0 = λ why. Missed (g.R.Rows.shape c.naming_in.new.rows) u why w in
    let Q : Refusal → Type 0 = λ why. Missed (g.R.Rows.shape c.args.rows.now) v why w in
    IfErr-weaker c.naming_any.result P Q (λ why h. missed_before o.fits.1 o.kept h) c.naming_any.ensures.err

pub returns-then-first-frames-clause-kind : goal.returns-then-first-frames-clause-kind
returns-then-first-frames-clause-kind g c = c.naming_any.ensures.kind

pub returns-clause-kind : goal.returns-clause-kind
returns-clause-kind g c = c.naming_any-2.ensures.kind

pub naming_any-requires-clause-fits : goal.naming_any-requires-clause-fits
naming_any-requires-clause-fits g c = c.in_ok-found.ensures.fits.0

pub naming_any-requires-clause-sized : goal.naming_any-requires-clause-sized
naming_any-requires-clause-sized g c = let o = c.in_ok-found.ensures in sized_on o.fits.1 o.kept c.requires.sized

pub naming_any-requires-clause-actor : goal.naming_any-requires-clause-actor
naming_any-requires-clause-actor g c = let o = c.in_ok-found.ensures in actor_on o.fits.1 o.kept c.requires.actor

pub returns-then-first-frames-clause-fits : goal.returns-then-first-frames-clause-fits
returns-then-first-frames-clause-fits g c = let o = c.in_ok-found.ensures.fits in let e = c.naming_any.ensures.fits in (e.0, e.1 ∙ o.1, e.2 ∙ o.2)
