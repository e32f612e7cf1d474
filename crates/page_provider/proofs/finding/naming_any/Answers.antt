use Rattle.std.proofs.Common.{◌∙◌, Option, subst, ℕ}
use Rattle.std.proofs.lemmas.Result.{IfErr-weaker, IfOk-weaker}
use Rattle.row_image.specs.Looks.{Watched}
use Rattle.row_image.specs.declared.sight.Sight.{Sight}
use Rattle.row_image.proofs.Watching.{watched_shape, watched_then}
use Rattle.page_provider.specs.Finds.{NamedIn, Naming, NamingIn}
use Rattle.page_provider.specs.Inside.{Missed}
use Rattle.page_provider.specs.declared.refusal.Refusal.{Refusal}
use Rattle.page_provider.proofs.Peeks.{naming_at}
use Rattle.page_provider.proofs.Sightings.{missed_before, sound_still}
use Rattle.page_provider.proofs.Asks.{actor_on, sized_on}
use Rattle.page_provider.proofs.finding.naming_any.Goals as goal

pub naming_in-requires-clause-sound : goal.naming_in-requires-clause-sound
naming_in-requires-clause-sound g c = sound_still (g.R.Rows.view c.args.seat.now) (g.R.Rows.view c.named_any.new.seat) c.in_ok-frame.ensures.kept.ran.given c.requires.sound

pub returns-clause-ok : goal.returns-clause-ok
returns-clause-ok g c =
    let z = g.R.Rows.shape c.args.rows.now in
    let v = g.R.Rows.view c.args.seat.now in
    let u = g.R.Rows.view c.named_any.new.seat in
    let w = g.R.Rows.view c.naming_in.new.seat in
    let o = c.in_ok-frame.ensures in
    let named = subst (λ (x : Option ℕ). NamedIn z v c.args.frames c.args.word x u) c.in-Some.is o.ok in
    let P : Option (Sight × ℕ) → Type 0 = λ x. NamingIn (g.R.Rows.shape c.named_any.new.rows) u c.in-Some.frame c.args.word x w in
    let Q : Option (Sight × ℕ) → Type 0 = λ x. Naming z v c.args.frames c.args.word x w in
    IfOk-weaker c.naming_in.result P Q (λ x h. naming_at c.args.frames c.args.word c.in-Some.frame w x o.fits.1 o.kept named.2 h) c.naming_in.ensures.ok

pub returns-clause-kept : goal.returns-clause-kept
returns-clause-kept g c =
    let v = g.R.Rows.view c.args.seat.now in
    let u = g.R.Rows.view c.named_any.new.seat in
    let w = g.R.Rows.view c.naming_in.new.seat in
    let o = c.in_ok-frame.ensures in
    let P : Option (Sight × ℕ) → Type 0 = λ _. Watched (g.R.Rows.shape c.named_any.new.rows).alone u w in
    let Q : Option (Sight × ℕ) → Type 0 = λ _. Watched (g.R.Rows.shape c.args.rows.now).alone v w in
    IfOk-weaker c.naming_in.result P Q (λ x h. watched_then o.kept (watched_shape o.fits.1 h)) c.naming_in.ensures.kept

pub returns-clause-err : goal.returns-clause-err
returns-clause-err g c =
    let v = g.R.Rows.view c.args.seat.now in
    let u = g.R.Rows.view c.named_any.new.seat in
    let w = g.R.Rows.view c.naming_in.new.seat in
    let o = c.in_ok-frame.ensures in
    let P : Refusal → Type 0 = λ why. Missed (g.R.Rows.shape c.named_any.new.rows) u why w in
    let Q : Refusal → Type 0 = λ why. Missed (g.R.Rows.shape c.args.rows.now) v why w in
    IfErr-weaker c.naming_in.result P Q (λ why h. missed_before o.fits.1 o.kept h) c.naming_in.ensures.err

pub naming_in-requires-clause-fits : goal.naming_in-requires-clause-fits
naming_in-requires-clause-fits g c = c.in_ok-frame.ensures.fits.0

pub naming_in-requires-clause-sized : goal.naming_in-requires-clause-sized
naming_in-requires-clause-sized g c = let o = c.in_ok-frame.ensures in sized_on o.fits.1 o.kept c.requires.sized

pub naming_in-requires-clause-actor : goal.naming_in-requires-clause-actor
naming_in-requires-clause-actor g c = let o = c.in_ok-frame.ensures in actor_on o.fits.1 o.kept c.requires.actor

pub naming_in-requires-clause-frame : goal.naming_in-requires-clause-frame
naming_in-requires-clause-frame g c =
    let z = g.R.Rows.shape c.args.rows.now in
    let v = g.R.Rows.view c.args.seat.now in
    let u = g.R.Rows.view c.named_any.new.seat in
    let named = subst (λ (x : Option ℕ). NamedIn z v c.args.frames c.args.word x u) c.in-Some.is c.in_ok-frame.ensures.ok in
    named.1

pub returns-clause-fits : goal.returns-clause-fits
returns-clause-fits g c = let o = c.in_ok-frame.ensures.fits in let e = c.naming_in.ensures.fits in (e.0, e.1 ∙ o.1, e.2 ∙ o.2)

pub returns-clause-kind : goal.returns-clause-kind
returns-clause-kind g c = c.naming_in.ensures.kind
