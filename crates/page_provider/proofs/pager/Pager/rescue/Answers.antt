use Rattle.std.proofs.Common.{◌≡◌, ◌<◌, true, false, length, refl, sym, ap, subst, ◌∙◌, arith, true≢false}
use Rattle.std.proofs.lemmas.Result.{err_from_is_err_and}
use Rattle.free_pages.specs.Pages.{is_in}
use Rattle.btree_descent.specs.row_words.declared.event.Event.TheVariants.{Rescue}
use Rattle.page_provider.specs.Comes.{ComesOrNot}
use Rattle.page_provider.specs.Ends.{HasRefused}
use Rattle.page_provider.specs.Providers.{Provider}
use Rattle.page_provider.specs.declared.refusal.Refusal.{Refusal}
use Rattle.page_provider.proofs.Placing.{come_placed, come_unseen, entry_below, entry_cold, entry_hot, entry_live, halts_as, halts_unseen, idle_unseen, none_lost}
use Rattle.page_provider.proofs.Savings.{if_err}
use Rattle.page_provider.proofs.pager.Pager.rescue.Goals as goal

pub contains-requires : goal.contains-requires
contains-requires g c = subst (λ n. c.args.entry.page < n) (ap (λ (p : Provider). length p.free) (sym c.self.view_is)) (entry_below c.requires.keeps c.requires.there)

pub rescue_free-requires-clause-free : goal.rescue_free-requires-clause-free
rescue_free-requires-clause-free g c = entry_live c.requires.keeps c.requires.there true (ap (λ (p : Provider). is_in p.free c.args.entry.page) (sym c.self.view_is) ∙ (sym c.contains.ensures ∙ c.if-contains.true))

pub returns-in_err-rescue_free-clause-err : goal.returns-in_err-rescue_free-clause-err
returns-in_err-rescue_free-clause-err g c =
    let z = g.R.Rows.shape c.args.rows.now in
    let v = g.R.Rows.view c.args.seat.now in
    let w = g.R.Rows.view c.rescue_free.new.seat in
    let p = err_from_is_err_and c.from_residual.result c.from_residual.ensures.1 in
    let p2 = p.2 in
    let why = c.in_err-rescue_free.field-0.0 in
    let e : why ≡ p.0 = cc in
    let P : Refusal → Type 0 = λ q. HasRefused 5 z c.args.path.now v c.args.self.now q w c.rescue_free.new.self in
    if_err c.from_residual.result p.0 P p.1 (subst P e (halts_as (omega arith) c.laws.ensures.rows c.requires.keeps c.requires.held c.in_err-rescue_free.ensures.same c.in_err-rescue_free.ensures.err))

pub returns-then-contains-clause-ok : goal.returns-then-contains-clause-ok
returns-then-contains-clause-ok g c = come_placed c.args.path.now (entry_cold c.requires.keeps c.requires.there) c.in_ok-rescue_free.ensures.ok

pub rescue_node-requires-clause-live : goal.rescue_node-requires-clause-live
rescue_node-requires-clause-live g c = entry_live c.requires.keeps c.requires.there false (ap (λ (p : Provider). is_in p.free c.args.entry.page) (sym c.self.view_is) ∙ (sym c.contains.ensures ∙ c.if-contains.false))

pub returns-in_err-rescue_node-clause-err : goal.returns-in_err-rescue_node-clause-err
returns-in_err-rescue_node-clause-err g c =
    let z = g.R.Rows.shape c.args.rows.now in
    let v = g.R.Rows.view c.args.seat.now in
    let w = g.R.Rows.view c.rescue_node.new.seat in
    let p = err_from_is_err_and c.from_residual-in_err-rescue_node.result c.from_residual-in_err-rescue_node.ensures.1 in
    let p2 = p.2 in
    let why = c.in_err-rescue_node.field-0.0 in
    let e : why ≡ p.0 = cc in
    let P : Refusal → Type 0 = λ q. HasRefused 5 z c.args.path.now v c.args.self.now q w c.rescue_node.new.self in
    if_err c.from_residual-in_err-rescue_node.result p.0 P p.1 (subst P e (halts_as (omega arith) c.laws.ensures.rows c.requires.keeps c.requires.held c.in_err-rescue_node.ensures.same c.in_err-rescue_node.ensures.err))

pub returns-then-branch-clause-ok : goal.returns-then-branch-clause-ok
returns-then-branch-clause-ok g c =
    let z = g.R.Rows.shape c.args.rows.now in
    let v = g.R.Rows.view c.args.seat.now in
    let w = g.R.Rows.view c.rescue_node.new.seat in
    come_placed c.args.path.now (entry_cold c.requires.keeps c.requires.there) (subst (λ d. ComesOrNot d z (Rescue c.args.entry.page) c.args.entry.page c.args.entry.frame v c.args.self.now w c.rescue_node.new.self) c.if-branch.true c.in_ok-rescue_node.ensures.ok)

pub returns-clause-ok : goal.returns-clause-ok
returns-clause-ok g c =
    let z = g.R.Rows.shape c.args.rows.now in
    let v = g.R.Rows.view c.args.seat.now in
    let w = g.R.Rows.view c.rescue_node.new.seat in
    none_lost c.args.path.now c.laws.ensures.rows c.requires.keeps (entry_hot c.requires.keeps c.requires.there)
    (entry_live c.requires.keeps c.requires.there false (ap (λ (p : Provider). is_in p.free c.args.entry.page) (sym c.self.view_is) ∙ (sym c.contains.ensures ∙ c.if-contains.false)))
    (subst (λ d. ComesOrNot d z (Rescue c.args.entry.page) c.args.entry.page c.args.entry.frame v c.args.self.now w c.rescue_node.new.self) c.if-branch.false c.in_ok-rescue_node.ensures.ok)

pub returns-in_err-rescue_free-clause-astray : goal.returns-in_err-rescue_free-clause-astray
returns-in_err-rescue_free-clause-astray g c = λ one a.
    absurd (true≢false (sym a.live ∙ entry_live c.requires.keeps c.requires.there true (ap (λ (p : Provider). is_in p.free c.args.entry.page) (sym c.self.view_is) ∙ (sym c.contains.ensures ∙ c.if-contains.true))))

pub returns-then-contains-clause-astray : goal.returns-then-contains-clause-astray
returns-then-contains-clause-astray g c = λ one a.
    absurd (true≢false (sym a.live ∙ entry_live c.requires.keeps c.requires.there true (ap (λ (p : Provider). is_in p.free c.args.entry.page) (sym c.self.view_is) ∙ (sym c.contains.ensures ∙ c.if-contains.true))))

pub returns-in_err-rescue_node-clause-astray : goal.returns-in_err-rescue_node-clause-astray
returns-in_err-rescue_node-clause-astray g c = λ one a. let e = c.in_err-rescue_node.ensures.astray one a.parent in absurd (cc)

pub returns-then-branch-clause-astray : goal.returns-then-branch-clause-astray
returns-then-branch-clause-astray g c = λ one a. let e = c.in_ok-rescue_node.ensures.astray one a.parent in let t = c.if-branch.true in absurd (cc)

pub returns-in_err-rescue_free-clause-unseen : goal.returns-in_err-rescue_free-clause-unseen
returns-in_err-rescue_free-clause-unseen g c = halts_unseen c.in_err-rescue_free.ensures.same c.in_err-rescue_free.ensures.err

pub returns-then-contains-clause-unseen : goal.returns-then-contains-clause-unseen
returns-then-contains-clause-unseen g c = come_unseen refl refl c.in_ok-rescue_free.ensures.ok

pub returns-in_err-rescue_node-clause-unseen : goal.returns-in_err-rescue_node-clause-unseen
returns-in_err-rescue_node-clause-unseen g c = halts_unseen c.in_err-rescue_node.ensures.same c.in_err-rescue_node.ensures.err

pub returns-then-branch-clause-unseen : goal.returns-then-branch-clause-unseen
returns-then-branch-clause-unseen g c =
    come_unseen refl refl (subst (λ d. ComesOrNot d (g.R.Rows.shape c.args.rows.now) (Rescue c.args.entry.page) c.args.entry.page c.args.entry.frame (g.R.Rows.view c.args.seat.now) c.args.self.now (g.R.Rows.view c.rescue_node.new.seat) c.rescue_node.new.self) c.if-branch.true c.in_ok-rescue_node.ensures.ok)

pub returns-clause-unseen : goal.returns-clause-unseen
returns-clause-unseen g c =
    let x = subst (λ d. ComesOrNot d (g.R.Rows.shape c.args.rows.now) (Rescue c.args.entry.page) c.args.entry.page c.args.entry.frame (g.R.Rows.view c.args.seat.now) c.args.self.now (g.R.Rows.view c.rescue_node.new.seat) c.rescue_node.new.self) c.if-branch.false c.in_ok-rescue_node.ensures.ok in
    idle_unseen x.0
