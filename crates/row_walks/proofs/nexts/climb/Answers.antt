use Rattle.std.proofs.Common.{◌≡◌, ◌≤◌, ◌<◌, ◌+◌, ◌-◌, ◌∙◌, ℕ, suc, true, None, refl, sym, subst, arith}
use Rattle.row_changes.specs.session_state.row_words.Openings.{opening}
use Rattle.row_changes.specs.session_state.rows_trait.Views.{state}
use Rattle.row_tidying.specs.tidy_rules.Tidying.{is_thin, join_under, page_at}
use Rattle.row_walks.specs.Inside.Levels.{IsFound}
use Rattle.row_walks.specs.declared.levels.Level.{Level}
use Rattle.row_walks.specs.declared.levels.Level.TheVariants as level
use Rattle.row_walks.proofs.LookLemmas.{core_looked, found_back, looked_self, looked_then, way_on}
use Rattle.row_walks.proofs.NextLemmas.{further, stop_found, stop_thick}
use Rattle.row_walks.proofs.nexts.climb.Goals as goal

pub overflow_sub-top : goal.overflow_sub-top
overflow_sub-top g c = let a = c.len-top.ensures.count in let b = c.requires.way.some in omega arith

pub loop-at-init : goal.loop-at-init
loop-at-init g c =
    record {
      fits = (c.requires.fits, refl);
      holds = c.requires.holds;
      looked = looked_self (g.R.Rows.view c.args.seat.now);
      low = omega arith;
      thin = λ j a b. absurd (omega arith);
      none = λ j a b. absurd (omega arith);
    }

pub look_level-found-requires-clause-way : goal.look_level-found-requires-clause-way
look_level-found-requires-clause-way g c =
    way_on (g.R.Rows.view c.args.seat.now) (g.R.Rows.view c.loop-at.seat) c.loop-at.invariant.looked.given (core_looked (g.R.Rows.view c.args.seat.now) (g.R.Rows.view c.loop-at.seat) c.loop-at.invariant.looked) c.args.key c.args.path.now c.requires.way

pub look_level-found-requires-clause-level : goal.look_level-found-requires-clause-level
look_level-found-requires-clause-level g c = let t = c.loop-at-test.true in let e = c.len-top.ensures.count in omega arith

pub returns-then-not-is_single-clause-fits : goal.returns-then-not-is_single-clause-fits
returns-then-not-is_single-clause-fits g c = (c.look_level-found.ensures.fits.0, c.look_level-found.ensures.fits.1 ∙ c.loop-at.invariant.fits.1)

pub returns-then-not-is_single-clause-holds : goal.returns-then-not-is_single-clause-holds
returns-then-not-is_single-clause-holds g c = c.look_level-found.ensures.holds

pub returns-then-not-is_single-clause-looked : goal.returns-then-not-is_single-clause-looked
returns-then-not-is_single-clause-looked g c =
    looked_then (g.R.Rows.view c.args.seat.now) (g.R.Rows.view c.loop-at.seat) (g.R.Rows.view c.look_level-found.new.seat) c.loop-at.invariant.looked c.look_level-found.ensures.looked

pub returns-then-not-is_single-clause-stops : goal.returns-then-not-is_single-clause-stops
returns-then-not-is_single-clause-stops g c =
    stop_found (g.R.Rows.shape c.args.rows.now) (g.R.Rows.view c.args.seat.now) c.args.session.now c.args.log.now c.requires.holds c.args.key c.args.path.now c.requires.way
    c.args.session.now.own c.args.from (c.len-top.result - 1) (let e = c.len-top.ensures.count in omega arith) c.loop-at.at c.loop-at.invariant.low c.loop-at-test.true c.look_level-found.result (c.is_single.ensures.other c.if-not-is_single.true)
    (found_back (g.R.Rows.view c.args.seat.now) (g.R.Rows.view c.loop-at.seat) c.loop-at.invariant.looked.given (core_looked (g.R.Rows.view c.args.seat.now) (g.R.Rows.view c.loop-at.seat) c.loop-at.invariant.looked) c.look_level-found.result c.args.session.now.own c.args.key c.loop-at.at c.look_level-found.ensures.found) c.loop-at.invariant.thin c.loop-at.invariant.none

pub loop-at-preserved : goal.loop-at-preserved
loop-at-preserved g c =
    let inv = c.loop-at.invariant in
    let v = (g.R.Rows.view c.args.seat.now) in
    let single = found_back (g.R.Rows.view c.args.seat.now) (g.R.Rows.view c.loop-at.seat) c.loop-at.invariant.looked.given (core_looked (g.R.Rows.view c.args.seat.now) (g.R.Rows.view c.loop-at.seat) c.loop-at.invariant.looked) level.Single c.args.session.now.own c.args.key c.loop-at.at
    (subst (λ (k : Level). IsFound k c.args.session.now.own (g.R.Rows.view c.loop-at.seat) c.args.key c.loop-at.at) (c.is_single.ensures.single c.if-not-is_single.false) c.look_level-found.ensures.found) in
    record {
      fits = (c.look_level-found.ensures.fits.0, c.look_level-found.ensures.fits.1 ∙ inv.fits.1);
      holds = c.look_level-found.ensures.holds;
      looked = looked_then (g.R.Rows.view c.args.seat.now) (g.R.Rows.view c.loop-at.seat) (g.R.Rows.view c.look_level-found.new.seat) inv.looked c.look_level-found.ensures.looked;
      low = let a = inv.low in omega arith;
      thin = further (λ j. is_thin (state v).core (page_at (opening v.given) (state v).core c.args.key j) ≡ true) c.args.from c.loop-at.at inv.thin single.0;
      none = further (λ j. join_under c.args.session.now.own (opening v.given) (state v).core (page_at (opening v.given) (state v).core c.args.key j) (page_at (opening v.given) (state v).core c.args.key (suc j)) ≡ None) c.args.from c.loop-at.at inv.none single.1;
    }

pub returns-clause-stops : goal.returns-clause-stops
returns-clause-stops g c =
    stop_thick (g.R.Rows.shape c.args.rows.now) (g.R.Rows.view c.args.seat.now) c.args.session.now c.args.log.now c.requires.holds c.args.key c.args.path.now c.requires.way
    c.every_warm.ensures c.args.session.now.own c.args.from (c.len-top.result - 1) (let e = c.len-top.ensures.count in omega arith) c.requires.from c.higher.result c.higher.ensures.least c.higher.ensures.high c.higher.ensures.low
    (λ j a b. c.loop-at.invariant.thin j a (let t = c.loop-at-test.false in omega arith)) (λ j a b. c.loop-at.invariant.none j a (let t = c.loop-at-test.false in omega arith))
