use Rattle.std.proofs.Common.{◌≡◌, ◌+◌, ℕ, subst, sym, arith}
use Rattle.transactions.specs.Sessions.{AreNew}
use Rattle.transactions.proofs.NewLemmas.{more_new, new_know}
use Rattle.transactions.proofs.sessions.Sessions.new.Goals as goal

pub loop-i-preserved : goal.loop-i-preserved
loop-i-preserved c = record {
  room = let same = c.push_reserved.ensures.capacity in let room = c.loop-i.invariant.room in omega arith;
  new = subst (AreNew (c.loop-i.i + 1) c.args.rows) (sym c.push_reserved.ensures.items)
      (more_new c.loop-i.i c.args.rows c.loop-i.list.items c.in_ok-new.field-0 c.loop-i.invariant.new (record { memory = c.in_ok-new.ensures.memory; knows = c.in_ok-new.ensures.knows }));
}

pub returns-clause-know : goal.returns-clause-know
returns-clause-know c =
    let most = c.loop-i-test.false in
    let least = c.loop-i.auto.i-end in
    let all : c.loop-i.i ≡ c.args.sessions = omega arith in
    new_know c.args.sessions c.args.rows c.loop-i.list.items (subst (λ (n : ℕ). AreNew n c.args.rows c.loop-i.list.items) all c.loop-i.invariant.new)
