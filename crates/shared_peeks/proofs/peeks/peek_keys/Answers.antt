use Rattle.std.proofs.Common.{◌≡◌, ◌+◌, false, [], refl, ap, subst, ◌∙◌, arith}
use Rattle.btree_descent.proofs.rows_trait.Runs.{ran_none}
use Rattle.shared_peeks.specs.Peeked.{HasLooked, bit}
use Rattle.shared_peeks.proofs.Looking.{next_key, bit_small}
use Rattle.shared_peeks.proofs.peeks.peek_keys.Goals as goal

pub loop-key-init : goal.loop-key-init
loop-key-init c = record {
  can = c.requires.can.0;
  worker = refl;
  low = omega arith;
  high = omega arith;
  less = let z = c.requires.can.1 in omega arith;
  made = ([], ran_none false c.args.desk.now.seat.me.0, λ e. (tt, refl));
}

pub look_at-found-requires-clause-can : goal.look_at-found-requires-clause-can
look_at-found-requires-clause-can c = c.loop-key.invariant.can

pub counted-desk-requires : goal.counted-desk-requires
counted-desk-requires c = let l = c.loop-key.invariant.less in let h = c.loop-key.invariant.high in let s = c.look_at-found.ensures.same.1 in omega arith

pub loop-key-preserved : goal.loop-key-preserved
loop-key-preserved c =
    let i = c.loop-key.invariant in
    let e = c.look_at-found.ensures in
    let key = c.loop-key.key in
    let good = c.loop-key.desk.good in
    let looked = subst (λ z. HasLooked z key c.look_at-found.result c.loop-key.desk.seat.me.0 c.look_at-found.new.desk.seat.me.0) i.worker e.looked in
    let n = next_key c.args.desk.now.worker key good c.look_at-found.result c.args.desk.now.seat.me.0 c.loop-key.desk.seat.me.0 c.look_at-found.new.desk.seat.me.0 i.made.0 i.made.1 i.made.2 i.less looked in
    let is : c.counted-desk.result ≡ good + bit c.look_at-found.result = c.counted-desk.ensures ∙ ap (λ z. z + bit c.look_at-found.result) e.same.1 in record {
      can = record { own = e.can.own; slots = e.can.slots; live = e.can.live; low = e.can.low; held = e.can.held; actor = e.can.actor; sized = e.can.sized; sound = e.can.sound };
      worker = e.same.0 ∙ i.worker;
      low = omega arith;
      high = let t = c.loop-key.auto.key-end in omega arith;
      less = let l = i.less in let b = bit_small c.look_at-found.result in omega arith;
      made = (n.0, n.1, λ t. n.2 (let x = is in omega arith));
    }

pub returns : goal.returns
returns c =
    let i = c.loop-key.invariant in record {
      peeked = record {
        can = i.can;
        worker = i.worker;
        events = i.made.0;
        ran = i.made.1;
        good = λ e. let t = c.loop-key.auto.key-end in let h = i.high in let x = c.loop-key-test.false in let m = i.made.2 (omega arith) in (m.0, let y = m.1 in omega arith);
      };
    }
