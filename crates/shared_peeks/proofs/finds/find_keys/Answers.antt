use Rattle.std.proofs.Common.{◌≡◌, ◌+◌, refl, ap, ◌∙◌, arith}
use Rattle.shared_peeks.specs.Peeked.{bit}
use Rattle.shared_peeks.proofs.Looking.{bit_small}
use Rattle.shared_peeks.proofs.finds.find_keys.Goals as goal

pub loop-key-init : goal.loop-key-init
loop-key-init c = record {
  can = c.requires.can.0;
  worker = refl;
  low = omega arith;
  high = omega arith;
  less = let z = c.requires.can.1 in omega arith;
}

pub seek-found-requires-clause-can : goal.seek-found-requires-clause-can
seek-found-requires-clause-can c = c.loop-key.invariant.can

pub counted-desk-requires : goal.counted-desk-requires
counted-desk-requires c = let l = c.loop-key.invariant.less in let h = c.loop-key.invariant.high in let s = c.seek-found.ensures.same.1 in omega arith

pub loop-key-preserved : goal.loop-key-preserved
loop-key-preserved c =
    let i = c.loop-key.invariant in
    let e = c.seek-found.ensures in
    let is : c.counted-desk.result ≡ c.loop-key.desk.good + bit c.seek-found.result = c.counted-desk.ensures ∙ ap (λ z. z + bit c.seek-found.result) e.same.1 in record {
      can = record { own = e.can.own; slots = e.can.slots; live = e.can.live; low = e.can.low; held = e.can.held; actor = e.can.actor; sized = e.can.sized; sound = e.can.sound };
      worker = e.same.0 ∙ i.worker;
      low = omega arith;
      high = let t = c.loop-key.auto.key-end in omega arith;
      less = let l = i.less in let b = bit_small c.seek-found.result in omega arith;
    }
