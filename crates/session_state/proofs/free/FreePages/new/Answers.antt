use Rattle.std.proofs.Common.{◌<◌, ◌+◌, ◌-◌, ◌∷◌, ◌∙◌, length, vec_capacity, vec_len, sym, ap, arith}
use Rattle.std.specs.Prelude.{reverse}
use Rattle.session_state.specs.Free.{nodes_in}
use Rattle.session_state.proofs.FreeLemmas.{at_page, free_next, live_next, reverse_last}
use Rattle.session_state.proofs.free.FreePages.new.Goals as goal
use Rattle.session_state.proofs.free.FreePages.new.Goals.{then-not-is_live, else-not-is_live}

pub loop-n-preserved : goal.loop-n-preserved
loop-n-preserved c =
    let pages = c.args.pages.now in
    let n = c.loop-n.n in
    let page = length pages - (n + 1) in
    let more : n < length pages = c.loop-n-test.true in
    let at = at_page pages page c.index-pages-page.result (omega arith) c.index-pages-page.is in
    elim c.if-not-is_live.branch [
      | then-not-is_live w ↦ (record {
        few = let is = ap vec_len w.falling-is in let len = w.push_reserved.ensures.len in let few = c.loop-n.invariant.few in omega arith;
        room = let is = ap vec_capacity w.falling-is in let same = w.push_reserved.ensures.capacity in let room = c.loop-n.invariant.room in omega arith;
        all = let is = ap vec_capacity w.falling-is in let same = w.push_reserved.ensures.capacity in let all = c.loop-n.invariant.all in omega arith;
        free = ap (λ v. reverse v.items) w.falling-is ∙ (ap reverse w.push_reserved.ensures.items ∙ (reverse_last c.loop-n.falling.items page
            ∙ (ap (λ ps. page ∷ ps) c.loop-n.invariant.free ∙ sym (free_next (nodes_in pages) (length pages) n more (ap (λ q. q.node.live) at ∙ (sym c.is_live.ensures ∙ w.if-not-is_live.true))))));
      })
      | else-not-is_live w ↦ (record {
        few = let is = ap vec_len w.falling-is in let few = c.loop-n.invariant.few in omega arith;
        room = let is = ap vec_capacity w.falling-is in let room = c.loop-n.invariant.room in omega arith;
        all = let is = ap vec_capacity w.falling-is in let all = c.loop-n.invariant.all in omega arith;
        free = ap (λ v. reverse v.items) w.falling-is ∙ (c.loop-n.invariant.free ∙ sym (live_next (nodes_in pages) (length pages) n more (ap (λ q. q.node.live) at ∙ (sym c.is_live.ensures ∙ w.if-not-is_live.false))));
      })
    ]
