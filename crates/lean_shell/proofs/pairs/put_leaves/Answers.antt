use Rattle.std.proofs.Common.{◌≡◌, ◌≤◌, ℕ, inl, length, refl, sym, ◌∙◌, subst, arith}
use Rattle.map_model.specs.Maps.{Map, key_end, value_end}
use Rattle.page_model.specs.Nodes.{Node}
use Rattle.page_model.specs.Tree.{value}
use Rattle.buffered_engine.specs.disk_image.Formats.{format_of}
use Rattle.node_tree.specs.Nodes.{nodes_of}
use Rattle.node_tree.proofs.PairLemmas.{node_at}
use Rattle.pair_walk.specs.Fences.{IsFence}
use Rattle.pair_walk.specs.Listings.{Lists, live}
use Rattle.lean_shell.specs.Inside.Puts.{ArePutTo}
use Rattle.lean_shell.proofs.Dumps.LeafLemmas.{leaves_cut, leaves_end, leaves_more, none_put}
use Rattle.lean_shell.proofs.pairs.put_leaves.Goals as goal

pub loop-fence-init : goal.loop-fence-init
loop-fence-init g c = record {
  put = none_put (value (format_of (length c.args.pages.now)) (nodes_of c.args.pages.now)) (g.K.Sink.held c.args.sink.now) (g.K.Sink.faults c.args.sink.now) (g.D.Disk.story c.args.disk.now);
  within = omega arith;
  fence = inl refl;
  faults = refl;
}

pub returns-in_default-clause-put : goal.returns-in_default-clause-put
returns-in_default-clause-put g c =
    let held = g.K.Sink.held in
    let faults = g.K.Sink.faults in
    let story = g.D.Disk.story in
    let pages = c.args.pages.now in
    let map : Map = value (format_of (length pages)) (nodes_of pages) in
    let v = c.index-pages-page.result.node in
    let at = node_at pages c.leaf_from-page.result c.index-pages-page.result c.leaf_from-page.ensures.page c.index-pages-page.is in
    leaves_cut c.every_listing.ensures map c.loop-fence.fence v.high (live value_end v.pairs) (held c.args.sink.now) (held c.loop-fence.sink) (held c.put_leaf.new.sink) (faults c.args.sink.now) (faults c.loop-fence.sink) (faults c.put_leaf.new.sink)
    (story c.args.disk.now) (story c.loop-fence.disk) (story c.put_leaf.new.disk) c.loop-fence.invariant.put
    (subst (λ (n : Node). Lists map c.loop-fence.fence n.high (live value_end n.pairs)) at c.leaf_from-page.ensures.pairs) c.put_leaf.result c.put_leaf.ensures.put c.in_default.is
    (subst (λ (n : Node). n.high ≤ key_end) at c.leaf_from-page.ensures.within)

pub loop-fence-preserved : goal.loop-fence-preserved
loop-fence-preserved g c =
    let held = g.K.Sink.held in
    let faults = g.K.Sink.faults in
    let story = g.D.Disk.story in
    let pages = c.args.pages.now in
    let map : Map = value (format_of (length pages)) (nodes_of pages) in
    let v = c.index-pages-page.result.node in
    let at = node_at pages c.leaf_from-page.result c.index-pages-page.result c.leaf_from-page.ensures.page c.index-pages-page.is in
    let high = sym c.high-fence.ensures in
    record {
      put = subst (λ (n : ℕ). ArePutTo map n (held c.args.sink.now) (held c.put_leaf.new.sink) (faults c.args.sink.now) (faults c.put_leaf.new.sink) (story c.args.disk.now) (story c.put_leaf.new.disk)) high
          (leaves_more c.every_listing.ensures map c.loop-fence.fence v.high (live value_end v.pairs) (held c.args.sink.now) (held c.loop-fence.sink) (held c.put_leaf.new.sink) (faults c.args.sink.now) (faults c.loop-fence.sink) (faults c.put_leaf.new.sink)
          (story c.args.disk.now) (story c.loop-fence.disk) (story c.put_leaf.new.disk) c.loop-fence.invariant.put
          (subst (λ (n : Node). Lists map c.loop-fence.fence n.high (live value_end n.pairs)) at c.leaf_from-page.ensures.pairs) c.put_leaf.result c.put_leaf.ensures.put c.in-Done.is);
      within = subst (λ (n : ℕ). n ≤ key_end) high (subst (λ (n : Node). n.high ≤ key_end) at c.leaf_from-page.ensures.within);
      fence = subst (λ (n : ℕ). IsFence (length pages) (nodes_of pages) n) high (subst (λ (n : Node). IsFence (length pages) (nodes_of pages) n.high) at c.leaf_from-page.ensures.next);
      faults = c.put_leaf.ensures.faults ∙ c.loop-fence.invariant.faults;
    }

pub returns-clause-put : goal.returns-clause-put
returns-clause-put g c =
    let held = g.K.Sink.held in
    let faults = g.K.Sink.faults in
    let story = g.D.Disk.story in
    let pages = c.args.pages.now in
    let end : c.loop-fence.fence ≡ key_end = let within = c.loop-fence.invariant.within in omega arith in
    leaves_end (value (format_of (length pages)) (nodes_of pages)) c.loop-fence.fence end (held c.args.sink.now) (held c.loop-fence.sink) (faults c.args.sink.now) (faults c.loop-fence.sink) (story c.args.disk.now) (story c.loop-fence.disk) c.loop-fence.invariant.put
