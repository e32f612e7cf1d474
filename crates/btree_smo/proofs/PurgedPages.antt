-- The leaf that a purge leaves is the one that the node became.
use Rattle.std.proofs.Common.{◌≡◌, ◌==◌, not, ◌≤◌, ℕ, true, List, length, refl, sym, ap, subst, ◌∙◌, eq-eqb}
use Rattle.page_model.specs.Nodes.{Node}
use Rattle.page_model.specs.Pairs.{keep, is_in}
use Rattle.page_model.specs.Page as stored
use Rattle.disk_image.specs.image_model.Entries.{Contents}
use Rattle.btree_descent.specs.core_state.Openings.{Opening}
use Rattle.btree_descent.specs.core_state.States.{State}
use Rattle.btree_descent.specs.core_state.Events as happening
use Rattle.btree_descent.specs.core_state.Steps.{happens}
use Rattle.btree_descent.specs.row_words.Words.{framed, framed_page}
use Rattle.btree_descent.proofs.row_words.Frames.{framed_leaf}
use Rattle.btree_descent.specs.row_words.Openings.{opening}
use Rattle.btree_descent.specs.rows_trait.declared.view.View.{View}
use Rattle.btree_descent.specs.rows_trait.Views.{Shape, state, may}
use Rattle.btree_descent.specs.Known.{IsSound}
use Rattle.btree_smo.specs.Purges.{purge_entry}
use Rattle.btree_smo.specs.Inside.Purging.{IsPurging, IsPurged, leaf_after}

module _ (g : Opening) (s : State) (w p : ℕ) (keys : List ℕ) where
  abbrev after : State
  after = happens g s (happening.Event.Purge w p keys)

  abbrev old : Node
  old = (s.page p).node

  abbrev low_leaf : Node
  low_leaf = record { live = old.live; level = old.level; low = old.low; high = old.high; pairs = keep (λ k. not (is_in k keys)) old.pairs }

  contents : after.page p ≡ record { gsn = (purge_entry w p keys s).number; last = w; node = low_leaf }
  contents = let e : (p == p) ≡ true = eq-eqb p p refl in rw e refl

  -- the page's node is its own in a frame, since it names no page
  pub leaf_left : (n : stored.Page) (generation : ℕ) → n.number ≡ p → n.generation ≡ generation → old.level ≡ 0 → n.node ≡ framed s.place old → leaf_after n keys (purge_entry w p keys s).number w ≡ framed_page after p generation
  leaf_left n generation is same flat node =
      let bare : n.node ≡ old = node ∙ framed_leaf s.place old flat in
      let node_is : (leaf_after n keys (purge_entry w p keys s).number w).node ≡ low_leaf =
      (λ i. record { live = (bare i).live; level = (bare i).level; low = (bare i).low; high = (bare i).high; pairs = keep (λ k. not (is_in k keys)) (bare i).pairs }) in
      let whole : low_leaf ≡ framed after.place (after.page p).node = sym (ap (λ (y : Contents). framed after.place y.node) contents ∙ framed_leaf after.place low_leaf flat) in
      (λ i. record { number = is i; gsn = (ap (λ (y : Contents). y.gsn) (sym contents)) i; generation = same i; last_log = (ap (λ (y : Contents). y.last) (sym contents)) i; node = (node_is ∙ whole) i })

pub purged_as : {z : Shape} {v : View} {worker frames leaf number page : ℕ} {n m : stored.Page} {places keys : List ℕ} → IsPurging z v worker frames leaf n places keys → may z.alone v worker ≡ true → IsSound v.given → number ≡ (purge_entry worker n.number keys (state v).core).number
    → m ≡ leaf_after n keys number worker → length m.node.pairs ≤ 60 → page ≡ n.number → IsPurged z v worker page keys frames leaf m places
purged_as {z} {v} {worker} {frames} {leaf} {number} {page} {n} {m} {places} {keys} it actor sound num is short at =
    let s = (state v).core in
    let node : n.node ≡ framed s.place (s.page n.number).node = ap (λ (q : stored.Page). q.node) it.stands.page in
    let flat : (s.page n.number).node.level ≡ 0 = sym (ap (λ (v : Node). v.level) node ∙ Rattle.btree_descent.proofs.row_words.Frames.framed_level s.place (s.page n.number).node) ∙ it.flat in
    let page_is = leaf_left (opening v.given) s worker n.number keys n n.generation refl refl flat node in
    let whole : m ≡ framed_page (happens (opening v.given) s (happening.Event.Purge worker n.number keys)) n.number n.generation = is ∙ (ap (λ x. leaf_after n keys x worker) num ∙ page_is) in
    subst (λ p. IsPurged z v worker p keys frames leaf m places) (sym at) (record {
      rows = it.rows;
      actor = actor;
      sound = sound;
      met = it.met;
      young = it.young;
      left = record {
        frame = it.rows.frame;
        stands = subst (λ q. Rattle.btree_smo.specs.Outcomes.IsHotIn v.given (state v) leaf q) (sym (ap (λ (q : stored.Page). q.number) is)) it.stands.stands;
        page = whole ∙ (λ i. framed_page (happens (opening v.given) s (happening.Event.Purge worker n.number keys)) (ap (λ (q : stored.Page). q.number) (sym is) i) (ap (λ (q : stored.Page). q.generation) (sym is) i));
        short = short;
      };
      is = ap (λ (q : stored.Page). q.number) is;
    })
