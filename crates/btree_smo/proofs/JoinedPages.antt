-- The three pages that a join leaves are those that the nodes became.
use Rattle.std.proofs.Common.{◌≡◌, ◌≢◌, ◌==◌, ◌&&◌, not, ltb, ◌≤◌, ℕ, suc, true, false, ◌++◌, length, refl, sym, ap, subst, ◌∙◌, eq-eqb, ne_eqb, arith}
use Rattle.page_model.specs.Pairs.{without}
use Rattle.page_model.specs.Nodes.{Node, NodeOk, free}
use Rattle.page_model.specs.Page as stored
use Rattle.disk_image.specs.image_model.Entries.{Contents}
use Rattle.btree_descent.specs.core_state.Openings.{Opening}
use Rattle.btree_descent.specs.core_state.States.{State}
use Rattle.btree_descent.specs.core_state.Events as happening
use Rattle.btree_descent.specs.core_state.Steps.{happens}
use Rattle.btree_descent.specs.row_words.declared.event.Event.TheVariants.{Join}
use Rattle.btree_descent.specs.row_words.Openings.{opening}
use Rattle.btree_descent.specs.row_words.Words.{is_inner, framed, framed_page}
use Rattle.btree_descent.specs.rows_trait.declared.view.View.{View}
use Rattle.btree_descent.specs.rows_trait.Views.{Shape, state, may}
use Rattle.btree_descent.specs.Known.{IsSound}
use Rattle.btree_smo.specs.declared.join.Joining.{Joining}
use Rattle.btree_smo.specs.Joins.{join_entry}
use Rattle.btree_smo.specs.Outcomes.{IsHotIn}
use Rattle.held_rows.specs.Rows.{HoldsThree, IsFrame}
use Rattle.btree_smo.specs.Inside.{IsLeft}
use Rattle.btree_smo.specs.Inside.Joining.{IsJoining, IsMerged, left_after, right_after, parent_after}
use Rattle.btree_smo.proofs.Children.{named_child}
use Rattle.btree_smo.proofs.Naming.{leads_to, rising_le}
use Rattle.btree_smo.proofs.Reading.{reads}
use Rattle.btree_smo.proofs.SplitPages.{two_pages}
use Rattle.btree_smo.proofs.Swips.{shown, shown_keep, shown_append, framed_as}

module _ (g : Opening) (s : State) (w l r q : ℕ) (lr : l ≢ r) (lq : l ≢ q) (rq : r ≢ q) (same : is_inner (s.page l).node ≡ is_inner (s.page r).node) where
  abbrev old : Node
  old = (s.page l).node

  abbrev next : Node
  next = (s.page r).node

  abbrev above : Node
  above = (s.page q).node

  abbrev after : State
  after = happens g s (happening.Event.Join w l r q)

  abbrev number : ℕ
  number = (join_entry w l r q s).number

  left_node : Node
  left_node = record { live = old.live; level = old.level; low = old.low; high = next.high; pairs = (old.pairs ++ next.pairs) }

  parent_node : Node
  parent_node = record { live = above.live; level = above.level; low = above.low; high = above.high; pairs = without next.low above.pairs }

  left_contents : after.page l ≡ record { gsn = number; last = w; node = left_node }
  unfolding left_node
  left_contents =
      let a : (l == l) ≡ true = eq-eqb l l refl in
      rw a refl

  right_contents : after.page r ≡ record { gsn = number; last = w; node = free }
  right_contents =
      let a : (l == r) ≡ false = ne_eqb l r lr in
      let b : (r == l) ≡ false = ne_eqb r l (λ e. lr (sym e)) in
      let c : (r == r) ≡ true = eq-eqb r r refl in
      rw (a, b, c) refl

  parent_contents : after.page q ≡ record { gsn = number; last = w; node = parent_node }
  unfolding parent_node
  parent_contents =
      let a : (l == q) ≡ false = ne_eqb l q lq in
      let b : (r == q) ≡ false = ne_eqb r q rq in
      let c : (q == l) ≡ false = ne_eqb q l (λ e. lq (sym e)) in
      let d : (q == r) ≡ false = ne_eqb q r (λ e. rq (sym e)) in
      let e : (q == q) ≡ true = eq-eqb q q refl in
      rw (a, b, c, d, e) refl

  -- in their frames
  left_framed : framed s.place left_node ≡ record (framed s.place old) { high = (framed s.place next).high; pairs = ((framed s.place old).pairs ++ (framed s.place next).pairs) }
  unfolding left_node
  left_framed =
      let b = is_inner old in
      let e = shown_append s.place b old.pairs next.pairs in
      let f = framed_as s.place old in
      let n : framed s.place next ≡ record next { pairs = shown s.place b next.pairs } = framed_as s.place next ∙ (λ i. record next { pairs = shown s.place (sym same i) next.pairs }) in
      framed_as s.place left_node
      ∙ ((λ i. record { live = old.live; level = old.level; low = old.low; high = next.high; pairs = sym e i })
      ∙ (λ i. record (sym f i) { high = (sym n i).high; pairs = ((sym f i).pairs ++ (sym n i).pairs) }))

  parent_framed : framed s.place parent_node ≡ record (framed s.place above) { pairs = without next.low (framed s.place above).pairs }
  unfolding parent_node
  parent_framed =
      let b = is_inner above in
      let e = shown_keep s.place b (λ k. not (k == next.low)) above.pairs in
      let f = framed_as s.place above in
      framed_as s.place parent_node
      ∙ ((λ i. record { live = above.live; level = above.level; low = above.low; high = above.high; pairs = sym e i }) ∙ (λ i. record (sym f i) { pairs = without next.low (sym f i).pairs }))

  pub left_left : (n m : stored.Page) → n ≡ framed_page s l n.generation → m.node ≡ framed s.place next → left_after n m number w ≡ framed_page after l n.generation
  left_left n m is other =
      let node : n.node ≡ framed s.place old = ap (λ (y : stored.Page). y.node) is in
      let node_is : (left_after n m number w).node ≡ framed s.place left_node = (λ i. record (node i) { high = (other i).high; pairs = ((node i).pairs ++ (other i).pairs) }) ∙ sym left_framed in
      (λ i. record { number = ap (λ (y : stored.Page). y.number) is i; gsn = ap (λ (y : Contents). y.gsn) (sym left_contents) i; generation = n.generation; last_log = ap (λ (y : Contents). y.last) (sym left_contents) i; node = (node_is ∙ ap (λ (y : Contents). framed s.place y.node) (sym left_contents)) i })

  pub right_left : (m : stored.Page) → m.number ≡ r → right_after m number w ≡ framed_page after r m.generation
  right_left m is =
      (λ i. record { number = is i; gsn = ap (λ (y : Contents). y.gsn) (sym right_contents) i; generation = m.generation; last_log = ap (λ (y : Contents). y.last) (sym right_contents) i; node = ap (λ (y : Contents). framed s.place y.node) (sym right_contents) i })

  pub parent_left : (n : stored.Page) (x : ℕ) → n ≡ framed_page s q n.generation → x ≡ next.low → parent_after n x number w ≡ framed_page after q n.generation
  parent_left n x is sep_is =
      let node : n.node ≡ framed s.place above = ap (λ (y : stored.Page). y.node) is in
      let node_is : (parent_after n x number w).node ≡ framed s.place parent_node = (λ i. record (node i) { pairs = without (sep_is i) (node i).pairs }) ∙ sym parent_framed in
      (λ i. record { number = ap (λ (y : stored.Page). y.number) is i; gsn = ap (λ (y : Contents). y.gsn) (sym parent_contents) i; generation = n.generation; last_log = ap (λ (y : Contents). y.last) (sym parent_contents) i; node = (node_is ∙ ap (λ (y : Contents). framed s.place y.node) (sym parent_contents)) i })

-- ## What is known of a join

module _ {z : Shape} {v : View} {worker a b d : ℕ} (l : Joining) (t : HoldsThree z v a b d) (it : IsJoining v worker a b d l) (actor : may z.alone v worker ≡ true) (sound : IsSound v.given) where
  abbrev core : State
  core = (state v).core

  abbrev p : ℕ
  p = l.left.number

  abbrev r : ℕ
  r = l.right.number

  abbrev q : ℕ
  q = l.parent.number

  pr : p ≢ r
  pr = two_pages core.place p r a b it.left.stands.hot it.right.stands.hot t.apart

  pq : p ≢ q
  pq = two_pages core.place p q a d it.left.stands.hot it.parent.stands.hot t.far

  rq : r ≢ q
  rq = two_pages core.place r q b d it.right.stands.hot it.parent.stands.hot t.near

  left_kid : ((core.page p).node.live ≡ true) × (suc (core.page p).node.level ≡ (core.page q).node.level)
  left_kid = named_child q p (sound v.seen) it.parent.stands.below (leads_to (sound v.seen) l.parent it.parent a l.left.node.low l.left it.left it.can.leads_left)

  right_kid : ((core.page r).node.live ≡ true) × (suc (core.page r).node.level ≡ (core.page q).node.level)
  right_kid = named_child q r (sound v.seen) it.parent.stands.below (leads_to (sound v.seen) l.parent it.parent b l.right.node.low l.right it.right it.can.leads_right)

  -- both are children of one page, so both are leaves or neither is
  pub alike : is_inner (core.page p).node ≡ is_inner (core.page r).node
  alike =
      let level : (core.page p).node.level ≡ (core.page r).node.level = (let x = left_kid.1 in let y = right_kid.1 in omega arith) in
      (λ i. left_kid.0 i && ltb 0 (level i)) ∙ (λ i. sym right_kid.0 i && ltb 0 (core.page r).node.level)

  -- the fences of both nodes are in order
  pub both_formed : (l.left.node.low ≤ l.left.node.high) × (l.right.node.low ≤ l.right.node.high)
  both_formed =
      let x : NodeOk (opening v.given).format (core.page p).node = ((sound v.seen).tree.formed p it.left.stands.below).node left_kid.0 in
      let y : NodeOk (opening v.given).format (core.page r).node = ((sound v.seen).tree.formed r it.right.stands.below).node right_kid.0 in
      let left = rising_le (core.page p).node.low (core.page p).node.pairs (core.page p).node.high x.rising in
      let right = rising_le (core.page r).node.low (core.page r).node.pairs (core.page r).node.high y.rising in
      let k = reads it.left in
      let n = reads it.right in
      let kl = k.low in let kh = k.high in let nl = n.low in let nh = n.high in (omega arith, omega arith)

  pub merged : (number : ℕ) (left right parent : stored.Page) → number ≡ (join_entry worker p r q core).number → left ≡ left_after l.left l.right number worker → right ≡ right_after l.right number worker → parent ≡ parent_after l.parent l.right.node.low number worker
      → length left.node.pairs ≤ 60 → length right.node.pairs ≤ 60 → length parent.node.pairs ≤ 60 → IsMerged z v worker p r q a b d left right parent
  merged count left right parent num le re pe ls rs ps =
      let g = opening v.given in
      let after = happens g core (happening.Event.Join worker p r q) in
      let x = left_left g core worker p r q pr pq rq alike l.left l.right it.left.page (ap (λ (m : stored.Page). m.node) it.right.page) in
      let y = right_left g core worker p r q pr pq rq alike l.right refl in
      let w = parent_left g core worker p r q pr pq rq alike l.parent l.right.node.low it.parent.page (reads it.right).low in
      let left_is : left ≡ framed_page after p l.left.generation = le ∙ (ap (λ n. left_after l.left l.right n worker) num ∙ x) in
      let right_is : right ≡ framed_page after r l.right.generation = re ∙ (ap (λ n. right_after l.right n worker) num ∙ y) in
      let parent_is : parent ≡ framed_page after q l.parent.generation = pe ∙ (ap (λ n. parent_after l.parent l.right.node.low n worker) num ∙ w) in record {
        three = t;
        actor = actor;
        sound = sound;
        met = it.met;
        young = it.young;
        left_left = left_of left a t.first p l.left.generation it.left.stands left_is ls;
        left_is = ap (λ (m : stored.Page). m.number) left_is;
        right_left = left_of right b t.second r l.right.generation it.right.stands right_is rs;
        right_is = ap (λ (m : stored.Page). m.number) right_is;
        parent_left = left_of parent d t.third q l.parent.generation it.parent.stands parent_is ps;
        parent_is = ap (λ (m : stored.Page). m.number) parent_is;
      }
    where
      left_of : (n : stored.Page) (row : ℕ) → IsFrame z v row → (page generation : ℕ) → IsHotIn v.given (state v) row page → n ≡ framed_page (happens (opening v.given) (state v).core (happening.Event.Join worker l.left.number l.right.number l.parent.number)) page generation → length n.node.pairs ≤ 60
          → IsLeft z v (Join worker l.left.number l.right.number l.parent.number) row n
      left_of n row f page generation hot is short = record {
        frame = f;
        stands = subst (IsHotIn v.given (state v) row) (sym (ap (λ (m : stored.Page). m.number) is)) hot;
        page = is ∙ (λ i. framed_page (happens (opening v.given) (state v).core (happening.Event.Join worker l.left.number l.right.number l.parent.number)) (ap (λ (m : stored.Page). m.number) (sym is) i) (ap (λ (m : stored.Page). m.generation) (sym is) i));
        short = short;
      }
