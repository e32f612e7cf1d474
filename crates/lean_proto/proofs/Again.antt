-- An event makes the same of its rows in a second state where its worker's record, its lock rows and what is near its pages are as in the first.
use Rattle.std.proofs.Common.{◌≡◌, ◌==◌, ◌||◌, ◌&&◌, not, ltb, leb, ◌+◌, ℕ, suc, Bool, true, false, List, [], ◌∷◌, ◌++◌, length, refl, sym, ap, subst, ◌∙◌, true≢false, inl, inr}
use Rattle.std.specs.Prelude.{if◌then◌else◌}
use Rattle.std.proofs.lemmas.Bool.{and_from, or_left, or_right, eq-eqb, eqb-true}
use Rattle.map_model.specs.Lists.{Has, any}
use Rattle.core_paging.specs.image_model.Entries.{Kind, Contents, Entry, touches, written, applied_as}
use Rattle.page_model.specs.Pairs.{Pair, Span, spans, keep, below, onward, put, is_in, without}
use Rattle.page_model.specs.Nodes.{Format, Node, WellFormed, free, holds}
use Rattle.page_model.specs.Records as records
use Rattle.page_model.specs.Records.{Record, write_record}
use Rattle.page_model.specs.Redo.{has_key, all_keys}
use Rattle.page_model.specs.Needs.{key_at, split_record, lift_record, join_record, drop_record, purge_record}
use Rattle.page_model.specs.Check.{names_page}
use Rattle.page_model.proofs.Pairs.{keep_has, put_has, has_append}
use Rattle.page_model.proofs.Spans.{span_pair}
use Rattle.core_paging.proofs.core_commit.Events.{names_to}
use Rattle.core_paging.specs.core_state.Openings.{Opening}
use Rattle.core_paging.specs.core_state.States.{Place, State, Worker, nodes_of, gsns_of, in_frame}
use Rattle.core_paging.specs.core_state.Events.{Event, Mode}
use Rattle.core_paging.specs.core_state.Needs.{may, needs, are_hot, pages_of, is_held_by, may_put, may_put_back, may_split, may_lift, may_join, may_drop, may_purge, is_single, is_settled, is_dead}
use Rattle.core_paging.specs.core_state.Steps.{happens, locked, unlocked, put_back, touch, at_pages, refs_of, moves, write_entry, page_entry}
use Rattle.core_paging.specs.core_state.Local.{published, publishes_row}
use Rattle.version_latch.specs.row_words.Words.{swip, is_inner, publishes_frame}
use Rattle.version_latch.proofs.row_words.Stays as words
use Rattle.version_latch.proofs.row_words.Stays.{cases, and_true}
use Rattle.lean_proto.proofs.Near.{SameNear}

-- ## Swips

-- each page that the pairs name has the same swip
abbrev pub Agree : (ℕ → Place) → (ℕ → Place) → List Pair → Type 0
Agree a b xs = (x : Pair) → Has x xs → swip (b x.word) x.word ≡ swip (a x.word) x.word

named_in : (xs : List Pair) (high : ℕ) (x : Pair) → Has x xs → records.any (λ (s : Span). s.child == x.word) (spans xs high) ≡ true
named_in [] high x h = absurd h
named_in (y ∷ ys) high x (inl e) = or_left (y.word == x.word) (records.any (λ (s : Span). s.child == x.word) (spans ys high)) (eq-eqb y.word x.word (ap (λ z. z.word) (sym e)))
named_in (y ∷ ys) high x (inr h) = or_right (y.word == x.word) (records.any (λ (s : Span). s.child == x.word) (spans ys high)) (named_in ys high x h)

module _ (a b : ℕ → Place) where
  agree_keep : (p : ℕ → Bool) (xs : List Pair) → Agree a b xs → Agree a b (keep p xs)
  agree_keep p xs f x h = f x (keep_has p xs x h).0

  agree_put : (k w : ℕ) (xs : List Pair) → swip (b w) w ≡ swip (a w) w → Agree a b xs → Agree a b (put k w xs)
  agree_put k w xs e f x h = elim (put_has k w xs x h) [ inl y ↦ subst (λ (z : Pair). swip (b z.word) z.word ≡ swip (a z.word) z.word) (sym y) e | inr y ↦ f x y ]

  -- those of an inner node
  agree_named : (v : Node) → ((c : ℕ) → names_page v c ≡ true → swip (b c) c ≡ swip (a c) c) → is_inner v ≡ true → Agree a b v.pairs
  agree_named v f inner x h = f x.word (and_from (is_inner v) (records.any (λ (s : Span). s.child == x.word) (spans v.pairs v.high)) inner (named_in v.pairs v.high x h))

  pub agree_child : (v : Node) → (is_inner v ≡ true → Agree a b v.pairs) → (c : ℕ) → names_page v c ≡ true → swip (b c) c ≡ swip (a c) c
  agree_child v f c named =
      let s = names_to v c named in
      let x = span_pair v.pairs v.high s.0 s.1.has in
      subst (λ y. swip (b y) y ≡ swip (a y) y) (x.2 ∙ s.2) (f (and_true (is_inner v) (records.any (λ (s : Span). s.child == c) (spans v.pairs v.high)) named).0 x.0 x.1)

-- ## Events

-- an event that changes no frames but those of the pages that it needs hot, and moves no page
pub record IsPlain (e : Event) : Type 0 where
  pub pages : published e ≡ pages_of e
  pub frame : (g : Opening) (s : State) (f : ℕ) → publishes_frame g s e f ≡ any (λ p. in_frame (s.place p) f) (published e)
  pub place : (g : Opening) (s : State) → (happens g s e).place ≡ s.place
  pub saved : (g : Opening) (s : State) → (happens g s e).saved ≡ s.saved

-- what an event of worker w rests on is the same in both states
pub record Rest (s t : State) (w : ℕ) (e : Event) : Type 0 where
  pub worker : t.worker w ≡ s.worker w
  pub alone : (j : ℕ) → is_held_by (s.row j).holder w ≡ true → is_held_by (t.row j).holder w ≡ true
  pub rows : (j : ℕ) → publishes_row e j ≡ true → t.row j ≡ s.row j
  pub near : (p : ℕ) → Has p (published e) → SameNear s t p

-- the event may happen in the second state, and makes the same of its rows
pub record Again (g : Opening) (s t : State) (e : Event) : Type 0 where
  pub met : may g t e ≡ true
  pub rows : (j : ℕ) → publishes_row e j ≡ true → (happens g t e).row j ≡ (happens g s e).row j
  pub pages : (p : ℕ) → Has p (published e) → (happens g t e).page p ≡ (happens g s e).page p
  pub swips : (p : ℕ) → Has p (published e) → is_inner ((happens g s e).page p).node ≡ true → Agree (happens g s e).place (happens g t e).place ((happens g s e).page p).node.pairs

bare : (b : Bool) → (b || (false || false)) ≡ b
bare true = refl
bare false = refl

-- ## Locks

pub plain_lock : (w i : ℕ) (mode : Mode) → IsPlain (Event.Lock w i mode)
plain_lock w i mode = record { pages = refl; frame = λ g s f. refl; place = λ g s. refl; saved = λ g s. refl }

pub plain_unlock : (w i : ℕ) → IsPlain (Event.Unlock w i)
plain_unlock w i = record { pages = refl; frame = λ g s f. refl; place = λ g s. refl; saved = λ g s. refl }

pub again_lock : (g : Opening) (s t : State) (w i : ℕ) (mode : Mode) → may g s (Event.Lock w i mode) ≡ true → Rest s t w (Event.Lock w i mode) → Again g s t (Event.Lock w i mode)
again_lock g s t w i mode ok r =
    let row = r.rows i (eq-eqb i i refl) in record {
      met = rw (r.worker, row) ok;
      rows = λ j h. words.here t.row i (locked (t.row i) w mode) j h ∙ (ap (λ o. locked o w mode) row ∙ sym (words.here s.row i (locked (s.row i) w mode) j h));
      pages = λ p h. absurd h;
      swips = λ p h. absurd h;
    }

pub again_unlock : (g : Opening) (s t : State) (w i : ℕ) → may g s (Event.Unlock w i) ≡ true → Rest s t w (Event.Unlock w i) → Again g s t (Event.Unlock w i)
again_unlock g s t w i ok r =
    let row = r.rows i (eq-eqb i i refl) in record {
      met = rw (r.worker, row) ok;
      rows = λ j h. words.here t.row i (unlocked (t.row i) w (t.worker w).end) j h ∙ ((λ k. unlocked (row k) w (r.worker k).end) ∙ sym (words.here s.row i (unlocked (s.row i) w (s.worker w).end) j h));
      pages = λ p h. absurd h;
      swips = λ p h. absurd h;
    }

-- ## Writes

not_inner : (v : Node) (k : ℕ) → holds v k ≡ true → is_inner v ≡ false
not_inner v k h = go v.live v.level (and_true (v.live && (v.level == 0)) _ h).0
  where
    go : (b : Bool) (n : ℕ) → (b && (n == 0)) ≡ true → (b && ltb 0 n) ≡ false
    go true n e = ap (ltb 0) (eqb-true n 0 e)
    go false n e = refl

pub plain_change : (w p k x : ℕ) → IsPlain (Event.Change w p k x)
plain_change w p k x = record { pages = refl; frame = λ g s f. bare (in_frame (s.place p) f || false); place = λ g s. refl; saved = λ g s. refl }

-- a write leaves the level
wrote : (x : Record) (q : ℕ) (v : Node) → is_inner (records.applied_as records.Kind.Change x q v) ≡ is_inner v
wrote x q v = go (q == x.left.page)
  where
    go : (b : Bool) → is_inner (if b then record { live = v.live; level = v.level; low = v.low; high = v.high; pairs = put x.key x.after v.pairs } else v) ≡ is_inner v
    go true = refl
    go false = refl

-- page q after an entry
touched : (r : Entry) (q : ℕ) (v : Contents) → is_inner (applied_as r.kind r q v.node) ≡ is_inner v.node → is_inner (if touches q r then written r q v else v).node ≡ is_inner v.node
touched r q v h = go (touches q r)
  where
    go : (b : Bool) → is_inner (if b then written r q v else v).node ≡ is_inner v.node
    go true = h
    go false = refl

only : (p q : ℕ) → Has q (p ∷ []) → p ≡ q
only p q (inl e) = sym e
only p q (inr h) = absurd h

pub again_change : (g : Opening) (s t : State) (w p k x : ℕ) → may g s (Event.Change w p k x) ≡ true → Rest s t w (Event.Change w p k x) → Again g s t (Event.Change w p k x)
again_change g s t w p k x ok r = record {
  met = rw (near.place, r.worker, near.page, r.alone (g.row_of k) holder) (rw holder at ok);
  rows = λ j h. absurd (true≢false (sym h));
  pages = λ q h. let n = r.near q h in rw (near.page, n.page, r.worker) refl;
  swips = λ q h inner.
      let kept = touched (write_entry g Kind.Change s w (at_pages s w (s.worker w) (p ∷ [])) p k x) q (s.page q) (wrote (write_record records.Kind.Change g.format (nodes_of s) (gsns_of s) p k x) q (s.page q).node) in
      absurd (true≢false (sym inner ∙ (kept ∙ (ap (λ z. is_inner (s.page z).node) (sym (only p q h)) ∙ not_inner (s.page p).node k leaf))));
}
  where
    near : SameNear s t p
    near = r.near p (inl refl)

    parts : (ltb (length (s.worker w).changes) g.changes && ((s.worker w).is_open && (is_held_by (s.row (g.row_of k)).holder w && may_put g (s.page p).node p k x))) ≡ true
    parts = (and_true (are_hot s (p ∷ [])) (needs g s (Event.Change w p k x)) ok).1

    mine : (is_held_by (s.row (g.row_of k)).holder w ≡ true) × (may_put g (s.page p).node p k x ≡ true)
    mine =
        let a = and_true (ltb (length (s.worker w).changes) g.changes) ((s.worker w).is_open && (is_held_by (s.row (g.row_of k)).holder w && may_put g (s.page p).node p k x)) parts in
        let b = and_true (s.worker w).is_open (is_held_by (s.row (g.row_of k)).holder w && may_put g (s.page p).node p k x) a.1 in
        and_true (is_held_by (s.row (g.row_of k)).holder w) (may_put g (s.page p).node p k x) b.1

    holder : is_held_by (s.row (g.row_of k)).holder w ≡ true
    holder = mine.0

    leaf : holds (s.page p).node k ≡ true
    leaf =
        let rest = leb x g.format.dead && (has_key k (s.page p).node || ltb (length (s.page p).node.pairs) g.format.room) in
        (and_true (holds (s.page p).node k) rest (and_true (ltb p g.format.pages) (holds (s.page p).node k && rest) mine.1).1).0

pub plain_back : (w p : ℕ) → IsPlain (Event.Put_back w p)
plain_back w p = record { pages = refl; frame = λ g s f. bare (in_frame (s.place p) f || false); place = λ g s. placed g s (s.worker w).changes; saved = λ g s. stored g s (s.worker w).changes }
  where
    placed : (g : Opening) (s : State) (cs : List Entry) → (put_back g s w p cs).place ≡ s.place
    placed g s [] = refl
    placed g s (c ∷ cs) = refl

    stored : (g : Opening) (s : State) (cs : List Entry) → (put_back g s w p cs).saved ≡ s.saved
    stored g s [] = refl
    stored g s (c ∷ cs) = refl

pub again_back : (g : Opening) (s t : State) (w p : ℕ) → may g s (Event.Put_back w p) ≡ true → Rest s t w (Event.Put_back w p) → Again g s t (Event.Put_back w p)
again_back g s t w p ok r = record {
  met = rw (near.place, r.worker, near.page) ok;
  rows = λ j h. absurd (true≢false (sym h));
  pages = λ q h. ap (λ z. (put_back g t w p z.changes).page q) r.worker ∙ page q (r.near q h).page (s.worker w).changes;
  swips = λ q h inner. absurd (true≢false (sym inner ∙ (ap (λ z. is_inner ((put_back g s w p (s.worker w).changes).page z).node) (sym (only p q h)) ∙ leaf (s.worker w).changes asked.1)));
}
  where
    near : SameNear s t p
    near = r.near p (inl refl)

    asked : ((s.worker w).is_open ≡ true) × (may_put_back g (s.page p).node p (s.worker w).changes ≡ true)
    asked = and_true (s.worker w).is_open (may_put_back g (s.page p).node p (s.worker w).changes) (and_true (are_hot s (p ∷ [])) (needs g s (Event.Put_back w p)) ok).1

    page : (q : ℕ) → t.page q ≡ s.page q → (cs : List Entry) → (put_back g t w p cs).page q ≡ (put_back g s w p cs).page q
    page q e [] = e
    page q e (c ∷ cs) = rw (near.page, e, r.worker) refl

    leaf : (cs : List Entry) → may_put_back g (s.page p).node p cs ≡ true → is_inner ((put_back g s w p cs).page p).node ≡ false
    leaf [] h = absurd (true≢false (sym h))
    leaf (c ∷ cs) h =
        let here = (and_true (holds (s.page p).node c.key) (has_key c.key (s.page p).node) (and_true (ltb p g.format.pages) (holds (s.page p).node c.key && has_key c.key (s.page p).node) h).1).0 in
        touched (write_entry g Kind.Put_back s w (at_pages s w (s.worker w) (p ∷ [])) p c.key c.before) p (s.page p) (wrote (write_record records.Kind.Put_back g.format (nodes_of s) (gsns_of s) p c.key c.before) p (s.page p).node) ∙ not_inner (s.page p).node c.key here

-- ## Moves of pairs

-- the level of a free page is 0
inner_live : (f : Format) (v : Node) → WellFormed f v → ltb 0 v.level ≡ true → is_inner v ≡ true
inner_live f v w h = cases v.live
    (λ t. and_from v.live (ltb 0 v.level) t h)
    (λ n. absurd (true≢false (sym h ∙ ap (λ z. ltb 0 z.level) (w.other n))))

-- the pairs of page q after an entry
moved : (a b : ℕ → Place) (r : Entry) (q : ℕ) (v : Contents) → (is_inner v.node ≡ true → Agree a b v.node.pairs) → (is_inner (applied_as r.kind r q v.node) ≡ true → Agree a b (applied_as r.kind r q v.node).pairs)
    → is_inner (if touches q r then written r q v else v).node ≡ true → Agree a b (if touches q r then written r q v else v).node.pairs
moved a b r q v before after = go (touches q r)
  where
    go : (t : Bool) → is_inner (if t then written r q v else v).node ≡ true → Agree a b (if t then written r q v else v).node.pairs
    go true = after
    go false = before

-- each page of a list is the same in both states
module _ (s t : State) (w : ℕ) where
  abbrev Same : List ℕ → Type 0
  Same ps = (p : ℕ) → Has p ps → t.page p ≡ s.page p

  touches_same : (a : Worker) (ps : List ℕ) → Same ps → at_pages t w a ps ≡ at_pages s w a ps
  touches_same a [] h = refl
  touches_same a (p ∷ ps) h = let b = touches_same a ps (λ q m. h q (inr m)) in let e = h p (inl refl) in (λ j. touch w (b j) (e j).gsn (e j).last)

  refs_same : (ps : List ℕ) → Same ps → refs_of t ps ≡ refs_of s ps
  refs_same [] h = refl
  refs_same (p ∷ ps) h = let b = refs_same ps (λ q m. h q (inr m)) in let e = h p (inl refl) in (λ j. record { page = p; prev = (e j).gsn } ∷ b j)

  -- a record that changes no value makes the same of them
  moves_same : (kind : Kind) (ps : List ℕ) (x y : Record) → t.worker w ≡ s.worker w → Same ps → y ≡ x → (p : ℕ) → Has p ps → (moves t kind w ps y).page p ≡ (moves s kind w ps x).page p
  moves_same kind ps x y worker h e p named =
      let a : at_pages t w (t.worker w) ps ≡ at_pages s w (s.worker w) ps = touches_same (t.worker w) ps h ∙ ap (λ z. at_pages s w z ps) worker in
      let refs = refs_same ps h in
      let entry : page_entry kind t w (at_pages t w (t.worker w) ps) ps y ≡ page_entry kind s w (at_pages s w (s.worker w) ps) ps x =
      (λ j. record { kind = kind; log = w; txn = (a j).txn; number = suc (a j).clock; key = 0; before = 0; after = 0; need = 0; refs = refs j; record_of = e j }) in
      let page = h p named in (λ j. if touches p (entry j) then written (entry j) p (page j) else page j)

-- ## A split

pub plain_split : (w l r q i : ℕ) → IsPlain (Event.Split w l r q i)
plain_split w l r q i = record { pages = refl; frame = λ g s f. bare (any (λ p. in_frame (s.place p) f) (l ∷ r ∷ q ∷ [])); place = λ g s. refl; saved = λ g s. refl }

-- what a split makes of a page, by whether it is the left one, the right one, the parent
abbrev parted : Record → Node → Bool → Bool → Bool → Node
parted x v l r q =
    if l then record { live = v.live; level = v.level; low = v.low; high = x.sep; pairs = below x.sep v.pairs }
    else (if r then record { live = true; level = x.level; low = x.sep; high = x.high; pairs = x.pairs }
    else (if q then record { live = v.live; level = v.level; low = v.low; high = v.high; pairs = put x.sep x.right.page v.pairs }
    else v))

split_agree : (a b : ℕ → Place) (x : Record) (p : ℕ) (v : Node) → (is_inner v ≡ true → Agree a b v.pairs) → (ltb 0 x.level ≡ true → Agree a b x.pairs) → swip (b x.right.page) x.right.page ≡ swip (a x.right.page) x.right.page
    → is_inner (records.applied_as records.Kind.Split x p v) ≡ true → Agree a b (records.applied_as records.Kind.Split x p v).pairs
split_agree a b x p v old right named = go (p == x.left.page) (p == x.right.page) (p == x.parent.page)
  where
    go : (l r q : Bool) → is_inner (parted x v l r q) ≡ true → Agree a b (parted x v l r q).pairs
    go true r q h = agree_keep a b (λ k. ltb k x.sep) v.pairs (old h)
    go false true q h = right h
    go false false true h = agree_put a b x.sep x.right.page v.pairs named (old h)
    go false false false h = old h

pub again_split : (g : Opening) (s t : State) (w l r q i : ℕ) → WellFormed g.format (s.page l).node → may g s (Event.Split w l r q i) ≡ true → Rest s t w (Event.Split w l r q i) → Again g s t (Event.Split w l r q i)
again_split g s t w l r q i formed ok rest = record {
  met = rw (left.place, right.place, parent.place, rest.worker, fits) ok;
  rows = λ j h. absurd (true≢false (sym h));
  pages = moves_same s t w Kind.Split (l ∷ r ∷ q ∷ []) (split_record (nodes_of s) (gsns_of s) l r q i) (split_record (nodes_of t) (gsns_of t) l r q i) rest.worker (λ p h. (rest.near p h).page) record_same;
  swips = λ p h. let n = rest.near p h in
      let x = split_record (nodes_of s) (gsns_of s) l r q i in
      let old = agree_named s.place t.place (s.page p).node n.swips in
      moved s.place t.place (page_entry Kind.Split s w (at_pages s w (s.worker w) (l ∷ r ∷ q ∷ [])) (l ∷ r ∷ q ∷ []) x) p (s.page p) old
      (split_agree s.place t.place x p (s.page p).node old
      (λ up. agree_keep s.place t.place (λ k. leb (key_at i (s.page l).node.pairs) k) (s.page l).node.pairs (agree_named s.place t.place (s.page l).node left.swips (inner_live g.format (s.page l).node formed up)))
      (ap (λ z. swip z r) right.place));
}
  where
    left : SameNear s t l
    left = rest.near l (inl refl)

    right : SameNear s t r
    right = rest.near r (inr (inl refl))

    parent : SameNear s t q
    parent = rest.near q (inr (inr (inl refl)))

    fits : may_split g (nodes_of t) l r q i ≡ may_split g (nodes_of s) l r q i
    fits = (λ j. (length (left.page j).node.pairs == g.format.room) && (ltb r g.format.pages && (not (right.page j).node.live && (ltb q g.format.pages && (
        names_page (parent.page j).node l && (ltb (length (parent.page j).node.pairs) g.format.room && (ltb 0 i && ltb i (length (left.page j).node.pairs))))))))

    record_same : split_record (nodes_of t) (gsns_of t) l r q i ≡ split_record (nodes_of s) (gsns_of s) l r q i
    record_same = (λ j. record {
      kind = records.Kind.Split;
      left = record { page = l; prev = (left.page j).gsn };
      right = record { page = r; prev = (right.page j).gsn };
      parent = record { page = q; prev = (parent.page j).gsn };
      key = 0;
      before = 0;
      after = 0;
      sep = key_at i (left.page j).node.pairs;
      high = (left.page j).node.high;
      level = (left.page j).node.level;
      pairs = onward (key_at i (left.page j).node.pairs) (left.page j).node.pairs;
      keys = [];
    })

-- ## A lift

pub plain_lift : (w c : ℕ) → IsPlain (Event.Lift w c)
plain_lift w c = record { pages = refl; frame = λ g s f. bare (any (λ p. in_frame (s.place p) f) (0 ∷ c ∷ [])); place = λ g s. refl; saved = λ g s. refl }

-- what a lift makes of a page, by whether it is page 0, the new one
abbrev raised : Record → Node → Bool → Bool → Node
raised x v z r =
    if z then record { live = v.live; level = suc x.level; low = v.low; high = v.high; pairs = record { key = 0; word = x.right.page } ∷ [] }
    else (if r then record { live = true; level = x.level; low = 0; high = x.high; pairs = x.pairs } else v)

lift_agree : (a b : ℕ → Place) (x : Record) (p : ℕ) (v : Node) → (is_inner v ≡ true → Agree a b v.pairs) → (ltb 0 x.level ≡ true → Agree a b x.pairs) → swip (b x.right.page) x.right.page ≡ swip (a x.right.page) x.right.page
    → is_inner (records.applied_as records.Kind.Lift x p v) ≡ true → Agree a b (records.applied_as records.Kind.Lift x p v).pairs
lift_agree a b x p v old right named = go (p == 0) (p == x.right.page)
  where
    go : (z r : Bool) → is_inner (raised x v z r) ≡ true → Agree a b (raised x v z r).pairs
    go true r h = agree_put a b 0 x.right.page [] named (λ y none. absurd none)
    go false true h = right h
    go false false h = old h

pub again_lift : (g : Opening) (s t : State) (w c : ℕ) → WellFormed g.format (s.page 0).node → may g s (Event.Lift w c) ≡ true → Rest s t w (Event.Lift w c) → Again g s t (Event.Lift w c)
again_lift g s t w c formed ok rest = record {
  met = rw (root.place, child.place, rest.worker, fits) ok;
  rows = λ j h. absurd (true≢false (sym h));
  pages = moves_same s t w Kind.Lift (0 ∷ c ∷ []) (lift_record (nodes_of s) (gsns_of s) c) (lift_record (nodes_of t) (gsns_of t) c) rest.worker (λ p h. (rest.near p h).page) record_same;
  swips = λ p h. let n = rest.near p h in
      let x = lift_record (nodes_of s) (gsns_of s) c in
      let old = agree_named s.place t.place (s.page p).node n.swips in
      moved s.place t.place (page_entry Kind.Lift s w (at_pages s w (s.worker w) (0 ∷ c ∷ [])) (0 ∷ c ∷ []) x) p (s.page p) old
      (lift_agree s.place t.place x p (s.page p).node old
      (λ up. agree_named s.place t.place (s.page 0).node root.swips (inner_live g.format (s.page 0).node formed up))
      (ap (λ z. swip z c) child.place));
}
  where
    root : SameNear s t 0
    root = rest.near 0 (inl refl)

    child : SameNear s t c
    child = rest.near c (inr (inl refl))

    fits : may_lift g (nodes_of t) c ≡ may_lift g (nodes_of s) c
    fits = (λ j. (length (root.page j).node.pairs == g.format.room) && (ltb c g.format.pages && (not (child.page j).node.live && ltb (root.page j).node.level g.format.levels)))

    record_same : lift_record (nodes_of t) (gsns_of t) c ≡ lift_record (nodes_of s) (gsns_of s) c
    record_same = (λ j. record {
      kind = records.Kind.Lift;
      left = record { page = 0; prev = (root.page j).gsn };
      right = record { page = c; prev = (child.page j).gsn };
      parent = records.nowhere;
      key = 0;
      before = 0;
      after = 0;
      sep = 0;
      high = (root.page j).node.high;
      level = (root.page j).node.level;
      pairs = (root.page j).node.pairs;
      keys = [];
    })

-- ## A join

pub plain_join : (w l r q : ℕ) → IsPlain (Event.Join w l r q)
plain_join w l r q = record { pages = refl; frame = λ g s f. bare (any (λ p. in_frame (s.place p) f) (l ∷ r ∷ q ∷ [])); place = λ g s. refl; saved = λ g s. refl }

-- what a join makes of a page, by whether it is the left one, the right one, the parent
abbrev pub joined : Record → Node → Bool → Bool → Bool → Node
joined x v l r q =
    if l then record { live = v.live; level = v.level; low = v.low; high = x.high; pairs = (v.pairs ++ x.pairs) }
    else (if r then free
    else (if q then record { live = v.live; level = v.level; low = v.low; high = v.high; pairs = without x.sep v.pairs }
    else v))

join_agree : (a b : ℕ → Place) (x : Record) (p : ℕ) (v : Node) → (is_inner v ≡ true → Agree a b v.pairs) → (p ≡ x.left.page → is_inner v ≡ true → Agree a b x.pairs)
    → is_inner (records.applied_as records.Kind.Join x p v) ≡ true → Agree a b (records.applied_as records.Kind.Join x p v).pairs
join_agree a b x p v old right = go (p == x.left.page) refl (p == x.right.page) (p == x.parent.page)
  where
    go : (l : Bool) → (p == x.left.page) ≡ l → (r q : Bool) → is_inner (joined x v l r q) ≡ true → Agree a b (joined x v l r q).pairs
    go true e r q h = λ y has. elim (has_append y v.pairs x.pairs has) [ inl m ↦ old h y m | inr m ↦ right (eqb-true p x.left.page e) h y m ]
    go false e true q h = absurd (true≢false (sym h))
    go false e false true h = agree_keep a b (λ k. not (k == x.sep)) v.pairs (old h)
    go false e false false h = old h

-- where the left page is inner, so is the right one
pub again_join : (g : Opening) (s t : State) (w l r q : ℕ) → (is_inner (s.page l).node ≡ true → is_inner (s.page r).node ≡ true) → may g s (Event.Join w l r q) ≡ true → Rest s t w (Event.Join w l r q) → Again g s t (Event.Join w l r q)
again_join g s t w l r q level ok rest = record {
  met = rw (left.place, right.place, parent.place, rest.worker, fits) ok;
  rows = λ j h. absurd (true≢false (sym h));
  pages = moves_same s t w Kind.Join (l ∷ r ∷ q ∷ []) (join_record (nodes_of s) (gsns_of s) l r q) (join_record (nodes_of t) (gsns_of t) l r q) rest.worker (λ p h. (rest.near p h).page) record_same;
  swips = λ p h. let n = rest.near p h in
      let x = join_record (nodes_of s) (gsns_of s) l r q in
      let old = agree_named s.place t.place (s.page p).node n.swips in
      moved s.place t.place (page_entry Kind.Join s w (at_pages s w (s.worker w) (l ∷ r ∷ q ∷ [])) (l ∷ r ∷ q ∷ []) x) p (s.page p) old
      (join_agree s.place t.place x p (s.page p).node old
      (λ is up. agree_named s.place t.place (s.page r).node right.swips (level (subst (λ z. is_inner (s.page z).node ≡ true) is up))));
}
  where
    left : SameNear s t l
    left = rest.near l (inl refl)

    right : SameNear s t r
    right = rest.near r (inr (inl refl))

    parent : SameNear s t q
    parent = rest.near q (inr (inr (inl refl)))

    fits : may_join g (nodes_of t) l r q ≡ may_join g (nodes_of s) l r q
    fits = (λ j. ltb q g.format.pages && (names_page (parent.page j).node l && (names_page (parent.page j).node r && (((left.page j).node.high == (right.page j).node.low)
        && leb (length (left.page j).node.pairs + length (right.page j).node.pairs) g.joined))))

    record_same : join_record (nodes_of t) (gsns_of t) l r q ≡ join_record (nodes_of s) (gsns_of s) l r q
    record_same = (λ j. record {
      kind = records.Kind.Join;
      left = record { page = l; prev = (left.page j).gsn };
      right = record { page = r; prev = (right.page j).gsn };
      parent = record { page = q; prev = (parent.page j).gsn };
      key = 0;
      before = 0;
      after = 0;
      sep = (right.page j).node.low;
      high = (right.page j).node.high;
      level = 0;
      pairs = (right.page j).node.pairs;
      keys = [];
    })

-- ## A drop

pub plain_drop : (w c : ℕ) → IsPlain (Event.Drop w c)
plain_drop w c = record { pages = refl; frame = λ g s f. bare (any (λ p. in_frame (s.place p) f) (0 ∷ c ∷ [])); place = λ g s. refl; saved = λ g s. refl }

-- what a drop makes of a page, by whether it is page 0, the child
abbrev pub dropped : Record → Node → Bool → Bool → Node
dropped x v z r =
    if z then record { live = v.live; level = x.level; low = v.low; high = v.high; pairs = x.pairs }
    else (if r then free else v)

drop_agree : (a b : ℕ → Place) (x : Record) (p : ℕ) (v : Node) → (is_inner v ≡ true → Agree a b v.pairs) → (ltb 0 x.level ≡ true → Agree a b x.pairs)
    → is_inner (records.applied_as records.Kind.Drop x p v) ≡ true → Agree a b (records.applied_as records.Kind.Drop x p v).pairs
drop_agree a b x p v old child = go (p == 0) (p == x.right.page)
  where
    go : (z r : Bool) → is_inner (dropped x v z r) ≡ true → Agree a b (dropped x v z r).pairs
    go true r h = child (and_true v.live (ltb 0 x.level) h).1
    go false true h = absurd (true≢false (sym h))
    go false false h = old h

pub again_drop : (g : Opening) (s t : State) (w c : ℕ) → WellFormed g.format (s.page c).node → may g s (Event.Drop w c) ≡ true → Rest s t w (Event.Drop w c) → Again g s t (Event.Drop w c)
again_drop g s t w c formed ok rest = record {
  met = rw (root.place, child.place, rest.worker, fits) ok;
  rows = λ j h. absurd (true≢false (sym h));
  pages = moves_same s t w Kind.Drop (0 ∷ c ∷ []) (drop_record (nodes_of s) (gsns_of s) c) (drop_record (nodes_of t) (gsns_of t) c) rest.worker (λ p h. (rest.near p h).page) record_same;
  swips = λ p h. let n = rest.near p h in
      let x = drop_record (nodes_of s) (gsns_of s) c in
      let old = agree_named s.place t.place (s.page p).node n.swips in
      moved s.place t.place (page_entry Kind.Drop s w (at_pages s w (s.worker w) (0 ∷ c ∷ [])) (0 ∷ c ∷ []) x) p (s.page p) old
      (drop_agree s.place t.place x p (s.page p).node old
      (λ up. agree_named s.place t.place (s.page c).node child.swips (inner_live g.format (s.page c).node formed up)));
}
  where
    root : SameNear s t 0
    root = rest.near 0 (inl refl)

    child : SameNear s t c
    child = rest.near c (inr (inl refl))

    fits : may_drop (nodes_of t) c ≡ may_drop (nodes_of s) c
    fits = (λ j. ltb 0 (root.page j).node.level && is_single (root.page j).node.pairs c)

    record_same : drop_record (nodes_of t) (gsns_of t) c ≡ drop_record (nodes_of s) (gsns_of s) c
    record_same = (λ j. record {
      kind = records.Kind.Drop;
      left = record { page = 0; prev = (root.page j).gsn };
      right = record { page = c; prev = (child.page j).gsn };
      parent = records.nowhere;
      key = 0;
      before = 0;
      after = 0;
      sep = 0;
      high = 0;
      level = (child.page j).node.level;
      pairs = (child.page j).node.pairs;
      keys = [];
    })

-- ## A purge

pub plain_purge : (w p : ℕ) (keys : List ℕ) → IsPlain (Event.Purge w p keys)
plain_purge w p keys = record { pages = refl; frame = λ g s f. bare (in_frame (s.place p) f || false); place = λ g s. refl; saved = λ g s. refl }

-- a purge leaves the level
purged : (x : Record) (q : ℕ) (v : Node) → is_inner (records.applied_as records.Kind.Purge x q v) ≡ is_inner v
purged x q v = go (q == x.left.page)
  where
    go : (b : Bool) → is_inner (if b then record { live = v.live; level = v.level; low = v.low; high = v.high; pairs = keep (λ k. not (is_in k x.keys)) v.pairs } else v) ≡ is_inner v
    go true = refl
    go false = refl

-- its need hangs on lock rows that it does not publish: the keys are settled in the second state too
pub again_purge : (g : Opening) (s t : State) (w p : ℕ) (keys : List ℕ) → may g s (Event.Purge w p keys) ≡ true → all_keys (λ k. is_settled g t k) keys ≡ true → Rest s t w (Event.Purge w p keys) → Again g s t (Event.Purge w p keys)
again_purge g s t w p keys ok settled rest = record {
  met = rw (near.place, rest.worker, fits, settled ∙ sym still) ok;
  rows = λ j h. absurd (true≢false (sym h));
  pages = moves_same s t w Kind.Purge (p ∷ []) (purge_record (gsns_of s) p keys) (purge_record (gsns_of t) p keys) rest.worker (λ q h. (rest.near q h).page) record_same;
  swips = λ q h inner.
      let kept = touched (page_entry Kind.Purge s w (at_pages s w (s.worker w) (p ∷ [])) (p ∷ []) (purge_record (gsns_of s) p keys)) q (s.page q) (purged (purge_record (gsns_of s) p keys) q (s.page q).node) in
      absurd (true≢false (sym inner ∙ (kept ∙ (ap (λ z. is_inner (s.page z).node) (sym (only p q h)) ∙ flat))));
}
  where
    near : SameNear s t p
    near = rest.near p (inl refl)

    asked : (may_purge g (nodes_of s) p keys && all_keys (λ k. is_settled g s k) keys) ≡ true
    asked = (and_true (s.worker w).is_open (may_purge g (nodes_of s) p keys && all_keys (λ k. is_settled g s k) keys) (and_true (are_hot s (p ∷ [])) (needs g s (Event.Purge w p keys)) ok).1).1

    still : all_keys (λ k. is_settled g s k) keys ≡ true
    still = (and_true (may_purge g (nodes_of s) p keys) (all_keys (λ k. is_settled g s k) keys) asked).1

    flat : is_inner (s.page p).node ≡ false
    flat =
        let a = (and_true (may_purge g (nodes_of s) p keys) (all_keys (λ k. is_settled g s k) keys) asked).0 in
        let b = and_true (ltb p g.format.pages) _ a in
        let d = and_true (s.page p).node.live _ b.1 in
        let e = and_true ((s.page p).node.level == 0) _ d.1 in
        bottom (s.page p).node.live (s.page p).node.level e.0
      where
        bottom : (a : Bool) (n : ℕ) → (n == 0) ≡ true → (a && ltb 0 n) ≡ false
        bottom true n e = ap (ltb 0) (eqb-true n 0 e)
        bottom false n e = refl

    fits : may_purge g (nodes_of t) p keys ≡ may_purge g (nodes_of s) p keys
    fits = (λ j. ltb p g.format.pages && ((near.page j).node.live && (((near.page j).node.level == 0) && all_keys (λ k. is_dead g.format (Rattle.page_model.specs.Pairs.find k (near.page j).node.pairs)) keys)))

    record_same : purge_record (gsns_of t) p keys ≡ purge_record (gsns_of s) p keys
    record_same = (λ j. record {
      kind = records.Kind.Purge;
      left = record { page = p; prev = (near.page j).gsn };
      right = records.nowhere;
      parent = records.nowhere;
      key = 0;
      before = 0;
      after = 0;
      sep = 0;
      high = 0;
      level = 0;
      pairs = [];
      keys = keys;
    })
