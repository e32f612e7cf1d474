-- What a join has appended and staged.
use Rattle.std.proofs.Common.{◌≡◌, inl, inr, ℕ, suc, true, List, [], ◌∷◌, ◌++◌, refl, sym, ap, subst, ◌∙◌, true≢false}
use Rattle.map_model.specs.Lists.{Has}
use Rattle.map_model.proofs.ListLemmas.{upd_same}
use Rattle.page_model.specs.Page as stored
use Rattle.page_model.specs.Records as records
use Rattle.disk_image.specs.image_model.Entries.{Entry, Kind, Contents}
use Rattle.btree_descent.specs.core_state.States.{Place, State, Worker}
use Rattle.btree_descent.specs.core_state.Events as happening
use Rattle.btree_descent.specs.core_state.Needs as core
use Rattle.btree_descent.specs.core_state.Openings.{Opening}
use Rattle.btree_descent.specs.core_state.Steps.{at_pages, happens, touch}
use Rattle.btree_descent.specs.row_words.declared.event.Event.{Event}
use Rattle.btree_descent.specs.row_words.declared.event.Event.TheVariants.{Join}
use Rattle.btree_descent.specs.row_words.declared.given.Given.{Given}
use Rattle.btree_descent.specs.row_words.Openings.{opening}
use Rattle.btree_descent.specs.rows_trait.declared.view.View.{View}
use Rattle.btree_descent.specs.rows_trait.Views.{Shape, AreApart, after_all, state, may}
use Rattle.btree_descent.proofs.lean_proto.Again.{Rest, again_join}
use Rattle.btree_descent.proofs.lean_proto.Near.{SameNear}
use Rattle.btree_descent.proofs.lean_proto.Owns.{own_after}
use Rattle.btree_descent.specs.lean_proto.Kept.{OwnKept}
use Rattle.disk_image.specs.log_record.Model.{model_pairs}
use Rattle.disk_image.specs.log_record.declared.record.Record.{Record}
use Rattle.btree_descent.specs.draw_trait.Clocks.{Clock, touched, drawn}
use Rattle.disk_image.specs.Records.{entry_of}
use Rattle.btree_descent.specs.Known.{IsSound}
use Rattle.btree_descent.specs.Puts.{DrawsFor, clock_in}
use Rattle.btree_smo.specs.declared.join.Joining.{Joining}
use Rattle.btree_smo.specs.Outcomes.{Missed}
use Rattle.btree_smo.specs.Joins.{join_entry, Joined, NotJoined}
use Rattle.held_rows.specs.Rows.{Waited, Stood, HoldsThree}
use Rattle.held_rows.specs.Publishing.{Went}
use Rattle.btree_smo.specs.Inside.Joining.{IsJoining, IsRecord}
use Rattle.held_rows.specs.Waits.{waited_apart}
use Rattle.btree_smo.proofs.Waiting.{near_wait}
use Rattle.btree_smo.proofs.Reading.{reads}
use Rattle.btree_smo.proofs.Changing.{was_so, changed_done, change_unstaged}
use Rattle.btree_smo.proofs.JoinedPages.{alike}

-- ## The entry

-- of a worker in this state, and of three pages with these contents
abbrev entry_in : Worker → Contents → Contents → Contents → (w l r q : ℕ) → Entry
entry_in a left right parent w l r q =
    let b = touch w (touch w (touch w a parent.gsn parent.last) right.gsn right.last) left.gsn left.last in
    record { kind = Kind.Join; log = w; txn = b.txn; number = suc b.clock; key = 0; before = 0; after = 0; need = 0; refs = record { page = l; prev = left.gsn } ∷ record { page = r; prev = right.gsn } ∷ record { page = q; prev = parent.gsn } ∷ []; record_of = record { kind = records.Kind.Join; left = record { page = l; prev = left.gsn }; right = record { page = r; prev = right.gsn }; parent = record { page = q; prev = parent.gsn }; key = 0; before = 0; after = 0; sep = right.node.low; high = right.node.high; level = 0; pairs = right.node.pairs; keys = [] } }

entry_is : (s : State) (w l r q : ℕ) → join_entry w l r q s ≡ entry_in (s.worker w) (s.page l) (s.page r) (s.page q) w l r q
entry_is s w l r q = refl

-- the clock after it
clock_after : (g : Opening) (s : State) (w l r q : ℕ) → clock_in ((happens g s (happening.Event.Join w l r q)).worker w) ≡ drawn (clock_in (at_pages s w (s.worker w) (l ∷ r ∷ q ∷ [])))
clock_after g s w l r q = ap clock_in (upd_same s.worker w _ w refl)

-- what a draw has drawn for the three pages
abbrev ticked : (lg : ℕ) → Clock → Joining → Clock
ticked lg d l = drawn (touched lg (touched lg (touched lg d l.parent.gsn l.parent.last_log) l.right.gsn l.right.last_log) l.left.gsn l.left.last_log)

module _ {z : Shape} {u : View} {worker a b d : ℕ} (l : Joining) (t : HoldsThree z u a b d) (it : IsJoining u worker a b d l) (actor : may z.alone u worker ≡ true) (sound : IsSound u.given) where
  abbrev s : State
  s = (state u).core

  abbrev p : ℕ
  p = l.left.number

  abbrev r : ℕ
  r = l.right.number

  abbrev q : ℕ
  q = l.parent.number

  -- the draw's clock
  draws_clock : (lg tx : ℕ) (c : Clock) (n : ℕ) → DrawsFor u worker lg tx c n → ticked lg c l ≡ drawn (clock_in (at_pages s worker (s.worker worker) (p ∷ r ∷ q ∷ [])))
  draws_clock lg tx c n k =
      let x = reads it.left in
      let y = reads it.right in
      let w = reads it.parent in
      (λ i. drawn (touched (k.log i) (touched (k.log i) (touched (k.log i) (k.clock i) (w.gsn i) (w.last i)) (y.gsn i) (y.last i)) (x.gsn i) (x.last i)))

  pub number_is : (lg tx : ℕ) (c e : Clock) (n number : ℕ) → DrawsFor u worker lg tx c n → e ≡ ticked lg c l → number ≡ e.clock → number ≡ (join_entry worker p r q s).number
  number_is lg tx c e n number k is num = num ∙ ap (λ (x : Clock). x.clock) (is ∙ draws_clock lg tx c n k)

  -- the record is that of the entry
  record_is : (lg tx : ℕ) (c : Clock) (n number : ℕ) (rec : Record) → DrawsFor u worker lg tx c n → number ≡ (join_entry worker p r q s).number → IsRecord tx number l rec → entry_of worker rec ≡ join_entry worker p r q s
  record_is lg tx c n number rec k num is =
      let x = reads it.left in
      let y = reads it.right in
      let w = reads it.parent in
      let pairs : model_pairs is.pairs ≡ (s.page r).node.pairs = is.pairs_are ∙ ap (λ (m : stored.Page). m.node.pairs) it.image in
      let txn : rec.txn ≡ (s.worker worker).txn = is.txn_is ∙ k.txn in
      let gsn : rec.gsn ≡ (join_entry worker p r q s).number = is.number_is ∙ num in
      (λ i. entry_of worker (record { txn = txn i; gsn = gsn i; body = is.body_is i }))
      ∙ ((λ i. record {
        kind = Kind.Join;
        log = worker;
        txn = (s.worker worker).txn;
        number = (join_entry worker p r q s).number;
        key = 0;
        before = 0;
        after = 0;
        need = 0;
        refs = record { page = p; prev = x.gsn i } ∷ record { page = r; prev = y.gsn i } ∷ record { page = q; prev = w.gsn i } ∷ [];
        record_of = record { kind = records.Kind.Join; left = record { page = p; prev = x.gsn i }; right = record { page = r; prev = y.gsn i }; parent = record { page = q; prev = w.gsn i }; key = 0; before = 0; after = 0; sep = y.low i; high = y.high i; level = 0; pairs = pairs i; keys = [] };
      }) ∙ sym (entry_is s worker p r q))

  -- ## At the moment of the publish

  module _ (between : List Event) (quiet : z.alone ≡ true → between ≡ []) (apart : AreApart u (state u) between) where
    abbrev at : View
    at = record u { seen = u.seen ++ between }

    abbrev k : Waited z.alone u at
    k = waited_apart z u between quiet apart

    own : OwnKept u at worker
    own = own_after z.alone u at worker actor k.ran

    near_left : SameNear s (state at).core p
    near_left = near_wait a p k t.first.frames t.first.mine it.left.stands.below it.left.stands.hot

    near_right : SameNear s (state at).core r
    near_right = near_wait b r k t.second.frames t.second.mine it.right.stands.below it.right.stands.hot

    near_parent : SameNear s (state at).core q
    near_parent = near_wait d q k t.third.frames t.third.mine it.parent.stands.below it.parent.stands.hot

    rest : Rest s (state at).core worker (happening.Event.Join worker p r q)
    rest = record {
      worker = own.worker;
      alone = own.alone;
      rows = λ j h. absurd (true≢false (sym h));
      near = near;
    }
      where
        near : (x : ℕ) → Has x (p ∷ r ∷ q ∷ []) → SameNear s (state at).core x
        near x (inl e) = subst (SameNear s (state at).core) (sym e) near_left
        near x (inr (inl e)) = subst (SameNear s (state at).core) (sym e) near_right
        near x (inr (inr (inl e))) = subst (SameNear s (state at).core) (sym e) near_parent
        near x (inr (inr (inr h))) = absurd h

    pub met_then : core.may (opening u.given) (state at).core (happening.Event.Join worker p r q) ≡ true
    met_then = (again_join (opening u.given) s (state at).core worker p r q (λ h. sym (alike l t it actor sound) ∙ h) it.met rest).met

    pub entry_then : join_entry worker p r q s ≡ join_entry worker p r q (state at).core
    entry_then = (λ i. entry_in (sym own.worker i) (sym near_left.page i) (sym near_right.page i) (sym near_parent.page i) worker p r q)

    pub clock_then : drawn (clock_in (at_pages s worker (s.worker worker) (p ∷ r ∷ q ∷ []))) ≡ clock_in ((happens (opening u.given) (state at).core (happening.Event.Join worker p r q)).worker worker)
    clock_then =
        (λ i. drawn (clock_in (touch worker (touch worker (touch worker (sym own.worker i) (sym near_parent.page i).gsn (sym near_parent.page i).last) (sym near_right.page i).gsn (sym near_right.page i).last) (sym near_left.page i).gsn (sym near_left.page i).last)))
        ∙ sym (clock_after (opening u.given) (state at).core worker p r q)

    pub left_then : (state at).core.place p ≡ Place.Hot a
    left_then = near_left.place ∙ it.left.stands.hot

    pub right_then : (state at).core.place r ≡ Place.Hot b
    right_then = near_right.place ∙ it.right.stands.hot

    pub parent_then : (state at).core.place q ≡ Place.Hot d
    parent_then = near_parent.place ∙ it.parent.stands.hot

-- ## The whole call

pub joined_done : {z : Shape} {v u w : View} {worker a b d : ℕ} (l : Joining) (t : HoldsThree z u a b d) → IsJoining u worker a b d l → may z.alone u worker ≡ true → IsSound u.given → Stood z.alone v u → Went z.alone u (Join worker l.left.number l.right.number l.parent.number) w
    → (lg tx : ℕ) (c e : Clock) (n number : ℕ) (rs now : List Record) → DrawsFor u worker lg tx c n → e ≡ ticked lg c l → number ≡ e.clock
    → (rec : Record) × (now ≡ rec ∷ rs) × IsRecord tx number l rec → Joined z.alone worker a b d v rs w e now
unfolding changed_done
joined_done {z} {v} {u} {w} {worker} {a} {b} {d} l t it actor sound stood went lg tx c e n number rs now dr clock num staged =
    let p = l.left.number in
    let r = l.right.number in
    let q = l.parent.number in
    let past = u.seen ++ went.between in
    let given : w.given ≡ u.given = went.ran.given in
    let whole = number_is l t it actor sound lg tx c e n number dr clock num in
    let same = record_is l t it actor sound lg tx c n number staged.0 dr whole staged.2 ∙ entry_then l t it actor sound went.between went.quiet went.apart in
    let ticks = clock ∙ (draws_clock l t it actor sound lg tx c n dr ∙ clock_then l t it actor sound went.between went.quiet went.apart) in record {
      left = p;
      right = r;
      parent = q;
      change = changed_done worker (Join worker p r q) (join_entry worker p r q) (p ∷ r ∷ q ∷ []) rs now e stood went (met_then l t it actor sound went.between went.quiet went.apart) (staged.0, staged.1, same) ticks;
      left_hot = subst (λ (g : Given). (after_all g past).core.place p ≡ Place.Hot a) (sym given) (left_then l t it actor sound went.between went.quiet went.apart);
      right_hot = subst (λ (g : Given). (after_all g past).core.place r ≡ Place.Hot b) (sym given) (right_then l t it actor sound went.between went.quiet went.apart);
      parent_hot = subst (λ (g : Given). (after_all g past).core.place q ≡ Place.Hot d) (sym given) (parent_then l t it actor sound went.between went.quiet went.apart);
    }

pub not_joined : {z : Shape} {v u w : View} {worker a b d : ℕ} (l : Joining) (t : HoldsThree z u a b d) → IsJoining u worker a b d l → may z.alone u worker ≡ true → IsSound u.given → Stood z.alone v u → Missed z.alone u w
    → (lg tx : ℕ) (c e : Clock) (n : ℕ) (rs now : List Record) → DrawsFor u worker lg tx c n → e ≡ ticked lg c l → now ≡ rs → NotJoined z.alone worker a b d v rs w e now
unfolding change_unstaged was_so
not_joined {z} {v} {u} {w} {worker} {a} {b} {d} l t it actor sound stood missed lg tx c e n rs now dr clock same =
    let p = l.left.number in
    let r = l.right.number in
    let q = l.parent.number in record {
      left = p;
      right = r;
      parent = q;
      refused = change_unstaged worker (Join worker p r q) (join_entry worker p r q) (p ∷ r ∷ q ∷ []) rs now e stood missed it.met same (clock ∙ draws_clock l t it actor sound lg tx c n dr);
      left_hot = subst (λ (g : Given). (after_all g u.seen).core.place p ≡ Place.Hot a) (sym missed.ran.given) it.left.stands.hot;
      right_hot = subst (λ (g : Given). (after_all g u.seen).core.place r ≡ Place.Hot b) (sym missed.ran.given) it.right.stands.hot;
      parent_hot = subst (λ (g : Given). (after_all g u.seen).core.place q ≡ Place.Hot d) (sym missed.ran.given) it.parent.stands.hot;
    }
