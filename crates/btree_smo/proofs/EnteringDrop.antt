-- What a drop has appended and staged.
use Rattle.std.proofs.Common.{◌≡◌, inl, inr, ℕ, suc, true, List, [], ◌∷◌, ◌++◌, refl, sym, ap, subst, ◌∙◌, true≢false}
use Rattle.map_model.specs.Lists.{Has}
use Rattle.map_model.proofs.ListLemmas.{upd_same}
use Rattle.page_model.specs.Page as stored
use Rattle.page_model.specs.Records as records
use Rattle.disk_image.specs.image_model.Entries.{Entry, Kind, Contents}
use Rattle.btree_descent.specs.core_state.States.{Place, State, Worker}
use Rattle.btree_descent.specs.core_state.Events as happening
use Rattle.btree_descent.specs.core_state.Needs as core
use Rattle.btree_descent.specs.core_state.Openings.{Opening}
use Rattle.btree_descent.specs.core_state.Steps.{at_pages, happens, touch}
use Rattle.btree_descent.specs.row_words.declared.event.Event.{Event}
use Rattle.btree_descent.specs.row_words.declared.event.Event.TheVariants.{Drop}
use Rattle.btree_descent.specs.row_words.declared.given.Given.{Given}
use Rattle.btree_descent.specs.row_words.Openings.{opening}
use Rattle.btree_descent.specs.rows_trait.declared.view.View.{View}
use Rattle.btree_descent.specs.rows_trait.Views.{Shape, AreApart, after_all, state, may}
use Rattle.btree_descent.proofs.lean_proto.Again.{Rest, again_drop}
use Rattle.btree_descent.proofs.lean_proto.Near.{SameNear}
use Rattle.btree_descent.proofs.lean_proto.Owns.{own_after}
use Rattle.btree_descent.specs.lean_proto.Kept.{OwnKept}
use Rattle.disk_image.specs.log_record.Model.{model_pairs}
use Rattle.disk_image.specs.log_record.declared.record.Record.{Record}
use Rattle.btree_descent.specs.draw_trait.Clocks.{Clock, touched, drawn}
use Rattle.disk_image.specs.Records.{entry_of}
use Rattle.btree_descent.specs.Known.{IsSound}
use Rattle.btree_descent.specs.Puts.{DrawsFor, clock_in}
use Rattle.btree_smo.specs.declared.drop_root.Dropping.{Dropping}
use Rattle.btree_smo.specs.Outcomes.{Missed}
use Rattle.btree_smo.specs.Drops.{drop_entry, Dropped, NotDropped}
use Rattle.held_rows.specs.Rows.{Waited, Stood, HoldsTwo}
use Rattle.held_rows.specs.Publishing.{Went}
use Rattle.btree_smo.specs.Inside.Dropping.{IsDropping, IsRecord}
use Rattle.held_rows.specs.Waits.{waited_apart}
use Rattle.btree_smo.proofs.Waiting.{near_wait}
use Rattle.btree_smo.proofs.Reading.{reads}
use Rattle.btree_smo.proofs.Changing.{was_so, changed_done, change_unstaged}

-- ## The entry

-- of a worker in this state, and of two pages with these contents
abbrev entry_in : Worker → Contents → Contents → (w c : ℕ) → Entry
entry_in a root child w c =
    let b = touch w (touch w a child.gsn child.last) root.gsn root.last in
    record { kind = Kind.Drop; log = w; txn = b.txn; number = suc b.clock; key = 0; before = 0; after = 0; need = 0; refs = record { page = 0; prev = root.gsn } ∷ record { page = c; prev = child.gsn } ∷ []; record_of = record { kind = records.Kind.Drop; left = record { page = 0; prev = root.gsn }; right = record { page = c; prev = child.gsn }; parent = records.nowhere; key = 0; before = 0; after = 0; sep = 0; high = 0; level = child.node.level; pairs = child.node.pairs; keys = [] } }

entry_is : (s : State) (w c : ℕ) → drop_entry w c s ≡ entry_in (s.worker w) (s.page 0) (s.page c) w c
entry_is s w c = refl

-- the clock after it
clock_after : (g : Opening) (s : State) (w c : ℕ) → clock_in ((happens g s (happening.Event.Drop w c)).worker w) ≡ drawn (clock_in (at_pages s w (s.worker w) (0 ∷ c ∷ [])))
clock_after g s w c = ap clock_in (upd_same s.worker w _ w refl)

-- what a draw has drawn for both pages
abbrev ticked : (lg : ℕ) → Clock → Dropping → Clock
ticked lg d l = drawn (touched lg (touched lg d l.child.gsn l.child.last_log) l.root.gsn l.root.last_log)

module _ {z : Shape} {u : View} {worker a b : ℕ} (l : Dropping) (t : HoldsTwo z u a b) (first : a ≡ 0) (it : IsDropping u worker b l) (actor : may z.alone u worker ≡ true) (sound : IsSound u.given) where
  abbrev s : State
  s = (state u).core

  abbrev c : ℕ
  c = l.child.number

  -- the draw's clock
  draws_clock : (lg tx : ℕ) (d : Clock) (n : ℕ) → DrawsFor u worker lg tx d n → ticked lg d l ≡ drawn (clock_in (at_pages s worker (s.worker worker) (0 ∷ c ∷ [])))
  draws_clock lg tx d n k =
      let r = reads it.root in
      let q = reads it.child in
      let rg = r.gsn ∙ ap (λ p. (s.page p).gsn) it.first in
      let rl = r.last ∙ ap (λ p. (s.page p).last) it.first in
      (λ i. drawn (touched (k.log i) (touched (k.log i) (k.clock i) (q.gsn i) (q.last i)) (rg i) (rl i)))

  pub number_is : (lg tx : ℕ) (d e : Clock) (n number : ℕ) → DrawsFor u worker lg tx d n → e ≡ ticked lg d l → number ≡ e.clock → number ≡ (drop_entry worker c s).number
  number_is lg tx d e n number k is num = num ∙ ap (λ (x : Clock). x.clock) (is ∙ draws_clock lg tx d n k)

  -- the record is that of the entry
  record_is : (lg tx : ℕ) (d : Clock) (n number : ℕ) (r : Record) → DrawsFor u worker lg tx d n → number ≡ (drop_entry worker c s).number → IsRecord tx number l r → entry_of worker r ≡ drop_entry worker c s
  record_is lg tx d n number r k num is =
      let p = reads it.root in
      let q = reads it.child in
      let rg : l.root.gsn ≡ (s.page 0).gsn = p.gsn ∙ ap (λ x. (s.page x).gsn) it.first in
      let pairs : model_pairs is.pairs ≡ (s.page c).node.pairs = is.pairs_are ∙ ap (λ (y : stored.Page). y.node.pairs) it.image in
      let txn : r.txn ≡ (s.worker worker).txn = is.txn_is ∙ k.txn in
      let gsn : r.gsn ≡ (drop_entry worker c s).number = is.number_is ∙ num in
      (λ i. entry_of worker (record { txn = txn i; gsn = gsn i; body = is.body_is i }))
      ∙ ((λ i. record {
        kind = Kind.Drop;
        log = worker;
        txn = (s.worker worker).txn;
        number = (drop_entry worker c s).number;
        key = 0;
        before = 0;
        after = 0;
        need = 0;
        refs = record { page = 0; prev = rg i } ∷ record { page = c; prev = q.gsn i } ∷ [];
        record_of = record { kind = records.Kind.Drop; left = record { page = 0; prev = rg i }; right = record { page = c; prev = q.gsn i }; parent = records.nowhere; key = 0; before = 0; after = 0; sep = 0; high = 0; level = q.level i; pairs = pairs i; keys = [] };
      }) ∙ sym (entry_is s worker c))

  -- ## At the moment of the publish

  module _ (between : List Event) (quiet : z.alone ≡ true → between ≡ []) (apart : AreApart u (state u) between) where
    abbrev at : View
    at = record u { seen = u.seen ++ between }

    abbrev k : Waited z.alone u at
    k = waited_apart z u between quiet apart

    own : OwnKept u at worker
    own = own_after z.alone u at worker actor k.ran

    near_root : SameNear s (state at).core 0
    near_root = near_wait a 0 k t.first.frames t.first.mine (sound u.seen).tree.some (subst (λ x. s.place 0 ≡ Place.Hot x) (sym first) (sound u.seen).residence.root)

    near_child : SameNear s (state at).core c
    near_child = near_wait b c k t.second.frames t.second.mine it.child.stands.below it.child.stands.hot

    rest : Rest s (state at).core worker (happening.Event.Drop worker c)
    rest = record {
      worker = own.worker;
      alone = own.alone;
      rows = λ j h. absurd (true≢false (sym h));
      near = near;
    }
      where
        near : (p : ℕ) → Has p (0 ∷ c ∷ []) → SameNear s (state at).core p
        near p (inl e) = subst (SameNear s (state at).core) (sym e) near_root
        near p (inr (inl e)) = subst (SameNear s (state at).core) (sym e) near_child
        near p (inr (inr h)) = absurd h

    pub met_then : core.may (opening u.given) (state at).core (happening.Event.Drop worker c) ≡ true
    met_then = (again_drop (opening u.given) s (state at).core worker c ((sound u.seen).tree.formed c it.child.stands.below) it.met rest).met

    pub entry_then : drop_entry worker c s ≡ drop_entry worker c (state at).core
    entry_then = (λ i. entry_in (sym own.worker i) (sym near_root.page i) (sym near_child.page i) worker c)

    pub clock_then : drawn (clock_in (at_pages s worker (s.worker worker) (0 ∷ c ∷ []))) ≡ clock_in ((happens (opening u.given) (state at).core (happening.Event.Drop worker c)).worker worker)
    clock_then = (λ i. drawn (clock_in (touch worker (touch worker (sym own.worker i) (sym near_child.page i).gsn (sym near_child.page i).last) (sym near_root.page i).gsn (sym near_root.page i).last))) ∙ sym (clock_after (opening u.given) (state at).core worker c)

    pub hot_then : (state at).core.place c ≡ Place.Hot b
    hot_then = near_child.place ∙ it.child.stands.hot

-- ## The whole call

pub dropped_done : {z : Shape} {v u w : View} {worker a b : ℕ} (l : Dropping) (t : HoldsTwo z u a b) → a ≡ 0 → IsDropping u worker b l → may z.alone u worker ≡ true → IsSound u.given → Stood z.alone v u → Went z.alone u (Drop worker l.child.number) w
    → (lg tx : ℕ) (d e : Clock) (n number : ℕ) (rs now : List Record) → DrawsFor u worker lg tx d n → e ≡ ticked lg d l → number ≡ e.clock
    → (r : Record) × (now ≡ r ∷ rs) × IsRecord tx number l r → Dropped z.alone worker b v rs w e now
unfolding changed_done
dropped_done {z} {v} {u} {w} {worker} {a} {b} l t first it actor sound stood went lg tx d e n number rs now dr clock num staged =
    let c = l.child.number in
    let whole = number_is l t first it actor sound lg tx d e n number dr clock num in
    let same = record_is l t first it actor sound lg tx d n number staged.0 dr whole staged.2 ∙ entry_then l t first it actor sound went.between went.quiet went.apart in
    let ticks = clock ∙ (draws_clock l t first it actor sound lg tx d n dr ∙ clock_then l t first it actor sound went.between went.quiet went.apart) in record {
      page = c;
      change = changed_done worker (Drop worker c) (drop_entry worker c) (0 ∷ c ∷ []) rs now e stood went (met_then l t first it actor sound went.between went.quiet went.apart) (staged.0, staged.1, same) ticks;
      hot = subst (λ (g : Given). (after_all g (u.seen ++ went.between)).core.place c ≡ Place.Hot b) (sym went.ran.given) (hot_then l t first it actor sound went.between went.quiet went.apart);
    }

pub not_dropped : {z : Shape} {v u w : View} {worker a b : ℕ} (l : Dropping) (t : HoldsTwo z u a b) → a ≡ 0 → IsDropping u worker b l → may z.alone u worker ≡ true → IsSound u.given → Stood z.alone v u → Missed z.alone u w
    → (lg tx : ℕ) (d e : Clock) (n : ℕ) (rs now : List Record) → DrawsFor u worker lg tx d n → e ≡ ticked lg d l → now ≡ rs → NotDropped z.alone worker b v rs w e now
unfolding change_unstaged was_so
not_dropped {z} {v} {u} {w} {worker} {a} {b} l t first it actor sound stood missed lg tx d e n rs now dr clock same =
    let c = l.child.number in record {
      page = c;
      refused = change_unstaged worker (Drop worker c) (drop_entry worker c) (0 ∷ c ∷ []) rs now e stood missed it.met same (clock ∙ draws_clock l t first it actor sound lg tx d n dr);
      hot = subst (λ (g : Given). (after_all g u.seen).core.place c ≡ Place.Hot b) (sym missed.ran.given) it.child.stands.hot;
    }
