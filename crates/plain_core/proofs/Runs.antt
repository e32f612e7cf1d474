-- A state that two changes made.
use Rattle.std.proofs.Common.{◌≡◌, ◌∷◌, ℕ, Bool, true, false, cond, suc, ◌==◌, ◌||◌, List, [], Option, Some, None, subst, inl, inr, if◌then◌else◌, refl, sym, ◌∙◌, ap, eq-eqb, eqb-true}
use Rattle.std.proofs.lemmas.Bool.{eqb-false}
use mathlib.Core.Path.{fun_ext}
use Rattle.page_model.specs.Nodes as nodes
use Rattle.page_model.specs.Pairs as paired
use Rattle.core_state.specs.Lists as lists
use Rattle.core_state.specs.Steps as steps
use Rattle.plain_core.specs.Inside.{written_in, write_entry_in, write_kind, newest_of, tail}
use Rattle.map_model.specs.Lists.{upd}
use Rattle.core_state.specs.image_model.Entries as logged
use Rattle.core_state.specs.States as model
use Rattle.core_state.specs.Openings as openings
use Rattle.core_state.specs.Events as events
use Rattle.plain_core.specs.declared.state.Core.{Core}
use Rattle.core_state.specs.Needs as needs
use Rattle.plain_core.specs.declared.state.Settings.{Settings}
use Rattle.plain_core.specs.declared.refusal.Refusal.{Refusal}
use Rattle.plain_core.specs.declared.refusal.Refusal.TheVariants as refusals
use Rattle.plain_core.specs.Spent.{IsSpent, IsSpentIn, IfNumber}
use Rattle.plain_core.specs.States.{Rest, Becomes, IsStep, opening, state_of}

-- an entry, and then a worker
pub entered : (old mid new : Core) (r e : logged.Entry) (w : ℕ) (a b : model.Worker) →
    Becomes old mid (record (state_of old) { entries = r ∷ (state_of old).entries }) →
    Becomes mid new (record (state_of mid) { worker = upd (state_of mid).worker w a }) → r ≡ e → a ≡ b →
    Becomes old new (record (state_of old) { entries = e ∷ (state_of old).entries; worker = upd (state_of old).worker w b })
entered old mid new r e w a b h k i j = record {
  settings = k.settings ∙ h.settings;
  state = k.state ∙ ap (λ (t : model.State). record t { worker = upd t.worker w a }) h.state
      ∙ ap (λ (z : logged.Entry). record (state_of old) { entries = z ∷ (state_of old).entries; worker = upd (state_of old).worker w a }) i
      ∙ ap (λ (z : model.Worker). record (state_of old) { entries = e ∷ (state_of old).entries; worker = upd (state_of old).worker w z }) j;
}

-- a lock row, and then a worker
pub rowed : (old mid new : Core) (i : ℕ) (r e : model.Row) (w : ℕ) (a b : model.Worker) →
    Becomes old mid (record (state_of old) { row = upd (state_of old).row i r }) →
    Becomes mid new (record (state_of mid) { worker = upd (state_of mid).worker w a }) → r ≡ e → a ≡ b →
    Becomes old new (record (state_of old) { row = upd (state_of old).row i e; worker = upd (state_of old).worker w b })
rowed old mid new n r e w a b h k i j = record {
  settings = k.settings ∙ h.settings;
  state = k.state ∙ ap (λ (t : model.State). record t { worker = upd t.worker w a }) h.state
      ∙ ap (λ (z : model.Row). record (state_of old) { row = upd (state_of old).row n z; worker = upd (state_of old).worker w a }) i
      ∙ ap (λ (z : model.Worker). record (state_of old) { row = upd (state_of old).row n e; worker = upd (state_of old).worker w z }) j;
}

-- where a page stands, and then what it is
pub loaded : (old mid new : Core) (p : ℕ) (l : model.Place) (v e : logged.Contents) →
    Becomes old mid (record (state_of old) { place = upd (state_of old).place p l }) →
    Becomes mid new (record (state_of mid) { page = upd (state_of mid).page p v }) → v ≡ e →
    Becomes old new (record (state_of old) { place = upd (state_of old).place p l; page = upd (state_of old).page p e })
loaded old mid new p l v e h k i = record {
  settings = k.settings ∙ h.settings;
  state = k.state ∙ ap (λ (t : model.State). record t { page = upd t.page p v }) h.state
      ∙ ap (λ (z : logged.Contents). record (state_of old) { place = upd (state_of old).place p l; page = upd (state_of old).page p z }) i;
}

-- a page, and then what is saved of it
pub fetched : (old mid new : Core) (p : ℕ) (u v e : logged.Contents) →
    Becomes old mid (record (state_of old) { page = upd (state_of old).page p u }) →
    Becomes mid new (record (state_of mid) { saved = upd (state_of mid).saved p v }) → u ≡ e → v ≡ e →
    Becomes old new (record (state_of old) { page = upd (state_of old).page p e; saved = upd (state_of old).saved p e })
fetched old mid new p u v e h k i j = record {
  settings = k.settings ∙ h.settings;
  state = k.state ∙ ap (λ (t : model.State). record t { saved = upd t.saved p v }) h.state
      ∙ ap (λ (z : logged.Contents). record (state_of old) { page = upd (state_of old).page p z; saved = upd (state_of old).saved p v }) i
      ∙ ap (λ (z : logged.Contents). record (state_of old) { page = upd (state_of old).page p e; saved = upd (state_of old).saved p z }) j;
}

-- where a page stands, and then the queue
pub queued : (old mid new : Core) (p : ℕ) (l e : model.Place) →
    Becomes old mid (record (state_of old) { place = upd (state_of old).place p l }) →
    Becomes mid new (record (state_of mid) { queue = lists.at_end (state_of mid).queue p }) → l ≡ e →
    Becomes old new (record (state_of old) { place = upd (state_of old).place p e; queue = lists.at_end (state_of old).queue p })
queued old mid new p l e h k i = record {
  settings = k.settings ∙ h.settings;
  state = k.state ∙ ap (λ (t : model.State). record t { queue = lists.at_end t.queue p }) h.state
      ∙ ap (λ (z : model.Place). record (state_of old) { place = upd (state_of old).place p z; queue = lists.at_end (state_of old).queue p }) i;
}

-- a place that is said otherwise
pub stands : (old new : Core) (p : ℕ) (q : List ℕ) (l e : model.Place) →
    Becomes old new (record (state_of old) { place = upd (state_of old).place p l; queue = q }) → l ≡ e →
    Becomes old new (record (state_of old) { place = upd (state_of old).place p e; queue = q })
stands old new p q l e h i = record {
  settings = h.settings;
  state = h.state ∙ ap (λ (z : model.Place). record (state_of old) { place = upd (state_of old).place p z; queue = q }) i;
}

-- an entry, a page, and then a worker
pub wrote : (old one two new : Core) (r : logged.Entry) (p : ℕ) (v : logged.Contents) (w : ℕ) (a : model.Worker) →
    Becomes old one (record (state_of old) { entries = r ∷ (state_of old).entries }) →
    Becomes one two (record (state_of one) { page = upd (state_of one).page p v }) →
    Becomes two new (record (state_of two) { worker = upd (state_of two).worker w a }) →
    Becomes old new (record (state_of old) { entries = r ∷ (state_of old).entries; page = upd (state_of old).page p v; worker = upd (state_of old).worker w a })
wrote old one two new r p v w a h k l = record {
  settings = l.settings ∙ k.settings ∙ h.settings;
  state = l.state ∙ ap (λ (t : model.State). record t { worker = upd t.worker w a }) (k.state ∙ ap (λ (t : model.State). record t { page = upd t.page p v }) h.state);
}

pub ap3 : {A B C D : Type 0} (f : A → B → C → D) {x u : A} {y v : B} {z w : C} → x ≡ u → y ≡ v → z ≡ w → f x y z ≡ f u v w
ap3 f {u = u} {y = y} {v = v} {z = z} h k l = ap (λ a. f a y z) h ∙ ap (λ b. f u b z) k ∙ ap (λ c. f u v c) l

other : (p q : ℕ) (b : Bool) → (q == p) ≡ false → (p == q) ≡ b → (p == q) ≡ false
other p q true h k = absurd (eqb-false q p h (sym (eqb-true p q k)))
other p q false h k = k

-- what a write of page p makes of page q
point_if : (p q : ℕ) (P : ℕ → logged.Contents) (n l : ℕ) (f : nodes.Node → nodes.Node) (b : Bool) → (q == p) ≡ b →
    cond ((p == q) || false) (record { gsn = n; last = l; node = cond (q == p) (f (P q).node) (P q).node }) (P q) ≡ cond (q == p) (record { gsn = n; last = l; node = f (P p).node }) (P q)
point_if p q P n l f true h =
    let e : q ≡ p = eqb-true q p h in
    let R : nodes.Node → logged.Contents = λ v. record { gsn = n; last = l; node = v } in
    ap (λ b. cond (b || false) (R (cond (q == p) (f (P q).node) (P q).node)) (P q)) (eq-eqb p q (sym e))
    ∙ ap (λ b. R (cond b (f (P q).node) (P q).node)) h
    ∙ ap (λ z. R (f (P z).node)) e
    ∙ sym (ap (λ b. cond b (R (f (P p).node)) (P q)) h)
point_if p q P n l f false h =
    let R : nodes.Node → logged.Contents = λ v. record { gsn = n; last = l; node = v } in
    ap (λ b. cond (b || false) (R (cond (q == p) (f (P q).node) (P q).node)) (P q)) (other p q (p == q) h refl)
    ∙ sym (ap (λ b. cond b (R (f (P p).node)) (P q)) h)

abbrev putting : ℕ → ℕ → nodes.Node → nodes.Node
putting k v n = record { live = n.live; level = n.level; low = n.low; high = n.high; pairs = paired.put k v n.pairs }

-- a write changes its page alone
pages_written : (P : ℕ → logged.Contents) (b : Bool) (w : ℕ) (a : model.Worker) (p dead k v : ℕ) →
    upd P p (written_in w (suc a.clock) (P p) k v) ≡ (λ q. if logged.touches q (write_entry_in (write_kind b) w a p (P p) dead k v) then logged.written (write_entry_in (write_kind b) w a p (P p) dead k v) q (P q) else P q)
pages_written P true w a p dead k v = sym (fun_ext (λ q. point_if p q P (suc a.clock) w (putting k v) (q == p) refl))
pages_written P false w a p dead k v = sym (fun_ext (λ q. point_if p q P (suc a.clock) w (putting k v) (q == p) refl))

-- a write is recorded
pub recorded : (old new : Core) (b : Bool) (w p dead k v : ℕ) (a : model.Worker) (r : logged.Entry) (V : logged.Contents) (A : model.Worker) (f : logged.Entry → List logged.Entry) →
    Becomes old new (record (state_of old) { entries = r ∷ (state_of old).entries; page = upd (state_of old).page p V; worker = upd (state_of old).worker w A }) →
    r ≡ write_entry_in (write_kind b) w a p ((state_of old).page p) dead k v →
    V ≡ written_in w r.number ((state_of old).page p) k v → A ≡ record a { clock = r.number; changes = f r } →
    Becomes old new (steps.records_in (state_of old) w a (write_entry_in (write_kind b) w a p ((state_of old).page p) dead k v) (f (write_entry_in (write_kind b) w a p ((state_of old).page p) dead k v)))
recorded old new b w p dead k v a r V A f h i j l =
    let s : model.State = state_of old in
    let e : logged.Entry = write_entry_in (write_kind b) w a p (s.page p) dead k v in
    record {
      settings = h.settings;
      state = h.state
          ∙ ap (λ (z : logged.Entry). record s { entries = z ∷ s.entries; page = upd s.page p V; worker = upd s.worker w A }) i
          ∙ ap (λ (z : ℕ → logged.Contents). record s { entries = e ∷ s.entries; page = z; worker = upd s.worker w A })
          (ap (λ z. upd s.page p z) (j ∙ ap (λ (z : logged.Entry). written_in w z.number (s.page p) k v) i) ∙ pages_written s.page b w a p dead k v)
          ∙ ap (λ (z : model.Worker). record s { entries = e ∷ s.entries; page = (λ q. if logged.touches q e then logged.written e q (s.page q) else s.page q); worker = upd s.worker w z })
          (l ∙ ap (λ (z : logged.Entry). let t : model.Worker = record a { clock = z.number; changes = f z } in t) i);
    }

abbrev key_or : Option (ℕ × ℕ) → ℕ
key_or None = 0
key_or (Some x) = x.0

abbrev word_or_none : Option (ℕ × ℕ) → ℕ
word_or_none None = 0
word_or_none (Some x) = x.1

abbrev IsAbsent : Option (ℕ × ℕ) → Type 0
IsAbsent None = Unit {0}
IsAbsent (Some x) = ⊥

-- the newest change is put back
pub put_back_is : (g : openings.Opening) (s : model.State) (w p : ℕ) (es : List logged.Entry) (x : ℕ × ℕ) → newest_of es ≡ Some x →
    steps.writes g s logged.Kind.Put_back w p x.0 x.1 (λ _. tail es) ≡ steps.put_back g s w p es
put_back_is g s w p [] x h = absurd (subst IsAbsent h tt)
put_back_is g s w p (c ∷ cs) x h =
    ap (λ k. steps.writes g s logged.Kind.Put_back w p k x.1 (λ _. cs)) (sym (ap key_or h))
    ∙ ap (λ v. steps.writes g s logged.Kind.Put_back w p c.key v (λ _. cs)) (sym (ap word_or_none h))

-- the same state
pub becomes : (old new : Core) (s t : model.State) → Becomes old new s → s ≡ t → Becomes old new t
becomes old new s t h k = record { settings = h.settings; state = h.state ∙ k }

-- the rest of the run is still to come
pub record IsRun (g : openings.Opening) (old new : Core) (all rest : List events.Event) : Type 0 where
  pub settings : new.settings ≡ old.settings
  pub state : steps.run g (state_of new) rest ≡ steps.run g (state_of old) all
  pub spent : IsSpentIn g (state_of new) rest → IsSpentIn g (state_of old) all

-- all of the run is still to come
pub run_start : (g : openings.Opening) (old : Core) (all rest : List events.Event) → rest ≡ all → IsRun g old old all rest
run_start g old all rest h = record { settings = refl; state = ap (steps.run g (state_of old)) h; spent = λ k. subst (IsSpentIn g (state_of old)) h k }

-- the event happens
pub happened : (g : openings.Opening) (old new : Core) (e : events.Event) (b : Bool) → b ≡ true → b ≡ needs.may g (state_of old) e →
    Becomes old new (steps.happens g (state_of old) e) → IsStep g old new e true
happened g old new e b h k l =
    let m : true ≡ needs.may g (state_of old) e = sym h ∙ k in
    record { met = m; becomes = becomes old new _ _ l (ap (λ t. cond t (steps.happens g (state_of old) e) (state_of old)) m) }

stepped : (cur new : Core) (e : events.Event) (b : Bool) (t : Settings) → cur.settings ≡ t → ((y : Rest cur.settings) → IsStep (opening cur.settings y) cur new e b) →
    (x : Rest t) → Becomes cur new (steps.step (opening t x) (state_of cur) e)
stepped cur new e b t h f x =
    let P : Settings → Type 0 = λ u. (z : Rest u) → Becomes cur new (steps.step (opening u z) (state_of cur) e) in
    subst P h (λ y. (f y).becomes) x

-- one more event of the run
pub run_step : (old cur new : Core) (x : Rest old.settings) (e : events.Event) (b : Bool) (all rest later : List events.Event) →
    IsRun (opening old.settings x) old cur all rest → rest ≡ e ∷ later → ((y : Rest cur.settings) → IsStep (opening cur.settings y) cur new e b) →
    IsRun (opening old.settings x) old new all later
run_step old cur new x e b all rest later h i f =
    let g : openings.Opening = opening old.settings x in
    let k : Becomes cur new (steps.step g (state_of cur) e) = stepped cur new e b old.settings h.settings f x in
    record {
      settings = k.settings ∙ h.settings;
      state = ap (λ s. steps.run g s later) k.state ∙ ap (λ r. steps.run g (state_of cur) r) (sym i) ∙ h.state;
      spent = λ j. h.spent (subst (IsSpentIn g (state_of cur)) (sym i) (inr (subst (λ s. IsSpentIn g s later) k.state j)));
    }

-- the next event of the run finds no further number
pub run_spent : (old cur : Core) (x : Rest old.settings) (e : events.Event) (all rest later : List events.Event) →
    IsRun (opening old.settings x) old cur all rest → rest ≡ e ∷ later → ((y : Rest cur.settings) → IsSpent (opening cur.settings y) (state_of cur) e) →
    IsSpentIn (opening old.settings x) (state_of old) all
run_spent old cur x e all rest later h i f =
    let g : openings.Opening = opening old.settings x in
    let P : Settings → Type 0 = λ u. (z : Rest u) → IsSpent (opening u z) (state_of cur) e in
    h.spent (subst (IsSpentIn g (state_of cur)) (sym i) (inl (subst P h.settings f x)))

-- a refusal that comes for a reason comes for what follows from it
pub if_number : (r : Refusal) (P Q : Type 0) → (P → Q) → IfNumber r P → IfNumber r Q
if_number refusals.Memory P Q f h = tt
if_number refusals.Number P Q f h = f h

-- the run is over
pub run_done : (g : openings.Opening) (old new : Core) (all rest : List events.Event) → IsRun g old new all rest → rest ≡ [] → Becomes old new (steps.run g (state_of old) all)
run_done g old new all rest h i = record { settings = h.settings; state = sym (ap (λ r. steps.run g (state_of new) r) i) ∙ h.state }
