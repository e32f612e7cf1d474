-- The disk under a run, where nobody else steps: how the pager's calls follow one another.
use Rattle.std.proofs.Common.{◌≡◌, Bool, true, false, List, [], ◌∷◌, ◌++◌, append-nil, append_assoc, refl, sym, ap, subst, ◌∙◌}
use Rattle.map_model.specs.Lists.{all}
use Rattle.btree_descent.proofs.row_words.Stays.{and_true}
use Rattle.btree_descent.specs.core_state.Openings.{Opening}
use Rattle.btree_descent.specs.core_state.Events as happening
use Rattle.lean_disk.specs.Moments.{LeavesOnly}
use Rattle.lean_disk.specs.Story.{Crash, IsLawful, Story}
use Rattle.lean_disk.proofs.MomentLemmas.{started, weaker}
use Rattle.lean_disk.proofs.MomentLemmas as moments
use Rattle.disk_runs.specs.core_disk.Versions.{then}
use Rattle.disk_runs.specs.Masters.{IsNoEarlier}
use Rattle.disk_runs.specs.Moments.{LeavesSome}
use Rattle.disk_runs.specs.Quiet.{is_quiet}
use Rattle.disk_runs.specs.Stands.{Known, LeavesRun, Stands}
use Rattle.disk_runs.proofs.StandLemmas.{every_rest, every_still}
use Rattle.btree_descent.specs.row_words.declared.event.Event.{Event}
use Rattle.btree_descent.specs.row_words.declared.given.Given.{Given}
use Rattle.btree_descent.specs.row_words.Moments.{events_of}
use Rattle.row_opening.specs.Openings.{Opens}
use Rattle.btree_descent.specs.rows_trait.declared.view.View.{View}
use Rattle.btree_descent.specs.rows_trait.Turns.{Ran}
use Rattle.page_calls.specs.Calls.{IsOn}
use Rattle.page_calls.specs.Slots.{Knows}
use Rattle.page_calls.specs.declared.slots.Slot.{Slot}
use Rattle.page_provider.specs.Laws.{DiskLaws}
use Rattle.page_provider.specs.Disks.{Disked, IsBeside, Runs, Went, told}
use Rattle.page_provider.specs.Providers.{Provider}

-- ## What has happened

events_append : (es fs : List Event) → events_of (es ++ fs) ≡ events_of es ++ events_of fs
events_append [] fs = refl
events_append (e ∷ es) fs = ap (λ xs. Rattle.btree_descent.specs.row_words.Moments.event_of e ∷ xs) (events_append es fs)

pub told_ran : {v u : View} {es : List Event} → Ran true v es u → told u ≡ told v ++ events_of es
told_ran {v = v} {u = u} {es = es} r =
    let given : events_of u.given.before ≡ events_of v.given.before = ap (λ (g : Given). events_of g.before) r.given in
    let seen : events_of u.seen ≡ events_of v.seen ++ events_of es = ap events_of (r.seen ∙ ap (λ xs. v.seen ++ xs) (r.all refl)) ∙ events_append v.seen es in
    (λ i. given i ++ seen i) ∙ sym (append_assoc (events_of v.given.before) (events_of v.seen) (events_of es))

-- ## Events that the disk does not see

pub quiet_all : DiskLaws → (g : Opening) (es more : List happening.Event) (s0 : Crash) (x : Known) (s : Story) → all is_quiet more ≡ true → Stands g es s0 x s → Stands g (es ++ more) s0 x s
quiet_all laws g es [] s0 x s q st = subst (λ z. Stands g z s0 x s) (sym (append-nil es)) st
quiet_all laws g es (e ∷ more) s0 x s q st =
    let k = and_true (is_quiet e) (all is_quiet more) q in
    let l = laws.quiet g st.is.faithful es e k.0 in
    subst (λ z. Stands g z s0 x s) (append_assoc es (e ∷ []) more) (quiet_all laws g (then es e) more s0 x s k.1 (every_still laws.versions s s0 g es x e st l.no_cut l.same))

-- ## Calls

pub beside_same : (x : Known) → IsBeside x x
beside_same x = record { master = refl; log = refl; account = refl }

pub beside_then : {x y w : Known} → IsBeside x y → IsBeside y w → IsBeside x w
beside_then a b = record { master = b.master ∙ a.master; log = b.log ∙ a.log; account = b.account ∙ a.account }

module _ (laws : DiskLaws) {g : Opening} {s0 : Crash} {x : Known} {v u : View} {was is : Provider} {old new : Story} (k : Runs g s0 x was v old) where
  -- where at every moment of a call a crash leaves what one before its events does
  pub went_call : {es : List Event} → Ran true v es u → is.generation ≡ was.generation → LeavesOnly old new (LeavesRun g (told v) s0 x.master)
      → (is.broken ≡ false → (y : Known) × IsBeside x y × IsOn g (told v ++ events_of es) s0 y is.slots new) → Went g s0 x v is u old new
  went_call {es = es} r generation any_moment after = record {
    more = events_of es;
    is = told_ran r;
    any_moment = weaker old new (LeavesRun g (told v) s0 x.master) (LeavesSome g (told v) (events_of es) s0 x.master) (λ c. (laws.among g (told v) s0 x.master c).run (events_of es)) any_moment;
    stands = λ well. let y = after well in (
      y.0,
      y.1,
      record {
        opens = subst (Opens g) (sym r.given) k.opens;
        on = subst (λ (z : List happening.Event). IsOn g z s0 y.0 is.slots new) (sym (told_ran r)) y.2;
        generation = ap (λ m. m.generation) y.1.master ∙ (k.generation ∙ sym generation);
      },
    );
  }

-- nothing was asked of the device, and the disk does not see the events
pub disked_quiet : {alone : Bool} {v u : View} {was is : Provider} {s : Story} {es : List Event} → DiskLaws → IsLawful s → Ran alone v es u → all is_quiet (events_of es) ≡ true → is.slots ≡ was.slots → is.generation ≡ was.generation
    → Disked alone was v is u s s
disked_quiet {alone = alone} {v = v} {u = u} {was = was} {is = is} {s = s} {es = es} laws law r quiet slots generation only g s0 x k =
    went_call laws k (subst (λ b. Ran b v es u) only r) generation
    (started s (LeavesRun g (told v) s0 x.master) law (λ c now. every_rest laws.kept laws.prefixes laws.seals s s0 g (told v) x k.on.stands c now))
    (λ _. (x, beside_same x, record { stands = quiet_all laws g (told v) (events_of es) s0 x s quiet k.on.stands; knows = subst (λ (n : List Slot). Knows n x) (sym slots) k.on.knows }))

-- one call behind another
pub disked_then : {alone : Bool} {v u w : View} {a b c : Provider} {old mid new : Story} → DiskLaws → b.broken ≡ false → Disked alone a v b u old mid → Disked alone b u c w mid new → Disked alone a v c w old new
disked_then {v = v} {u = u} {w = w} {c = c} {old = old} {mid = mid} {new = new} laws well p q only g s0 x k =
    let one = p only g s0 x k in
    let y = one.stands well in
    let two = q only g s0 y.0 y.2 in
    let line : IsNoEarlier one.more x.master y.0.master = subst (λ m. IsNoEarlier one.more x.master m) (sym y.1.master) ((laws.lines x.master x.master x.master).same one.more) in
    record {
      more = one.more ++ two.more;
      is = two.is ∙ (ap (λ es. es ++ two.more) one.is ∙ append_assoc (told v) one.more two.more);
      any_moment = moments.then old mid new (LeavesSome g (told v) (one.more ++ two.more) s0 x.master)
          (weaker old mid (LeavesSome g (told v) one.more s0 x.master) (LeavesSome g (told v) (one.more ++ two.more) s0 x.master) (λ d h. (laws.among g (told v) s0 x.master d).longer one.more two.more h) one.any_moment)
          (weaker mid new (LeavesSome g (told u) two.more s0 y.0.master) (LeavesSome g (told v) (one.more ++ two.more) s0 x.master)
          (λ d h. (laws.among g (told v) s0 x.master d).later one.more two.more y.0.master line (subst (λ (es : List happening.Event). LeavesSome g es two.more s0 y.0.master d) one.is h)) two.any_moment);
      stands = λ last. let z = two.stands last in (z.0, beside_then y.1 z.1, z.2);
    }
