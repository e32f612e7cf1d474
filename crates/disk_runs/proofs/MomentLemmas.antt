-- Moments of calls one after another.
use Rattle.std.proofs.Common.{◌≡◌, inl, inr, ⊎_elim, List, [], ◌∷◌, ◌++◌, refl, sym, ap, ◌∙◌, subst, append_assoc}
use Rattle.std.proofs.lemmas.List.{append-nil}
use Rattle.core_disk.specs.core_state.Openings.{Opening}
use Rattle.core_disk.specs.core_state.Events.{Event}
use Rattle.core_disk.specs.core_crash.Crashes.{EverySerial}
use Rattle.lean_disk.specs.Moments.{LeavesOnly}
use Rattle.lean_disk.specs.Story.{Crash, Story}
use Rattle.lean_disk.proofs.MomentLemmas as moments
use Rattle.lean_disk.proofs.MomentLemmas.{weaker}
use Rattle.master_store.specs.disk_slots.declared.master.Master.{Master}
use Rattle.master_store.specs.disk_image.Shown.{Areas}
use Rattle.core_disk.specs.Held.{HoldsRun}
use Rattle.core_disk.specs.Lives.{EveryHeld}
use Rattle.core_disk.specs.Versions.{then}
use Rattle.disk_runs.specs.MasterLaws.{LeavesEither}
use Rattle.disk_runs.specs.Moments.{EveryAmong, EveryMoment, EverySurvival, HoldsSome, LeavesSome, SomeLaws}
use Rattle.disk_runs.specs.Stands.{LeavesRun}
use Rattle.disk_runs.proofs.LineLemmas.{further, next, same}

-- before the first event
pub none_yet : (g : Opening) (es more : List Event) (n : Master) (area : Areas) → HoldsRun g es n area → HoldsSome g es more n area
none_yet g es more n area h = record { first = []; rest = more; is = refl; master = n; no_earlier = same [] n; holds = subst (λ (k : List Event). HoldsRun g k n area) (sym (append-nil es)) h }

pub some_laws : (g : Opening) (es : List Event) (s0 : Crash) (n : Master) (c : Crash) → SomeLaws g es s0 n c
some_laws g es s0 n c = record {
  run = λ more l fair. none_yet g es more n c.image (l fair);
  master = λ e m more is q l fair. ⊎_elim
      (λ (h : HoldsRun g es n c.image). none_yet g es (e ∷ more) n c.image h)
      (λ (h : HoldsRun g (then es e) m c.image). record { first = e ∷ []; rest = more; is = refl; master = m; no_earlier = next e n m is q; holds = h })
      (l fair);
  longer = λ xs ys l fair. let h = l fair in record {
    first = h.first;
    rest = h.rest ++ ys;
    is = sym (append_assoc h.first h.rest ys) ∙ ap (λ (k : List Event). k ++ ys) h.is;
    master = h.master;
    no_earlier = h.no_earlier;
    holds = h.holds;
  };
  later = λ xs ys m q l fair. let h = l fair in record {
    first = xs ++ h.first;
    rest = h.rest;
    is = append_assoc xs h.first h.rest ∙ ap (λ (k : List Event). xs ++ k) h.is;
    master = h.master;
    no_earlier = further xs h.first n m h.master q h.no_earlier;
    holds = subst (λ (k : List Event). HoldsRun g k h.master c.image) (append_assoc es xs h.first) h.holds;
  };
}

pub every_among : EveryAmong
every_among = some_laws

-- two facts of each moment are one
pub both : (old new : Story) (P Q : Crash → Type 0) → LeavesOnly old new P → LeavesOnly old new Q → LeavesOnly old new (λ c. P c × Q c)
both old new P Q p q = record {
  each = λ m c le left. (p.each m c le left, q.each m c le left);
  before = λ m c left. ⊎_elim (λ was. inl was) (λ x. ⊎_elim (λ was. inl was) (λ y. inr (x, y)) (q.before m c left)) (p.before m c left);
}

pub every_moment : (from old new : Story) → EveryMoment from old new
every_moment from old new s0 g es n = record {
  call = λ more run. weaker old new (LeavesRun g es s0 n) (LeavesSome g es more s0 n) (λ c. (some_laws g es s0 n c).run more) run;
  master = λ e m more is q run. weaker old new (LeavesEither g es e s0 n m) (LeavesSome g es (e ∷ more) s0 n) (λ c. (some_laws g es s0 n c).master e m more is q) run;
  more = λ early later m q a b. moments.then from old new (LeavesSome g es (early ++ later) s0 n)
      (weaker from old (LeavesSome g es early s0 n) (LeavesSome g es (early ++ later) s0 n) (λ c. (some_laws g es s0 n c).longer early later) a)
      (weaker old new (LeavesSome g (es ++ early) later s0 m) (LeavesSome g es (early ++ later) s0 n) (λ c. (some_laws g es s0 n c).later early later m q) b);
  noted = λ notes more p q. both old new (λ c. c.notes ≡ notes) (LeavesSome g es more s0 n) p q;
}

pub every_survival : EveryHeld → EverySerial → EverySurvival
every_survival held serial g least more n area h = record {
  first = h.first;
  rest = h.rest;
  is = h.is;
  master = h.master;
  no_earlier = h.no_earlier;
  lives = held g (least ++ h.first) h.master area h.holds;
  serial = serial g h.holds.is.faithful (least ++ h.first);
}
