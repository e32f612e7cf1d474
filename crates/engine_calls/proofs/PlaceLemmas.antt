-- Places: rests, calls one after another, and a fault.
use Rattle.std.proofs.Common.{◌≡◌, ℕ, Bool, true, false, List, [], ◌++◌, refl, sym, ap, ◌∙◌, subst, inl, inr, append_assoc, true≢false}
use Rattle.std.proofs.lemmas.Bool.{cases_Bool}
use Rattle.std.proofs.lemmas.List.{append-nil}
use Rattle.run_crashes.specs.core_state.Openings.{Opening}
use Rattle.run_crashes.specs.core_state.Events.{Event}
use Rattle.lean_disk.specs.Moments.{LeavesOnly}
use Rattle.lean_disk.specs.Story.{Crash, IsLawful, Story}
use Rattle.lean_disk.proofs.MomentLemmas.{started, weaker}
use Rattle.lean_disk.proofs.MomentLemmas as moments
use Rattle.run_crashes.specs.disk_image.Laws.{EverySealed}
use Rattle.run_crashes.specs.worker_log.Laws.{EveryKept, EveryPrefix}
use Rattle.run_crashes.specs.worker_log.Logs.{Log}
use Rattle.run_crashes.specs.disk_runs.Stands.{Known}
use Rattle.run_crashes.proofs.disk_runs.LineLemmas.{further, same}
use Rattle.run_crashes.proofs.disk_runs.MomentLemmas.{none_yet, some_laws}
use Rattle.run_crashes.proofs.disk_runs.StandLemmas.{every_rest}
use Rattle.engine_calls.specs.Places.{EveryPlace, LeavesAt, PlaceLeaves, StandsAt, Went}

-- nothing happens
pub rested : EveryKept → EveryPrefix → EverySealed → (g : Opening) (es : List Event) (s0 : Crash) (k : Known) (s : Story) (works : Bool) (logs : ℕ → Log) → IsLawful s → StandsAt g es s0 k logs s → Went g es [] s0 k works logs s s
rested keeps prefixes seals g es s0 k s works logs law st = record {
  any_moment = started s (PlaceLeaves g es [] s0 k s) law
      (λ c now. record { notes = now.notes; some = λ fair. none_yet g es [] k.master c.image (every_rest keeps prefixes seals s s0 g es k st.stands c now fair) });
  notes = refl;
  after = λ w. record { known = k; no_earlier = same [] k.master; at = subst (λ (z : List Event). StandsAt g z s0 k logs s) (sym (append-nil es)) st };
}

module _ (g : Opening) (es xs ys : List Event) (s0 : Crash) (k : Known) where
  -- moments at which no more than the first events have happened
  early : (old mid : Story) → LeavesOnly old mid (PlaceLeaves g es xs s0 k old) → LeavesOnly old mid (PlaceLeaves g es (xs ++ ys) s0 k old)
  early old mid p = weaker old mid (PlaceLeaves g es xs s0 k old) (PlaceLeaves g es (xs ++ ys) s0 k old) (λ c l. record { notes = l.notes; some = (some_laws g es s0 k.master c).longer xs ys l.some }) p

  pub joined : (old mid new : Story) (works : Bool) (mid_logs logs : ℕ → Log) → Went g es xs s0 k true mid_logs old mid
      → ((n : Known) → StandsAt g (es ++ xs) s0 n mid_logs mid → Went g (es ++ xs) ys s0 n works logs mid new) → Went g es (xs ++ ys) s0 k works logs old new
  joined old mid new works mid_logs logs first on =
      let reached = first.after refl in
      let second = on reached.known reached.at in
      record {
        any_moment = moments.then old mid new (PlaceLeaves g es (xs ++ ys) s0 k old) (early old mid first.any_moment)
            (weaker mid new (PlaceLeaves g (es ++ xs) ys s0 reached.known mid) (PlaceLeaves g es (xs ++ ys) s0 k old)
            (λ c l. record { notes = l.notes ∙ first.notes; some = (some_laws g es s0 k.master c).later xs ys reached.known.master reached.no_earlier l.some }) second.any_moment);
        notes = second.notes ∙ first.notes;
        after = λ w. let end = second.after w in record {
          known = end.known;
          no_earlier = further xs ys k.master reached.known.master end.known.master reached.no_earlier end.no_earlier;
          at = subst (λ (z : List Event). StandsAt g z s0 end.known logs new) (append_assoc es xs ys) end.at;
        };
      }

  pub stayed : (old mid : Story) (logs : ℕ → Log) → Went g es xs s0 k false logs old mid → Went g es (xs ++ ys) s0 k false logs old mid
  stayed old mid logs first = record { any_moment = early old mid first.any_moment; notes = first.notes; after = λ w. absurd (true≢false (sym w)) }

pub every_place : EveryKept → EveryPrefix → EverySealed → (old mid new : Story) → EveryPlace old mid new
every_place keeps prefixes seals old mid new g es s0 k = record {
  rests = λ works logs law st. rested keeps prefixes seals g es s0 k old works logs law st;
  joins = λ xs ys works mid_logs logs first on. joined g es xs ys s0 k old mid new works mid_logs logs first on;
  stays = λ xs ys logs first. stayed g es xs ys s0 k old mid logs first;
}

-- ## Places of any kind

module _ {A : Type 0} (story : A → Story) (works : A → Bool) (logs : A → ℕ → Log) where
  pub rests : EveryKept → EveryPrefix → EverySealed → ((a : A) → IsLawful (story a)) → (g : Opening) (es : List Event) (a : A) → LeavesAt story works logs g es [] a a
  rests keeps prefixes seals law g es a = record {
    broken = λ w. refl;
    goes = λ w s0 k st. rested keeps prefixes seals g es s0 k (story a) (works a) (logs a) (law a) st;
  }

  module _ (g : Opening) (es xs ys : List Event) (a b c : A) (p : LeavesAt story works logs g es xs a b) (q : LeavesAt story works logs g (es ++ xs) ys b c) where
    -- the second went too
    on : (s0 : Crash) (k : Known) → Went g es xs s0 k (works b) (logs b) (story a) (story b) → works b ≡ true → Went g es (xs ++ ys) s0 k (works c) (logs c) (story a) (story c)
    on s0 k first v = joined g es xs ys s0 k (story a) (story b) (story c) (works c) (logs b) (logs c)
        (subst (λ (x : Bool). Went g es xs s0 k x (logs b) (story a) (story b)) v first) (λ n st. q.goes v s0 n st)

    -- the first met a fault
    off : (s0 : Crash) (k : Known) → Went g es xs s0 k (works b) (logs b) (story a) (story b) → works b ≡ false → Went g es (xs ++ ys) s0 k (works c) (logs c) (story a) (story c)
    off s0 k first v = subst (λ (d : A). Went g es (xs ++ ys) s0 k (works d) (logs d) (story a) (story d)) (sym (q.broken v))
        (subst (λ (x : Bool). Went g es (xs ++ ys) s0 k x (logs b) (story a) (story b)) (sym v)
        (stayed g es xs ys s0 k (story a) (story b) (logs b) (subst (λ (x : Bool). Went g es xs s0 k x (logs b) (story a) (story b)) v first)))

    pub joins : LeavesAt story works logs g es (xs ++ ys) a c
    joins = record {
      broken = λ w. let e = p.broken w in q.broken (ap works e ∙ w) ∙ e;
      goes = λ w s0 k st. let first = p.goes w s0 k st in elim (cases_Bool (works b)) [ inl v ↦ on s0 k first v | inr v ↦ off s0 k first v ];
    }
