-- A log of which nothing is left to flush.
use Rattle.std.proofs.Common.{◌≡◌, ◌≤◌, ◌<◌, ◌+◌, ℕ, suc, true, ◌&&◌, leb, ◌==◌, List, [], ◌∷◌, ◌++◌, length, drop, ⊎_elim, refl, sym, ap, ◌∙◌, subst, arith, length-drop}
use Rattle.std.proofs.lemmas.List.{append-nil, nil_from_length}
use Rattle.std.proofs.lemmas.Bool.{cases_lt, and_from, eq-eqb, ne_eqb, le-leb, cond-true, cond-false}
use Rattle.map_model.specs.Lists.{Has, any}
use Rattle.map_model.proofs.ListLemmas.{has_any, has_left, has_right, upd_same, upd_other}
use Rattle.disk_runs.specs.image_model.Entries.{is_record}
use Rattle.lean_disk.specs.Area.{Area}
use Rattle.lean_disk.specs.Moments.{CrashIn}
use Rattle.lean_disk.specs.Story.{Crash, IsLawful, Story}
use Rattle.lean_disk.proofs.MomentLemmas.{started}
use Rattle.disk_runs.specs.log_record.declared.record.Record.{Record}
use Rattle.disk_runs.specs.disk_image.Laws.{EverySealed}
use Rattle.disk_runs.specs.worker_log.Accounts.{Account, joined}
use Rattle.disk_runs.specs.worker_log.Calls.{flushed_log}
use Rattle.disk_runs.specs.worker_log.Kept.{IsKept, flushed}
use Rattle.disk_runs.specs.worker_log.Laws.{EveryKept, EveryPrefix}
use Rattle.disk_runs.specs.worker_log.Logs.{Log}
use Rattle.disk_runs.proofs.worker_log.ListLemmas.{has_first, rise-has, none_left, fit_blocks-drop, joined-dropped}
use Rattle.disk_runs.specs.core_state.Openings.{Opening}
use Rattle.disk_runs.specs.core_state.States.{State, start}
use Rattle.disk_runs.specs.core_state.Events.{Event}
use Rattle.disk_runs.specs.core_state.Needs.{may}
use Rattle.disk_runs.specs.core_state.Steps.{AllMet, happens, state_after}
use Rattle.disk_runs.proofs.core_state.Runs.{run_more}
use Rattle.disk_runs.specs.core_disk.Versions.{then}
use Rattle.disk_runs.specs.Laws.{with_log}
use Rattle.disk_runs.specs.Logs.{Flushes}
use Rattle.disk_runs.specs.MasterLaws.{IsAllSynced}
use Rattle.disk_runs.specs.Stands.{Known, LeavesRun, Stands}
use Rattle.disk_runs.proofs.StandLemmas.{every_rest}
use Rattle.log_calls.specs.Calls.{Anything, FlushesOn, IsLog, KeepsMoments, KeepsNotes, KeepsWithin}
use Rattle.log_calls.specs.Wholes.{EndsInRecord, IsWhole, flush_of}

-- where no call is made, a crash leaves what it left before
pub still : EveryKept → EveryPrefix → EverySealed → (w : ℕ) (was : Log) (s : Story) → IsLawful s → KeepsMoments w was s s
still keeps prefixes seals w was s law s0 g es x it = started s (LeavesRun g es s0 x.master) law (λ c now. every_rest keeps prefixes seals s s0 g es x it.stands c now)

pub still_notes : (w : ℕ) (was : Log) (s : Story) → IsLawful s → KeepsNotes w was s s
still_notes w was s law s0 g es x it = started s (λ c. c.notes ≡ s.notes) law (λ c now. now.notes)

pub still_within : (w : ℕ) (was : Log) (s : Story) → IsLawful s → KeepsWithin w was s s
still_within w was s law s0 g es x it = started s (CrashIn s (w + 1) Anything) law (λ c now. record { notes = now.notes; writes = λ b other told. now.writes b told; leaves = λ b other told. now.leaves b told; here = tt })

-- ## Nothing is left

module _ (x : Account) (log : Log) (area : Area) (kept : IsKept x log area) (all : log.last ≡ log.flushed) where
  -- a record that is not flushed would be above the last
  none_late : (r : Record) → Has r (joined (drop x.synced x.written) ++ x.current) → Has r (joined x.written ++ x.current) → ⊥
  none_late r late has = let a = kept.above r late in let b = rise-has kept.numbers.0 (joined x.written ++ x.current) log.last kept.numbers.1 r has in omega arith

  no_current : x.current ≡ []
  no_current = nil_from_length x.current (⊎_elim
      (λ (lt : 0 < length x.current). let it = has_first x.current lt in
      absurd (none_late it.0 (has_right it.0 (joined (drop x.synced x.written)) x.current it.1) (has_right it.0 (joined x.written) x.current it.1)))
      (λ (le : length x.current ≤ 0). let e : length x.current ≡ 0 = omega arith in e) (cases_lt 0 (length x.current)))

  none_joined : length (joined (drop x.synced x.written)) ≡ 0
  none_joined = ⊎_elim
      (λ (lt : 0 < length (joined (drop x.synced x.written))). let it = has_first (joined (drop x.synced x.written)) lt in
      absurd (none_late it.0 (has_left it.0 (joined (drop x.synced x.written)) x.current it.1) (has_left it.0 (joined x.written) x.current (joined-dropped x.synced x.written it.0 it.1))))
      (λ (le : length (joined (drop x.synced x.written)) ≤ 0). let e : length (joined (drop x.synced x.written)) ≡ 0 = omega arith in e) (cases_lt 0 (length (joined (drop x.synced x.written))))

  pub all_synced : IsAllSynced x
  all_synced = record {
    synced = (let dropped = none_left (drop x.synced x.written) (fit_blocks-drop x.synced x.written kept.fit.0) none_joined in let few = kept.synced in omega (arith, length-drop x.synced x.written));
    current = no_current;
  }

-- ## The call

module _ (w : ℕ) (was is : Log) (old new : Story) (s0 : Crash) (g : Opening) (es : List Event) (x : Known) (it : IsLog g es s0 x w was old) where
  -- nothing was new
  pub whole_none : was.last ≡ was.flushed → is ≡ was → new ≡ old → IsWhole g es s0 x w was is new
  whole_none all same disk = record {
    known = x;
    stands = subst (λ (k : List Event). Stands g k s0 x new) (sym (ap (λ (k : List Event). es ++ k) none ∙ append-nil es)) (subst (Stands g es s0 x) (sym disk) it.stands);
    met = subst (AllMet g (state_after g es)) (sym none) tt;
    own = it.is ∙ sym same;
    last = ap (λ (l : Log). l.last) same;
    flushed = ap (λ (l : Log). l.flushed) same ∙ (sym all ∙ ap (λ (l : Log). l.last) (sym same));
    synced = all_synced (x.account w) was (old.area (suc w)) (subst (λ (l : Log). IsKept (x.account w) l (old.area (suc w))) it.is (it.stands.logs w it.low it.high).kept) all;
    logs = λ v n. refl;
    accounts = λ v n. refl;
    master = refl;
    firm = refl;
    late = refl;
  }
    where
      none : flush_of w was ≡ []
      none = cond-true (was.last == was.flushed) [] (Event.Flush w was.last ∷ []) (eq-eqb was.last was.flushed all)

  module _ (differs : was.last ≡ was.flushed → ⊥) (ends : EndsInRecord (state_after g es) w was) (after : is ≡ flushed_log was) (on : FlushesOn w was is old new) where
    abbrev s : State
    s = state_after g es

    abbrev e : Event
    e = Event.Flush w was.last

    one : flush_of w was ≡ e ∷ []
    one = cond-false (was.last == was.flushed) [] (e ∷ []) (ne_eqb was.last was.flushed differs)

    -- the need of the event is met
    may_flush : may g s e ≡ true
    may_flush =
        let d = ends differs in
        let a = (it.stands.logs w it.low it.high).accounts in
        let b = a.flushed in let c = a.order in
        let m = ap (λ (l : Log). l.last) it.is in
        and_from (leb (s.flushed w) was.last) (any (λ r. is_record r.kind && ((r.log == w) && (r.number == was.last))) s.entries) (le-leb (s.flushed w) was.last (omega arith))
        (has_any (λ r. is_record r.kind && ((r.log == w) && (r.number == was.last))) s.entries d.0 d.1
        (and_from (is_record d.0.kind) ((d.0.log == w) && (d.0.number == was.last)) d.2 (and_from (d.0.log == w) (d.0.number == was.last) (eq-eqb d.0.log w d.3) (eq-eqb d.0.number was.last d.4))))

    goes : state_after g (then es e) ≡ happens g s e
    goes = run_more g (start g) es (e ∷ []) ∙ cond-true (may g s e) (happens g s e) s may_flush

    flushes : Flushes w was.last s (state_after g (then es e))
    flushes = subst (Flushes w was.last s) (sym goes) (record {
      entries = refl;
      saved = λ p. refl;
      here = upd_same s.flushed w was.last w refl;
      flushed = λ v n. upd_other s.flushed w was.last v n;
      head = λ v. refl;
      floor = refl;
    })

    pub whole_some : IsWhole g es s0 x w was is new
    whole_some = record {
      known = with_log x w is (flushed (x.account w));
      stands = subst (λ (k : List Event). Stands g (es ++ k) s0 (with_log x w is (flushed (x.account w))) new) (sym one) (on s0 g es x e was.last it refl flushes (omega arith));
      met = subst (AllMet g s) (sym one) (may_flush, tt);
      own = upd_same x.log w is w refl;
      last = ap (λ (l : Log). l.last) after;
      flushed = ap (λ (l : Log). l.flushed) after ∙ ap (λ (l : Log). l.last) (sym after);
      synced = subst IsAllSynced (sym (upd_same x.account w (flushed (x.account w)) w refl)) (record { synced = refl; current = refl });
      logs = λ v n. upd_other x.log w is v n;
      accounts = λ v n. upd_other x.account w (flushed (x.account w)) v n;
      master = refl;
      firm = refl;
      late = refl;
    }
