-- A part of a call behind a part is one.
use Rattle.std.proofs.Common.{◌≡◌, ◌++◌, ◌||◌, ℕ, Bool, false, List, sym, ap, ◌∙◌, subst, append_assoc}
use Rattle.map_model.specs.Lists.{any}
use Rattle.session_state.specs.core_state.Openings.{Opening}
use Rattle.session_state.specs.core_state.Events as happening
use Rattle.session_state.specs.core_state.Local.{is_sync}
use Rattle.session_state.specs.core_state.States.{State}
use Rattle.session_state.specs.core_state.Steps as core
use Rattle.session_state.specs.core_state.Steps.{AllMet}
use Rattle.session_state.specs.core_calls.Fronts.{Done, front}
use Rattle.session_state.specs.disk_runs.Masters.{IsNoEarlier}
use Rattle.session_state.specs.disk_runs.Stands.{Known, Stands}
use Rattle.session_state.proofs.disk_runs.LineLemmas.{further}
use Rattle.lean_disk.specs.Moments.{LeavesOnly}
use Rattle.lean_disk.specs.Story.{Crash, IsLawful, Story}
use Rattle.session_state.specs.row_words.declared.event.Event.{Event}
use Rattle.session_state.specs.row_words.Moments.{events_of}
use Rattle.session_state.specs.rows_trait.declared.view.View.{View}
use Rattle.session_state.specs.engine_calls.Moves.{EveryMove}
use Rattle.session_state.specs.engine_calls.Parts.{behind_first}
use Rattle.session_state.proofs.engine_calls.MoveLemmas.{passes_join}
use Rattle.session_state.specs.Ties.{Behind}
use Rattle.session_state.proofs.Moments.{events_more}
use Rattle.call_parts.specs.Areas.{Around, Beside, is_save}
use Rattle.call_parts.specs.Laws.{EveryJoin}
use Rattle.call_parts.specs.Memory.{IsOf, Memory}
use Rattle.call_parts.specs.Parts.{Failed, GoesOn, Logged, Part}
use Rattle.call_parts.proofs.AreaLemmas.{around_join, either_none, within_join}
use Rattle.call_parts.proofs.RunLemmas.{any_join, behind_more, first_more, logs_join, met_join}

module _ (old mid new : Story) (law : IsLawful old) (move : EveryMove old mid new) (many : ℕ) (es : List Event) (v u w : View) (was between is : Memory) (p : Part many es v u was between old mid) where
  abbrev lead : List happening.Event
  lead = events_of es

  -- what comes next stands behind it
  next : (g : Opening) (xs : List Done) (first : List happening.Event) → Behind g xs first v → Behind g xs (first ++ lead) u
  next g xs first b = behind_more g xs first v b es u p.given p.seen (p.logged g xs first b).met

  module _ (later : List Event) (q : Part many later u w between is mid new) where
    abbrev rest : List happening.Event
    rest = events_of later

    saves : any is_save (lead ++ rest) ≡ (any is_save lead || any is_save rest)
    saves = any_join is_save lead rest

    syncs : any is_sync (lead ++ rest) ≡ (any is_sync lead || any is_sync rest)
    syncs = any_join is_sync lead rest

    around : Around many (any is_save (lead ++ rest)) (any is_sync (lead ++ rest)) old new
    around = subst (λ k. Around many k (any is_sync (lead ++ rest)) old new) (sym saves) (subst (λ k. Around many (any is_save lead || any is_save rest) k old new) (sym syncs)
        (around_join many (any is_save lead) (any is_sync lead) (any is_save rest) (any is_sync rest) old mid new p.around q.around))

    master : any is_sync (lead ++ rest) ≡ false → is.master ≡ was.master
    master none = let f = either_none (any is_sync lead) (any is_sync rest) (sym syncs ∙ none) in q.master f.1 ∙ p.master f.0

    module _ (g : Opening) (xs : List Done) (first : List happening.Event) (b : Behind g xs first v) where
      abbrev from : State
      from = behind_first g xs first

      a : Logged many g from lead was between
      a = p.logged g xs first b

      c : Logged many g (core.run g from lead) rest between is
      c = subst (λ t. Logged many g t rest between is) (first_more g xs first lead) (q.logged g xs (first ++ lead) (next g xs first b))

      logged : Logged many g from (lead ++ rest) was is
      logged = record { met = met_join g from lead rest a.met c.met; logs = λ n lo hi. logs_join n g lead rest from (was.log n) (between.log n) (is.log n) (a.logs n lo hi) (c.logs n lo hi) }

      goes : (s0 : Crash) (k : Known) → Stands g (front xs ++ first) s0 k old → IsOf g was k → GoesOn many g xs first (lead ++ rest) s0 k is old new
      goes s0 k st o =
          let x = p.goes g xs first b s0 k st o in
          let y = q.goes g xs (first ++ lead) (next g xs first b) s0 x.known x.moved.stands x.has in
          record {
            known = y.known;
            moved = (move g xs first s0 k law st).join lead rest x.known y.known x.moved y.moved;
            has = y.has;
            within = subst (λ z. LeavesOnly old new (Beside many z (any is_sync (lead ++ rest)) old)) (sym saves) (subst (λ z. LeavesOnly old new (Beside many (any is_save lead || any is_save rest) z old)) (sym syncs)
                (within_join many (any is_save lead) (any is_sync lead) (any is_save rest) (any is_sync rest) old mid new p.around x.within y.within));
          }

    all : lead ++ rest ≡ events_of (es ++ later)
    all = sym (events_more es later)

    pub join : Part many (es ++ later) v w was is old new
    join = record {
      given = q.given ∙ p.given;
      seen = q.seen ∙ (ap (λ ys. ys ++ later) p.seen ∙ append_assoc v.seen es later);
      around = subst (λ ys. Around many (any is_save ys) (any is_sync ys) old new) all around;
      master = subst (λ ys. any is_sync ys ≡ false → is.master ≡ was.master) all master;
      no_earlier = subst (λ ys. IsNoEarlier ys was.master is.master) all (further lead rest was.master between.master is.master p.no_earlier q.no_earlier);
      logged = λ g xs first b. subst (λ ys. Logged many g (behind_first g xs first) ys was is) all (logged g xs first b);
      goes = λ g xs first b s0 k st o. subst (λ ys. GoesOn many g xs first ys s0 k is old new) all (goes g xs first b s0 k st o);
    }

  pub failed : (saves syncs : Bool) (later : List happening.Event) → Failed many saves syncs later u between mid new → Failed many (any is_save lead || saves) (any is_sync lead || syncs) (lead ++ later) v was old new
  failed saves syncs later f = record {
    around = around_join many (any is_save lead) (any is_sync lead) saves syncs old mid new p.around f.around;
    fails = λ g xs first b s0 k st o.
        let x = p.goes g xs first b s0 k st o in
        let y = f.fails g xs (first ++ lead) (next g xs first b) s0 x.known x.moved.stands x.has in
        record {
          passes = passes_join g xs first lead later s0 k x.known old mid new x.moved.passes x.moved.line x.moved.notes y.passes;
          within = within_join many (any is_save lead) (any is_sync lead) saves syncs old mid new p.around x.within y.within;
        };
  }

pub every_join : (old mid new : Story) → IsLawful old → EveryMove old mid new → EveryJoin old mid new
every_join old mid new law move many es v u w was between is = record {
  behind = λ p g xs first b. next old mid new law move many es v u w was between is p g xs first b;
  join = λ later p q. join old mid new law move many es v u w was between is p later q;
  failed = λ saves syncs later p f. failed old mid new law move many es v u w was between is p saves syncs later f;
}
