-- A record that is staged is a part of a call, and so is a flush of the session's log.
use Rattle.std.proofs.Common.{◌≡◌, ◌⊎◌, inl, inr, ◌≤◌, ◌<◌, ◌++◌, ◌==◌, ℕ, suc, Bool, true, false, cond, List, [], ◌∷◌, length, refl, sym, ap, ◌∙◌, subst, arith, append_assoc, true≢false}
use Rattle.std.proofs.lemmas.Bool.{cases_eq, eqb-true}
use Rattle.map_model.specs.Lists.{any, upd}
use Rattle.map_model.proofs.ListLemmas.{upd_other, upd_same}
use Rattle.session_state.specs.image_model.Entries.{Entry, is_record}
use Rattle.session_state.specs.core_state.Openings.{Opening}
use Rattle.session_state.specs.core_state.Events as happening
use Rattle.session_state.specs.core_state.Local.{is_sync}
use Rattle.session_state.specs.core_state.Needs.{may}
use Rattle.session_state.specs.core_state.States.{State}
use Rattle.session_state.specs.core_state.Steps as core
use Rattle.session_state.specs.core_state.Steps.{AllMet, happens, put_back, state_after}
use Rattle.session_state.specs.core_disk.Versions.{is_cut, then}
use Rattle.session_state.specs.core_calls.Fronts.{Done, front}
use Rattle.session_state.specs.disk_image.Records.{entry_of}
use Rattle.session_state.specs.disk_runs.Laws.{with_log}
use Rattle.session_state.specs.disk_runs.Logs as logs
use Rattle.session_state.specs.disk_runs.Logs.{Records}
use Rattle.session_state.specs.disk_runs.Masters.{IsNoEarlier}
use Rattle.session_state.specs.disk_runs.Moments.{LeavesSome}
use Rattle.session_state.specs.disk_runs.Stands.{Known, LeavesRun, Stands}
use Rattle.session_state.proofs.disk_runs.LineLemmas.{same}
use Rattle.session_state.proofs.disk_runs.MomentLemmas.{some_laws}
use Rattle.lean_disk.proofs.MomentLemmas.{weaker}
use Rattle.lean_disk.specs.Moments.{LeavesOnly}
use Rattle.lean_disk.specs.Story.{Crash, Story}
use Rattle.session_state.specs.log_calls.Calls.{IsLog}
use Rattle.session_state.specs.log_calls.Wholes.{EndsInRecord, FlushesWhole, IsWhole, flush_of}
use Rattle.session_state.specs.row_words.declared.event.Event.{Event}
use Rattle.session_state.specs.row_words.declared.event.Event.TheVariants as told
use Rattle.session_state.specs.row_words.Moments.{event_of, events_of}
use Rattle.session_state.specs.row_words.Openings.{opening}
use Rattle.session_state.specs.row_opening.Openings.{EveryNeed, EveryReached}
use Rattle.session_state.specs.rows_trait.declared.view.View.{View}
use Rattle.session_state.specs.rows_trait.Views.{state}
use Rattle.session_state.specs.worker_log.Calls.{flushed_log}
use Rattle.session_state.specs.worker_log.Kept.{flushed}
use Rattle.session_state.specs.worker_log.Logs.{Log}
use Rattle.session_state.specs.engine_calls.Parts.{Passes, behind_first}
use Rattle.session_state.specs.engine_trait.Logs.{Logs, LogsEntry, LogsOne, OnOwn}
use Rattle.session_state.specs.Staging.{KeepsLog}
use Rattle.session_state.specs.Syncs.{FlushesOwn, flushed_of, flushes_of}
use Rattle.session_state.specs.Ties.{Behind}
use Rattle.session_state.specs.declared.session.Session.{Session}
use Rattle.session_state.proofs.Frames.{within_of}
use Rattle.page_calls.specs.Slots.{is_some}
use Rattle.call_parts.specs.Areas.{Beside, IsAside, is_save}
use Rattle.call_parts.specs.Laws.{EveryOwn}
use Rattle.call_parts.specs.Memory.{IsOf, Memory, with_own}
use Rattle.call_parts.specs.Parts.{Failed, GoesOn, Part}
use Rattle.call_parts.specs.Steps.{Flushes, Stages, is_entered}
use Rattle.call_parts.proofs.AreaLemmas.{around_framed, log_aside, within_framed}
use Rattle.call_parts.proofs.RunLemmas.{core_is, first_more, front_is, happens_in, met_in}

-- ## An event that enters a record

-- what it leaves as it was
record Kept (s t : State) (r : Entry) : Type 0 where
  kind : is_record r.kind ≡ true
  saved : (p : ℕ) → t.saved p ≡ s.saved p
  flushed : (w : ℕ) → t.flushed w ≡ s.flushed w
  head : (w : ℕ) → t.head w ≡ s.head w
  floor : t.floor ≡ s.floor

-- and what is so of it
record Entered (own : ℕ) (g : Opening) (s : State) (e : happening.Event) (r : Entry) : Type 0 where
  kept : Kept s (happens g s e) r
  cut : is_cut e ≡ false
  one : (u : ℕ) (t : State) (was is : Log) → OnOwn own u (LogsEntry u g t e was is) (is ≡ was) → LogsOne u g t e was is

head_is : (a b : Entry) (ps qs : List Entry) → a ∷ ps ≡ b ∷ qs → a ≡ b
head_is a b ps qs q = cc

kind_of : (x r : Entry) (es : List Entry) → x ∷ es ≡ r ∷ es → is_record x.kind ≡ true → is_record r.kind ≡ true
kind_of x r es q k = ap (λ (a : Entry). is_record a.kind) (sym (head_is x r es es q)) ∙ k

no_cycle : (es : List Entry) (r : Entry) → es ≡ r ∷ es → ⊥
no_cycle es r q = absurd (let n = ap (λ (k : List Entry). length k) q in omega arith)

-- of a session that is the log's own
turn : (v own u : ℕ) (P Q : Type 0) → (v == own) ≡ true → OnOwn own u P Q → OnOwn v u P Q
turn v own u P Q e x = let q = eqb-true v own e in record { own = λ p. x.own (sym q ∙ p); other = λ apart. x.other (λ p. apart (q ∙ p)) }

entered : (own : ℕ) (g : Opening) (s : State) (e : happening.Event) → is_entered own e ≡ true → (r : Entry) → (happens g s e).entries ≡ r ∷ s.entries → Entered own g s e r
entered own g s (happening.Event.Change w p k v) a r q = record {
  kept = record { kind = kind_of _ r s.entries q refl; saved = λ j. refl; flushed = λ j. refl; head = λ j. refl; floor = refl };
  cut = refl;
  one = λ u t was is x. turn w own u (LogsEntry u g t (happening.Event.Change w p k v) was is) (is ≡ was) a x;
}
entered own g s (happening.Event.Put_back w p) a r q = record { kept = go (s.worker w).changes q; cut = refl; one = λ u t was is x. turn w own u (LogsEntry u g t (happening.Event.Put_back w p) was is) (is ≡ was) a x }
  where
    go : (cs : List Entry) → (put_back g s w p cs).entries ≡ r ∷ s.entries → Kept s (put_back g s w p cs) r
    go [] q = absurd (no_cycle s.entries r q)
    go (c ∷ cs) q = record { kind = kind_of _ r s.entries q refl; saved = λ j. refl; flushed = λ j. refl; head = λ j. refl; floor = refl }
entered own g s (happening.Event.Split w l m p i) a r q = record {
  kept = record { kind = kind_of _ r s.entries q refl; saved = λ j. refl; flushed = λ j. refl; head = λ j. refl; floor = refl };
  cut = refl;
  one = λ u t was is x. turn w own u (LogsEntry u g t (happening.Event.Split w l m p i) was is) (is ≡ was) a x;
}
entered own g s (happening.Event.Lift w c) a r q = record {
  kept = record { kind = kind_of _ r s.entries q refl; saved = λ j. refl; flushed = λ j. refl; head = λ j. refl; floor = refl };
  cut = refl;
  one = λ u t was is x. turn w own u (LogsEntry u g t (happening.Event.Lift w c) was is) (is ≡ was) a x;
}
entered own g s (happening.Event.Join w l m p) a r q = record {
  kept = record { kind = kind_of _ r s.entries q refl; saved = λ j. refl; flushed = λ j. refl; head = λ j. refl; floor = refl };
  cut = refl;
  one = λ u t was is x. turn w own u (LogsEntry u g t (happening.Event.Join w l m p) was is) (is ≡ was) a x;
}
entered own g s (happening.Event.Drop w c) a r q = record {
  kept = record { kind = kind_of _ r s.entries q refl; saved = λ j. refl; flushed = λ j. refl; head = λ j. refl; floor = refl };
  cut = refl;
  one = λ u t was is x. turn w own u (LogsEntry u g t (happening.Event.Drop w c) was is) (is ≡ was) a x;
}
entered own g s (happening.Event.Purge w p keys) a r q = record {
  kept = record { kind = kind_of _ r s.entries q refl; saved = λ j. refl; flushed = λ j. refl; head = λ j. refl; floor = refl };
  cut = refl;
  one = λ u t was is x. turn w own u (LogsEntry u g t (happening.Event.Purge w p keys) was is) (is ≡ was) a x;
}
entered own g s (happening.Event.End w true f) a r q = record {
  kept = record { kind = kind_of _ r s.entries q refl; saved = λ j. refl; flushed = λ j. refl; head = λ j. refl; floor = refl };
  cut = refl;
  one = λ u t was is x. turn w own u (LogsEntry u g t (happening.Event.End w true f) was is) (is ≡ was) a x;
}
entered own g s (happening.Event.End w false f) a r q = record {
  kept = record { kind = kind_of _ r s.entries q refl; saved = λ j. refl; flushed = λ j. refl; head = λ j. refl; floor = refl };
  cut = refl;
  one = λ u t was is x. turn w own u (LogsEntry u g t (happening.Event.End w false f) was is) (is ≡ was) a x;
}
entered own g s _ a r q = absurd (true≢false (sym a))

-- the log of a session, or another one
on_log : (own u : ℕ) (was : ℕ → Log) (log : Log) (P : ℕ → Log → Log → Type 0) → P own (was own) log → OnOwn own u (P u (was u) (upd was own log u)) (upd was own log u ≡ was u)
on_log own u was log P p = record {
  own = λ q. subst (λ n. P n (was n) (upd was own log n)) q (subst (λ l. P own (was own) l) (sym (upd_same was own log own refl)) p);
  other = λ apart. upd_other was own log u (λ q. apart (sym q));
}

-- ## A call on the session's log

module _ (reached : EveryReached) (needs : EveryNeed) (many own : ℕ) (v : View) (was : Memory) (low : 0 < own) (high : own ≤ many) (workers : (opening v.given).workers ≡ many) (old new : Story) (keeps : KeepsLog own (was.log own) old new) where
  -- no area of its own is aside
  apart : (a b : Bool) (x : ℕ) → IsAside many a b x → x ≡ suc own → ⊥
  apart a b x = log_aside many own x a b low high

  module _ (g : Opening) (xs : List Done) (first : List happening.Event) (b : Behind g xs first v) (s0 : Crash) (a : Known) (st : Stands g (front xs ++ first) s0 a old) (o : IsOf g was a) where
    high_in : own ≤ g.workers
    high_in = let q = b.opens.workers in let n = workers in let h = high in omega arith

    is_log : IsLog g (front xs ++ first) s0 a own (was.log own) old
    is_log = record { stands = st; low = low; high = high_in; is = o.log own low high_in }

    passes : (es : List happening.Event) → Passes g xs first es s0 a old new
    passes es = record {
      told = keeps.on.told s0 g (front xs ++ first) a is_log;
      any_moment = weaker old new (LeavesRun g (front xs ++ first) s0 a.master) (LeavesSome g (front xs ++ first) es s0 a.master) (λ c. (some_laws g (front xs ++ first) s0 a.master c).run es) (keeps.on.moments s0 g (front xs ++ first) a is_log);
    }

    within : (saves syncs : Bool) → LeavesOnly old new (Beside many saves syncs old)
    within saves syncs = within_framed many (suc own) saves syncs old new (apart saves syncs) (within_of own old new (keeps.within s0 g (front xs ++ first) a is_log))

    -- behind these events, by which the log is so
    goes_on : (es : List happening.Event) (k : Known) (log : Log) → k.master ≡ a.master → k.firm ≡ a.firm → k.late ≡ a.late → k.log own ≡ log → ((u : ℕ) → (u ≡ own → ⊥) → k.log u ≡ a.log u) → Stands g ((front xs ++ first) ++ es) s0 k new
        → GoesOn many g xs first es s0 a (with_own own log was) old new
    goes_on es k log master firm late here others stands = record {
      known = k;
      moved = record {
        line = subst (λ m. IsNoEarlier es a.master m) (sym master) (same es a.master);
        passes = passes es;
        stands = subst (λ ys. Stands g ys s0 k new) (append_assoc (front xs) first es) stands;
        notes = keeps.on.notes;
      };
      has = record {
        log = λ u lo hi. at u lo hi (cases_eq u own);
        master = master ∙ o.master;
        slots = λ p s q. (ap (λ f. (f p).slot) firm ∙ (o.slots p s q).0, ap (λ f. is_some (f p)) late ∙ (o.slots p s q).1);
      };
      within = within (any is_save es) (any is_sync es);
    }
      where
        at : (u : ℕ) → 0 < u → u ≤ g.workers → (u ≡ own) ⊎ (u ≡ own → ⊥) → k.log u ≡ upd was.log own log u
        at u lo hi (inl q) = ap k.log q ∙ (here ∙ sym (upd_same was.log own log u q))
        at u lo hi (inr other) = others u other ∙ (o.log u lo hi ∙ sym (upd_other was.log own log u other))

  fails : Failed many false false [] v was old new
  fails = record {
    around = around_framed many (suc own) false false old new (apart false false) keeps.frame;
    fails = λ g xs first b s0 a st o. record { passes = passes g xs first b s0 a st o []; within = within g xs first b s0 a st o false false };
  }

-- ## A record

module _ (reached : EveryReached) (needs : EveryNeed) (many own : ℕ) (v w : View) (was : Memory) (log : Log) (low : 0 < own) (high : own ≤ many) (workers : (opening v.given).workers ≡ many) (old new : Story) (e : Event) (s : Stages own e v w (was.log own) log old new) where
  abbrev ev : happening.Event
  ev = event_of e

  met : may (opening v.given) (state v).core ev ≡ true
  met = s.sees.met.0

  module _ (g : Opening) (xs : List Done) (first : List happening.Event) (b : Behind g xs first v) where
    abbrev at : State
    at = behind_first g xs first

    met_at : AllMet g at (ev ∷ [])
    met_at = met_in reached needs g xs first v b (e ∷ []) s.sees.met

    step_at : core.step g at ev ≡ happens g at ev
    step_at = ap (λ c. cond c (happens g at ev) at) met_at.0

    entries_at : (happens g at ev).entries ≡ entry_of own s.entry ∷ at.entries
    entries_at = ap (λ (k : State). k.entries) (sym (happens_in reached needs g xs first v b e met ∙ step_at)) ∙ (s.enters.entry_is ∙ ap (λ (k : State). entry_of own s.entry ∷ k.entries) (core_is reached needs g xs first v b))

    facts : Entered own g at ev (entry_of own s.entry)
    facts = entered own g at ev s.enters.of_own (entry_of own s.entry) entries_at

    logs_at : (u : ℕ) → Logs u g at (ev ∷ []) (was.log u) (upd was.log own log u)
    logs_at u = (
      upd was.log own log u,
      facts.one u at (was.log u) (upd was.log own log u)
          (on_log own u was.log log (λ n x y. LogsEntry n g at ev x y) (record { record_of = s.entry; entry = ap (λ (k : State). k.entries) step_at ∙ entries_at; after = s.after })),
      refl,
    )

    records : Records own (entry_of own s.entry) (state_after g (front xs ++ first)) (state_after g (then (front xs ++ first) ev))
    records = subst (λ t. Records own (entry_of own s.entry) t (state_after g (then (front xs ++ first) ev))) (sym (front_is g xs first))
        (subst (λ t. Records own (entry_of own s.entry) at t) (sym there) (record {
          entries = entries_at;
          kind = facts.kept.kind;
          log = refl;
          saved = facts.kept.saved;
          flushed = facts.kept.flushed;
          head = facts.kept.head;
          floor = facts.kept.floor;
        }))
      where
        there : state_after g (then (front xs ++ first) ev) ≡ happens g at ev
        there = ap (state_after g) (append_assoc (front xs) first (ev ∷ [])) ∙ (front_is g xs (first ++ ev ∷ []) ∙ (first_more g xs first (ev ∷ []) ∙ step_at))

  pub stage : Part many (e ∷ []) v w was (with_own own log was) old new
  stage = record {
    given = s.sees.given;
    seen = s.sees.seen;
    around = around_framed many (suc own) (any is_save (ev ∷ [])) (any is_sync (ev ∷ [])) old new (λ x. log_aside many own x (any is_save (ev ∷ [])) (any is_sync (ev ∷ [])) low high) s.keeps.frame;
    master = λ q. refl;
    no_earlier = same (ev ∷ []) was.master;
    logged = λ g xs first b. record { met = met_at g xs first b; logs = λ u lo hi. logs_at g xs first b u };
    goes = λ g xs first b s0 a st o.
        let q = s.stands s0 g (front xs ++ first) a ev (is_log reached needs many own v was low high workers old new s.keeps g xs first b s0 a st o) (facts g xs first b).cut (records g xs first b) in
        goes_on reached needs many own v was low high workers old new s.keeps g xs first b s0 a st o (ev ∷ []) (with_log a own log q.0) log refl refl refl (upd_same a.log own log own refl) (λ u other. upd_other a.log own log u other) q.1;
  }

-- ## A flush

module _ (reached : EveryReached) (needs : EveryNeed) (many own : ℕ) (v w : View) (was : Memory) (log : Log) (low : 0 < own) (high : own ≤ many) (workers : (opening v.given).workers ≡ many) (old new : Story) where
  module _ (number : ℕ) (s : Flushes own number v w (was.log own) log old new) where
    abbrev fl : happening.Event
    fl = happening.Event.Flush own number

    module _ (g : Opening) (xs : List Done) (first : List happening.Event) (b : Behind g xs first v) where
      abbrev from : State
      from = behind_first g xs first

      fl_met : AllMet g from (fl ∷ [])
      fl_met = met_in reached needs g xs first v b (told.Flush own number ∷ []) s.sees.met

      flushes : logs.Flushes own number (state_after g (front xs ++ first)) (state_after g (then (front xs ++ first) fl))
      flushes = subst (λ t. logs.Flushes own number t (state_after g (then (front xs ++ first) fl))) (sym (front_is g xs first))
          (subst (λ t. logs.Flushes own number from t) (sym there) (record {
            entries = refl;
            saved = λ p. refl;
            here = upd_same from.flushed own number own refl;
            flushed = λ u other. upd_other from.flushed own number u other;
            head = λ u. refl;
            floor = refl;
          }))
        where
          there : state_after g (then (front xs ++ first) fl) ≡ happens g from fl
          there = ap (state_after g) (append_assoc (front xs) first (fl ∷ [])) ∙ (front_is g xs (first ++ fl ∷ []) ∙ (first_more g xs first (fl ∷ []) ∙ ap (λ c. cond c (happens g from fl) from) fl_met.0))

    pub flush : Part many (told.Flush own number ∷ []) v w was (with_own own log was) old new
    flush = record {
      given = s.sees.given;
      seen = s.sees.seen;
      around = around_framed many (suc own) false false old new (λ x. log_aside many own x false false low high) s.keeps.frame;
      master = λ q. refl;
      no_earlier = same (fl ∷ []) was.master;
      logged = λ g xs first b. record { met = fl_met g xs first b; logs = λ u lo hi. (upd was.log own log u, on_log own u was.log log (λ n x y. y ≡ flushed_log x) s.after, refl) };
      goes = λ g xs first b s0 a st o.
          goes_on reached needs many own v was low high workers old new s.keeps g xs first b s0 a st o (fl ∷ []) (with_log a own log (flushed (a.account own))) log refl refl refl (upd_same a.log own log own refl) (λ u other. upd_other a.log own log u other)
          (s.stands s0 g (front xs ++ first) a fl number (is_log reached needs many own v was low high workers old new s.keeps g xs first b s0 a st o) refl (flushes g xs first b) s.within);
    }

  -- ## A flush of all that the log has

  -- the same events behind the same ones
  cancel : (xs ys zs : List Event) → xs ++ ys ≡ xs ++ zs → ys ≡ zs
  cancel [] ys zs q = q
  cancel (x ∷ xs) ys zs q = cancel xs ys zs (tail x (xs ++ ys) (xs ++ zs) q)
    where
      tail : (e : Event) (ps qs : List Event) → e ∷ ps ≡ e ∷ qs → ps ≡ qs
      tail e ps qs q = cc

  logs_one : (u n : ℕ) (g : Opening) (s : State) (x y : Log) (b : Bool) → (own ≡ u → y ≡ cond b x (flushed_log x)) → ((own ≡ u → ⊥) → y ≡ x) → Logs u g s (cond b [] (happening.Event.Flush own n ∷ [])) x y
  logs_one u n g s x y true here other = elim (cases_eq own u) [ inl q ↦ here q | inr q ↦ other q ]
  logs_one u n g s x y false here other = (y, record { own = here; other = other }, refl)

  module _ (ends : EndsInRecord (state v).core own (was.log own)) (keeps : KeepsLog own (was.log own) old new) where
    whole_own : (x y : Session) → x.own ≡ own → FlushesOwn v w x y (was.log own) log old new → Part many (flushes_of own (was.log own)) v w was (with_own own log was) old new
    whole_own x y is f = record {
      given = f.given;
      seen = seen_is;
      around = around_framed many (suc own) (any is_save (events_of (flushes_of own (was.log own)))) (any is_sync (events_of (flushes_of own (was.log own)))) old new
          (λ x. log_aside many own x (any is_save (events_of (flushes_of own (was.log own)))) (any is_sync (events_of (flushes_of own (was.log own)))) low high) keeps.frame;
      master = λ q. refl;
      no_earlier = same (events_of (flushes_of own (was.log own))) was.master;
      logged = λ g xs first b. record {
        met = met_in reached needs g xs first v b (flushes_of own (was.log own)) met_is;
        logs = λ u lo hi. subst (λ ys. Logs u g (behind_first g xs first) ys (was.log u) (upd was.log own log u)) (sym core_of)
            (logs_at u g (behind_first g xs first));
      };
      goes = λ g xs first b s0 a st o. subst (λ ys. GoesOn many g xs first ys s0 a (with_own own log was) old new) (sym core_of) (goes g xs first b s0 a st o);
    }
      where
        seen_is : w.seen ≡ v.seen ++ flushes_of own (was.log own)
        seen_is = subst (λ n. w.seen ≡ v.seen ++ flushes_of n (was.log own)) is f.seen

        core_of : events_of (flushes_of own (was.log own)) ≡ flush_of own (was.log own)
        core_of = subst (λ n. events_of (flushes_of n (was.log own)) ≡ flush_of n (was.log own)) is f.core

        met_is : AllMet (opening v.given) (state v).core (events_of (flushes_of own (was.log own)))
        met_is = subst (λ ys. AllMet (opening v.given) (state v).core (events_of ys)) (cancel v.seen f.steps.events (flushes_of own (was.log own)) (sym f.steps.seen ∙ seen_is)) f.steps.met

        logs_at : (u : ℕ) (g : Opening) (s : State) → Logs u g s (flush_of own (was.log own)) (was.log u) (upd was.log own log u)
        logs_at u g s = let q = on_log own u was.log log (λ n x y. y ≡ flushed_of x) f.after in
            logs_one u (was.log own).last g s (was.log u) (upd was.log own log u) ((was.log own).last == (was.log own).flushed)
            (λ e. subst (λ n. upd was.log own log u ≡ cond ((was.log n).last == (was.log n).flushed) (was.log u) (flushed_log (was.log u))) (sym e) (q.own e)) (λ e. q.other e)

        goes : (g : Opening) (xs : List Done) (first : List happening.Event) → Behind g xs first v → (s0 : Crash) (a : Known) → Stands g (front xs ++ first) s0 a old → IsOf g was a → GoesOn many g xs first (flush_of own (was.log own)) s0 a (with_own own log was) old new
        goes g xs first b s0 a st o = goes_on reached needs many own v was low high workers old new keeps g xs first b s0 a st o (flush_of own (was.log own)) k.known log k.master k.firm k.late k.own k.logs k.stands
          where
            k : IsWhole g (front xs ++ first) s0 a own (was.log own) log new
            k = subst (λ n. FlushesWhole n (was.log own) log old new) is f.stands s0 g (front xs ++ first) a (is_log reached needs many own v was low high workers old new keeps g xs first b s0 a st o)
                (subst (λ t. EndsInRecord t own (was.log own)) (core_is reached needs g xs first v b ∙ sym (front_is g xs first)) ends)

pub every_own : EveryReached → EveryNeed → (old new : Story) → EveryOwn old new
every_own reached needs old new many own v w was log low high workers = record {
  stage = λ e s. stage reached needs many own v w was log low high workers old new e s;
  flush = λ number s. flush reached needs many own v w was log low high workers old new number s;
  whole = λ x y is ends f keeps. whole_own reached needs many own v w was log low high workers old new ends keeps x y is f;
  fails = λ keeps. fails reached needs many own v was low high workers old new keeps;
}
