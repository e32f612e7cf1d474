-- Events that no log has are a part of a call, and so are pages that are moved.
use Rattle.std.proofs.Common.{◌≡◌, ◌++◌, ℕ, suc, true, false, List, [], ◌∷◌, length, refl, sym, ap, ◌∙◌, subst, arith, append_assoc, true≢false}
use Rattle.std.proofs.lemmas.List.{append-nil}
use Rattle.map_model.specs.Lists.{all, any}
use Rattle.session_state.specs.core_state.Openings.{Opening}
use Rattle.session_state.specs.core_state.Events as happening
use Rattle.session_state.specs.core_state.Local.{is_sync}
use Rattle.session_state.specs.core_state.States.{State}
use Rattle.session_state.specs.core_state.Steps as core
use Rattle.session_state.specs.core_disk.Versions.{EveryVersion}
use Rattle.session_state.specs.core_calls.Fronts.{Done, front}
use Rattle.session_state.specs.disk_image.Laws.{EverySealed}
use Rattle.session_state.specs.disk_runs.Masters.{IsNoEarlier}
use Rattle.session_state.specs.disk_runs.Moments.{LeavesSome}
use Rattle.session_state.specs.disk_runs.Quiet.{is_quiet}
use Rattle.session_state.specs.disk_runs.Stands.{Known, LeavesRun, Stands}
use Rattle.session_state.proofs.disk_runs.LineLemmas.{same}
use Rattle.session_state.proofs.disk_runs.MomentLemmas.{some_laws}
use Rattle.session_state.proofs.disk_runs.StandLemmas.{every_same, log_part, master_part, page_part}
use Rattle.session_state.specs.disk_slots.declared.master.Master.{Master}
use Rattle.lean_disk.proofs.MomentLemmas.{reads_none, weaker}
use Rattle.lean_disk.specs.Moments.{AsAt, LeavesOnly, OnlyReads}
use Rattle.lean_disk.specs.Story.{Crash, IsLawful, Story}
use Rattle.page_calls.specs.Calls.{IsOn}
use Rattle.page_calls.specs.declared.slots.Slot.{Slot}
use Rattle.session_state.specs.row_words.declared.event.Event.{Event}
use Rattle.session_state.specs.row_words.Moments.{events_of}
use Rattle.session_state.specs.row_opening.Openings.{EveryNeed, EveryReached}
use Rattle.session_state.specs.rows_trait.declared.view.View.{View}
use Rattle.session_state.specs.worker_log.Laws.{EveryKept, EveryPrefix}
use Rattle.session_state.specs.worker_log.Logs.{Log}
use Rattle.session_state.specs.engine_calls.Moves.{Moved}
use Rattle.session_state.specs.engine_calls.Parts.{behind_first}
use Rattle.session_state.proofs.engine_calls.PartLemmas.{quiet_all}
use Rattle.session_state.specs.engine_trait.Logs.{Logs}
use Rattle.session_state.specs.Ties.{Behind}
use Rattle.call_parts.specs.Areas.{Around, Beside, is_save}
use Rattle.call_parts.specs.Laws.{EveryStep}
use Rattle.call_parts.specs.Memory.{IsOf, Memory, with_slots}
use Rattle.call_parts.specs.Parts.{Failed, GoesOn, Part}
use Rattle.call_parts.specs.Steps.{Breaks, Moves, Sees, moves_page, told_by}
use Rattle.call_parts.proofs.AreaLemmas.{reads_apart}
use Rattle.call_parts.proofs.RunLemmas.{met_in, none_of}

-- ## What is so of such events

quiet_save : (e : happening.Event) → is_quiet e ≡ true → is_save e ≡ false
quiet_save (happening.Event.Save p) q = absurd (true≢false (sym q))
quiet_save _ q = refl

quiet_sync : (e : happening.Event) → is_quiet e ≡ true → is_sync e ≡ false
quiet_sync (happening.Event.Sync n) q = absurd (true≢false (sym q))
quiet_sync _ q = refl

moves_sync : (e : happening.Event) → moves_page e ≡ true → is_sync e ≡ false
moves_sync (happening.Event.Sync n) q = absurd (true≢false (sym q))
moves_sync _ q = refl

quiet_logs : (w : ℕ) (g : Opening) (s : State) (es : List happening.Event) (l : Log) → all is_quiet es ≡ true → Logs w g s es l l
quiet_logs w g s [] l q = refl
quiet_logs w g s (happening.Event.Enter v e ∷ es) l q = (l, refl, quiet_logs w g (core.step g s (happening.Event.Enter v e)) es l q)
quiet_logs w g s (happening.Event.Leave v ∷ es) l q = (l, refl, quiet_logs w g (core.step g s (happening.Event.Leave v)) es l q)
quiet_logs w g s (happening.Event.Begin v f ∷ es) l q = (l, refl, quiet_logs w g (core.step g s (happening.Event.Begin v f)) es l q)
quiet_logs w g s (happening.Event.Lock v i mode ∷ es) l q = (l, refl, quiet_logs w g (core.step g s (happening.Event.Lock v i mode)) es l q)
quiet_logs w g s (happening.Event.Read v p k a ∷ es) l q = (l, refl, quiet_logs w g (core.step g s (happening.Event.Read v p k a)) es l q)
quiet_logs w g s (happening.Event.Next v p k a ∷ es) l q = (l, refl, quiet_logs w g (core.step g s (happening.Event.Next v p k a)) es l q)
quiet_logs w g s (happening.Event.Peek v p k a ∷ es) l q = (l, refl, quiet_logs w g (core.step g s (happening.Event.Peek v p k a)) es l q)
quiet_logs w g s (happening.Event.Unlock v i ∷ es) l q = (l, refl, quiet_logs w g (core.step g s (happening.Event.Unlock v i)) es l q)
quiet_logs w g s (happening.Event.Post v n ∷ es) l q = (l, refl, quiet_logs w g (core.step g s (happening.Event.Post v n)) es l q)
quiet_logs w g s (happening.Event.Fetch p pairs ∷ es) l q = (l, refl, quiet_logs w g (core.step g s (happening.Event.Fetch p pairs)) es l q)
quiet_logs w g s (happening.Event.Load p f ∷ es) l q = (l, refl, quiet_logs w g (core.step g s (happening.Event.Load p f)) es l q)
quiet_logs w g s (happening.Event.Cool p ∷ es) l q = (l, refl, quiet_logs w g (core.step g s (happening.Event.Cool p)) es l q)
quiet_logs w g s (happening.Event.Rescue p ∷ es) l q = (l, refl, quiet_logs w g (core.step g s (happening.Event.Rescue p)) es l q)
quiet_logs w g s (happening.Event.Evict p ∷ es) l q = (l, refl, quiet_logs w g (core.step g s (happening.Event.Evict p)) es l q)
quiet_logs w g s (happening.Event.Tick ∷ es) l q = (l, refl, quiet_logs w g (core.step g s happening.Event.Tick) es l q)
quiet_logs w g s (happening.Event.Ask v ∷ es) l q = (l, refl, quiet_logs w g (core.step g s (happening.Event.Ask v)) es l q)
quiet_logs w g s (happening.Event.Refused v n m ∷ es) l q = (l, refl, quiet_logs w g (core.step g s (happening.Event.Refused v n m)) es l q)
quiet_logs w g s (happening.Event.Miss v ∷ es) l q = (l, refl, quiet_logs w g (core.step g s (happening.Event.Miss v)) es l q)
quiet_logs w g s (e ∷ es) l q = absurd (true≢false (sym q))

moves_logs : (w : ℕ) (g : Opening) (s : State) (es : List happening.Event) (l : Log) → all moves_page es ≡ true → Logs w g s es l l
moves_logs w g s [] l q = refl
moves_logs w g s (happening.Event.Fetch p pairs ∷ es) l q = (l, refl, moves_logs w g (core.step g s (happening.Event.Fetch p pairs)) es l q)
moves_logs w g s (happening.Event.Load p f ∷ es) l q = (l, refl, moves_logs w g (core.step g s (happening.Event.Load p f)) es l q)
moves_logs w g s (happening.Event.Cool p ∷ es) l q = (l, refl, moves_logs w g (core.step g s (happening.Event.Cool p)) es l q)
moves_logs w g s (happening.Event.Rescue p ∷ es) l q = (l, refl, moves_logs w g (core.step g s (happening.Event.Rescue p)) es l q)
moves_logs w g s (happening.Event.Save p ∷ es) l q = (l, refl, moves_logs w g (core.step g s (happening.Event.Save p)) es l q)
moves_logs w g s (happening.Event.Evict p ∷ es) l q = (l, refl, moves_logs w g (core.step g s (happening.Event.Evict p)) es l q)
moves_logs w g s (happening.Event.Tick ∷ es) l q = (l, refl, moves_logs w g (core.step g s happening.Event.Tick) es l q)
moves_logs w g s (happening.Event.Miss v ∷ es) l q = (l, refl, moves_logs w g (core.step g s (happening.Event.Miss v)) es l q)
moves_logs w g s (e ∷ es) l q = absurd (true≢false (sym q))

-- ## Events that the disk does not see

module _ (versions : EveryVersion) (keeps : EveryKept) (prefixes : EveryPrefix) (seals : EverySealed) (g : Opening) (xs : List Done) (first es : List happening.Event) (s0 : Crash) (a : Known) (old new : Story) (st : Stands g (front xs ++ first) s0 a old) (quiet : all is_quiet es ≡ true) (r : OnlyReads old new) where
  -- a crash that might have been where the disk stood
  as_at : (c : Crash) → AsAt old c → LeavesRun g (front xs ++ first) s0 a.master c
  as_at c at fair = record {
    master = master_part keeps prefixes seals g (front xs ++ first) s0 a old st c fair (at.writes 0 (st.tells 0 (omega arith))) (at.leaves 0 (st.tells 0 (omega arith)));
    is = st.is;
    logs = λ w low high. log_part keeps prefixes seals g (front xs ++ first) s0 a old st c fair w low high (at.writes (suc w) (st.tells (suc w) (omega arith))) (at.leaves (suc w) (st.tells (suc w) (omega arith)));
    pages = page_part keeps prefixes seals g (front xs ++ first) s0 a old st c fair (at.writes 1 (st.tells 1 (omega arith))) (at.leaves 1 (st.tells 1 (omega arith)));
  }

  reads_moved : Moved g xs first es s0 a a old new
  reads_moved = record {
    line = same es a.master;
    passes = record {
      told = weaker old new (AsAt old) (λ c. c.notes ≡ old.notes) (λ c at. at.notes) r.any_moment;
      any_moment = weaker old new (AsAt old) (LeavesSome g (front xs ++ first) es s0 a.master) (λ c at. (some_laws g (front xs ++ first) s0 a.master c).run es (as_at c at)) r.any_moment;
    };
    stands = subst (λ ys. Stands g ys s0 a new) (append_assoc (front xs) first es)
        (quiet_all versions g (front xs ++ first) es s0 a new quiet (every_same old new s0 g (front xs ++ first) a st (λ x le. r.tells x ∙ st.tells x le) (λ x le. r.area x)));
    notes = r.notes;
  }

module _ (reached : EveryReached) (needs : EveryNeed) (versions : EveryVersion) (keeps : EveryKept) (prefixes : EveryPrefix) (seals : EverySealed) (many : ℕ) (v w : View) (was : Memory) (old new : Story) where
  pub reads : (es : List Event) → Sees es v w → all is_quiet (events_of es) ≡ true → OnlyReads old new → Part many es v w was was old new
  reads es s quiet r = record {
    given = s.given;
    seen = s.seen;
    around = subst (λ k. Around many k (any is_sync (events_of es)) old new) (sym saves) (subst (λ k. Around many false k old new) (sym syncs) (reads_apart many old new r).around);
    master = λ q. refl;
    no_earlier = same (events_of es) was.master;
    logged = λ g xs first b. record { met = met_in reached needs g xs first v b es s.met; logs = λ u low high. quiet_logs u g (behind_first g xs first) (events_of es) (was.log u) quiet };
    goes = λ g xs first b s0 a st o. record {
      known = a;
      moved = reads_moved versions keeps prefixes seals g xs first (events_of es) s0 a old new st quiet r;
      has = o;
      within = subst (λ k. LeavesOnly old new (Beside many k (any is_sync (events_of es)) old)) (sym saves) (subst (λ k. LeavesOnly old new (Beside many false k old)) (sym syncs) (reads_apart many old new r).within);
    };
  }
    where
      saves : any is_save (events_of es) ≡ false
      saves = none_of is_quiet is_save quiet_save (events_of es) quiet

      syncs : any is_sync (events_of es) ≡ false
      syncs = none_of is_quiet is_sync quiet_sync (events_of es) quiet

-- ## Pages

module _ (v : View) (was : Memory) (count : length was.slots ≡ was.master.pages) (g : Opening) (xs : List Done) (first : List happening.Event) (b : Behind g xs first v) (s0 : Crash) (a : Known) (old : Story) (st : Stands g (front xs ++ first) s0 a old) (o : IsOf g was a) where
  -- a run over the disk is known of its slots
  is_on : IsOn g (told_by v) s0 a was.slots old
  is_on = record {
    stands = subst (λ ys. Stands g ys s0 a old) (sym b.seen) st;
    knows = record { count = count ∙ ap (λ (m : Master). m.pages) (sym o.master); each = o.slots };
  }

module _ (reached : EveryReached) (needs : EveryNeed) (many : ℕ) (v w : View) (was : Memory) (old new : Story) (count : length was.slots ≡ was.master.pages) where
  pub pages : (es : List Event) (slots : List Slot) → Moves many es v w was slots old new → Part many es v w was (with_slots slots was) old new
  pages es slots m = record {
    given = m.sees.given;
    seen = m.sees.seen;
    around = subst (λ k. Around many (any is_save (events_of es)) k old new) (sym syncs) m.apart.around;
    master = λ q. refl;
    no_earlier = same (events_of es) was.master;
    logged = λ g xs first b. record { met = met_in reached needs g xs first v b es m.sees.met; logs = λ u low high. moves_logs u g (behind_first g xs first) (events_of es) (was.log u) m.moves };
    goes = goes;
  }
    where
      syncs : any is_sync (events_of es) ≡ false
      syncs = none_of moves_page is_sync moves_sync (events_of es) m.moves

      goes : (g : Opening) (xs : List Done) (first : List happening.Event) → Behind g xs first v → (s0 : Crash) (a : Known) → Stands g (front xs ++ first) s0 a old → IsOf g was a → GoesOn many g xs first (events_of es) s0 a (with_slots slots was) old new
      goes g xs first b s0 a st o = let r = m.ran g s0 a b.opens (is_on v was count g xs first b s0 a old st o) o.master in record {
        known = r.known;
        moved = record {
          line = subst (λ k. IsNoEarlier (events_of es) a.master k) (sym r.master) (same (events_of es) a.master);
          passes = record {
            told = weaker old new (Beside many (any is_save (events_of es)) false old) (λ c. c.notes ≡ old.notes) (λ c x. x.notes) m.apart.within;
            any_moment = subst (λ ys. LeavesOnly old new (LeavesSome g ys (events_of es) s0 a.master)) b.seen r.any_moment;
          };
          stands = subst (λ ys. Stands g ys s0 r.known new) (ap (λ ys. ys ++ events_of es) b.seen ∙ append_assoc (front xs) first (events_of es)) r.on.stands;
          notes = m.apart.around.notes;
        };
        has = record { log = λ u low high. ap (λ f. f u) r.log ∙ o.log u low high; master = r.master ∙ o.master; slots = r.on.knows.each };
        within = subst (λ k. LeavesOnly old new (Beside many (any is_save (events_of es)) k old)) (sym syncs) m.apart.within;
      }

  pub breaks : (es : List happening.Event) → Breaks many es v was old new → Failed many true false es v was old new
  breaks es m = record {
    around = m.apart.around;
    fails = λ g xs first b s0 a st o. record {
      passes = record {
        told = weaker old new (Beside many true false old) (λ c. c.notes ≡ old.notes) (λ c x. x.notes) m.apart.within;
        any_moment = subst (λ ys. LeavesOnly old new (LeavesSome g ys es s0 a.master)) b.seen (m.ran g s0 a b.opens (is_on v was count g xs first b s0 a old st o) o.master);
      };
      within = m.apart.within;
    };
  }

pub every_step : EveryReached → EveryNeed → EveryVersion → EveryKept → EveryPrefix → EverySealed → (old new : Story) → IsLawful old → EveryStep old new
every_step reached needs versions keeps prefixes seals old new law many v w was = record {
  none = reads reached needs versions keeps prefixes seals many v v was old old [] (record { given = refl; seen = sym (append-nil v.seen); met = tt }) refl (reads_none old law);
  rest = λ es s quiet. reads reached needs versions keeps prefixes seals many v w was old old es s quiet (reads_none old law);
  reads = λ es s quiet r. reads reached needs versions keeps prefixes seals many v w was old new es s quiet r;
  pages = λ es slots count m. pages reached needs many v w was old new count es slots m;
  breaks = λ es count m. breaks reached needs many v w was old new count es m;
}
