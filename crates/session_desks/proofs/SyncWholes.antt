-- A whole sync as one part of a call: its flushes, and then the sync, behind a master that was written or not.
use Rattle.std.proofs.Common.{◌≡◌, ◌≤◌, ◌<◌, inl, inr, ◌++◌, ℕ, suc, true, List, [], ◌∷◌, length, refl, sym, ap, ◌∙◌, subst, arith}
use Rattle.std.proofs.lemmas.List.{append_assoc, length-append}
use Rattle.session_state.specs.core_state.Openings.{Opening}
use Rattle.session_state.specs.core_state.States as core
use Rattle.session_state.specs.core_state.States.{flushed_by_all}
use Rattle.session_state.specs.core_state.Events as happening
use Rattle.session_state.specs.core_state.Needs.{may}
use Rattle.session_state.specs.core_state.Steps.{AllMet, state_after}
use Rattle.session_state.specs.core_calls.Fronts.{Done, front}
use Rattle.session_state.proofs.core_commit.Lists.{le_least}
use Rattle.session_state.specs.core_disk.Versions.{EveryVersion}
use Rattle.session_state.specs.disk_image.Laws.{EverySealed}
use Rattle.session_state.specs.disk_runs.MasterLaws.{IsAllSynced, raised}
use Rattle.session_state.specs.disk_runs.Masters.{IsNoEarlier}
use Rattle.session_state.specs.disk_runs.Stands.{Known}
use Rattle.lean_disk.specs.Story.{Crash, IsLawful, Story}
use Rattle.session_state.proofs.engine_calls.MarkLemmas.{met_join}
use Rattle.session_state.specs.engine_trait.Areas.{Around}
use Rattle.session_state.specs.engine_trait.Calls.{Memory}
use Rattle.session_state.specs.engine_trait.Logs.{Logs}
use Rattle.session_state.specs.row_opening.Openings.{EveryNeed, EveryReached}
use Rattle.session_state.specs.row_words.declared.event.Event.TheVariants as told
use Rattle.session_state.specs.row_words.Moments.{events_of}
use Rattle.session_state.specs.rows_trait.declared.view.View.{View}
use Rattle.session_state.specs.rows_trait.Views.{state}
use Rattle.session_state.specs.worker_log.Laws.{EveryKept, EveryPrefix}
use Rattle.session_state.specs.worker_log.Logs.{Log}
use Rattle.session_state.specs.Ties.{Behind}
use Rattle.session_state.specs.Syncs.{HasSynced}
use Rattle.session_desks.specs.Runs.{Breaks, Goes, GoesFlushed, IsAt, memory_with}
use Rattle.session_desks.specs.Syncs.{AllEndAt, FlushFails, Flushed, IsWriting, IsWritten, MeetsSync, SyncFails, SyncGoes, next_with}
use Rattle.session_desks.proofs.SyncRuns.{around_more, breaks_join, goes_as, goes_join, master_aside, master_breaks, master_goes, still_goes, written_by}
use Rattle.session_desks.proofs.SyncViews.{core_is, events_more, front_is, logs_join, may_is, more}

-- the master that is in memory stands there alone too
at_memory : (many : ℕ) (v : View) (was : Memory) (g : Opening) (xs : List Done) (first : List happening.Event) (s0 : Crash) (a : Known) (s : Story) → IsAt many v was g xs first s0 a s → IsAt many v (memory_with was.log was.master) g xs first s0 a s
at_memory many v was g xs first s0 a s at = record { many_is = at.many_is; behind = at.behind; stands = at.stands; is_of = record { log = at.is_of.log; master = at.is_of.master } }

-- it failed at a flush
pub flush_fails : (many : ℕ) (v : View) (was : Memory) (old new : Story) → FlushFails many v was.log old new → SyncFails many v was old new
flush_fails many v was old new f = record {
  events = f.events;
  are = inl f.flushes;
  few = let a = f.few in omega arith;
  met = f.met;
  around = f.around;
  leaves = λ g xs first s0 a at. f.leaves was.master g xs first s0 a (at_memory many v was g xs first s0 a old at);
}

module _ (reached : EveryReached) (needs : EveryNeed) (many n : ℕ) (v u : View) (was : Memory) (mid : ℕ → Log) {D : Type 0} (story : D → Story) (laws : (d : D) → IsLawful (story d)) (start between : D) (f : Flushed many many v u was.log mid (story start) (story between)) (ready : MeetsSync many n was.master u mid) where
  abbrev old : Story
  old = story start

  abbrev now : Story
  now = story between

  abbrev flushes : List happening.Event
  flushes = events_of f.events

  abbrev events : List happening.Event
  events = flushes ++ happening.Event.Sync n ∷ []

  few : length events ≤ suc many
  few = let a = f.few in let b = length-append flushes (happening.Event.Sync n ∷ []) in omega arith

  -- ## Behind the flushes, in a run

  module _ (g : Opening) (xs : List Done) (first : List happening.Event) (s0 : Crash) (a : Known) (at : IsAt many v was g xs first s0 a old) where
    came : GoesFlushed many g xs first flushes s0 a (memory_with mid was.master) old now
    came = f.goes was.master g xs first s0 a (at_memory many v was g xs first s0 a old at)

    behind_mid : Behind g xs (first ++ flushes) u
    behind_mid = f.behind g xs first at.behind

    around_now : Around g.workers true old now
    around_now = subst (λ k. Around k true old now) (sym at.many_is) f.around

    in_many : (w : ℕ) → w ≤ g.workers → w ≤ many
    in_many w high = subst (λ k. w ≤ k) at.many_is high

    synced : (w : ℕ) → 0 < w → w ≤ g.workers → IsAllSynced (came.goes.known.account w)
    synced w some high = came.synced w some (in_many w high)

    met : may g (state_after g (front xs ++ (first ++ flushes))) (happening.Event.Sync n) ≡ true
    met = ap (λ s. may g s (happening.Event.Sync n)) (front_is g xs (first ++ flushes)) ∙ (may_is reached needs g xs (first ++ flushes) u behind_mid (happening.Event.Sync n) ∙ ready.met)

    within : (w : ℕ) → 0 < w → w ≤ g.workers → (mid w).last ≤ n
    within w some high = ready.within w some (in_many w high)

    -- where each log ends at the number, all are flushed up to it
    reached_all : AllEndAt many n mid → n ≤ flushed_by_all g (state_after g (front xs ++ (first ++ flushes)))
    reached_all all_end = subst (λ (s : core.State). n ≤ flushed_by_all g s) (core_is reached needs g xs (first ++ flushes) u behind_mid ∙ sym (front_is g xs (first ++ flushes)))
        (le_least (state u).core.flushed g.workers n g.some_worker (λ w l. let h = in_many w l.1 in let c = ready.counted w l.0 h in let e = all_end w l.0 h in omega arith))

    module _ (new : Story) (writes : IsWriting (next_with was.master n) now new) where
      breaks : Breaks g xs first events s0 a old new
      breaks = breaks_join g xs first flushes s0 a (memory_with mid was.master) old now new (laws start) at.stands came.goes around_now (happening.Event.Sync n ∷ [])
          (master_breaks g xs (first ++ flushes) s0 came.goes.known (memory_with mid was.master) now new came.goes.moved.stands came.goes.is_of n synced met within ready.small ready.low writes)

  -- ## At the master

  -- it failed there
  pub master_fails : (new : Story) → IsWriting (next_with was.master n) now new → SyncFails many v was old new
  master_fails new writes = record {
    events = events;
    are = inr (n, (flushes, refl, f.flushes));
    few = few;
    met = λ g xs first b.
        let c = f.behind g xs first b in
        subst (AllMet g (state_after g (front xs))) (append_assoc first flushes (happening.Event.Sync n ∷ [])) (met_join g (state_after g (front xs)) (first ++ flushes) (happening.Event.Sync n ∷ []) c.met (may_is reached needs g xs (first ++ flushes) u c (happening.Event.Sync n) ∙ ready.met, tt));
    around = around_more many 0 old now new f.around (λ a i e. master_aside many a i e) writes.frame;
    leaves = λ g xs first s0 a at. breaks g xs first s0 a at new writes;
  }

  -- it was made
  module _ (keeps : EveryKept) (prefixes : EveryPrefix) (seals : EverySealed) (versions : EveryVersion) (w : View) (is : Memory) (sync : HasSynced u w n) (are : (a : ℕ) → 0 < a → a ≤ many → is.log a ≡ raised (mid a) n) where
    all : events_of (f.events ++ told.Sync n ∷ []) ≡ events
    all = events_more f.events (told.Sync n ∷ [])

    behind : (g : Opening) (xs : List Done) (first : List happening.Event) → Behind g xs first v → Behind g xs (first ++ events) w
    behind g xs first b = let c = f.behind g xs first b in
        subst (λ ys. Behind g xs ys w) (append_assoc first flushes (happening.Event.Sync n ∷ []))
        (more reached needs g xs (first ++ flushes) u c (told.Sync n ∷ []) w sync.given sync.seen (may_is reached needs g xs (first ++ flushes) u c (happening.Event.Sync n) ∙ ready.met, tt))

    logs : (a : ℕ) → 0 < a → a ≤ many → (g : Opening) (s : core.State) → Logs a g s events (was.log a) (is.log a)
    logs a some high g s = logs_join a g s flushes (happening.Event.Sync n ∷ []) (was.log a) (mid a) (is.log a) (f.logs a some high g s) (is.log a, are a some high, refl)

    module _ (end : D) (written : IsWritten story many n mid was.master is.master between end) where
      around : Around many true old (story end)
      around = go written
        where
          go : IsWritten story many n mid was.master is.master between end → Around many true old (story end)
          go (IsWritten.Still all_end same_disk same_master) = subst (λ (d : D). Around many true old (story d)) (sym same_disk) f.around
          go (IsWritten.Wrote some_below syncs writes is_next) = around_more many 0 old now (story end) f.around (λ a i e. master_aside many a i e) writes.frame

      goes : (g : Opening) (xs : List Done) (first : List happening.Event) (s0 : Crash) (a : Known) → IsAt many v was g xs first s0 a old → Goes g xs first events s0 a is old (story end)
      goes g xs first s0 a at = goes_join g xs first flushes s0 a (memory_with mid was.master) old now (story end) (laws start) at.stands at_mid (around_now g xs first s0 a at) (happening.Event.Sync n ∷ []) is (last written)
        where
          raised_in : (b : ℕ) → 0 < b → b ≤ g.workers → is.log b ≡ raised (mid b) n
          raised_in b some high = are b some (in_many g xs first s0 a at b high)

          at_mid : Goes g xs first flushes s0 a (memory_with mid was.master) old now
          at_mid = (came g xs first s0 a at).goes

          -- the sync itself
          last : IsWritten story many n mid was.master is.master between end → Goes g xs (first ++ flushes) (happening.Event.Sync n ∷ []) s0 at_mid.known is now (story end)
          last (IsWritten.Still all_end same_disk same_master) =
              subst (λ (d : D). Goes g xs (first ++ flushes) (happening.Event.Sync n ∷ []) s0 at_mid.known is now (story d)) (sym same_disk)
              (goes_as g xs (first ++ flushes) (happening.Event.Sync n ∷ []) s0 at_mid.known (memory_with is.log was.master) is now now
              (still_goes g xs (first ++ flushes) s0 at_mid.known (memory_with mid was.master) now now at_mid.moved.stands at_mid.is_of n (synced g xs first s0 a at) (met g xs first s0 a at) (within g xs first s0 a at) keeps prefixes seals versions (laws between) (reached_all g xs first s0 a at all_end) is.log raised_in)
              (λ b some high. refl) (sym same_master))
          last (IsWritten.Wrote some_below syncs writes is_next) =
              goes_as g xs (first ++ flushes) (happening.Event.Sync n ∷ []) s0 at_mid.known (memory_with is.log (next_with was.master n)) is now (story end)
              (master_goes g xs (first ++ flushes) s0 at_mid.known (memory_with mid was.master) now (story end) at_mid.moved.stands at_mid.is_of n (synced g xs first s0 a at) (met g xs first s0 a at) (within g xs first s0 a at) ready.small ready.low writes (laws between) syncs is.log raised_in)
              (λ b some high. refl) (sym is_next)

      pub sync_goes : SyncGoes many n v w was is old (story end)
      sync_goes = record {
        events = f.events ++ told.Sync n ∷ [];
        given = sync.given ∙ f.given;
        seen = sync.seen ∙ (ap (λ ys. ys ++ told.Sync n ∷ []) f.seen ∙ append_assoc v.seen f.events (told.Sync n ∷ []));
        are = (flushes, all, f.flushes);
        few = let a = ap length all in let b = few in omega arith;
        behind = λ g xs first b. subst (λ ys. Behind g xs (first ++ ys) w) (sym all) (behind g xs first b);
        logs = λ a some high g s. subst (λ ys. Logs a g s ys (was.log a) (is.log a)) (sym all) (logs a some high g s);
        after = λ a some high. are a some high ∙ ap (λ (l : Log). raised l n) (f.after a some high);
        no_earlier = subst (λ ys. IsNoEarlier ys was.master is.master) (sym all) (written_by story many n mid was.master is.master between end flushes written);
        around = around;
        goes = λ g xs first s0 a at. subst (λ ys. Goes g xs first ys s0 a is old (story end)) (sym all) (goes g xs first s0 a at);
      }
