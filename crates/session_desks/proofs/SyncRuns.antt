-- How a sync goes on in a run: by the flush of one log more, and by the master.
use Rattle.std.proofs.Common.{◌≡◌, ◌≤◌, ◌<◌, ◌⊎◌, inl, inr, ◌++◌, ◌+◌, ◌^◌, ℕ, suc, Bool, true, List, [], ◌∷◌, IsTrue, refl, sym, ap, ◌∙◌, subst, arith, true≢false}
use Rattle.std.proofs.lemmas.Bool.{cases_eq}
use Rattle.std.proofs.lemmas.List.{append_assoc}
use Rattle.session_state.specs.core_state.Openings.{Opening}
use Rattle.session_state.specs.core_state.Events.{Event}
use Rattle.session_state.specs.core_state.Needs.{may}
use Rattle.session_state.specs.core_state.States.{flushed_by_all}
use Rattle.session_state.specs.core_state.Steps.{state_after}
use Rattle.session_state.specs.core_calls.Fronts.{Done, front}
use Rattle.lean_disk.specs.Area.{Leaves}
use Rattle.lean_disk.specs.Moments.{CrashIn, Framed, LeavesOnly}
use Rattle.lean_disk.specs.Story.{Crash, IsLawful, Story}
use Rattle.lean_disk.proofs.MomentLemmas.{started, weaker}
use Rattle.lean_disk.proofs.MomentLemmas as moments
use Rattle.session_state.specs.disk_image.Laws.{EverySealed}
use Rattle.session_state.specs.disk_slots.Masters.{IsMaster}
use Rattle.session_state.specs.disk_slots.declared.master.Master.{Master}
use Rattle.session_state.specs.core_disk.Versions.{EveryVersion}
use Rattle.session_state.specs.disk_runs.MasterLaws.{IsAllSynced, IsSync, raised, with_sync}
use Rattle.session_state.specs.disk_runs.Masters.{IsNextOf, IsNoEarlier, slot_of}
use Rattle.session_state.specs.image_model.Fair.{piece}
use Rattle.session_state.specs.disk_runs.Moments.{LeavesSome}
use Rattle.session_state.specs.disk_runs.Stands.{Known, Stands}
use Rattle.session_state.proofs.disk_runs.LineLemmas.{same}
use Rattle.session_state.proofs.disk_runs.LineLemmas as lines
use Rattle.session_state.proofs.disk_runs.MasterLemmas.{is_slot}
use Rattle.session_state.proofs.disk_runs.MomentLemmas.{every_moment, none_yet}
use Rattle.session_state.proofs.disk_runs.NextLemmas.{every_still_sync}
use Rattle.session_state.proofs.disk_runs.StandLemmas.{every_rest}
use Rattle.session_state.specs.worker_log.Laws.{EveryKept, EveryPrefix}
use Rattle.session_state.specs.worker_log.Logs.{Log}
use Rattle.session_state.specs.log_calls.Calls.{Anything, IsLog, KeepsWithin}
use Rattle.session_state.specs.log_calls.Syncs.{KeepsEither, SyncsOn}
use Rattle.session_state.specs.log_calls.Wholes.{EndsInRecord, FlushesWhole, IsWhole, flush_of}
use Rattle.session_state.specs.engine_calls.Clauses.{OnLog}
use Rattle.session_state.specs.engine_calls.Parts.{Passes}
use Rattle.session_state.proofs.engine_calls.MoveLemmas as moves
use Rattle.session_state.specs.engine_trait.Areas.{Around, Beside, IsAside}
use Rattle.session_state.specs.engine_trait.Calls.{IsOf, Memory}
use Rattle.session_state.specs.rows_trait.declared.view.View.{View}
use Rattle.session_desks.specs.Runs.{Breaks, EachGoes, Goes, GoesFlushed, memory_with}
use Rattle.session_desks.specs.Syncs.{IsWriting, IsWritten, next_with}

-- ## Areas

-- the areas of the logs and the masters are not aside
pub log_aside : (logs own a : ℕ) → 0 < own → own ≤ logs → IsAside logs true a → a ≡ suc own → ⊥
log_aside logs own a some high (inl q) e = absurd (omega arith)
log_aside logs own a some high (inr (inl q)) e = absurd (omega arith)
log_aside logs own a some high (inr (inr q)) e = absurd (true≢false q.1)

pub master_aside : (logs a : ℕ) → IsAside logs true a → a ≡ 0 → ⊥
master_aside logs a (inl q) e = absurd (omega arith)
master_aside logs a (inr (inl q)) e = absurd (omega arith)
master_aside logs a (inr (inr q)) e = absurd (true≢false q.1)

pub around_none : (logs : ℕ) (b : Bool) (s : Story) → Around logs b s s
around_none logs b s = record { notes = refl; tells = λ a. refl; areas = refl; counts = refl; later = omega arith; past = λ m c le at. at; aside = λ a i. refl; first = λ a. refl }

-- a call on one of these areas more
module _ (logs area : ℕ) (old mid new : Story) (around : Around logs true old mid) (apart : (a : ℕ) → IsAside logs true a → a ≡ area → ⊥) where
  pub around_more : Framed area mid new → Around logs true old new
  around_more f = record {
    notes = f.notes ∙ around.notes;
    tells = λ a. f.tells a ∙ around.tells a;
    areas = f.areas ∙ around.areas;
    counts = f.counts ∙ around.counts;
    later = let a = f.later in let b = around.later in omega arith;
    past = λ m c le at. around.past m c le (f.past m c (let b = around.later in omega arith) at);
    aside = λ a i. f.elsewhere a (apart a i) ∙ around.aside a i;
    first = λ a. at (cases_eq a area) ∙ around.first a;
  }
    where
      at : {a : ℕ} → (a ≡ area) ⊎ (a ≡ area → ⊥) → (new.area a).first ≡ (mid.area a).first
      at (inl q) = subst (λ (b : ℕ). (new.area b).first ≡ (mid.area b).first) (sym q) f.first
      at {a} (inr n) = ap (λ z. z.first) (f.elsewhere a n)

-- a crash now leaves all as it is
beside_none : (logs : ℕ) (s : Story) → IsLawful s → LeavesOnly s s (Beside logs true s)
beside_none logs s law = started s (Beside logs true s) law (λ c now. record { notes = now.notes; writes = λ a i tells. now.writes a tells; leaves = λ a i tells. now.leaves a tells })

-- a crash in a call on such an area leaves those aside
beside_one : (logs area : ℕ) (old new : Story) → ((a : ℕ) → IsAside logs true a → a ≡ area → ⊥) → LeavesOnly old new (CrashIn old area Anything) → LeavesOnly old new (Beside logs true old)
beside_one logs area old new apart crash = weaker old new (CrashIn old area Anything) (Beside logs true old) (λ c is. record { notes = is.notes; writes = λ a i t. is.writes a (apart a i) t; leaves = λ a i t. is.leaves a (apart a i) t }) crash

-- and as they were before the calls up to there
pub beside_more : (logs : ℕ) (old mid new : Story) → Around logs true old mid → LeavesOnly mid new (Beside logs true mid) → LeavesOnly mid new (Beside logs true old)
beside_more logs old mid new around crash = weaker mid new (Beside logs true mid) (Beside logs true old) (λ c is. record {
  notes = is.notes ∙ around.notes;
  writes = λ a i t. is.writes a i (subst (λ (b : Bool). IsTrue b) (sym (around.tells a)) t) ∙ ap (λ z. z.writes) (around.aside a i);
  leaves = λ a i t. subst (λ z. Leaves z (c.image a)) (around.aside a i) (is.leaves a i (subst (λ (b : Bool). IsTrue b) (sym (around.tells a)) t));
}) crash

-- ## The next master

-- it is one of its slot
next_valid : (n : Master) (k j : ℕ) → IsMaster j n → n.sequence + 1 < 2 ^ 63 → k < 2 ^ 64 → IsMaster (slot_of (next_with n k)) (next_with n k)
next_valid n k j is small low = record {
  pages = is.pages;
  blocks = is.blocks;
  logs = is.logs;
  parity = refl;
  sequence = small;
  generation = is.generation;
  floor = low;
  heads = is.heads;
}

next_is : (n : Master) (k : ℕ) → IsNextOf n (next_with n k)
next_is n k = record { sequence = refl; generation = refl; pages = refl; blocks = refl; logs = refl }

-- what a sync writes is no earlier
pub written_by : {D : Type 0} (story : D → Story) (many n : ℕ) (logs : ℕ → Log) (master next : Master) (old new : D) (es : List Event) → IsWritten story many n logs master next old new → IsNoEarlier (es ++ Event.Sync n ∷ []) master next
written_by story many n logs master next old new es (IsWritten.Still all_end same_disk same_master) = subst (IsNoEarlier (es ++ Event.Sync n ∷ []) master) (sym same_master) (same (es ++ Event.Sync n ∷ []) master)
written_by story many n logs master next old new es (IsWritten.Wrote some_below syncs writes is) = subst (IsNoEarlier (es ++ Event.Sync n ∷ []) master) (sym is)
    (lines.further es (Event.Sync n ∷ []) master master (next_with master n) (same es master) (lines.next (Event.Sync n) master (next_with master n) refl (next_is master n)))

-- ## From where the disk stands

no_earlier : (es : List Event) (n m : Master) → m ≡ n → IsNoEarlier es n m
no_earlier es n m e = subst (IsNoEarlier es n) (sym e) (same es n)

-- nothing yet
pub goes_none : EveryKept → EveryPrefix → EverySealed → EveryVersion → (many : ℕ) (v : View) (was : Memory) (s : Story) → IsLawful s → EachGoes many v was was [] s s
goes_none keeps prefixes seals versions many v was s law g xs first s0 a at = record {
  known = a;
  moved = moves.rest g xs first s0 a s s s law at.stands keeps prefixes seals versions [] refl;
  is_of = at.is_of;
  firm = refl;
  late = refl;
  within = beside_none g.workers s law;
}

-- the same logs and the same master
pub goes_as : (g : Opening) (xs : List Done) (first more : List Event) (s0 : Crash) (a : Known) (was is : Memory) (old new : Story) → Goes g xs first more s0 a was old new → ((w : ℕ) → 0 < w → w ≤ g.workers → was.log w ≡ is.log w) → was.master ≡ is.master → Goes g xs first more s0 a is old new
goes_as g xs first more s0 a was is old new x logs master = record {
  known = x.known;
  moved = x.moved;
  is_of = record { log = λ w some high. x.is_of.log w some high ∙ logs w some high; master = x.is_of.master ∙ master };
  firm = x.firm;
  late = x.late;
  within = x.within;
}

-- ## One part behind another

module _ (g : Opening) (xs : List Done) (first es : List Event) (s0 : Crash) (a : Known) (was : Memory) (old mid new : Story) (law : IsLawful old) (st : Stands g (front xs ++ first) s0 a old) (at : Goes g xs first es s0 a was old mid) (around : Around g.workers true old mid) (more : List Event) where
  abbrev pub goes_join : (is : Memory) → Goes g xs (first ++ es) more s0 at.known is mid new → Goes g xs first (es ++ more) s0 a is old new
  goes_join is x = record {
    known = x.known;
    moved = moves.join g xs first s0 a old mid new law st es more at.known x.known at.moved x.moved;
    is_of = x.is_of;
    firm = x.firm ∙ at.firm;
    late = x.late ∙ at.late;
    within = moments.then old mid new (Beside g.workers true old) at.within (beside_more g.workers old mid new around x.within);
  }

  -- a device failed in the later one
  pub breaks_join : Breaks g xs (first ++ es) more s0 at.known mid new → Breaks g xs first (es ++ more) s0 a old new
  breaks_join x = record {
    passes = moves.passes_join g xs first es more s0 a at.known old mid new at.moved.passes at.moved.line at.moved.notes x.passes;
    within = moments.then old mid new (Beside g.workers true old) at.within (beside_more g.workers old mid new around x.within);
  }

-- ## One call of the disk

module _ (g : Opening) (xs : List Done) (es : List Event) (s0 : Crash) (a : Known) (was : Memory) (old new : Story) (st : Stands g (front xs ++ es) s0 a old) (of_a : IsOf g was a) where
  told : (area : ℕ) → LeavesOnly old new (CrashIn old area Anything) → LeavesOnly old new (λ c. c.notes ≡ old.notes)
  told area crash = weaker old new (CrashIn old area Anything) (λ c. c.notes ≡ old.notes) (λ c is. is.notes) crash

  -- ## A log's flush

  module _ (own : ℕ) (some : 0 < own) (most : own ≤ g.workers) (on : OnLog own (was.log own) old new) (within : KeepsWithin own (was.log own) old new) where
    log : IsLog g (front xs ++ es) s0 a own (was.log own) old
    log = record { stands = st; low = some; high = most; is = of_a.log own some most }

    crash : LeavesOnly old new (CrashIn old (own + 1) Anything)
    crash = within s0 g (front xs ++ es) a log

    beside : LeavesOnly old new (Beside g.workers true old)
    beside = beside_one g.workers (own + 1) old new (λ x i e. log_aside g.workers own x some most i (omega arith)) crash

    passes : (more : List Event) → Passes g xs es more s0 a old new
    passes more = record { told = told (own + 1) crash; any_moment = (every_moment old old new s0 g (front xs ++ es) a.master).call more (on.moments s0 g (front xs ++ es) a log) }

    -- it failed: by then its events had not happened
    pub flush_breaks : Breaks g xs es [] s0 a old new
    flush_breaks = record { passes = passes []; within = beside }

    -- it was flushed whole, and so were the logs before it
    pub flush_goes : (count : ℕ) (is : ℕ → Log) → ((w : ℕ) → 0 < w → w ≤ count → IsAllSynced (a.account w)) → own ≡ suc count → EndsInRecord (state_after g (front xs ++ es)) own (was.log own) → FlushesWhole own (was.log own) (is own) old new
        → ((w : ℕ) → 0 < w → w ≤ g.workers → (w ≡ own → ⊥) → is w ≡ was.log w) → GoesFlushed own g xs es (flush_of own (was.log own)) s0 a (memory_with is was.master) old new
    flush_goes count is synced next ends whole others = record {
      goes = record {
        known = f.known;
        moved = record {
          line = no_earlier now a.master f.known.master f.master;
          passes = passes now;
          stands = subst (λ ys. Stands g ys s0 f.known new) (append_assoc (front xs) es now) f.stands;
          notes = on.notes;
        };
        is_of = record { log = λ w low high. log_at w low high (cases_eq w own); master = f.master ∙ of_a.master };
        firm = f.firm;
        late = f.late;
        within = beside;
      };
      synced = λ w low high. synced_at w low high (cases_eq w own);
    }
      where
        now : List Event
        now = flush_of own (was.log own)

        f : IsWhole g (front xs ++ es) s0 a own (was.log own) (is own) new
        f = whole s0 g (front xs ++ es) a log ends

        log_at : (w : ℕ) → 0 < w → w ≤ g.workers → (w ≡ own) ⊎ (w ≡ own → ⊥) → f.known.log w ≡ is w
        log_at w low high (inl q) = ap f.known.log q ∙ (f.own ∙ ap is (sym q))
        log_at w low high (inr n) = f.logs w n ∙ (of_a.log w low high ∙ sym (others w low high n))

        synced_at : (w : ℕ) → 0 < w → w ≤ own → (w ≡ own) ⊎ (w ≡ own → ⊥) → IsAllSynced (f.known.account w)
        synced_at w low high (inl q) = subst (λ v. IsAllSynced (f.known.account v)) (sym q) f.synced
        synced_at w low high (inr n) = subst IsAllSynced (sym (f.accounts w n)) (synced w low (omega arith))

  -- ## The master

  -- what a sync up to this number needs, once each log is flushed
  module _ (n : ℕ) (synced : (w : ℕ) → 0 < w → w ≤ g.workers → IsAllSynced (a.account w)) (met : may g (state_after g (front xs ++ es)) (Event.Sync n) ≡ true) (within : (w : ℕ) → 0 < w → w ≤ g.workers → (was.log w).last ≤ n) where
    within_known : (w : ℕ) → 0 < w → w ≤ g.workers → (a.log w).last ≤ n
    within_known w some high = let b = ap (λ (l : Log). l.last) (of_a.log w some high) in let c = within w some high in omega arith

    raised_known : (is : ℕ → Log) → ((w : ℕ) → 0 < w → w ≤ g.workers → is w ≡ raised (was.log w) n) → (w : ℕ) → 0 < w → w ≤ g.workers → raised (a.log w) n ≡ is w
    raised_known is are w some high = ap (λ (l : Log). raised l n) (of_a.log w some high) ∙ sym (are w some high)

    module _ (small : was.master.sequence + 1 < 2 ^ 63) (low : n < 2 ^ 64) (writes : IsWriting (next_with was.master n) old new) where
      abbrev to : Master
      to = next_with a.master n

      to_is : to ≡ next_with was.master n
      to_is = ap (λ (m : Master). next_with m n) of_a.master

      is_master : IsMaster (slot_of a.master) a.master
      is_master = (is_slot (slot_of a.master) (piece 1024 (slot_of a.master) (old.area 0).bytes) a.master st.master.there).holds

      sync_of : IsSync g (front xs ++ es) a to n
      sync_of = record {
        met = met;
        flushed = synced;
        within = within_known;
        next = next_is a.master n;
        valid = next_valid a.master n (slot_of a.master) is_master (let b = ap (λ (m : Master). m.sequence) of_a.master in omega arith) low;
        floor = refl;
        heads = refl;
      }

      either : KeepsEither to old new
      either = subst (λ (m : Master). KeepsEither m old new) (sym to_is) writes.either

      beside_master : LeavesOnly old new (Beside g.workers true old)
      beside_master = beside_one g.workers 0 old new (λ x i e. master_aside g.workers x i e) writes.within

      -- it failed: a crash leaves what one does before the sync or behind it
      pub master_breaks : Breaks g xs es (Event.Sync n ∷ []) s0 a old new
      master_breaks = record {
        passes = record {
          told = told 0 writes.within;
          any_moment = (every_moment old old new s0 g (front xs ++ es) a.master).master (Event.Sync n) to [] refl (next_is a.master n) (either s0 g (front xs ++ es) a n st sync_of);
        };
        within = beside_master;
      }

      -- the next one was written
      pub master_goes : IsLawful old → SyncsOn (next_with was.master n) old new → (is : ℕ → Log) → ((w : ℕ) → 0 < w → w ≤ g.workers → is w ≡ raised (was.log w) n) → Goes g xs es (Event.Sync n ∷ []) s0 a (memory_with is (next_with was.master n)) old new
      master_goes law syncs is are = record {
        known = with_sync a to n;
        moved = moves.sync g xs es s0 a old old new law st to n sync_of (subst (λ (m : Master). SyncsOn m old new) (sym to_is) syncs) either (told 0 writes.within) writes.frame.notes;
        is_of = record { log = raised_known is are; master = to_is };
        firm = refl;
        late = refl;
        within = beside_master;
      }

    -- each log ends at the number: no master is written, and the disk stands by the same one behind the sync too
    pub still_goes : EveryKept → EveryPrefix → EverySealed → EveryVersion → IsLawful old → n ≤ flushed_by_all g (state_after g (front xs ++ es)) → (is : ℕ → Log) → ((w : ℕ) → 0 < w → w ≤ g.workers → is w ≡ raised (was.log w) n) → Goes g xs es (Event.Sync n ∷ []) s0 a (memory_with is was.master) old old
    still_goes keeps prefixes seals versions law reached is are = record {
      known = with_sync a a.master n;
      moved = record {
        line = same (Event.Sync n ∷ []) a.master;
        passes = record {
          told = started old (λ c. c.notes ≡ old.notes) law (λ c now. now.notes);
          any_moment = started old (LeavesSome g (front xs ++ es) (Event.Sync n ∷ []) s0 a.master) law (λ c now fair. none_yet g (front xs ++ es) (Event.Sync n ∷ []) a.master c.image (every_rest keeps prefixes seals old s0 g (front xs ++ es) a st c now fair));
        };
        stands = subst (λ ys. Stands g ys s0 (with_sync a a.master n) old) (append_assoc (front xs) es (Event.Sync n ∷ []))
            (every_still_sync versions old s0 g (front xs ++ es) a n st (record { met = met; flushed = synced; within = within_known; reached = reached }));
        notes = refl;
      };
      is_of = record { log = raised_known is are; master = of_a.master };
      firm = refl;
      late = refl;
      within = beside_none g.workers old law;
    }
