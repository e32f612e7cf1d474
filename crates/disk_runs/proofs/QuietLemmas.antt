-- What events leave as it was.
use Rattle.std.proofs.Common.{◌≡◌, true, false, refl, sym, subst, true≢false}
use Rattle.std.proofs.lemmas.Bool.{and_parts}
use Rattle.map_model.specs.Maps.{MapAnswer}
use Rattle.core_disk.specs.core_state.Openings.{Opening}
use Rattle.core_disk.specs.core_state.States.{State, start}
use Rattle.core_disk.specs.core_state.Needs.{are_hot, needs, pages_of}
use Rattle.core_disk.specs.core_state.Events.{Event}
use Rattle.core_disk.specs.core_state.Steps.{follows, happens, state_after}
use Rattle.core_disk.proofs.core_commit.Copies.{Copied}
use Rattle.core_disk.proofs.core_commit.Fetched.{fetch_same}
use Rattle.core_disk.proofs.core_commit.Runs.{good_run, good_start, step_keeps}
use Rattle.core_disk.specs.Versions.{is_cut}
use Rattle.core_disk.proofs.VersionLemmas.{state_then}
use Rattle.disk_runs.specs.Logs.{SameDisk}
use Rattle.disk_runs.specs.Quiet.{EveryQuiet, is_quiet}

same_now : (s : State) → SameDisk s s
same_now s = record { entries = λ w. refl; saved = λ p. refl; flushed = λ w. refl; head = λ w. refl; floor = refl }

quiet_event : (g : Opening) → g.faithful ≡ true → (s : State) → Copied s.page s.saved s.place → (e : Event) → needs g s e ≡ true → is_quiet e ≡ true → SameDisk s (happens g s e)
quiet_event g f s c (Event.Change w p k v) m q = absurd (true≢false (sym q))
quiet_event g f s c (Event.Put_back w p) m q = absurd (true≢false (sym q))
quiet_event g f s c (Event.Split w l r p i) m q = absurd (true≢false (sym q))
quiet_event g f s k (Event.Lift w c) m q = absurd (true≢false (sym q))
quiet_event g f s c (Event.Join w l r p) m q = absurd (true≢false (sym q))
quiet_event g f s k (Event.Drop w c) m q = absurd (true≢false (sym q))
quiet_event g f s c (Event.Purge w p keys) m q = absurd (true≢false (sym q))
quiet_event g h s c (Event.End w commit f) m q = absurd (true≢false (sym q))
quiet_event g f s c (Event.Flush w n) m q = absurd (true≢false (sym q))
quiet_event g f s c (Event.Sync n) m q = absurd (true≢false (sym q))
quiet_event g f s c (Event.Save p) m q = absurd (true≢false (sym q))
quiet_event g f s c (Event.Cut x heads) m q = absurd (true≢false (sym q))
quiet_event g f s c (Event.Fetch p pairs) m q = subst (SameDisk s) (sym (fetch_same g s c f p pairs m)) (same_now s)
quiet_event g f s c (Event.Next w p k a) m q = go a
  where
    go : (a : MapAnswer) → SameDisk s (follows g s w p a)
    go (MapAnswer.Pair at word) = record { entries = λ w. refl; saved = λ p. refl; flushed = λ w. refl; head = λ w. refl; floor = refl }
    go (MapAnswer.Gap b) = record { entries = λ w. refl; saved = λ p. refl; flushed = λ w. refl; head = λ w. refl; floor = refl }
    go (MapAnswer.Value v) = same_now s
    go (MapAnswer.Was v) = same_now s
quiet_event g f s c _ m q = record { entries = λ w. refl; saved = λ p. refl; flushed = λ w. refl; head = λ w. refl; floor = refl }

no_cut : (e : Event) → is_quiet e ≡ true → is_cut e ≡ false
no_cut (Event.Cut x heads) q = absurd (true≢false (sym q))
no_cut _ q = refl

pub every_quiet : EveryQuiet
every_quiet g f es e q = record {
  no_cut = no_cut e q;
  same = subst (SameDisk (state_after g es)) (sym (state_then g es e)) (step_keeps (SameDisk (state_after g es)) g (state_after g es) e (same_now (state_after g es)) (λ m. quiet_event g f (state_after g es) (good_run g es (start g) (good_start g)).copied e (and_parts (are_hot (state_after g es) (pages_of e)) (needs g (state_after g es) e) m).1 q));
}
