-- An increment from frame to frame.
use Rattle.std.proofs.Common.{◌≡◌, ◌⊎◌, ⊎_elim, ◌≤◌, ◌<◌, ◌||◌, ℕ, Bool, true, false, cond, ltb, List, [], ◌∷◌, ◌++◌, Result, Ok, Err, OnOk, refl, sym, ap, ◌∙◌, subst, arith, append_assoc, true≢false}
use Rattle.std.proofs.lemmas.Bool.{and_from, and_parts, cond-true, ltb-true, or_left, or_right}
use Rattle.std.proofs.lemmas.List.{append-nil}
use Rattle.map_model.specs.Lists.{all, upd}
use Rattle.disk_runs.specs.image_model.Entries.{Contents}
use Rattle.map_model.proofs.ListLemmas.{upd_same}
use Rattle.disk_runs.proofs.core_commit.Copies.{at_place}
use Rattle.disk_runs.specs.core_state.Openings.{Opening}
use Rattle.disk_runs.specs.core_state.States.{Place, State, flushed_by_all, in_frame, start}
use Rattle.disk_runs.specs.core_state.Events.{Event}
use Rattle.disk_runs.specs.core_state.Needs.{is_dirty, may}
use Rattle.disk_runs.specs.core_state.Steps.{AllMet, happens, run, state_after, step}
use Rattle.disk_runs.proofs.core_state.Runs.{run_more}
use Rattle.disk_runs.specs.core_paging.Paging.{EveryResidence}
use Rattle.disk_runs.specs.disk_image.Laws.{EverySealed}
use Rattle.disk_runs.specs.worker_log.Laws.{EveryKept, EveryPrefix}
use Rattle.lean_disk.specs.Moments.{Framed, LeavesOnly}
use Rattle.lean_disk.specs.Story.{IsLawful, Story}
use Rattle.lean_disk.proofs.MomentLemmas as moments
use Rattle.lean_disk.proofs.MomentLemmas.{framed, started, weaker}
use Rattle.disk_runs.specs.Moments.{LeavesSome}
use Rattle.disk_runs.specs.Stands.{Known, LeavesRun, Stands}
use Rattle.disk_runs.proofs.LineLemmas as lines
use Rattle.disk_runs.proofs.MomentLemmas.{every_moment}
use Rattle.disk_runs.proofs.StandLemmas.{every_rest}
use Rattle.core_covers.specs.Changes.{EveryChange}
use Rattle.core_covers.specs.Covers.{EveryCover, IsSettled}
use Rattle.checkpointer.specs.Increments.{AreSaves, AreSavesOrMisses, IncrementFails, IncrementStops, Increments, KeepsSome, KnowsCovers, is_save}
use Rattle.checkpointer.specs.Inside.{AreLow, AreSaved, Going}
use Rattle.checkpointer.specs.Savers.{KeepsRun, PagesGo, SameLogs, Saves, Settles, Stops, firm_of, is_miss}

-- ## States

-- what saves leave as it is
pub record Saving (s t : State) : Type 0 where
  pub place : (p : ℕ) → t.place p ≡ s.place p
  pub page : (p : ℕ) → t.page p ≡ s.page p
  pub flushed : t.flushed ≡ s.flushed
  pub dirty : (p : ℕ) → is_dirty t p ≡ true → is_dirty s p ≡ true
  pub clean : (p : ℕ) → (s.page p).gsn ≤ (s.saved p).gsn → (t.page p).gsn ≤ (t.saved p).gsn

saving_none : (s : State) → Saving s s
saving_none s = record { place = λ p. refl; page = λ p. refl; flushed = refl; dirty = λ p d. d; clean = λ p c. c }

saving_then : (s t u : State) → Saving s t → Saving t u → Saving s u
saving_then s t u a b = record {
  place = λ p. b.place p ∙ a.place p;
  page = λ p. b.page p ∙ a.page p;
  flushed = b.flushed ∙ a.flushed;
  dirty = λ p d. a.dirty p (b.dirty p d);
  clean = λ p c. b.clean p (a.clean p c);
}

save_happens : (g : Opening) (s : State) (q : ℕ) → Saving s (happens g s (Event.Save q))
save_happens g s q = record {
  place = λ p. refl;
  page = λ p. refl;
  flushed = refl;
  dirty = λ p d. at_place (λ j v. ltb v.gsn (s.page j).gsn ≡ true → is_dirty s j ≡ true) s.saved q (s.page q) p
      (λ e d. absurd (let l = ltb-true (s.page q).gsn (s.page p).gsn d in let i = ap (λ (j : ℕ). (s.page j).gsn) e in omega arith)) (λ _ d. d) d;
  clean = λ p c. at_place (λ j v. (s.page j).gsn ≤ v.gsn) s.saved q (s.page q) p (λ e. let i = ap (λ (j : ℕ). (s.page j).gsn) e in omega arith) (λ _. c);
}

save_step : (g : Opening) (s : State) (q : ℕ) → Saving s (step g s (Event.Save q))
save_step g s q = go (may g s (Event.Save q))
  where
    go : (b : Bool) → Saving s (cond b (happens g s (Event.Save q)) s)
    go true = save_happens g s q
    go false = saving_none s

save_of : (e : Event) → is_save e ≡ true → (p : ℕ) × (e ≡ Event.Save p)
save_of (Event.Save p) is = (p, refl)
save_of _ is = absurd (true≢false (sym is))

pub saving : (g : Opening) (s : State) (saves : List Event) → AreSaves saves → Saving s (run g s saves)
saving g s [] are = saving_none s
saving g s (e ∷ es) are =
    let both = and_parts (is_save e) (all is_save es) are in
    let q = save_of e both.0 in
    saving_then s (step g s e) (run g (step g s e) es) (subst (λ (d : Event). Saving s (step g s d)) (sym q.1) (save_step g s q.0)) (saving g (step g s e) es both.1)

after_saves : (g : Opening) (es saves : List Event) → AreSaves saves → Saving (state_after g es) (state_after g (es ++ saves))
after_saves g es saves are = subst (Saving (state_after g es)) (sym (run_more g (start g) es saves)) (saving g (state_after g es) saves are)

are_more : (a b : List Event) → AreSaves a → AreSaves b → AreSaves (a ++ b)
are_more [] b x y = y
are_more (e ∷ a) b x y = let both = and_parts (is_save e) (all is_save a) x in and_from (is_save e) (all is_save (a ++ b)) both.0 (are_more a b both.1 y)

-- saves and misses
abbrev is_either : Event → Bool
is_either e = is_save e || is_miss e

either_more : (a b : List Event) → AreSavesOrMisses a → AreSavesOrMisses b → AreSavesOrMisses (a ++ b)
either_more [] b x y = y
either_more (e ∷ a) b x y = let both = and_parts (is_either e) (all is_either a) x in and_from (is_either e) (all is_either (a ++ b)) both.0 (either_more a b both.1 y)

saves_are : (es : List Event) → AreSaves es → AreSavesOrMisses es
saves_are [] are = refl
saves_are (e ∷ es) are = let both = and_parts (is_save e) (all is_save es) are in and_from (is_either e) (all is_either es) (or_left (is_save e) (is_miss e) both.0) (saves_are es both.1)

misses_are : (es : List Event) → all is_miss es ≡ true → AreSavesOrMisses es
misses_are [] are = refl
misses_are (e ∷ es) are = let both = and_parts (is_miss e) (all is_miss es) are in and_from (is_either e) (all is_either es) (or_right (is_save e) (is_miss e) both.0) (misses_are es both.1)

met_more : (g : Opening) (s : State) (a b : List Event) → AllMet g s a → AllMet g (run g s a) b → AllMet g s (a ++ b)
met_more g s [] b x y = y
met_more g s (e ∷ a) b x y = (x.0, met_more g (step g s e) a b x.1 y)

-- ## Calls one after another

same_logs : (a : Known) → SameLogs a a
same_logs a = record { master = refl; log = refl; account = refl }

logs_then : (a b c : Known) → SameLogs a b → SameLogs b c → SameLogs a c
logs_then a b c x y = record { master = y.master ∙ x.master; log = y.log ∙ x.log; account = y.account ∙ x.account }

pub go_then : (g : Opening) (es a b : List Event) (P Q R : Known → Type 0) (old mid new : Story) → PagesGo g es a P Q old mid → PagesGo g (es ++ a) b Q R mid new → PagesGo g es (a ++ b) P R old new
go_then g es a b P Q R old mid new x y s0 k stands knew =
    let u = x s0 k stands knew in
    let v = y s0 u.known u.stands u.knows in
    record { known = v.known; stands = subst (λ (l : List Event). Stands g l s0 v.known new) (append_assoc es a b) v.stands; knows = v.knows; same = logs_then k u.known v.known u.same v.same }

-- the moments of a call, and of one behind it
pub keeps_then : (g : Opening) (es a b : List Event) (P Q : Known → Type 0) (old mid new : Story) → PagesGo g es a P Q old mid → mid.notes ≡ old.notes → KeepsSome g es a P old mid → KeepsSome g (es ++ a) b Q mid new → KeepsSome g es (a ++ b) P old new
keeps_then g es a b P Q old mid new go notes x y = record {
  moments = λ s0 k stands knew. let u = go s0 k stands knew in
      (every_moment old mid new s0 g es k.master).more a b k.master (lines.same a k.master) (x.moments s0 k stands knew)
      (subst (λ m. LeavesOnly mid new (LeavesSome g (es ++ a) b s0 m)) u.same.master (y.moments s0 u.known u.stands u.knows));
  told = λ s0 k stands knew. let u = go s0 k stands knew in
      moments.then old mid new (λ c. c.notes ≡ old.notes) (x.told s0 k stands knew) (weaker mid new (λ c. c.notes ≡ mid.notes) (λ c. c.notes ≡ old.notes) (λ c q. q ∙ notes) (y.told s0 u.known u.stands u.knows));
}

-- a call that shows no event of its own
pub some_of : (g : Opening) (es saves : List Event) (P : Known → Type 0) (old new : Story) → KeepsRun g es P old new → KeepsSome g es saves P old new
some_of g es saves P old new keeps = record {
  moments = λ s0 k stands knew. (every_moment old old new s0 g es k.master).call saves (keeps.moments s0 k stands knew);
  told = keeps.told;
}

-- none
keeps_none : EveryKept → EveryPrefix → EverySealed → (g : Opening) (es : List Event) (P : Known → Type 0) (s : Story) → IsLawful s → KeepsRun g es P s s
keeps_none kept prefixes seals g es P s law = record {
  moments = λ s0 k stands knew. started s (LeavesRun g es s0 k.master) law (λ c now. every_rest kept prefixes seals s s0 g es k stands c now);
  told = λ s0 k stands knew. started s (λ c. c.notes ≡ s.notes) law (λ c now. now.notes);
}

go_none : (g : Opening) (es : List Event) (P Q : Known → Type 0) (s : Story) → ((k : Known) → P k → Q k) → PagesGo g es [] P Q s s
go_none g es P Q s follows s0 k stands knew = record { known = k; stands = subst (λ (l : List Event). Stands g l s0 k s) (sym (append-nil es)) stands; knows = follows k knew; same = same_logs k }

-- nothing was to be saved
pub going_none : EveryKept → EveryPrefix → EverySealed → (g : Opening) (es now : List Event) (shard : ℕ) (Of : ℕ → Type 0) (P Q : Known → Type 0) (s : Story) → IsLawful s → now ≡ es → ((k : Known) → P k → Q k)
    → AreSaved (state_after g es) shard Of → Going g es now shard Of P Q s s
going_none kept prefixes seals g es now shard Of P Q s law same follows saved = record {
  saves = [];
  are = refl;
  met = tt;
  now_is = same ∙ sym (append-nil es);
  go = go_none g es P Q s follows;
  keeps = some_of g es [] P s s (keeps_none kept prefixes seals g es P s law);
  frame = framed 1 s;
  saved = subst (λ (l : List Event). AreSaved (state_after g l) shard Of) (sym same) saved;
}

-- two calls on the pages' area
pub framed_then : (a : ℕ) (s0 s1 s2 : Story) → Framed a s0 s1 → Framed a s1 s2 → Framed a s0 s2
framed_then a s0 s1 s2 x y = record {
  notes = y.notes ∙ x.notes;
  tells = λ b. y.tells b ∙ x.tells b;
  areas = y.areas ∙ x.areas;
  counts = y.counts ∙ x.counts;
  later = let l = x.later in let m = y.later in omega arith;
  past = λ m c le left. x.past m c le (y.past m c (let l = x.later in omega arith) left);
  elsewhere = λ b other. y.elsewhere b other ∙ x.elsewhere b other;
  first = y.first ∙ x.first;
}

-- one page was
module _ (residence : EveryResidence) (g : Opening) (es now : List Event) (frame shard : ℕ) (P M Q : Known → Type 0) (old new : Story) (follows : (k : Known) → P k → M k) (it : Saves g es now frame M Q old new) where
  abbrev s : State
  s = state_after g es

  abbrev t : State
  t = state_after g now

  happened : t ≡ happens g s (Event.Save it.page)
  happened = ap (state_after g) it.now_is ∙ (run_more g (start g) es (Event.Save it.page ∷ []) ∙ cond-true (may g s (Event.Save it.page)) (happens g s (Event.Save it.page)) s it.met)

  one_saved : AreSaved t shard (λ f. f ≡ frame)
  one_saved p f of stands shard_is =
      let here : in_frame (s.place p) frame ≡ true = subst (λ (i : ℕ). in_frame (s.place p) i ≡ true) of (ap (λ (z : State). in_frame (z.place p) f) (sym happened) ∙ stands) in
      let e : p ≡ it.page = (residence g es).one p it.page frame here it.stands in
      let page = ap (λ (z : State). (z.page p).gsn) happened in
      let saved = ap (λ (z : State). (z.saved p).gsn) happened ∙ ap (λ (v : Contents). v.gsn) (upd_same s.saved it.page (s.page it.page) p e) in
      let i = ap (λ (j : ℕ). (s.page j).gsn) e in
      omega arith

  pub going_one : KeepsRun g es M old new → Framed 1 old new → Going g es now shard (λ f. f ≡ frame) P Q old new
  going_one keeps f = record {
    saves = Event.Save it.page ∷ [];
    are = refl;
    met = (it.met, tt);
    now_is = it.now_is;
    go = λ s0 k stands knew. it.go s0 k stands (follows k knew);
    keeps = some_of g es (Event.Save it.page ∷ []) P old new (record { moments = λ s0 k stands knew. keeps.moments s0 k stands (follows k knew); told = λ s0 k stands knew. keeps.told s0 k stands (follows k knew) });
    frame = f;
    saved = one_saved;
  }

-- frame by frame
module _ (g : Opening) (es mid : List Event) (shard : ℕ) (A : ℕ → Type 0) (P Q : Known → Type 0) (s0 s1 : Story) (x : Going g es mid shard A P Q s0 s1) where
  up_to_mid : Saving (state_after g es) (state_after g mid)
  up_to_mid = subst (λ (l : List Event). Saving (state_after g es) (state_after g l)) (sym x.now_is) (after_saves g es x.saves x.are)

  -- what is not above the floor stays so, and so does what is flushed
  pub low_then : (floor : ℕ) (Of : ℕ → Type 0) → AreLow (state_after g es) shard floor Of → AreLow (state_after g mid) shard floor Of
  low_then floor Of low p f of stands shard_is dirty =
      let a = low p f of (ap (λ (y : Place). in_frame y f) (sym (up_to_mid.place p)) ∙ stands) shard_is (up_to_mid.dirty p dirty) in
      let e = ap (λ (v : Contents). v.gsn) (up_to_mid.page p) in omega arith

  pub flushed_then : flushed_by_all g (state_after g mid) ≡ flushed_by_all g (state_after g es)
  flushed_then = ap (λ (f : ℕ → ℕ). Rattle.rfa_model.specs.Reaches.least f g.workers) up_to_mid.flushed

  pub fails_then : (s2 : Story) → IncrementFails g mid Q s1 s2 → IncrementFails g es P s0 s2
  fails_then s2 y = record {
    saves = x.saves ++ y.saves;
    are = are_more x.saves y.saves x.are y.are;
    keeps = keeps_then g es x.saves y.saves P Q s0 s1 s2 x.go x.frame.notes x.keeps (subst (λ (l : List Event). KeepsSome g l y.saves Q s1 s2) x.now_is y.keeps);
  }

  pub stops_then : (now : List Event) (R : Known → Type 0) (s2 : Story) → IncrementStops g mid now Q R s1 s2 → IncrementStops g es now P R s0 s2
  stops_then now R s2 y = record {
    events = x.saves ++ y.events;
    are = either_more x.saves y.events (saves_are x.saves x.are) y.are;
    met = met_more g (state_after g es) x.saves y.events x.met (subst (λ (z : State). AllMet g z y.events) (ap (state_after g) x.now_is ∙ run_more g (start g) es x.saves) y.met);
    now_is = y.now_is ∙ (ap (λ (l : List Event). l ++ y.events) x.now_is ∙ append_assoc es x.saves y.events);
    go = go_then g es x.saves y.events P Q R s0 s1 s2 x.go (subst (λ (l : List Event). PagesGo g l y.events Q R s1 s2) x.now_is y.go);
    keeps = keeps_then g es x.saves y.events P Q s0 s1 s2 x.go x.frame.notes x.keeps (subst (λ (l : List Event). KeepsSome g l y.events Q s1 s2) x.now_is y.keeps);
  }

  module _ (now : List Event) (B C : ℕ → Type 0) (R : Known → Type 0) (s2 : Story) (y : Going g mid now shard B Q R s1 s2) (cover : (f : ℕ) → C f → A f ⊎ B f) where
    rest : Saving (state_after g mid) (state_after g now)
    rest = subst (λ (l : List Event). Saving (state_after g mid) (state_after g l)) (sym y.now_is) (after_saves g mid y.saves y.are)

    pub going_then : Going g es now shard C P R s0 s2
    going_then = record {
      saves = x.saves ++ y.saves;
      are = are_more x.saves y.saves x.are y.are;
      met = met_more g (state_after g es) x.saves y.saves x.met (subst (λ (z : State). AllMet g z y.saves) (ap (state_after g) x.now_is ∙ run_more g (start g) es x.saves) y.met);
      now_is = y.now_is ∙ (ap (λ (l : List Event). l ++ y.saves) x.now_is ∙ append_assoc es x.saves y.saves);
      go = go_then g es x.saves y.saves P Q R s0 s1 s2 x.go (subst (λ (l : List Event). PagesGo g l y.saves Q R s1 s2) x.now_is y.go);
      keeps = keeps_then g es x.saves y.saves P Q s0 s1 s2 x.go x.frame.notes x.keeps (subst (λ (l : List Event). KeepsSome g l y.saves Q s1 s2) x.now_is y.keeps);
      frame = framed_then 1 s0 s1 s2 x.frame y.frame;
      saved = λ p f of stands shard_is. ⊎_elim
          (λ (a : A f). rest.clean p (x.saved p f a (ap (λ (z : Place). in_frame z f) (sym (rest.place p)) ∙ stands) shard_is))
          (λ (b : B f). y.saved p f b stands shard_is)
          (cover f of);
    }

-- ## The whole increment

-- the pages are synced behind the saves
module _ (changes : EveryChange) (covers : EveryCover) (g : Opening) (es mid now : List Event) (shard floor : ℕ) (P Q R : Known → Type 0) (s0 s1 s2 : Story) (low : shard < 8) (flushed : floor ≡ flushed_by_all g (state_after g es))
    (x : Going g es mid shard (λ _. Unit {0}) P Q s0 s1) (y : Settles g mid now Q R s1 s2) (keeps : KeepsRun g mid Q s1 s2) where
  settle_keeps : KeepsSome g (es ++ x.saves) [] Q s1 s2
  settle_keeps = subst (λ (l : List Event). KeepsSome g l [] Q s1 s2) x.now_is (some_of g mid [] Q s1 s2 keeps)

  all_keeps : KeepsSome g es x.saves P s0 s2
  all_keeps = subst (λ (l : List Event). KeepsSome g es l P s0 s2) (append-nil x.saves) (keeps_then g es x.saves [] P Q s0 s1 s2 x.go x.frame.notes x.keeps settle_keeps)

  covered : (cover : ℕ → ℕ) → PagesGo g es x.saves (KnowsCovers g es P cover) (KnowsCovers g (es ++ x.saves) R (upd cover shard floor)) s0 s2
  covered cover at k stands knew =
      let u = x.go at k stands knew.knows in
      let there : Stands g mid at u.known s1 = subst (λ (l : List Event). Stands g l at u.known s1) (sym x.now_is) u.stands in
      let v = y.go at u.known there u.knows in
      let goes : mid ++ [] ≡ es ++ x.saves = append-nil mid ∙ x.now_is in
      record {
        known = v.known;
        stands = subst (λ (l : List Event). Stands g l at v.known s2) goes v.stands;
        knows = record {
          knows = v.knows.knows;
          covers = (covers g (es ++ x.saves) cover (firm_of k)).shard shard floor (firm_of v.known) ((covers g es cover (firm_of k)).more x.saves knew.covers)
              (λ p f stands_in of. (changes g (es ++ x.saves) p).clean floor
              (subst (λ (l : List Event). ((state_after g l).page p).gsn ≤ ((state_after g l).saved p).gsn) x.now_is (x.saved p f tt (ap (λ (l : List Event). in_frame ((state_after g l).place p) f) x.now_is ∙ stands_in) of)))
              (subst (λ (l : List Event). IsSettled g (state_after g l) (firm_of v.known)) x.now_is v.knows.firm)
              (let q = ap (λ (f : ℕ → ℕ). Rattle.rfa_model.specs.Reaches.least f g.workers) (after_saves g es x.saves x.are).flushed in omega arith);
        };
        same = logs_then k u.known v.known u.same v.same;
      }

  pub incremented : Increments g es now shard floor P R s0 s2
  incremented = record { saves = x.saves; are = x.are; met = x.met; now_is = y.now_is ∙ x.now_is; covers = covered; keeps = all_keeps }

-- that sync failed
pub settle_fails : (g : Opening) (es mid : List Event) (shard : ℕ) (P Q : Known → Type 0) (s0 s1 s2 : Story) → Going g es mid shard (λ _. Unit {0}) P Q s0 s1 → KeepsRun g mid Q s1 s2 → IncrementFails g es P s0 s2
settle_fails g es mid shard P Q s0 s1 s2 x keeps = fails_then g es mid shard (λ _. Unit {0}) P Q s0 s1 x s2 (record { saves = []; are = refl; keeps = some_of g mid [] Q s1 s2 keeps })

-- ## From a call to these words

pub map_ok : {T F P : Type 0} (R : Type 0) (r : Result T F) → OnOk r P → (P → R) → OnOk r R
map_ok R (Ok a) p f = f p
map_ok R (Err e) p f = tt

-- what was known before a look
module _ (g : Opening) (es mid : List Event) (P M : Known → Type 0) (old new : Story) (front : mid ≡ es) (follows : (k : Known) → P k → M k) where
  pub run_looked : KeepsRun g mid M old new → KeepsRun g es P old new
  run_looked keeps =
      let at = subst (λ (l : List Event). KeepsRun g l M old new) front keeps in
      record { moments = λ s0 k stands knew. at.moments s0 k stands (follows k knew); told = λ s0 k stands knew. at.told s0 k stands (follows k knew) }

  some_looked : (saves : List Event) → KeepsSome g mid saves M old new → KeepsSome g es saves P old new
  some_looked saves keeps =
      let at = subst (λ (l : List Event). KeepsSome g l saves M old new) front keeps in
      record { moments = λ s0 k stands knew. at.moments s0 k stands (follows k knew); told = λ s0 k stands knew. at.told s0 k stands (follows k knew) }

  -- behind a look at the frame
  pub going_save : EveryResidence → (now : List Event) (frame shard : ℕ) (Q : Known → Type 0) → KeepsRun g mid M old new → Framed 1 old new → Saves g mid now frame M Q old new → Going g es now shard (λ f. f ≡ frame) P Q old new
  going_save residence now frame shard Q keeps f it =
      going_one residence g es now frame shard P M Q old new follows (subst (λ (l : List Event). Saves g l now frame M Q old new) front it) (subst (λ (l : List Event). KeepsRun g l M old new) front keeps) f

  pub fails_save : KeepsRun g mid M old new → IncrementFails g es P old new
  fails_save keeps = record { saves = []; are = refl; keeps = some_of g es [] P old new (run_looked keeps) }

  pub stops_save : (now : List Event) (Q : Known → Type 0) → KeepsRun g mid M old new → Stops g mid now M Q old new → IncrementStops g es now P Q old new
  stops_save now Q keeps it =
      let at = subst (λ (l : List Event). Stops g l now M Q old new) front it in
      record {
        events = at.misses;
        are = misses_are at.misses at.are;
        met = at.met;
        now_is = at.now_is;
        go = λ s0 k stands knew. at.go s0 k stands (follows k knew);
        keeps = some_of g es at.misses P old new (run_looked keeps);
      }

  -- behind a look at all frames
  pub going_looked : (now : List Event) (shard : ℕ) (Of : ℕ → Type 0) (Q : Known → Type 0) → Going g mid now shard Of M Q old new → Going g es now shard Of P Q old new
  going_looked now shard Of Q x =
      let at : Going g es now shard Of M Q old new = subst (λ (l : List Event). Going g l now shard Of M Q old new) front x in
      record {
        saves = at.saves;
        are = at.are;
        met = at.met;
        now_is = at.now_is;
        go = λ s0 k stands knew. at.go s0 k stands (follows k knew);
        keeps = record { moments = λ s0 k stands knew. at.keeps.moments s0 k stands (follows k knew); told = λ s0 k stands knew. at.keeps.told s0 k stands (follows k knew) };
        frame = at.frame;
        saved = at.saved;
      }

  pub fails_looked : IncrementFails g mid M old new → IncrementFails g es P old new
  fails_looked x = record { saves = x.saves; are = x.are; keeps = some_looked x.saves x.keeps }

  pub stops_looked : (now : List Event) (Q : Known → Type 0) → IncrementStops g mid now M Q old new → IncrementStops g es now P Q old new
  stops_looked now Q x =
      let at : IncrementStops g es now M Q old new = subst (λ (l : List Event). IncrementStops g l now M Q old new) front x in
      record {
        events = at.events;
        are = at.are;
        met = at.met;
        now_is = at.now_is;
        go = λ s0 k stands knew. at.go s0 k stands (follows k knew);
        keeps = record { moments = λ s0 k stands knew. at.keeps.moments s0 k stands (follows k knew); told = λ s0 k stands knew. at.keeps.told s0 k stands (follows k knew) };
      }
