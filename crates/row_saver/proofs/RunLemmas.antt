-- A page that is saved where it stands, and a sync of the pages, in each run where nobody else steps.
use Rattle.std.proofs.Common.{◌≡◌, inl, ◌<◌, ◌≤◌, ◌^◌, ◌++◌, not, leb, ℕ, Bool, true, List, [], ◌∷◌, length, refl, sym, ap, subst, ◌∙◌, arith, append_assoc, append-nil}
use Rattle.std.proofs.lemmas.Bool.{and_from, le-leb, ltb-true}
use Rattle.map_model.specs.Lists.{all}
use Rattle.btree_descent.specs.btree_node.Words.{words_of}
use Rattle.btree_descent.specs.core_state.Events as happening
use Rattle.btree_descent.specs.core_state.Needs as core
use Rattle.btree_descent.specs.core_state.Openings.{Opening}
use Rattle.btree_descent.specs.core_state.States.{Place, State, flushed_by_all, in_frame, is_cold}
use Rattle.btree_descent.specs.core_state.Steps.{AllMet, state_after}
use Rattle.btree_descent.specs.row_words.declared.event.Event.{Event}
use Rattle.btree_descent.specs.row_words.declared.event.Event.TheVariants.{Miss, Save}
use Rattle.btree_descent.specs.row_words.declared.given.Given.{Given}
use Rattle.btree_descent.specs.row_words.Moments.{Moment, events_of, pager}
use Rattle.btree_descent.specs.row_words.Openings.{opening}
use Rattle.btree_descent.specs.rows_trait.declared.view.View.{View}
use Rattle.btree_descent.specs.rows_trait.Causes.{Finds}
use Rattle.btree_descent.specs.rows_trait.Turns.{Ran}
use Rattle.btree_descent.specs.rows_trait.Views.{Shape, may, state}
use Rattle.btree_descent.proofs.rows_trait.Causes.{finds_newer}
use Rattle.btree_descent.proofs.rows_trait.Runs.{ran_append}
use Rattle.btree_descent.specs.Descents.{Sized}
use Rattle.btree_descent.specs.Known.{IsSound}
use Rattle.checkpointer.specs.Savers.{KeepsRun, Saves, Settles, Stops, is_miss}
use Rattle.cooling_stage.specs.declared.stage.Cooling.{Cooling}
use Rattle.disk_runs.specs.PageLaws.{with_settled}
use Rattle.disk_runs.specs.Quiet.{EveryQuiet}
use Rattle.disk_runs.specs.Stands.{Known, LeavesRun, Stands}
use Rattle.disk_runs.specs.core_disk.Versions.{EveryVersion, then}
use Rattle.disk_runs.specs.disk_image.Laws.{EverySealed}
use Rattle.disk_runs.specs.disk_slots.Laws.{EveryPage}
use Rattle.disk_runs.specs.worker_log.Laws.{EveryKept, EveryPrefix}
use Rattle.disk_runs.proofs.StandLemmas.{every_rest, every_still}
use Rattle.held_rows.specs.Latching as latching
use Rattle.held_rows.specs.Steps.{AreMisses, MissedUpTo}
use Rattle.held_rows.specs.declared.latching.Refusal.TheVariants.{RowSpent}
use Rattle.lean_bytes.specs.Numbers.{AreWords}
use Rattle.lean_disk.specs.Moments.{CrashIn}
use Rattle.lean_disk.specs.Story.{Crash, IsLawful, Story}
use Rattle.lean_disk.proofs.MomentLemmas.{started, weaker}
use Rattle.page_calls.specs.Calls.{Anything, IsOn, KeepsMoments, KeepsWithin, SavesMoments, SettlesOn}
use Rattle.page_calls.specs.Calls as calls
use Rattle.page_calls.specs.declared.slots.Slot.{Slot}
use Rattle.page_model.specs.Page.{Page}
use Rattle.page_moves.specs.Moves.{CanSave, contents_of}
use Rattle.page_provider.specs.Disks.{told}
use Rattle.page_provider.specs.Inside.{WritesOn}
use Rattle.page_provider.proofs.Running.{told_ran}
use Rattle.row_image.specs.Images.{EveryStay, StaysIn, written}
use Rattle.row_opening.specs.Openings.{EveryNeed, EveryReached, Opens}
use Rattle.row_saver.proofs.FrameLemmas.{still}
use Rattle.row_saver.specs.Inside.{HasMissed, HasSaved, Looks, MaySaveIn}
use Rattle.row_saver.specs.Savers.{IsReady, IsSpent, KnowsSlots}

-- ## The seat

pub acts : (z : Shape) (v : View) (a : ℕ) → z.alone ≡ true → may z.alone v a ≡ true
acts z v a alone = ap (λ b. may b v a) alone

pub stays : EveryStay → {alone : Bool} {v : View} {frame p : ℕ} → alone ≡ true → in_frame ((state v).core.place p) frame ≡ true → StaysIn alone v frame p
stays every {alone = alone} {v = v} {frame = frame} {p = p} only here = every alone v frame p (inl only) here

pub sized_on : {z y : Shape} {v u : View} {frames : ℕ} → y ≡ z → u.given ≡ v.given → Sized z v frames → Sized y u frames
sized_on same given h = record { some = h.some; shape = ap (λ (s : Shape). s.sizes.frames) same ∙ h.shape; given = ap (λ (g : Given). (opening g).frames) given ∙ h.given }

-- ## A row that was not latched

pub missed : {alone : Bool} {v w : View} → alone ≡ true → v.held ≡ [] → latching.Refused alone v w → HasMissed v w
missed {v = v} {w = w} only none r = record { misses = r.missed.events; are = r.missed.misses; few = r.missed.few; ran = subst (λ b. Ran b v r.missed.events w) only r.missed.ran; held = r.held ∙ none }

pub spent : {v w : View} {row frames q : ℕ} → row < frames → latching.Caused row v (RowSpent q) w → IsSpent frames w
spent {v = v} {w = w} {row = row} lt k =
    let f = k.1.2 in
    record { row = row; within = lt; version = k.1.0; last = k.1.1; found = subst (λ acts. Finds row k.1.0 acts) (sym f.loads.steps) (finds_newer row k.1.0 f.loads.acts v.steps f.finds) }

-- it was not, behind a look
pub missed_behind : {v u w : View} → Looks v u → HasMissed u w → HasMissed v w
missed_behind {v = v} {u = u} {w = w} l h = record { misses = h.misses; are = h.are; few = h.few; ran = ran_append true v [] u h.misses w l.ran h.ran; held = h.held }

-- it was latched, and given up
pub gave_up : {alone : Bool} {v t w : View} → alone ≡ true → Ran true v [] t → MissedUpTo 1 alone t w → w.held ≡ [] → HasMissed v w
gave_up {v = v} {t = t} {w = w} only r m free = record { misses = m.events; are = m.misses; few = m.few; ran = ran_append true v [] t m.events w r (subst (λ b. Ran b t m.events w) only m.ran); held = free }

-- its page was saved
pub has_saved : {alone : Bool} {v t w : View} {p page : ℕ} → alone ≡ true → page ≡ p → Ran true v [] t → Ran alone t (Save page ∷ []) w → w.held ≡ [] → HasSaved v p w
has_saved {v = v} {t = t} {w = w} {page = page} only same r s free = record {
  ran = subst (λ q. Ran true v (Save q ∷ []) w) same (ran_append true v [] t (Save page ∷ []) w r (subst (λ b. Ran b t (Save page ∷ []) w) only s));
  held = free;
}

-- ## Misses, which need nothing, and which a disk does not see

misses_are : (es : List Event) → AreMisses es → all is_miss (events_of es) ≡ true
misses_are [] m = refl
misses_are (Miss w ∷ es) m = misses_are es m
misses_are (_ ∷ es) m = absurd m

misses_met : (g : Opening) (s : State) (es : List Event) → AreMisses es → AllMet g s (events_of es)
misses_met g s [] m = tt
misses_met g s (Miss w ∷ es) m = (refl, misses_met g s es m)
misses_met g s (_ ∷ es) m = absurd m

misses_stand : EveryVersion → EveryQuiet → (g : Opening) (es : List happening.Event) (ms : List Event) → AreMisses ms → (s0 : Crash) (k : Known) (s : Story) → Stands g es s0 k s → Stands g (es ++ events_of ms) s0 k s
misses_stand versions quiet g es [] m s0 k s st = subst (λ z. Stands g z s0 k s) (sym (append-nil es)) st
misses_stand versions quiet g es (Miss w ∷ ms) m s0 k s st =
    let e : happening.Event = happening.Event.Miss w in
    let l = quiet g st.is.faithful es e refl in
    subst (λ z. Stands g z s0 k s) (append_assoc es (e ∷ []) (events_of ms)) (misses_stand versions quiet g (then es e) ms m s0 k s (every_still versions s s0 g es k e st l.no_cut l.same))
misses_stand versions quiet g es (_ ∷ ms) m s0 k s st = absurd m

-- nothing was saved, and each run goes on
pub stops_run : EveryVersion → EveryQuiet → {v w : View} → HasMissed v w → (o : Opening) (slots : List Slot) (generation : ℕ) (s : Story) → Stops o (told v) (told w) (KnowsSlots slots generation) (KnowsSlots slots generation) s s
stops_run versions quiet {v = v} h o slots generation s = record {
  misses = events_of h.misses;
  are = misses_are h.misses h.are;
  met = misses_met o (state_after o (told v)) h.misses h.are;
  now_is = told_ran h.ran;
  go = λ s0 k stands knows. record { known = k; stands = misses_stand versions quiet o (told v) h.misses h.are s0 k s stands; knows = knows; same = record { master = refl; log = refl; account = refl } };
}

-- ## The page

not_cold : (x : Place) (f : ℕ) → in_frame x f ≡ true → not (is_cold x) ≡ true
not_cold (Place.Hot i) f h = refl
not_cold (Place.Cooling i e w) f h = refl
not_cold Place.Cold f h = h

pub save_met : (g : Opening) (s : State) (p f : ℕ) → in_frame (s.place p) f ≡ true → (s.page p).gsn ≤ flushed_by_all g s → core.may g s (happening.Event.Save p) ≡ true
save_met g s p f here low = and_from (not (is_cold (s.place p))) (leb (s.page p).gsn (flushed_by_all g s)) (not_cold (s.place p) f here) (le-leb (s.page p).gsn (flushed_by_all g s) low)

module _ {z : Shape} {v : View} {queue : List Cooling} {frames : ℕ} {slots : List Slot} {buffer : List ℕ} (r : IsReady z v queue frames slots buffer) {frame p : ℕ} (m : MaySaveIn v frame p) {n : Page} {generation : ℕ} (is : n ≡ written (state v).core p generation) where
  pub number : n.number ≡ p
  number = ap (λ (y : Page). y.number) is

  pub number_slots : n.number < length slots
  number_slots = let a = number in let b = m.below in let d = r.pages in omega arith

  pub number_few : n.number < 2 ^ 32
  number_few = let a = number in let b = m.below in let d = (r.seated.sound v.seen).few in omega arith

  met : core.may (opening v.given) (state v).core (happening.Event.Save p) ≡ true
  met = save_met (opening v.given) (state v).core p frame m.stands m.low

  -- it may be noted that the page is saved, where nothing was appended since
  pub can_save : {y : Shape} {u : View} {row page count : ℕ} → y ≡ z → Ran true v [] u → row ≡ frame → page ≡ p → count ≡ n.gsn → CanSave y u row page count
  can_save {y = y} {u = u} {row = row} {count = count} same ran place page_is count_is =
      let core_is : (state u).core ≡ (state v).core = ap (λ (m : Moment). m.core) (still ran) in
      let given = ran.given in
      subst (λ (x : ℕ × ℕ). CanSave y u x.0 x.1 count) (λ i. (sym place i, sym page_is i)) (record {
        on = record { actor = acts y u pager (ap (λ (s : Shape). s.alone) same ∙ r.seated.alone); order = λ es. let s = subst IsSound (sym given) r.seated.sound es in record { tree = s.tree; places = s.residence } };
        here = record { below = subst (λ (g : Given). p < (opening g).format.pages) (sym given) m.below; stands = subst (λ (s : State). in_frame (s.place p) frame ≡ true) (sym core_is) m.stands };
        met = subst (λ (x : Given × State). core.may (opening x.0) x.1 (happening.Event.Save p) ≡ true) (λ i. (sym given i, sym core_is i)) met;
        number_is = count_is ∙ (ap (λ (y : Page). y.gsn) is ∙ ap (λ (s : State). (s.page p).gsn) (sym core_is));
      })

  -- ## In a run

  module _ (pages : EveryPage) (reached : EveryReached) (needs : EveryNeed) (words : AreWords (words_of n)) (o : Opening) (opens : Opens o v.given) where
    core_is : (state v).core ≡ state_after o (told v)
    core_is = reached o v.given opens v.seen

    met_run : core.may o (state_after o (told v)) (happening.Event.Save p) ≡ true
    met_run = subst (λ (t : State). core.may o t (happening.Event.Save p) ≡ true) core_is (needs o v.given opens (state v).core (happening.Event.Save p) ∙ met)

    -- the page as it is written may be saved
    may_write : (s0 : Crash) (k : Known) (s : Story) → Stands o (told v) s0 k s → KnowsSlots slots generation k → calls.Saves o (told v) k n
    may_write s0 k s stands knows =
        let many : (opening v.given).format.pages ≡ k.master.pages = sym r.pages ∙ knows.knows.count in
        let sound = r.seated.sound v.seen in record {
          met = subst (λ q. core.may o (state_after o (told v)) (happening.Event.Save q) ≡ true) (sym number) met_run;
          stored = (pages n.number k.master.pages n).stored (opening v.given).format (record { room = refl; levels = refl; dead = refl }) many
              (subst (λ (y : Page). Rattle.page_model.specs.Nodes.WellFormed (opening v.given).format y.node) (sym is) (sound.tree.formed p m.below)) refl
              (subst (λ (y : Page). y.last_log < 256) (sym is) (sound.logs p)) words;
          generation = ap (λ (y : Page). y.generation) is ∙ sym knows.generation_is;
          contents = ap (λ (y : Page). contents_of y) is ∙ (ap (λ (t : State). t.page p) core_is ∙ ap (λ q. (state_after o (told v)).page q) (sym number));
          dirty = subst (λ (t : State). (t.saved n.number).gsn < n.gsn) core_is
              (subst (λ q. ((state v).core.saved q).gsn < n.gsn) (sym number) (subst (λ e. ((state v).core.saved p).gsn < e) (sym (ap (λ (y : Page). y.gsn) is)) (ltb-true ((state v).core.saved p).gsn ((state v).core.page p).gsn m.dirty)));
        }

    -- at every moment a crash leaves what one before it does
    pub keeps_run : {old new : Story} → SavesMoments slots n old new → KeepsWithin old new → KeepsRun o (told v) (KnowsSlots slots generation) old new
    keeps_run {old = old} {new = new} moments within = record {
      moments = λ s0 k stands knows. moments s0 o (told v) k (record { stands = stands; knows = knows.knows }) (may_write s0 k old stands knows);
      told = λ s0 k stands knows. weaker old new (CrashIn old 1 Anything) (λ c. c.notes ≡ old.notes) (λ c h. h.notes) within;
    }

    -- it was saved
    pub saves_run : {w : View} {now : List Slot} {old new : Story} → HasSaved v p w → WritesOn slots now n old new → Saves o (told v) (told w) frame (KnowsSlots slots generation) (KnowsSlots now generation) old new
    saves_run {w = w} {now = now} {old = old} {new = new} h writes = record {
      page = p;
      stands = subst (λ (t : State). in_frame (t.place p) frame ≡ true) core_is m.stands;
      met = met_run;
      now_is = told_ran h.ran;
      go = λ s0 k stands knows.
          let y = writes s0 o (told v) k (record { stands = stands; knows = knows.knows }) (may_write s0 k old stands knows) in
          record {
            known = y.0;
            stands = subst (λ q. Stands o (told v ++ happening.Event.Save q ∷ []) s0 y.0 new) number y.2.stands;
            knows = record { knows = y.2.knows; generation_is = ap (λ (x : _). x.generation) y.1.master ∙ knows.generation_is };
            same = record { master = y.1.master; log = y.1.log; account = y.1.account };
          };
    }

-- nothing was asked of the device
pub keeps_still : EveryKept → EveryPrefix → EverySealed → (o : Opening) (es : List happening.Event) (slots : List Slot) (generation : ℕ) (s : Story) → IsLawful s → KeepsRun o es (KnowsSlots slots generation) s s
keeps_still kept prefixes seals o es slots generation s law = record {
  moments = λ s0 k stands knows. started s (LeavesRun o es s0 k.master) law (λ c now. every_rest kept prefixes seals s s0 o es k stands c now);
  told = λ s0 k stands knows. started s (λ c. c.notes ≡ s.notes) law (λ c now. now.notes);
}

-- ## A sync

-- what was saved of each page is firm then
pub settles_run : {was is : List Slot} {old new : Story} → SettlesOn was is old new → (o : Opening) (es : List happening.Event) (generation : ℕ) → Settles o es es (KnowsSlots was generation) (KnowsSlots is generation) old new
settles_run {was = was} {is = is} {old = old} {new = new} settles o es generation = record {
  now_is = refl;
  go = λ s0 k stands knows.
      let on = settles s0 o es k (record { stands = stands; knows = knows.knows }) in
      record {
        known = with_settled k;
        stands = subst (λ (l : List happening.Event). Stands o l s0 (with_settled k) new) (sym (append-nil es)) on.stands;
        knows = record {
          knows = record { knows = on.knows; generation_is = knows.generation_is };
          firm = λ p lt. let e = ap (λ (x : _). x.gsn) (on.stands.saved p (subst (λ (f : _). p < f.pages) on.stands.is.format lt)) in omega arith;
        };
        same = record { master = refl; log = refl; account = refl };
      };
}

pub settle_keeps : {slots : List Slot} {old new : Story} → KeepsMoments slots old new → KeepsWithin old new → (o : Opening) (es : List happening.Event) (generation : ℕ) → KeepsRun o es (KnowsSlots slots generation) old new
settle_keeps {old = old} {new = new} moments within o es generation = record {
  moments = λ s0 k stands knows. moments s0 o es k (record { stands = stands; knows = knows.knows });
  told = λ s0 k stands knows. weaker old new (CrashIn old 1 Anything) (λ c. c.notes ≡ old.notes) (λ c h. h.notes) within;
}
