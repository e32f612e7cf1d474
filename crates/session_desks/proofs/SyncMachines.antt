-- The parts of an engine behind a sync.
use Rattle.std.proofs.Common.{◌≡◌, ◌≤◌, ◌<◌, inl, inr, ℕ, zero, suc, Bool, true, List, [], ◌∷◌, length, get_or, refl, sym, ap, ◌∙◌, subst, arith}
use Rattle.std.proofs.lemmas.Bool.{cases_eq, cond-true}
use Rattle.session_state.specs.core_state.Events as happening
use Rattle.session_state.specs.core_state.Needs.{may}
use Rattle.session_state.specs.core_state.States as core
use Rattle.session_state.specs.core_state.Steps.{happens}
use Rattle.lean_disk.specs.Story.{Story}
use Rattle.map_model.specs.Lists.{Has}
use Rattle.session_state.specs.disk_slots.declared.master.Master.{Master}
use Rattle.session_state.specs.row_words.declared.event.Event.TheVariants as told
use Rattle.session_state.specs.row_words.declared.given.Given.{Given}
use Rattle.session_state.specs.row_words.Moments.{Moment}
use Rattle.session_state.specs.row_words.Openings.{opening}
use Rattle.session_state.specs.row_words.Sealed.{stepped}
use Rattle.session_state.specs.rows_trait.Plain.{sizes}
use Rattle.session_state.specs.rows_trait.Rule.{IsPicture, plan}
use Rattle.session_state.specs.rows_trait.declared.view.View.{View}
use Rattle.session_state.specs.rows_trait.Views.{Shape, state}
use Rattle.session_state.specs.worker_log.Logs.{Log}
use Rattle.session_state.specs.Opened.{plain_shape}
use Rattle.session_state.specs.Syncs.{EverySynced, HasSynced}
use Rattle.session_desks.specs.Desks.{desk_of, log_of, place_of}
use Rattle.session_desks.specs.Machines.{AreDesks, AreLogged, HasNumbers, IsDesk, IsMachine}
use Rattle.session_desks.specs.Syncs.{AreRaised, Flushed, raised_desk}
use Rattle.session_desks.specs.declared.desk.Desk.{Desk}
use Rattle.session_desks.proofs.DeskLemmas.{desk_apart, desk_own, place_low}
use Rattle.session_desks.proofs.FloorLemmas.{seen_more}
use Rattle.session_desks.proofs.NumberLemmas.{numbers_seen}
use Rattle.session_desks.proofs.SeatLemmas.{turn_high, turn_low}

-- ## Desks

module _ (z : Shape) (v : View) (work : Desk) (desks news : List Desk) (n : ℕ) (are : AreDesks z v work desks) (r : AreRaised desks news n) where
  -- whose desk it is
  pub desk_raised : (w : ℕ) → 0 < w → w ≤ work.session.workers → desk_of (raised_desk work n) news w ≡ raised_desk (desk_of work desks w) n
  desk_raised w low high = elim (cases_eq w work.session.own) [
    | inl e ↦ desk_own (raised_desk work n) news w e ∙ ap (λ (d : Desk). raised_desk d n) (sym (desk_own work desks w e))
    | inr other ↦ desk_apart (raised_desk work n) news w other
        ∙ (r.each (place_of work.session.own w) (raised_desk work n) (place_low work.session.own w work.session.workers desks are.count (turn_low z v work desks are) (turn_high z v work desks are) low high other)
        ∙ ap (λ (d : Desk). raised_desk d n) (same w low high other ∙ sym (desk_apart work desks w other)))
  ]
    where
      get_same : (xs : List Desk) (i : ℕ) (a b : Desk) → i < length xs → get_or xs i a ≡ get_or xs i b
      get_same [] i a b lt = absurd (omega arith)
      get_same (x ∷ xs) zero a b lt = refl
      get_same (x ∷ xs) (suc i) a b lt = get_same xs i a b (omega arith)

      same : (w : ℕ) → 0 < w → w ≤ work.session.workers → (w ≡ work.session.own → ⊥) → get_or desks (place_of work.session.own w) (raised_desk work n) ≡ get_or desks (place_of work.session.own w) work
      same w low high other = get_same desks (place_of work.session.own w) (raised_desk work n) work (place_low work.session.own w work.session.workers desks are.count (turn_low z v work desks are) (turn_high z v work desks are) low high other)

  module _ (law : EverySynced) (w : View) (flushed : (u : ℕ) → 0 < u → u ≤ work.session.workers → (log_of work desks u).flushed ≡ (log_of work desks u).last) (sync : HasSynced v w n) where
    pub desks_synced : AreDesks z w (raised_desk work n) news
    desks_synced = record {
      count = ap suc r.count ∙ are.count;
      each = λ u low high. subst (λ (d : Desk). IsDesk z w (raised_desk work n).session u d) (sym (desk_raised u low high)) (let m = are.each u low high in record {
        own = m.own;
        workers = m.workers;
        group = m.group;
        frames = m.frames;
        count = m.count;
        works = m.works;
        holds = law z v w (record (desk_of work desks u).session { free = work.session.free }) (desk_of work desks u).log n m.holds (flushed u low high) sync;
      });
    }

-- ## The moment

floor_at : (v : Given) (m : Moment) (n : ℕ) → may (opening v) m.core (happening.Event.Sync n) ≡ true → (stepped v m (told.Sync n)).core.floor ≡ n
unfolding stepped
floor_at v m n met = ap (λ (s : core.State). s.floor) (cond-true (may (opening v) m.core (happening.Event.Sync n)) (happens (opening v) m.core (happening.Event.Sync n)) m.core met)

pub synced_floor : (v w : View) (n : ℕ) → HasSynced v w n → (state w).core.floor ≡ n
synced_floor v w n s = ap (λ (m : Moment). m.core.floor) (seen_more v w (told.Sync n ∷ []) s.given s.seen) ∙ floor_at v.given (state v) n s.met

-- ## The parts

pub machine_synced : EverySynced → (f l m f' l' m' : ℕ) (words words' : List ℕ) (v w : View) (work : Desk) (desks news : List Desk) (marks : List Bool) (master next : Master) (n : ℕ) → IsMachine f l m words v work desks marks master → plain_shape f' l' m' ≡ plain_shape f l m
    → IsPicture (plan (sizes f' l' m') w.given) words' w → AreRaised desks news n → ((u : ℕ) → 0 < u → u ≤ work.session.workers → (log_of work desks u).flushed ≡ (log_of work desks u).last) → HasSynced v w n → next.floor ≤ n → HasNumbers next (length v.seen) work.session.workers
    → IsMachine f' l' m' words' w (raised_desk work n) news marks next
machine_synced law f l m f' l' m' words words' v w work desks news marks master next n was shape fits r flushed sync floor numbers = record {
  fits = fits;
  desks = subst (λ (z : Shape). AreDesks z w (raised_desk work n) news) (sym shape) (desks_synced (plain_shape f l m) v work desks news n was.desks r law w flushed sync);
  unmarked = was.unmarked;
  numbers = numbers_seen next v w (told.Sync n ∷ []) work.session.workers sync.seen numbers;
  floor = let a = floor in let b = synced_floor v w n sync in omega arith;
}

-- ## The logs behind the flushes

pub logged_flushed : (v u : View) (many : ℕ) (was is : ℕ → Log) (old now : Story) → AreLogged (state v).core was many → ((a : ℕ) → 0 < a → a ≤ many → (state u).core.flushed a ≡ (is a).flushed) → Flushed many many v u was is old now → AreLogged (state u).core is many
logged_flushed v u many was is old now l at f a some high = record {
  last = λ r has k o. let b = (l a some high).last r (subst (λ es. Has r es) f.entries has) k o in let c = f.last a some high in omega arith;
  ends = λ n. absurd (n (sym (f.flushed a some high)));
  flushed = at a some high;
}
