-- What the pieces of a call did, as parts of it.
use Rattle.std.proofs.Common.{◌≡◌, ◌∙◌, ◌%◌, ◌++◌, ◌&&◌, ℕ, Bool, true, List, [], ◌∷◌, Option, ap, refl, sym, subst, append-nil}
use Rattle.paged_desks.specs.core_calls.Fronts.{Done}
use Rattle.paged_desks.specs.core_state.Events as happening
use Rattle.paged_desks.specs.core_state.Needs.{may}
use Rattle.paged_desks.specs.core_state.Openings.{Opening}
use Rattle.paged_desks.specs.disk_runs.Quiet.{is_quiet}
use Rattle.paged_desks.proofs.engine_calls.MoveLemmas.{every_move}
use Rattle.paged_desks.specs.key_locks.declared.mode.Mode.{Mode}
use Rattle.paged_desks.specs.key_locks.declared.mode.Mode.TheVariants as modes
use Rattle.paged_desks.specs.key_locks.Rows.{event_mode}
use Rattle.lean_disk.specs.Story.{IsLawful, Story}
use Rattle.paged_desks.specs.row_opening.Openings.{Opens}
use Rattle.paged_desks.specs.row_words.declared.event.Event.{Event}
use Rattle.paged_desks.specs.row_words.declared.event.Event.TheVariants as told
use Rattle.paged_desks.specs.row_words.declared.given.Given.{Given}
use Rattle.paged_desks.specs.row_words.Moments.{event_of, events_of}
use Rattle.paged_desks.specs.row_words.Openings.{opening}
use Rattle.paged_desks.specs.rows_trait.declared.view.View.{View}
use Rattle.paged_desks.specs.rows_trait.Views.{state}
use Rattle.paged_desks.specs.session_state.Ties.{Behind}
use Rattle.paged_desks.specs.session_state.declared.session.Session.{Session}
use Rattle.paged_desks.proofs.call_parts.JoinLemmas.{every_join}
use Rattle.paged_desks.proofs.call_parts.StepLemmas.{every_step}
use Rattle.paged_desks.specs.call_parts.Laws.{EveryJoin, EveryStep}
use Rattle.paged_desks.specs.call_parts.Memory.{Memory}
use Rattle.paged_desks.specs.call_parts.Parts.{Failed, Part}
use Rattle.paged_desks.specs.Machines.{memory, view_of}
use Rattle.paged_desks.specs.declared.machine.PagedMachine.{PagedMachine}
use Rattle.row_room.specs.row_changes.Reads.{HasRead}
use Rattle.paged_calls.specs.Steps.{HasTaken}
use Rattle.paged_desks.specs.Calls.{IsBeside}
use Rattle.paged_desks.proofs.EndingLemmas.{Grounds}
use Rattle.paged_desks.proofs.StandLemmas.{memory_is}

-- ## From a view that has seen the same

pub behind_as : (g : Opening) (xs : List Done) (first : List happening.Event) (v u : View) → u.given ≡ v.given → u.seen ≡ v.seen → Behind g xs first v → Behind g xs first u
behind_as g xs first v u given seen b = record { opens = subst (λ (k : Given). Opens g k) (sym given) b.opens; met = b.met; seen = (λ i. events_of (given i).before ++ events_of (seen i)) ∙ b.seen }

pub part_from : (many : ℕ) (es : List Event) (v u w : View) (was is : Memory) (old new : Story) → u.given ≡ v.given → u.seen ≡ v.seen → Part many es u w was is old new → Part many es v w was is old new
part_from many es v u w was is old new given seen p = record {
  given = p.given ∙ given;
  seen = p.seen ∙ ap (λ ys. ys ++ es) seen;
  around = p.around;
  master = p.master;
  no_earlier = p.no_earlier;
  logged = λ g xs first b. p.logged g xs first (behind_as g xs first v u given seen b);
  goes = λ g xs first b. p.goes g xs first (behind_as g xs first v u given seen b);
}

pub failed_from : (many : ℕ) (saves syncs : Bool) (es : List happening.Event) (v u : View) (was : Memory) (old new : Story) → u.given ≡ v.given → u.seen ≡ v.seen → Failed many saves syncs es u was old new → Failed many saves syncs es v was old new
failed_from many saves syncs es v u was old new given seen f = record { around = f.around; fails = λ g xs first b. f.fails g xs first (behind_as g xs first v u given seen b) }

-- ## Pieces

module _ (l : Grounds) {D : Type 0} (story : D → Story) (lawful : (d : D) → IsLawful (story d)) where
  pub steps_at : (d : D) → EveryStep (story d) (story d)
  steps_at d = every_step l.reached l.needs l.versions l.kept l.prefixes l.seals (story d) (story d) (lawful d)

  pub joins_at : (a b c : D) → EveryJoin (story a) (story b) (story c)
  joins_at a b c = every_join (story a) (story b) (story c) (lawful a) (every_move l.kept l.prefixes l.seals l.versions (story a) (story b) (story c))

  module _ (m n : PagedMachine D) (b : IsBeside m n) (own : n.machine.work.session.own ≡ m.machine.work.session.own) where
    -- what was known of memory and disk is known still
    pub as_beside : (P : Memory → Story → Type 0) → P (memory m) (story m.machine.work.disk) → P (memory n) (story n.machine.work.disk)
    as_beside P p = subst (λ (d : D). P (memory n) (story d)) (sym b.disk) (subst (λ (k : Memory). P k (story m.machine.work.disk)) (sym (memory_is story m n b own)) p)

    -- nothing was seen
    pub none_part : (many : ℕ) → (view_of n).given ≡ (view_of m).given → (view_of n).seen ≡ (view_of m).seen → Part many [] (view_of m) (view_of n) (memory m) (memory n) (story m.machine.work.disk) (story n.machine.work.disk)
    none_part many given seen = as_beside (λ k s. Part many [] (view_of m) (view_of n) (memory m) k (story m.machine.work.disk) s)
        ((steps_at m.machine.work.disk many (view_of m) (view_of n) (memory m)).rest [] (record { given = given; seen = seen ∙ sym (append-nil (view_of m).seen); met = tt }) refl)

    -- one event was, which the disk does not see
    pub one_part : (many : ℕ) (e : Event) → is_quiet (event_of e) ≡ true → (view_of n).given ≡ (view_of m).given → (view_of n).seen ≡ (view_of m).seen ++ e ∷ [] → may (opening (view_of m).given) (state (view_of m)).core (event_of e) ≡ true
        → Part many (e ∷ []) (view_of m) (view_of n) (memory m) (memory n) (story m.machine.work.disk) (story n.machine.work.disk)
    one_part many e quiet given seen met = as_beside (λ k s. Part many (e ∷ []) (view_of m) (view_of n) (memory m) k (story m.machine.work.disk) s)
        ((steps_at m.machine.work.disk many (view_of m) (view_of n) (memory m)).rest (e ∷ []) (record { given = given; seen = seen; met = (met, tt) }) (ap (λ (q : Bool). q && true) quiet))

  -- a row was taken
  pub taken_own : (m n : PagedMachine D) (key : ℕ) (mode : Mode) (t : HasTaken key mode m n) → n.machine.work.session.own ≡ m.machine.work.session.own
  taken_own m n key mode t = ap (λ (x : Session). x.own) t.takes.session

  quiet_lock : (w i : ℕ) (mode : Mode) → is_quiet (event_of (told.Lock w i (event_mode mode))) ≡ true
  quiet_lock w i modes.Shared = refl
  quiet_lock w i modes.Alone = refl

  pub lock_part : (many : ℕ) (m n : PagedMachine D) (key : ℕ) (mode : Mode) (t : HasTaken key mode m n) → Part many (told.Lock m.machine.work.session.own (key % m.machine.work.session.held.count) (event_mode mode) ∷ []) (view_of m) (view_of n) (memory m) (memory n) (story m.machine.work.disk) (story n.machine.work.disk)
  lock_part many m n key mode t = one_part m n t.beside (taken_own m n key mode t) many (told.Lock m.machine.work.session.own (key % m.machine.work.session.held.count) (event_mode mode))
      (quiet_lock m.machine.work.session.own (key % m.machine.work.session.held.count) mode) t.takes.given t.takes.seen t.takes.met

  -- a key was read
  pub read_part : (many own key : ℕ) (value : Option ℕ) (m n : PagedMachine D) → IsBeside m n → n.machine.work.session.own ≡ m.machine.work.session.own → (r : HasRead own (view_of m) (view_of n) key value)
      → Part many (told.Read own r.page key value ∷ []) (view_of m) (view_of n) (memory m) (memory n) (story m.machine.work.disk) (story n.machine.work.disk)
  read_part many own key value m n b same r = one_part m n b same many (told.Read own r.page key value) refl r.given r.seen r.met
