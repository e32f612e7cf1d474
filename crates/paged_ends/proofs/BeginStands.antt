-- A machine behind a begin.
use Rattle.std.proofs.Common.{◌∙◌, ◌++◌, ℕ, List, [], ◌∷◌, ap, refl, sym, subst}
use Rattle.paged_desks.proofs.engine_calls.MoveLemmas.{every_move}
use Rattle.lean_disk.specs.Story.{IsLawful, Story}
use Rattle.paged_desks.specs.row_words.declared.event.Event.{Event}
use Rattle.paged_desks.specs.row_words.declared.event.Event.TheVariants as told
use Rattle.row_ends.specs.Begins.{Begins}
use Rattle.paged_desks.specs.session_desks.Parts.{SeatFits, shape}
use Rattle.paged_desks.specs.session_state.Holds.{Holds, IsSameSession}
use Rattle.paged_desks.specs.session_state.Others.{EveryOther, Steps}
use Rattle.paged_desks.specs.session_state.declared.session.Session.{Session}
use Rattle.paged_desks.proofs.call_parts.JoinLemmas.{every_join}
use Rattle.paged_desks.proofs.call_parts.StepLemmas.{every_step}
use Rattle.paged_desks.specs.call_parts.Memory.{Memory}
use Rattle.paged_desks.specs.call_parts.Parts.{Part}
use Rattle.paged_desks.specs.Calls.{IsBeside}
use Rattle.paged_desks.specs.Machines.{IsReady, memory, view_of}
use Rattle.paged_desks.specs.declared.machine.PagedMachine.{PagedMachine}
use Rattle.paged_desks.proofs.EndingLemmas.{Grounds}
use Rattle.paged_desks.proofs.StandLemmas.{looked_one, memory_is, ready_on}
use Rattle.paged_ends.specs.Pieces.{HasBegun}

module _ {D : Type 0} (story : D → Story) (p n : PagedMachine D) where
  pub same_begun : (number : ℕ) → Begins (view_of p) (view_of n) p.machine.work.session n.machine.work.session number → IsSameSession p.machine.work.session n.machine.work.session
  same_begun number b = (ap (λ (s : Session). s.own) b.session, ap (λ (s : Session). s.workers) b.session, ap (λ (s : Session). s.group) b.session)

  pub ready_begun : EveryOther → IsReady story p → IsBeside p n → (number : ℕ) → Begins (view_of p) (view_of n) p.machine.work.session n.machine.work.session number → SeatFits n.machine → Steps p.machine.work.session.own (view_of p) (view_of n)
      → Holds (shape n.machine) (view_of n) n.machine.work.session n.machine.work.log → IsReady story n
  ready_begun law ready beside number b fits steps holds =
      ready_on story p n beside ready law b.given (looked_one (view_of p) (view_of n) (told.Begin p.machine.work.session.own b.floor) tt b.given b.seen) fits (ap (λ (s : Session). s.works) b.session ∙ ready.works) (same_begun number b) steps holds

  -- it is a part of a call
  pub begin_part : (l : Grounds) → ((d : D) → IsLawful (story d)) → (many number : ℕ) (b : HasBegun p n number)
      → Part many (told.Begin p.machine.work.session.own b.begins.floor ∷ []) (view_of p) (view_of n) (memory p) (memory n) (story p.machine.work.disk) (story n.machine.work.disk)
  begin_part l lawful many number b =
      subst (λ (k : Memory). Part many es (view_of p) (view_of n) (memory p) k st (story n.machine.work.disk)) (sym (memory_is story p n b.beside (ap (λ (s : Session). s.own) b.begins.session)))
      (subst (λ (d : D). Part many es (view_of p) (view_of n) (memory p) (memory p) st (story d)) (sym b.beside.disk)
      ((every_step l.reached l.needs l.versions l.kept l.prefixes l.seals st st (lawful p.machine.work.disk) many (view_of p) (view_of n) (memory p)).rest es (record { given = b.begins.given; seen = b.begins.seen; met = (b.begins.met, tt) }) refl))
    where
      st : Story
      st = story p.machine.work.disk

      es : List Event
      es = told.Begin p.machine.work.session.own b.begins.floor ∷ []

-- behind another part
pub join_parts : (l : Grounds) {D : Type 0} (story : D → Story) → ((d : D) → IsLawful (story d)) → (many : ℕ) (m p n : PagedMachine D) (es later : List Event)
    → Part many es (view_of m) (view_of p) (memory m) (memory p) (story m.machine.work.disk) (story p.machine.work.disk) → Part many later (view_of p) (view_of n) (memory p) (memory n) (story p.machine.work.disk) (story n.machine.work.disk)
    → Part many (es ++ later) (view_of m) (view_of n) (memory m) (memory n) (story m.machine.work.disk) (story n.machine.work.disk)
join_parts l story lawful many m p n es later a b =
    let x = story m.machine.work.disk in
    let y = story p.machine.work.disk in
    let z = story n.machine.work.disk in
    (every_join x y z (lawful m.machine.work.disk) (every_move l.kept l.prefixes l.seals l.versions x y z) many es (view_of m) (view_of p) (view_of n) (memory m) (memory p) (memory n)).join later a b
