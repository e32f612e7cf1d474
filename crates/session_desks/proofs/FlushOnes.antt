-- The flush of one session's log, behind the turn that went to it.
use Rattle.std.proofs.Common.{◌≡◌, ◌↔◌, ◌≤◌, ◌<◌, ◌⊎◌, inl, inr, ◌++◌, ℕ, List, Result, Ok, Err, OnOk, IsOk, refl, sym, ap, ◌∙◌, subst}
use Rattle.std.proofs.lemmas.Bool.{cases_eq}
use Rattle.std.proofs.lemmas.List.{append_cancel_left}
use Rattle.session_state.specs.core_state.Steps.{AllMet}
use Rattle.lean_disk.specs.Story.{Story}
use Rattle.session_state.specs.log_calls.Wholes.{FlushesWhole, flush_of}
use Rattle.session_state.specs.row_words.declared.event.Event.{Event}
use Rattle.session_state.specs.row_words.Moments.{events_of}
use Rattle.session_state.specs.row_words.Openings.{opening}
use Rattle.session_state.specs.rows_trait.declared.view.View.{View}
use Rattle.session_state.specs.rows_trait.Views.{Shape, state}
use Rattle.session_state.specs.worker_log.Logs.{Log}
use Rattle.session_state.specs.Holds.{IsSameSession}
use Rattle.session_state.specs.Syncs.{FlushesOwn, MayFlush, flushed_of, flushes_of}
use Rattle.session_state.specs.declared.session.Session.{Session}
use Rattle.session_desks.specs.Desks.{Turned, desk_of, log_of}
use Rattle.session_desks.specs.Machines.{AreDesks}
use Rattle.session_desks.specs.Syncs.{AreStill, FlushedOne}
use Rattle.session_desks.specs.declared.desk.Desk.{Desk}
use Rattle.session_desks.proofs.DeskLemmas.{desk_own, desk_same, place_low}
use Rattle.session_desks.proofs.SeatLemmas.{desks_turned, turn_high, turn_low}

-- where it went well
pub on_ok : {A E P Q R W : Type 0} (r : Result A E) → OnOk r P → OnOk r Q → (W ↔ IsOk r) → (P → Q → W → R) → OnOk r R
on_ok (Ok x) p q w f = f p q (w.1 refl)
on_ok (Err e) p q w f = tt

-- ## Sessions that change little

behind_same : (x y : Session) → y ≡ x → y ≡ record x { unflushed = y.unflushed }
behind_same x y q = q ∙ (λ i. record x { unflushed = sym (ap (λ (s : Session). s.unflushed) q) i })

still_by : (o x y : Session) → x ≡ record o { free = x.free } → y ≡ record x { unflushed = y.unflushed } → y ≡ record o { free = y.free; unflushed = y.unflushed }
still_by o x y p q = q ∙ (ap (λ (s : Session). record s { unflushed = y.unflushed }) p ∙ (λ i. record o { free = sym (ap (λ (s : Session). s.free) q) i; unflushed = y.unflushed }))

-- one change behind another
pub still_more : (o x y : Session) → x ≡ record o { free = x.free; unflushed = x.unflushed } → y ≡ record x { free = y.free; unflushed = y.unflushed } → y ≡ record o { free = y.free; unflushed = y.unflushed }
still_more o x y p q = q ∙ ap (λ (s : Session). record s { free = y.free; unflushed = y.unflushed }) p

module _ (z : Shape) (v w : View) (session : ℕ) (old_desk x y : Desk) (desks_old desks : List Desk) (are : AreDesks z v old_desk desks_old) (some : 0 < session) (most : session ≤ old_desk.session.workers) (t : Turned session old_desk x desks_old desks) where
  -- its log is that in the store
  pub log_is : log_of old_desk desks_old session ≡ x.log
  log_is = sym (t.log_of session some most) ∙ ap (λ (d : Desk). d.log) (desk_own x desks session (sym t.own))

  -- what is known of it there
  pub at_turn : (P : View → ℕ → Log → Type 0) (u : View) → u ≡ v → P v session (log_of old_desk desks_old session) → P u x.session.own x.log
  at_turn P u e h = subst (λ k. P k x.session.own x.log) (sym e) (subst (λ l. P v x.session.own l) log_is (subst (λ o. P v o (log_of old_desk desks_old session)) (sym t.own) h))

  pub from_turn : (P : ℕ → Log → Type 0) → P x.session.own x.log → P session (log_of old_desk desks_old session)
  from_turn P h = subst (λ l. P session l) (sym log_is) (subst (λ o. P o x.log) t.own h)

  -- whether it may be flushed
  pub may_is : MayFlush (desk_of old_desk desks_old session).session (desk_of old_desk desks_old session).log → MayFlush x.session x.log
  may_is may = subst (λ (d : Desk). MayFlush d.session d.log) (desk_own x desks session (sym t.own))
      (subst (λ (s : Session). MayFlush s (desk_of x desks session).log) (sym (t.session_of session some most))
      (subst (λ (l : Log). MayFlush (record (desk_of old_desk desks_old session).session { free = (desk_of x desks session).session.free }) l) (sym (t.log_of session some most)) may))

  pub turned : AreDesks z v x desks
  turned = desks_turned z v session old_desk x desks_old desks are some most t

  module _ (old new : Story) (f : FlushesOwn v w x.session y.session x.log y.log old new) where
    pub same : IsSameSession x.session y.session
    same = (ap (λ (s : Session). s.own) f.session, ap (λ (s : Session). s.workers) f.session, ap (λ (s : Session). s.group) f.session)

    new_is : log_of y desks session ≡ y.log
    new_is = ap (λ (d : Desk). d.log) (desk_own y desks session (sym (same.0 ∙ t.own)))

    other_desk : (u : ℕ) → 0 < u → u ≤ old_desk.session.workers → (u ≡ session → ⊥) → desk_of y desks u ≡ desk_of x desks u
    other_desk u low high other = desk_same x y desks u same.0 (λ q. other (q ∙ t.own)) (place_low x.session.own u x.session.workers desks turned.count (turn_low z v x desks turned) (turn_high z v x desks turned) low (subst (λ n. u ≤ n) (sym t.workers) high) (λ q. other (q ∙ t.own)))

    flushes_is : flushes_of x.session.own x.log ≡ flushes_of session (log_of old_desk desks_old session)
    flushes_is i = flushes_of (t.own i) (sym log_is i)

    flush_is : flush_of x.session.own x.log ≡ flush_of session (log_of old_desk desks_old session)
    flush_is i = flush_of (t.own i) (sym log_is i)

    pub flushed_one : FlushedOne session old_desk.session.workers v w (log_of old_desk desks_old) (log_of y desks) old new
    flushed_one = record {
      given = f.given;
      seen = f.seen ∙ ap (λ (es : List Event). v.seen ++ es) flushes_is;
      core = ap events_of (sym flushes_is) ∙ (f.core ∙ flush_is);
      met = subst (AllMet (opening v.given) (state v).core) (ap events_of (append_cancel_left v.seen f.steps.events (flushes_of x.session.own x.log) (sym f.steps.seen ∙ f.seen)) ∙ (f.core ∙ flush_is)) f.steps.met;
      after = new_is ∙ (f.after ∙ ap flushed_of (sym log_is));
      last = ap (λ (l : Log). l.last) new_is ∙ (f.last ∙ ap (λ (l : Log). l.last) (sym log_is));
      flushed = ap (λ (l : Log). l.flushed) new_is ∙ (f.flushed ∙ ap (λ (l : Log). l.last) (sym new_is));
      others = λ u low high other. ap (λ (d : Desk). d.log) (other_desk u low high other) ∙ t.log_of u low high;
      whole = subst (λ o. FlushesWhole o (log_of old_desk desks_old session) (log_of y desks session) old new) t.own
          (subst (λ l. FlushesWhole x.session.own l (log_of y desks session) old new) (sym log_is) (subst (λ l. FlushesWhole x.session.own x.log l old new) (sym new_is) f.stands));
    }

    -- of each session only what it knows of free pages, and how many of its commits wait, may have changed
    pub still_same : AreStill old_desk.session.workers old_desk desks_old y desks
    still_same u low high = still_by (desk_of old_desk desks_old u).session (desk_of x desks u).session (desk_of y desks u).session (t.session_of u low high) (at (cases_eq u session))
      where
        at : (u ≡ session) ⊎ (u ≡ session → ⊥) → (desk_of y desks u).session ≡ record (desk_of x desks u).session { unflushed = (desk_of y desks u).session.unflushed }
        at (inl e) = at_store (desk_of x desks u) (desk_of y desks u) (desk_own x desks u (e ∙ sym t.own)) (desk_own y desks u (e ∙ sym (same.0 ∙ t.own)))
          where
            at_store : (a b : Desk) → a ≡ x → b ≡ y → b.session ≡ record a.session { unflushed = b.session.unflushed }
            at_store a b p q = ap (λ (d : Desk). d.session) q ∙ (f.session ∙ (λ i. record (sym p i).session { unflushed = (sym q i).session.unflushed }))
        at (inr n) = behind_same (desk_of x desks u).session (desk_of y desks u).session (ap (λ (d : Desk). d.session) (other_desk u low high n))
