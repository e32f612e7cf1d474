-- A disk that holds what a crash of a run left agrees with the core's image of that crash.
use Rattle.std.proofs.Common.{◌≡◌, ⊎_elim, ◌≤◌, ◌<◌, ℕ, zero, suc, List, [], ◌++◌, length, Some, refl, sym, ap, ap₂, ◌∙◌, subst, arith}
use Rattle.std.proofs.lemmas.Bool.{cases_lt}
use Rattle.map_model.specs.Lists.{Has}
use Rattle.map_model.specs.Journals.{Journal, IsClosed, after}
use Rattle.page_model.specs.Nodes.{Format}
use Rattle.core_crash.specs.image_model.Entries.{Entry, Contents}
use Rattle.core_crash.specs.image_model.Ends.{is_kept, kept}
use Rattle.core_crash.specs.image_model.Images.{Image, StandsFor, found, gathered, won_by}
use Rattle.core_crash.specs.core_state.Openings.{Opening, first_map}
use Rattle.core_crash.specs.core_state.States.{State}
use Rattle.core_crash.specs.core_state.Events.{Event}
use Rattle.core_crash.specs.core_paging.Paging.{EverySaved}
use Rattle.core_crash.proofs.Cuts.{keep_same}
use Rattle.core_crash.specs.Crashes.{EveryCrash, Leaves, Recovers, image_of, journal_in, kept_in}
use Rattle.disk_image.specs.disk_slots.declared.master.Master.{Master}
use Rattle.disk_image.specs.Laws.{Agree, Agreement, EveryAgreement}
use Rattle.disk_image.specs.Runs.{AreReadable}
use Rattle.disk_image.specs.Shown.{Areas, image_by, run_of}
use Rattle.core_crash.specs.core_state.Steps.{state_after}
use Rattle.core_disk.specs.FloorLaws.{ReachesAsFar, at_floor}
use Rattle.core_disk.specs.Held.{base_in, HoldsPrefix, HoldsRun, IsVersion}
use Rattle.core_disk.specs.Lives.{EveryHeld, Lives, kept_on}
use Rattle.core_disk.specs.Shows.{EveryShown}
use Rattle.core_disk.proofs.FloorLemmas.{agreement_at, every_floor_reach, sound_at}

pub gathered_same : (log other : ℕ → List Entry) (n : ℕ) → ((w : ℕ) → 0 < w → w ≤ n → log w ≡ other w) → gathered log n ≡ gathered other n
gathered_same log other zero h = refl
gathered_same log other (suc n) h =
    ap (λ (z : List Entry). z ++ gathered log n) (h (suc n) (omega arith) (omega arith))
    ∙ ap (λ (z : List Entry). other (suc n) ++ z) (gathered_same log other n (λ w s l. h w s (omega arith)))

module _ (crashes : EveryCrash) (saves : EverySaved) (agrees : EveryAgreement) (g : Opening) (es : List Event) (n : Master) (area : Areas) (h : HoldsRun g es n area) where
  abbrev s : State
  s = state_after g es

  -- the records that are left of log w
  abbrev Left : ℕ → Type 0
  Left w = (left : List Entry) × (0 < w → w ≤ g.workers → HoldsPrefix g s n w (area (suc w)) left)

  left_of : (w : ℕ) → Left w
  left_of w = ⊎_elim
      (λ (low : 0 < w). ⊎_elim
      (λ (above : g.workers < w). ([], λ a b. absurd (omega arith)))
      (λ (high : w ≤ g.workers). let l = h.logs w low high in (l.left, λ a b. l.holds))
      (cases_lt g.workers w))
      (λ (none : w ≤ 0). ([], λ a b. absurd (omega arith)))
      (cases_lt 0 w)

  abbrev logs : ℕ → List Entry
  logs w = (left_of w).0

  log_is : (w : ℕ) → 0 < w → w ≤ g.workers → HoldsPrefix g s n w (area (suc w)) (logs w)
  log_is w low high = (left_of w).1 low high

  -- what is left of page p
  abbrev Versioned : ℕ → Type 0
  Versioned p = (v : Contents) × IsVersion g es p v × (p < n.pages → base_in n p (area 1) ≡ Some v)

  page_of : (p : ℕ) → Versioned p
  page_of p = ⊎_elim
      (λ (lt : p < n.pages). let x = h.pages p lt in (x.page, x.version, λ l. x.base))
      (λ (ge : n.pages ≤ p). (s.saved p, record { been = (saves g es).pages p; number = (saves g es).numbers p; changes = (saves g es).changes p }, λ l. absurd (omega arith)))
      (cases_lt p n.pages)

  abbrev page : ℕ → Contents
  page p = (page_of p).0

  leaves : Leaves g es logs page
  leaves = record {
    prefixes = λ w low high. (log_is w low high).prefix;
    flushed = λ w low high. (log_is w low high).flushed;
    pages = λ p. (page_of p).1.been;
    numbers = λ p. (page_of p).1.number;
    changes = λ p. (page_of p).1.changes;
  }

  abbrev image : Image
  image = image_of g s logs page

  core : Recovers g s image
  core = crashes g h.is.faithful es logs page leaves

  -- by the master's floor
  as_far : ReachesAsFar g s n.floor (found image)
  as_far = every_floor_reach g es logs page n.floor leaves h.is.floor

  agree : Agree (at_floor n.floor image) (image_by n area)
  agree = record {
    format = h.is.format;
    logs = sym h.is.logs;
    floor = refl;
    log = λ w low high. sym (log_is w low high).entries;
    base = λ p lt. sym ((page_of p).2 (subst (λ (f : Format). p < f.pages) h.is.format lt));
  }

  agreement : Agreement image (image_by n area)
  agreement = agreement_at image n.floor as_far.reach (image_by n area) (agrees (at_floor n.floor image) (image_by n area) agree (sound_at image n.floor as_far.reach core.stands.sound))

  kept_is : kept_in g s image ≡ kept_on g s n area
  kept_is = sym (keep_same (is_kept g.workers n.floor (found image)) (is_kept g.workers s.floor (found image)) (journal_in g s) as_far.kept)
      ∙ ap (λ (z : List Entry). kept g.workers n.floor z (journal_in g s)) (gathered_same image.log (image_by n area).log g.workers agree.log ∙ ap (gathered (image_by n area).log) (sym h.is.logs))

  within : (w : ℕ) → w ≤ length n.heads → w ≤ g.workers
  within w high = let e = h.is.logs in omega arith

  readable : (w : ℕ) → 0 < w → w ≤ length n.heads → AreReadable n.generation w (run_of n w (area (suc w)))
  readable w low high = (log_is w low (within w high)).readable

  pub lives : Lives g s n area
  lives = record {
    clean = record {
      master = h.master;
      readable = readable;
      clean = record {
        sound = agreement.sound;
        blocks = λ w x low high. (log_is w low (within w high)).sealed x;
        slots = λ p i x lt half is later. absurd (let most = (h.pages p lt).slots i x half is in omega arith);
      };
    };
    stands = record {
      master = h.master;
      readable = readable;
      stands = subst (λ (j : Journal). StandsFor (image_by n area) (after (first_map g) j) (won_by (image_by n area))) kept_is
          (record { sound = agreement.sound; map = λ k. core.stands.map k ∙ sym (agreement.map k); won = refl });
    };
    closed = subst (IsClosed (journal_in g s)) kept_is core.closed;
    followed = λ t u it d. subst (Has u) kept_is (core.followed t u (subst (Has t) (sym kept_is) it) d);
    ripe = λ t it r. subst (Has t) kept_is (core.ripe t it r);
  }

pub every_held : EveryCrash → EverySaved → EveryAgreement → EveryHeld
every_held crashes saves agrees g es n area h = lives crashes saves agrees g es n area h

-- the crash that the bytes show
pub every_shown : EveryCrash → EverySaved → EveryAgreement → EveryShown
every_shown crashes saves agrees g es n area h = record {
  logs = logs crashes saves agrees g es n area h;
  page = page crashes saves agrees g es n area h;
  leaves = leaves crashes saves agrees g es n area h;
  agree = agree crashes saves agrees g es n area h;
  as_far = as_far crashes saves agrees g es n area h;
  clean = (lives crashes saves agrees g es n area h).clean;
}
