-- What the words of a frame's row say of the page that stands there, where nobody else steps.
use Rattle.std.proofs.Common.{◌≡◌, ◌≢◌, ◌<◌, ◌≤◌, ◌^◌, ◌++◌, ℕ, Bool, true, false, List, [], Some, None, refl, sym, ap, subst, ◌∙◌, arith, append-nil}
use Rattle.std.proofs.lemmas.Bool.{lt-ltb}
use Rattle.btree_descent.specs.core_state.Needs.{is_dirty}
use Rattle.btree_descent.specs.core_state.States.{State, in_frame, is_cooling}
use Rattle.btree_descent.specs.core_paging.Paging.{Residence}
use Rattle.btree_descent.specs.row_words.declared.given.Given.{Given}
use Rattle.btree_descent.specs.row_words.Moments.{Moment}
use Rattle.btree_descent.specs.row_words.Openings.{opening}
use Rattle.btree_descent.specs.row_words.Sealed.{Shown}
use Rattle.btree_descent.specs.row_words.Words.{ShowsFrame}
use Rattle.btree_descent.specs.rows_trait.declared.view.View.{View}
use Rattle.btree_descent.specs.rows_trait.Turns.{Ran}
use Rattle.btree_descent.specs.rows_trait.Views.{Shape, after_all, state}
use Rattle.btree_descent.specs.swips.declared.hint.TheConstants.{MARK}
use Rattle.btree_descent.proofs.Nodes.{shown_frame, stands}
use Rattle.checkpointer.specs.Savers.{IsFound}
use Rattle.checkpointer.specs.declared.saver.Dirty.{Dirty}
use Rattle.cooling_stage.specs.declared.stage.Cooling.{Cooling}
use Rattle.cooling_stage.specs.Queue.{found}
use Rattle.page_provider.proofs.Departures.{framed}
use Rattle.page_provider.proofs.Pools.{found_entry}
use Rattle.row_saver.specs.Inside.{Looks, ShowsIn}
use Rattle.row_saver.specs.Savers.{IsSeated}
use Rattle.row_saver.specs.declared.looking.Words.{Words}

-- nothing was appended, so the state is the same
pub still : {v u : View} → Ran true v [] u → state u ≡ state v
still {v = v} {u = u} r = (λ i. after_all (r.given i) ((r.seen ∙ (ap (λ es. v.seen ++ es) (r.all refl) ∙ append-nil v.seen)) i))

module _ {z : Shape} {v u : View} {queue : List Cooling} {frames : ℕ} (seat : IsSeated z v queue frames) {frame : ℕ} (lt : frame < frames) (looks : Looks v u) (w : Words) (shows : ShowsIn u frame w) where
  abbrev s : State
  s = (state v).core

  residence : Residence (opening v.given) s
  residence = (seat.sound v.seen).residence

  -- a word of the row is one of the frame, at the state that was seen before
  in_row : (i x : ℕ) → Shown u.given (state u) frame i x → ShowsFrame (opening v.given) s frame i x
  in_row i x h = shown_frame v.given (state v) frame i x (subst (λ n. frame < n) (sym seat.sized.given) lt)
      (subst (λ (p : Given × Moment). Shown p.0 p.1 frame i x) (λ j. (looks.ran.given j, still looks.ran j)) h)

  module _ (p : ℕ) (here : in_frame (s.place p) frame ≡ true) where
    below : p < (opening v.given).format.pages
    below = (residence.within p frame here).0

    page_is : w.page ≡ p
    page_is = (((in_row 0 w.page shows.page).page p below here).page (omega arith)).1

    gsn_is : w.gsn ≡ (s.page p).gsn
    gsn_is = (((in_row 1 w.gsn shows.gsn).page p below here).page (omega arith)).1

    saved_is : w.saved ≡ (s.saved p).gsn
    saved_is = ((in_row 127 w.saved shows.saved).page p below here).saved refl

    few : p < 2 ^ 32
    few = let a = below in let b = (seat.sound v.seen).few in omega arith

    cools : w.hint ≡ MARK → is_cooling (s.place p) ≡ true
    cools mark = go (is_cooling (s.place p)) refl
      where
        go : (b : Bool) → is_cooling (s.place p) ≡ b → is_cooling (s.place p) ≡ true
        go true e = e
        go false e = absurd (((in_row 126 w.hint shows.hint).page p below here).hint refl e mark)

    -- it is dirty where the row's numbers say so
    dirty : w.saved < w.gsn → is_dirty s p ≡ true
    dirty less = let a = gsn_is in let b = saved_is in let c : (s.saved p).gsn < (s.page p).gsn = omega arith in lt-ltb (s.saved p).gsn (s.page p).gsn c

  -- clean, whatever stands there
  pub found_clean : w.gsn ≤ w.saved → IsFound s frame None
  found_clean le p here = let a = gsn_is p here in let b = saved_is p here in omega arith

  -- the row has no mark, so a page stands hot there
  hot_one : w.hint ≢ MARK → (p : ℕ) × (in_frame (s.place p) frame ≡ true)
  hot_one ne = let t = stands (opening v.given) s frame w.hint (in_row 126 w.hint shows.hint) ne in (t.0, t.2)

  pub found_hot : w.saved < w.gsn → w.hint ≢ MARK → (d : Dirty) → d.page ≡ w.page → d.gsn ≡ w.gsn → IsFound s frame (Some d)
  found_hot less ne d page gsn =
      let t = hot_one ne in
      let e : t.0 ≡ d.page = sym (page_is t.0 t.1) ∙ sym page in
      let here : in_frame (s.place d.page) frame ≡ true = subst (λ q. in_frame (s.place q) frame ≡ true) e t.1 in
      record { stands = here; gsn_is = gsn ∙ gsn_is d.page here; dirty = dirty d.page here less }

  -- no page has such a number
  pub found_wide : (w.page < 2 ^ 32 → ⊥) → IsFound s frame None
  found_wide wide p here = absurd (wide (let a = page_is p here in let b = few p here in omega arith))

  -- the row has the mark: a page cools there, which the queue has, or none stands there
  module _ (mark : w.hint ≡ MARK) where
    pub found_nowhere : {page : ℕ} → page ≡ w.page → found page queue ≡ None → IsFound s frame None
    found_nowhere {page} is none p here =
        let x = seat.queued.every p (cools p here mark) in
        let e : p ≡ page = sym (page_is p here) ∙ sym is in
        let h : found page queue ≡ Some x.0 = subst (λ q. found q queue ≡ Some x.0) e x.1 in
        absurd (let c = sym none ∙ h in cc)

    module _ {page : ℕ} (is : page ≡ w.page) (entry : Cooling) (there : found page queue ≡ Some entry) where
      stands_in : in_frame (s.place page) entry.frame ≡ true
      stands_in = let f = found_entry page queue entry there in subst (λ q. in_frame (s.place q) entry.frame ≡ true) f.page (seat.queued.entries entry f.has).frame

      pub found_elsewhere : (entry.frame ≡ frame → ⊥) → IsFound s frame None
      found_elsewhere other p here =
          let e : p ≡ page = sym (page_is p here) ∙ sym is in
          let at : in_frame (s.place page) frame ≡ true = subst (λ q. in_frame (s.place q) frame ≡ true) e here in
          absurd (other (sym (framed (s.place page) entry.frame stands_in) ∙ framed (s.place page) frame at))

      pub found_cooling : entry.frame ≡ frame → w.saved < w.gsn → (d : Dirty) → d.page ≡ page → d.gsn ≡ w.gsn → IsFound s frame (Some d)
      found_cooling same less d same_page gsn =
          let here : in_frame (s.place d.page) frame ≡ true = subst (λ (x : ℕ × ℕ). in_frame (s.place x.0) x.1 ≡ true) (λ i. (sym same_page i, same i)) stands_in in
          record { stands = here; gsn_is = gsn ∙ gsn_is d.page here; dirty = dirty d.page here less }
