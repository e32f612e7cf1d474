-- How many pages cooled, and which can leave behind that.
use Rattle.std.proofs.Common.{◌≡◌, ◌≢◌, ◌<◌, ◌≤◌, ◌+◌, ◌==◌, ◌⊎◌, inl, inr, ℕ, suc, Bool, true, false, List, [], ◌∷◌, ◌++◌, length, Some, None, refl, sym, ap, subst, ◌∙◌, arith, true≢false}
use Rattle.std.specs.Prelude.{if◌then◌else◌}
use Rattle.std.proofs.lemmas.Bool.{cases_eq, eqb-true}
use Rattle.std.proofs.lemmas.List.{length-map}
use Rattle.map_model.proofs.ListLemmas.{upd_other, upd_same}
use Rattle.rfa_model.specs.Reaches.{least}
use Rattle.btree_descent.specs.core_state.Events as happening
use Rattle.btree_descent.specs.core_state.Needs as core
use Rattle.btree_descent.specs.core_state.Openings.{Opening}
use Rattle.btree_descent.specs.core_state.States.{Place, State, epoch_of, flushed_by_all, is_cooling}
use Rattle.btree_descent.specs.core_state.Steps.{happens, step}
use Rattle.btree_descent.specs.row_words.declared.event.Event.{Event}
use Rattle.btree_descent.specs.row_words.declared.event.Event.TheVariants as told
use Rattle.btree_descent.specs.row_words.declared.given.Given.{Given}
use Rattle.btree_descent.specs.row_words.Moments.{Moment}
use Rattle.btree_descent.specs.row_words.Openings.{opening}
use Rattle.btree_descent.specs.row_words.Sealed.{run, stepped}
use Rattle.btree_descent.specs.rows_trait.declared.view.View.{View}
use Rattle.btree_descent.specs.rows_trait.Turns.{Ran}
use Rattle.btree_descent.specs.rows_trait.Views.{Shape, state}
use Rattle.btree_descent.proofs.rows_trait.Runs.{ran_append}
use Rattle.cooling_stage.specs.declared.stage.Cooling.{Cooling}
use Rattle.cooling_stage.specs.Queue.{IsOnce, found, without}
use Rattle.page_pool.specs.Full.{IsHeldBack, NoneRipe}
use Rattle.page_pool.specs.Queues.{entry_of}
use Rattle.page_provider.specs.Evicts.{HasLeft, leaving}
use Rattle.page_provider.specs.Laws.{RowLaws}
use Rattle.page_provider.specs.Providers.{Keeps, Provider}
use Rattle.page_provider.specs.Shares.{AreNeeded, HasShare, cools_in}
use Rattle.page_provider.proofs.Judging.{tells}
use Rattle.page_provider.proofs.Standing.{core_step, ran_state, state_on}

-- ## How many cooled

pub cools_append : (es fs : List Event) → cools_in (es ++ fs) ≡ cools_in es + cools_in fs
cools_append [] fs = omega arith
cools_append (told.Cool p ∷ es) fs = let ih = cools_append es fs in omega arith
cools_append (_ ∷ es) fs = cools_append es fs

-- with events of which none is such
pub cools_then : (es fs : List Event) → cools_in fs ≡ 0 → cools_in (es ++ fs) ≡ cools_in es
cools_then es fs none = let a = cools_append es fs in let b = none in omega arith

pub leaving_cools : (dirty : Bool) (page : ℕ) → cools_in (leaving dirty page) ≡ 0
leaving_cools true page = refl
leaving_cools false page = refl

-- ## Pages that leave or come

-- each page that cools in t cooled in s, as it stood there; and what is flushed, and who is inside, is the same
pub record Sinks (s t : State) : Type 0 where
  pub place : (q : ℕ) → is_cooling (t.place q) ≡ true → t.place q ≡ s.place q
  pub page : (q : ℕ) → is_cooling (t.place q) ≡ true → t.page q ≡ s.page q
  pub flushed : t.flushed ≡ s.flushed
  pub inside : t.inside ≡ s.inside

sinks_then : {s t x : State} → Sinks s t → Sinks t x → Sinks s x
sinks_then {s} {t} {x} a b = record {
  place = λ q c. b.place q c ∙ a.place q (ap is_cooling (sym (b.place q c)) ∙ c);
  page = λ q c. b.page q c ∙ a.page q (ap is_cooling (sym (b.place q c)) ∙ c);
  flushed = b.flushed ∙ a.flushed;
  inside = b.inside ∙ a.inside;
}

sinks_save : (g : Opening) (s : State) (p : ℕ) → Sinks s (step g s (happening.Event.Save p))
sinks_save g s p = go (core.may g s (happening.Event.Save p))
  where
    go : (b : Bool) → Sinks s (if b then happens g s (happening.Event.Save p) else s)
    go true = record { place = λ q c. refl; page = λ q c. refl; flushed = refl; inside = refl }
    go false = record { place = λ q c. refl; page = λ q c. refl; flushed = refl; inside = refl }

sinks_evict : (g : Opening) (s : State) (p : ℕ) → Sinks s (step g s (happening.Event.Evict p))
sinks_evict g s p = go (core.may g s (happening.Event.Evict p))
  where
    other : (q : ℕ) → is_cooling ((happens g s (happening.Event.Evict p)).place q) ≡ true → (happens g s (happening.Event.Evict p)).place q ≡ s.place q
    other q c = elim (cases_eq q p) [
      | inl e ↦ absurd (true≢false (sym c ∙ ap is_cooling (upd_same s.place p Place.Cold q e)))
      | inr ne ↦ upd_other s.place p Place.Cold q ne
    ]

    go : (b : Bool) → Sinks s (if b then happens g s (happening.Event.Evict p) else s)
    go true = record { place = other; page = λ q c. refl; flushed = refl; inside = refl }
    go false = record { place = λ q c. refl; page = λ q c. refl; flushed = refl; inside = refl }

sinks_load : (g : Opening) (s : State) (p f : ℕ) → Sinks s (step g s (happening.Event.Load p f))
sinks_load g s p f = go (core.may g s (happening.Event.Load p f))
  where
    apart : (q : ℕ) → is_cooling ((happens g s (happening.Event.Load p f)).place q) ≡ true → q ≢ p
    apart q c e = true≢false (sym c ∙ ap is_cooling (upd_same s.place p (Place.Hot f) q e))

    go : (b : Bool) → Sinks s (if b then happens g s (happening.Event.Load p f) else s)
    go true = record {
      place = λ q c. upd_other s.place p (Place.Hot f) q (apart q c);
      page = λ q c. upd_other s.page p (s.saved p) q (apart q c);
      flushed = refl;
      inside = refl;
    }
    go false = record { place = λ q c. refl; page = λ q c. refl; flushed = refl; inside = refl }

-- each of the events saves a page, or a page leaves or comes by it
abbrev pub AreSinking : List Event → Type 0
AreSinking [] = Unit {0}
AreSinking (told.Save p ∷ es) = AreSinking es
AreSinking (told.Evict p ∷ es) = AreSinking es
AreSinking (told.Load p f ∷ es) = AreSinking es
AreSinking (_ ∷ es) = ⊥

sinks_run : (g : Given) (m : Moment) (es : List Event) → AreSinking es → Sinks m.core (run g m es).core
sinks_run g m [] k = record { place = λ q c. refl; page = λ q c. refl; flushed = refl; inside = refl }
sinks_run g m (told.Save p ∷ es) k = sinks_then (subst (λ (s : State). Sinks m.core s) (sym (core_step g m (told.Save p))) (sinks_save (opening g) m.core p)) (sinks_run g (stepped g m (told.Save p)) es k)
sinks_run g m (told.Evict p ∷ es) k = sinks_then (subst (λ (s : State). Sinks m.core s) (sym (core_step g m (told.Evict p))) (sinks_evict (opening g) m.core p)) (sinks_run g (stepped g m (told.Evict p)) es k)
sinks_run g m (told.Load p f ∷ es) k = sinks_then (subst (λ (s : State). Sinks m.core s) (sym (core_step g m (told.Load p f))) (sinks_load (opening g) m.core p f)) (sinks_run g (stepped g m (told.Load p f)) es k)
sinks_run g m (_ ∷ es) k = absurd k

pub sinks_ran : {alone : Bool} {v u : View} {es : List Event} → Ran alone v es u → AreSinking es → alone ≡ true → Sinks (state v).core (state u).core
sinks_ran {v = v} r k one =
    let s = ran_state r ∙ state_on v r.more in
    subst (λ (m : Moment). Sinks (state v).core m.core) (sym s) (sinks_run v.given (state v) r.more (subst AreSinking (sym (r.all one)) k))

pub leaving_sinks : (dirty : Bool) (page : ℕ) → AreSinking (leaving dirty page)
leaving_sinks true page = tt
leaving_sinks false page = tt

-- ## None can leave still

-- no page but one could leave, and that one cools no more
pub none_sunk : (g : Opening) {s t : State} → Sinks s t → (e : ℕ) → ((q : ℕ) → q < g.format.pages → q ≢ e → is_cooling (s.place q) ≡ true → (flushed_by_all g s < (s.page q).gsn) ⊎ IsHeldBack s q) → is_cooling (t.place e) ≡ false → NoneRipe g t
none_sunk g {s} {t} k e back off q below cools = elim (cases_eq q e) [
  | inl same ↦ absurd (true≢false (sym cools ∙ (ap (λ j. is_cooling (t.place j)) same ∙ off)))
  | inr ne ↦ elim (back q below ne (ap is_cooling (sym (k.place q cools)) ∙ cools)) [ inl a ↦ inl (above a) | inr b ↦ inr (held b) ]
]
  where
    above : flushed_by_all g s < (s.page q).gsn → flushed_by_all g t < (t.page q).gsn
    above a = let x = ap (λ f. least f g.workers) k.flushed in let y = ap (λ c. c.gsn) (k.page q cools) in omega arith

    held : IsHeldBack s q → IsHeldBack t q
    held h = record {
      worker = h.worker;
      epoch = h.epoch;
      inside = ap (λ (f : ℕ → Rattle.std.specs.Prelude.Option ℕ). f h.worker) k.inside ∙ h.inside;
      early = let a = ap epoch_of (k.place q cools) in let b = h.early in omega arith;
    }

-- ## The queue

without_none : (p : ℕ) (q : List Cooling) → found p q ≡ None → length (without p q) ≡ length q
without_none p [] e = refl
without_none p (x ∷ xs) e = go (without_none p xs) (x.page == p) e
  where
    go : (found p xs ≡ None → length (without p xs) ≡ length xs) → (b : Bool) → (if b then Some x else found p xs) ≡ None → length (if b then without p xs else x ∷ without p xs) ≡ suc (length xs)
    go rest true k = absurd (cc)
    go rest false k = ap suc (rest k)

-- one page at most is no more there
pub without_long : (p : ℕ) (q : List Cooling) → IsOnce q → length q ≤ length (without p q) + 1
without_long p [] once = omega arith
without_long p (x ∷ xs) once = go (without_long p xs once.1) (x.page == p) refl
  where
    go : length xs ≤ length (without p xs) + 1 → (b : Bool) → (x.page == p) ≡ b → suc (length xs) ≤ length (if b then without p xs else x ∷ without p xs) + 1
    go rest true e = let a = without_none p xs (ap (λ n. found n xs) (sym (eqb-true x.page p e)) ∙ once.0) in omega arith
    go rest false e = omega arith

found_gone : (p : ℕ) (q : List Cooling) → found p (without p q) ≡ None
found_gone p [] = refl
found_gone p (x ∷ xs) = go (found_gone p xs) (x.page == p) refl
  where
    go : found p (without p xs) ≡ None → (b : Bool) → (x.page == p) ≡ b → found p (if b then without p xs else x ∷ without p xs) ≡ None
    go rest true e = rest
    go rest false e = ap (λ b. if b then Some x else found p (without p xs)) e ∙ rest

absent_off : (p : ℕ) (x : Place) → None ≡ entry_of p x → is_cooling x ≡ false
absent_off p (Place.Hot f) e = refl
absent_off p (Place.Cooling f e w) h = absurd (cc)
absent_off p Place.Cold e = refl

-- a page that has left cools no more
pub left_off : {z : Shape} {v u : View} {k is : Provider} {page : ℕ} → RowLaws → HasLeft z v k page u is → is_cooling ((state u).core.place page) ≡ false
left_off {u = u} {k = k} {is = is} {page = page} laws left =
    let gone : found page is.queue ≡ None = ap (λ (p : Provider). found page p.queue) left.pool ∙ found_gone page k.queue in
    absent_off page ((state u).core.place page) (sym gone ∙ (tells laws left.goes.keeps).told page)

-- the queue is as long where a page has come
load_queue : (g : Opening) (s : State) (p f : ℕ) → (step g s (happening.Event.Load p f)).queue ≡ s.queue
load_queue g s p f = go (core.may g s (happening.Event.Load p f))
  where
    go : (b : Bool) → (if b then happens g s (happening.Event.Load p f) else s).queue ≡ s.queue
    go true = refl
    go false = refl

pub loaded_long : {z : Shape} {v u : View} {k is : Provider} {p f : ℕ} → Keeps z v k → Keeps z u is → Ran z.alone v (told.Load p f ∷ []) u → z.alone ≡ true → length is.queue ≡ length k.queue
loaded_long {v = v} {u = u} {k = k} {is = is} {p = p} {f = f} c d r one =
    let all : r.more ≡ told.Load p f ∷ [] = r.all one in
    let now : (state u).core ≡ (stepped v.given (state v) (told.Load p f)).core = ap (λ (m : Moment). m.core) (ran_state r ∙ state_on v r.more) ∙ ap (λ es. (run v.given (state v) es).core) all in
    let same : (state u).core.queue ≡ (state v).core.queue = ap (λ (s : State). s.queue) (now ∙ core_step v.given (state v) (told.Load p f)) ∙ load_queue (opening v.given) (state v).core p f in
    sym (length-map is.queue (λ (x : Cooling). x.page)) ∙ (ap length (d.agrees.queue ∙ (same ∙ sym c.agrees.queue)) ∙ length-map k.queue (λ (x : Cooling). x.page))

-- ## Behind others

-- of a part of the call, before which nothing was appended
pub share_before : {path : List ℕ} {alone : Bool} {v u w : View} (was is : Provider) → Ran alone v [] u → HasShare path alone u was w is → HasShare path alone v was w is
share_before was is r (inl a) = inl a
share_before was is r (inr (inl a)) = inr (inl a)
share_before {alone = alone} {v = v} {u = u} was is r (inr (inr h)) = inr (inr (record { at = h.at; before = h.before; after = h.after; came = ran_append alone v [] u h.before h.at r h.came; went = h.went; none = h.none }))

pub needed_before : {alone : Bool} {v u w : View} {was : Provider} → Ran alone v [] u → AreNeeded alone u was w → AreNeeded alone v was w
needed_before {alone = alone} {v = v} {u = u} {w = w} r n = record { events = n.events; ran = ran_append alone v [] u n.events w r n.ran; few = n.few }

-- a page has come behind that, and the queue is as long
pub share_behind : {path : List ℕ} {alone : Bool} {v u w : View} {es : List Event} (was k is : Provider) → Ran alone u es w → length is.queue ≡ length k.queue → HasShare path alone v was u k → HasShare path alone v was w is
share_behind was k is r long (inl a) = inl (let b = long in omega arith)
share_behind was k is r long (inr (inl a)) = inr (inl (a.0, let b = long in let d = a.1 in omega arith))
share_behind {alone = alone} {u = u} {w = w} {es = es} was k is r long (inr (inr h)) = inr (inr (record { at = h.at; before = h.before; after = h.after ++ es; came = h.came; went = ran_append alone h.at h.after u es w h.went r; none = h.none }))

pub needed_behind : {alone : Bool} {v u w : View} {was : Provider} {fs : List Event} → cools_in fs ≡ 0 → Ran alone u fs w → (NoneRipe (opening u.given) (state u).core → NoneRipe (opening w.given) (state w).core) → AreNeeded alone v was u → AreNeeded alone v was w
needed_behind {alone = alone} {v = v} {u = u} {w = w} {fs = fs} none r on n =
    let same = cools_then n.events fs none in
    record {
      events = n.events ++ fs;
      ran = ran_append alone v n.events u fs w n.ran r;
      few = elim n.few [
        | inl a ↦ inl (same ∙ a)
        | inr more ↦ elim more [ inl a ↦ inr (inl (omega arith)) | inr a ↦ inr (inr (a.0, on a.1)) ]
      ];
    }
