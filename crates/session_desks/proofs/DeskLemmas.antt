-- Where the desks of sessions stand, and how the turn goes.
use Rattle.std.proofs.Common.{◌≡◌, inl, inr, ◌<◌, ◌≤◌, ◌==◌, ◌-◌, ℕ, zero, suc, List, [], ◌∷◌, length, get_or, set, refl, sym, ap, ◌∙◌, subst, arith}
use Rattle.std.proofs.lemmas.Bool.{cases_eq, cond-true, cond-false, eq-eqb, ne_eqb}
use Rattle.std.proofs.lemmas.List.{get_or-set_same, get_or-set_other, length-set}
use Rattle.session_state.specs.worker_log.Logs.{Log}
use Rattle.session_state.specs.declared.session.Session.{Session}
use Rattle.session_desks.specs.Desks.{AreSeated, Turned, desk_of, place_of}
use Rattle.session_desks.specs.declared.desk.Desk.{Desk}
use denote.Struct.Props.{props}

-- ## Places

pub place_apart : (turn w : ℕ) → (w ≡ 1 → ⊥) → place_of turn w ≡ w - 2
place_apart turn w n = ap (λ (k : ℕ). k - 2) (cond-false (w == 1) turn w (ne_eqb w 1 n))

pub place_first : (turn w : ℕ) → w ≡ 1 → place_of turn w ≡ turn - 2
place_first turn w e = ap (λ (k : ℕ). k - 2) (cond-true (w == 1) turn w (eq-eqb w 1 e))

pub desk_own : (work : Desk) (desks : List Desk) (w : ℕ) → w ≡ work.session.own → desk_of work desks w ≡ work
desk_own work desks w e = cond-true (w == work.session.own) work (get_or desks (place_of work.session.own w) work) (eq-eqb w work.session.own e)

pub desk_apart : (work : Desk) (desks : List Desk) (w : ℕ) → (w ≡ work.session.own → ⊥) → desk_of work desks w ≡ get_or desks (place_of work.session.own w) work
desk_apart work desks w n = cond-false (w == work.session.own) work (get_or desks (place_of work.session.own w) work) (ne_eqb w work.session.own n)

two_at_least : (w : ℕ) → 0 < w → (w ≡ 1 → ⊥) → 2 ≤ w
two_at_least zero low n = absurd (omega arith)
two_at_least (suc zero) low n = absurd (n refl)
two_at_least (suc (suc w)) low n = omega arith

-- each session but the one that has the turn has its place
pub place_low : (turn w many : ℕ) (desks : List Desk) → suc (length desks) ≡ many → 0 < turn → turn ≤ many → 0 < w → w ≤ many → (w ≡ turn → ⊥) → place_of turn w < length desks
place_low turn w many desks count low high some most n = elim (cases_eq w 1) [
  | inl e ↦ (let p = place_first turn w e in let a = two_at_least turn low (λ q. n (e ∙ sym q)) in omega arith)
  | inr d ↦ (let p = place_apart turn w d in let a = two_at_least w some d in omega arith)
]

-- what stands there does not rest on the store
pub get_any : {A : Type 0} (xs : List A) (i : ℕ) (a b : A) → i < length xs → get_or xs i a ≡ get_or xs i b
get_any [] i a b l = absurd (omega arith)
get_any (x ∷ xs) zero a b l = refl
get_any (x ∷ xs) (suc i) a b l = get_any xs i a b (omega arith)

-- while the session in the store is the same, the other desks are
pub desk_same : (work store' : Desk) (desks : List Desk) (w : ℕ) → store'.session.own ≡ work.session.own → (w ≡ work.session.own → ⊥) → place_of work.session.own w < length desks → desk_of store' desks w ≡ desk_of work desks w
desk_same work store' desks w e n l = desk_apart store' desks w (λ q. n (q ∙ e))
    ∙ (ap (λ (k : ℕ). get_or desks (place_of k w) store') e ∙ (get_any desks (place_of work.session.own w) store' work l ∙ sym (desk_apart work desks w n)))

-- ## Two sessions change places

abbrev desk_with : Session → Log → Desk
desk_with session log = record { session = session; log = log }

-- by their parts
pub desk_is : (s t : Session) (l m : Log) → s ≡ t → l ≡ m → desk_with s l ≡ desk_with t m
desk_is s t l m e f i = record { session = e i; log = f i }

-- that a session's number is low is a fact, whatever it rests on
few_is : (n : ℕ) (p q : n ≤ 16) → p ≡ q
few_is n p q = let low : IsProp (n ≤ 16) = hlevel props in low p q

-- what it knows of free pages was set
pub free_set : (x y : Session) (f h : List ℕ) (few : x.own ≤ 16) → x ≡ y → f ≡ h → record x { free = f; few = few } ≡ record y { free = h }
free_set x y f h few e q = (λ i. record x { free = f; few = few_is x.own few x.few i }) ∙ (λ i. record (e i) { free = q i })

-- the session and its log are as they were, but for what it knows of free pages
pub record IsButFree (a b : Desk) : Type 0 where
  pub session : b.session ≡ record a.session { free = b.session.free }
  pub log : b.log ≡ a.log

pub but_free : (a : Desk) → IsButFree a a
but_free a = record { session = refl; log = refl }

pub but_free_as : (a x b y : Desk) → a ≡ x → b ≡ y → IsButFree x y → IsButFree a b
but_free_as a x b y e f h = subst (λ (k : Desk). IsButFree k b) (sym e) (subst (λ (k : Desk). IsButFree x k) (sym f) h)

-- the one in the store and the one at this place
pub record Swapped (place : ℕ) (old new : Desk) (desks_old desks_new : List Desk) : Type 0 where
  pub session : new.session ≡ record (get_or desks_old place old).session { free = old.session.free }
  pub log : new.log ≡ (get_or desks_old place old).log
  pub desks : desks_new ≡ set desks_old place (record { session = record old.session { free = (get_or desks_old place old).session.free }; log = old.log })

swapped_by : (place : ℕ) (old new there other left : Desk) (desks : List Desk) → place < length desks → there ≡ get_or desks place other → new.session ≡ record there.session { free = old.session.free } → new.log ≡ there.log
    → left ≡ record { session = record old.session { free = there.session.free }; log = old.log } → Swapped place old new desks (set desks place left)
swapped_by place old new there other left desks within is s l e = record {
  session = s ∙ ap (λ (d : Desk). record d.session { free = old.session.free }) found;
  log = l ∙ ap (λ (d : Desk). d.log) found;
  desks = ap (set desks place) (e ∙ ap (λ (d : Desk). desk_with (record old.session { free = d.session.free }) old.log) found);
}
  where
    found : there ≡ get_or desks place old
    found = is ∙ get_any desks place other old within

module _ (old new : Desk) (desks_old desks_new : List Desk) (place turn session : ℕ) (swap : Swapped place old new desks_old desks_new) (seated : AreSeated old desks_old) (within : place < length desks_old) (turn_is : old.session.own ≡ turn)
    (other : session ≡ turn → ⊥) (some : 0 < session) (most : session ≤ old.session.workers) (at : place_of turn session ≡ place) (back : place_of session turn ≡ place)
    (rest : (w : ℕ) → 0 < w → (w ≡ turn → ⊥) → (w ≡ session → ⊥) → (place_of session w ≡ place_of turn w) × (place_of turn w ≡ place → ⊥)) where
  abbrev there : Desk
  there = get_or desks_old place old

  abbrev left : Desk
  left = record { session = record old.session { free = there.session.free }; log = old.log }

  found : desk_of old desks_old session ≡ there
  found = desk_apart old desks_old session (λ q. other (q ∙ turn_is)) ∙ ap (λ (k : ℕ). get_or desks_old k old) (ap (λ (k : ℕ). place_of k session) turn_is ∙ at)

  own_is : new.session.own ≡ session
  own_is = ap (λ (s : Session). s.own) swap.session ∙ (ap (λ (d : Desk). d.session.own) (sym found) ∙ seated.own session some most)

  mover : IsButFree there new
  mover = record { session = swap.session ∙ (λ i. record there.session { free = (sym swap.session i).free }); log = swap.log }

  each : (w : ℕ) → 0 < w → w ≤ old.session.workers → IsButFree (desk_of old desks_old w) (desk_of new desks_new w)
  each w low high = elim (cases_eq w session) [
    | inl e ↦ subst (λ (k : ℕ). IsButFree (desk_of old desks_old k) (desk_of new desks_new k)) (sym e) (but_free_as (desk_of old desks_old session) there (desk_of new desks_new session) new found (desk_own new desks_new session (sym own_is)) mover)
    | inr n ↦ elim (cases_eq w turn) [
      | inl e ↦ subst (λ (k : ℕ). IsButFree (desk_of old desks_old k) (desk_of new desks_new k)) (sym e) (but_free_as (desk_of old desks_old turn) old (desk_of new desks_new turn) left (desk_own old desks_old turn (sym turn_is)) leaver (record { session = refl; log = refl }))
      | inr m ↦ but_free_as (desk_of old desks_old w) (desk_of old desks_old w) (desk_of new desks_new w) (desk_of old desks_old w) refl (stayer n m) (but_free (desk_of old desks_old w))
    ]
  ]
    where
      leaver : desk_of new desks_new turn ≡ left
      leaver = desk_apart new desks_new turn (λ q. other (sym (q ∙ own_is)))
          ∙ (ap (λ (k : ℕ). get_or desks_new k new) (ap (λ (k : ℕ). place_of k turn) own_is ∙ back)
          ∙ (ap (λ (ds : List Desk). get_or ds place new) swap.desks ∙ get_or-set_same desks_old place left new within))

      stayer : (w ≡ session → ⊥) → (w ≡ turn → ⊥) → desk_of new desks_new w ≡ desk_of old desks_old w
      stayer n m =
          let r = rest w low m n in
          let below = place_low turn w old.session.workers desks_old seated.count (subst (λ (k : ℕ). 0 < k) turn_is seated.low) (subst (λ (k : ℕ). k ≤ old.session.workers) turn_is seated.high) low high m in
          desk_apart new desks_new w (λ q. n (q ∙ own_is))
          ∙ (ap (λ (k : ℕ). get_or desks_new k new) (ap (λ (k : ℕ). place_of k w) own_is ∙ r.0)
          ∙ (ap (λ (ds : List Desk). get_or ds (place_of turn w) new) swap.desks ∙ (get_or-set_other desks_old place (place_of turn w) left new r.1
          ∙ (get_any desks_old (place_of turn w) new old below
          ∙ (ap (λ (k : ℕ). get_or desks_old (place_of k w) old) (sym turn_is) ∙ sym (desk_apart old desks_old w (λ q. m (q ∙ turn_is))))))))

  turned_by : Turned session old new desks_old desks_new
  turned_by = record {
    own = own_is;
    workers = ap (λ (s : Session). s.workers) swap.session ∙ (ap (λ (d : Desk). d.session.workers) (sym found) ∙ seated.workers session some most);
    count = ap length swap.desks ∙ length-set desks_old place left;
    free = ap (λ (s : Session). s.free) swap.session;
    session_of = λ w low high. (each w low high).session;
    log_of = λ w low high. (each w low high).log;
  }

-- ## The turn goes

-- session 1 comes into the store
pub to_first : (old new there other left : Desk) (desks : List Desk) → AreSeated old desks → (old.session.own ≡ 1 → ⊥) → there ≡ get_or desks (old.session.own - 2) other → new.session ≡ record there.session { free = old.session.free } → new.log ≡ there.log
    → left ≡ record { session = record old.session { free = there.session.free }; log = old.log } → Turned 1 old new desks (set desks (old.session.own - 2) left)
to_first old new there other left desks seated n is s l e =
    turned_by old new desks (set desks (old.session.own - 2) left) (old.session.own - 2) old.session.own 1 (swapped_by (old.session.own - 2) old new there other left desks within is s l e) seated within
    refl (λ q. n (sym q)) (omega arith) one (place_first old.session.own 1 refl) (place_apart 1 old.session.own n)
    (λ w low m d. (place_apart 1 w d ∙ sym (place_apart old.session.own w d), λ q. apart w low m d (sym (place_apart old.session.own w d) ∙ q)))
  where
    one : 1 ≤ old.session.workers
    one = let a = seated.low in let b = seated.high in omega arith

    within : old.session.own - 2 < length desks
    within = subst (λ (k : ℕ). k < length desks) (place_first old.session.own 1 refl) (place_low old.session.own 1 old.session.workers desks seated.count seated.low seated.high (omega arith) one (λ q. n (sym q)))

    apart : (w : ℕ) → 0 < w → (w ≡ old.session.own → ⊥) → (w ≡ 1 → ⊥) → w - 2 ≡ old.session.own - 2 → ⊥
    apart w low m d q = let a = two_at_least w low d in let b = two_at_least old.session.own seated.low n in m (omega arith)

-- another session comes in its place
pub from_first : (session : ℕ) (old new there other left : Desk) (desks : List Desk) → AreSeated old desks → old.session.own ≡ 1 → 0 < session → session ≤ old.session.workers → (session ≡ 1 → ⊥) → there ≡ get_or desks (session - 2) other → new.session ≡ record there.session { free = old.session.free }
    → new.log ≡ there.log → left ≡ record { session = record old.session { free = there.session.free }; log = old.log } → Turned session old new desks (set desks (session - 2) left)
from_first session old new there other left desks seated first some most n is s l e =
    turned_by old new desks (set desks (session - 2) left) (session - 2) 1 session (swapped_by (session - 2) old new there other left desks within is s l e) seated within
    first n some most (place_apart 1 session n) (place_first session 1 refl)
    (λ w low d m. (place_apart session w d ∙ sym (place_apart 1 w d), λ q. apart w low m d (sym (place_apart 1 w d) ∙ q)))
  where
    one : 1 ≤ old.session.workers
    one = let a = seated.low in let b = seated.high in omega arith

    within : session - 2 < length desks
    within = subst (λ (k : ℕ). k < length desks) (place_apart 1 session n) (place_low 1 session old.session.workers desks seated.count (omega arith) one some most n)

    apart : (w : ℕ) → 0 < w → (w ≡ session → ⊥) → (w ≡ 1 → ⊥) → w - 2 ≡ session - 2 → ⊥
    apart w low m d q = let a = two_at_least w low d in let b = two_at_least session some n in m (omega arith)
