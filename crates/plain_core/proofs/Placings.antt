-- Pages that are set over a table's.
use Rattle.std.proofs.Common.{◌≡◌, ◌≢◌, ◌-◌, ◌++◌, ◌∷◌, ◌==◌, ◌||◌, ℕ, zero, suc, Bool, true, false, cond, List, [], map, if◌then◌else◌, refl, sym, ◌∙◌, ap, arith, eq-eqb, eqb-true, true≢false}
use mathlib.Core.Path.{fun_ext}
use Rattle.map_model.specs.Lists.{upd}
use Rattle.page_model.specs.Pairs as paired
use Rattle.page_model.specs.Records.{Ref, any}
use Rattle.page_model.specs.Needs.{key_at}
use Rattle.core_state.specs.image_model.Entries as logged
use Rattle.core_state.specs.States as model
use Rattle.plain_core.specs.declared.records.Page as pages
use Rattle.plain_core.specs.declared.table.Placed.{Placed}
use Rattle.plain_core.specs.declared.state.Core.{Core}
use Rattle.plain_core.specs.Structure.{placed_by, placing_of}
use Rattle.plain_core.specs.Tables.{found}
use Rattle.plain_core.specs.Records.{page_of}
use Rattle.plain_core.specs.States.{Becomes, state_of}
use Rattle.plain_core.proofs.Meanings.{found_meant}

-- one pair further
pub key_more : (left : ℕ) (x : paired.Pair) (xs ys : List paired.Pair) → left ≢ 0 → ys ≡ x ∷ xs → key_at left ys ≡ key_at (left - 1) xs
key_more zero x xs ys ne e = absurd (ne refl)
key_more (suc n) x xs ys ne e =
    let m : n ≡ suc n - 1 = omega arith in
    ap (λ zs. key_at (suc n) zs) e ∙ ap (λ k. key_at k xs) m

-- what is set last stands below the others
pub found_last : {T : Type 0} (xs : List (Placed T)) (x : Placed T) (d : T) (i : ℕ) → found (xs ++ x ∷ []) d i ≡ found xs (cond (i == x.place) x.value d) i
found_last [] x d i = refl
found_last (y ∷ ys) x d i = ap (λ z. cond (i == y.place) y.value z) (found_last ys x d i)

pub set_more : {T : Type 0} (newer was : List (Placed T)) (x : Placed T) (now old : ℕ → T) (i : ℕ) → was ≡ newer ++ x ∷ [] → now ≡ upd old x.place x.value →
    found newer (now i) i ≡ found was (old i) i
set_more newer was x now old i h e =
    ap (λ (f : ℕ → _). found newer (f i) i) e ∙ sym (found_last newer x (old i) i) ∙ ap (λ ys. found ys (old i) i) (sym h)

step : (c d a : Bool) (w v u rest : logged.Contents) → c ≡ d → (d ≡ true → w ≡ v) → rest ≡ cond a v u → cond c w rest ≡ cond (d || a) v u
step true true a w v u rest e same ih = same refl
step true false a w v u rest e same ih = absurd (true≢false e)
step false true a w v u rest e same ih = absurd (true≢false (sym e))
step false false a w v u rest e same ih = ih

turned : (p q : ℕ) (b c : Bool) → (p == q) ≡ b → (q == p) ≡ c → b ≡ c
turned p q true c h k = sym (eq-eqb q p (sym (eqb-true p q h))) ∙ k
turned p q false true h k = absurd (true≢false (sym (eq-eqb p q (sym (eqb-true q p k))) ∙ h))
turned p q false false h k = refl

-- a page that the entry touches is what it leaves of it, and another one is as it was
placed_at : (page : ℕ → logged.Contents) (r : logged.Entry) (p : ℕ) (fs : List Ref) → found (placed_by page r fs) (page p) p ≡ cond (any (λ f. f.page == p) fs) (logged.written r p (page p)) (page p)
placed_at page r p [] = refl
placed_at page r p (f ∷ fs) =
    step (p == f.page) (f.page == p) (any (λ x. x.page == p) fs) (logged.written r f.page (page f.page)) (logged.written r p (page p)) (page p) (found (placed_by page r fs) (page p) p)
    (turned p f.page (p == f.page) (f.page == p) refl refl) (λ c. ap (λ q. logged.written r q (page q)) (eqb-true f.page p c)) (placed_at page r p fs)

-- the pages, after those of an entry are set
pub pages_placed : (r : logged.Entry) (items : List (Placed pages.Page)) (old new : ℕ → pages.Page) → ((i : ℕ) → new i ≡ found items (old i) i) →
    map placing_of items ≡ placed_by (λ p. page_of (old p)) r r.refs →
    ◌≡◌ {A = ℕ → logged.Contents} (λ p. page_of (new p)) (λ p. if logged.touches p r then logged.written r p (page_of (old p)) else page_of (old p))
pages_placed r items old new h e = fun_ext (λ p.
    ap page_of (h p) ∙ found_meant page_of items (old p) p ∙ ap (λ xs. found xs (page_of (old p)) p) e ∙ placed_at (λ q. page_of (old q)) r p r.refs)

-- pages, an entry, and then a worker
pub moved : (old one two new : Core) (P : ℕ → logged.Contents) (r : logged.Entry) (w : ℕ) (a : model.Worker) →
    Becomes old one (record (state_of old) { page = P }) →
    Becomes one two (record (state_of one) { entries = r ∷ (state_of one).entries }) →
    Becomes two new (record (state_of two) { worker = upd (state_of two).worker w a }) →
    Becomes old new (record (state_of old) { entries = r ∷ (state_of old).entries; page = P; worker = upd (state_of old).worker w a })
moved old one two new P r w a h k l = record {
  settings = l.settings ∙ k.settings ∙ h.settings;
  state = l.state ∙ ap (λ (t : model.State). record t { worker = upd t.worker w a }) (k.state ∙ ap (λ (t : model.State). record t { entries = r ∷ t.entries }) h.state);
}
