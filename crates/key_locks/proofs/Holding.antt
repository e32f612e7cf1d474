-- A lock row that a seat holds: its words are loaded and stored.
use Rattle.std.proofs.Common.{◌≡◌, ◌+◌, ℕ, Bool, true, false, List, [], ◌∷◌, length, set, get_or, refl, sym, ap, subst, ◌∙◌}
use Rattle.lean_proto.specs.row_words.declared.given.Given.{Given}
use Rattle.lean_proto.specs.row_words.Openings.{opening}
use Rattle.lean_proto.specs.row_words.Words.{lock_words}
use Rattle.lean_proto.specs.rows_trait.declared.view.Hold.{Hold}
use Rattle.lean_proto.specs.rows_trait.declared.view.View.{View}
use Rattle.lean_proto.specs.rows_trait.Layout.{width}
use Rattle.lean_proto.specs.rows_trait.Views.{Shape, Spells, state, hold, holds, held_at, without}
use Rattle.lean_proto.specs.rows_trait.Turns.{Loaded, Stored}
use Rattle.lean_proto.proofs.rows_trait.Runs.{ran_goes, ran_none, ran_append}
use Rattle.lean_proto.proofs.rows_trait.Holds.{holds_write, write_here}
use Rattle.key_locks.specs.Inside.{IsAt, IsHeld, Stayed}
use Rattle.key_locks.specs.Latching.{IsLatch}
use Rattle.key_locks.proofs.Lists.{without_write, five}
use Rattle.key_locks.proofs.Staying.{row_goes, five_wide, spelled_words}

-- ## The row stays

pub stayed_none : (alone : Bool) (row : ℕ) (v : View) → holds v.held row ≡ true → Stayed alone row v v
stayed_none alone row v h = record { ran = ran_none alone v; rest = refl; here = h; same = λ j e. refl }

pub stayed_then : (alone : Bool) (row : ℕ) (v w u : View) → Stayed alone row v w → Stayed alone row w u → Stayed alone row v u
stayed_then alone row v w u a b = record {
  ran = ran_append alone v [] w [] u a.ran b.ran;
  rest = b.rest ∙ a.rest;
  here = b.here;
  same = λ j e. b.same j (ap (λ (g : Given). (opening g).frames + j) a.ran.given ∙ e) ∙ a.same j e;
}

-- on rows of the same shape, by the same number
pub stayed_more : (z y : Shape) (q row : ℕ) (v w u : View) → z ≡ y → q ≡ row → Stayed y.alone row v w → Stayed z.alone q w u → Stayed y.alone row v u
stayed_more z y q row v w u shape is a b = stayed_then y.alone row v w u a (subst (λ (s : Shape × ℕ). Stayed s.0.alone s.1 w u) (λ i. (shape i, is i)) b)

stayed_load : (z : Shape) (row i n : ℕ) (v w : View) → holds v.held row ≡ true → Loaded z row i v n w → Stayed z.alone row v w
stayed_load z row i n v w h l = record {
  ran = ran_goes z v [] w tt l.goes;
  rest = ap (λ hs. without hs row) l.held;
  here = ap (λ hs. holds hs row) l.held ∙ h;
  same = λ j e. row_goes z v w row h l.goes j e;
}

pub stayed_store : (z : Shape) (row i x : ℕ) (v w : View) → holds v.held row ≡ true → Stored z row i x v w → Stayed z.alone row v w
stayed_store z row i x v w h s = record {
  ran = ran_goes z v [] w tt s.goes;
  rest = ap (λ hs. without hs row) s.held ∙ without_write v.held row i x;
  here = ap (λ hs. holds hs row) s.held ∙ (holds_write v.held row i x row ∙ h);
  same = λ j e. row_goes z v w row h s.goes j e;
}

-- ## Its words

pub held_store : (z : Shape) (row i x : ℕ) (v w : View) (words : List ℕ) → Stored z row i x v w → IsHeld row words v → IsHeld row (set words i x) w
held_store z row i x v w words s h =
    let at : held_at w.held row ≡ hold (held_at v.held row).row (held_at v.held row).version (held_at v.held row).was (set (held_at v.held row).now i x) (held_at v.held row).done = ap (λ hs. held_at hs row) s.held ∙ write_here v.held row i x h.here in record {
      here = ap (λ hs. holds hs row) s.held ∙ (holds_write v.held row i x row ∙ h.here);
      fresh = ap (λ (y : Hold). y.done) at ∙ h.fresh;
      now = ap (λ (y : Hold). y.now) at ∙ ap (λ l. set l i x) h.now;
    }

-- a hold's row, under another name
pub held_at_row : {q row : ℕ} {words : List ℕ} {v : View} → q ≡ row → IsHeld row words v → IsHeld q words v
held_at_row {words = words} {v = v} e h = subst (λ (r : ℕ). IsHeld r words v) (sym e) h

-- ## Stores in a held row

-- since v the row stayed, and has these words; q is its number in the hold, on rows of the same shape
pub record Stores (y z : Shape) (row q : ℕ) (words : List ℕ) (v w : View) : Type 0 where
  pub shape : z ≡ y
  pub place : q ≡ row
  pub stayed : Stayed y.alone row v w
  pub held : IsHeld row words w

pub stores_none : {words : List ℕ} (z : Shape) (row : ℕ) (v : View) → IsHeld row words v → Stores z z row row words v v
stores_none z row v h = record { shape = refl; place = refl; stayed = stayed_none z.alone row v h.here; held = h }

-- one more
pub stores_then : {y z t : Shape} {row q r : ℕ} {words : List ℕ} {v w u : View} (i x : ℕ) → Stores y z row q words v w
    → t ≡ z → r ≡ q → Stayed z.alone q w u → ((l : List ℕ) → IsHeld q l w → IsHeld q (set l i x) u) → Stores y t row r (set words i x) v u
stores_then {y = y} {z = z} {row = row} {q = q} {words = words} {v = v} {w = w} {u = u} i x k shape place stayed stored = record {
  shape = shape ∙ k.shape;
  place = place ∙ k.place;
  stayed = stayed_more z y q row v w u k.shape k.place k.stayed stayed;
  held = subst (λ (p : ℕ). IsHeld p (set words i x) u) k.place (stored words (held_at_row k.place k.held));
}

-- what the next store asks for
pub stores_free : {y z : Shape} {row q : ℕ} {words : List ℕ} {v w : View} → Stores y z row q words v w → (holds w.held q ≡ true) × ((held_at w.held q).done ≡ false)
stores_free k = let h = held_at_row k.place k.held in (h.here, h.fresh)

pub stores_word : {y z : Shape} {row q : ℕ} {words : List ℕ} {v w : View} (i : ℕ) → Stores y z row q words v w → get_or (held_at w.held q).now i 0 ≡ get_or words i 0
stores_word i k = ap (λ l. get_or l i 0) (held_at_row k.place k.held).now

-- ## Loads of a held row

-- a load, and those before it
pub record Loads (alone : Bool) (row : ℕ) (u w : View) : Type 0 where
  pub stayed : Stayed alone row u w
  pub held : w.held ≡ u.held

pub loads_first : (z : Shape) (row i n : ℕ) (v w : View) → holds v.held row ≡ true → Loaded z row i v n w → Loads z.alone row v w
loads_first z row i n v w h l = record { stayed = stayed_load z row i n v w h l; held = l.held }

pub loads_more : (z y : Shape) (row i n : ℕ) (u v w : View) → z ≡ y → Loads y.alone row u v → Loaded z row i v n w → Loads y.alone row u w
loads_more z y row i n u v w same k l = record { stayed = stayed_more z y row row u v w same refl k.stayed (stayed_load z row i n v w k.stayed.here l); held = l.held ∙ k.held }

pub word_of : (z : Shape) (row i n : ℕ) (alone : Bool) (u v w : View) → Loads alone row u v → Loaded z row i v n w → n ≡ get_or (held_at u.held row).now i 0
word_of z row i n alone u v w k l = l.own k.stayed.here ∙ ap (λ hs. get_or (held_at hs row).now i 0) k.held

-- five words of a latched row, in its order
pub five_words : (l : List ℕ) (a b c d e : ℕ) → length l ≡ 5 → a ≡ get_or l 0 0 → b ≡ get_or l 1 0 → c ≡ get_or l 2 0 → d ≡ get_or l 3 0 → e ≡ get_or l 4 0 → l ≡ a ∷ b ∷ c ∷ d ∷ e ∷ []
five_words l a b c d e size p q r s t = five l size ∙ (λ i. sym p i ∷ sym q i ∷ sym r i ∷ sym s i ∷ sym t i ∷ [])

-- five words of a latched row, loaded one after another
pub record FiveLoads (y z : Shape) (row : ℕ) (words : List ℕ) (v w : View) : Type 0 where
  pub shape : z ≡ y
  pub loads : Loads y.alone row v w
  pub was : (held_at v.held row).now ≡ words

pub five_loads : {y s t p q : Shape} {row a b c d e : ℕ} {v v1 v2 v3 v4 v5 : View} → IsLatch v.held row → Loaded y row 0 v a v1 → s ≡ y → Loaded s row 1 v1 b v2 → t ≡ s
    → Loaded t row 2 v2 c v3 → p ≡ t → Loaded p row 3 v3 d v4 → q ≡ p → Loaded q row 4 v4 e v5 → FiveLoads y q row (a ∷ b ∷ c ∷ d ∷ e ∷ []) v v5
five_loads {y = y} {s = s} {t = t} {p = p} {q = q} {row = row} {a = a} {b = b} {c = c} {d = d} {e = e} {v = v} {v1 = v1} {v2 = v2} {v3 = v3} {v4 = v4} {v5 = v5} h la sy lb ts lc pt ld qp le =
    let ty = ts ∙ sy in
    let py = pt ∙ ty in
    let k1 = loads_first y row 0 a v v1 h.here la in
    let k2 = loads_more s y row 1 b v v1 v2 sy k1 lb in
    let k3 = loads_more t y row 2 c v v2 v3 ty k2 lc in
    let k4 = loads_more p y row 3 d v v3 v4 py k3 ld in record {
      shape = qp ∙ py;
      loads = loads_more q y row 4 e v v4 v5 (qp ∙ py) k4 le;
      was = five_words (held_at v.held row).now a b c d e h.size (la.own h.here) (word_of s row 1 b y.alone v v1 v2 k1 lb) (word_of t row 2 c y.alone v v2 v3 k2 lc) (word_of p row 3 d y.alone v v3 v4 k3 ld) (word_of q row 4 e y.alone v v4 v5 k4 le);
    }

pub latch_held : {y z : Shape} {row : ℕ} {words : List ℕ} {v w : View} → IsLatch v.held row → FiveLoads y z row words v w → IsHeld row words w
latch_held {row = row} h k = record {
  here = k.loads.stayed.here;
  fresh = ap (λ hs. (held_at hs row).done) k.loads.held ∙ h.fresh;
  now = ap (λ hs. (held_at hs row).now) k.loads.held ∙ k.was;
}

-- they are those of the row at the last load
pub latch_said : {y z : Shape} {row i n a : ℕ} {words : List ℕ} {v u w : View} → IsAt y v row i → IsLatch v.held row → FiveLoads y z row words v w → Loaded z row n u a w → words ≡ lock_words (opening w.given).workers ((state w).core.row i)
latch_said {y = y} {row = row} {i = i} {words = words} {v = v} {w = w} at h k l =
    let same : (held_at w.held row).was ≡ words = ap (λ hs. (held_at hs row).was) k.loads.held ∙ (sym h.same ∙ k.was) in
    let wide = ap (λ (s : Shape). width s.sizes row) k.shape ∙ five_wide y v row i at in
    let place : (opening w.given).frames + i ≡ row = ap (λ (g : Given). (opening g).frames + i) k.loads.stayed.ran.given ∙ at.place in
    let stands : Spells w.given (state w) 5 row words = subst (λ (x : ℕ × List ℕ). Spells w.given (state w) x.0 row x.1) (λ j. (wide j, same j)) (l.goes.stands row k.loads.stayed.here) in
    spelled_words w.given row i place (state w) words (ap length (sym k.was) ∙ h.size) stands
