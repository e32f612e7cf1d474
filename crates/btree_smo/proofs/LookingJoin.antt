-- Whether two pages can be joined, as the nodes of the three rows say it.
use Rattle.std.proofs.Common.{◌<◌, ◌^◌, ◌≡◌, ◌==◌, ◌+◌, ltb, leb, inl, inr, ℕ, Bool, true, length, refl, sym, ap, subst, ◌∙◌, eq-eqb, arith}
use Rattle.std.proofs.lemmas.Bool.{lt-ltb, le-leb}
use Rattle.page_model.specs.Check.{names_page}
use Rattle.page_model.specs.Page as stored
use Rattle.btree_descent.specs.core_state.States.{is_hot}
use Rattle.btree_descent.specs.row_words.declared.given.Given.{Given}
use Rattle.btree_descent.specs.row_words.Moments.{Moment}
use Rattle.btree_descent.specs.row_words.Openings.{opening}
use Rattle.btree_descent.specs.rows_trait.declared.view.View.{View}
use Rattle.btree_descent.specs.rows_trait.Views.{state}
use Rattle.btree_descent.specs.Known.{Sound, IsSound}
use Rattle.row_image.specs.Images.{written}
use Rattle.btree_smo.specs.declared.join.Joining.{Joining}
use Rattle.btree_smo.specs.declared.outcome.Outcome.{Outcome}
use Rattle.btree_smo.specs.declared.outcome.Outcome.TheVariants.{Done, Full, TooTall, Stale, Moved, Latched, RowSpent, ClockSpent, Unstaged}
use Rattle.btree_smo.specs.Outcomes.{IsHotIn, Caused}
use Rattle.btree_smo.specs.Joins.{IsUnfit}
use Rattle.held_rows.specs.Rows.{Stood}
use Rattle.held_rows.specs.Latching.{Refused}
use Rattle.btree_smo.specs.Inside.{StandsIn, IsBare, IsMissed, Leads}
use Rattle.btree_smo.specs.Inside.Joining.{CanJoin, CantJoin, IsJoining, NotFit}
use Rattle.btree_smo.proofs.Reading.{reads, one_page}
use Rattle.btree_smo.proofs.Naming.{leads_to, low_leads}
use Rattle.btree_smo.proofs.LookingSplit.{spent_in}

-- ## Why not

module _ {v : Given} {m : Moment} {a b d : ℕ} where
  pub left_bare : IsBare v m a → IsUnfit a b d a v m
  left_bare bare = record { either = inl (refl, bare) }

  pub right_bare : IsBare v m b → IsUnfit a b d b v m
  right_bare bare = record { either = inr (inl (refl, λ p r h k. absurd (bare r k))) }

  pub parent_bare : IsBare v m d → IsUnfit a b d d v m
  parent_bare bare = record { either = inr (inr (refl, λ p r q h k n x y. bare q n)) }

-- a page that the parent names it leads to with the low fence that the node of its row tells
named_low : {v : Given} {m : Moment} {a d : ℕ} → Sound v m → (n : stored.Page) → StandsIn v m a n → (parent : stored.Page) → StandsIn v m d parent → (p q : ℕ) → IsHotIn v m a p → IsHotIn v m d q → names_page (m.core.page q).node p ≡ true → Leads n.node.low a parent
named_low {v} {m} {a} {d} sound n it parent above p q h k named =
    let pn = one_page p n.number sound.residence h it.stands in
    let qn = one_page q parent.number sound.residence k above.stands in
    let low : (m.core.page p).node.low ≡ n.node.low = ap (λ x. (m.core.page x).node.low) pn ∙ sym (reads it).low in
    subst (λ x. Leads x a parent) low (low_leads sound parent above a p h (subst (λ x. names_page (m.core.page x).node p ≡ true) qn named))

pub cant_fit : {alone : Bool} {v w : View} {a b d : ℕ} {left right parent : stored.Page} (why : Outcome) → Sound w.given (state w) → Stood alone v w → StandsIn w.given (state w) a left → StandsIn w.given (state w) b right → StandsIn w.given (state w) d parent
    → CantJoin a b d left right parent why → NotFit alone a b d v why w
cant_fit Done sound s l r p c = absurd c
cant_fit {left = left} {right = right} (Full row) sound s l r p c = (s, record { row_is = c.0; left = left.number; right = right.number; left_stands = l.stands; right_stands = r.stands; crowded = (let x = (reads l).count in let y = (reads r).count in let e = c.1 in omega arith) })
cant_fit TooTall sound s l r p c = absurd c
cant_fit {w = w} {left = left} {right = right} (Stale row) sound s l r p (inl c) = (
  s,
  record {
    either = inr (inl (
      c.0,
      λ x y h k e.
          let xl = one_page x left.number sound.residence h l.stands in
          let yr = one_page y right.number sound.residence k r.stands in
          c.1 ((reads l).high ∙ (ap (λ z. ((state w).core.page z).node.high) (sym xl) ∙ (e ∙ (ap (λ z. ((state w).core.page z).node.low) yr ∙ sym (reads r).low)))),
    ));
  },
)
cant_fit {left = left} {parent = parent} (Stale row) sound s l r p (inr (at, inl off)) = (s, record { either = inr (inr (at, λ x y q h k n nl nr. off (named_low sound left l parent p x q h n nl))) })
cant_fit {right = right} {parent = parent} (Stale row) sound s l r p (inr (at, inr off)) = (s, record { either = inr (inr (at, λ x y q h k n nl nr. off (named_low sound right r parent p y q k n nr))) })
cant_fit (Moved m) sound s l r p c = absurd c
cant_fit (Latched x) sound s l r p c = absurd c
cant_fit (RowSpent row) sound s l r p c = absurd c
cant_fit {left = left} ClockSpent sound s l r p (inl c) = (s, inl (spent_in left l c))
cant_fit {right = right} ClockSpent sound s l r p (inr (inl c)) = (s, inr (inl (spent_in right r c)))
cant_fit {parent = parent} ClockSpent sound s l r p (inr (inr c)) = (s, inr (inr (spent_in parent p c)))
cant_fit (Unstaged u) sound s l r p c = absurd c

-- a row was not to be had
pub missed_unfit : {alone : Bool} {v w : View} (a b d : ℕ) (why : Outcome) → IsMissed why → Refused alone v w → NotFit alone a b d v why w
missed_unfit a b d Done h r = absurd h
missed_unfit a b d (Full row) h r = absurd h
missed_unfit a b d TooTall h r = absurd h
missed_unfit a b d (Stale row) h r = absurd h
missed_unfit a b d (Moved m) h r = r
missed_unfit a b d (Latched l) h r = r
missed_unfit a b d (RowSpent row) h r = r
missed_unfit a b d ClockSpent h r = absurd h
missed_unfit a b d (Unstaged u) h r = absurd h

-- ## They can be

pub joining_at : {w : View} (worker a b d : ℕ) (l : Joining) → IsSound w.given → ((state w).core.worker worker).is_open ≡ true → ((state w).core.worker worker).clock < 2 ^ 62 → StandsIn w.given (state w) a l.left → StandsIn w.given (state w) b l.right → StandsIn w.given (state w) d l.parent
    → l.image ≡ written (state w).core l.right.number l.right.generation → CanJoin a b l.left l.right l.parent → IsJoining w worker a b d l
joining_at {w} worker a b d l sound open_is young left right parent image can =
    let s = (state w).core in
    let g = opening w.given in
    let p = l.left.number in
    let r = l.right.number in
    let q = l.parent.number in
    let hot0 : is_hot (s.place p) ≡ true = ap is_hot left.stands.hot in
    let hot1 : is_hot (s.place r) ≡ true = ap is_hot right.stands.hot in
    let hot2 : is_hot (s.place q) ≡ true = ap is_hot parent.stands.hot in
    let over : ltb q g.format.pages ≡ true = lt-ltb q g.format.pages parent.stands.below in
    let left_named : names_page (s.page q).node p ≡ true = leads_to (sound w.seen) l.parent parent a l.left.node.low l.left left can.leads_left in
    let right_named : names_page (s.page q).node r ≡ true = leads_to (sound w.seen) l.parent parent b l.right.node.low l.right right can.leads_right in
    let beside : ((s.page p).node.high == (s.page r).node.low) ≡ true = eq-eqb (s.page p).node.high (s.page r).node.low (sym (reads left).high ∙ (can.beside ∙ (reads right).low)) in
    let few : leb (length (s.page p).node.pairs + length (s.page r).node.pairs) 45 ≡ true = le-leb (length (s.page p).node.pairs + length (s.page r).node.pairs) 45 (let x = (reads left).count in let y = (reads right).count in let e = can.few in omega arith) in record {
      left = left;
      right = right;
      parent = parent;
      young = young;
      image = image;
      can = can;
      met = rw (hot0, hot1, hot2, open_is, over, left_named, right_named, beside, few) refl;
    }

-- the nodes alone do not say that a row was in the way
pub cant_caused : (v w : View) (a b d : ℕ) (left right parent : stored.Page) (why : Outcome) → CantJoin a b d left right parent why → Caused v why w
cant_caused v w a b d left right parent Done c = absurd c
cant_caused v w a b d left right parent (Full row) c = tt
cant_caused v w a b d left right parent TooTall c = absurd c
cant_caused v w a b d left right parent (Stale row) c = tt
cant_caused v w a b d left right parent (Moved m) c = absurd c
cant_caused v w a b d left right parent (Latched l) c = absurd c
cant_caused v w a b d left right parent (RowSpent row) c = absurd c
cant_caused v w a b d left right parent ClockSpent c = tt
cant_caused v w a b d left right parent (Unstaged u) c = absurd c
