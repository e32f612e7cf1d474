-- A transaction that is ended in what a crash leaves has all its records there, with all that stood before them,
-- and what it met was ended too.
use Rattle.std.proofs.Common.{◌≡◌, ℕ, ◌≤◌, max, Bool, true, false, cond, ◌&&◌, leb, List, [], ◌∷◌, ◌⊎◌, if◌then◌else◌, refl, sym, ap, ◌∙◌, subst, inl, inr, arith, true≢false}
use Rattle.std.proofs.lemmas.Bool.{cases_Bool, cond-true, cond-false, cases_eq, eq-eqb, ne_eqb, and_parts, and_from, leb-true, le-leb}
use Rattle.map_model.specs.Lists.{all, keep, Has}
use Rattle.rfa_model.specs.Reaches.{least}
use Rattle.core_paging.specs.image_model.Entries.{Entry, touches, is_call, is_write, is_end, is_record, same_txn}
use Rattle.core_paging.specs.core_state.Steps.{claims}
use Rattle.core_paging.specs.core_state.Openings.{Opening}
use Rattle.core_crash.proofs.Words.{found}
use Rattle.core_paging.proofs.core_commit.KindFacts.{write_claims, end_is_record, write_is_record, write_is_no_end, call_is_no_end}
use Rattle.core_paging.specs.image_model.Ends.{greatest, reach, ends, ended}
use Rattle.core_paging.proofs.core_commit.Lists.{Within, Before, has_before, before_has, behind_has, least_le, le_least, each_at}
use Rattle.map_model.proofs.ListLemmas.{any_has, has_any, keep_has, has_keep, all_of}
use Rattle.core_paging.proofs.core_commit.History.{SameTxn, same_from, same_to, Covered, EndOf, Closes, Recorded, IsRecorded, compare, PagesCovered, page_at, page_hit, page_miss, ref_touch, each_behind}

-- What is known of a crash: F and the reach R, and that all records up to the reach are there.
pub record Cut (g : Opening) (F R : ℕ) (up_to : ℕ → ℕ) (h : List Entry) : Type 0 where
  pub records : IsRecorded g F h
  pub far : F ≤ R
  pub all : (r : Entry) → Has r h → is_record r.kind ≡ true → r.number ≤ R → found up_to r ≡ true

-- the end of r's transaction that counts
pub record Ended (R : ℕ) (up_to : ℕ → ℕ) (h : List Entry) (r : Entry) : Type 0 where
  pub end : Entry
  pub behind : List Entry
  pub place : Before end behind h
  pub is_end : is_end end.kind ≡ true
  pub same : SameTxn end r
  pub found : found up_to end ≡ true
  pub need : end.need ≤ R

abbrev pub is_ended : ℕ → (ℕ → ℕ) → List Entry → Entry → Bool
is_ended R up_to h r = ended R (keep (found up_to) h) r

pub ended_to : (R : ℕ) (up_to : ℕ → ℕ) (h : List Entry) (r : Entry) → is_ended R up_to h r ≡ true → Ended R up_to h r
ended_to R up_to h r q =
    let a = any_has (ends R r) (keep (found up_to) h) q in
    let k = keep_has (found up_to) h a.0 a.1 in
    let b = has_before a.0 h k.0 in
    let p = and_parts (is_end a.0.kind) (same_txn a.0 r && leb a.0.need R) a.2 in
    let s = and_parts (same_txn a.0 r) (leb a.0.need R) p.1 in
    record { end = a.0; behind = b.0; place = b.1; is_end = p.0; same = same_to a.0 r s.0; found = k.1; need = leb-true a.0.need R s.1 }

pub ended_from : (R : ℕ) (up_to : ℕ → ℕ) (h : List Entry) (r : Entry) (e : Entry) → Has e h → is_end e.kind ≡ true → SameTxn e r → found up_to e ≡ true → e.need ≤ R → is_ended R up_to h r ≡ true
ended_from R up_to h r e i k s f n =
    has_any (ends R r) (keep (found up_to) h) e (has_keep (found up_to) h e i f)
    (and_from (is_end e.kind) (same_txn e r && leb e.need R) k (and_from (same_txn e r) (leb e.need R) (same_from e r s) (le-leb e.need R n)))

pub found_from : (up_to : ℕ → ℕ) (r : Entry) → is_record r.kind ≡ true → r.number ≤ up_to r.log → found up_to r ≡ true
found_from up_to r k n = and_from (is_record r.kind) (leb r.number (up_to r.log)) k (le-leb r.number (up_to r.log) n)

pub found_to : (up_to : ℕ → ℕ) (r : Entry) → found up_to r ≡ true → r.number ≤ up_to r.log
found_to up_to r h = leb-true r.number (up_to r.log) (and_parts (is_record r.kind) (leb r.number (up_to r.log)) h).1

-- an entry that is no end stands behind the end of its transaction
pub behind_end : (g : Opening) (F : ℕ) (h : List Entry) → IsRecorded g F h → (e : Entry) (be : List Entry) → Before e be h → is_end e.kind ≡ true →
    (r : Entry) (b : List Entry) → Before r b h → is_end r.kind ≡ false → SameTxn e r → Before r b be
behind_end g F h hist e be pe ke r b pr kr s = go (compare h e be r b pe pr)
  where
    go : ((e ≡ r) × (be ≡ b)) ⊎ (Before e be b ⊎ Before r b be) → Before r b be
    go (inl q) = absurd (true≢false (sym ke ∙ (ap (λ (x : Entry). is_end x.kind) q.0 ∙ kr)))
    go (inr (inl q)) = absurd ((each_at (Recorded g F) h r b hist pr).still_open e (before_has e be b q) ke s)
    go (inr (inr q)) = q

-- a transaction ends once
pub one_end : (g : Opening) (F : ℕ) (h : List Entry) → IsRecorded g F h → (d e : Entry) → Has d h → Has e h → is_end d.kind ≡ true → is_end e.kind ≡ true → SameTxn d e → d ≡ e
one_end g F h hist d e id ie kd ke s =
    let pd = has_before d h id in
    let pe = has_before e h ie in
    elim (compare h d pd.0 e pe.0 pd.1 pe.1) [
      | inl q ↦ q.0
      | inr (inl q) ↦ absurd ((each_at (Recorded g F) h e pe.0 hist pe.1).still_open d (before_has d pd.0 pe.0 q) kd s)
      | inr (inr q) ↦ absurd ((each_at (Recorded g F) h d pd.0 hist pd.1).still_open e (before_has e pe.0 pd.0 q) ke (sym s.0, sym s.1))
    ]

-- a record in the end's log behind it
own_found : (g : Opening) (F : ℕ) (up_to : ℕ → ℕ) (e : Entry) (b : List Entry) → Recorded g F e b → is_end e.kind ≡ true → found up_to e ≡ true → (y : Entry) → Has y b → is_record y.kind ≡ true → y.log ≡ e.log → found up_to y ≡ true
own_found g F up_to e b n ke fe y i ky l =
    let lt = n.later (end_is_record e.kind ke) y i l in
    let le = found_to up_to e fe in
    found_from up_to y ky (rw l (omega arith))

covered_found : (g : Opening) (F R : ℕ) (up_to : ℕ → ℕ) (h : List Entry) → Cut g F R up_to h → (e : Entry) (b : List Entry) → Before e b h → is_end e.kind ≡ true → found up_to e ≡ true → e.need ≤ R →
    (y : Entry) → Has y b → is_record y.kind ≡ true → Covered e.log (max e.need F) y → found up_to y ≡ true
covered_found g F R up_to h c e b pe ke fe ne y i ky (inl l) = own_found g F up_to e b (each_at (Recorded g F) h e b c.records pe) ke fe y i ky l
covered_found g F R up_to h c e b pe ke fe ne y i ky (inr l) = let far = c.far in c.all y (behind_has e b h pe y i) ky (omega arith)

-- a write of an ended transaction is there
pub ended_found : (g : Opening) (F R : ℕ) (up_to : ℕ → ℕ) (h : List Entry) → Cut g F R up_to h → (r : Entry) (b : List Entry) → Before r b h → is_write r.kind ≡ true → is_ended R up_to h r ≡ true → found up_to r ≡ true
ended_found g F R up_to h c r b pr kr q =
    let e = ended_to R up_to h r q in
    let p = behind_end g F h c.records e.end e.behind e.place e.is_end r b pr (write_is_no_end r.kind kr) e.same in
    covered_found g F R up_to h c e.end e.behind e.place e.is_end e.found e.need r (before_has r b e.behind p) (write_is_record r.kind kr) (inl (sym e.same.0))

-- ## The records of a page up to the first that is missing

-- each record of the page counts
abbrev pub whole : (ℕ → ℕ) → ℕ → List Entry → Bool
whole up_to p [] = true
whole up_to p (r ∷ h) = if touches p r then found up_to r && all (λ f. whole up_to f.page h) r.refs else whole up_to p h

-- a record counts if it is there, and so is each before it on its pages
abbrev pub counting : (ℕ → ℕ) → Entry → List Entry → Bool
counting up_to r h = found up_to r && all (λ f. whole up_to f.page h) r.refs

pub whole_hit : (up_to : ℕ → ℕ) (p : ℕ) (r : Entry) (h : List Entry) → touches p r ≡ true → whole up_to p (r ∷ h) ≡ counting up_to r h
whole_hit up_to p r h o = cond-true (touches p r) (counting up_to r h) (whole up_to p h) o

pub whole_miss : (up_to : ℕ → ℕ) (p : ℕ) (r : Entry) (h : List Entry) → touches p r ≡ false → whole up_to p (r ∷ h) ≡ whole up_to p h
whole_miss up_to p r h o = cond-false (touches p r) (counting up_to r h) (whole up_to p h) o

-- a page whose number is low enough is whole
pub whole_low : (g : Opening) (F R : ℕ) (up_to : ℕ → ℕ) (h : List Entry) → IsRecorded g F h → ((r : Entry) → Has r h → is_record r.kind ≡ true → r.number ≤ R → found up_to r ≡ true) → (p : ℕ) → (page_at g h p).gsn ≤ R → whole up_to p h ≡ true
whole_low g F R up_to [] hist a p le = refl
whole_low g F R up_to (r ∷ h) hist a p le = go (whole_low g F R up_to h hist.1 (λ y i. a y (inr i))) (cases_Bool (touches p r))
  where
    go : ((p : ℕ) → (page_at g h p).gsn ≤ R → whole up_to p h ≡ true) → (touches p r ≡ true) ⊎ (touches p r ≡ false) → whole up_to p (r ∷ h) ≡ true
    go ih (inl o) =
        let n : r.number ≤ R = rw (page_hit g p r h o) at le in
        whole_hit up_to p r h o ∙ and_from (found up_to r) (all (λ f. whole up_to f.page h) r.refs) (a r (inl refl) (hist.0.logged p o) n)
        (all_of (λ f. whole up_to f.page h) r.refs (λ f i. ih f.page (let q = hist.0.rises f.page (ref_touch r f i) in omega arith)))
    go ih (inr o) = whole_miss up_to p r h o ∙ ih p (rw (page_miss g p r h o) at le)

-- a page whose every record is safe is whole: one in log w, of which the end is there, or one up to the reach
whole_safe : (g : Opening) (F R : ℕ) (up_to : ℕ → ℕ) (w x : ℕ) (h : List Entry) → IsRecorded g F h → PagesCovered w x h → x ≤ R →
    ((r : Entry) → Has r h → is_record r.kind ≡ true → r.number ≤ R → found up_to r ≡ true) → ((r : Entry) → Has r h → is_record r.kind ≡ true → r.log ≡ w → found up_to r ≡ true) →
    (p : ℕ) → ((y : Entry) → Has y h → touches p y ≡ true → Covered w x y) → whole up_to p h ≡ true
whole_safe g F R up_to w x [] hist pc l a own p cov = refl
whole_safe g F R up_to w x (r ∷ h) hist pc l a own p cov = go (whole_safe g F R up_to w x h hist.1 pc.1 l (λ y i. a y (inr i)) (λ y i. own y (inr i))) (cases_Bool (touches p r))
  where
    go : ((p : ℕ) → ((y : Entry) → Has y h → touches p y ≡ true → Covered w x y) → whole up_to p h ≡ true) → (touches p r ≡ true) ⊎ (touches p r ≡ false) → whole up_to p (r ∷ h) ≡ true
    go ih (inr o) = whole_miss up_to p r h o ∙ ih p (λ y i. cov y (inr i))
    go ih (inl o) = whole_hit up_to p r h o ∙ elim (cov r (inl refl) o) [
      | inl q ↦ and_from (found up_to r) (all (λ f. whole up_to f.page h) r.refs) (own r (inl refl) (hist.0.logged p o) q)
          (all_of (λ f. whole up_to f.page h) r.refs (λ f i. ih f.page (pc.0 q f.page (ref_touch r f i))))
      | inr q ↦ and_from (found up_to r) (all (λ f. whole up_to f.page h) r.refs) (a r (inl refl) (hist.0.logged p o) (omega arith))
          (all_of (λ f. whole up_to f.page h) r.refs (λ f i. whole_low g F R up_to h hist.1 (λ y j. a y (inr j)) f.page (let z = hist.0.rises f.page (ref_touch r f i) in omega arith)))
    ]

-- a write of an ended transaction counts
pub ended_counts : (g : Opening) (F R : ℕ) (up_to : ℕ → ℕ) (h : List Entry) → Cut g F R up_to h → (r : Entry) (b : List Entry) → Before r b h → is_write r.kind ≡ true → is_ended R up_to h r ≡ true → counting up_to r b ≡ true
ended_counts g F R up_to h c r b pr kr q =
    let e = ended_to R up_to h r q in
    let p = behind_end g F h c.records e.end e.behind e.place e.is_end r b pr (write_is_no_end r.kind kr) e.same in
    let en = each_at (Recorded g F) h e.end e.behind c.records e.place in
    let cl = en.closes e.is_end in
    let far = c.far in
    let need = e.need in
    let mates = each_at (λ (r : Entry) (b : List Entry). r.log ≡ e.end.log → (p : ℕ) → touches p r ≡ true → (y : Entry) → Has y b → touches p y ≡ true → Covered e.end.log (max e.end.need F) y) e.behind r b cl.pages p (sym e.same.0) in
    let inner = each_behind (λ (r : Entry) (b : List Entry). r.log ≡ e.end.log → (p : ℕ) → touches p r ≡ true → (y : Entry) → Has y b → touches p y ≡ true → Covered e.end.log (max e.end.need F) y) e.behind r b cl.pages p in
    and_from (found up_to r) (all (λ f. whole up_to f.page b) r.refs) (ended_found g F R up_to h c r b pr kr q)
    (all_of (λ f. whole up_to f.page b) r.refs (λ f i. whole_safe g F R up_to e.end.log (max e.end.need F) b (each_behind (Recorded g F) h r b c.records pr) inner (omega arith)
    (λ y iy. c.all y (behind_has r b h pr y iy))
    (λ y iy ky l. own_found g F up_to e.end e.behind en e.is_end e.found y (behind_has r b e.behind p y iy) ky l)
    f.page (mates f.page (ref_touch r f i))))

-- what stands behind an ended end, in a row that its transaction used, is ended
pub ended_rows : (g : Opening) (F R : ℕ) (up_to : ℕ → ℕ) (h : List Entry) → Cut g F R up_to h →
    (e : Entry) (b : List Entry) → Before e b h → is_end e.kind ≡ true → found up_to e ≡ true → e.need ≤ R →
    (r : Entry) → Has r b → SameTxn r e → is_call r.kind ≡ true → (y : Entry) → Has y b → claims y ≡ true → g.row_of y.key ≡ g.row_of r.key → is_ended R up_to h y ≡ true
ended_rows g F R up_to h c e b pe ke fe ne r ir sr cr y iy ky row =
    let n = each_at (Recorded g F) h e b c.records pe in
    let cl = n.closes ke in
    let far = c.far in
    elim (cl.rows r ir sr cr y iy ky row) [
      | inl s ↦ ended_from R up_to h y e (before_has e b h pe) ke (sym s.0, sym s.1) fe ne
      | inr d ↦ go cl d.0 d.1 (covered_found g F R up_to h c e b pe ke fe ne d.0.end d.0.stands (end_is_record d.0.end.kind d.0.is_end) d.1)
    ]
  where
    go : Closes g F e b → (d : EndOf b y) → Covered e.log (max e.need F) d.end → found up_to d.end ≡ true → is_ended R up_to h y ≡ true
    go cl d (inl l) fd = let far = c.far in let n = cl.ends d.end d.stands d.is_end l in ended_from R up_to h y d.end (behind_has e b h pe d.end d.stands) d.is_end d.same fd (omega arith)
    go cl d (inr l) fd =
        let far = c.far in
        let p = has_before d.end h (behind_has e b h pe d.end d.stands) in
        let n = ((each_at (Recorded g F) h d.end p.0 c.records p.1).closes d.is_end).need in
        ended_from R up_to h y d.end (behind_has e b h pe d.end d.stands) d.is_end d.same fd (omega arith)

-- writes of a key before an ended write of it are ended
pub ended_before : (g : Opening) (F R : ℕ) (up_to : ℕ → ℕ) (h : List Entry) → Cut g F R up_to h → (r : Entry) (b : List Entry) → Before r b h → is_call r.kind ≡ true → is_ended R up_to h r ≡ true →
    (y : Entry) → Has y b → is_write y.kind ≡ true → y.key ≡ r.key → is_ended R up_to h y ≡ true
ended_before g F R up_to h c r b pr kr q y iy ky key =
    let e = ended_to R up_to h r q in
    let p = behind_end g F h c.records e.end e.behind e.place e.is_end r b pr (call_is_no_end r.kind kr) e.same in
    ended_rows g F R up_to h c e.end e.behind e.place e.is_end e.found e.need r (before_has r b e.behind p) (sym e.same.0, sym e.same.1) kr y (behind_has r b e.behind p y iy) (write_claims y ky) (ap g.row_of key)

-- ## All records up to the reach are there

greatest_le : (w : ℕ) (up_to : ℕ → ℕ) (h : List Entry) → greatest w (keep (found up_to) h) ≤ up_to w
greatest_le w up_to [] = omega arith
greatest_le w up_to (r ∷ h) = go (greatest_le w up_to h) (found up_to r) refl
  where
    go : greatest w (keep (found up_to) h) ≤ up_to w → (b : Bool) → found up_to r ≡ b → greatest w (cond b (r ∷ keep (found up_to) h) (keep (found up_to) h)) ≤ up_to w
    go ih true e = elim (cases_eq r.log w) [
      | inl q ↦ let k = subst (λ (l : ℕ). r.number ≤ up_to l) q (found_to up_to r e) in rw (eq-eqb r.log w q) (omega arith)
      | inr q ↦ rw (ne_eqb r.log w q) ih
    ]
    go ih false e = ih

pub le_greatest : (w : ℕ) (z : List Entry) (r : Entry) → Has r z → r.log ≡ w → r.number ≤ greatest w z
le_greatest w [] r i l = absurd i
le_greatest w (y ∷ z) r (inl e) l = rw (eq-eqb y.log w (ap (λ (x : Entry). x.log) (sym e) ∙ l)) (rw e (omega arith))
le_greatest w (y ∷ z) r (inr i) l = let k = le_greatest w z r i l in elim (cases_eq y.log w) [ inl q ↦ rw (eq-eqb y.log w q) (omega arith) | inr q ↦ rw (ne_eqb y.log w q) k ]

pub reach_all : (g : Opening) (F floor : ℕ) (up_to : ℕ → ℕ) (h : List Entry) → IsRecorded g F h → ((w : ℕ) → Within g.workers w → floor ≤ up_to w) → (r : Entry) → Has r h → is_record r.kind ≡ true → r.number ≤ reach g.workers floor (keep (found up_to) h) → found up_to r ≡ true
reach_all g F floor up_to h hist fl r i k n =
    let p = has_before r h i in
    let en = each_at (Recorded g F) h r p.0 hist p.1 in
    let a = least_le (λ w. max floor (greatest w (keep (found up_to) h))) g.workers r.log en.log in
    let b = greatest_le r.log up_to h in
    let c = fl r.log en.log in
    found_from up_to r k (omega arith)

-- F is within reach, where each log's flushed number is there
pub F_reach : (g : Opening) (floor : ℕ) (up_to flushed : ℕ → ℕ) (h : List Entry) →
    ((w : ℕ) → Within g.workers w → flushed w ≤ up_to w) →
    ((w : ℕ) → Within g.workers w → (flushed w ≤ floor) ⊎ ((r : Entry) × Has r h × (is_record r.kind ≡ true) × (r.log ≡ w) × (r.number ≡ flushed w))) →
    least flushed g.workers ≤ reach g.workers floor (keep (found up_to) h)
F_reach g floor up_to flushed h a b = le_least (λ w. max floor (greatest w (keep (found up_to) h))) g.workers (least flushed g.workers) g.some_worker (λ w l.
    let m = least_le flushed g.workers w l in
    elim (b w l) [
      | inl q ↦ omega arith
      | inr q ↦
          let up = a w l in
          let f : q.0.number ≤ up_to q.0.log = rw q.3 (rw q.4 up) in
          let k = le_greatest w (keep (found up_to) h) q.0 (has_keep (found up_to) h q.0 q.1 (found_from up_to q.0 q.2 f)) q.3 in
          let e = q.4 in
          omega arith
    ])
