-- What a record places over the pages, and which mark it leaves.
use Rattle.std.proofs.Common.{◌≡◌, ◌<◌, suc, length, get_or, drop, ℕ, Bool, true, false, cond, ◌&&◌, ◌||◌, ◌==◌, List, [], ◌∷◌, ◌++◌, refl, sym, ◌∙◌, ap, true≢false}
use Rattle.std.proofs.lemmas.Bool.{eqb-true}
use Rattle.std.proofs.Math.Seq.{drop-cons}
use mathlib.Core.Path.{fun_ext}
use Rattle.map_model.specs.Lists.{any}
use Rattle.page_model.specs.Records.{Ref}
use Rattle.image_model.specs.Entries.{Entry, Contents, written}
use Rattle.image_model.specs.Redo.{Redone, mark, stands, at_prev, redo_one, redo}
use Rattle.plain_images.specs.declared.redone.Mark.{Mark}
use Rattle.plain_images.specs.declared.redone.Placed.{Placed}
use Rattle.plain_images.specs.declared.records.Record.{Record}
use Rattle.plain_images.specs.Records.{page_of, entry_of, entries_of}
use Rattle.plain_images.specs.Images.{Placing, placings_of, with_placed, placed_by, counted}

over : (xs ys : List Placed) (page : ℕ → Contents) (p : ℕ) → with_placed (placings_of (xs ++ ys)) page p ≡ with_placed (placings_of xs) (with_placed (placings_of ys) page) p
over [] ys page p = refl
over (x ∷ xs) ys page p = ap (λ v. cond (x.page == p) (page_of x.made) v) (over xs ys page p)

module _ (page : ℕ → Contents) (r : Entry) (p : ℕ) where
  one : (b : Bool) (q : ℕ) (w : Contents) (xs : List Placing) → with_placed (cond b (record { page = q; made = w } ∷ xs) xs) page p ≡ cond (b && (q == p)) w (with_placed xs page p)
  one true q w xs = refl
  one false q w xs = refl

  step : (c b d a : Bool) (w v u rest : Contents) → (c ≡ true → b ≡ d) → (c ≡ true → w ≡ v) → rest ≡ cond a v u → cond (b && c) w rest ≡ cond ((c && d) || a) v u
  step true true true a w v u rest same is ih = is refl
  step true false false a w v u rest same is ih = ih
  step true true false a w v u rest same is ih = absurd (true≢false (same refl))
  step true false true a w v u rest same is ih = absurd (true≢false (sym (same refl)))
  step false true d a w v u rest same is ih = ih
  step false false d a w v u rest same is ih = ih

  placed : (fs : List Ref) → with_placed (placed_by page r fs) page p ≡ cond (any (λ f. (f.page == p) && ((page p).gsn == f.prev)) fs) (written r p (page p)) (page p)
  placed [] = refl
  placed (f ∷ fs) =
      one ((page f.page).gsn == f.prev) f.page (written r f.page (page f.page)) (placed_by page r fs)
      ∙ step (f.page == p) ((page f.page).gsn == f.prev) ((page p).gsn == f.prev) (any (λ f. (f.page == p) && ((page p).gsn == f.prev)) fs)
      (written r f.page (page f.page)) (written r p (page p)) (page p) (with_placed (placed_by page r fs) page p)
      (λ c. ap (λ q. (page q).gsn == f.prev) (eqb-true f.page p c)) (λ c. ap (λ q. written r q (page q)) (eqb-true f.page p c)) (placed fs)

marked_at : (c d b : Bool) (g h : ℕ → Bool) (j n : ℕ) → (n == j) ≡ d → (c ≡ true → h n ≡ g n) → cond (c && d) b (h n) ≡ cond c (λ k. cond (k == j) b (g k)) h n
marked_at true d b g h j n e same = ap (λ v. cond d b v) (same refl) ∙ ap (λ t. cond t b (g n)) (sym e)
marked_at false d b g h j n e same = refl

marked : (m : Mark) (ms : List Mark) (w n : ℕ) → counted (m ∷ ms) w n ≡ mark (counted ms) m.log m.number m.counts w n
marked m ms w n = marked_at (w == m.log) (n == m.number) m.counts (counted ms m.log) (counted ms w) m.number n refl (λ c. ap (λ i. counted ms i n) (eqb-true w m.log c))

abbrev after : Bool → (ℕ → Contents) → List Mark → Entry → Redone
after b page ms r = record {
  page = λ p. cond (b && at_prev r p (page p)) (written r p (page p)) (page p);
  counts = mark (counted ms) r.log r.number b;
}

after_both : (page : ℕ → Contents) (ms : List Mark) (r : Entry) (d : Redone) (b : Bool) → stands page r ≡ b → ((p : ℕ) → d.page p ≡ (after b page ms r).page p) → ((w n : ℕ) → d.counts w n ≡ (after b page ms r).counts w n) →
    d ≡ redo_one (record { page = page; counts = counted ms }) r
after_both page ms r d b e pages counts =
    ap (λ (f : ℕ → Contents). record { page = f; counts = d.counts }) (fun_ext pages)
    ∙ ap (λ (g : ℕ → ℕ → Bool). record { page = (after b page ms r).page; counts = g }) (fun_ext (λ w. fun_ext (λ n. counts w n)))
    ∙ ap (λ c. after c page ms r) (sym e)

-- a record that counts places its pages
pub redone_by : (bases : ℕ → Contents) (newer ps : List Placed) (m : Mark) (ms : List Mark) (r : Entry) →
    m.log ≡ r.log → m.number ≡ r.number → m.counts ≡ true → stands (with_placed (placings_of ps) bases) r ≡ true → placings_of newer ≡ placed_by (with_placed (placings_of ps) bases) r r.refs →
    record { page = with_placed (placings_of (newer ++ ps)) bases; counts = counted (m ∷ ms) } ≡ redo_one (record { page = with_placed (placings_of ps) bases; counts = counted ms }) r
redone_by bases newer ps m ms r el en ec e q =
    after_both (with_placed (placings_of ps) bases) ms r (record { page = with_placed (placings_of (newer ++ ps)) bases; counts = counted (m ∷ ms) }) true e
    (λ p. over newer ps bases p ∙ ap (λ xs. with_placed xs (with_placed (placings_of ps) bases) p) q ∙ placed (with_placed (placings_of ps) bases) r p r.refs)
    (λ w n. marked m ms w n ∙ ap (λ i. mark (counted ms) i m.number m.counts w n) el ∙ ap (λ i. mark (counted ms) r.log i m.counts w n) en ∙ ap (λ b. mark (counted ms) r.log r.number b w n) ec)

-- one that does not is marked alone
pub not_redone : (page : ℕ → Contents) (m : Mark) (ms : List Mark) (r : Entry) →
    m.log ≡ r.log → m.number ≡ r.number → m.counts ≡ false → stands page r ≡ false →
    record { page = page; counts = counted (m ∷ ms) } ≡ redo_one (record { page = page; counts = counted ms }) r
not_redone page m ms r el en ec e =
    after_both page ms r (record { page = page; counts = counted (m ∷ ms) }) false e
    (λ p. refl)
    (λ w n. marked m ms w n ∙ ap (λ i. mark (counted ms) i m.number m.counts w n) el ∙ ap (λ i. mark (counted ms) r.log i m.counts w n) en ∙ ap (λ b. mark (counted ms) r.log r.number b w n) ec)

-- one record more
pub redone_more : (bases : ℕ → Contents) (records : List Record) (i j : ℕ) (x : Record) (was now : Redone) → j ≡ suc i → i < length records → x ≡ get_or records i x →
    was ≡ redo bases (entries_of (drop j records)) → now ≡ redo_one was (entry_of x) → now ≡ redo bases (entries_of (drop i records))
redone_more bases records i j x was now e lt at before step =
    step ∙ ap (λ d. redo_one d (entry_of x)) (before ∙ ap (λ n. redo bases (entries_of (drop n records))) e)
    ∙ ap (λ y. redo bases (entry_of y ∷ entries_of (drop (suc i) records))) at
    ∙ ap (λ ys. redo bases (entries_of ys)) (sym (drop-cons records i x lt))

-- the same of lists that were made on the way
pub redone_with : (bases : ℕ → Contents) (newer ps out s t : List Placed) (m : Mark) (ms marks : List Mark) (r : Entry) →
    m.log ≡ r.log → m.number ≡ r.number → m.counts ≡ true → out ≡ newer ++ ps → marks ≡ m ∷ ms → s ≡ ps → t ≡ ps →
    true ≡ stands (with_placed (placings_of s) bases) r → placings_of newer ≡ placed_by (with_placed (placings_of t) bases) r r.refs →
    record { page = with_placed (placings_of out) bases; counts = counted marks } ≡ redo_one (record { page = with_placed (placings_of ps) bases; counts = counted ms }) r
redone_with bases newer ps out s t m ms marks r el en ec eo em es et e q =
    ap (λ (o : List Placed). record { page = with_placed (placings_of o) bases; counts = counted marks }) eo
    ∙ ap (λ (o : List Mark). record { page = with_placed (placings_of (newer ++ ps)) bases; counts = counted o }) em
    ∙ redone_by bases newer ps m ms r el en ec
    (sym (e ∙ ap (λ (o : List Placed). stands (with_placed (placings_of o) bases) r) es))
    (q ∙ ap (λ (o : List Placed). placed_by (with_placed (placings_of o) bases) r r.refs) et)

pub marked_with : (bases : ℕ → Contents) (ps s : List Placed) (m : Mark) (ms marks : List Mark) (r : Entry) →
    m.log ≡ r.log → m.number ≡ r.number → m.counts ≡ false → marks ≡ m ∷ ms → s ≡ ps → false ≡ stands (with_placed (placings_of s) bases) r →
    record { page = with_placed (placings_of ps) bases; counts = counted marks } ≡ redo_one (record { page = with_placed (placings_of ps) bases; counts = counted ms }) r
marked_with bases ps s m ms marks r el en ec em es e =
    ap (λ (o : List Mark). record { page = with_placed (placings_of ps) bases; counts = counted o }) em
    ∙ not_redone (with_placed (placings_of ps) bases) m ms r el en ec (sym (e ∙ ap (λ (o : List Placed). stands (with_placed (placings_of o) bases) r) es))
