-- What redo makes of the pages, the records taken in the order in which they were staged.
use Rattle.page_model.specs.Records as page_records
use Rattle.page_model.specs.Tree as page_tree
use Rattle.page_model.specs.Redo as page_redo
use Rattle.page_model.proofs.Pairs.{some_none}
use Rattle.page_model.proofs.Needs as page_needs
use Rattle.std.proofs.Common.{◌≡◌, ℕ, ◌≤◌, ◌<◌, ◌++◌, Bool, true, false, ◌&&◌, ◌||◌, not, if◌then◌else◌, ltb, leb, ◌+◌, length, ◌==◌, List, [], ◌∷◌, ◌⊎◌, None, refl, sym, ap, ◌∙◌, subst, inl, inr, arith, true≢false}
use Rattle.std.proofs.lemmas.Bool.{cases_Bool, cases_eq, eq-eqb, ne_eqb, eqb-true, and_parts, and_from, or_left, or_right, or_from, leb-true, ltb-true, lt-ltb, le-leb, lt-leb, and_left, and_right, cond-true, cond-false, false_from_ne_true}
use Rattle.map_model.specs.Lists.{upd, keep, any, all, Has}
use Rattle.core_paging.specs.image_model.Entries.{is_page, page_kind, Entry, is_write, is_record, applied_as, touches, Contents, written}
use Rattle.core_paging.specs.image_model.Redo.{passes, names_pages, is_sayable_as, Redone, mark, stands, at_prev, redo_one, redo}
use Rattle.core_crash.proofs.Words.{found}
use Rattle.core_paging.specs.image_model.Undo.{values}
use Rattle.page_model.specs.Records.{Ref, Record}
use Rattle.core_paging.specs.core_state.Openings.{Opening, start_page}
use Rattle.page_model.specs.Nodes.{Format, Node}
use Rattle.page_model.specs.Tree.{lookup, IsTree}
use Rattle.core_paging.proofs.core_commit.Lists.{Before, before_has, Each, each_map_has}
use Rattle.map_model.proofs.ListLemmas.{any_has, has_any, upd_same, upd_other, all_to, all_of, all_same}
use Rattle.core_paging.proofs.core_commit.Nodes.{fits_entry, entry_stays, on_key, Fits, moved_on, fits_local, fits_parted, fits_on, fits_off, fits_before}
use Rattle.core_paging.proofs.core_commit.History.{EndOf, Recorded, IsRecorded, Entered, IsHistory, records_of, page_at, page_hit, page_miss, gsn_rises, nodes, touch_ref, ref_touch, history_parted}
use Rattle.core_crash.proofs.Ends.{whole, counting, whole_hit, whole_miss, whole_low}
use mathlib.Core.Path.{fun_ext}

-- ## The pages after the counting records alone

abbrev pub virtual : Opening → (ℕ → ℕ) → List Entry → ℕ → Contents
virtual g up_to [] p = start_page g p
virtual g up_to (r ∷ h) p = if touches p r && counting up_to r h then written r p (virtual g up_to h p) else virtual g up_to h p

pub virtual_hit : (g : Opening) (up_to : ℕ → ℕ) (p : ℕ) (r : Entry) (h : List Entry) → touches p r ≡ true → counting up_to r h ≡ true → virtual g up_to (r ∷ h) p ≡ written r p (virtual g up_to h p)
virtual_hit g up_to p r h o c = cond-true (touches p r && counting up_to r h) (written r p (virtual g up_to h p)) (virtual g up_to h p) (and_from (touches p r) (counting up_to r h) o c)

pub virtual_miss : (g : Opening) (up_to : ℕ → ℕ) (p : ℕ) (r : Entry) (h : List Entry) → touches p r ≡ false → virtual g up_to (r ∷ h) p ≡ virtual g up_to h p
virtual_miss g up_to p r h o = cond-false (touches p r && counting up_to r h) (written r p (virtual g up_to h p)) (virtual g up_to h p) (and_left (touches p r) (counting up_to r h) o)

pub virtual_cut : (g : Opening) (up_to : ℕ → ℕ) (p : ℕ) (r : Entry) (h : List Entry) → counting up_to r h ≡ false → virtual g up_to (r ∷ h) p ≡ virtual g up_to h p
virtual_cut g up_to p r h c = cond-false (touches p r && counting up_to r h) (written r p (virtual g up_to h p)) (virtual g up_to h p) (and_right (touches p r) (counting up_to r h) c)

-- a counting record's pages are whole
pub counting_whole : (up_to : ℕ → ℕ) (p : ℕ) (r : Entry) (h : List Entry) → counting up_to r h ≡ true → touches p r ≡ true → whole up_to p h ≡ true
counting_whole up_to p r h c o =
    let f = touch_ref p r o in
    subst (λ (i : ℕ). whole up_to i h ≡ true) f.2 (all_to (λ f. whole up_to f.page h) r.refs (and_parts (found up_to r) (all (λ f. whole up_to f.page h) r.refs) c).1 f.0 f.1)

-- a whole page is as it was
pub virtual_whole : (g : Opening) (up_to : ℕ → ℕ) (h : List Entry) (p : ℕ) → whole up_to p h ≡ true → virtual g up_to h p ≡ page_at g h p
virtual_whole g up_to [] p w = refl
virtual_whole g up_to (r ∷ h) p w = go (virtual_whole g up_to h p) (cases_Bool (touches p r))
  where
    go : (whole up_to p h ≡ true → virtual g up_to h p ≡ page_at g h p) → (touches p r ≡ true) ⊎ (touches p r ≡ false) → virtual g up_to (r ∷ h) p ≡ page_at g (r ∷ h) p
    go ih (inl o) =
        let c = sym (whole_hit up_to p r h o) ∙ w in
        virtual_hit g up_to p r h o c ∙ (ap (written r p) (ih (counting_whole up_to p r h c o)) ∙ sym (page_hit g p r h o))
    go ih (inr o) = virtual_miss g up_to p r h o ∙ (ih (sym (whole_miss up_to p r h o) ∙ w) ∙ sym (page_miss g p r h o))

-- a page that is not whole stays behind
pub virtual_behind : (g : Opening) (F : ℕ) (up_to : ℕ → ℕ) (h : List Entry) → IsRecorded g F h → (p : ℕ) → whole up_to p h ≡ false → (virtual g up_to h p).gsn < (page_at g h p).gsn
virtual_behind g F up_to [] hist p w = absurd (true≢false w)
virtual_behind g F up_to (r ∷ h) hist p w = go (virtual_behind g F up_to h hist.1 p) (cases_Bool (touches p r)) (cases_Bool (whole up_to p h))
  where
    go : (whole up_to p h ≡ false → (virtual g up_to h p).gsn < (page_at g h p).gsn) → (touches p r ≡ true) ⊎ (touches p r ≡ false) → (whole up_to p h ≡ true) ⊎ (whole up_to p h ≡ false) → (virtual g up_to (r ∷ h) p).gsn < (page_at g (r ∷ h) p).gsn
    go ih (inl o) (inl v) =
        let up = hist.0.rises p o in
        rw (virtual_cut g up_to p r h (sym (whole_hit up_to p r h o) ∙ w), page_hit g p r h o, virtual_whole g up_to h p v) up
    go ih (inl o) (inr v) =
        let up = hist.0.rises p o in
        let lt = ih v in
        rw (virtual_cut g up_to p r h (sym (whole_hit up_to p r h o) ∙ w), page_hit g p r h o) (omega arith)
    go ih (inr o) v = rw (virtual_miss g up_to p r h o, page_miss g p r h o) (ih (sym (whole_miss up_to p r h o) ∙ w))

-- the counting records alone are a run too
pub virtual_on : (g : Opening) (up_to : ℕ → ℕ) (r : Entry) (h : List Entry) → counting up_to r h ≡ true → nodes (virtual g up_to (r ∷ h)) ≡ moved_on (nodes (virtual g up_to h)) r
virtual_on g up_to r h c = fun_ext (λ p. elim (cases_Bool (touches p r)) [
  | inl o ↦ ap (λ (v : Contents). v.node) (virtual_hit g up_to p r h o c) ∙ sym (cond-true (touches p r) (applied_as r.kind r p (virtual g up_to h p).node) (virtual g up_to h p).node o)
  | inr o ↦ ap (λ (v : Contents). v.node) (virtual_miss g up_to p r h o) ∙ sym (cond-false (touches p r) (applied_as r.kind r p (virtual g up_to h p).node) (virtual g up_to h p).node o)
])

pub virtual_off : (g : Opening) (up_to : ℕ → ℕ) (r : Entry) (h : List Entry) → counting up_to r h ≡ false → nodes (virtual g up_to (r ∷ h)) ≡ nodes (virtual g up_to h)
virtual_off g up_to r h c = fun_ext (λ p. ap (λ (v : Contents). v.node) (virtual_cut g up_to p r h c))

pub virtual_fits : (g : Opening) (F : ℕ) (up_to : ℕ → ℕ) (r : Entry) (h : List Entry) → Entered g F r h → counting up_to r h ≡ true → Fits g.format (nodes (virtual g up_to h)) r
virtual_fits g F up_to r h n c = fits_local g.format (nodes (page_at g h)) (nodes (virtual g up_to h)) r (λ p o. ap (λ (v : Contents). v.node) (sym (virtual_whole g up_to h p (counting_whole up_to p r h c o)))) n.fits

pub virtual_parted : (g : Opening) (F : ℕ) (up_to : ℕ → ℕ) (h : List Entry) → IsHistory g F h → IsTree g.format (nodes (virtual g up_to h))
virtual_parted g F up_to [] hist = g.tree
virtual_parted g F up_to (r ∷ h) hist = go (virtual_parted g F up_to h hist.1) (cases_Bool (counting up_to r h))
  where
    go : IsTree g.format (nodes (virtual g up_to h)) → (counting up_to r h ≡ true) ⊎ (counting up_to r h ≡ false) → IsTree g.format (nodes (virtual g up_to (r ∷ h)))
    go ih (inl c) = subst (IsTree g.format) (sym (virtual_on g up_to r h c)) (fits_parted g.format (nodes (virtual g up_to h)) r ih (virtual_fits g F up_to r h hist.0 c))
    go ih (inr c) = subst (IsTree g.format) (sym (virtual_off g up_to r h c)) ih

-- where a record counts, it can be done
pub virtual_doable : (g : Opening) (F : ℕ) (up_to : ℕ → ℕ) (r : Entry) (h : List Entry) → IsHistory g F (r ∷ h) → counting up_to r h ≡ true → is_page r.kind ≡ true → page_redo.doable_as g.format (page_kind r.kind) (nodes (virtual g up_to h)) r.record_of ≡ true
virtual_doable g F up_to r h hist c k =
    page_needs.does (page_kind r.kind) g.format (nodes (virtual g up_to h)) r.record_of (virtual_parted g F up_to h hist.1) ((virtual_fits g F up_to r h hist.0 c).page k).fits

-- ## Their values

abbrev pub value : Opening → (ℕ → ℕ) → ℕ → List Entry → ℕ
value g up_to k h = lookup g.format (nodes (virtual g up_to h)) k

pub value_cut : (g : Opening) (up_to : ℕ → ℕ) (k : ℕ) (r : Entry) (h : List Entry) → counting up_to r h ≡ false → value g up_to k (r ∷ h) ≡ value g up_to k h
value_cut g up_to k r h c = ap (λ (n : ℕ → Node). lookup g.format n k) (virtual_off g up_to r h c)

pub value_on : (g : Opening) (F : ℕ) (up_to : ℕ → ℕ) (k : ℕ) (r : Entry) (h : List Entry) → IsHistory g F (r ∷ h) → on_key k r ≡ true → counting up_to r h ≡ true → value g up_to k (r ∷ h) ≡ r.after
value_on g F up_to k r h hist o c = ap (λ (n : ℕ → Node). lookup g.format n k) (virtual_on g up_to r h c) ∙ fits_on g.format (nodes (virtual g up_to h)) r (virtual_parted g F up_to h hist.1) (virtual_fits g F up_to r h hist.0 c) k o

pub value_key_off : (g : Opening) (F : ℕ) (up_to : ℕ → ℕ) (k : ℕ) (r : Entry) (h : List Entry) → IsHistory g F (r ∷ h) → on_key k r ≡ false → value g up_to k (r ∷ h) ≡ value g up_to k h
value_key_off g F up_to k r h hist o = elim (cases_Bool (counting up_to r h)) [
  | inl c ↦ ap (λ (n : ℕ → Node). lookup g.format n k) (virtual_on g up_to r h c) ∙ fits_off g.format (nodes (virtual g up_to h)) r (virtual_parted g F up_to h hist.1) (virtual_fits g F up_to r h hist.0 c) k o
  | inr c ↦ value_cut g up_to k r h c
]

pub value_before : (g : Opening) (F : ℕ) (up_to : ℕ → ℕ) (r : Entry) (h : List Entry) → IsHistory g F (r ∷ h) → is_write r.kind ≡ true → counting up_to r h ≡ true → r.before ≡ value g up_to r.key h
value_before g F up_to r h hist w c = fits_before g.format (nodes (virtual g up_to h)) r (virtual_parted g F up_to h hist.1) (virtual_fits g F up_to r h hist.0 c) w

-- ## What a record asks of itself

-- the pages of a record that can be done are below the number of pages
named_one : (f : Format) (p : ℕ) → ltb p f.pages ≡ true → (ltb p f.pages && true) ≡ true
named_one f p h = and_from (ltb p f.pages) true h refl

-- beside page 0
named_root : (f : Format) (p : ℕ) → ltb p f.pages ≡ true → (ltb 0 f.pages && (ltb p f.pages && true)) ≡ true
named_root f p h = let l = ltb-true p f.pages h in and_from (ltb 0 f.pages) (ltb p f.pages && true) (lt-ltb 0 f.pages (omega arith)) (named_one f p h)

named_three : (f : Format) (r : Record) → page_redo.three_pages f r ≡ true → (ltb r.left.page f.pages && (ltb r.right.page f.pages && (ltb r.parent.page f.pages && true))) ≡ true
named_three f r h =
    let apart = not (r.left.page == r.right.page) && (not (r.left.page == r.parent.page) && not (r.right.page == r.parent.page)) in
    let a = and_parts (ltb r.left.page f.pages) (ltb r.right.page f.pages && (ltb r.parent.page f.pages && apart)) h in
    let b = and_parts (ltb r.right.page f.pages) (ltb r.parent.page f.pages && apart) a.1 in
    and_from (ltb r.left.page f.pages) (ltb r.right.page f.pages && (ltb r.parent.page f.pages && true)) a.0
    (and_from (ltb r.right.page f.pages) (ltb r.parent.page f.pages && true) b.0 (named_one f r.parent.page (and_parts (ltb r.parent.page f.pages) apart b.1).0))

named : (K : page_records.Kind) (f : Format) (node : ℕ → Node) (r : Record) → page_redo.doable_as f K node r ≡ true → all (λ x. ltb x.page f.pages) (page_records.refs_as K r) ≡ true
named page_records.Kind.Change f node r h =
    let v = node r.left.page in
    let w = and_parts (page_redo.can_write f node r) (page_redo.has_key r.key v || ltb (length v.pairs) f.room) h in
    named_one f r.left.page (and_parts (ltb r.left.page f.pages) (v.live && ((v.level == 0) && (page_redo.within r.key v && (leb r.before f.dead && leb r.after f.dead)))) w.0).0
named page_records.Kind.Put_back f node r h =
    let v = node r.left.page in
    let w = and_parts (page_redo.can_write f node r) (page_redo.has_key r.key v) h in
    named_one f r.left.page (and_parts (ltb r.left.page f.pages) (v.live && ((v.level == 0) && (page_redo.within r.key v && (leb r.before f.dead && leb r.after f.dead)))) w.0).0
named page_records.Kind.Split f node r h =
    let l = node r.left.page in let q = node r.parent.page in
    let made = leb (length r.pairs) f.room && (leb r.level f.levels && page_redo.is_ordered r.sep r.pairs r.high) in
    named_three f r (and_parts (page_redo.three_pages f r) (l.live && (page_redo.inside r.sep l && (q.live && (page_redo.inside r.sep q && (ltb (length q.pairs) f.room && made))))) h).0
named page_records.Kind.Join f node r h =
    let l = node r.left.page in let q = node r.parent.page in
    let fits = leb (length l.pairs + length r.pairs) f.room && page_redo.is_ordered l.low (l.pairs ++ r.pairs) r.high in
    named_three f r (and_parts (page_redo.three_pages f r) (l.live && (q.live && (page_redo.has_key r.sep q && fits))) h).0
named page_records.Kind.Lift f node r h =
    let made = ltb r.level f.levels && (leb (length r.pairs) f.room && page_redo.is_ordered 0 r.pairs r.high) in
    named_root f r.right.page (and_parts (ltb r.right.page f.pages) (not (r.right.page == 0) && ((node 0).live && (page_redo.within 0 (node 0) && made))) h).0
named page_records.Kind.Drop f node r h =
    let made = page_redo.is_ordered (node 0).low r.pairs (node 0).high && (leb (length r.pairs) f.room && leb r.level f.levels) in
    named_root f r.right.page (and_parts (ltb r.right.page f.pages) (not (r.right.page == 0) && ((node 0).live && made)) h).0
named page_records.Kind.Purge f node r h =
    let v = node r.left.page in
    named_one f r.left.page (and_parts (ltb r.left.page f.pages) (v.live && ((v.level == 0) && page_redo.all_keys (λ k. page_redo.has_key k v) r.keys)) h).0

writable : (f : Format) (node : ℕ → Node) (r : Record) → page_redo.can_write f node r ≡ true → (leb r.before f.dead && leb r.after f.dead) ≡ true
writable f node r h =
    let v = node r.left.page in
    let a = and_parts (ltb r.left.page f.pages) (v.live && ((v.level == 0) && (page_redo.within r.key v && (leb r.before f.dead && leb r.after f.dead)))) h in
    let b = and_parts v.live ((v.level == 0) && (page_redo.within r.key v && (leb r.before f.dead && leb r.after f.dead))) a.1 in
    let c = and_parts (v.level == 0) (page_redo.within r.key v && (leb r.before f.dead && leb r.after f.dead)) b.1 in
    (and_parts (page_redo.within r.key v) (leb r.before f.dead && leb r.after f.dead) c.1).1

three : (f : Format) (r : Record) (rest : Bool) → page_redo.three_pages f r ≡ true → rest ≡ true → (not (r.left.page == r.right.page) && (not (r.left.page == r.parent.page) && (not (r.right.page == r.parent.page) && rest))) ≡ true
three f r rest h l =
    let apart = not (r.left.page == r.right.page) && (not (r.left.page == r.parent.page) && not (r.right.page == r.parent.page)) in
    let a = and_parts (ltb r.left.page f.pages) (ltb r.right.page f.pages && (ltb r.parent.page f.pages && apart)) h in
    let b = and_parts (ltb r.right.page f.pages) (ltb r.parent.page f.pages && apart) a.1 in
    let c = and_parts (ltb r.parent.page f.pages) apart b.1 in
    let d = and_parts (not (r.left.page == r.right.page)) (not (r.left.page == r.parent.page) && not (r.right.page == r.parent.page)) c.1 in
    let e = and_parts (not (r.left.page == r.parent.page)) (not (r.right.page == r.parent.page)) d.1 in
    and_from (not (r.left.page == r.right.page)) (not (r.left.page == r.parent.page) && (not (r.right.page == r.parent.page) && rest)) d.0
    (and_from (not (r.left.page == r.parent.page)) (not (r.right.page == r.parent.page) && rest) e.0
    (and_from (not (r.right.page == r.parent.page)) rest e.1 l))

-- a record that was entered names pages that there are
pages_named : (g : Opening) (F : ℕ) (r : Entry) (h : List Entry) → IsHistory g F h → Entered g F r h → names_pages g.format r ≡ true
pages_named g F r h hist n = elim (cases_Bool (is_page r.kind)) [
  | inl k ↦ (let w = n.fits.page k in ap (λ (l : List Ref). all (λ x. ltb x.page g.format.pages) l) w.refs ∙ named (page_kind r.kind) g.format (nodes (page_at g h)) r.record_of (page_needs.does (page_kind r.kind) g.format (nodes (page_at g h)) r.record_of (history_parted g F h hist) w.fits))
  | inr k ↦ all_of (λ x. ltb x.page g.format.pages) r.refs (λ x i. absurd (true≢false (sym (ref_touch r x i) ∙ n.fits.none k x.page)))
]

-- what redo tests of a record in a tree has in it what the record asks of itself
pub sayable : (K : page_records.Kind) (f : Format) (node : ℕ → Node) (r : Record) → page_redo.doable_as f K node r ≡ true → is_sayable_as f K r ≡ true
sayable page_records.Kind.Change f node r h = writable f node r (and_parts (page_redo.can_write f node r) (page_redo.has_key r.key (node r.left.page) || ltb (length (node r.left.page).pairs) f.room) h).0
sayable page_records.Kind.Put_back f node r h = writable f node r (and_parts (page_redo.can_write f node r) (page_redo.has_key r.key (node r.left.page)) h).0
sayable page_records.Kind.Split f node r h =
    let l = node r.left.page in let q = node r.parent.page in
    let made = leb (length r.pairs) f.room && (leb r.level f.levels && page_redo.is_ordered r.sep r.pairs r.high) in
    let room = ltb (length q.pairs) f.room && made in
    let parent = q.live && (page_redo.inside r.sep q && room) in
    let a = and_parts (page_redo.three_pages f r) (l.live && (page_redo.inside r.sep l && parent)) h in
    let b = and_parts l.live (page_redo.inside r.sep l && parent) a.1 in
    let c = and_parts (page_redo.inside r.sep l) parent b.1 in
    let d = and_parts q.live (page_redo.inside r.sep q && room) c.1 in
    let e = and_parts (page_redo.inside r.sep q) room d.1 in
    three f r made a.0 (and_parts (ltb (length q.pairs) f.room) made e.1).1
sayable page_records.Kind.Join f node r h =
    let l = node r.left.page in let q = node r.parent.page in
    let ordered = page_redo.is_ordered l.low (l.pairs ++ r.pairs) r.high in
    let fits = leb (length l.pairs + length r.pairs) f.room && ordered in
    let a = and_parts (page_redo.three_pages f r) (l.live && (q.live && (page_redo.has_key r.sep q && fits))) h in
    let b = and_parts l.live (q.live && (page_redo.has_key r.sep q && fits)) a.1 in
    let c = and_parts q.live (page_redo.has_key r.sep q && fits) b.1 in
    let d = and_parts (page_redo.has_key r.sep q) fits c.1 in
    let e = leb-true (length l.pairs + length r.pairs) f.room (and_parts (leb (length l.pairs + length r.pairs) f.room) ordered d.1).0 in
    three f r (leb (length r.pairs) f.room) a.0 (le-leb (length r.pairs) f.room (omega arith))
sayable page_records.Kind.Lift f node r h =
    let made = ltb r.level f.levels && (leb (length r.pairs) f.room && page_redo.is_ordered 0 r.pairs r.high) in
    let root = (node 0).live && (page_redo.within 0 (node 0) && made) in
    let a = and_parts (ltb r.right.page f.pages) (not (r.right.page == 0) && root) h in
    let b = and_parts (not (r.right.page == 0)) root a.1 in
    let c = and_parts (node 0).live (page_redo.within 0 (node 0) && made) b.1 in
    and_from (not (r.right.page == 0)) made b.0 (and_parts (page_redo.within 0 (node 0)) made c.1).1
sayable page_records.Kind.Drop f node r h =
    let made = leb (length r.pairs) f.room && leb r.level f.levels in
    let ordered = page_redo.is_ordered (node 0).low r.pairs (node 0).high in
    let a = and_parts (ltb r.right.page f.pages) (not (r.right.page == 0) && ((node 0).live && (ordered && made))) h in
    let b = and_parts (not (r.right.page == 0)) ((node 0).live && (ordered && made)) a.1 in
    let c = and_parts (node 0).live (ordered && made) b.1 in
    and_from (not (r.right.page == 0)) made b.0 (and_parts ordered made c.1).1
sayable page_records.Kind.Purge f node r h = refl

-- ## Redo

-- the page has been v
abbrev pub Had : Opening → List Entry → ℕ → Contents → Type 0
Had g [] p v = v ≡ page_at g [] p
Had g (r ∷ h) p v = (v ≡ page_at g (r ∷ h) p) ⊎ Had g h p v

abbrev pub redone : (ℕ → ℕ) → (ℕ → Contents) → List Entry → Redone
redone up_to snap h = redo snap (keep (found up_to) h)

pub redone_found : (up_to : ℕ → ℕ) (snap : ℕ → Contents) (r : Entry) (h : List Entry) → found up_to r ≡ true → redone up_to snap (r ∷ h) ≡ redo_one (redone up_to snap h) r
redone_found up_to snap r h f = ap (redo snap) (cond-true (found up_to r) (r ∷ keep (found up_to) h) (keep (found up_to) h) f)

pub redone_lost : (up_to : ℕ → ℕ) (snap : ℕ → Contents) (r : Entry) (h : List Entry) → found up_to r ≡ false → redone up_to snap (r ∷ h) ≡ redone up_to snap h
redone_lost up_to snap r h f = ap (redo snap) (cond-false (found up_to r) (r ∷ keep (found up_to) h) (keep (found up_to) h) f)

pub redo_hit : (d : Redone) (r : Entry) (p : ℕ) → stands d.page r ≡ true → at_prev r p (d.page p) ≡ true → (redo_one d r).page p ≡ written r p (d.page p)
redo_hit d r p s a = cond-true (stands d.page r && at_prev r p (d.page p)) (written r p (d.page p)) (d.page p) (and_from (stands d.page r) (at_prev r p (d.page p)) s a)

pub redo_not : (d : Redone) (r : Entry) (p : ℕ) → stands d.page r ≡ false → (redo_one d r).page p ≡ d.page p
redo_not d r p s = cond-false (stands d.page r && at_prev r p (d.page p)) (written r p (d.page p)) (d.page p) (and_left (stands d.page r) (at_prev r p (d.page p)) s)

pub redo_stays : (d : Redone) (r : Entry) (p : ℕ) → at_prev r p (d.page p) ≡ false → (redo_one d r).page p ≡ d.page p
redo_stays d r p s = cond-false (stands d.page r && at_prev r p (d.page p)) (written r p (d.page p)) (d.page p) (and_right (stands d.page r) (at_prev r p (d.page p)) s)

pub at_prev_off : (r : Entry) (p : ℕ) (v : Contents) → touches p r ≡ false → at_prev r p v ≡ false
at_prev_off r p v o = false_from_ne_true (at_prev r p v) (λ h.
    let a = any_has (λ f. (f.page == p) && (v.gsn == f.prev)) r.refs h in
    let q = and_parts (a.0.page == p) (v.gsn == a.0.prev) a.2 in
    true≢false (sym (subst (λ (i : ℕ). touches i r ≡ true) (eqb-true a.0.page p q.0) (ref_touch r a.0 a.1)) ∙ o))

pub at_prev_on : (g : Opening) (F : ℕ) (r : Entry) (h : List Entry) (p : ℕ) (v : Contents) → Recorded g F r h → touches p r ≡ true → v.gsn ≡ (page_at g h p).gsn → at_prev r p v ≡ true
at_prev_on g F r h p v n o e =
    let f = touch_ref p r o in
    has_any (λ f. (f.page == p) && (v.gsn == f.prev)) r.refs f.0 f.1 (and_from (f.0.page == p) (v.gsn == f.0.prev) (eq-eqb f.0.page p f.2) (eq-eqb v.gsn f.0.prev (e ∙ (ap (λ (i : ℕ). (page_at g h i).gsn) (sym f.2) ∙ sym (n.prev f.0 f.1)))))

pub at_prev_no : (g : Opening) (F : ℕ) (r : Entry) (h : List Entry) (p : ℕ) (v : Contents) → Recorded g F r h → (v.gsn ≡ (page_at g h p).gsn → ⊥) → at_prev r p v ≡ false
at_prev_no g F r h p v n ne = false_from_ne_true (at_prev r p v) (λ q.
    let a = any_has (λ f. (f.page == p) && (v.gsn == f.prev)) r.refs q in
    let b = and_parts (a.0.page == p) (v.gsn == a.0.prev) a.2 in
    ne (eqb-true v.gsn a.0.prev b.1 ∙ (n.prev a.0 a.1 ∙ ap (λ (i : ℕ). (page_at g h i).gsn) (eqb-true a.0.page p b.0))))

-- the image's page was there before, or is ahead
abbrev pub Placed : Opening → (ℕ → Contents) → List Entry → Type 0
Placed g snap h = (p : ℕ) → Had g h p (snap p) ⊎ ((page_at g h p).gsn ≤ (snap p).gsn)

pub placed_before : (g : Opening) (F : ℕ) (snap : ℕ → Contents) (r : Entry) (h : List Entry) → Recorded g F r h → Placed g snap (r ∷ h) → Placed g snap h
placed_before g F snap r h n pl p = go (pl p)
  where
    go : Had g (r ∷ h) p (snap p) ⊎ ((page_at g (r ∷ h) p).gsn ≤ (snap p).gsn) → Had g h p (snap p) ⊎ ((page_at g h p).gsn ≤ (snap p).gsn)
    go (inl (inl e)) = let k = gsn_rises g F p r h n in let q = ap (λ (v : Contents). v.gsn) e in inr (omega arith)
    go (inl (inr had)) = inl had
    go (inr le) = let k = gsn_rises g F p r h n in inr (omega arith)

-- what redo has made of the pages
abbrev pub Redoes : Opening → (ℕ → ℕ) → (ℕ → Contents) → List Entry → Type 0
Redoes g up_to snap h = (p : ℕ) → (Had g h p (snap p) → (redone up_to snap h).page p ≡ virtual g up_to h p) × ((page_at g h p).gsn ≤ (snap p).gsn → (redone up_to snap h).page p ≡ snap p)

module _ (g : Opening) (F R : ℕ) (up_to : ℕ → ℕ) (snap : ℕ → Contents) (low : (p : ℕ) → (snap p).gsn ≤ R) where
  AllUp : List Entry → Type 0
  AllUp h = (y : Entry) → Has y h → is_record y.kind ≡ true → y.number ≤ R → found up_to y ≡ true

  -- a record's test comes out as whether it counts
  stands_counting : (r : Entry) (h : List Entry) → IsRecorded g F (r ∷ h) → ((y : Entry) → Has y (r ∷ h) → is_record y.kind ≡ true → y.number ≤ R → found up_to y ≡ true) → Placed g snap (r ∷ h) → Redoes g up_to snap h → found up_to r ≡ true → stands (redone up_to snap h).page r ≡ counting up_to r h
  stands_counting r h hist a pl ih f =
      all_same (λ f. ((d f.page).gsn == f.prev) || leb r.number (d f.page).gsn) (λ f. whole up_to f.page h) r.refs (λ f i. each f i (ref_touch r f i) (pl f.page))
      ∙ sym (rw f refl)
    where
      d : ℕ → Contents
      d = (redone up_to snap h).page

      each : (f : Ref) → Has f r.refs → touches f.page r ≡ true → Had g (r ∷ h) f.page (snap f.page) ⊎ ((page_at g (r ∷ h) f.page).gsn ≤ (snap f.page).gsn) → (((d f.page).gsn == f.prev) || leb r.number (d f.page).gsn) ≡ whole up_to f.page h
      each f i o s = go s
        where
          up : (page_at g h f.page).gsn < r.number
          up = hist.0.rises f.page o

          ahead : r.number ≤ (snap f.page).gsn → (((d f.page).gsn == f.prev) || leb r.number (d f.page).gsn) ≡ whole up_to f.page h
          ahead le =
              let u = up in
              let l = low f.page in
              let e = ap (λ (v : Contents). v.gsn) ((ih f.page).1 (omega arith)) in
              or_right ((d f.page).gsn == f.prev) (leb r.number (d f.page).gsn) (le-leb r.number (d f.page).gsn (omega arith))
              ∙ sym (whole_low g F R up_to h hist.1 (λ y j. a y (inr j)) f.page (omega arith))

          inside : Had g h f.page (snap f.page) → (whole up_to f.page h ≡ true) ⊎ (whole up_to f.page h ≡ false) → (((d f.page).gsn == f.prev) || leb r.number (d f.page).gsn) ≡ whole up_to f.page h
          inside had (inl w) =
              or_left ((d f.page).gsn == f.prev) (leb r.number (d f.page).gsn) (eq-eqb (d f.page).gsn f.prev (ap (λ (v : Contents). v.gsn) ((ih f.page).0 had ∙ virtual_whole g up_to h f.page w) ∙ sym (hist.0.prev f i))) ∙ sym w
          inside had (inr w) =
              let u = up in
              let e = ap (λ (v : Contents). v.gsn) ((ih f.page).0 had) in
              let lt = virtual_behind g F up_to h hist.1 f.page w in
              let pv = hist.0.prev f i in
              or_from ((d f.page).gsn == f.prev) (leb r.number (d f.page).gsn) (ne_eqb (d f.page).gsn f.prev (λ q. omega arith)) (lt-leb r.number (d f.page).gsn (omega arith)) ∙ sym w

          go : Had g (r ∷ h) f.page (snap f.page) ⊎ ((page_at g (r ∷ h) f.page).gsn ≤ (snap f.page).gsn) → (((d f.page).gsn == f.prev) || leb r.number (d f.page).gsn) ≡ whole up_to f.page h
          go (inl (inl e)) = ahead (let q = ap (λ (v : Contents). v.gsn) (e ∙ page_hit g f.page r h o) in omega arith)
          go (inl (inr had)) = inside had (cases_Bool (whole up_to f.page h))
          go (inr le) = ahead (rw (page_hit g f.page r h o) at le)

  redoes_more : (r : Entry) (h : List Entry) → IsRecorded g F (r ∷ h) → ((y : Entry) → Has y (r ∷ h) → is_record y.kind ≡ true → y.number ≤ R → found up_to y ≡ true) → Placed g snap (r ∷ h) → Redoes g up_to snap h → Redoes g up_to snap (r ∷ h)
  redoes_more r h hist a pl ih p = (λ had. here had, ahead)
    where
      d : Redone
      d = redone up_to snap h

      ahead : (page_at g (r ∷ h) p).gsn ≤ (snap p).gsn → (redone up_to snap (r ∷ h)).page p ≡ snap p
      ahead le = elim (cases_Bool (found up_to r)) [
        | inr f ↦ ap (λ (x : Redone). x.page p) (redone_lost up_to snap r h f) ∙ old
        | inl f ↦ ap (λ (x : Redone). x.page p) (redone_found up_to snap r h f) ∙ (redo_stays d r p (still (cases_Bool (touches p r))) ∙ old)
      ]
        where
          old : d.page p ≡ snap p
          old = (ih p).1 (let k = gsn_rises g F p r h hist.0 in omega arith)

          still : (touches p r ≡ true) ⊎ (touches p r ≡ false) → at_prev r p (d.page p) ≡ false
          still (inl o) = at_prev_no g F r h p (d.page p) hist.0 (λ q.
              let n : r.number ≤ (snap p).gsn = rw (page_hit g p r h o) at le in
              let up = hist.0.rises p o in
              let e = ap (λ (v : Contents). v.gsn) old in
              omega arith)
          still (inr o) = at_prev_off r p (d.page p) o

      later : Had g h p (snap p) → (found up_to r ≡ true) ⊎ (found up_to r ≡ false) → (redone up_to snap (r ∷ h)).page p ≡ virtual g up_to (r ∷ h) p
      later had (inr f) = ap (λ (x : Redone). x.page p) (redone_lost up_to snap r h f) ∙ ((ih p).0 had ∙ sym (virtual_cut g up_to p r h (and_left (found up_to r) (all (λ f. whole up_to f.page h) r.refs) f)))
      later had (inl f) = ap (λ (x : Redone). x.page p) (redone_found up_to snap r h f) ∙ go (cases_Bool (touches p r)) (cases_Bool (counting up_to r h))
        where
          st : stands d.page r ≡ counting up_to r h
          st = stands_counting r h hist a pl ih f

          go : (touches p r ≡ true) ⊎ (touches p r ≡ false) → (counting up_to r h ≡ true) ⊎ (counting up_to r h ≡ false) → (redo_one d r).page p ≡ virtual g up_to (r ∷ h) p
          go (inr o) c = redo_stays d r p (at_prev_off r p (d.page p) o) ∙ ((ih p).0 had ∙ sym (virtual_miss g up_to p r h o))
          go (inl o) (inl c) =
              redo_hit d r p (st ∙ c) (at_prev_on g F r h p (d.page p) hist.0 o (ap (λ (v : Contents). v.gsn) ((ih p).0 had ∙ virtual_whole g up_to h p (counting_whole up_to p r h c o))))
              ∙ (ap (written r p) ((ih p).0 had) ∙ sym (virtual_hit g up_to p r h o c))
          go (inl o) (inr c) = redo_not d r p (st ∙ c) ∙ ((ih p).0 had ∙ sym (virtual_cut g up_to p r h c))

      here : Had g (r ∷ h) p (snap p) → (redone up_to snap (r ∷ h)).page p ≡ virtual g up_to (r ∷ h) p
      here (inl e) =
          let q = ap (λ (v : Contents). v.gsn) e in
          let l = low p in
          ahead (omega arith) ∙ (e ∙ sym (virtual_whole g up_to (r ∷ h) p (whole_low g F R up_to (r ∷ h) hist a p (omega arith))))
      here (inr had) = later had (cases_Bool (found up_to r))

  pub redoes : (h : List Entry) → IsRecorded g F h → ((y : Entry) → Has y h → is_record y.kind ≡ true → y.number ≤ R → found up_to y ≡ true) → Placed g snap h → Redoes g up_to snap h
  redoes [] hist a pl p = (λ had. had, λ le. refl)
  redoes (r ∷ h) hist a pl p = redoes_more r h hist a pl (redoes h hist.1 (λ y i. a y (inr i)) (placed_before g F snap r h hist.0 pl)) p

  -- Where redo changes a page by a record that counts, the record can be done on the page as it stands.
  pub redo_can : (r : Entry) (h : List Entry) → IsHistory g F (r ∷ h) → ((y : Entry) → Has y (r ∷ h) → is_record y.kind ≡ true → y.number ≤ R → found up_to y ≡ true) → Placed g snap (r ∷ h) → counting up_to r h ≡ true → is_page r.kind ≡ true →
      (p : ℕ) → touches p r ≡ true → at_prev r p ((redone up_to snap h).page p) ≡ true → page_redo.can_be g.format (page_kind r.kind) r.record_of p ((redone up_to snap h).page p).node ≡ true
  redo_can r h hist a pl c k p o q = go (pl p)
    where
      d : Contents
      d = (redone up_to snap h).page p

      ih : (Had g h p (snap p) → d ≡ virtual g up_to h p) × ((page_at g h p).gsn ≤ (snap p).gsn → d ≡ snap p)
      ih = redoes h (records_of g F h hist.1) (λ y i. a y (inr i)) (placed_before g F snap r h hist.0.recorded pl) p

      ahead : {A : Type 0} → r.number ≤ (snap p).gsn → A
      ahead le = absurd (true≢false (sym q ∙ at_prev_no g F r h p d hist.0.recorded (λ z. (let up = hist.0.recorded.rises p o in let e = ap (λ (v : Contents). v.gsn) (ih.1 (omega arith)) in omega arith))))

      mine : any (λ (x : Ref). x.page == p) (page_records.refs_as (page_kind r.kind) r.record_of) ≡ true
      mine = ap (λ (l : List Ref). any (λ (x : Ref). x.page == p) l) (sym ((virtual_fits g F up_to r h hist.0 c).page k).refs) ∙ o

      go : Had g (r ∷ h) p (snap p) ⊎ ((page_at g (r ∷ h) p).gsn ≤ (snap p).gsn) → page_redo.can_be g.format (page_kind r.kind) r.record_of p d.node ≡ true
      go (inl (inl e)) = ahead (let z = ap (λ (v : Contents). v.gsn) (e ∙ page_hit g p r h o) in omega arith)
      go (inl (inr had)) = subst (λ (v : Contents). page_redo.can_be g.format (page_kind r.kind) r.record_of p v.node ≡ true) (sym (ih.0 had))
          (page_needs.can_do (page_kind r.kind) g.format (nodes (virtual g up_to h)) r.record_of (virtual_doable g F up_to r h hist c k) p mine)
      go (inr le) = ahead (rw (page_hit g p r h o) at le)

  pub redo_passes : (r : Entry) (h : List Entry) → IsHistory g F (r ∷ h) → ((y : Entry) → Has y (r ∷ h) → is_record y.kind ≡ true → y.number ≤ R → found up_to y ≡ true) → Placed g snap (r ∷ h) → found up_to r ≡ true → passes g.format (redone up_to snap h).page r ≡ true
  redo_passes r h hist a pl f = and_from (names_pages g.format r) (not (is_page r.kind && stands d r) || rest) (pages_named g F r h hist.1 hist.0) (elim (cases_Bool (is_page r.kind && stands d r)) [
    | inr e ↦ or_left (not (is_page r.kind && stands d r)) rest (ap not e)
    | inl e ↦ (let q = and_parts (is_page r.kind) (stands d r) e in
        let c = sym (stands_counting r h (hist.0.recorded, records_of g F h hist.1) a pl (redoes h (records_of g F h hist.1) (λ y i. a y (inr i)) (placed_before g F snap r h hist.0.recorded pl)) f) ∙ q.1 in
        or_right (not (is_page r.kind && stands d r)) rest (and_from (is_sayable_as g.format (page_kind r.kind) r.record_of) (all test r.refs)
        (sayable (page_kind r.kind) g.format (nodes (virtual g up_to h)) r.record_of (virtual_doable g F up_to r h hist c q.0))
        (each r.refs (λ x i. one x i c q.0 (cases_Bool (at_prev r x.page (d x.page)))))))
  ])
    where
      d : ℕ → Contents
      d = (redone up_to snap h).page

      test : Ref → Bool
      test x = not (at_prev r x.page (d x.page)) || page_redo.can_be g.format (page_kind r.kind) r.record_of x.page (d x.page).node

      rest : Bool
      rest = is_sayable_as g.format (page_kind r.kind) r.record_of && all test r.refs

      one : (x : Ref) → Has x r.refs → counting up_to r h ≡ true → is_page r.kind ≡ true → (at_prev r x.page (d x.page) ≡ true) ⊎ (at_prev r x.page (d x.page) ≡ false) → test x ≡ true
      one x i c k (inr e) = or_left (not (at_prev r x.page (d x.page))) (page_redo.can_be g.format (page_kind r.kind) r.record_of x.page (d x.page).node) (ap not e)
      one x i c k (inl e) = or_right (not (at_prev r x.page (d x.page))) (page_redo.can_be g.format (page_kind r.kind) r.record_of x.page (d x.page).node) (redo_can r h hist a pl c k x.page (ref_touch r x i) e)

      each : (l : List Ref) → ((x : Ref) → Has x l → test x ≡ true) → all test l ≡ true
      each [] h = refl
      each (x ∷ l) h = and_from (test x) (all test l) (h x (inl refl)) (each l (λ y i. h y (inr i)))

  -- the values that redo leaves
  pub redo_value : (k : ℕ) (h : List Entry) → IsRecorded g F h → ((y : Entry) → Has y h → is_record y.kind ≡ true → y.number ≤ R → found up_to y ≡ true) → ((p : ℕ) → Had g h p (snap p)) → values g.format (redone up_to snap h) k ≡ value g up_to k h
  redo_value k h hist a had = ap (λ (n : ℕ → Node). lookup g.format n k) (fun_ext (λ p. ap (λ (v : Contents). v.node) ((redoes h hist a (λ q. inl (had q)) p).0 (had p))))

-- ## Entries

-- the key of a counting write has an entry, until its transaction is known of by all
pub entry_left : (g : Opening) (F : ℕ) (up_to : ℕ → ℕ) (h : List Entry) → IsHistory g F h → (x : Entry) (b : List Entry) → Before x b h → is_write x.kind ≡ true → counting up_to x b ≡ true → ((d : EndOf h x) → d.end.number ≤ F → ⊥) →
    page_tree.entry g.format.pages (nodes (virtual g up_to h)) x.key ≡ None → ⊥
entry_left g F up_to [] hist x b pl w c nd e = pl
entry_left g F up_to (r ∷ h) hist x b (inl q) w c nd e =
    let cr : counting up_to r h ≡ true = subst (λ (l : List Entry). counting up_to r l ≡ true) q.1 (subst (λ (y : Entry). counting up_to y b ≡ true) q.0 c) in
    let wr : is_write r.kind ≡ true = ap (λ (y : Entry). is_write y.kind) (sym q.0) ∙ w in
    let t = virtual_parted g F up_to h hist.1 in
    let m = virtual_fits g F up_to r h hist.0 cr in
    some_none r.after (sym (ap (λ (n : ℕ → Node). page_tree.entry g.format.pages n r.key) (virtual_on g up_to r h cr) ∙ fits_entry g.format (nodes (virtual g up_to h)) r t m wr) ∙ (ap (λ (y : Entry). page_tree.entry g.format.pages (nodes (virtual g up_to (r ∷ h))) y.key) (sym q.0) ∙ e))
entry_left g F up_to (r ∷ h) hist x b (inr pl) w c nd e = go (entry_left g F up_to h hist.1 x b pl w c (λ d. nd (record { end = d.end; stands = inr d.stands; is_end = d.is_end; same = d.same }))) (cases_Bool (counting up_to r h))
  where
    t : IsTree g.format (nodes (virtual g up_to h))
    t = virtual_parted g F up_to h hist.1

    at : (n : ℕ → Node) → nodes (virtual g up_to (r ∷ h)) ≡ n → page_tree.entry g.format.pages n x.key ≡ None
    at n q = ap (λ (n : ℕ → Node). page_tree.entry g.format.pages n x.key) (sym q) ∙ e

    go : (page_tree.entry g.format.pages (nodes (virtual g up_to h)) x.key ≡ None → ⊥) → (counting up_to r h ≡ true) ⊎ (counting up_to r h ≡ false) → ⊥
    go ih (inr k) = ih (at (nodes (virtual g up_to h)) (virtual_off g up_to r h k))
    go ih (inl k) = entry_stays g.format (nodes (virtual g up_to h)) r t (virtual_fits g F up_to r h hist.0 k) x.key
        (λ kc ik. (let d = hist.0.recorded.purged kc x.key ik x (before_has x b h pl) w refl in nd (record { end = d.0.end; stands = inr d.0.stands; is_end = d.0.is_end; same = d.0.same }) d.1))
        ih (at (moved_on (nodes (virtual g up_to h)) r) (virtual_on g up_to r h k))

-- ## Which records counted

abbrev pub CountsAre : (ℕ → ℕ) → (ℕ → ℕ → Bool) → Entry → List Entry → Type 0
CountsAre up_to counts r b = found up_to r ≡ true → counts r.log r.number ≡ counting up_to r b

pub counts_here : (d : Redone) (r : Entry) → (redo_one d r).counts r.log r.number ≡ stands d.page r
counts_here d r = ap (λ (f : ℕ → Bool). f r.number) (upd_same d.counts r.log (upd (d.counts r.log) r.number (stands d.page r)) r.log refl) ∙ upd_same (d.counts r.log) r.number (stands d.page r) r.number refl

pub mark_other : (f : ℕ → ℕ → Bool) (i j : ℕ) (b : Bool) (k l : ℕ) → (k ≡ i → l ≡ j → ⊥) → mark f i j b k l ≡ f k l
mark_other f i j b k l ne = elim (cases_eq k i) [
  | inl e ↦ ap (λ (h : ℕ → Bool). h l) (upd_same f i (upd (f i) j b) k e) ∙ (upd_other (f i) j b l (ne e) ∙ ap (λ (x : ℕ). f x l) (sym e))
  | inr n ↦ ap (λ (h : ℕ → Bool). h l) (upd_other f i (upd (f i) j b) k n)
]

pub counts_else : (d : Redone) (r : Entry) (k l : ℕ) → (k ≡ r.log → l ≡ r.number → ⊥) → (redo_one d r).counts k l ≡ d.counts k l
counts_else d r k l ne = mark_other d.counts r.log r.number (stands d.page r) k l ne

pub counts_are : (g : Opening) (F R : ℕ) (up_to : ℕ → ℕ) (snap : ℕ → Contents) → ((p : ℕ) → (snap p).gsn ≤ R) → (h : List Entry) → IsRecorded g F h → ((y : Entry) → Has y h → is_record y.kind ≡ true → y.number ≤ R → found up_to y ≡ true) → Placed g snap h → Each (CountsAre up_to (redone up_to snap h).counts) h
counts_are g F R up_to snap low [] hist a pl = tt
counts_are g F R up_to snap low (r ∷ h) hist a pl = (
  λ f. ap (λ (d : Redone). d.counts r.log r.number) (redone_found up_to snap r h f) ∙ (counts_here (redone up_to snap h) r ∙ stands_counting g F R up_to snap low r h hist a pl (redoes g F R up_to snap low h hist.1 (λ y i. a y (inr i)) (placed_before g F snap r h hist.0 pl)) f),
  each_map_has (CountsAre up_to (redone up_to snap h).counts) (CountsAre up_to (redone up_to snap (r ∷ h)).counts) h
      (λ y ys i c f. older y i (and_parts (is_record y.kind) (leb y.number (up_to y.log)) f).0 ∙ c f)
      (counts_are g F R up_to snap low h hist.1 (λ y i. a y (inr i)) (placed_before g F snap r h hist.0 pl)),
)
  where
    older : (y : Entry) → Has y h → is_record y.kind ≡ true → (redone up_to snap (r ∷ h)).counts y.log y.number ≡ (redone up_to snap h).counts y.log y.number
    older y i k = elim (cases_Bool (found up_to r)) [
      | inl f ↦ ap (λ (d : Redone). d.counts y.log y.number) (redone_found up_to snap r h f)
          ∙ counts_else (redone up_to snap h) r y.log y.number (λ l n. let lt = hist.0.later (and_parts (is_record r.kind) (leb r.number (up_to r.log)) f).0 y i l in omega arith)
      | inr f ↦ ap (λ (d : Redone). d.counts y.log y.number) (redone_lost up_to snap r h f)
    ]
