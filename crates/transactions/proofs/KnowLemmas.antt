-- What a session knows after its steps.
use Rattle.std.proofs.Common.{◌≡◌, ◌⊎◌, ℕ, suc, ◌<◌, ◌^◌, Bool, true, false, cond, ◌==◌, List, [], ◌∷◌, ◌++◌, length, map, Option, Some, None, refl, sym, ap, ap₂, ◌∙◌, subst, inl, inr, arith, set, length-set}
use Rattle.std.proofs.lemmas.Bool.{cases_eq, cond-true, cond-false, eq-eqb, ne_eqb}
use Rattle.std.proofs.lemmas.List.{get_or-set_same, get_or-set_other}
use Rattle.map_model.specs.Lists.{upd}
use Rattle.page_model.specs.Pairs.{find}
use Rattle.page_model.specs.Tree.{word_or}
use Rattle.core_state.specs.image_model.Entries.{Kind, Entry, word_in}
use Rattle.core_state.specs.States.{State, Worker, Row, start}
use Rattle.core_state.specs.Openings.{Opening}
use Rattle.core_state.specs.Events.{Event, Mode}
use Rattle.core_state.specs.Needs.{holds_row, is_held_by}
use Rattle.core_state.specs.Steps.{at_pages, at_row, begun, finished, locked, unlocked, write_entry, writes, put_back, happens, state_after, AllMet}
use Rattle.transactions.specs.declared.session.Undo.{Undo}
use Rattle.transactions.specs.Steps.{AreQuiet, is_half_after}
use Rattle.transactions.specs.Memory.{Memory, Ties, IsUsual, has_row, undo_of, word_before}
use Rattle.transactions.proofs.RowLemmas.{upd_here, lock_holds, lock_alone, unlock_gone}
use Rattle.transactions.proofs.QuietLemmas.{Same, Alike, alike_pages, quiet_run, half_more, half_same}
use Rattle.core_state.proofs.Runs.{run_more}
use Rattle.transactions.proofs.PathLemmas.{Turn}

pub ties_more : (g : Opening) (es more : List Event) (m : Memory) → Ties g es m → AllMet g (state_after g es) more → AreQuiet m.session more → Ties g (es ++ more) m
ties_more g es more m k met q =
    let same : Same m.session (state_after g es) (state_after g (es ++ more)) = subst (λ (s : State). Same m.session (state_after g es) s) (sym (run_more g (start g) es more)) (quiet_run g (state_after g es) m.session more met q) in
    record {
      usual = k.usual;
      worker = k.worker;
      is_open = same.is_open ∙ k.is_open;
      undo = ap (map undo_of) same.changes ∙ k.undo;
      held = λ i l. same.holds i ∙ k.held i l;
      half = k.half ∙ sym (half_more m.session false es more ∙ half_same m.session (is_half_after m.session false es) more q);
    }

-- ## A step that changes the worker alone

ties_by : (g : Opening) (es more : List Event) (m : Memory) (e : Event) (At : State → Type 0) → Ties g es m → (t : Turn g m.session e At es more) →
    (b : Worker) (o half : Bool) (us : List Undo) → (happens g t.mid e).worker ≡ upd t.mid.worker m.session b → (happens g t.mid e).row ≡ t.mid.row →
    b.is_open ≡ o → map undo_of b.changes ≡ us → is_half_after m.session m.is_half (e ∷ []) ≡ half →
    Ties g (es ++ more) (record m { is_open = o; is_half = half; undo = us })
ties_by g es more m e At k t b o half us worker row op ch ha =
    let w = m.session in
    let here : (happens g t.mid e).worker w ≡ b = ap (λ (f : ℕ → Worker). f w) worker ∙ upd_here t.mid.worker w b in
    record {
      usual = k.usual;
      worker = k.worker;
      is_open = t.last.is_open ∙ (ap (λ (a : Worker). a.is_open) here ∙ op);
      undo = ap (map undo_of) (t.last.changes ∙ ap (λ (a : Worker). a.changes) here) ∙ ch;
      held = λ i l. t.last.holds i ∙ (ap (λ (f : ℕ → Row). holds_row (f i) w) row ∙ (t.first.holds i ∙ k.held i l));
      half = sym ha ∙ (ap (λ (x : Bool). is_half_after w x (e ∷ [])) k.half ∙ sym t.half);
    }

pub ties_begun : (g : Opening) (es more : List Event) (m : Memory) (f : ℕ) (At : State → Type 0) → Ties g es m → Turn g m.session (Event.Begin m.session f) At es more →
    Ties g (es ++ more) (record m { is_open = true; is_half = false; undo = [] })
ties_begun g es more m f At k t = ties_by g es more m (Event.Begin m.session f) At k t (begun (t.mid.worker m.session) f) true false [] refl refl refl refl (cond-true (m.session == m.session) false m.is_half (eq-eqb m.session m.session refl))

pub ties_read : (g : Opening) (es more : List Event) (m : Memory) (p key : ℕ) (v : Option ℕ) (At : State → Type 0) → Ties g es m → Turn g m.session (Event.Read m.session p key v) At es more → Ties g (es ++ more) m
ties_read g es more m p key v At k t =
    let w = m.session in
    let a = alike_pages t.mid w (t.mid.worker w) (p ∷ []) in
    ties_by g es more m (Event.Read w p key v) At k t (at_pages t.mid w (t.mid.worker w) (p ∷ [])) m.is_open m.is_half m.undo refl refl (a.is_open ∙ (t.first.is_open ∙ k.is_open)) (ap (map undo_of) (a.changes ∙ t.first.changes) ∙ k.undo) refl

pub word_is : (d : ℕ) (o : Option ℕ) → d ≡ 2 ^ 63 → word_or d o ≡ word_before o
word_is d None e = e
word_is d (Some x) e = refl

pub ties_changed : (g : Opening) (es more : List Event) (m : Memory) (p key v : ℕ) (was : Option ℕ) → Ties g es m → Turn g m.session (Event.Change m.session p key v) (λ s. was ≡ find key (s.page p).node.pairs) es more →
    Ties g (es ++ more) (record m { undo = record { key = key; word = word_before was } ∷ m.undo })
ties_changed g es more m p key v was k t =
    let w = m.session in
    let a = at_pages t.mid w (t.mid.worker w) (p ∷ []) in
    let h = alike_pages t.mid w (t.mid.worker w) (p ∷ []) in
    let r = write_entry g Kind.Change t.mid w a p key v in
    let word : word_in g.format (t.mid.page p).node key ≡ word_before was = ap (λ (o : Option ℕ). word_or g.format.dead o) (sym t.at) ∙ word_is g.format.dead was k.usual.dead in
    ties_by g es more m (Event.Change w p key v) (λ s. was ≡ find key (s.page p).node.pairs) k t (record a { clock = r.number; changes = r ∷ (t.mid.worker w).changes }) m.is_open m.is_half (record { key = key; word = word_before was } ∷ m.undo)
    refl refl (h.is_open ∙ (t.first.is_open ∙ k.is_open))
    (ap₂ (λ (x : ℕ) (us : List Undo). record { key = key; word = x } ∷ us) word (ap (map undo_of) t.first.changes ∙ k.undo)) refl

pub ties_back : (g : Opening) (es more : List Event) (m : Memory) (p : ℕ) (c : Entry) (cs : List Entry) (us : List Undo) (At : State → Type 0) → Ties g es m → ((state_after g es).worker m.session).changes ≡ c ∷ cs → map undo_of cs ≡ us →
    Turn g m.session (Event.Put_back m.session p) At es more → Ties g (es ++ more) (record m { is_half = true; undo = us })
ties_back g es more m p c cs us At k e u t =
    let w = m.session in
    let a = at_pages t.mid w (t.mid.worker w) (p ∷ []) in
    let h = alike_pages t.mid w (t.mid.worker w) (p ∷ []) in
    let now : happens g t.mid (Event.Put_back w p) ≡ writes g t.mid Kind.Put_back w p c.key c.before (λ _. cs) = ap (put_back g t.mid w p) (t.first.changes ∙ e) in
    ties_by g es more m (Event.Put_back w p) At k t (record a { clock = suc a.clock; changes = cs }) m.is_open true us
    (ap (λ (s : State). s.worker) now) (ap (λ (s : State). s.row) now) (h.is_open ∙ (t.first.is_open ∙ k.is_open)) u (cond-true (w == w) true m.is_half (eq-eqb w w refl))

pub ties_ended : (g : Opening) (es more : List Event) (m : Memory) (commit : Bool) (f : ℕ) (At : State → Type 0) → Ties g es m → Turn g m.session (Event.End m.session commit f) At es more →
    Ties g (es ++ more) (record m { is_open = false; is_half = false; undo = [] })
ties_ended g es more m commit f At k t = ties_by g es more m (Event.End m.session commit f) At k t (finished (t.mid.worker m.session) (suc (t.mid.worker m.session).clock)) false false [] refl refl refl refl (cond-true (m.session == m.session) false m.is_half (eq-eqb m.session m.session refl))

-- ## Rows

pub row_set : (held : List Bool) (row i : ℕ) (b : Bool) → row < length held → has_row (set held row b) i ≡ cond (i == row) b (has_row held i)
row_set held row i b l = go (cases_eq i row)
  where
    go : (i ≡ row) ⊎ (i ≡ row → ⊥) → has_row (set held row b) i ≡ cond (i == row) b (has_row held i)
    go (inl e) = ap (has_row (set held row b)) e ∙ (get_or-set_same held row b false l ∙ sym (cond-true (i == row) b (has_row held i) (eq-eqb i row e)))
    go (inr n) = get_or-set_other held row i b false n ∙ sym (cond-false (i == row) b (has_row held i) (ne_eqb i row n))

-- one row is another, and the rest of the worker is as it was
ties_row : (g : Opening) (es more : List Event) (m : Memory) (e : Event) (At : State → Type 0) → Ties g es m → (t : Turn g m.session e At es more) → (row : ℕ) (o : Row) (b : Bool) → row < length m.held →
    (happens g t.mid e).row ≡ upd t.mid.row row o → holds_row o m.session ≡ b → Alike (t.mid.worker m.session) ((happens g t.mid e).worker m.session) → is_half_after m.session m.is_half (e ∷ []) ≡ m.is_half →
    Ties g (es ++ more) (record m { held = set m.held row b })
ties_row g es more m e At k t row o b l rows has like ha =
    let w = m.session in
    let size : length (set m.held row b) ≡ length m.held = length-set m.held row b in
    record {
      usual = subst (λ (n : ℕ). IsUsual g n) (sym size) k.usual;
      worker = k.worker;
      is_open = t.last.is_open ∙ (like.is_open ∙ (t.first.is_open ∙ k.is_open));
      undo = ap (map undo_of) (t.last.changes ∙ (like.changes ∙ t.first.changes)) ∙ k.undo;
      held = λ i n. t.last.holds i ∙ (ap (λ (f : ℕ → Row). holds_row (f i) w) rows ∙ (at i (omega (arith, n, size)) (cases_eq i row) ∙ sym (row_set m.held row i b l)));
      half = sym ha ∙ (ap (λ (x : Bool). is_half_after w x (e ∷ [])) k.half ∙ sym t.half);
    }
  where
    at : (i : ℕ) → i < length m.held → (i ≡ row) ⊎ (i ≡ row → ⊥) → holds_row (upd t.mid.row row o i) m.session ≡ cond (i == row) b (has_row m.held i)
    at i n (inl q) = ap (λ (x : Row). holds_row x m.session) (cond-true (i == row) o (t.mid.row i) (eq-eqb i row q)) ∙ (has ∙ sym (cond-true (i == row) b (has_row m.held i) (eq-eqb i row q)))
    at i n (inr q) = ap (λ (x : Row). holds_row x m.session) (cond-false (i == row) o (t.mid.row i) (ne_eqb i row q)) ∙ (t.first.holds i ∙ (k.held i n ∙ sym (cond-false (i == row) b (has_row m.held i) (ne_eqb i row q))))

pub ties_locked : (g : Opening) (es more : List Event) (m : Memory) (row : ℕ) (mode : Mode) (At : State → Type 0) → Ties g es m → row < length m.held → Turn g m.session (Event.Lock m.session row mode) At es more →
    Ties g (es ++ more) (record m { held = set m.held row true })
ties_locked g es more m row mode At k l t =
    let w = m.session in
    ties_row g es more m (Event.Lock w row mode) At k t row (locked (t.mid.row row) w mode) true l refl (lock_holds (t.mid.row row) w mode)
    (subst (λ (x : Worker). Alike (t.mid.worker w) x) (sym (upd_here t.mid.worker w (at_row w (t.mid.worker w) (t.mid.row row)))) (record { txn = refl; is_open = refl; changes = refl })) refl

pub ties_unlocked : (g : Opening) (es more : List Event) (m : Memory) (row : ℕ) (At : State → Type 0) → Ties g es m → row < length m.held → Turn g m.session (Event.Unlock m.session row) At es more →
    Ties g (es ++ more) (record m { held = set m.held row false })
ties_unlocked g es more m row At k l t =
    let w = m.session in
    ties_row g es more m (Event.Unlock w row) At k t row (unlocked (t.mid.row row) w (t.mid.worker w).end) false l refl (unlock_gone (t.mid.row row) w (t.mid.worker w).end) (record { txn = refl; is_open = refl; changes = refl }) refl

pub locked_alone : (g : Opening) (es more : List Event) (w row : ℕ) (At : State → Type 0) → Turn g w (Event.Lock w row Mode.Alone) At es more → is_held_by ((state_after g (es ++ more)).row row).holder w ≡ true
locked_alone g es more w row At t = t.last.alone row ∙ (ap (λ (o : Row). is_held_by o.holder w) (upd_here t.mid.row row (locked (t.mid.row row) w Mode.Alone)) ∙ lock_alone (t.mid.row row) w)

pub locked_holds : (g : Opening) (es more : List Event) (w row : ℕ) (mode : Mode) (At : State → Type 0) → Turn g w (Event.Lock w row mode) At es more → holds_row ((state_after g (es ++ more)).row row) w ≡ true
locked_holds g es more w row mode At t = t.last.holds row ∙ (ap (λ (o : Row). holds_row o w) (upd_here t.mid.row row (locked (t.mid.row row) w mode)) ∙ lock_holds (t.mid.row row) w mode)
