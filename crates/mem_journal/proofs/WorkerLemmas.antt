-- Workers in memory go as the core's do.
use Rattle.std.proofs.Common.{◌≡◌, ◌⊎◌, ℕ, suc, ◌<◌, max, Bool, true, false, cond, ◌==◌, ◌&&◌, ◌||◌, List, [], ◌∷◌, ◌++◌, length, get_or, set, length-set, refl, sym, ap, ap₂, ◌∙◌, subst, inl, inr, arith}
use Rattle.std.proofs.lemmas.Bool.{cases_eq, cond-false, eq-eqb, ne_eqb}
use Rattle.std.proofs.lemmas.List.{get_or-set_same, get_or-set_other}
use Rattle.map_model.specs.Lists.{upd, any}
use Rattle.rfa_model.specs.Stamps.{owed, debt_at_begin, need_of}
use Rattle.core_commit.specs.image_model.Entries.{Kind, Entry, is_record}
use Rattle.core_commit.specs.core_state.States.{State, Row, Worker}
use Rattle.core_commit.specs.core_state.Steps.{touch, at_row, begun, finished, end_entry}
use Rattle.flush_avoidance.specs.Clocks as clocks
use Rattle.transactions.specs.declared.hindrance.Receipt.{Receipt}
use Rattle.mem_journal.specs.declared.worker.Worker as own
use Rattle.mem_journal.specs.declared.row.Row as rows
use Rattle.mem_journal.specs.Rows.{IsRow}
use Rattle.mem_journal.specs.Workers.{IsLike, IsWorker, HasRecord, committed}

-- what holds of each holds after one was set
pub each_set : {A : Type 0} (P R : ℕ → A → Type 0) (xs : List A) (d : A) (j : ℕ) (a : A) → j < length xs → ((i : ℕ) → (i ≡ j → ⊥) → (x : A) → P i x → R i x) → ((i : ℕ) → i < length xs → P i (get_or xs i d)) → R j a →
    (i : ℕ) → i < length (set xs j a) → R i (get_or (set xs j a) i d)
each_set P R xs d j a within other all here i l = go (cases_eq i j)
  where
    go : (i ≡ j) ⊎ (i ≡ j → ⊥) → R i (get_or (set xs j a) i d)
    go (inl e) = subst (λ x. R i x) (sym (ap (λ (k : ℕ). get_or (set xs j a) k d) e ∙ get_or-set_same xs j a d within)) (subst (λ (k : ℕ). R k a) (sym e) here)
    go (inr n) = subst (λ x. R i x) (sym (get_or-set_other xs j i a d n)) (other i n (get_or xs i d) (all i (let size : length (set xs j a) ≡ length xs = length-set xs j a in omega (arith, size, l))))

pub upd_apart : {A : Type 0} (f : ℕ → A) (j i : ℕ) (a : A) → (i ≡ j → ⊥) → upd f j a i ≡ f i
upd_apart f j i a n = cond-false (i == j) a (f i) (ne_eqb i j n)

-- a worker that did not step, where no record was lost
pub still : (s t : State) (i : ℕ) (b : own.Worker) → t.worker i ≡ s.worker i → t.flushed i ≡ s.flushed i → ((n : ℕ) → HasRecord s.entries i n → HasRecord t.entries i n) → IsWorker s i b → IsWorker t i b
still s t i b e f more x = record { like = subst (λ (a : Worker). IsLike a b) (sym e) x.like; flushed = f ∙ x.flushed; ended = λ l. more b.end (x.ended l) }

pub record_more : (r : Entry) (es : List Entry) (w n : ℕ) → HasRecord es w n → HasRecord (r ∷ es) w n
record_more r es w n h = go (is_record r.kind && ((r.log == w) && (r.number == n)))
  where
    go : (b : Bool) → (b || any (λ x. is_record x.kind && ((x.log == w) && (x.number == n))) es) ≡ true
    go true = refl
    go false = h

-- ## Clocks

owed_same : (w f e d c n l : ℕ) → f ≡ e → d ≡ c → owed w f d n l ≡ owed w e c n l
owed_same w f e d c n l q r = ap (λ (z : ℕ). owed w z d n l) q ∙ ap (λ (z : ℕ). owed w e z n l) r

pub like_touch : (w : ℕ) (a : Worker) (b : own.Worker) (n l : ℕ) → IsLike a b → IsLike (touch w a n l) (record b { clock = clocks.after_touch w b.clock n l })
like_touch w a b n l x = record {
  clock = ap (λ (z : ℕ). max z n) x.clock;
  floor = x.floor;
  debt = owed_same w a.floor b.clock.floor a.debt b.clock.debt n l x.floor x.debt;
  txn = x.txn;
  end = x.end;
}

pub like_row : (w : ℕ) (a : Worker) (b : own.Worker) (o : Row) (r : rows.Row) → IsRow o r → IsLike a b → IsLike (at_row w a o) (record b { clock = clocks.after_raise (clocks.after_touch w b.clock r.number r.log) r.read_end })
like_row w a b o r y x =
    let c : own.Worker = record b { clock = clocks.after_raise (clocks.after_touch w b.clock r.number r.log) r.read_end } in
    let met : ℕ → ℕ → ℕ → Worker = λ n l e. let t = touch w a n l in record t { clock = max t.clock e } in
    let h = like_touch w a b r.number r.log x in
    let now : IsLike (met r.number r.log r.read_end) c = record { clock = ap (λ (z : ℕ). max z r.read_end) h.clock; floor = h.floor; debt = h.debt; txn = h.txn; end = h.end } in
    subst (λ (z : ℕ). IsLike (met z o.log o.read_end) c) (sym y.number)
    (subst (λ (z : ℕ). IsLike (met r.number z o.read_end) c) (sym y.log) (subst (λ (z : ℕ). IsLike (met r.number r.log z) c) (sym y.read_end) now))

pub like_begun : (f : ℕ) (a : Worker) (b : own.Worker) → IsLike a b → IsLike (begun a f) (record b { clock = clocks.after_begin b.clock f; txn = suc b.txn })
like_begun f a b x = record { clock = x.clock; floor = refl; debt = ap (λ (d : ℕ). debt_at_begin d f) x.debt; txn = ap suc x.txn; end = x.end }

pub like_next : (a : Worker) (b : own.Worker) (changes : List Entry) → IsLike a b → IsLike (record a { clock = suc a.clock; changes = changes }) (record b { clock = clocks.after_next b.clock })
like_next a b changes x = record { clock = ap suc x.clock; floor = x.floor; debt = x.debt; txn = x.txn; end = x.end }

pub like_end : (a : Worker) (b : own.Worker) → IsLike a b → IsLike (finished a (suc a.clock)) (record b { clock = clocks.after_next b.clock; end = suc b.clock.clock })
like_end a b x = record { clock = ap suc x.clock; floor = x.floor; debt = x.debt; txn = x.txn; end = ap suc x.clock }

-- ## Ends

pub end_stands : (w f : ℕ) (commit : Bool) (a : Worker) (b : own.Worker) (es : List Entry) → IsLike a b → HasRecord (end_entry (cond commit Kind.Commit Kind.Abort) w a f ∷ es) w (suc b.clock.clock)
end_stands w f commit a b es x = go commit
  where
    same : ((w == w) && (suc a.clock == suc b.clock.clock)) ≡ true
    same = ap₂ (λ (p q : Bool). p && q) (eq-eqb w w refl) (eq-eqb (suc a.clock) (suc b.clock.clock) (ap suc x.clock))

    go : (commit : Bool) → HasRecord (end_entry (cond commit Kind.Commit Kind.Abort) w a f ∷ es) w (suc b.clock.clock)
    go true = ap (λ (p : Bool). p || any (λ r. is_record r.kind && ((r.log == w) && (r.number == suc b.clock.clock))) es) same
    go false = ap (λ (p : Bool). p || any (λ r. is_record r.kind && ((r.log == w) && (r.number == suc b.clock.clock))) es) same

-- a commit comes into the journal, and nothing else does
pub ends_in : (w f : ℕ) (commit : Bool) (a : Worker) (b : own.Worker) (es : List Entry) (journal : List Receipt) → IsLike a b → journal ≡ committed es →
    cond commit (journal ++ record { txn = b.txn; log = w; gsn = suc b.clock.clock; need = need_of b.clock.debt f } ∷ []) journal ≡ committed (end_entry (cond commit Kind.Commit Kind.Abort) w a f ∷ es)
ends_in w f true a b es journal x e = ap₂ (λ (xs : List Receipt) (y : Receipt). xs ++ y ∷ []) e says
  where
    the : ℕ → ℕ → ℕ → Receipt
    the t n d = record { txn = t; log = w; gsn = suc n; need = need_of d f }

    says : the b.txn b.clock.clock b.clock.debt ≡ the a.txn a.clock a.debt
    says = ap (λ (t : ℕ). the t b.clock.clock b.clock.debt) (sym x.txn) ∙ ap₂ (λ (n d : ℕ). the a.txn n d) (sym x.clock) (sym x.debt)
ends_in w f false a b es journal x e = e
