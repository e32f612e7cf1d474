-- Logs in memory go as the core's records do.
use Rattle.std.proofs.Common.{◌≡◌, ℕ, suc, ◌+◌, ◌<◌, Bool, true, ◌==◌, ◌&&◌, List, [], ◌∷◌, ◌++◌, length, get_or, set, Vec, Result, Ok, Err, OnErr, arith, sym, ap, ap₂, ◌∙◌}
use Rattle.std.proofs.lemmas.Bool.{cond-true, cond-false, eq-eqb, ne_eqb}
use Rattle.std.proofs.lemmas.List.{length_push, map-set, get_or-map}
use Rattle.std.proofs.Math.Seq.{map-set_same}
use Rattle.std.specs.declared.alloc.Global.{Global}
use Rattle.core_commit.specs.image_model.Entries.{Entry, is_record}
use Rattle.mem_journal.specs.declared.log.Record.{Record}
use Rattle.mem_journal.specs.Logs.{count_of, records_of, with_record}
use Rattle.mem_journal.proofs.WorkerLemmas.{each_set}

-- a record of log w is counted there, and nowhere else
counted : (r : Entry) (es : List Entry) (w : ℕ) → is_record r.kind ≡ true → r.log ≡ w → count_of (r ∷ es) w ≡ suc (count_of es w)
counted r es w kind log = cond-true (is_record r.kind && (r.log == w)) (suc (count_of es w)) (count_of es w) (ap₂ (λ (a b : Bool). a && b) kind (eq-eqb r.log w log))

not_counted : (r : Entry) (es : List Entry) (w i : ℕ) → is_record r.kind ≡ true → r.log ≡ w → (i ≡ w → ⊥) → count_of (r ∷ es) i ≡ count_of es i
not_counted r es w i kind log n = cond-false (is_record r.kind && (r.log == i)) (suc (count_of es i)) (count_of es i) (ap₂ (λ (a b : Bool). a && b) kind (ne_eqb r.log i (λ e. n (sym e ∙ log))))

-- the log that got it has as many records as are entered, and so have the others
pub logs_set : (r : Entry) (es : List Entry) (logs : List (List Record)) (w : ℕ) (x : Record) → w < length logs → is_record r.kind ≡ true → r.log ≡ w → ((i : ℕ) → i < length logs → length (get_or logs i []) ≡ count_of es i) →
    (i : ℕ) → i < length (set logs w (get_or logs w [] ++ x ∷ [])) → length (get_or (set logs w (get_or logs w [] ++ x ∷ [])) i []) ≡ count_of (r ∷ es) i
logs_set r es logs w x l kind log all =
    each_set (λ i (y : List Record). length y ≡ count_of es i) (λ i (y : List Record). length y ≡ count_of (r ∷ es) i) logs [] w (get_or logs w [] ++ x ∷ []) l
    (λ i n y e. e ∙ sym (not_counted r es w i kind log n)) all
    (let e : length (get_or logs w [] ++ x ∷ []) ≡ length (get_or logs w []) + 1 = length_push (get_or logs w []) x in
    let f : length (get_or logs w []) ≡ count_of es w = all w l in
    let h : count_of (r ∷ es) w ≡ suc (count_of es w) = counted r es w kind log in omega arith)

-- one log was pushed to
pub entered : (logs : List (Vec Record Global)) (w : ℕ) (old new : Vec Record Global) (r : Record) → w < length logs → old ≡ get_or logs w old → new.items ≡ old.items ++ r ∷ [] → records_of (set logs w new) ≡ with_record (records_of logs) w r
entered logs w old new r l e n =
    let f : Vec Record Global → List Record = λ v. v.items in
    map-set f logs w new ∙ ap (set (records_of logs) w) (n ∙ ap (λ (xs : List Record). xs ++ r ∷ []) (sym (get_or-map f logs w old [] l ∙ ap f (sym e))))

-- or was not
pub kept : (logs : List (Vec Record Global)) (w : ℕ) (old new : Vec Record Global) → old ≡ get_or logs w old → new.items ≡ old.items → records_of (set logs w new) ≡ records_of logs
kept logs w old new e n = let f : Vec Record Global → List Record = λ v. v.items in map-set_same f logs w new old (n ∙ ap f e)

pub on_err : {T E : Type 0} (r : Result T E) (P : Type 0) → P → OnErr r P
on_err (Ok x) P p = tt
on_err (Err e) P p = p
