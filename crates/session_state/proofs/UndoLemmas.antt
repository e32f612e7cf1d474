-- What a transaction has still to put back, and the blocks that it takes.
use Rattle.std.proofs.Common.{◌≡◌, ◌⊎◌, ◌≤◌, ◌<◌, ◌+◌, ◌-◌, ◌*◌, ◌++◌, ◌==◌, ℕ, suc, Bool, true, false, cond, leb, List, [], ◌∷◌, length, inl, inr, refl, sym, ap, ◌∙◌, arith, append-nil, true≢false}
use Rattle.std.specs.Prelude.{min, reverse}
use Rattle.std.proofs.Math.Nat.{min-eq_left, min-eq_right, min-le_left, min-le_right}
use Rattle.std.proofs.lemmas.Bool.{cases_lt, eqb-true, le-leb, leb-true}
use Rattle.std.proofs.lemmas.List.{length-append, reverse-append}
use Rattle.btree_descent.specs.image_model.Entries.{Entry}
use Rattle.btree_descent.specs.log_record.declared.record.Record.{Record}
use Rattle.btree_descent.specs.log_record.Spelling.{Fits, record_text}
use Rattle.btree_descent.proofs.log_record.SizeLemmas.{size_range, text_size}
use Rattle.engine_calls.specs.log_block.Block.{records_text}
use Rattle.engine_calls.specs.worker_log.Calls.{After, HasRoom, flushed_log}
use Rattle.engine_calls.specs.worker_log.Logs.{Log, limit, used}
use Rattle.session_state.specs.Undo.{HasHand, HasRoomToStage, HasRoomToUndo, filled, kept_blocks, undo_of}
use Rattle.session_state.specs.declared.undo.Undone.{Undone}

-- as many as the worker's
pub many_undone : (cs : List Entry) → length (undo_of cs) ≡ length cs
many_undone [] = refl
many_undone (c ∷ cs) = let q = many_undone cs in omega arith

pub many_of : (cs : List Entry) (us : List Undone) → undo_of cs ≡ us → length cs ≡ length us
many_of cs us e = sym (many_undone cs) ∙ ap length e

-- where there are none the worker has none
pub none_left : (cs : List Entry) → undo_of cs ≡ [] → cs ≡ []
none_left [] e = refl
none_left (c ∷ cs) e = absurd (cc)

-- ## A list that is kept the oldest first

pub pushed : (xs : List Undone) (c : Undone) → reverse (xs ++ c ∷ []) ≡ c ∷ reverse xs
pushed xs c = reverse-append xs (c ∷ [])

-- ## Blocks

-- the bytes of one record
text_is : (r : Record) → length (records_text (r ∷ [])) ≡ length (record_text r)
text_is r = ap length (append-nil (record_text r))

-- a record has at most so many
pub text_short : (r : Record) → Fits r → length (records_text (r ∷ [])) ≤ 1031
text_short r f = let a = text_is r in let b = text_size r f in let c = (size_range r.body f.body).1 in omega arith

-- those that were written are used
written_used : (log : Log) → log.next - log.head ≤ used log
written_used log = go (log.count == 0)
  where
    go : (b : Bool) → log.next - log.head ≤ (log.next - log.head) + cond b 0 1
    go true = omega arith
    go false = omega arith

pub used_written : (log : Log) → used log ≤ (log.next - log.head) + 1
used_written log = go (log.count == 0)
  where
    go : (b : Bool) → (log.next - log.head) + cond b 0 1 ≤ (log.next - log.head) + 1
    go true = omega arith
    go false = omega arith

-- what a record makes of the log: it stands in the block in hand, or closes that, which had more than 2,000 bytes with it
pub record Fills (r : Record) (old new : Log) : Type 0 where
  pub blocks : new.blocks ≡ old.blocks
  pub rises : (filled new ≤ filled old + length (records_text (r ∷ []))) ⊎ (filled new + 100 ≤ filled old + 2 * length (records_text (r ∷ [])))

pub fills : (r : Record) (old new : Log) → After r old new → Fills r old new
fills r old new a = go (leb (length old.payload + length (records_text (r ∷ []))) 2000) refl
  where
    -- what each block in hand counts
    below : (n : ℕ) → min n 2000 ≤ n
    below n = min-le_left n 2000

    exact : (n : ℕ) → n ≤ 2000 → min n 2000 ≡ n
    exact n le = min-eq_left le

    go : (b : Bool) → leb (length old.payload + length (records_text (r ∷ []))) 2000 ≡ b → Fills r old new
    go true e =
        let le = leb-true (length old.payload + length (records_text (r ∷ []))) 2000 e in
        let is = a.room le in
        let n = ap (λ (l : Log). l.next) is in
        let h = ap (λ (l : Log). l.head) is in
        let p = ap (λ (l : Log). length l.payload) is ∙ length-append old.payload (records_text (r ∷ [])) in
        let was = exact (length old.payload) (omega arith) in
        let now = below (length new.payload) in
        record { blocks = ap (λ (l : Log). l.blocks) is; rises = inl (omega arith) }
    go false e =
        let off : length old.payload + length (records_text (r ∷ [])) ≤ 2000 → ⊥ = λ le. true≢false (sym (le-leb (length old.payload + length (records_text (r ∷ []))) 2000 le) ∙ e) in
        let is = a.full off in
        let n = ap (λ (l : Log). l.next) is in
        let h = ap (λ (l : Log). l.head) is in
        let p = ap (λ (l : Log). length l.payload) is in
        let big : 2000 < length old.payload + length (records_text (r ∷ [])) = big_of (length old.payload + length (records_text (r ∷ []))) off in
        let was = in_block (length old.payload) (length (records_text (r ∷ []))) big in
        let now = below (length new.payload) in
        record { blocks = ap (λ (l : Log). l.blocks) is; rises = inr (omega arith) }
      where
        big_of : (n : ℕ) → (n ≤ 2000 → ⊥) → 2000 < n
        big_of n off = omega arith

        in_block : (n m : ℕ) → 2000 < n + m → 2000 ≤ min n 2000 + m
        in_block n m lt = elim (cases_lt 2000 n) [ inl over ↦ (let k : min n 2000 ≡ 2000 = min-eq_right (omega arith) in omega arith) | inr within ↦ (let k = exact n within in omega arith) ]

-- what a block in hand counts at most
most_in_hand : (log : Log) → min (length log.payload) 2000 ≤ 2000
most_in_hand log = min-le_right (length log.payload) 2000

-- a flush closes a block at most
pub flush_fills : (log : Log) → filled (flushed_log log) ≤ filled log + 1900
flush_fills log = go (log.count == 0)
  where
    go : (b : Bool) → 1900 * ((log.next + cond b 0 1) - log.head) + 0 ≤ filled log + 1900
    go true = omega arith
    go false = omega arith

-- a second one closes none
pub flush_again : (log : Log) → filled (flushed_log (flushed_log log)) ≤ filled (flushed_log log)
flush_again log = omega arith

-- where blocks for changes are left, it is filled so far
pub written_most : (log : Log) → used log < limit log → filled log + 30_300 ≤ 1900 * log.blocks
written_most log free = let a = written_used log in let b = most_in_hand log in omega arith

-- ## Blocks that are used

-- a flush uses none
pub flush_used : (log : Log) → used (flushed_log log) ≤ used log
flush_used log = go (log.count == 0)
  where
    go : (b : Bool) → ((log.next + cond b 0 1) - log.head) + 0 ≤ (log.next - log.head) + cond b 0 1
    go true = omega arith
    go false = omega arith

pub flush_hand : (log : Log) → HasHand (flushed_log log)
flush_hand log none = refl

-- where the block in hand has bytes it is used
hand_used : (log : Log) → HasHand log → 0 < length log.payload → (log.next - log.head) + 1 ≤ used log
hand_used log hand some = go (log.count == 0) refl
  where
    go : (b : Bool) → (log.count == 0) ≡ b → (log.next - log.head) + 1 ≤ (log.next - log.head) + cond b 0 1
    go true e = let a = ap length (hand (eqb-true log.count 0 e)) in absurd (omega arith)
    go false e = omega arith

-- so the blocks that are used are filled so far
pub used_filled : (log : Log) → HasHand log → filled log ≤ 1900 * used log + 100
used_filled log hand = elim (cases_lt 0 (length log.payload)) [
  | inl some ↦ (let a = hand_used log hand some in let b = most_in_hand log in omega arith)
  | inr none ↦ (let a = written_used log in let b = min-le_left (length log.payload) 2000 in omega arith)
]

-- behind a record there is one in the block in hand
pub hand_after : (r : Record) (old new : Log) → After r old new → HasHand new
hand_after r old new a = elim (cases_lt 2000 (length old.payload + length (records_text (r ∷ [])))) [
  | inl over ↦ (let c = ap (λ (l : Log). l.count) (a.full (λ (fits : HasRoom old r). absurd (omega arith))) in λ none. absurd (omega arith))
  | inr fits ↦ (let c = ap (λ (l : Log). l.count) (a.room fits) in λ none. absurd (omega arith))
]

-- and it uses one block more at most
record Uses (old new : Log) : Type 0 where
  blocks : new.blocks ≡ old.blocks
  rises : used new ≤ suc (used old)

uses : (r : Record) (old new : Log) → length (records_text (r ∷ [])) ≤ 1031 → After r old new → HasHand old → Uses old new
uses r old new short a hand = elim (cases_lt 2000 (length old.payload + length (records_text (r ∷ [])))) [ inl over ↦ closed over | inr fits ↦ within fits ]
  where
    within : length old.payload + length (records_text (r ∷ [])) ≤ 2000 → Uses old new
    within fits =
        let is = a.room fits in
        let n = ap (λ (l : Log). l.next) is in
        let h = ap (λ (l : Log). l.head) is in
        let w = written_used old in
        let u = used_written new in
        record { blocks = ap (λ (l : Log). l.blocks) is; rises = omega arith }

    closed : 2000 < length old.payload + length (records_text (r ∷ [])) → Uses old new
    closed over =
        let is = a.full (λ (fits : HasRoom old r). absurd (omega arith)) in
        let n = ap (λ (l : Log). l.next) is in
        let h = ap (λ (l : Log). l.head) is in
        let w = hand_used old hand (omega arith) in
        let u = used_written new in
        record { blocks = ap (λ (l : Log). l.blocks) is; rises = omega arith }

-- ## Room

-- where blocks for changes are left, so many records of any size may be staged
pub room_to_stage : (log : Log) (many : ℕ) → used log < limit log → many ≤ 10 → HasRoomToStage log many
room_to_stage log many free few = omega arith

-- one fewer behind each
pub room_after : (r : Record) (old new : Log) (many : ℕ) → length (records_text (r ∷ [])) ≤ 1031 → After r old new → HasHand old → HasRoomToStage old (suc many) → HasRoomToStage new many
room_after r old new many short a hand room = let u = uses r old new short a hand in let b = u.blocks in let c = u.rises in omega arith

-- there is a block for an end
pub room_to_end : (log : Log) (many : ℕ) → HasRoomToStage log many → used log + 1 ≤ log.blocks
room_to_end log many room = omega arith

-- the blocks that are kept are left
pub room_kept : (log : Log) (many : ℕ) → HasRoomToStage log many → used log + kept_blocks ≤ log.blocks
room_kept log many room = omega arith

-- with these all changes may be put back
pub room_to_undo : (log : Log) (some : ℕ) → HasHand log → used log + kept_blocks ≤ log.blocks → some ≤ 64 → HasRoomToUndo log some
room_to_undo log some hand kept few = let a = used_filled log hand in omega arith

-- also where the log is flushed before
pub room_to_flush : (log : Log) (some : ℕ) → HasHand log → used log + kept_blocks ≤ log.blocks → some ≤ 64 → HasRoomToUndo (flushed_log log) some
room_to_flush log some hand kept few = let a = used_filled log hand in let b = flush_fills log in omega arith

-- and behind a put-back one fewer, and an end
pub room_behind : (r : Record) (old new : Log) (many : ℕ) → length (records_text (r ∷ [])) ≤ 64 → After r old new → HasRoomToUndo old (suc many) → HasRoomToUndo new many × (used new + 1 ≤ new.blocks)
room_behind r old new many short a room =
    let f = fills r old new a in
    let b = f.blocks in
    let s : filled new ≤ filled old + 64 = elim f.rises [ inl within ↦ omega arith | inr over ↦ omega arith ] in
    let u = used_written new in
    (omega arith, omega arith)
