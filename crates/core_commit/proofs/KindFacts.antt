-- What each kind of entry is, and is not.
use Rattle.std.proofs.Common.{◌≡◌, ◌&&◌, ◌==◌, inl, inr, true, false, refl, sym, true≢false}
use Rattle.core_state.specs.image_model.Entries.{Kind, Entry, is_call, is_write, is_end, is_record}
use Rattle.core_state.specs.Steps.{claims}
use Rattle.std.proofs.lemmas.Bool.{or_left, or_cases, and_parts}
use Rattle.core_state.specs.image_model.Entries.Kind.{Change, Put_back, Split, Lift, Join, Drop, Purge, Read, Commit, Abort}

pub write_is_record : (k : Kind) → is_write k ≡ true → is_record k ≡ true
write_is_record Read h = absurd (true≢false (sym h))
write_is_record _ h = refl

pub end_is_record : (k : Kind) → is_end k ≡ true → is_record k ≡ true
end_is_record Read h = absurd (true≢false (sym h))
end_is_record _ h = refl

pub write_is_no_end : (k : Kind) → is_write k ≡ true → is_end k ≡ false
write_is_no_end Commit h = absurd (true≢false (sym h))
write_is_no_end Abort h = absurd (true≢false (sym h))
write_is_no_end _ h = refl

pub write_is_call : (k : Kind) → is_write k ≡ true → is_call k ≡ true
write_is_call Change h = refl
write_is_call Put_back h = refl
write_is_call Split h = absurd (true≢false (sym h))
write_is_call Lift h = absurd (true≢false (sym h))
write_is_call Drop h = absurd (true≢false (sym h))
write_is_call Purge h = absurd (true≢false (sym h))
write_is_call Join h = absurd (true≢false (sym h))
write_is_call Read h = absurd (true≢false (sym h))
write_is_call Commit h = absurd (true≢false (sym h))
write_is_call Abort h = absurd (true≢false (sym h))

pub call_is_no_end : (k : Kind) → is_call k ≡ true → is_end k ≡ false
call_is_no_end Commit h = absurd (true≢false (sym h))
call_is_no_end Abort h = absurd (true≢false (sym h))
call_is_no_end _ h = refl

-- a write is of a row that is held alone
pub write_claims : (r : Entry) → is_write r.kind ≡ true → claims r ≡ true
write_claims r h = or_left (is_write r.kind) (is_call r.kind && (r.need == 1)) h

pub claims_call : (r : Entry) → claims r ≡ true → is_call r.kind ≡ true
claims_call r h = elim (or_cases (is_write r.kind) (is_call r.kind && (r.need == 1)) h) [ inl w ↦ write_is_call r.kind w | inr c ↦ (and_parts (is_call r.kind) (r.need == 1) c).0 ]
