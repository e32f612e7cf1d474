-- What calls do to what a crash may leave of an area.
use Rattle.std.specs.Prelude.{Vec}
use Rattle.std.specs.declared.alloc.Global.{Global}
use Rattle.std.proofs.Common.{if◌then◌else◌, ◌≡◌, ◌⊎◌, inl, inr, ⊎_elim, ℕ, ◌+◌, ◌-◌, ◌≤◌, ◌<◌, Bool, true, false, List, [], ◌∷◌, ◌++◌, length, get_or, take, drop, replicate, refl, sym, ◌∙◌, ap, subst, arith, length-append, length-drop}
use Rattle.std.proofs.lemmas.List.{length-take, length-replicate, get_or-take, get_or-drop, get_or_append_left, get_or-append_right}
use Rattle.lean_disk.specs.Area.{Area, Leaves, put_over, torn, written, synced}
use Rattle.lean_disk.specs.Replay.{step, replay}
use Rattle.lean_disk.specs.declared.area_log.Call.{Call}
use Rattle.lean_disk.specs.declared.area_log.What.{What}
use Rattle.lean_disk.specs.declared.area_log.What.TheVariants.{Looked, Wrote, Synced}

pub length-put_over : (at : ℕ) (bytes old : List ℕ) → length old ≤ length (put_over at bytes old)
length-put_over at bytes old = omega (arith, length-append {A = ℕ}, length-take {A = ℕ}, length-replicate {A = ℕ}, length-drop {A = ℕ})

-- outside the range the bytes stand
pub put_over_apart : (at : ℕ) (bytes old : List ℕ) (j : ℕ) → j < length old → (j < at) ⊎ (at + length bytes ≤ j) → get_or (put_over at bytes old) j 0 ≡ get_or old j 0
put_over_apart at bytes old j lt (inl before) =
    let prefix : List ℕ = take at old ++ replicate (at - length old) 0 in
    let back : List ℕ = drop (at + length bytes) old in
    let in_take : j < length (take at old) = omega (arith, length-take {A = ℕ}) in
    let in_prefix : j < length prefix = omega (arith, length-append {A = ℕ}) in
    let in_most : j < length (prefix ++ bytes) = omega (arith, length-append {A = ℕ}) in
    get_or_append_left (prefix ++ bytes) back 0 j in_most ∙ get_or_append_left prefix bytes 0 j in_prefix ∙ get_or_append_left (take at old) (replicate (at - length old) 0) 0 j in_take ∙ get_or-take at old j 0 before
put_over_apart at bytes old j lt (inr after) =
    let prefix : List ℕ = take at old ++ replicate (at - length old) 0 in
    let back : List ℕ = drop (at + length bytes) old in
    let size : length (prefix ++ bytes) ≡ at + length bytes = omega (arith, length-append {A = ℕ}, length-take {A = ℕ}, length-replicate {A = ℕ}) in
    get_or-append_right (prefix ++ bytes) back (at + length bytes) j 0 size after ∙ get_or-drop (at + length bytes) old (j - (at + length bytes)) 0
    ∙ ap (λ (i : ℕ). get_or old i 0) (let e : at + length bytes + (j - (at + length bytes)) ≡ j = omega arith in e)

-- a write: all that a crash may leave of the new bytes is the old bytes with any in the range
pub written_crash : (at : ℕ) (bytes : List ℕ) (x : Area) → x.end ≤ length x.bytes → (c : List ℕ) → Leaves (written at bytes x) c → Leaves (torn at bytes x) c
written_crash at bytes x fits c left = record {
  clean = λ e. cc;
  no_shorter = left.no_shorter;
  same = λ j lt apart. left.same j lt apart ∙ put_over_apart at bytes x.bytes j (omega (arith, fits, lt)) apart.0;
}

pub torn_more : (at : ℕ) (bytes : List ℕ) (x : Area) (c : List ℕ) → Leaves x c → Leaves (torn at bytes x) c
torn_more at bytes x c left = record { clean = λ e. cc; no_shorter = left.no_shorter; same = λ j lt apart. left.same j lt apart.1 }

pub reads_so : (x : Area) → x.end ≤ length x.bytes → Leaves x x.bytes
reads_so x fits = record { clean = λ e. refl; no_shorter = fits; same = λ j lt apart. refl }

pub synced_crash : (x : Area) → x.end ≤ length x.bytes → (c : List ℕ) → Leaves (synced x) c → Leaves x c
synced_crash x fits c left = subst (λ (d : List ℕ). Leaves x d) (sym (left.clean refl)) (reads_so x fits)

pub step_fits : (x : Area) (what : What) → x.end ≤ length x.bytes → (step x what).end ≤ length (step x what).bytes
step_fits x Looked fits = fits
step_fits x (Wrote at bytes true) fits = omega (arith, fits, length-put_over at bytes.items x.bytes)
step_fits x (Wrote at bytes false) fits = fits
step_fits x (Synced true) fits = omega arith
step_fits x (Synced false) fits = fits

pub replay_fits : (x : Area) (calls : List Call) → x.end ≤ length x.bytes → (replay x calls).end ≤ length (replay x calls).bytes
replay_fits x [] fits = fits
replay_fits x (c ∷ calls) fits = replay_fits (step x c.what) calls (step_fits x c.what fits)

-- any prefix of the bytes, or others in their place, may be left of a write
pub chosen_torn : (at : ℕ) (bytes chosen : List ℕ) (x : Area) (c : List ℕ) → length chosen ≤ length bytes → x.end ≤ length x.bytes → Leaves x c → Leaves (torn at bytes x) (put_over at chosen c)
chosen_torn at bytes chosen x c le fits left = record {
  clean = λ e. cc;
  no_shorter = omega (arith, left.no_shorter, length-put_over at chosen c);
  same = λ j lt apart. put_over_apart at chosen c j (omega (arith, lt, left.no_shorter)) (⊎_elim (λ l. inl l) (λ r. inr (omega (arith, r, le))) apart.0) ∙ left.same j lt apart.1;
}

pub chosen_written : (at : ℕ) (bytes chosen : List ℕ) (x : Area) (c : List ℕ) → length chosen ≤ length bytes → x.end ≤ length x.bytes → Leaves x c → Leaves (written at bytes x) (put_over at chosen c)
chosen_written at bytes chosen x c le fits left = record {
  clean = λ e. cc;
  no_shorter = omega (arith, left.no_shorter, length-put_over at chosen c);
  same = λ j lt apart. put_over_apart at chosen c j (omega (arith, lt, left.no_shorter)) (⊎_elim (λ l. inl l) (λ r. inr (omega (arith, r, le))) apart.0) ∙ left.same j lt apart.1
      ∙ sym (put_over_apart at bytes x.bytes j (omega (arith, lt, fits)) apart.0);
}

pub synced_left : (x : Area) → Leaves (synced x) x.bytes
synced_left x = record { clean = λ e. refl; no_shorter = omega arith; same = λ j lt apart. refl }

-- a write, on what a read gives and on what a crash leaves
pub call_wrote : (what : What) (at : ℕ) (b : Vec ℕ Global) (done flag : Bool) → what ≡ Wrote at b done → done ≡ flag
    → (part left next : List ℕ) → length part ≤ length b.items → next ≡ put_over at part left
    → (read after : List ℕ) → after ≡ (if flag then put_over at b.items read else read)
    → (x : Area) → x.end ≤ length x.bytes → x.bytes ≡ read → Leaves x left → ((step x what).bytes ≡ after) × Leaves (step x what) next
call_wrote what at b done true is was_done part left next le next_is read after after_is x fits same leaves =
    let what_is : what ≡ Wrote at b true = is ∙ ap (Wrote at b) was_done in
    let s_is : step x what ≡ written at b.items x = ap (step x) what_is in (
      ap (λ (y : Area). y.bytes) s_is ∙ ap (put_over at b.items) same ∙ sym after_is,
      subst (λ (y : Area). Leaves y next) (sym s_is) (subst (Leaves (written at b.items x)) (sym next_is) (chosen_written at b.items part x left le fits leaves)),
    )
call_wrote what at b done false is not_done part left next le next_is read after after_is x fits same leaves =
    let what_is : what ≡ Wrote at b false = is ∙ ap (Wrote at b) not_done in
    let s_is : step x what ≡ torn at b.items x = ap (step x) what_is in (
      ap (λ (y : Area). y.bytes) s_is ∙ same ∙ sym after_is,
      subst (λ (y : Area). Leaves y next) (sym s_is) (subst (Leaves (torn at b.items x)) (sym next_is) (chosen_torn at b.items part x left le fits leaves)),
    )
