-- Lines that are put: what the sink holds, and the notes of the disk.
use Rattle.std.proofs.Common.{◌≡◌, ◌++◌, ◌∷◌, [], ◌≤◌, ◌+◌, ◌-◌, ◌^◌, min, ℕ, List, Option, Some, None, length, take, refl, sym, ap, ◌∙◌, subst, arith}
use Rattle.std.proofs.lemmas.List.{append-nil, length-append}
use mathlib.Core.List.{append_assoc}
use Rattle.lean_edge.specs.Outside.{Held, Puts}
use Rattle.lean_edge.specs.declared.sink.Put.TheVariants.{Done, Failed}
use Rattle.lean_disk.specs.Area.{Area, Leaves}
use Rattle.lean_disk.specs.Calls.{Noted}
use Rattle.lean_disk.specs.Moments.{LeavesOnly}
use Rattle.lean_disk.specs.Story.{IsLawful, Story}
use Rattle.lean_disk.proofs.MomentLemmas.{started, goes_on_by, then, weaker}
use Rattle.map_model.specs.Outputs.{Reply}
use Rattle.script_lang.specs.Replies.{Fits, reply_line}
use Rattle.transcripts.specs.Told.{text_of, EachReplyFits}
use Rattle.transcripts.proofs.AskedLemmas.{text_append}
use Rattle.script_run.specs.Runs.{Holds, IsWhole, PrintsTo}
use Rattle.script_run.specs.Inside.{OnlyNotes, PutLeaves, Says}
use Rattle.script_run.specs.declared.stop.Stop.{Stop}
use Rattle.script_run.specs.declared.stop.Stop.TheVariants.{End, Refused, ReadFault, WriteFault, DiskFault, Damaged}

-- ## Notes

no_notes : (s : Story) → OnlyNotes [] s s
no_notes s = record { later = omega arith; counts = refl; tells = λ a. refl; areas = refl; area = λ a. refl; notes = λ counts fits. omega arith }

no_puts : (s : Story) → IsLawful s → LeavesOnly s s (PutLeaves [] s)
no_puts s law = started s (PutLeaves [] s) law (λ c now. record { first = []; later = []; split = refl; notes = λ counts fits. let n : c.notes ≡ s.notes = now.notes in omega arith; writes = now.writes; leaves = now.leaves })

note_more : (told : List Reply) (r : Reply) (old mid new : Story) → OnlyNotes told old mid → Noted mid new → OnlyNotes (r ∷ told) old new
note_more told r old mid new o n = record {
  later = let a : old.moment ≤ mid.moment = o.later in let b : mid.moment ≤ new.moment = n.later in omega arith;
  counts = n.counts ∙ o.counts;
  tells = λ a. n.tells a ∙ o.tells a;
  areas = n.areas ∙ o.areas;
  area = λ a. n.area a ∙ o.area a;
  notes = λ counts fits.
      let more : new.notes ≡ min (mid.notes + 1) (2 ^ 64 - 1) = n.notes (o.counts ∙ counts) in
      let so_far : mid.notes ≡ old.notes + length told = o.notes counts (omega arith) in omega arith;
}

put_more : (told : List Reply) (r : Reply) (old mid new : Story) → OnlyNotes told old mid → LeavesOnly old mid (PutLeaves told old) → Noted mid new → LeavesOnly old new (PutLeaves (r ∷ told) old)
put_more told r old mid new o run n =
    let all : OnlyNotes (r ∷ told) old new = note_more told r old mid new o n in
    goes_on_by old mid new (PutLeaves (r ∷ told) old)
    (weaker old mid (PutLeaves told old) (PutLeaves (r ∷ told) old) (λ c l. record {
      first = l.first;
      later = r ∷ l.later;
      split = ap (λ (rs : List Reply). r ∷ rs) l.split;
      notes = l.notes;
      writes = l.writes;
      leaves = l.leaves;
    }) run)
    n.nothing_else
    (λ c now. record {
      first = r ∷ told;
      later = [];
      split = refl;
      notes = λ counts fits. now.notes ∙ all.notes counts fits;
      writes = λ a tells. now.writes a (all.tells a ∙ tells) ∙ ap (λ (x : Area). x.writes) (all.area a);
      leaves = λ a tells. subst (λ (x : Area). Leaves x (c.image a)) (all.area a) (now.leaves a (all.tells a ∙ tells));
    })

notes_then : (first second : List Reply) (s0 s1 s2 : Story) → OnlyNotes first s0 s1 → OnlyNotes second s1 s2 → OnlyNotes (second ++ first) s0 s2
notes_then first second s0 s1 s2 p q = record {
  later = let l : s0.moment ≤ s1.moment = p.later in let k : s1.moment ≤ s2.moment = q.later in omega arith;
  counts = q.counts ∙ p.counts;
  tells = λ a. q.tells a ∙ p.tells a;
  areas = q.areas ∙ p.areas;
  area = λ a. q.area a ∙ p.area a;
  notes = λ counts fits.
      let size : length (second ++ first) ≡ length second + length first = length-append second first in
      let one : s1.notes ≡ s0.notes + length first = p.notes counts (omega arith) in
      let two : s2.notes ≡ s1.notes + length second = q.notes (p.counts ∙ counts) (omega arith) in omega arith;
}

puts_then : (first second : List Reply) (s0 s1 s2 : Story) → OnlyNotes first s0 s1 → LeavesOnly s0 s1 (PutLeaves first s0) → LeavesOnly s1 s2 (PutLeaves second s1) → LeavesOnly s0 s2 (PutLeaves (second ++ first) s0)
puts_then first second s0 s1 s2 o run more =
    then s0 s1 s2 (PutLeaves (second ++ first) s0)
    (weaker s0 s1 (PutLeaves first s0) (PutLeaves (second ++ first) s0) (λ c l. record {
      first = l.first;
      later = second ++ l.later;
      split = append_assoc second l.later l.first ∙ ap (λ (rs : List Reply). second ++ rs) l.split;
      notes = l.notes;
      writes = l.writes;
      leaves = l.leaves;
    }) run)
    (weaker s1 s2 (PutLeaves second s1) (PutLeaves (second ++ first) s0) (λ c l. record {
      first = l.first ++ first;
      later = l.later;
      split = sym (append_assoc l.later l.first first) ∙ ap (λ (rs : List Reply). rs ++ first) l.split;
      notes = λ counts fits.
          let size : length (l.first ++ first) ≡ length l.first + length first = length-append l.first first in
          let one : s1.notes ≡ s0.notes + length first = o.notes counts (omega arith) in
          let two : c.notes ≡ s1.notes + length l.first = l.notes (o.counts ∙ counts) (omega arith) in omega arith;
      writes = λ a tells. l.writes a (o.tells a ∙ tells) ∙ ap (λ (x : Area). x.writes) (o.area a);
      leaves = λ a tells. subst (λ (x : Area). Leaves x (c.image a)) (o.area a) (l.leaves a (o.tells a ∙ tells));
    }) more)

-- ## What the sink holds

pub holds_none : (h : Held) → Holds [] [] h h
holds_none h = record { same = refl; bytes = λ tells. sym (append-nil h.bytes) }

-- a whole line more
holds_more : (told : List Reply) (r : Reply) (h0 h1 h2 : Held) → Holds told [] h0 h1 → Puts (reply_line r) Done h1 h2 → Holds (r ∷ told) [] h0 h2
holds_more told r h0 h1 h2 so_far p = record {
  same = p.same ∙ so_far.same;
  bytes = λ tells.
      p.done refl (so_far.same ∙ tells) ∙ ap (λ (t : List ℕ). t ++ reply_line r) (so_far.bytes tells ∙ ap (λ (t : List ℕ). h0.bytes ++ t) (append-nil (text_of told)))
      ∙ append_assoc h0.bytes (text_of told) (reply_line r) ∙ ap (λ (t : List ℕ). h0.bytes ++ t) (sym (append-nil (text_of told ++ reply_line r)));
}

-- a line that failed
holds_prefix : (told : List Reply) (r : Reply) (h0 h1 h2 : Held) → Holds told [] h0 h1 → (p : Puts (reply_line r) Failed h1 h2) → Holds told (take (p.failed refl).0 (reply_line r)) h0 h2
holds_prefix told r h0 h1 h2 so_far p =
    let prefix : List ℕ = take (p.failed refl).0 (reply_line r) in
    record {
      same = p.same ∙ so_far.same;
      bytes = λ tells.
          (p.failed refl).1 (so_far.same ∙ tells) ∙ ap (λ (t : List ℕ). t ++ prefix) (so_far.bytes tells ∙ ap (λ (t : List ℕ). h0.bytes ++ t) (append-nil (text_of told)))
          ∙ append_assoc h0.bytes (text_of told) prefix;
    }

-- more lines
pub holds_then : (first second : List Reply) (tail : List ℕ) (h0 h1 h2 : Held) → Holds first [] h0 h1 → Holds second tail h1 h2 → Holds (second ++ first) tail h0 h2
holds_then first second tail h0 h1 h2 p q = record {
  same = q.same ∙ p.same;
  bytes = λ tells.
      q.bytes (p.same ∙ tells)
      ∙ ap (λ (t : List ℕ). t ++ (text_of second ++ tail)) (p.bytes tells ∙ ap (λ (t : List ℕ). h0.bytes ++ t) (append-nil (text_of first)))
      ∙ append_assoc h0.bytes (text_of first) (text_of second ++ tail)
      ∙ ap (λ (t : List ℕ). h0.bytes ++ t) (sym (append_assoc (text_of first) (text_of second) tail) ∙ ap (λ (t : List ℕ). t ++ tail) (sym (text_append second first)));
}

pub fits_then : (second first : List Reply) → EachReplyFits first → EachReplyFits second → EachReplyFits (second ++ first)
fits_then [] first fit more = fit
fits_then (r ∷ second) first fit more = (fits_then second first fit more.0, more.1)

-- what was put behind earlier replies
pub prints_more : (stop : Option Stop) (all told earlier : List Reply) (tail : List ℕ) → PrintsTo stop all told tail → PrintsTo stop (all ++ earlier) (told ++ earlier) tail
prints_more stop all told earlier tail is = go stop is
  where
    whole : IsWhole all told tail → IsWhole (all ++ earlier) (told ++ earlier) tail
    whole w = record { told_is = ap (λ (rs : List Reply). rs ++ earlier) w.told_is; none = w.none }

    go : (stop : Option Stop) → PrintsTo stop all told tail → PrintsTo stop (all ++ earlier) (told ++ earlier) tail
    go None w = whole w
    go (Some End) w = whole w
    go (Some (Refused line)) w = whole w
    go (Some ReadFault) w = whole w
    go (Some WriteFault) cut = record {
      later = cut.later;
      next = cut.next;
      split = sym (append_assoc cut.later (cut.next ∷ told) earlier) ∙ ap (λ (rs : List Reply). rs ++ earlier) cut.split;
      fits = cut.fits;
      count = cut.count;
      prefix = cut.prefix;
    }
    go (Some DiskFault) w = whole w
    go (Some (Damaged place)) w = whole w

-- ## Some replies, one after another

pub says_none : (h : Held) (s : Story) → IsLawful s → Says [] None h h s s
says_none h s law = record { of_putting = tt; told = []; tail = []; fit = tt; prints = record { told_is = refl; none = refl }; holds = holds_none h; notes = no_notes s; any_moment = no_puts s law }

module _ (all : List Reply) (r : Reply) (h0 h1 h2 : Held) (s0 s1 s2 : Story) (a : Says all None h0 h1 s0 s1) (fits : Fits r) where
  whole : Holds a.told [] h0 h1
  whole = subst (λ (t : List ℕ). Holds a.told t h0 h1) a.prints.none a.holds

  -- one more
  pub says_more : Puts (reply_line r) Done h1 h2 → Noted s1 s2 → Says (r ∷ all) None h0 h2 s0 s2
  says_more p n = record {
    of_putting = tt;
    told = r ∷ a.told;
    tail = [];
    fit = (a.fit, fits);
    prints = record { told_is = ap (λ (rs : List Reply). r ∷ rs) a.prints.told_is; none = refl };
    holds = holds_more a.told r h0 h1 h2 whole p;
    notes = note_more a.told r s0 s1 s2 a.notes n;
    any_moment = put_more a.told r s0 s1 s2 a.notes a.any_moment n;
  }

  -- one more, which failed
  pub says_failed : (later : List Reply) → Puts (reply_line r) Failed h1 h2 → s2 ≡ s1 → Says (later ++ r ∷ all) (Some WriteFault) h0 h2 s0 s2
  says_failed later p same = subst (λ (s : Story). Says (later ++ r ∷ all) (Some WriteFault) h0 h2 s0 s) (sym same) (record {
    of_putting = refl;
    told = a.told;
    tail = take (p.failed refl).0 (reply_line r);
    fit = a.fit;
    prints = record { later = later; next = r; split = ap (λ (rs : List Reply). later ++ r ∷ rs) a.prints.told_is; fits = fits; count = (p.failed refl).0; prefix = refl };
    holds = holds_prefix a.told r h0 h1 h2 whole p;
    notes = a.notes;
    any_moment = a.any_moment;
  })

-- more of them
pub says_then : (first second : List Reply) (stop : Option Stop) (h0 h1 h2 : Held) (s0 s1 s2 : Story) → Says first None h0 h1 s0 s1 → Says second stop h1 h2 s1 s2 → Says (second ++ first) stop h0 h2 s0 s2
says_then first second stop h0 h1 h2 s0 s1 s2 a b = record {
  of_putting = b.of_putting;
  told = b.told ++ a.told;
  tail = b.tail;
  fit = fits_then b.told a.told a.fit b.fit;
  prints = subst (λ (rs : List Reply). PrintsTo stop (second ++ rs) (b.told ++ a.told) b.tail) a.prints.told_is (prints_more stop second b.told a.told b.tail b.prints);
  holds = holds_then a.told b.told b.tail h0 h1 h2 (subst (λ (t : List ℕ). Holds a.told t h0 h1) a.prints.none a.holds) b.holds;
  notes = notes_then a.told b.told s0 s1 s2 a.notes b.notes;
  any_moment = puts_then a.told b.told s0 s1 s2 a.notes a.any_moment b.any_moment;
}
