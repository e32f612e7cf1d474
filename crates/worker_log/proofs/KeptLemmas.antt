-- What an account says after each step: a block is written, the ring is synced, a record is put into the block in hand.
use Rattle.std.proofs.Common.{◌≡◌, ◌⊎◌, inl, inr, ⊎_elim, ℕ, ◌+◌, ◌*◌, ◌%◌, ◌^◌, ◌≤◌, ◌<◌, ◌==◌, if◌then◌else◌, Bool, List, [], ◌∷◌, ◌++◌, length, drop, refl, sym, ◌∙◌, ap, subst, arith, append_assoc, length-append}
use Rattle.std.proofs.lemmas.Bool.{cases_eq, cases_lt, cond-false, eq-eqb, ne_eqb}
use Rattle.std.proofs.lemmas.List.{append-nil, length-drop, nil_from_length, take-append-le, take_all, drop_all}
use Rattle.std.proofs.lemmas.List.Concat.{flat_map-append}
use Rattle.map_model.proofs.ListLemmas.{has_cases, has_left, has_right}
use Rattle.map_model.specs.Lists.{Has}
use Rattle.disk_image.specs.image_model.Fair.{piece, IsFair, IsWritten}
use Rattle.disk_image.proofs.image_model.FairLemmas.{among_more, exactly}
use Rattle.lean_disk.specs.Area.{Area, Write, put_over, written as over, synced as cleaned}
use Rattle.disk_image.specs.log_record.Spelling.{Fits, record_text}
use Rattle.disk_image.specs.log_record.declared.record.Record.{Record}
use Rattle.disk_image.specs.log_block.Block.{IsSealed, block_text, records_text}
use Rattle.disk_image.specs.Runs.{Block, block_at}
use Rattle.disk_image.proofs.BlockInLemmas.{every_belongs}
use Rattle.disk_image.proofs.RunLemmas.{belongs-text}
use Rattle.worker_log.specs.Inside.{IsSized, closed_log}
use Rattle.worker_log.specs.Logs.{Log}
use Rattle.worker_log.specs.Accounts.{Account, joined, spelled, spelled_from, with_current}
use Rattle.worker_log.specs.Kept.{AllFitBlocks, EndsAt, FitsBlock, HoldsBlocks, IsBlockWrite, IsFresh, fresh_account, IsKept, IsPassed, RiseFrom, closed, end_behind, end_of, ends_of, flushed, staged}
use Rattle.worker_log.specs.Calls.{HasRoom}
use Rattle.worker_log.proofs.ListLemmas.{block_of, fit-push, fit_blocks-drop, fit_blocks-with, has_first, joined-drop-with, joined-dropped, joined-with, none_left, rise-has, rise-push, rise-to, spelled-last, spelled-more, spelled-number, spelled-push, spelled-take, take-with, with_none, with_some}
use Rattle.worker_log.proofs.RingLemmas.{rem_apart, rem_next, write_here, write_other, write_size}
use Rattle.worker_log.proofs.CrashLemmas.{written_within}

-- ## The area

module _ (g s n h : ℕ) (first : List ℕ) (older : List Write) (ws : List (List Record)) (done : ℕ) (area : Area) (fg : g < 2 ^ 64) (fs : s < 2 ^ 64) (fh : h + n ≤ 2 ^ 64)
    (le : done ≤ length ws) (few : length ws ≤ n) (fit : AllFitBlocks ws) (holds : HoldsBlocks g s n h first older ws done area) where
  -- one block more is written
  module _ (rs : List Record) (is : FitsBlock rs) (room : length ws < n) where
    abbrev next : ℕ
    next = h + length ws

    abbrev p : ℕ
    p = next % n

    abbrev bytes : List ℕ
    bytes = spelled g s next rs

    abbrev wrote : Write
    wrote = (2048 * p, bytes)

    abbrev after : List ℕ
    after = put_over (2048 * p) bytes area.bytes

    whole : length bytes ≡ 2048
    whole = ((every_belongs g s next bytes).0 (belongs-text g s next (length rs) (records_text rs) fg fs (omega (arith, room, fh)) is.room)).sealed.whole

    here : piece 2048 p after ≡ bytes
    here = write_here p bytes area.bytes whole holds.reach

    other : (r : ℕ) → (r ≡ p → ⊥) → piece 2048 r after ≡ piece 2048 r area.bytes
    other r ne = write_other p bytes area.bytes whole holds.reach r ne

    fair_after : IsFair 2048 IsSealed first (wrote ∷ holds.since) after
    fair_after r sealed = ⊎_elim
        (λ (e : r ≡ p).
        let there : piece 2048 r after ≡ bytes = ap (λ (k : ℕ). piece 2048 k after) e ∙ here in
        let same : ◌≡◌ {A = Write} (2048 * r, piece 2048 r after) wrote = λ i. (2048 * e i, there i) in
        inr (exactly 2048 r (piece 2048 r after) first (wrote ∷ holds.since) (omega arith) (ap (λ (b : List ℕ). length b) there ∙ whole) (inl same)))
        (λ (ne : r ≡ p → ⊥).
        let same : piece 2048 r after ≡ piece 2048 r area.bytes = other r ne in
        ⊎_elim (λ old. inl (same ∙ old)) (λ has. inr (among_more 2048 r (piece 2048 r after) first wrote holds.since (subst (λ (b : List ℕ). IsWritten 2048 r b first holds.since) (sym same) has))) (holds.fair r (subst IsSealed same sealed)))
        (cases_eq r p)

    size : length (ws ++ rs ∷ []) ≡ length ws + 1
    size = length-append ws (rs ∷ [])

    pub holds_written : HoldsBlocks g s n h first older (ws ++ rs ∷ []) done (over (2048 * p) bytes area)
    holds_written = record {
      since = wrote ∷ holds.since;
      writes = ap (λ (l : List Write). wrote ∷ l) holds.writes;
      blocks = λ w has. ⊎_elim
          (λ (e : w ≡ wrote). inl (record { block = block_of g s next rs; has = spelled-last g s h ws rs; at = e }))
          (λ old. ⊎_elim
          (λ (it : IsBlockWrite n (spelled_from g s h ws) w). inl (record { block = it.block; has = spelled-more g s h ws (rs ∷ []) it.block it.has; at = it.at }))
          (λ (passed : IsPassed g s n h w). inr passed)
          (holds.blocks w old)) has;
      new = holds.new;
      fair = fair_after;
      reads = λ b has. ⊎_elim
          (λ old.
          let number = spelled-number g s h ws b old in
          let close : next < b.number + n = omega (arith, number.0, room) in
          other (b.number % n) (λ e. rem_apart n b.number next number.1 close e) ∙ holds.reads b old)
          (λ (e : b ≡ block_of g s next rs). subst (λ (x : Block). block_at n x.number after ≡ x.bytes) (sym e) here)
          (spelled-push g s h ws rs b has);
      late = record {
        late = λ range has. ⊎_elim
            (λ (e : range ≡ (2048 * p, length bytes)). (next, omega (arith, le), omega (arith, size), e ∙ ap (λ (k : ℕ). let r : ℕ × ℕ = (2048 * p, k) in r) whole))
            (λ old. let it = holds.late.late range old in (it.0, it.1, omega (arith, it.2, size), it.3)) has;
      };
      end = λ b has. holds.end b (subst (λ (l : List (List Record)). Has b (spelled_from g s h l)) (take-append-le done ws (rs ∷ []) le) has);
      reach =
          let at : h + length (ws ++ rs ∷ []) ≡ next + 1 = omega (arith, size) in
          let same : (h + length (ws ++ rs ∷ [])) % n ≡ (next + 1) % n = ap (λ (k : ℕ). k % n) at in
          let most : (next + 1) % n ≤ p + 1 = rem_next n next (omega (arith, room)) in
          omega (arith, same, most, write_size p bytes area.bytes whole holds.reach);
    }

  -- all is synced
  pub holds_synced : HoldsBlocks g s n h first older ws (length ws) (cleaned area)
  holds_synced = record {
    since = holds.since;
    writes = holds.writes;
    blocks = holds.blocks;
    new = holds.new;
    fair = holds.fair;
    reads = holds.reads;
    late = record { late = λ range has. absurd has };
    end = λ b has. written_within g s n h first older ws done area fg fs fh le few fit holds b (spelled-take g s (length ws) h ws b has);
    reach = holds.reach;
  }

-- ## The last numbers of blocks

ends-append : (a b : List (List Record)) → ends_of (a ++ b) ≡ ends_of a ++ ends_of b
ends-append [] b = refl
ends-append (rs ∷ a) b = ap (λ (l : List ℕ). end_of rs ∷ l) (ends-append a b)

end_behind-push : (n : ℕ) (rs : List Record) (r : Record) → end_behind n (rs ++ r ∷ []) ≡ r.gsn
end_behind-push n [] r = refl
end_behind-push n (s ∷ rs) r = end_behind-push s.gsn rs r

ends_at-push : (rs : List Record) (r : Record) → EndsAt (rs ++ r ∷ []) r.gsn
ends_at-push [] r = refl
ends_at-push (s ∷ rs) r = end_behind-push s.gsn rs r

ends_at-none : (rs : List Record) (n : ℕ) → ((r : Record) → Has r rs → ⊥) → EndsAt rs n
ends_at-none [] n none = tt
ends_at-none (r ∷ rs) n none = absurd (none r (inl refl))

ends_last : (rs : List Record) (n : ℕ) → EndsAt rs n → 0 < length rs → end_of rs ≡ n
ends_last [] n is some = absurd (omega arith)
ends_last (r ∷ rs) n is some = is

-- ## The account

pub count_some : (c : ℕ) → 0 < c → ◌≡◌ {A = ℕ} (if c == 0 then 0 else 1) 1
count_some c some = ap (λ (b : Bool). let n : ℕ = if b then 0 else 1 in n) (ne_eqb c 0 (λ e. omega arith))

pub count_none : (c : ℕ) → c ≡ 0 → ◌≡◌ {A = ℕ} (if c == 0 then 0 else 1) 0
count_none c none = ap (λ (b : Bool). let n : ℕ = if b then 0 else 1 in n) (eq-eqb c 0 none)

-- the log after a block was written
pub closed_is : (now log : Log) (more : List ℕ) → now ≡ log → 0 < log.count → more ≡ now.ends ++ now.last ∷ [] → record now { next = now.next + 1; payload = []; count = 0; ends = more } ≡ closed_log log
closed_is now log more same some pushed =
    let count : now.count ≡ log.count = ap (λ (l : Log). l.count) same in
    let next : now.next + 1 ≡ now.next + (if now.count == 0 then 0 else 1) = omega (arith, count_some now.count (omega (arith, some, count))) in
    let ends : more ≡ (if now.count == 0 then now.ends else now.ends ++ now.last ∷ []) = pushed ∙ sym (cond-false (now.count == 0) now.ends (now.ends ++ now.last ∷ []) (ne_eqb now.count 0 (λ e. omega (arith, some, count)))) in
    let closes : record now { next = now.next + 1; payload = []; count = 0; ends = more } ≡ closed_log now = λ i. record now { next = next i; payload = []; count = 0; ends = ends i } in
    closes ∙ ap closed_log same

module _ (x : Account) (log : Log) (area : Area) (sized : IsSized log) (kept : IsKept x log area) where
  log_fits : log.log < 2 ^ 64
  log_fits = omega (arith, sized.ranges.number.1)

  head_fits : log.head + log.blocks ≤ 2 ^ 64
  head_fits = omega (arith, sized.ranges.head, sized.ranges.some.1)

  -- the block in hand was written
  module _ (some : 0 < log.count) where
    abbrev all : List (List Record)
    all = with_current x.written x.current

    has_some : 0 < length x.current
    has_some = omega (arith, some, kept.count)

    one_more : length all ≡ length x.written + 1
    one_more = ap length (with_some x.written x.current has_some) ∙ length-append x.written (x.current ∷ [])

    place_left : length x.written < log.blocks
    place_left = omega (arith, sized.ranges.ring, count_some log.count some, kept.next)

    abbrev Held : List (List Record) → Area → Type 0
    Held l a = HoldsBlocks log.generation log.log log.blocks log.head x.first x.older l x.synced a

    abbrev spelled_at : ℕ → ℕ → List ℕ → Area
    spelled_at q count payload = over (2048 * (q % log.blocks)) (block_text log.generation log.log q count payload) area

    holds_closed : Held all (spelled_at log.next log.count log.payload)
    holds_closed =
        let q : ℕ = log.head + length x.written in
        let plain : Held (x.written ++ x.current ∷ []) (spelled_at q (length x.current) (records_text x.current)) =
        holds_written log.generation log.log log.blocks log.head x.first x.older x.written x.synced area sized.ranges.generation log_fits head_fits kept.synced kept.ring kept.fit.0 kept.holds x.current kept.fit.1 place_left in
        let same : spelled_at q (length x.current) (records_text x.current) ≡ spelled_at log.next log.count log.payload =
        ap (λ (k : ℕ). spelled_at k (length x.current) (records_text x.current)) (sym kept.next) ∙ ap (λ (k : ℕ). spelled_at log.next k (records_text x.current)) (sym kept.count) ∙ ap (spelled_at log.next log.count) (sym kept.payload) in
        subst (λ (l : List (List Record)). Held l (spelled_at log.next log.count log.payload)) (sym (with_some x.written x.current has_some))
        (subst (Held (x.written ++ x.current ∷ [])) same plain)

    pub kept_closed : IsKept (closed x) (closed_log log) (over (2048 * (log.next % log.blocks)) (block_text log.generation log.log log.next log.count log.payload) area)
    kept_closed = record {
      next = omega (arith, count_some log.count some, kept.next, one_more);
      payload = refl;
      count = refl;
      fit = (fit_blocks-with x.written x.current kept.fit.0 kept.fit.1, record { fit = tt; room = omega arith });
      ring = omega (arith, one_more, place_left);
      numbers = (kept.numbers.0, subst (λ (l : List Record). RiseFrom kept.numbers.0 l log.last) (sym (append-nil (joined all) ∙ joined-with x.written x.current)) kept.numbers.1);
      ends = cond-false (log.count == 0) log.ends (log.ends ++ log.last ∷ []) (ne_eqb log.count 0 (λ e. omega (arith, some))) ∙ (ap (λ (l : List ℕ). l ++ log.last ∷ []) kept.ends
          ∙ (ap (λ (n : ℕ). ends_of x.written ++ n ∷ []) (sym (ends_last x.current log.last kept.ending has_some)) ∙ (sym (ends-append x.written (x.current ∷ [])) ∙ ap ends_of (sym (with_some x.written x.current has_some)))));
      ending = tt;
      synced = omega (arith, kept.synced, one_more);
      below = λ r has. kept.below r (subst (λ (l : List (List Record)). Has r (joined l)) (take-with x.synced x.written x.current kept.synced) has);
      above = λ r has. kept.above r (subst (Has r) (append-nil (joined (drop x.synced all)) ∙ joined-drop-with x.synced x.written x.current kept.synced) has);
      holds = holds_closed;
    }

  -- there was none in hand
  pub kept_same : log.count ≡ 0 → IsKept (closed x) log area
  kept_same none =
      let nothing : length x.current ≡ 0 = omega (arith, none, kept.count) in
      let no_record : x.current ≡ [] = nil_from_length x.current nothing in
      let written : with_current x.written x.current ≡ x.written = with_none x.written x.current nothing in
      let account : closed x ≡ x = λ i. record x { written = written i; current = sym no_record i } in
      subst (λ (y : Account). IsKept y log area) (sym account) kept

  -- nothing is left to flush
  pub kept_nothing : log.last ≡ log.flushed → IsKept (flushed x) log area
  kept_nothing all_of =
      let none : log.count ≡ 0 = ⊎_elim (λ (lt : 0 < log.count). absurd (omega (arith, all_of, sized.pending lt))) (λ (le : log.count ≤ 0). omega (arith, le)) (cases_lt 0 log.count) in
      let nothing : length x.current ≡ 0 = omega (arith, none, kept.count) in
      let no_record : x.current ≡ [] = nil_from_length x.current nothing in
      let written : with_current x.written x.current ≡ x.written = with_none x.written x.current nothing in
      let left : length (joined (drop x.synced x.written)) ≡ 0 = ⊎_elim
      (λ (lt : 0 < length (joined (drop x.synced x.written))).
      let it = has_first (joined (drop x.synced x.written)) lt in
      let r : Record = it.0 in
      let late : log.flushed < r.gsn = kept.above r (has_left r (joined (drop x.synced x.written)) x.current it.1) in
      let early : r.gsn ≤ log.last = rise-has kept.numbers.0 (joined x.written ++ x.current) log.last kept.numbers.1 r (has_left r (joined x.written) x.current (joined-dropped x.synced x.written r it.1)) in
      absurd (omega (arith, late, early, all_of)))
      (λ (le : length (joined (drop x.synced x.written)) ≤ 0). omega (arith, le)) (cases_lt 0 (length (joined (drop x.synced x.written)))) in
      let dropped : length (drop x.synced x.written) ≡ 0 = none_left (drop x.synced x.written) (fit_blocks-drop x.synced x.written kept.fit.0) left in
      let synced : length (with_current x.written x.current) ≡ x.synced = ap length written ∙ (let e : length x.written ≡ x.synced = omega (arith, dropped, length-drop x.synced x.written, kept.synced) in e) in
      let account : flushed x ≡ x = λ i. record x { written = written i; synced = synced i; current = sym no_record i } in
      subst (λ (y : Account). IsKept y log area) (sym account) kept

  -- a record was put into the block in hand
  pub kept_put : (r : Record) → Fits r → log.last < r.gsn → HasRoom log r → IsKept (staged x r) (record log { payload = log.payload ++ records_text (r ∷ []); count = log.count + 1; last = r.gsn }) area
  kept_put r fits rises room =
      let text : log.payload ++ records_text (r ∷ []) ≡ records_text (x.current ++ r ∷ []) = ap (λ (l : List ℕ). l ++ records_text (r ∷ [])) kept.payload ∙ sym (flat_map-append record_text x.current (r ∷ [])) in
      let long : length (records_text (x.current ++ r ∷ [])) ≡ length log.payload + length (records_text (r ∷ [])) = ap length (sym text) ∙ length-append log.payload (records_text (r ∷ [])) in
      record {
        next = kept.next;
        payload = text;
        count = omega (arith, kept.count, length-append x.current (r ∷ []));
        fit = (kept.fit.0, record { fit = fit-push x.current r kept.fit.1.fit fits; room = omega (arith, long, room) });
        ring = kept.ring;
        numbers = (kept.numbers.0, subst (λ (l : List Record). RiseFrom kept.numbers.0 l r.gsn) (append_assoc (joined x.written) x.current (r ∷ [])) (rise-push kept.numbers.0 (joined x.written ++ x.current) log.last r kept.numbers.1 rises));
        ends = kept.ends;
        ending = ends_at-push x.current r;
        synced = kept.synced;
        below = kept.below;
        above = λ y has. ⊎_elim (kept.above y)
            (λ last. ⊎_elim (λ (is : y ≡ r). let e : y.gsn ≡ r.gsn = ap (λ (z : Record). z.gsn) is in omega (arith, e, rises, sized.flushed)) (λ no_more. absurd no_more) last)
            (has_cases y (joined (drop x.synced x.written) ++ x.current) (r ∷ []) (subst (Has y) (sym (append_assoc (joined (drop x.synced x.written)) x.current (r ∷ []))) has));
        holds = kept.holds;
      }

-- all is synced, where no block is in hand
module _ (first : List ℕ) (older : List Write) (ws : List (List Record)) (done : ℕ) (log : Log) (area : Area) (sized : IsSized log)
    (kept : IsKept (record { first = first; older = older; written = ws; synced = done; current = [] }) log area) where
  pub kept_synced : IsKept (record { first = first; older = older; written = ws; synced = length ws; current = [] }) (record log { flushed = log.last }) (cleaned area)
  kept_synced = record {
    next = kept.next;
    payload = kept.payload;
    count = kept.count;
    fit = kept.fit;
    ring = kept.ring;
    numbers = kept.numbers;
    ends = kept.ends;
    ending = tt;
    synced = omega arith;
    below = λ r has. rise-has kept.numbers.0 (joined ws ++ []) log.last kept.numbers.1 r (has_left r (joined ws) [] (subst (λ (l : List (List Record)). Has r (joined l)) (take_all (length ws) ws (omega arith)) has));
    above = λ r has. absurd (subst (λ (l : List (List Record)). Has r (joined l ++ [])) (drop_all (length ws) ws (omega arith)) has);
    holds = holds_synced log.generation log.log log.blocks log.head first older ws done area sized.ranges.generation (omega (arith, sized.ranges.number.1)) (omega (arith, sized.ranges.head, sized.ranges.some.1)) kept.synced kept.ring kept.fit.0 kept.holds;
  }

-- the clock and the number up to which the log is flushed rise, where nothing is new since the last flush
pub kept_marked : (number : ℕ) (x : Account) (log : Log) (area : Area) → log.flushed ≡ log.last → log.last ≤ number → IsKept x log area → IsKept x (record log { last = number; flushed = number }) area
kept_marked number x log area all rises kept = record {
  next = kept.next;
  payload = kept.payload;
  count = kept.count;
  fit = kept.fit;
  ring = kept.ring;
  numbers = (kept.numbers.0, rise-to kept.numbers.0 (joined x.written ++ x.current) log.last number rises kept.numbers.1);
  ends = kept.ends;
  ending = ends_at-none x.current number (λ r has. none r (inr has));
  synced = kept.synced;
  below = λ r has. omega (arith, kept.below r has, all, rises);
  above = λ r has. absurd (none r (has_cases r (joined (drop x.synced x.written)) x.current has));
  holds = kept.holds;
}
  where
    none : (r : Record) → Has r (joined (drop x.synced x.written)) ⊎ Has r x.current → ⊥
    none r has =
        let late : log.flushed < r.gsn = kept.above r (⊎_elim (λ old. has_left r (joined (drop x.synced x.written)) x.current old) (λ now. has_right r (joined (drop x.synced x.written)) x.current now) has) in
        let early : r.gsn ≤ log.last = rise-has kept.numbers.0 (joined x.written ++ x.current) log.last kept.numbers.1 r (⊎_elim
        (λ old. has_left r (joined x.written) x.current (joined-dropped x.synced x.written r old))
        (λ now. has_right r (joined x.written) x.current now)
        has) in
        omega (arith, late, early, all)

-- A log without blocks.
pub kept_fresh : (generation number blocks head flushed : ℕ) (area : Area) → let log : Log = record { generation = generation; log = number; blocks = blocks; head = head; next = head; payload = []; count = 0; last = flushed; flushed = flushed; ends = [] } in
    IsFresh log area → IsKept (fresh_account area) log area
kept_fresh generation number blocks head flushed area fresh = record {
  next = omega arith;
  payload = refl;
  count = refl;
  fit = (tt, record { fit = tt; room = omega arith });
  ring = omega arith;
  numbers = (flushed, omega arith);
  ends = refl;
  ending = tt;
  synced = omega arith;
  below = λ r has. absurd has;
  above = λ r has. absurd has;
  holds = record {
    since = [];
    writes = refl;
    blocks = λ w has. absurd has;
    new = fresh.new;
    fair = λ p sealed. inl refl;
    reads = λ b has. absurd has;
    late = record { late = λ range has. absurd (subst (Has range) fresh.clean has) };
    end = λ b has. absurd has;
    reach = subst (λ (q : ℕ). 2048 * (q % blocks) ≤ length area.bytes) (let e : head ≡ head + 0 = omega arith in e) fresh.reach;
  };
}
