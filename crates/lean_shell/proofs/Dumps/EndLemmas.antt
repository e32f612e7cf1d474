-- How a dump ends, from what recovery did and what was put.
use Rattle.std.proofs.Common.{◌≡◌, inl, inr, ⊎_elim, ◌<◌, ◌+◌, ℕ, List, length, Some, Result, Err, refl, sym, ◌∙◌, ap, subst, arith}
use Rattle.page_model.specs.Tree.{value}
use Rattle.buffered_engine.specs.image_model.Laws.{EveryUndone}
use Rattle.lean_disk.specs.Area.{Area}
use Rattle.lean_disk.specs.Faults.{HasCause, IsBlamed, Rose}
use Rattle.lean_disk.specs.Moments.{LeavesOnly}
use Rattle.lean_disk.specs.Story.{Crash, IsLawful, LeavesNow, Story, areas_of}
use Rattle.lean_disk.specs.Told.{TellsOn}
use Rattle.buffered_engine.specs.lean_edge.Outside.{Held}
use Rattle.buffered_engine.specs.lean_edge.declared.sink.Put.{Put}
use Rattle.buffered_engine.specs.lean_edge.declared.sink.Put.TheVariants.{Done, Failed}
use Rattle.buffered_engine.specs.disk_slots.declared.master.Master.{Master}
use Rattle.buffered_engine.specs.disk_image.Formats.{format_of}
use Rattle.buffered_engine.specs.disk_image.MasterSlots.{master_on}
use Rattle.buffered_engine.specs.disk_image.Shown.{Areas, IsCleanDisk}
use Rattle.node_tree.specs.Nodes.{nodes_of}
use Rattle.pair_walk.specs.Laws.{ListingLaws}
use Rattle.buffered_engine.specs.recovery.Crashes.{RecoveryLeaves}
use Rattle.buffered_engine.specs.recovery.Installed.{HasInstalled}
use Rattle.buffered_engine.specs.recovery.Masters.{IsOpenable}
use Rattle.buffered_engine.specs.recovery.Opened.{IsOpened, IsRecovered, IsRefusal, IsUntouched, IsWhole, Keeps}
use Rattle.buffered_engine.specs.recovery.Own.{EveryOwn}
use Rattle.buffered_engine.specs.recovery.Telling.{TellsAll}
use Rattle.buffered_engine.specs.recovery.declared.opening.Recovered.{Recovered}
use Rattle.buffered_engine.specs.recovery.declared.opening.Unrecovered.{Unrecovered}
use Rattle.buffered_engine.specs.recovery.declared.opening.Unrecovered.TheVariants as why
use Rattle.buffered_engine.specs.paged_engine.Openings.{Shows}
use Rattle.lean_shell.specs.Dumps.{DumpEnds, DumpLeaves, IsAsOpened, PutOrCut, dump_text}
use Rattle.lean_shell.specs.Endings.{finished}
use Rattle.lean_shell.specs.Inside.Puts.{OnlyPuts, PutsDump, counts_of}
use Rattle.lean_shell.specs.Lines.{IsPut, line_of}
use Rattle.lean_shell.specs.Runs.{notice_of, status_of}
use Rattle.lean_shell.proofs.Dumps.MapLemmas.{of_disk}
use Rattle.lean_shell.proofs.Dumps.PutLemmas.{only_noted}
use Rattle.lean_shell.proofs.Runs.LastLemmas.{PutText, put_text, went_out}
use Rattle.lean_shell.proofs.Runs.NoteLemmas.{put_notes}

-- ## The disk, behind lines that were put

notes_are : (m : Master) (s : Story) (c : Crash) → RecoveryLeaves m s c → c.notes ≡ s.notes
notes_are m s c (inl x) = x.notes
notes_are m s c (inr x) = x.notes

dump_leaves : (m : Master) (s : Story) (c : Crash) → RecoveryLeaves m s c → DumpLeaves m s c
dump_leaves m s c is = subst (λ (n : ℕ). RecoveryLeaves m s (record c { notes = n })) (notes_are m s c is) is

-- what an opening did to a disk that told s0 and told s then
pub record HasDone (s0 s : Story) : Type 0 where
  pub keeps : Keeps s0 s
  pub logs : (a : ℕ) → 1 < a → IsUntouched (s0.area a) (s.area a)
  pub others : (a : ℕ) → 17 < a → s.area a ≡ s0.area a
  pub any : (m : Master) → TellsAll 16 s0 → IsCleanDisk m (areas_of s0) → LeavesOnly s0 s (RecoveryLeaves m s0)

module _ (s0 s new : Story) (law : IsLawful s) (did : HasDone s0 s) (only : OnlyPuts s new) where
  logs_on : (a : ℕ) → 1 < a → IsUntouched (s0.area a) (new.area a)
  logs_on a lt = subst (λ (x : Area). IsUntouched (s0.area a) x) (sym (only.area a)) (did.logs a lt)

  others_on : (a : ℕ) → 17 < a → new.area a ≡ s0.area a
  others_on a lt = only.area a ∙ did.others a lt

  tells_on : TellsOn s0 new
  tells_on = record {
    counts = only.counts ∙ did.keeps.counts;
    tells = λ a. only.tells a ∙ did.keeps.tells a;
    areas = only.areas ∙ did.keeps.areas;
    later = let a = did.keeps.later in let b = only.later in omega arith;
  }

  moments : TellsAll 16 s0 → (m : Master) → IsCleanDisk m (areas_of s0) → LeavesOnly s0 new (DumpLeaves m s0)
  moments tells m clean = record {
    each = λ t c le left. ⊎_elim (λ was. dump_leaves m s0 c (run.each t c le was)) (λ now. then c now) (only.nothing_else t c left);
    before = λ t c left. ⊎_elim (λ was. ⊎_elim inl (λ has. inr (dump_leaves m s0 c has)) (run.before t c was)) (λ now. inr (then c now)) (only.nothing_else t c left);
  }
    where
      run : LeavesOnly s0 s (RecoveryLeaves m s0)
      run = did.any m tells clean

      -- a crash as it might have been as the disk was opened
      then : (c : Crash) → LeavesNow s (record c { notes = s.notes }) → DumpLeaves m s0 c
      then c now = dump_leaves m s0 (record c { notes = s.notes }) (run.each s.moment (record c { notes = s.notes }) did.keeps.later (law.counts_now (record c { notes = s.notes }) now))

-- ## The disk as it was opened

same_areas : (s new : Story) → ((a : ℕ) → new.area a ≡ s.area a) → s.area ≡ new.area
same_areas s new e = λ i a. sym (e a) i

opened_on : (m : Master) (area : Areas) (r : Recovered) (s new : Story) → ((a : ℕ) → new.area a ≡ s.area a) → IsOpened m area r s → IsOpened m area r new
opened_on m area r s new e x =
    let y : IsOpened m area r (record s { area = new.area }) = subst (λ (areas : ℕ → Area). IsOpened m area r (record s { area = areas })) (same_areas s new e) x in
    record { master = y.master; base = y.base; held = y.held; counts = y.counts; slots = y.slots; blocks = y.blocks; settled = y.settled }

installed_on : (m : Master) (r : Recovered) (s0 s new : Story) → ((a : ℕ) → new.area a ≡ s.area a) → HasInstalled m r s0 s → HasInstalled m r s0 new
installed_on m r s0 s new e x =
    let y : HasInstalled m r s0 (record s { area = new.area }) = subst (λ (areas : ℕ → Area). HasInstalled m r s0 (record s { area = areas })) (same_areas s new e) x in
    record { master = y.master; saves = y.saves; are = y.are; apart = y.apart; own = y.own; pages = y.pages; holds = y.holds }

-- ## A disk that was opened

-- what recovery gave
pub record HasGiven (s0 s : Story) (r : Recovered) : Type 0 where
  pub answer : TellsAll 16 s0 → (m : Master) × IsOpenable 16 m × IsRecovered m (areas_of s0) r
  pub opened : TellsAll 16 s0 → (m : Master) → IsCleanDisk m (areas_of s0) → IsOpened m (areas_of s0) r s
  pub installed : TellsAll 16 s0 → (m : Master) → master_on (areas_of s0 0) ≡ Some m → HasInstalled m r s0 s
  pub whole : IsWhole r
  pub beyond : (a : ℕ) → 1 + length r.master.heads < a → s.area a ≡ s0.area a

as_opened : (s0 s new : Story) (r : Recovered) → HasGiven s0 s r → ((a : ℕ) → new.area a ≡ s.area a) → IsAsOpened s0 new
as_opened s0 s new r given e = record {
  recovered = r;
  is = given.answer;
  installed = λ tells m is. installed_on m r s0 s new e (given.installed tells m is);
  opened = λ tells m clean. opened_on m (areas_of s0) r s new e (given.opened tells m clean);
  beyond = λ a lt. e a ∙ given.beyond a lt;
}

put_or_cut : (status : ℕ) (text : List ℕ) (answer : Put) (held0 held1 : Held) (sink0 sink1 : ℕ) → status ≡ finished answer → (t : PutText text answer held0 held1) → HasCause sink0 sink1 (answer ≡ Failed) → PutOrCut status text t.text sink0 sink1
put_or_cut status text Done held0 held1 sink0 sink1 is t cause = inl (is, t.whole refl, cause.calm (λ e. cc))
put_or_cut status text Failed held0 held1 sink0 sink1 is t cause = inr (is, (t.prefix, t.is_prefix), cause.cause refl)

pub dumped : EveryUndone → EveryOwn → ListingLaws → (s0 s new : Story) → IsLawful s → HasDone s0 s → (r : Recovered) → HasGiven s0 s r
    → (held0 held1 : Held) (sink0 sink1 : ℕ) (answer : Put) (status : ℕ) → status ≡ finished answer
    → PutsDump (counts_of r) (value (format_of (length r.pages.items)) (nodes_of r.pages.items)) answer held0 held1 sink0 sink1 s new → DumpEnds status s0 new held0 held1 sink0 sink1
dumped undone every_own listing s0 s new law did r given held0 held1 sink0 sink1 answer status is p =
    let t = put_text (dump_text (counts_of r) p.pairs) answer held0 held1 p.put.puts in record {
      put = t.text;
      holds = t.holds;
      how = inr (record {
        counts = counts_of r;
        pairs = p.pairs;
        rising = p.are.rising;
        of_disk = λ tells. of_disk undone every_own listing s0 r given.whole (given.answer tells) p.pairs p.are;
        printed = put_or_cut status (dump_text (counts_of r) p.pairs) answer held0 held1 sink0 sink1 is t p.put.cause;
        left = as_opened s0 s new r given p.put.only.area;
      });
      logs = logs_on s0 s new law did p.put.only;
      others = others_on s0 s new law did p.put.only;
      tells_on = tells_on s0 s new law did p.put.only;
      any_moment = moments s0 s new law did p.put.only;
    }

-- ## A disk that was not opened

pub refused : (s0 s new : Story) → IsLawful s → HasDone s0 s → (reason : Unrecovered) → Shows 16 s0 reason → (IsRefusal reason → (a : ℕ) → IsUntouched (s0.area a) (s.area a))
    → (held0 held1 : Held) (sink0 sink1 : ℕ) (answer : Put) (status : ℕ) → status ≡ status_of reason
    → IsPut (line_of (notice_of reason)) answer held0 held1 s new → HasCause sink0 sink1 (answer ≡ Failed) → DumpEnds status s0 new held0 held1 sink0 sink1
refused s0 s new law did reason shown left held0 held1 sink0 sink1 answer status is p cause =
    let t = put_text (line_of (notice_of reason)) answer held0 held1 p.puts in
    let only = only_noted s new (put_notes s new answer p.noted p.same) in record {
      put = t.text;
      holds = t.holds;
      how = inl (record {
        reason = reason;
        status_is = is;
        shown = shown;
        printed = went_out (line_of (notice_of reason)) t.text answer sink0 sink1 t.prefix t.is_prefix t.whole cause;
        left = λ was a. subst (λ (x : Area). IsUntouched (s0.area a) x) (sym (only.area a)) (left was a);
      });
      logs = logs_on s0 s new law did only;
      others = others_on s0 s new law did only;
      tells_on = tells_on s0 s new law did only;
      any_moment = moments s0 s new law did only;
    }

-- ## Why it failed

not_five : (reason : Unrecovered) (n : ℕ) → n ≡ status_of reason → n ≡ 5 → ⊥
not_five why.NotFormatted n e is = omega (arith, e, is)
not_five (why.Damaged area place) n e is = omega (arith, e, is)
not_five why.DiskFault n e is = omega (arith, e, is)
not_five why.Memory n e is = omega (arith, e, is)

-- the line of a reason may hide a fault of the sink
pub refused_blame : (reason : Unrecovered) (status sink0 sink1 : ℕ) (answer : Put) → status ≡ status_of reason → HasCause sink0 sink1 (answer ≡ Failed) → IsBlamed sink0 sink1 (status ≡ 5)
refused_blame reason status sink0 sink1 answer is cause = record { later = cause.later; cause = λ e. absurd (not_five reason status is e) }

is_fault : (reason : Unrecovered) (n : ℕ) → n ≡ status_of reason → n ≡ 6 → reason ≡ why.DiskFault
is_fault why.NotFormatted n e is = absurd (omega (arith, e, is))
is_fault (why.Damaged area place) n e is = absurd (omega (arith, e, is))
is_fault why.DiskFault n e is = refl
is_fault why.Memory n e is = absurd (omega (arith, e, is))

err_is : (x y : Unrecovered) → ◌≡◌ {A = Result Recovered Unrecovered} (Err x) (Err y) → x ≡ y
err_is x y e = cc

-- the status tells of a fault as the reason does, on a disk whose count stands while lines are put
pub refused_cause : (result : Result Recovered Unrecovered) (reason : Unrecovered) → result ≡ Err reason → (status disk0 disk disk1 : ℕ) → status ≡ status_of reason → disk1 ≡ disk
    → HasCause disk0 disk (result ≡ Err why.DiskFault) → HasCause disk0 disk1 (status ≡ 6)
refused_cause result reason err status disk0 disk disk1 is same cause = record {
  later = let l = cause.later in omega arith;
  cause = λ e. let rose : Rose disk0 disk = cause.cause (err ∙ ap Err (is_fault reason status is e)) in omega (arith, rose, same);
  calm = λ none. same ∙ cause.calm (λ e. none (is ∙ ap status_of (err_is reason why.DiskFault (sym err ∙ e))));
}
