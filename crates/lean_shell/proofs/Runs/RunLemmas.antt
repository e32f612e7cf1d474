-- A script that was executed on a disk that was opened.
use Rattle.std.proofs.Common.{◌≡◌, inr, ⊎_elim, ◌≤◌, ◌<◌, ◌+◌, ◌-◌, ◌*◌, ◌^◌, ◌++◌, ℕ, suc, List, [], ◌∷◌, length, drop, min, true, Option, Some, IsTrue, refl, sym, ◌∙◌, ap, subst, arith}
use Rattle.std.proofs.lemmas.List.{append-nil, length-append}
use mathlib.Core.List.{append_assoc}
use mathlib.Core.Path.{fun_ext}
use Rattle.std.proofs.Math.Seq.{drop-append_seam}
use Rattle.map_model.proofs.CountLemmas.{every_count}
use Rattle.map_model.specs.declared.call.Answered.{Answered}
use Rattle.map_model.specs.Journals.{Journal, Name, Serial}
use Rattle.map_model.specs.Maps.{Map}
use Rattle.map_model.specs.Outputs.{Reply, answers_told}
use Rattle.map_model.specs.Pairings.{answers_in, counted, in_turn, script_of}
use Rattle.map_model.specs.Transcripts as model
use Rattle.buffered_engine.specs.image_model.Images.{map_of}
use Rattle.lean_disk.specs.Area.{Area}
use Rattle.lean_disk.specs.Calls.{Noted}
use Rattle.lean_disk.specs.Faults.{HasCause}
use Rattle.lean_disk.specs.Moments.{LeavesOnly}
use Rattle.lean_disk.specs.Story.{Crash, IsLawful, LeavesNow, Story, areas_of}
use Rattle.lean_disk.proofs.MomentLemmas as moments
use Rattle.lean_disk.proofs.MomentLemmas.{weaker}
use Rattle.buffered_engine.specs.lean_edge.Outside.{Feed, Held, added}
use Rattle.buffered_engine.specs.lean_edge.declared.sink.Put.TheVariants.{Done as PutDone}
use Rattle.script_lang.specs.Notices.{Notice, NoticeFits}
use Rattle.script_lang.specs.Reading.{Unread}
use Rattle.buffered_engine.specs.disk_slots.declared.master.Master.{Master}
use Rattle.buffered_engine.specs.disk_image.Masters.{IsOfRun}
use Rattle.buffered_engine.specs.disk_image.Shown.{DiskStandsFor, IsCleanDisk, image_by}
use Rattle.buffered_engine.specs.recovery.Crashes.{RecoveryLeaves}
use Rattle.buffered_engine.specs.recovery.Opened.{IsUntouched, Keeps}
use Rattle.buffered_engine.specs.recovery.Telling.{TellsAll}
use Rattle.buffered_engine.specs.core_state.Events.{Event}
use Rattle.buffered_engine.specs.core_state.Openings.{Opening, first_map}
use Rattle.buffered_engine.specs.core_state.Steps.{state_after}
use Rattle.buffered_engine.specs.core_calls.Deeds.{answered, asked}
use Rattle.buffered_engine.specs.core_calls.Fronts.{Done, front, outcomes}
use Rattle.buffered_engine.specs.core_calls.Printed.{due_lines, durable_lines, printed}
use Rattle.buffered_engine.specs.core_calls.Runs.{EachTells}
use Rattle.buffered_engine.specs.core_calls.Steps.{call_behind}
use Rattle.buffered_engine.proofs.core_calls.PrintedLemmas.{due_are}
use Rattle.buffered_engine.proofs.core_calls.RunLemmas.{answers_all}
use Rattle.buffered_engine.specs.core_disk.Held.{HoldsRun}
use Rattle.buffered_engine.specs.disk_runs.Fair.{IsAsRead}
use Rattle.buffered_engine.specs.disk_runs.Masters.{IsOfRunBy, LineLaws, masters}
use Rattle.event_counts.specs.Draws.{draws}
use Rattle.buffered_engine.specs.disk_runs.Stands.{Stands}
use Rattle.buffered_engine.proofs.disk_runs.LineLemmas.{every_fair, every_master_line}
use Rattle.buffered_engine.proofs.disk_runs.ReadLemmas.{every_read}
use Rattle.buffered_engine.proofs.disk_runs.StandLemmas.{every_same}
use Rattle.buffered_engine.specs.engine_calls.Clauses.{Between}
use Rattle.buffered_engine.specs.call_parts.Memory.{Memory}
use Rattle.buffered_engine.specs.call_parts.Rooms.{most_of}
use Rattle.page_model.specs.Nodes.{Format}
use Rattle.buffered_engine.specs.worker_log.Logs.{Log}
use Rattle.buffered_engine.specs.engine_trait.Limits.{limits}
use Rattle.buffered_engine.specs.paged_engine.declared.opening.Size.{Size}
use Rattle.buffered_engine.specs.run_crashes.Lines.{NoneStopped, Recovers, RunLeft, next_of}
use Rattle.transcripts.specs.Laws.{NextLaws}
use Rattle.transcripts.specs.Told.{opened_line, text_of, EachReplyFits, IsOutput}
use Rattle.transcripts.specs.Transcripts.{asked as asked_by, first_lines, transcript, IsQuiet}
use Rattle.transcripts.proofs.TranscriptLemmas.{calls_told, names_told}
use Rattle.script_lang.specs.Text.{script_lines}
use Rattle.script_run.specs.Runs.{DiskTo, IsLastCut, PrintsTo, ScriptRuns, StaysAside, StoppedIn, calls_of}
use Rattle.script_run.specs.Texts.{ScriptText}
use Rattle.script_run.specs.declared.stop.Stop.{Stop}
use Rattle.script_run.specs.declared.stop.Stop.TheVariants as stops
use Rattle.lean_shell.specs.Crashes.{IsYoung, MasterLeaves, TellsCrashes, as_read}
use Rattle.lean_shell.specs.Ends.{RunEnds}
use Rattle.lean_shell.specs.Headline.{Headline, RunLeaves, Survives}
use Rattle.lean_shell.specs.Inside.Begins.{Begins, HasStarted, began}
use Rattle.lean_shell.specs.Inside.Laws.{Laws}
use Rattle.lean_shell.specs.Inside.Lefts.{IsSameBut, LivesOn}
use Rattle.lean_shell.specs.Inside.Assembled.{EveryRun, IsRun}
use Rattle.lean_shell.specs.Inside.Openings.{EndsWith}
use Rattle.lean_shell.specs.Lines.{IsPut}
use Rattle.lean_shell.specs.Runs.{AreAll, AreAllOf, AreFirst, AreFirstOf, Counts, HasBlocks, HowRun, IsClosed, IsOnDisk, Ran, ended, first_line}
use Rattle.lean_shell.specs.Runs.AreAll.{All, ButNewest}
use Rattle.lean_shell.specs.Runs.AreFirst.{Among, Behind}
use Rattle.lean_shell.specs.Runs.HowRun.{OfCut, OfReason, OfScript}
use Rattle.lean_shell.specs.Starts.{AllAnswered, HasLinesFor, IsAskedNext, IsLeft, IsRoomOfNext}
use Rattle.lean_shell.proofs.Runs.CountLemmas.{TakesFew, all_few, few_taken, most_any, with_own}
use Rattle.lean_shell.proofs.Runs.DiskLemmas.{HeardNow, InPart, InRoom, InRun, IsCutLast, Moved, StandsNow, asked_of, both, counts_moved, damaged_not, heard_now, lines_with, moved, stands_now}
use Rattle.lean_shell.proofs.Runs.LastLemmas.{Last, last_of}
use Rattle.lean_shell.proofs.Runs.LeftLemmas.{CountsFrom, WasOut, left_there, lives_as, survives_there}
use Rattle.lean_shell.proofs.Runs.MomentLemmas.{line_moments, put_moments, same_but, then}
use Rattle.lean_shell.proofs.Runs.OutputLemmas.{all_put, both_tails, no_tail, older_fit, told_first}
use Rattle.lean_shell.proofs.Runs.PrintedLemmas.{answered_out, calls_append, first_of, first_printed, prefix_few, same_prefix, tells_first}
use Rattle.lean_shell.proofs.Runs.QuietLemmas.{master_leaves, run_leaves}
use Rattle.lean_shell.proofs.Runs.ScanLemmas.{scans_locked}
use Rattle.lean_shell.proofs.Runs.ScriptLemmas.{answered_by, answered_first, executes_tell}
use Rattle.lean_shell.proofs.Runs.SpentLemmas.{none_spent}

module _ (size : Size) (few : size.sessions ≤ 16) (frames : 32 ≤ size.frames) (laws : Laws) (s0 sa sb sc s1 : Story) (law_a : IsLawful sa) (law_c : IsLawful sc) (law_1 : IsLawful s1) (g : Opening) (first : Memory) (counts : Counts) (o : HasStarted size s0 sa g first counts) (keeps : Keeps s0 sa)
    (any : (m : Master) → TellsAll size.sessions s0 → IsCleanDisk m (areas_of s0) → LeavesOnly s0 sa (RecoveryLeaves m s0))
    (held0 held_b held_c held1 : Held) (opened_fits : NoticeFits (Notice.Opened counts.generation counts.winners counts.undone)) (p : IsPut (first_line counts) PutDone held0 held_b sa sb)
    (feed0 feed1 : Feed) (reader : Unread) (stop : Stop) (last_memory : Memory) (r : ScriptRuns (Some stop) g.workers size.group g [] 0 feed0 [] first last_memory reader feed1 held_b held_c sb sc)
    (sink_c sink1 : ℕ) (last : EndsWith stop held_c held1 sink_c sink1 sc s1) where
  abbrev calls : List Done
  calls = r.newer

  abbrev said : List Answered
  said = calls_of r.newer

  abbrev input : List ℕ
  input = feed0.left

  -- of which calls a crash leaves something
  abbrev Its : Opening → List Done → Option Done → Type 0
  Its = AreFirstOf g stop r.newer

  noted : Noted sa sb
  noted = p.noted refl

  many : g.workers < 2 ^ 32
  many = let e = o.of_size.few in omega (arith, e, few)

  each : EachTells limits g size.group r.newer
  each = executes_tell g size.group first r.newer r.memory r.executes

  nil : r.newer ++ [] ≡ r.newer
  nil = append-nil r.newer

  replies_are : r.replies ≡ printed g r.newer
  replies_are = sym (append-nil r.replies) ∙ (sym r.lines ∙ ap (printed g) nil)

  -- what a sink that tells would hold of the replies
  abbrev held_none : Held
  held_none = record { tells = true; bytes = [] }

  abbrev held_text : Held
  held_text = record { tells = true; bytes = text_of r.told ++ r.tail }

  text : ScriptText stop g.workers said r.replies r.told feed0 held_none held_text
  text = laws.script stop g.workers r.newer r.hand feed0 feed1 reader r.replies r.told r.tail held_none held_text many r.fits r.reads r.reply_fits r.prints (record { same = refl; bytes = λ tells. refl })

  text_is : text_of r.told ++ r.tail ≡ text_of text.out ++ text.tail
  text_is = text.bytes refl

  abbrev l : Last stop held_c held1 sink_c sink1 sc s1
  l = last_of stop held_c held1 sink_c sink1 sc s1 last

  abbrev put : List ℕ
  put = first_line counts ++ (text_of r.told ++ (r.tail ++ l.text))

  output : IsOutput counts.generation counts.winners counts.undone text.out put
  output = record {
    opened = opened_fits;
    fit = text.fit;
    tail = text.tail ++ l.text;
    ends = both_tails stop text.tail l.text text.ends (λ other. l.tail other (Notice.Opened counts.generation counts.winners counts.undone) opened_fits) l.none;
    is = ap (λ (t : List ℕ). first_line counts ++ t)
        (sym (append_assoc (text_of r.told) r.tail l.text) ∙ (ap (λ (t : List ℕ). t ++ l.text) text_is ∙ append_assoc (text_of text.out) text.tail l.text));
  }

  holds : IsTrue held0.tells → held1.bytes ≡ held0.bytes ++ put
  holds tells =
      let b = p.puts.done refl tells in
      let c = r.holds.bytes (subst (λ (t : Rattle.std.proofs.Common.Bool). IsTrue t) (sym p.puts.same) tells) in
      let d = l.holds (subst (λ (t : Rattle.std.proofs.Common.Bool). IsTrue t) (sym (r.holds.same ∙ p.puts.same)) tells) in
      d ∙ (ap (λ (t : List ℕ). t ++ l.text) (c ∙ ap (λ (t : List ℕ). t ++ (text_of r.told ++ r.tail)) b)
      ∙ (append_assoc (held0.bytes ++ first_line counts) (text_of r.told ++ r.tail) l.text
      ∙ (append_assoc held0.bytes (first_line counts) ((text_of r.told ++ r.tail) ++ l.text)
      ∙ ap (λ (t : List ℕ). held0.bytes ++ (first_line counts ++ t)) (append_assoc (text_of r.told) r.tail l.text))))

  -- the calls that the output answers
  record HeardOf : Type 0 where
    heard : List Done
    unheard : List Done
    are : unheard ++ heard ≡ r.newer
    all_heard : (stop ≡ stops.WriteFault → ⊥) → unheard ≡ []
    answers : answers_told text.out ≡ answers_in (in_turn (calls_of heard))

  h : HeardOf
  h = go stop refl
    where
      all : (stop ≡ stops.WriteFault → ⊥) → HeardOf
      all not_write = record { heard = r.newer; unheard = []; are = refl; all_heard = λ e. refl; answers = ap answers_told (text.whole not_write ∙ replies_are) ∙ (laws.printed g r.newer).answers }

      go : (s : Stop) → stop ≡ s → HeardOf
      go stops.End e = all (λ q. cc)
      go (stops.Refused line) e = all (λ q. cc)
      go stops.ReadFault e = all (λ q. cc)
      go stops.DiskFault e = all (λ q. cc)
      go (stops.Damaged place) e = all (λ q. cc)
      go stops.WriteFault e =
          let f = (laws.printed g r.newer).first text.later text.out (text.first ∙ replies_are) in
          record { heard = f.heard; unheard = f.later; are = f.are; all_heard = λ q. absurd (q e); answers = f.answers }

  script_for : IsTrue feed0.tells → HasLinesFor g.workers input r.newer
  script_for tells = record { fits = r.fits; others = (text.read tells).others; lines = (text.read tells).lines }

  -- what an output tells that has the answers to the first of the calls
  tells_of : IsTrue feed0.tells → (unheard heard : List Done) → unheard ++ heard ≡ r.newer → (told : List Reply) (bytes : List ℕ) → answers_told told ≡ answers_in (in_turn (calls_of heard)) → IsOutput counts.generation counts.winners counts.undone told bytes
      → transcript g.workers input bytes ≡ counted (in_turn (calls_of heard))
  tells_of tells unheard heard e told bytes answers is =
      calls_told laws.back laws.quiet g.workers counts.generation counts.winners counts.undone (calls_of heard) told input bytes
      (answered_first (asked_by g.workers (script_lines input)) unheard heard r.newer e (answered_by g.workers input g size.group r.newer many each (script_for tells))) answers is

  all_tells : IsTrue feed0.tells → transcript g.workers input put ≡ counted (in_turn (calls_of h.heard))
  all_tells tells = tells_of tells h.unheard h.heard h.are text.out put h.answers output

  serial : IsTrue feed0.tells → TellsAll size.sessions s0 → (m : Master) (map : Map) (won : List Name) → DiskStandsFor m (areas_of s0) map won → Serial map (model.journal (transcript (length m.heads) input put))
  serial tells all m map won stands =
      let f = o.from all in
      let one : f.m ≡ m = same_master f.m m (sym f.sound.master ∙ stands.master) in
      let workers : g.workers ≡ length m.heads = f.starts.logs ∙ ap (λ (x : Master). length x.heads) one in
      let maps : first_map g ≡ map = fun_ext (λ k. f.map k ∙ (ap (λ (x : Master). map_of (image_by x (areas_of s0)) k) one ∙ sym (stands.stands.map k))) in
      let each_first = tells_first g size.group h.unheard h.heard (subst (EachTells limits g size.group) (sym h.are) each) in
      let law = laws.told g (front h.heard) (outcomes h.heard) (answers_all limits g size.group h.heard each_first) in
      let journal_is : model.journal (transcript g.workers input put) ≡ model.journal (in_turn (calls_of h.heard)) = ap model.journal (all_tells tells) ∙ every_count (in_turn (calls_of h.heard)) in
      subst (λ (n : ℕ). Serial map (model.journal (transcript n input put))) workers
      (subst (λ (j : Journal). Serial map j) (sym journal_is) (subst (λ (mp : Map). Serial mp (model.journal (in_turn (calls_of h.heard)))) maps (law.serial f.faithful)))
    where
      same_master : (x y : Master) → Some x ≡ Some y → x ≡ y
      same_master x y e = cc

  -- ## Moments

  -- the first of the replies, as an output of their own
  first_output : (later told : List Reply) → later ++ told ≡ r.told → IsOutput counts.generation counts.winners counts.undone told (first_lines (suc (length told)) put)
  first_output later told e =
      let all : (text.more ++ later) ++ told ≡ text.out = append_assoc text.more later told ∙ (ap (λ (rs : List Reply). text.more ++ rs) e ∙ text.out_is) in
      let w = (laws.moment counts.generation counts.winners counts.undone text.out put output).each (text.more ++ later) told all in
      record {
        opened = opened_fits;
        fit = older_fit (text.more ++ later) told (subst EachReplyFits (sym all) text.fit);
        tail = [];
        ends = no_tail (Notice.Opened counts.generation counts.winners counts.undone) opened_fits;
        is = w.lines ∙ ap (λ (t : List ℕ). opened_line counts.generation counts.winners counts.undone ++ t) (sym (append-nil (text_of told)));
      }

  few_lines : length (script_of said) < 2 ^ 40
  few_lines = let f = r.few in omega (arith, f)

  calls_few : length r.newer < 2 ^ 47
  calls_few = let a : length r.newer ≤ 66 * length (script_of said) = (laws.lines limits g size.group r.newer each).answers in let f = few_lines in omega (arith, a, f)

  told_few : length r.told < 2 ^ 61
  told_few =
      let a = prefix_few text.later text.out r.replies text.first in
      let b = prefix_few text.more r.told text.out text.out_is in
      let c = ap (λ (rs : List Reply). length rs) replies_are in
      let d = (laws.lines limits g size.group r.newer each).printed_are in
      let e = (laws.lines limits g size.group r.newer each).reported in
      let f = calls_few in
      omega (arith, a, b, c, d, e, f)

  -- all that was noted stands in the output behind the last line too
  last_output : (stop ≡ stops.WriteFault → ⊥) → IsOutput counts.generation counts.winners counts.undone r.told (first_lines (suc (suc (length r.told))) put)
  last_output not_write =
      let alls : text.out ≡ r.told = text.whole not_write ∙ sym (all_put stop r.replies r.told r.tail not_write r.prints).told_is in
      let size : length text.out ≡ length r.told = ap (λ (rs : List Reply). length rs) alls in
      subst (λ (rs : List Reply). IsOutput counts.generation counts.winners counts.undone rs (first_lines (suc (suc (length r.told))) put)) alls
      (laws.end counts.generation counts.winners counts.undone text.out put (suc (suc (length r.told))) output (omega (arith, size)))

  module _ (tells : IsTrue feed0.tells) (m : Master) (all : TellsCrashes size.sessions s0) (clean : IsCleanDisk m (areas_of s0)) (young : IsYoung m s0) where
    abbrev c0 : Crash
    c0 = began s0

    abbrev b : Begins m s0 sa g first
    b = o.begins m all.all clean

    -- they take few numbers, whatever their scans
    taken : (draws (front r.newer) + 2 ^ 26 ≤ 2 ^ 59 + 2 ^ 54) × (masters (front r.newer) + 2 ^ 26 ≤ 2 ^ 59 + 2 ^ 54)
    taken =
        let levels : g.format.levels ≡ 7 = ap (λ (f : Format). f.levels) b.starts.format in
        let e = o.of_size.frames in
        few_taken laws.draws laws.scans g size.group (omega (arith, levels, e, frames)) o.of_size.changes laws.lines first r.newer r.memory r.executes each few_lines

    counts_b : IsTrue sb.counts
    counts_b = subst (λ (t : Rattle.std.proofs.Common.Bool). IsTrue t) (sym (noted.counts ∙ keeps.counts)) all.counts

    notes_b : sb.notes ≡ s0.notes + 1
    notes_b = let e = noted.notes (subst (λ (t : Rattle.std.proofs.Common.Bool). IsTrue t) (sym keeps.counts) all.counts) in let f = keeps.notes in let y = young.notes in
        e ∙ (let q : min (sa.notes + 1) (2 ^ 64 - 1) ≡ s0.notes + 1 = omega arith in q)

    notes_few : sb.notes + length r.told < 2 ^ 64
    notes_few = let a = told_few in let b = notes_b in let y = young.notes in omega arith

    notes_c : sc.notes ≡ sb.notes + length r.told
    notes_c = r.others.notes counts_b notes_few

    -- before the script
    quiet_one : IsQuiet (length m.heads) input (first_lines 1 put)
    quiet_one =
        let is = first_output r.told [] (append-nil r.told) in
        record {
          transcript_is = subst (λ (n : ℕ). transcript n input (first_lines 1 put) ≡ []) b.starts.logs (tells_of tells r.newer [] nil [] (first_lines 1 put) refl is);
          durables_are = names_told laws.back laws.quiet counts.generation counts.winners counts.undone [] (first_lines 1 put) is;
        }

    quiet_none : IsQuiet (length m.heads) input (first_lines 0 put)
    quiet_none = record { transcript_is = refl; durables_are = refl }

    before : LeavesOnly s0 sb (LivesOn size Its m s0 input put)
    before = line_moments size Its m s0 sa sb clean young.notes input put PutDone (any m all.all clean) law_a keeps.later keeps.notes p.noted p.same quiet_none (λ e. quiet_one)

    -- in it
    stands_b : Stands g [] c0 b.known sb
    stands_b = every_same sa sb c0 g [] b.known b.stands (λ a low. subst (λ (t : Rattle.std.proofs.Common.Bool). IsTrue t) (sym (noted.tells a)) (b.stands.tells a low)) (λ a low. noted.area a)

    of_known : IsOfRunBy [] m b.known.master
    of_known = subst (IsOfRunBy [] m) (sym b.memory_is.master) (record {
      of_run = b.of_run;
      most = let d : first.master.sequence ≡ suc m.sequence = ap (λ (x : Master). x.sequence) b.next.is in let e : first.master.generation ≡ suc m.generation = ap (λ (x : Master). x.generation) b.next.is in omega arith;
    })

    lines_law : (x y z : Master) → LineLaws x y z
    lines_law = every_master_line

    of_first : IsOfRunBy [] first.master b.known.master
    of_first = subst (IsOfRunBy [] first.master) (sym b.memory_is.master) (let l = lines_law first.master first.master first.master in l.of_run [] (l.same []))

    between_b : Between limits g size.group [] c0 b.known sb
    between_b = record { told = tt; stands = stands_b; counts = counts_b; notes = notes_b ∙ (let q : s0.notes + 1 ≡ s0.notes + 1 + 0 = omega arith in q) }

    -- on a disk of m, and of the master of the opening
    disk : LeavesOnly sb sc (StaysAside g.workers (length r.told) sb) × DiskTo (Some stop) r.hand g size.group (r.newer ++ []) (front r.newer) c0 m b.known sb sc r.memory
    disk = r.disk c0 m b.known between_b of_known b.memory_is notes_few

    disk_first : LeavesOnly sb sc (StaysAside g.workers (length r.told) sb) × DiskTo (Some stop) r.hand g size.group (r.newer ++ []) (front r.newer) c0 first.master b.known sb sc r.memory
    disk_first = r.disk c0 first.master b.known between_b of_first b.memory_is notes_few

    counts_all : LeavesOnly sb sc (CountsFrom g c0 first.master)
    counts_all = counts_moved stop r.hand g size.group (r.newer ++ []) c0 first.master sb sc (moved stop r.hand g size.group (r.newer ++ []) (front r.newer) c0 first.master b.known sb sc r.memory disk_first.1)

    -- the replies that were out are the first of those that were told
    abbrev Older : List Reply → Type 0
    Older told = (n : List Reply) × (n ++ told ≡ r.replies)

    firsts : (told : List Reply) → Older told → length told ≤ length r.told → (later : List Reply) × (later ++ told ≡ r.told)
    firsts told older few = let t = told_first stop r.replies r.told r.tail r.prints in first_of older.0 told t.0 r.told r.replies older.1 t.1 few

    -- what the lines of the first of the calls are
    older_of : (unheard heard : List Done) (missing : List Name) (told : List Reply) → unheard ++ heard ≡ r.newer → durable_lines missing ++ told ≡ printed g heard → Older told
    older_of unheard heard missing told e is =
        let f = first_printed g unheard heard in (
          f.more ++ durable_lines missing,
          append_assoc f.more (durable_lines missing) told ∙ (ap (λ (rs : List Reply). f.more ++ rs) is ∙ (f.is ∙ (ap (printed g) e ∙ sym replies_are))),
        )

    abbrev Left : (List Done → List Event → Type 0) → List Done → Crash → Type 0
    Left Such xs c = RunLeft g Such xs c0 m c

    -- of a crash in the run: its replies, and what a call did that was not answered
    record Knows (Such : List Done → List Event → Type 0) (xs : List Done) (c : Crash) (q : Left Such xs c) : Type 0 where
      later : List Reply
      first_told : later ++ q.out ≡ r.told
      so : (es : List Event) → Such q.heard es → IsRoomOfNext input g q.heard es
      alone : (es : List Event) → Such q.heard es → q.unheard ≡ []
      its : AreFirst stop r.newer q.heard (next_of q.unheard)
      short : TakesFew (front xs)
      so_few : (es : List Event) → Such q.heard es → length es ≤ 2 ^ 26

    -- its notes are those of these replies
    few_out : (Such : List Done → List Event → Type 0) (xs : List Done) (c : Crash) (q : Left Such xs c) → c.notes ≤ sb.notes + length r.told → length q.out ≤ length r.told
    few_out Such xs c q few = let e = q.notes in let f = notes_b in omega arith

    knows_all : (Such : List Done → List Event → Type 0) (c : Crash) (q : Left Such r.newer c) → ((es : List Event) → Such q.heard es → IsRoomOfNext input g q.heard es) → ((es : List Event) → Such q.heard es → q.unheard ≡ [])
        → ((es : List Event) → Such q.heard es → length es ≤ 2 ^ 26) → c.notes ≤ sb.notes + length r.told → Knows Such r.newer c q
    knows_all Such c q so alone so_few few =
        let f = firsts q.out (older_of q.unheard q.heard q.missing q.out q.calls q.lines) (few_out Such r.newer c q few) in
        record { later = f.0; first_told = f.1; so = so; alone = alone; its = Among q.unheard q.calls refl; short = all_few (front r.newer) taken; so_few = so_few }

    -- what was asked and not answered
    abbrev Asked : Type 0
    Asked = IsAskedNext g.workers input r.newer r.hand.session r.hand.call

    next_laws : NextLaws g.workers feed0 feed1 reader (script_of said)
    next_laws = laws.next g.workers feed0 feed1 reader (script_of said) many r.fits tells

    asks : stop ≡ stops.DiskFault → Asked
    asks is = asked_of stop g.workers r.newer r.hand (suc (0 + length (script_of said))) feed0 feed1 reader next_laws is r.reads

    -- so what it did is what such a call did
    room_of_next : Asked → (heard : List Done) (es : List Event) → StoppedIn g r.newer r.hand heard es → IsRoomOfNext input g heard es
    room_of_next a heard es s = record {
      session = r.hand.session;
      call = r.hand.call;
      asks = subst (λ (xs : List Done). IsAskedNext g.workers input xs r.hand.session r.hand.call) (sym s.0) a;
      room = s.1;
    }

    -- where all were heard none was not
    none_unheard : (unheard heard : List Done) → unheard ++ heard ≡ r.newer → heard ≡ r.newer → unheard ≡ []
    none_unheard [] heard e is = refl
    none_unheard (x ∷ unheard) heard e is =
        absurd (let a = ap (λ (xs : List Done). length xs) e in let b = ap (λ (xs : List Done). length xs) is in let c = length-append unheard heard in omega (arith, a, b, c))

    module _ (x : Done) (is : stop ≡ stops.DiskFault) (few_own : length x.events ≤ most_of r.hand.call) where
      told_all : r.told ≡ r.replies
      told_all = (subst (λ (z : Stop). PrintsTo (Some z) r.replies r.told r.tail) is r.prints).told_is

      knows_part : (c : Crash) (q : Left NoneStopped (x ∷ r.newer) c) → c.notes ≤ sb.notes + length r.told → Knows NoneStopped (x ∷ r.newer) c q
      knows_part c q few = record { later = f.0; first_told = f.1; so = λ es none. absurd none; alone = λ es none. absurd none; its = its_of q.unheard q.calls; short = with_own laws.draws g r.newer x taken (let a = most_any r.hand.call in omega (arith, a, few_own)); so_few = λ es none. absurd none }
        where
          -- the one that was not answered was not heard
          not_all : q.heard ≡ x ∷ r.newer → ⊥
          not_all e =
              let d = due_are g x r.newer in
              let is : printed g (x ∷ r.newer) ≡ durable_lines d.0 ++ Reply.Answered x.outcome.session (answered x.outcome.deed) ∷ printed g r.newer = ap (λ (rs : List Reply). rs ++ Reply.Answered x.outcome.session (answered x.outcome.deed) ∷ printed g r.newer) d.1 in
              let more = answered_out q.missing d.0 x.outcome.session (answered x.outcome.deed) (printed g r.newer) q.out (q.lines ∙ (ap (printed g) e ∙ is)) in
              let a = few_out NoneStopped (x ∷ r.newer) c q few in
              let b = ap (λ (rs : List Reply). length rs) (told_all ∙ replies_are) in
              omega (arith, more, a, b)

          rest_of : (u : List Done) → u ++ q.heard ≡ x ∷ r.newer → (v : List Done) × (v ++ q.heard ≡ r.newer)
          rest_of [] e = absurd (not_all e)
          rest_of (y ∷ v) e = (v, tail_is y (v ++ q.heard) e)
            where
              tail_is : (y : Done) (ys : List Done) → y ∷ ys ≡ x ∷ r.newer → ys ≡ r.newer
              tail_is y ys e = cc

          -- so it is one of the others, or all those were
          its_of : (u : List Done) → u ++ q.heard ≡ x ∷ r.newer → AreFirst stop r.newer q.heard (next_of u)
          its_of [] e = absurd (not_all e)
          its_of (y ∷ []) e = Behind is (rest_of (y ∷ []) e).1
          its_of (y ∷ z ∷ v) e = Among (z ∷ v) (tail_of y (z ∷ v ++ q.heard) e) refl
            where
              tail_of : (y : Done) (ys : List Done) → y ∷ ys ≡ x ∷ r.newer → ys ≡ r.newer
              tail_of y ys e = cc

          f : (later : List Reply) × (later ++ q.out ≡ r.told)
          f = let v = rest_of q.unheard q.calls in firsts q.out (older_of v.0 q.heard q.missing q.out v.1 q.lines) (few_out NoneStopped (x ∷ r.newer) c q few)

    as_began : IsAsRead s0 c0
    as_began = record { image = λ a. refl; writes = λ a. refl }

    -- as these lines were out, and behind the last line
    module _ (Such : List Done → List Event → Type 0) (xs : List Done) (each_x : EachTells limits g size.group xs) (lines : HasLinesFor g.workers input xs) (knows : (c : Crash) (q : Left Such xs c) → c.notes ≤ sb.notes + length r.told → Knows Such xs c q) (run : LeavesOnly sb sc (Left Such xs)) where
      abbrev Q : Crash → Type 0
      Q c = StaysAside g.workers (length r.told) sb c × (Left Such xs c × CountsFrom g c0 first.master c)

      script : LeavesOnly sb sc Q
      script = both sb sc (StaysAside g.workers (length r.told) sb) (λ c. Left Such xs c × CountsFrom g c0 first.master c) disk.0 (both sb sc (Left Such xs) (CountsFrom g c0 first.master) run counts_all)

      -- so it was out
      was_out : (c : Crash) (q : Q c) → Knows Such xs c q.1.0 → (d : Crash) → IsSameBut c d → (lines_out : ℕ) → d.notes ≡ s0.notes + lines_out → IsOutput counts.generation counts.winners counts.undone q.1.0.out (first_lines lines_out put)
          → WasOut Such (IsRoomOfNext input g) Its g xs c0 m first.master s0 sa input put counts.generation counts.winners counts.undone d
      was_out c q k d same lines_out notes is = record { crash = c; left = q.1.0; so = k.so; alone = k.alone; its = (refl, k.its); few = k.short; so_few = k.so_few; counts = q.1.1; same = same; lines = lines_out; notes = notes; output = is; script = lines }

      lives_on : (d : Crash) → WasOut Such (IsRoomOfNext input g) Its g xs c0 m first.master s0 sa input put counts.generation counts.winners counts.undone d → LivesOn size Its m s0 input put d
      lives_on d w = inr (λ fair. lives_as size laws m s0 sa g first few o.of_size b xs each_x c0 input put counts.generation counts.winners counts.undone d Such Its w (every_fair s0) as_began fair)

      in_script : (c : Crash) → Q c → LivesOn size Its m s0 input put c
      in_script c q =
          let k = knows c q.1.0 q.0.notes in
          lives_on c (was_out c q k c (record { writes = λ a. refl; image = λ a. refl }) (suc (length q.1.0.out)) (let e = q.1.0.notes in omega arith) (first_output k.later q.1.0.out k.first_told))

      at_last : (c : Crash) → LeavesNow s1 c → Q (then sc c) → LivesOn size Its m s0 input put c
      at_last c now q = ⊎_elim
          (λ (e : c.notes ≡ sc.notes). lives_on c (was_out (then sc c) q k c (same_but sc c) (suc (length q.1.0.out)) (let n = q.1.0.notes in omega arith) (first_output k.later q.1.0.out k.first_told)))
          (λ (e : (c.notes ≡ sc.notes + 1) × (stop ≡ stops.WriteFault → ⊥)). whole e.0 e.1)
          (l.noted (let a = told_few in let b = notes_b in let y = young.notes in let n = notes_c in omega arith) c now)
        where
          k : Knows Such xs (then sc c) q.1.0
          k = knows (then sc c) q.1.0 q.0.notes

          whole : c.notes ≡ sc.notes + 1 → (stop ≡ stops.WriteFault → ⊥) → LivesOn size Its m s0 input put c
          whole e not_write =
              let n = notes_c in
              let b = notes_b in
              let own = q.1.0.notes in
              let long : length q.1.0.out ≡ length r.told = omega arith in
              let told : q.1.0.out ≡ r.told = same_prefix k.later q.1.0.out r.told k.first_told long in
              lives_on c (was_out (then sc c) q k c (same_but sc c) (suc (suc (length r.told))) (omega (arith, e, n, b))
              (subst (λ (rs : List Reply). IsOutput counts.generation counts.winners counts.undone rs (first_lines (suc (suc (length r.told))) put)) (sym told) (last_output not_write)))

      leaves_all : LeavesOnly s0 s1 (LivesOn size Its m s0 input put)
      leaves_all = moments.then s0 sb s1 (LivesOn size Its m s0 input put) before (put_moments sb sc s1 Q (LivesOn size Its m s0 input put) script in_script law_c r.others.later l.notes at_last)

    leaves_by : Moved stop r.hand g size.group r.newer c0 m sb sc → LeavesOnly s0 s1 (LivesOn size Its m s0 input put)
    leaves_by (InRun run) = leaves_all NoneStopped r.newer each (script_for tells) (λ c q. knows_all NoneStopped c q (λ es none. absurd none) (λ es none. absurd none) (λ es none. absurd none)) run
    leaves_by (InRoom is run) = leaves_all (StoppedIn g r.newer r.hand) r.newer each (script_for tells)
        (λ c q. knows_all (StoppedIn g r.newer r.hand) c q (λ es s. room_of_next (asks is) q.heard es s) (λ es s. none_unheard q.unheard q.heard q.calls s.0) (λ es s. let a = most_any (call_behind (outcomes q.heard) r.hand.call) in let f = s.1.1 in omega (arith, a, f))) run
    leaves_by (InPart x is call session told few_own run) = leaves_all NoneStopped (x ∷ r.newer) (each, told) (lines_with g.workers input r.newer x (script_for tells) (own (asks is))) (knows_part x is few_own) run
      where
        own : Asked → IsAskedNext g.workers input r.newer x.outcome.session (asked x.outcome.deed)
        own a = subst (λ (w : ℕ). IsAskedNext g.workers input r.newer w (asked x.outcome.deed)) (sym session)
            (subst (λ (c : Rattle.map_model.specs.declared.call.Call.Call). IsAskedNext g.workers input r.newer r.hand.session c) (sym call) a)

    pub leaves : LeavesOnly s0 s1 (LivesOn size Its m s0 input put)
    leaves = leaves_by (subst (λ (xs : List Done). Moved stop r.hand g size.group xs c0 m sb sc) nil (moved stop r.hand g size.group (r.newer ++ []) (front r.newer) c0 m b.known sb sc r.memory disk.1))

    -- no page was damaged
    pub undamaged : (place : ℕ) → stop ≡ stops.Damaged place → ⊥
    undamaged place is = damaged_not stop r.hand g size.group (r.newer ++ []) (front r.newer) c0 m b.known sb sc r.memory place is disk.1

    -- as a read gives it
    module _ (no_fault : stop ≡ stops.DiskFault → ⊥) where
      st : StandsNow g r.newer (front r.newer) c0 b.known sc r.memory
      st = subst (λ (xs : List Done). StandsNow g xs (front r.newer) c0 b.known sc r.memory) nil (stands_now stop r.hand g size.group (r.newer ++ []) (front r.newer) c0 m b.known sb sc r.memory no_fault disk.1)

      stands_1 : Stands g (front r.newer) c0 st.known s1
      stands_1 = every_same sc s1 c0 g (front r.newer) st.known st.stands (λ a low. subst (λ (t : Rattle.std.proofs.Common.Bool). IsTrue t) (sym (l.notes.tells a)) (st.stands.tells a low)) (λ a low. l.notes.area a)

      holds_now : HoldsRun g (front r.newer) st.known.master (areas_of s1)
      holds_now = every_read laws.kept laws.prefixes laws.seals s1 c0 g (front r.newer) st.known stands_1 law_1

      cut : IsCutLast g r.newer r.told
      cut = go r.newer refl
        where
          whole : (xs : List Done) → r.newer ≡ xs → r.told ≡ r.replies → IsCutLast g xs r.told
          whole [] e q = tt
          whole (x ∷ xs) e q =
              let a = ap (λ (rs : List Reply). length rs) (q ∙ (replies_are ∙ ap (printed g) e)) in
              let b = length-append (due_lines g xs x) (Reply.Answered x.outcome.session (answered x.outcome.deed) ∷ printed g xs) in
              omega arith

          last_cut : (xs : List Done) → r.newer ≡ xs → IsLastCut g [] r.newer r.told → IsCutLast g xs r.told
          last_cut [] e q = tt
          last_cut (x ∷ xs) e q =
              let earlier_is : xs ≡ q.earlier = tail_is x q.last xs q.earlier (sym e ∙ q.calls_are) in
              let firsts_are : q.firsts ≡ printed g xs = sym (append-nil q.firsts) ∙ (sym q.lines ∙ ap (printed g) (append-nil q.earlier ∙ sym earlier_is)) in
              let a = ap (λ (rs : List Reply). length rs) q.told_are in
              let b = length-append q.said q.firsts in
              let c = ap (λ (rs : List Reply). length rs) firsts_are in
              omega (arith, a, b, c)
            where
              tail_is : (y z : Done) (ys zs : List Done) → y ∷ ys ≡ z ∷ zs → ys ≡ zs
              tail_is y z ys zs e = cc

          by_stop : (s : Stop) → stop ≡ s → PrintsTo (Some s) r.replies r.told r.tail → (xs : List Done) → r.newer ≡ xs → IsCutLast g xs r.told
          by_stop stops.End is q xs e = whole xs e q.told_is
          by_stop (stops.Refused line) is q xs e = whole xs e q.told_is
          by_stop stops.ReadFault is q xs e = whole xs e q.told_is
          by_stop stops.WriteFault is q xs e = last_cut xs e (r.cut (ap (λ (z : Stop). Some z) is))
          by_stop stops.DiskFault is q xs e = absurd (no_fault is)
          by_stop (stops.Damaged place) is q xs e = whole xs e q.told_is

          go : (xs : List Done) → r.newer ≡ xs → IsCutLast g xs r.told
          go xs e = by_stop stop refl r.prints xs e

      now_heard : HeardNow g r.newer r.told
      now_heard = let t = told_first stop r.replies r.told r.tail r.prints in heard_now g size.group r.newer t.0 r.told each (t.1 ∙ replies_are) cut

      its_now : AreAll stop r.newer now_heard.heard (next_of now_heard.unheard)
      its_now = go stop refl
        where
          none_left : now_heard.unheard ≡ [] → AreAll stop r.newer now_heard.heard (next_of now_heard.unheard)
          none_left e = All (ap (λ (xs : List Done). xs ++ now_heard.heard) (sym e) ∙ now_heard.are) (ap next_of e)

          whole : (stop ≡ stops.WriteFault → ⊥) → AreAll stop r.newer now_heard.heard (next_of now_heard.unheard)
          whole not_write = none_left (now_heard.whole (let a = ap (λ (rs : List Reply). length rs) ((all_put stop r.replies r.told r.tail not_write r.prints).told_is ∙ replies_are) in omega arith))

          go : (s : Stop) → stop ≡ s → AreAll stop r.newer now_heard.heard (next_of now_heard.unheard)
          go stops.End e = whole (λ q. cc)
          go (stops.Refused line) e = whole (λ q. cc)
          go stops.ReadFault e = whole (λ q. cc)
          go stops.DiskFault e = whole (λ q. cc)
          go (stops.Damaged place) e = whole (λ q. cc)
          go stops.WriteFault e = ⊎_elim none_left
              (λ one. ButNewest e one.0 (sym now_heard.are ∙ ap (λ (xs : List Done). xs ++ now_heard.heard) one.1) (ap next_of one.1)) now_heard.newest

      recovered : Recovers g NoneStopped now_heard.heard (next_of now_heard.unheard) r.told m (areas_of s1)
      recovered = now_heard.recovers laws.shown laws.crashes laws.agrees m st.known.master (areas_of s1) ((lines_law m b.known.master st.known.master).opened [] (front r.newer) of_known st.no_earlier) holds_now

      -- that crash, with the notes of these replies
      abbrev c1 : Crash
      c1 = record { notes = s0.notes + 1 + length r.told; writes = λ a. (s1.area a).writes; image = areas_of s1 }

      abbrev q1 : RunLeft g NoneStopped r.newer c0 m c1
      q1 = record { unheard = now_heard.unheard; heard = now_heard.heard; calls = now_heard.are; missing = now_heard.missing; out = r.told; lines = now_heard.lines; notes = refl; recovers = λ fair. recovered }

      at_first : (n : Master) × IsOfRun first.master n × (Rattle.buffered_engine.specs.disk_image.MasterSlots.master_on (areas_of s1 0) ≡ Some n)
      at_first = (st.known.master, ((lines_law first.master b.known.master st.known.master).opened [] (front r.newer) of_first st.no_earlier).of_run, holds_now.master)

      abbrev was_now : (lines_out : ℕ) → s1.notes ≡ s0.notes + lines_out → IsOutput counts.generation counts.winners counts.undone r.told (first_lines lines_out put) → WasOut NoneStopped (AllAnswered g) (AreAllOf g stop r.newer) g r.newer c0 m first.master s0 sa input put counts.generation counts.winners counts.undone (as_read s1)
      was_now lines_out notes is = record {
        crash = c1;
        left = q1;
        so = λ es none. absurd none;
        alone = λ es none. absurd none;
        its = (refl, its_now);
        few = all_few (front r.newer) taken;
        so_few = λ es none. absurd none;
        counts = λ fair. at_first;
        same = record { writes = λ a. refl; image = λ a. refl };
        lines = lines_out;
        notes = notes;
        output = is;
        script = script_for tells;
      }

      now : LeavesNow s1 (as_read s1)
      now = record { counts = subst (λ (t : Rattle.std.proofs.Common.Bool). IsTrue t) (sym (l.notes.counts ∙ r.others.counts)) counts_b; notes = refl; writes = λ a told. refl; leaves = λ a told. law_1.reads_so a told }

      at_end : (P : Type 0) → ((w : WasOut NoneStopped (AllAnswered g) (AreAllOf g stop r.newer) g r.newer c0 m first.master s0 sa input put counts.generation counts.winners counts.undone (as_read s1)) → Recovers g NoneStopped w.left.heard (next_of w.left.unheard) w.left.out m w.crash.image → ((n : Master) × IsOfRun first.master n × (Rattle.buffered_engine.specs.disk_image.MasterSlots.master_on (w.crash.image 0) ≡ Some n)) → P) → P
      at_end P so = ⊎_elim
          (λ (e : s1.notes ≡ sc.notes). so (was_now (suc (length r.told)) (let n = notes_c in let b = notes_b in omega arith) (first_output [] r.told refl)) recovered at_first)
          (λ (e : (s1.notes ≡ sc.notes + 1) × (stop ≡ stops.WriteFault → ⊥)). so (was_now (suc (suc (length r.told))) (let n = notes_c in let b = notes_b in let f = e.0 in omega arith) (last_output e.1)) recovered at_first)
          (l.noted (let a = told_few in let b = notes_b in let y = young.notes in let n = notes_c in omega arith) (as_read s1) now)

      pub stands : Survives m s0 input put (as_read s1)
      stands = at_end (Survives m s0 input put (as_read s1)) (λ w back of. survives_there size laws m s0 sa g first few o.of_size b r.newer each c0 input put counts.generation counts.winners counts.undone (as_read s1) NoneStopped AllAnswered (AreAllOf g stop r.newer) w back of)

      pub stays : IsLeft size AllAnswered (AreAllOf g stop r.newer) m s0 input put (as_read s1)
      stays = at_end (IsLeft size AllAnswered (AreAllOf g stop r.newer) m s0 input put (as_read s1)) (λ w back of. left_there size laws m s0 sa g first few o.of_size b r.newer each c0 input put counts.generation counts.winners counts.undone (as_read s1) NoneStopped AllAnswered (AreAllOf g stop r.newer) w back of)

      -- the logs of the engine
      blocks : (w : ℕ) → 0 < w → w ≤ g.workers → HasBlocks (state_after g (front r.newer)) st.known.master w (st.known.log w) (areas_of s1 (suc w))
      blocks w low high = let l = stands_1.logs w low high in record {
        is = l.is;
        written = (st.known.account w).written;
        in_hand = (st.known.account w).current;
        count = l.kept.next;
        lie = l.kept.holds.reads;
        payload = (l.kept.payload, l.kept.count);
        records = l.accounts.entries;
      }

      pub on_disk : IsOnDisk g r.newer r.memory (areas_of s1)
      on_disk = record {
        master = holds_now.master ∙ ap (λ (n : Master). Some n) st.memory_is.master;
        logs = λ w low high. subst (λ (log : Log). HasBlocks (state_after g (front r.newer)) r.memory.master w log (areas_of s1 (suc w))) (st.memory_is.log w low high)
            (subst (λ (n : Master). HasBlocks (state_after g (front r.newer)) n w (st.known.log w) (areas_of s1 (suc w))) st.memory_is.master (blocks w low high));
      }

  pub run_says : IsTrue feed0.tells → TellsAll size.sessions s0 → Headline s0 s1 input put
  run_says tells all = record {
    serial = serial tells all;
    any_moment = λ counts m clean young. weaker s0 s1 (LivesOn size Its m s0 input put) (RunLeaves m s0 input put) (run_leaves size Its m s0 input put) (leaves tells m (record { all = all; counts = counts }) clean young);
  }

  -- behind the logs of the sessions nothing is written
  beside : (a : ℕ) → suc g.workers < a → IsUntouched (s0.area a) (s1.area a)
  beside a high = subst (λ (x : Area). IsUntouched (s0.area a) x) (sym (l.notes.area a ∙ (r.others.area a high ∙ (noted.area a ∙ o.untouched a high)))) (record { bytes = refl; writes = refl; first = refl })

  pub run_ends : (status : ℕ) → status ≡ ended stop → (sink0 : ℕ) → HasCause sink0 sink_c (stop ≡ stops.WriteFault) → ((a : ℕ) → 1 + size.sessions < a → sa.area a ≡ s0.area a) → IsClosed stop r.newer → (events : List Event) → events ≡ front r.newer → RunEnds size status events s0 s1 feed0 feed1 held0 held1 sink0 sink1
  run_ends status is sink0 sinks others closed events made = record {
    put = put;
    holds = holds;
    how = OfScript (record {
      stop = stop;
      status_is = is;
      counts = counts;
      calls = r.newer;
      few = let f = r.few in omega (arith, f);
      calls_few = calls_few;
      none_spent = none_spent laws.lines g size.group first r.newer r.memory r.executes each few_lines;
      scans = scans_locked laws.met g size.group r.newer each;
      closed = closed;
      executed = record { opening = g; of_size = o.of_size; from = o.from; first = first; log = o.log; master = o.master; last = r.memory; executes = r.executes };
      read = text.read;
      printed = record {
        told = r.told;
        tail = r.tail;
        prints = subst (λ (rs : List Reply). PrintsTo (Some stop) rs r.told r.tail) replies_are r.prints;
        cut = λ failed. r.cut (ap (λ (s : Stop). Some s) failed);
        last = l.text;
        last_is = l.went sink0 sinks;
        put_is = refl;
      };
      told = λ tells. record {
        heard = calls_of h.heard;
        unheard = calls_of h.unheard;
        calls_are = sym (calls_append h.unheard h.heard) ∙ ap calls_of h.are;
        all_heard = λ not_write. ap calls_of (h.all_heard not_write);
        transcript_is = all_tells tells;
      };
      beside = beside;
      undamaged = λ tells m all clean young. undamaged tells m all clean young;
      stands = λ no_fault tells m all clean young. stands tells m all clean young no_fault;
      left = λ no_fault tells m all clean young. stays tells m all clean young no_fault;
      disk = λ no_fault tells m all clean young. on_disk tells m all clean young no_fault;
    });
    front = made;
    others = λ a lt. l.notes.area a ∙ (r.others.area a (let f = o.of_size.few in omega arith) ∙ (noted.area a ∙ others a lt));
    tells_on = record {
      counts = l.notes.counts ∙ (r.others.counts ∙ (noted.counts ∙ keeps.counts));
      tells = λ a. l.notes.tells a ∙ (r.others.tells a ∙ (noted.tells a ∙ keeps.tells a));
      areas = l.notes.areas ∙ (r.others.areas ∙ (noted.areas ∙ keeps.areas));
      later = let a = keeps.later in let b = noted.later in let c = r.others.later in let d = l.notes.later in omega arith;
    };
    headline = run_says;
    masters = λ tells m all clean young. weaker s0 s1 (LivesOn size Its m s0 input put) (MasterLeaves size Its m s0 input put) (master_leaves size Its m s0 input put) (leaves tells m all clean young);
  }

  pub run_headline : IsTrue feed0.tells → IsTrue held0.tells → TellsAll size.sessions s0 → Headline s0 s1 input (added held0 held1)
  run_headline tells sink_tells all = subst (Headline s0 s1 input) (sym (ap (drop (length held0.bytes)) (holds sink_tells) ∙ drop-append_seam held0.bytes put)) (run_says tells all)

pub every_run : Laws → (s0 sa sb sc s1 : Story) → EveryRun s0 sa sb sc s1
every_run laws s0 sa sb sc s1 size feed0 feed1 held0 held_b held_c held1 stop sink_c sink1 events x = record {
  ends = λ status is sink0 sinks others. run_ends size x.few x.frames laws s0 sa sb sc s1 x.law_a x.law_c x.law_1 x.g x.first x.counts x.starts x.keeps x.any held0 held_b held_c held1 x.opened_fits x.put feed0 feed1 x.reader stop x.last_memory x.runs sink_c sink1 x.last status is sink0 sinks others x.closed events x.made;
  headline = run_headline size x.few x.frames laws s0 sa sb sc s1 x.law_a x.law_c x.law_1 x.g x.first x.counts x.starts x.keeps x.any held0 held_b held_c held1 x.opened_fits x.put feed0 feed1 x.reader stop x.last_memory x.runs sink_c sink1 x.last;
}

-- ## How it ran

abbrev IsScript : {size : Size} {status : ℕ} {s0 s1 : Story} {feed0 feed1 : Feed} {put : List ℕ} {sink0 sink1 : ℕ} → HowRun size status s0 s1 feed0 feed1 put sink0 sink1 → Type 0
IsScript (OfReason reason unread) = ⊥
IsScript (OfCut cut) = ⊥
IsScript (OfScript ran) = Unit {0}

abbrev ran_in : {size : Size} {status : ℕ} {s0 s1 : Story} {feed0 feed1 : Feed} {put : List ℕ} {sink0 sink1 : ℕ} → (how : HowRun size status s0 s1 feed0 feed1 put sink0 sink1) → IsScript how → Ran size status s0 s1 feed0 feed1 put sink0 sink1
ran_in (OfReason reason unread) is = absurd is
ran_in (OfCut cut) is = absurd is
ran_in (OfScript ran) is = ran

-- these calls were executed from this opening on, and it stopped so
pub record EndsSo (size : Size) (status : ℕ) (events : List Event) (s0 s1 : Story) (feed0 feed1 : Feed) (held0 held1 : Held) (sink0 sink1 : ℕ) (g : Opening) (counts : Counts) (stop : Stop) (calls : List Done) : Type 0 where
  pub ends : RunEnds size status events s0 s1 feed0 feed1 held0 held1 sink0 sink1
  pub ran : Ran size status s0 s1 feed0 feed1 ends.put sink0 sink1
  pub how_is : ends.how ≡ OfScript ran
  pub opening_is : ran.executed.opening ≡ g
  pub counts_are : ran.counts ≡ counts
  pub stop_is : ran.stop ≡ stop
  pub calls_are : ran.calls ≡ calls

module _ (laws : Laws) (s0 sa sb sc s1 : Story) (size : Size) (feed0 feed1 : Feed) (held0 held_b held_c held1 : Held) (stop : Stop) (sink_c sink1 : ℕ) (events : List Event) (x : IsRun size s0 sa sb sc s1 feed0 feed1 held0 held_b held_c held1 stop sink_c sink1 events) where
  ends_by : (status : ℕ) → status ≡ ended stop → (sink0 : ℕ) → HasCause sink0 sink_c (stop ≡ stops.WriteFault) → ((a : ℕ) → 1 + size.sessions < a → sa.area a ≡ s0.area a) → RunEnds size status events s0 s1 feed0 feed1 held0 held1 sink0 sink1
  ends_by status is sink0 sinks others = run_ends size x.few x.frames laws s0 sa sb sc s1 x.law_a x.law_c x.law_1 x.g x.first x.counts x.starts x.keeps x.any held0 held_b held_c held1 x.opened_fits x.put feed0 feed1 x.reader stop x.last_memory x.runs sink_c sink1 x.last status is sink0 sinks others x.closed events x.made

  pub every_end : (status : ℕ) → status ≡ ended stop → (sink0 : ℕ) → HasCause sink0 sink_c (stop ≡ stops.WriteFault) → ((a : ℕ) → 1 + size.sessions < a → sa.area a ≡ s0.area a) → EndsSo size status events s0 s1 feed0 feed1 held0 held1 sink0 sink1 x.g x.counts stop x.runs.newer
  unfolding ends_by run_ends
  every_end status is sink0 sinks others = record {
    ends = ends_by status is sink0 sinks others;
    ran = ran_in (ends_by status is sink0 sinks others).how tt;
    how_is = refl;
    opening_is = refl;
    counts_are = refl;
    stop_is = refl;
    calls_are = refl;
  }
