-- What a crash leaves in a run of outcomes, from what recovery gives of it.
use Rattle.std.proofs.Common.{◌≡◌, ◌⊎◌, inl, inr, ⊎_elim, ◌<◌, ◌≤◌, ◌+◌, ◌^◌, ◌++◌, ◌==◌, ◌&&◌, not, ℕ, suc, leb, false, true, List, [], ◌∷◌, length, map, Option, Some, refl, sym, ◌∙◌, ap, ap₂, subst, arith, codes}
use mathlib.Core.Path.{fun_ext}
use Rattle.std.proofs.lemmas.Bool.{and_parts, eqb-true, leb-true, or_cases}
use Rattle.map_model.proofs.CountLemmas.{every_count}
use Rattle.map_model.proofs.ListLemmas.{any_has, has_order, has_right, keep_has}
use Rattle.map_model.specs.declared.call.Answered.{Answered}
use Rattle.map_model.specs.declared.call.Answer.{Answer}
use Rattle.map_model.specs.declared.call.Answer.TheVariants as answer
use Rattle.map_model.specs.declared.call.Call.TheVariants as call
use Rattle.map_model.specs.Journals.{Serial, Txn, after, is_earlier, journal_of}
use Rattle.map_model.specs.Lists.{Has, any}
use Rattle.map_model.specs.Maps.{Map}
use Rattle.map_model.specs.Outputs.{Reply, answers_told, names}
use Rattle.map_model.specs.Pairings.{EachGoesOn, EachIsAnswered, answers_in, counted, in_turn, is_open_line, script_of}
use Rattle.map_model.specs.Transcripts as model
use Rattle.map_model.specs.Transcripts.{Line, Told, journal, lines_in, lines_of, told_onto, txn_of}
use Rattle.buffered_engine.specs.image_model.Ends.{reach, wins}
use Rattle.buffered_engine.specs.image_model.Entries.{Entry, is_commit, is_record}
use Rattle.buffered_engine.specs.image_model.Fair.{IsFair}
use Rattle.buffered_engine.specs.image_model.Images.{Image, found, map_of, page_or, won_by}
use Rattle.buffered_engine.specs.image_model.Slots.{base_of}
use Rattle.lean_disk.specs.Story.{Crash, Story, areas_of}
use Rattle.buffered_engine.specs.disk_slots.declared.master.Master.{Master}
use Rattle.buffered_engine.specs.disk_slots.Slots as slots
use Rattle.buffered_engine.specs.log_block.Block as blocks
use Rattle.buffered_engine.specs.disk_image.Fair.{IsFairCrash}
use Rattle.buffered_engine.specs.disk_image.Masters.{IsOfRun}
use Rattle.buffered_engine.specs.disk_image.MasterSlots.{master_on}
use Rattle.buffered_engine.specs.disk_image.Shown.{Areas, DiskStandsFor, image_by, run_of, shown_by}
use Rattle.buffered_engine.specs.core_state.Events.{Event}
use Rattle.buffered_engine.specs.core_state.Openings.{Opening, first_map}
use Rattle.buffered_engine.specs.core_calls.Crashes.{HasOneInHand}
use Rattle.buffered_engine.specs.core_calls.Deeds.{Committed, Deed, Outcome, answered, asked, in_words}
use Rattle.buffered_engine.specs.core_calls.Deeds as deeds
use Rattle.buffered_engine.specs.core_calls.Fronts.{Done, front, outcomes}
use Rattle.buffered_engine.specs.core_calls.Runs.{EachTells}
use Rattle.buffered_engine.proofs.core_crash.Images.{gathered_has}
use Rattle.buffered_engine.specs.core_disk.Held.{HoldsLog}
use Rattle.buffered_engine.specs.core_state.Steps.{state_after}
use Rattle.buffered_engine.specs.disk_runs.Fair.{EveryFair, IsAsRead, IsFairFrom}
use Rattle.buffered_engine.specs.disk_runs.Masters.{IsNoEarlier, masters}
use Rattle.buffered_engine.proofs.disk_runs.LineLemmas.{every_master_count}
use Rattle.buffered_engine.specs.run_crashes.Lines.{FellIn, Between, InCall, Stopped, Recovers, RunLeft, next_of, outcome_of}
use Rattle.buffered_engine.specs.call_parts.Memory.{Memory}
use Rattle.buffered_engine.specs.engine_trait.Limits.{limits}
use Rattle.buffered_engine.specs.paged_engine.declared.opening.Size.{Size}
use Rattle.script_lang.specs.Replies.{reply_line}
use Rattle.script_lang.specs.Text.{script_lines}
use Rattle.transcripts.specs.Told.{EachLineFits, IsOutput, asked_lines}
use Rattle.transcripts.specs.Transcripts.{asked as asked_by, durables, first_lines, transcript}
use Rattle.transcripts.proofs.AbortLemmas.{lines_more}
use Rattle.transcripts.proofs.MoreLemmas.{next_told}
use Rattle.transcripts.proofs.OrderLemmas.{all_count}
use Rattle.transcripts.proofs.TranscriptLemmas.{calls_told, names_told}
use Rattle.event_counts.specs.Draws.{GoesTo, draws}
use Rattle.lean_shell.specs.Crashes.{IsNear}
use Rattle.lean_shell.specs.Headline.{IsInHand, Survives}
use Rattle.lean_shell.specs.Inside.Begins.{Begins}
use Rattle.lean_shell.specs.Inside.Laws.{Laws}
use Rattle.lean_shell.specs.Inside.Lefts.{IsSameBut, Lives}
use Rattle.lean_shell.specs.Starts.{HasLinesFor, IsBaseOf, IsLeft, IsOfSize, IsRoomOfNext}
use Rattle.lean_shell.proofs.Runs.BeginLemmas.{one_greatest}
use Rattle.lean_shell.proofs.Runs.BelowLemmas.{commit_above}
use Rattle.lean_shell.proofs.Runs.CountLemmas.{TakesFew}
use Rattle.lean_shell.proofs.Runs.FoundLemmas.{IsBounded, bounded}
use Rattle.lean_shell.proofs.Runs.NearLemmas.{fell_few, greatest_most}
use Rattle.lean_shell.proofs.Runs.PrintedLemmas.{HasOutcome, IsNext, answers_heard, goes_on, next_behind, next_is, tells_first, with_outcome}
use Rattle.lean_shell.proofs.Runs.ScriptLemmas.{answered_by, answered_first, comes_behind, commit_closed, first_lines_for}
use Rattle.script_run.specs.Runs.{calls_of}

-- ## The transaction in hand

-- that of an outcome, behind others
abbrev own_of : Outcome → List Outcome → (number at : ℕ) → Txn
own_of y told number at = txn_of (record { session = y.session; number = number; at = at; lines = lines_in y.session (lines_of (deeds.transcript told)) })

-- a commit has its transaction in the journal
has_own : (y : Outcome) (told : List Outcome) (number at : ℕ) → y.deed ≡ Committed number at → Has (own_of y told number at) (journal (deeds.transcript (y ∷ told)))
has_own y told number at e =
    subst (λ (ls : List Line). Has (own_of y told number at) (journal_of (map txn_of (model.told ls)))) (sym (lines_more [] (deeds.transcript told) (in_words y)))
    (has_order is_earlier (map txn_of (told_onto (answered y.deed) y.session behind older)) (own_of y told number at)
    (subst (λ (d : Deed). Has (own_of y told number at) (map txn_of (told_onto (answered d) y.session behind older))) (sym e) (inl refl)))
  where
    behind : List Line
    behind = lines_in y.session (lines_of (deeds.transcript told))

    older : List Told
    older = model.told (lines_of (deeds.transcript told))

some_is : {A : Type 0} (x y : A) → Some x ≡ Some y → x ≡ y
some_is x y e = cc

-- ## A crash

-- a fair image has a master that is of a run of this one
abbrev pub CountsFrom : Opening → Crash → Master → Crash → Type 0
CountsFrom g s0 n1 c = IsFairFrom g.workers s0 c → (n : Master) × IsOfRun n1 n × (master_on (c.image 0) ≡ Some n)

-- A crash of a run of these outcomes, with another count of notes: as so many lines of an output were out, which have the lines that were out in the run.
pub record WasOut (Such Then : List Done → List Event → Type 0) (AreIts : Opening → List Done → Option Done → Type 0) (g : Opening) (xs : List Done) (c0 : Crash) (m n1 : Master) (s0 sa : Story) (input put : List ℕ) (generation winners undone : ℕ) (d : Crash) : Type 0 where
  pub crash : Crash
  pub left : RunLeft g Such xs c0 m crash
  -- where a call was not answered all others were heard, and what it did is such
  pub so : (es : List Event) → Such left.heard es → Then left.heard es
  pub alone : (es : List Event) → Such left.heard es → left.unheard ≡ []
  pub its : AreIts g left.heard (next_of left.unheard)
  -- they take few numbers, and few events are of a call that was not answered
  pub few : TakesFew (front xs)
  pub so_few : (es : List Event) → Such left.heard es → length es ≤ 2 ^ 26
  pub counts : CountsFrom g c0 n1 crash
  pub same : IsSameBut crash d
  pub lines : ℕ
  pub notes : d.notes ≡ s0.notes + lines
  pub output : IsOutput generation winners undone left.out (first_lines lines put)
  pub script : HasLinesFor g.workers input xs

module _ (size : Size) (laws : Laws) (m : Master) (s0 sa : Story) (g : Opening) (first : Memory) (few : size.sessions ≤ 16) (of_size : IsOfSize size g) (b : Begins m s0 sa g first) (xs : List Done) (each : EachTells limits g size.group xs) (c0 : Crash)
    (input put : List ℕ) (generation winners undone : ℕ) (d : Crash) (Such : List Done → List Event → Type 0) (Then : Opening → List Done → List Event → Type 0) (AreIts : Opening → List Done → Option Done → Type 0) (o : WasOut Such (Then g) AreIts g xs c0 m first.master s0 sa input put generation winners undone d) where
  abbrev q : RunLeft g Such xs c0 m o.crash
  q = o.left

  abbrev n1 : Master
  n1 = first.master

  abbrev said : List Answered
  said = calls_of o.left.heard

  abbrev out : List ℕ
  out = first_lines o.lines put

  abbrev W : ℕ
  W = length m.heads

  workers_are : g.workers ≡ length m.heads
  workers_are = b.starts.logs

  many : length m.heads < 2 ^ 32
  many = let e = workers_are in let f = of_size.few in omega (arith, e, f, few)

  script : HasLinesFor (length m.heads) input xs
  script = subst (λ (n : ℕ). HasLinesFor n input xs) workers_are o.script

  each_heard : EachTells limits g size.group o.left.heard
  each_heard = tells_first g size.group o.left.unheard o.left.heard (subst (EachTells limits g size.group) (sym o.left.calls) each)

  all_in_order : EachIsAnswered (asked_by (length m.heads) (script_lines input)) (in_turn (calls_of xs))
  all_in_order = answered_by (length m.heads) input g size.group xs many each script

  answers_are : answers_told o.left.out ≡ answers_in (in_turn said)
  answers_are = answers_heard laws.printed g o.left.heard o.left.missing o.left.out o.left.lines

  told_is : transcript (length m.heads) input out ≡ counted (in_turn said)
  told_is = calls_told laws.back laws.quiet (length m.heads) generation winners undone said o.left.out input out (answered_first (asked_by (length m.heads) (script_lines input)) o.left.unheard o.left.heard xs o.left.calls all_in_order) answers_are o.output

  journal_is : journal (transcript (length m.heads) input out) ≡ journal (in_turn said)
  journal_is = ap journal told_is ∙ every_count (in_turn said)

  durables_are : durables out ≡ names o.left.out
  durables_are = names_told laws.back laws.quiet generation winners undone o.left.out out o.output

  -- a fair image is one from the beginning of the run on
  pub fair_from : EveryFair s0 → IsAsRead s0 c0 → IsFairCrash (length m.heads) s0 d → IsFairFrom g.workers c0 o.crash
  fair_from fair_law read fair =
      let f : IsFairFrom (length m.heads) c0 d = (fair_law (length m.heads) c0 d read).0 fair in
      record {
        masters = λ since e. subst (IsFair 1024 (slots.IsSealed (codes "LEANMAST")) (c0.image 0) since) (o.same.image 0) (f.masters since (o.same.writes 0 ∙ e));
        pages = λ since e. subst (IsFair 1024 (slots.IsSealed (codes "LEANPAGE")) (c0.image 1) since) (o.same.image 1) (f.pages since (o.same.writes 1 ∙ e));
        log = λ w low high since e. subst (IsFair 2048 blocks.IsSealed (c0.image (suc w)) since) (o.same.image (suc w)) (f.log w low (let l = workers_are in omega arith) since (o.same.writes (suc w) ∙ e));
      }

  module _ (r : Recovers g Such o.left.heard (next_of o.left.unheard) o.left.out m o.crash.image) (at_first : (n : Master) × IsOfRun first.master n × (master_on (o.crash.image 0) ≡ Some n)) where
    -- the events behind which it counts
    abbrev by : List Event
    by = front o.left.heard ++ r.behind

    -- the master that counts is that of the opening, or a later one
    of_first : IsOfRun first.master r.n
    of_first = subst (IsOfRun first.master) (some_is at_first.0 r.n (sym at_first.2 ∙ r.holds.master)) at_first.1

    next_generation : first.master.generation ≡ suc m.generation
    next_generation = ap (λ (x : Master). x.generation) b.next.is

    generation_is : r.n.generation ≡ first.master.generation
    generation_is = let e = next_generation in
        ⊎_elim (λ p. p) (λ p. ⊎_elim (λ s. absurd (omega (arith, p, s, e))) (λ s. s ∙ sym e) r.of_run.of_run.generation) of_first.generation

    most : r.n.sequence ≤ first.master.sequence + masters by
    most = let q = r.of_run.most in let u = generation_is in let v = next_generation in let w : first.master.sequence ≡ suc m.sequence = ap (λ (x : Master). x.sequence) b.next.is in omega arith

    later : IsNoEarlier (front o.left.heard ++ r.behind) first.master r.n
    later = record { sequence = of_first.sequence; most = most; generation = generation_is; pages = of_first.pages; blocks = of_first.blocks; logs = of_first.logs }

    abbrev image : Image
    image = image_by r.n o.crash.image

    -- what is read from a log is within its bounds
    record IsRead (e : Entry) : Type 0 where
      log : ℕ
      low : 0 < log
      high : log ≤ g.workers
      bounds : IsBounded log e

    read : (e : Entry) → Has e (found image) → IsRead e
    read e i =
        let w = gathered_has image.log image.logs e i in
        let high : w.0 ≤ g.workers = let a = r.holds.is.logs in let c = w.1.1 in omega arith in
        let h : HoldsLog g (state_after g (front o.left.heard ++ r.behind)) r.n w.0 (o.crash.image (suc w.0)) = r.holds.logs w.0 w.1.0 high in
        record { log = w.0; low = w.1.0; high = high; bounds = bounded laws.blocks r.n.generation w.0 r.n.blocks (run_of r.n w.0 (o.crash.image (suc w.0))) h.holds.readable e w.2 }

    module _ (k : HasOneInHand image (outcomes o.left.heard) (outcome_of (next_of o.left.unheard)) r.by_then) where
      nx : HasOutcome (next_of o.left.unheard) k.outcome
      nx = with_outcome (next_of o.left.unheard) k.outcome k.is_next

      abbrev comes : IsNext o.left.unheard nx.done
      comes = next_is o.left.unheard nx.done nx.is

      behind_heard : comes.0 ++ (nx.done ∷ o.left.heard) ≡ xs
      behind_heard = next_behind o.left.unheard o.left.heard xs nx.done o.left.calls comes

      each_next : EachTells limits g size.group (nx.done ∷ o.left.heard)
      each_next = tells_first g size.group comes.0 (nx.done ∷ o.left.heard) (subst (EachTells limits g size.group) (sym behind_heard) each)

      deed_is : nx.done.outcome.deed ≡ Committed k.number k.at
      deed_is = ap (λ (z : Outcome). z.deed) nx.outcome ∙ k.commit

      -- the crash fell among its events
      before_all : (at : List Event → Type 0) → ((after : List Event) → r.behind ++ after ≡ nx.done.events → at r.behind) → at r.behind
      before_all at so = go r.fell
        where
          empty : (es : List Event) → es ≡ [] → es ++ nx.done.events ≡ nx.done.events
          empty es e = ap (λ (l : List Event). l ++ nx.done.events) e

          none : o.left.unheard ≡ [] → at r.behind
          none e = absurd (no_next nx.done (sym (ap next_of e) ∙ nx.is))
            where
              no_next : (x : Done) → ◌≡◌ {A = Option Done} Rattle.std.proofs.Common.None (Some x) → ⊥
              no_next x p = cc

          go : FellIn (Such o.left.heard) (next_of o.left.unheard) r.behind → at r.behind
          go (Between e) = so nx.done.events (empty r.behind e)
          go (InCall y e after is) = so after (is ∙ ap (λ (z : Done). z.events) (some_is y nx.done (sym e ∙ nx.is)))
          go (Stopped such) = none (o.alone r.behind such)

      -- its number is above the floor
      not_cut : leb k.more.at image.floor ≡ true → ⊥
      not_cut e = before_all (λ es. ⊥) (λ after is.
          let low : k.more.at ≤ r.n.floor = leb-true k.more.at image.floor e in
          let high = commit_above laws.rises g size.group o.left.heard nx.done k.number k.at each_next.1 deed_is r.behind after is in
          let more = k.at_is in
          let floor = r.holds.is.floor.low in
          omega (arith, low, high, more, floor))

      -- so its record was found
      abbrev is_its : Entry → Rattle.std.proofs.Common.Bool
      is_its e = wins (reach image.logs image.floor (found image)) e && ((e.log == k.more.session) && (e.txn == k.more.number))

      record IsEnd : Type 0 where
        end : Entry
        has : Has end (found image)
        commit : is_commit end.kind ≡ true
        log : end.log ≡ k.outcome.session
        txn : end.txn ≡ k.number

      end_of : IsEnd
      end_of = ⊎_elim (λ low. absurd (not_cut low)) some (or_cases (leb k.more.at image.floor) (any is_its (found image)) k.kept)
        where
          some : any is_its (found image) ≡ true → IsEnd
          some e =
              let w = any_has is_its (found image) e in
              let parts = and_parts (wins (reach image.logs image.floor (found image)) w.0) ((w.0.log == k.more.session) && (w.0.txn == k.more.number)) w.2 in
              let names = and_parts (w.0.log == k.more.session) (w.0.txn == k.more.number) parts.1 in
              record {
                end = w.0;
                has = w.1;
                commit = (and_parts (is_commit w.0.kind) (leb w.0.need (reach image.logs image.floor (found image))) parts.0).0;
                log = eqb-true w.0.log k.more.session names.0 ∙ k.session_is;
                txn = eqb-true w.0.txn k.more.number names.1 ∙ k.number_is;
              }

      -- and has the number of the transaction
      at_is : k.at ≡ end_of.end.number
      at_is = r.numbers end_of.end end_of.has end_of.commit (own_of k.outcome (outcomes o.left.heard) k.number k.at)
          (subst (Has (own_of k.outcome (outcomes o.left.heard) k.number k.at)) (sym k.all) (has_own k.outcome (outcomes o.left.heard) k.number k.at k.commit))
          (sym end_of.log) (sym end_of.txn)

      abbrev a : Answer
      a = answer.Committed end_of.end.txn end_of.end.number

      abbrev x : Answered
      x = record { session = end_of.end.log; call = call.Commit; answer = answer.Committed end_of.end.txn end_of.end.number }

      words_are : in_words k.outcome ≡ x
      words_are =
          ap₂ (λ (w : ℕ) (e : Deed). record { session = w; call = asked e; answer = answered e }) (sym end_of.log) k.commit
          ∙ ap₂ (λ (i j : ℕ). record { session = end_of.end.log; call = call.Commit; answer = answer.Committed i j }) (sym end_of.txn) at_is

      next_words : in_words nx.done.outcome ≡ x
      next_words = ap in_words nx.outcome ∙ words_are

      in_order : EachIsAnswered (asked_by (length m.heads) (script_lines input)) (in_turn (x ∷ said))
      in_order = subst (λ (y : Answered). EachIsAnswered (asked_by (length m.heads) (script_lines input)) (in_turn (y ∷ said))) next_words
          (answered_first (asked_by (length m.heads) (script_lines input)) comes.0 (nx.done ∷ o.left.heard) xs behind_heard all_in_order)

      goes : EachGoesOn (x ∷ said)
      goes = subst (λ (y : Answered). EachGoesOn (y ∷ said)) next_words (goes_on g size.group (nx.done ∷ o.left.heard) each_next)

      -- the line before is done with
      closed : is_open_line said ≡ false
      closed = commit_closed g size.group nx.done o.left.heard k.number k.at each_next deed_is

      all_count_now : counted (in_turn said) ≡ in_turn said
      all_count_now = all_count said goes.0 closed

      more_is : transcript (length m.heads) input (out ++ reply_line (Reply.Answered end_of.end.log a)) ≡ in_turn said ++ x ∷ []
      more_is =
          let z = read end_of.end end_of.has in
          let p = z.high in
          let w = z.bounds.log_is in
          let f = of_size.few in
          next_told laws.back laws.quiet (length m.heads) generation winners undone x said o.left.out input put o.lines in_order (omega (arith, p, w, f, few), (z.bounds.txn, z.bounds.number)) answers_are o.output
          ∙ all_count (x ∷ said) goes refl

      next_lines : HasLinesFor (length m.heads) input (nx.done ∷ o.left.heard)
      next_lines = first_lines_for (length m.heads) input comes.0 (nx.done ∷ o.left.heard) xs behind_heard script

      comes_next : asked_by (length m.heads) (script_lines input) ≡ script_of said ++ (end_of.end.log, call.Commit) ∷ asked_by (length m.heads) next_lines.others
      comes_next = comes_behind (length m.heads) input x said next_lines.others many closed (subst (λ (y : Answered). EachLineFits (length m.heads) (script_of (y ∷ said))) next_words next_lines.fits)
          (next_lines.lines ∙ ap (λ (y : Answered). asked_lines (script_of (y ∷ said)) ++ next_lines.others) next_words)

      in_hand : IsInHand (length m.heads) input out (found image) r.by_then
      in_hand = record {
        end = end_of.end;
        has = end_of.has;
        commit = end_of.commit;
        calls = said;
        told = told_is ∙ all_count_now;
        others = asked_by (length m.heads) next_lines.others;
        comes = comes_next;
        reply = reply_line (Reply.Answered end_of.end.log a);
        reply_is = refl;
        next = more_is;
        all_is = k.all ∙ (ap (λ (z : Answered). journal (in_turn said ++ z ∷ [])) words_are ∙ ap journal (sym more_is));
      }

    maps : first_map g ≡ map_of (image_by m (areas_of s0))
    maps = fun_ext b.map

    by_then_is : (r.by_then ≡ journal (transcript (length m.heads) input out)) ⊎ IsInHand (length m.heads) input out (found image) r.by_then
    by_then_is = ⊎_elim (λ e. inl (e ∙ sym journal_is)) (λ k. inr (in_hand k)) r.by_then_is

    -- with the bytes of the crash
    abbrev with_bytes : Areas → Crash
    with_bytes i = record d { image = i }

    bases : (p : ℕ) → p < r.n.pages → IsBaseOf g by p (base_of (shown_by r.n o.crash.image) p)
    bases p low = let h = r.holds.pages p low in record { page = h.page; is = h.base; version = h.version }

    fell_then : FellIn (Such o.left.heard) (next_of o.left.unheard) r.behind → FellIn (Then g o.left.heard) (next_of o.left.unheard) r.behind
    fell_then (Between e) = Between e
    fell_then (InCall y e after is) = InCall y e after is
    fell_then (Stopped such) = Stopped (o.so r.behind such)

    left : IsLeft size Then AreIts m s0 input put (with_bytes o.crash.image)
    left = record {
      lines = o.lines;
      notes = o.notes;
      n = r.n;
      counts = r.holds.master;
      of_opening = record { first = first.master; next = b.next; events = by; later = later };
      opening = g;
      starts = b.starts;
      of_size = of_size;
      heard = o.left.heard;
      each = each_heard;
      told = told_is;
      missing = o.left.missing;
      out = o.left.out;
      lines_are = o.left.lines;
      reported = durables_are;
      next_one = next_of o.left.unheard;
      is_next = λ x e. let n = next_is o.left.unheard x e in let behind = next_behind o.left.unheard o.left.heard xs x o.left.calls n in record {
        lines = first_lines_for g.workers input n.0 (x ∷ o.left.heard) xs behind o.script;
        tells = (tells_first g size.group n.0 (x ∷ o.left.heard) (subst (EachTells limits g size.group) (sym behind) each)).1;
      };
      its = o.its;
      behind = r.behind;
      fell = fell_then r.fell;
      written = refl;
      floor = r.holds.is.floor;
      bases = bases;
      logs = λ w low high. let h = r.holds.logs w low (let e = workers_are in omega arith) in record { newer = h.holds.prefix.0; left = h.left; logged = h.holds.prefix.1; flushed = h.holds.flushed; are = h.holds.entries };
    }

    -- ## Numbers

    drawn_few : draws by ≤ 2 ^ 59 + 2 ^ 54 + 2 ^ 26
    drawn_few = fell_few draws (λ xs ys. (laws.draws g xs ys).more) (λ xs. (laws.draws g xs []).few) (Such o.left.heard) (2 ^ 59 + 2 ^ 54) (2 ^ 26) o.left.unheard o.left.heard xs o.left.calls o.few.draw o.so_few r.behind r.fell

    written_few : masters by ≤ 2 ^ 59 + 2 ^ 54 + 2 ^ 26
    written_few = fell_few masters (λ xs ys. (every_master_count xs ys).more) (λ xs. (every_master_count xs []).few) (Such o.left.heard) (2 ^ 59 + 2 ^ 54) (2 ^ 26) o.left.unheard o.left.heard xs o.left.calls o.few.write o.so_few r.behind r.fell

    reaches : GoesTo (g.base + draws by) (state_after g by)
    reaches = (laws.draws g by []).goes_to

    -- a record that is found is one of the run's
    found_low : (e : Entry) → Has e (found image) → e.number ≤ g.base + draws by
    found_low e i =
        let w = gathered_has image.log image.logs e i in
        let high : w.0 ≤ g.workers = let a = r.holds.is.logs in let c = w.1.1 in omega arith in
        let h : HoldsLog g (state_after g by) r.n w.0 (o.crash.image (suc w.0)) = r.holds.logs w.0 w.1.0 high in
        let own = (keep_has (λ z. not (leb z.number ((state_after g by).head w.0))) h.left e (subst (Has e) h.holds.entries w.2)).0 in
        let there = subst (Has e) h.holds.prefix.1 (has_right e h.holds.prefix.0 h.left own) in
        reaches.entered e (keep_has (λ z. is_record z.kind && (z.log == w.0)) (state_after g by).entries e there).0

    near : IsNear m s0 r.n o.crash.image
    near = record {
      sequence = let q = most in let v = written_few in let w : first.master.sequence ≡ suc m.sequence = ap (λ (x : Master). x.sequence) b.next.is in omega arith;
      greatest = λ low high l h.
          let base : g.base ≡ low = one_greatest (image_by m (areas_of s0)) g.base low b.starts.base l in
          let v = drawn_few in
          let floor = r.holds.is.floor.low in
          let own = reaches.floor in
          let top : high ≤ g.base + draws by = greatest_most image high (g.base + draws by) h (omega (arith, floor, own)) found_low
          (λ p within.
          let h = r.holds.pages p within in
          let e = ap (λ o. (page_or o).gsn) h.base in
          let v = (laws.versions g by p).known h.page h.version.been in
          let d = reaches.pages p in
          omega arith) in
          omega (arith, top, base, v);
    }

    survives : Survives m s0 input put (with_bytes o.crash.image)
    survives = record {
      lines = o.lines;
      notes = o.notes;
      n = r.n;
      of_run = r.of_run.of_run;
      near = near;
      by_then = r.by_then;
      by_then_is = by_then_is;
      falls = r.falls;
      serial = subst (λ (mp : Map). Serial mp r.by_then) maps r.serial;
      numbers = r.numbers;
      kept_ones = r.kept_ones;
      kept_is = r.kept_is;
      closed = r.closed;
      reported = λ name i. r.reported name (subst (Has name) durables_are i);
      clean = r.clean;
      stands = subst (λ (mp : Map). DiskStandsFor r.n o.crash.image (after mp r.kept_ones) (won_by (image_by r.n o.crash.image))) maps r.stands;
    }

    pub left_there : IsLeft size Then AreIts m s0 input put d
    left_there = subst (λ (i : Areas). IsLeft size Then AreIts m s0 input put (with_bytes i)) (sym (fun_ext o.same.image)) left

    pub survives_there : Survives m s0 input put d
    survives_there = subst (λ (i : Areas). Survives m s0 input put (with_bytes i)) (sym (fun_ext o.same.image)) survives

-- where a call may have been stopped
module _ (size : Size) (laws : Laws) (m : Master) (s0 sa : Story) (g : Opening) (first : Memory) (few : size.sessions ≤ 16) (of_size : IsOfSize size g) (b : Begins m s0 sa g first) (xs : List Done) (each : EachTells limits g size.group xs) (c0 : Crash)
    (input put : List ℕ) (generation winners undone : ℕ) (d : Crash) (Such : List Done → List Event → Type 0) (AreIts : Opening → List Done → Option Done → Type 0) (o : WasOut Such (IsRoomOfNext input g) AreIts g xs c0 m first.master s0 sa input put generation winners undone d) where
  pub lives_as : EveryFair s0 → IsAsRead s0 c0 → IsFairCrash (length m.heads) s0 d → Lives size AreIts m s0 input put d
  lives_as fair_law read fair =
      let f = fair_from size laws m s0 sa g first few of_size b xs each c0 input put generation winners undone d Such (IsRoomOfNext input) AreIts o fair_law read fair in
      let r = o.left.recovers f in
      let l = left_there size laws m s0 sa g first few of_size b xs each c0 input put generation winners undone d Such (IsRoomOfNext input) AreIts o r (o.counts f) in
      record {
        survives = survives_there size laws m s0 sa g first few of_size b xs each c0 input put generation winners undone d Such (IsRoomOfNext input) AreIts o r (o.counts f);
        master = record { n = l.n; counts = l.counts; is = inr l.of_opening; left = inr l };
      }
