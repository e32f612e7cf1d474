-- Calls one after another: none is asked, one fails, one is answered and its lines are put, and more follow.
use Rattle.std.proofs.Common.{◌≡◌, ◌++◌, ◌∷◌, [], ◌<◌, ◌+◌, ◌^◌, ℕ, Bool, List, Option, Some, None, length, refl, sym, ap, ◌∙◌, subst, arith, true≢false}
use Rattle.std.proofs.lemmas.List.{append-nil, length-append}
use mathlib.Core.List.{append_assoc}
use Rattle.lean_edge.specs.Outside.{Held}
use Rattle.lean_disk.specs.Moments.{LeavesOnly}
use Rattle.lean_disk.specs.Story.{Crash, IsLawful, Story}
use Rattle.lean_disk.proofs.MomentLemmas.{then}
use Rattle.map_model.specs.declared.call.Call.{Call}
use Rattle.map_model.specs.declared.call.Answer.{Answer}
use Rattle.map_model.specs.Lists.{any}
use Rattle.map_model.specs.Outputs.{Reply}
use Rattle.call_parts.specs.core_state.Events.{Event}
use Rattle.call_parts.specs.core_state.Local.{is_sync}
use Rattle.call_parts.specs.core_state.Openings.{Opening}
use Rattle.call_parts.specs.disk_slots.declared.master.Master.{Master}
use Rattle.call_parts.specs.core_calls.Fronts.{Done, front}
use Rattle.call_parts.specs.core_calls.Printed.{printed}
use Rattle.call_parts.specs.disk_runs.Masters.{IsOfRunBy}
use Rattle.call_parts.specs.disk_runs.Stands.{Known}
use Rattle.call_parts.specs.run_crashes.Lines.{lines_of}
use Rattle.call_parts.specs.engine_calls.Clauses.{Between}
use Rattle.call_parts.specs.engine_trait.Limits.{limits}
use Rattle.call_parts.specs.Areas.{is_save}
use Rattle.call_parts.specs.Deeds.{Does, Fails, Happens}
use Rattle.call_parts.specs.Memory.{IsOf, Memory}
use Rattle.call_parts.specs.Rooms.{may_save, may_sync}
use Rattle.engine_front.specs.Stops.{StandsNot}
use Rattle.script_run.specs.Runs.{DiskTo, Executes, Hand, Holds, IsLastCut, PrintsTo, RunStands, StaysAside}
use Rattle.script_run.specs.Inside.{CallsRun, IsOfEngine, Laws, Says, StopsFor}
use Rattle.script_run.specs.declared.stop.Stop.{Stop}
use Rattle.script_run.specs.declared.stop.Stop.TheVariants.{WriteFault, DiskFault, Damaged}
use Rattle.script_run.proofs.DueLemmas.{printed_more}
use Rattle.script_run.proofs.DiskLemmas.{IsCalm, answered, calm, disk_later, none_stands, others_call, others_fault, others_same, others_then, stays_behind, stays_call, stays_more, stays_none, stays_put, stopped}
use Rattle.script_run.proofs.StopLemmas.{engine_ends, engine_no_sink, failed_of}
use Rattle.script_run.proofs.PutLemmas.{fits_then, holds_none, holds_then, prints_more}

module _ (laws : Laws) (group : ℕ) (g : Opening) (xs : List Done) (m0 : Memory) (old : Story) (law : IsLawful old) where
  -- no call is asked: the sink, the disk and the engine stand
  pub no_call : (stop : Option Stop) (hand : Hand) (held : Held) → IsCalm stop → PrintsTo stop [] [] [] → (stop ≡ Some WriteFault → ⊥) → CallsRun [] stop hand group g xs m0 m0 held held old old
  no_call stop hand held of prints no_sink = record {
    memory = m0;
    executes = refl;
    memory_is = λ works. refl;
    replies = [];
    lines = refl;
    told = [];
    tail = [];
    reply_fits = tt;
    prints = prints;
    cut = λ e. absurd (no_sink e);
    holds = holds_none held;
    others = others_same g.workers old;
    disk = λ s0 m k between of_run memory_is room. (
      stays_none g.workers 0 old law,
      calm stop hand g group xs [] s0 m k old old m0 of (none_stands laws g group s0 m xs k old law between of_run m0 memory_is),
    );
  }

  -- The disk failed, or a page of it was damaged.
  module _ (hand : Hand) (m1 : Memory) (mid : Story) (held : Held) where
    abbrev Failed : Type 0
    Failed = Fails g group xs hand.session hand.call m0 old mid

    abbrev Never : Type 0
    Never = StandsNot g group xs m0 old

    abbrev saves : Bool
    saves = may_save xs hand.call

    abbrev syncs : Bool
    syncs = may_sync g xs hand.session hand.call

    none_put : (stop : Stop) → IsOfEngine stop → PrintsTo (Some stop) [] [] []
    none_put DiskFault of = record { told_is = refl; none = refl }
    none_put (Damaged place) of = record { told_is = refl; none = refl }
    none_put _ of = absurd of

    disk_fails : (stop : Stop) → StopsFor stop Failed Never → (s0 : Crash) (m : Master) (k : Known) → Between limits g group xs s0 k old → IsOfRunBy (front xs) m k.master → IsOf g m0 k → DiskTo (Some stop) hand g group xs [] s0 m k old mid m0
    disk_fails DiskFault fails s0 m k between of_run memory_is = let l = fails.leaves s0 k between memory_is in stopped laws g group s0 m xs k old law between of_run mid hand l.stops
    disk_fails (Damaged place) stops s0 m k between of_run memory_is = stops.1 s0 k between memory_is
    disk_fails _ stops s0 m k between of_run memory_is = absurd stops

    pub fault_call : (stop : Stop) → IsOfEngine stop → StopsFor stop Failed Never → CallsRun [] (Some stop) hand group g xs m0 m1 held held old mid
    fault_call stop of stops =
        let fails : Failed = failed_of stop Failed Never stops in
        record {
          memory = m0;
          executes = refl;
          memory_is = λ works. absurd (true≢false (sym works ∙ engine_ends stop of));
          replies = [];
          lines = refl;
          told = [];
          tail = [];
          reply_fits = tt;
          prints = none_put stop of;
          cut = λ e. absurd (engine_no_sink stop of e);
          holds = holds_none held;
          others = others_fault g.workers saves syncs old mid fails.frame;
          disk = λ s0 m k between of_run memory_is room.
              let l = fails.leaves s0 k between memory_is in
              (stays_call g.workers 0 saves syncs old mid l.within, disk_fails stop stops s0 m k between of_run memory_is);
        }

  -- it was answered, and its lines were put
  pub answer_call : (own : ℕ) (call : Call) (a : Answer) (m1 m2 : Memory) (mid new : Story) (does : Does g group xs own call a m0 m1 old mid) (stop : Option Stop) (hand : Hand) (h0 h1 : Held) → Says (lines_of g xs does.done) stop h0 h1 mid new → m2 ≡ m1
      → CallsRun (does.done ∷ []) stop hand group g xs m0 m2 h0 h1 old new
  answer_call own call a m1 m2 mid new does stop hand h0 h1 said same =
      let saves = any is_save does.done.events in
      let syncs = any is_sync does.done.events in
      record {
        memory = m1;
        executes = (m0, refl, does.happens);
        memory_is = λ works. same;
        replies = lines_of g xs does.done;
        lines = printed_more g xs does.done;
        told = said.told;
        tail = said.tail;
        reply_fits = said.fit;
        prints = said.prints;
        cut = λ e. record { last = does.done; earlier = []; calls_are = refl; firsts = []; lines = refl; said = said.told; told_are = sym (append-nil said.told) };
        holds = said.holds;
        others = others_call g.workers said.told saves syncs old mid new does.frame said.notes;
        disk = λ s0 m k between of_run memory_is room.
            let kept = does.keeps s0 k between memory_is in (
              then old mid new (StaysAside g.workers (length said.told) old) (stays_call g.workers (length said.told) saves syncs old mid kept.within)
                  (stays_put g.workers said.told saves syncs old mid new does.frame between.counts room said.any_moment),
              answered laws g group s0 m xs k old law between of_run does.done saves syncs m1 mid new does.frame kept said.told said.notes said.any_moment room stop hand said.tail said.of_putting said.prints,
            );
      }

-- ## One behind another

-- their events
front_more : (zs ys : List Done) → front (zs ++ ys) ≡ front ys ++ front zs
front_more [] ys = sym (append-nil (front ys))
front_more (z ∷ zs) ys = ap (λ (es : List Event). es ++ z.events) (front_more zs ys) ∙ append_assoc (front ys) (front zs) z.events

executes_then : (g : Opening) (group : ℕ) (xs ys zs : List Done) (m0 m1 m2 : Memory) → Executes g group xs m0 ys m1 → Executes g group (ys ++ xs) m1 zs m2 → Executes g group xs m0 (zs ++ ys) m2
executes_then g group xs ys [] m0 m1 m2 first second = subst (Executes g group xs m0 ys) (sym second) first
executes_then g group xs ys (z ∷ zs) m0 m1 m2 first second =
    (second.0, executes_then g group xs ys zs m0 m1 second.0 first second.1, subst (λ (us : List Done). Happens g group us z second.0 m2) (sym (append_assoc zs ys xs)) second.2)

module _ (laws : Laws) (group : ℕ) (g : Opening) (xs : List Done) (m0 m1 m2 : Memory) (h0 h1 h2 : Held) (s0 s1 s2 : Story) (ys zs : List Done) (stop : Option Stop) (first_hand hand : Hand)
    (a : CallsRun ys None first_hand group g xs m0 m1 h0 h1 s0 s1) (b : CallsRun zs stop hand group g (ys ++ xs) m1 m2 h1 h2 s1 s2) where
  behind : zs ++ (ys ++ xs) ≡ (zs ++ ys) ++ xs
  behind = sym (append_assoc zs ys xs)

  lines_then : (news : List Done) (more : List Reply) → printed g (news ++ (ys ++ xs)) ≡ more ++ printed g (ys ++ xs) → printed g ((news ++ ys) ++ xs) ≡ (more ++ a.replies) ++ printed g xs
  lines_then news more is = ap (printed g) (append_assoc news ys xs) ∙ (is ∙ (ap (λ (rs : List Reply). more ++ rs) a.lines ∙ sym (append_assoc more a.replies (printed g xs))))

  cut_then : stop ≡ Some WriteFault → IsLastCut g xs (zs ++ ys) (b.told ++ a.told)
  cut_then failed =
      let c : IsLastCut g (ys ++ xs) zs b.told = b.cut failed in
      record {
        last = c.last;
        earlier = c.earlier ++ ys;
        calls_are = ap (λ (us : List Done). us ++ ys) c.calls_are;
        firsts = c.firsts ++ a.replies;
        lines = lines_then c.earlier c.firsts c.lines;
        said = c.said;
        told_are = ap (λ (rs : List Reply). rs ++ a.told) c.told_are ∙ (append_assoc c.said c.firsts a.told ∙ ap (λ (rs : List Reply). c.said ++ (c.firsts ++ rs)) a.prints.told_is);
      }

  disk_then : (z0 : Crash) (m : Master) (k : Known) → Between limits g group xs z0 k s0 → IsOfRunBy (front xs) m k.master → IsOf g m0 k → s0.notes + length (b.told ++ a.told) < 2 ^ 64
      → LeavesOnly s0 s2 (StaysAside g.workers (length (b.told ++ a.told)) s0) × DiskTo stop hand g group ((zs ++ ys) ++ xs) (front (zs ++ ys)) z0 m k s0 s2 b.memory
  disk_then z0 m k between of_run memory_is room =
      let lines : length (b.told ++ a.told) ≡ length b.told + length a.told = length-append b.told a.told in
      let first = a.disk z0 m k between of_run memory_is (omega arith) in
      let stands : RunStands g group (ys ++ xs) (front ys) z0 m k s0 s1 a.memory = first.1 in
      let one : s1.notes ≡ s0.notes + length a.told = a.others.notes between.counts (omega arith) in
      let second = b.disk z0 m stands.known stands.runs.between stands.runs.of_run (subst (λ (r : Memory). IsOf g r stands.known) (sym (a.memory_is refl)) stands.memory_is) (omega arith) in
      let later = disk_later laws.shown laws.crashes laws.agrees g group z0 m (ys ++ xs) s0 s1 s2 stands.runs.any_moment zs (front ys) (front zs) k stands.known stands.no_earlier b.memory stop hand second.1 in (
        then s0 s1 s2 (StaysAside g.workers (length (b.told ++ a.told)) s0)
            (stays_more g.workers (length a.told) (length (b.told ++ a.told)) s0 s0 s1 (omega (arith, lines)) first.0)
            (stays_more g.workers (length b.told + length a.told) (length (b.told ++ a.told)) s0 s1 s2 (omega (arith, lines)) (stays_behind g.workers a.told (length b.told) s0 s1 s2 a.others between.counts (omega (arith, lines, room)) second.0)),
        subst (λ (es : List Event). DiskTo stop hand g group ((zs ++ ys) ++ xs) es z0 m k s0 s2 b.memory) (sym (front_more zs ys))
            (subst (λ (calls : List Done). DiskTo stop hand g group calls (front ys ++ front zs) z0 m k s0 s2 b.memory) behind later),
      )

  pub calls_then : CallsRun (zs ++ ys) stop hand group g xs m0 m2 h0 h2 s0 s2
  calls_then = record {
    memory = b.memory;
    executes = executes_then g group xs ys zs m0 m1 b.memory (subst (Executes g group xs m0 ys) (sym (a.memory_is refl)) a.executes) b.executes;
    memory_is = b.memory_is;
    replies = b.replies ++ a.replies;
    lines = lines_then zs b.replies b.lines;
    told = b.told ++ a.told;
    tail = b.tail;
    reply_fits = fits_then b.told a.told a.reply_fits b.reply_fits;
    prints = subst (λ (rs : List Reply). PrintsTo stop (b.replies ++ rs) (b.told ++ a.told) b.tail) a.prints.told_is (prints_more stop b.replies b.told a.told b.tail b.prints);
    cut = cut_then;
    holds = holds_then a.told b.told b.tail h0 h1 h2 (subst (λ (t : List ℕ). Holds a.told t h0 h1) a.prints.none a.holds) b.holds;
    others = others_then g.workers a.told b.told s0 s1 s2 a.others b.others;
    disk = disk_then;
  }
