-- What the records of a run rule out.
use Rattle.std.proofs.Common.{◌≡◌, ◌⊎◌, inl, inr, ◌<◌, ◌≤◌, ◌-◌, ◌^◌, ◌++◌, ℕ, suc, Bool, true, false, cond, ◌&&◌, leb, ltb, ◌==◌, List, [], ◌∷◌, Option, Some, None, refl, sym, ◌∙◌, ap, subst, arith}
use Rattle.std.proofs.lemmas.Bool.{and_parts, eq-eqb, or_cases, leb-true, lt-leb, eqb-true}
use Rattle.std.proofs.lemmas.List.{length-append}
use Rattle.std.specs.Prelude.{length}
use Rattle.map_model.specs.declared.call.Call.{Call}
use Rattle.map_model.specs.declared.call.Call.TheVariants as call
use Rattle.map_model.specs.declared.call.Refusal.{Refusal}
use Rattle.map_model.specs.declared.call.Refusal.TheVariants.{ClockSpent, InTransaction, LogFull, NoTransaction, RowSpent}
use Rattle.map_model.specs.Lists.{Has, any}
use Rattle.map_model.specs.Maps.{Map, MapCall, write_of, writes_key}
use Rattle.map_model.specs.Histories.{Step, first_of, last_write, write_or}
use Rattle.map_model.specs.Journals.{Journal, Txn, after}
use Rattle.map_model.proofs.ListLemmas.{any_has, keep_has}
use Rattle.lean_shell.specs.image_model.Ends.{is_kept, reach, wins}
use Rattle.lean_shell.specs.image_model.Entries.{Entry, is_commit}
use Rattle.lean_shell.specs.image_model.Fair.{piece}
use Rattle.lean_shell.specs.image_model.Images.{Image, found, map_of}
use Rattle.lean_disk.specs.Story.{Crash, Story, areas_of}
use Rattle.lean_shell.specs.disk_slots.declared.master.Master.{Master}
use Rattle.lean_shell.specs.disk_image.Laws.{EveryMasterIn}
use Rattle.lean_shell.specs.disk_image.MasterSlots.{master_in, master_on, newer}
use Rattle.lean_shell.specs.disk_image.Shown.{image_by}
use Rattle.lean_shell.specs.recovery.Opened.{IsGreatest}
use Rattle.lean_shell.specs.core_state.Openings.{Opening}
use Rattle.lean_shell.specs.core_state.Events.{Event}
use Rattle.lean_shell.specs.core_state.States.{State, Worker, start}
use Rattle.lean_shell.specs.core_state.Steps.{begun, run, state_after}
use Rattle.lean_shell.proofs.core_state.Runs.{run_more}
use Rattle.lean_shell.specs.core_calls.Deeds.{Deed, Begun, Committed, Aborted, Refused, Unsaid, answered, asked, marks_for, marks_of, reads_of}
use Rattle.lean_shell.specs.core_calls.Fronts.{Done, front, outcomes}
use Rattle.lean_shell.specs.core_calls.LogEvents.{behind}
use Rattle.lean_shell.specs.core_calls.Marks.{Mark, Began, Ended, is_half}
use Rattle.lean_shell.specs.core_calls.Runs.{IsRefused, Tells}
use Rattle.lean_shell.specs.core_calls.Steps.{IsBehind, call_behind, due_call, hindered_in, is_structure}
use Rattle.lean_shell.specs.call_parts.Deeds.{Answers}
use Rattle.lean_shell.specs.call_parts.Memory.{Memory}
use Rattle.lean_shell.specs.call_parts.Rooms.{most_of}
use Rattle.lean_shell.specs.engine_trait.Calls.{is_half_done}
use Rattle.lean_shell.specs.engine_trait.Limits.{limits}
use Rattle.lean_shell.specs.engine_trait.Refusals.{IsMetOnWay, in_transaction, log_refusal, refusal_in}
use Rattle.lean_shell.specs.worker_log.Logs.{Log}
use Rattle.lean_shell.specs.transcripts.Transcripts.{first_lines}
use Rattle.lean_shell.specs.script_run.Runs.{Executes}
use Rattle.lean_shell.specs.paged_engine.declared.opening.Size.{Size}
use Rattle.lean_shell.specs.Headline.{Survives}
use Rattle.lean_shell.specs.Runs.{Counts, Executed, IsFrom, first_log}
use Rattle.run_tests.specs.RuledOut.{BeginsAt, EveryDurableIsFound, EveryFirstBegin, EveryFirstCommit, EveryKeyStands, EveryOtherKeyStands, HasItsCommit, IsOneOf, NoneWrites}
use Rattle.run_tests.proofs.FirstLemmas.{AreStill, begin_none, begin_tells, begun_at, commit_none, commit_tells, same_run, still, still_flush}
use Rattle.run_tests.proofs.KeyLemmas.{asks_to_write}

-- ## Keys

writes_none : (c : MapCall) (k : ℕ) → (writes_key c k ≡ true → ⊥) → write_of c k ≡ None
writes_none (MapCall.Get q) k none = refl
writes_none (MapCall.Next q) k none = refl
writes_none (MapCall.Put q v) k none = go (q == k) none
  where
    go : (b : Bool) → (b ≡ true → ⊥) → cond {A = Option (Option ℕ)} b (Some (Some v)) None ≡ None
    go true n = absurd (n refl)
    go false n = refl
writes_none (MapCall.Del q) k none = go (q == k) none
  where
    go : (b : Bool) → (b ≡ true → ⊥) → cond {A = Option (Option ℕ)} b (Some None) None ≡ None
    go true n = absurd (n refl)
    go false n = refl

none_written : (z : List Step) (k : ℕ) → ((s : Step) → Has s z → writes_key s.call k ≡ true → ⊥) → last_write z k ≡ None
none_written [] k none = refl
none_written (s ∷ z) k none =
    ap (λ (o : Option (Option ℕ)). first_of o (last_write z k)) (writes_none s.call k (none s (inl refl))) ∙ none_written z k (λ x h. none x (inr h))

-- after transactions of which none writes the key
same_after : (m : Map) (j : Journal) (k : ℕ) → NoneWrites j k → after m j k ≡ m k
same_after m [] k none = refl
same_after m (t ∷ older) k none =
    ap (λ (o : Option (Option ℕ)). write_or o (after m older k)) (none_written t.calls k (λ s h w. none t (inl refl) (record { step = s; has = h; writes = w })))
    ∙ same_after m older k (λ u h. none u (inr h))

-- ## Transactions

module _ (s : Story) (m : Master) (input output : List ℕ) (c : Crash) (x : Survives m s input output c) where
  -- a transaction that is kept
  kept_one : (t : Txn) → Has t x.kept_ones → Has t x.by_then × (is_kept (length x.n.heads) x.n.floor (found (image_by x.n c.image)) t ≡ true)
  kept_one t h = keep_has (is_kept (length x.n.heads) x.n.floor (found (image_by x.n c.image))) x.by_then t (subst (λ (j : Journal). Has t j) x.kept_is h)

  none_kept : (k : ℕ) → NoneWrites x.by_then k ⊎ NoneWrites x.kept_ones k → NoneWrites x.kept_ones k
  none_kept k (inl none) = λ t h. none t (kept_one t h).0
  none_kept k (inr none) = none

  commit_of : (t : Txn) → Has t x.by_then → is_kept (length x.n.heads) x.n.floor (found (image_by x.n c.image)) t ≡ true → (t.at ≤ x.n.floor) ⊎ HasItsCommit (found (image_by x.n c.image)) t
  commit_of t has kept =
      let z : List Entry = found (image_by x.n c.image) in
      let far : ℕ = reach (length x.n.heads) x.n.floor z in
      elim (or_cases (leb t.at x.n.floor) (any (λ e. wins far e && ((e.log == t.session) && (e.txn == t.number))) z) kept) [
        | inl e ↦ inl (leb-true t.at x.n.floor e)
        | inr e ↦
            let r = any_has (λ (e : Entry). wins far e && ((e.log == t.session) && (e.txn == t.number))) z e in
            let a = and_parts (wins far r.0) ((r.0.log == t.session) && (r.0.txn == t.number)) r.2 in
            let b = and_parts (r.0.log == t.session) (r.0.txn == t.number) a.1 in
            let w = and_parts (is_commit r.0.kind) (leb r.0.need far) a.0 in
            let session : r.0.log ≡ t.session = eqb-true r.0.log t.session b.0 in
            let txn : r.0.txn ≡ t.number = eqb-true r.0.txn t.number b.1 in
            inr (record { entry = r.0; has = r.1; commit = w.0; session = session; txn = txn; at = sym (x.numbers r.0 r.1 w.0 t has (sym session) (sym txn)) })
      ]

pub every_key_stands : (s : Story) → EveryKeyStands s
every_key_stands s m input output c x k none = sym (x.stands.stands.map k) ∙ same_after (map_of (image_by m (areas_of s))) x.kept_ones k (none_kept s m input output c x k none)

pub every_other_key_stands : (s : Story) → EveryOtherKeyStands s
every_other_key_stands s m input output c x key none = every_key_stands s m input output c x key (inl (elim x.by_then_is [
  | inl told ↦ λ t h w. none (asks_to_write key (length m.heads) input (first_lines x.lines output) t (subst (λ (j : Journal). Has t j) told h) w)
  | inr hand ↦ λ t h w. none (asks_to_write key (length m.heads) input (first_lines x.lines output ++ hand.reply) t (subst (λ (j : Journal). Has t j) hand.all_is h) w)
]))

pub every_durable_is_found : (s : Story) → EveryDurableIsFound s
every_durable_is_found s m input output c x name h =
    let r = x.reported name h in
    let k = kept_one s m input output c x r.0 r.1 in
    record { txn = r.0; has = k.0; session = r.2; number = r.3; commit = commit_of s m input output c x r.0 k.0 k.1 }

-- ## The numbers on entry

same_greatest : (i : Image) (a b : ℕ) → IsGreatest i a → IsGreatest i b → a ≤ b
same_greatest i a b x y = elim x.met [
  | inl e ↦ let l = y.floor in omega (arith, e, l)
  | inr other ↦ elim other [
    | inl r ↦ let l = y.records r.0 r.1 in let e = r.2 in omega (arith, e, l)
    | inr p ↦ let l = y.stored p.0 p.1 in let e = p.2 in omega (arith, e, l)
  ]
]

abbrev some_or : Master → Option Master → Master
some_or m (Some n) = n
some_or m None = m

newer_one : (a b : Option Master) (m : Master) → newer a b ≡ Some m → (a ≡ Some m) ⊎ (b ≡ Some m)
newer_one None b m e = inr e
newer_one (Some x) None m e = inl e
newer_one (Some x) (Some y) m e = go (ltb x.sequence y.sequence) e
  where
    go : (b : Bool) → cond b (Some y) (Some x) ≡ Some m → (Some x ≡ Some m) ⊎ (Some y ≡ Some m)
    go true q = inr q
    go false q = inl q

-- a master that counts has blocks for changes
some_blocks : EveryMasterIn → (bytes : List ℕ) (m : Master) → master_on bytes ≡ Some m → 64 ≤ m.blocks
some_blocks every bytes m h = elim (newer_one (master_in 0 (piece 1024 0 bytes)) (master_in 1 (piece 1024 1 bytes)) m h) [
  | inl e ↦ ((every 0 (piece 1024 0 bytes) m).0 e).holds.blocks.0
  | inr e ↦ ((every 1 (piece 1024 1 bytes) m).0 e).holds.blocks.0
]

-- ## The first calls

oldest : (g : Opening) (group : ℕ) (m0 : Memory) (later xs : List Done) (m : Memory) → Executes g group [] m0 (later ++ xs) m → (before : Memory) × Executes g group [] m0 xs before
oldest g group m0 [] xs m h = (m, h)
oldest g group m0 (z ∷ later) xs m h = oldest g group m0 later xs h.0 h.1

-- an outcome of session `own`
abbrev by : (own : ℕ) → Deed → List Unsaid → List Event → Done
by own d us es = record { outcome = record { session = own; deed = d; unsaid = us }; events = es }

is_by : (own : ℕ) (x : Done) → x.outcome.session ≡ own → x ≡ by own x.outcome.deed x.outcome.unsaid x.events
is_by own x e = ap (λ (w : ℕ). by w x.outcome.deed x.outcome.unsaid x.events) e

own_marks : (own : ℕ) (ms : List Mark) → cond (own == own) ms [] ≡ ms
own_marks own ms = ap (λ (b : Bool). cond b ms []) (eq-eqb own own refl)

-- no latch is spent by so few events
not_spent : (g : Opening) (own : ℕ) (xs : List Done) (c : Call) (why : Refusal) (backs : List Step) (us : List Unsaid) (es : List Event) → length es ≤ 2 ^ 18 → length (front xs) ≤ 2 ^ 18 →
    IsRefused limits g xs (by own (Refused c why backs) us es) (Refused c why backs) → why ≡ RowSpent → ⊥
not_spent g own xs c why backs us es few before refused spent =
    let r = subst (λ (w : Refusal). IsRefused limits g xs (by own (Refused c why backs) us es) (Refused c w backs)) spent refused in
    let e : length es ≡ length (r.0 ++ r.1) = ap (λ (l : List Event). length l) r.2 in
    let f = length-append r.0 r.1 in
    let h = length-append (front xs) r.0 in
    let late = r.3 in
    absurd (omega (arith, e, f, h, few, before, late))

-- a begin and a commit have few events, and come to no row
abbrev IsPlain : Call → Type 0
IsPlain c = (c ≡ call.Begin) ⊎ (c ≡ call.Commit)

plain_few : (c : Call) → IsPlain c → most_of c ≡ 2 ^ 18
plain_few c (inl e) = ap most_of e
plain_few c (inr e) = ap most_of e

plain_alone : (c : Call) (why : Refusal) → IsPlain c → IsMetOnWay c why → ⊥
plain_alone c why (inl e) met = subst (λ (d : Call). IsMetOnWay d why) e met
plain_alone c why (inr e) met = subst (λ (d : Call). IsMetOnWay d why) e met

-- Where the tests refuse nothing behind its events, and it asks what its line does, no refusal is answered.
not_refused : (g : Opening) (group own : ℕ) (xs : List Done) (was : Log) (c : Call) (why : Refusal) (backs : List Step) (us : List Unsaid) (es : List Event) → let x : Done = by own (Refused c why backs) us es in
    IsPlain c → Answers g xs x was → Tells limits g group xs x → call_behind (outcomes xs) c ≡ c → length (front xs) ≤ 2 ^ 18 → refusal_in g (state_after g (front xs ++ es)) own (is_half_done own xs) was c ≡ None → ⊥
not_refused g group own xs was c why backs us es plain a t asks few none = elim (a.refused why refl) [
  | inl there ↦ let clash : None ≡ Some why = sym none ∙ (ap (refusal_in g (state_after g (front xs ++ es)) own (is_half_done own xs) was) (sym asks) ∙ there) in absurd (cc)
  | inr (inl spent) ↦ not_spent g own xs c why backs us es (let f = a.few in let m = plain_few c plain in omega (arith, f, m)) few t.refused spent
  | inr (inr met) ↦ plain_alone c why plain (subst (λ (d : Call). IsMetOnWay d why) asks met)
]

-- the deed of which a mark tells
abbrev as_begun : List Mark → Deed
as_begun (Began n ∷ ms) = Begun n
as_begun _ = Begun 0

abbrev as_committed : List Mark → Deed
as_committed (Ended commit n at ∷ ms) = Committed n at
as_committed _ = Committed 0 0

-- The first call began the session's first transaction: how it stands then.
record HasBegun (g : Opening) (own : ℕ) (d : Deed) (es : List Event) : Type 0 where
  deed : d ≡ Begun 1
  floor : ℕ
  session : (state_after g es).worker own ≡ begun ((start g).worker own) floor

-- behind a begin no abort is half done
half_of_begun : (own : ℕ) (x : Done) → x.outcome.deed ≡ Begun 1 → is_half_done own (x ∷ []) ≡ false
half_of_begun own x e = at (x.outcome.session == own)
  where
    at : (b : Bool) → is_half (cond b (marks_for x.outcome ++ []) []) ≡ false
    at true = ap (λ (d : Deed). is_half ((marks_of d ++ reads_of x.outcome.unsaid) ++ [])) e
    at false = refl

module _ (master : EveryMasterIn) (s : Story) (size : Size) (base : ℕ) (at : BeginsAt size.sessions s base) (counts : Counts) (calls : List Done) (y : Executed size s counts calls) where
  abbrev g : Opening
  g = y.opening

  abbrev from : IsFrom size.sessions g s counts
  from = y.from at.tells

  same_master : from.m ≡ at.m
  same_master = ap (some_or at.m) (sym from.sound.master ∙ at.master)

  greatest : IsGreatest (image_by at.m (areas_of s)) g.base
  greatest = subst (λ (m : Master). IsGreatest (image_by m (areas_of s)) g.base) same_master from.starts.base

  base_is : g.base ≡ base
  base_is =
      let a : g.base ≤ base = same_greatest (image_by at.m (areas_of s)) g.base base greatest at.greatest in
      let b : base ≤ g.base = same_greatest (image_by at.m (areas_of s)) base g.base at.greatest greatest in
      omega (arith, a, b)

  module _ (own : ℕ) (one : IsOneOf (length at.m.heads) own) where
    log_is : y.first.log own ≡ first_log at.m g.base own
    log_is = y.log at.tells at.m at.master own one.0 (subst (λ (n : ℕ). own ≤ n) (sym (from.starts.logs ∙ ap (λ (m : Master). length m.heads) same_master)) one.1)

    open_log : log_refusal g.base (y.first.log own) None ≡ None
    open_log =
        let many : 64 ≤ at.m.blocks = some_blocks master (areas_of s 0) at.m at.master in
        let low : g.base < 2 ^ 62 = subst (λ (n : ℕ). n < 2 ^ 62) (sym base_is) at.below in
        let room : leb (at.m.blocks - 16) 0 ≡ false = lt-leb (at.m.blocks - 16) 0 (omega (arith, many)) in
        let clock : leb (2 ^ 62) g.base ≡ false = lt-leb (2 ^ 62) g.base low in
        ap (λ l. log_refusal g.base l None) log_is
        ∙ (ap (λ (b : Bool). cond b (Some (LogFull 0 (at.m.blocks - 16))) (cond (leb (2 ^ 62) g.base) (Some ClockSpent) None)) room
        ∙ ap (λ (b : Bool). cond b (Some ClockSpent) None) clock)

    -- where the session and its log stand as at the start
    begin_open : (es : List Event) (log : Log) → (state_after g es).worker ≡ (start g).worker → log ≡ y.first.log own → refusal_in g (state_after g es) own false log call.Begin ≡ None
    begin_open es log same is =
        ap (λ (r : ℕ → Worker). cond (r own).is_open (Some InTransaction) (log_refusal (r own).clock log None)) same ∙ (ap (λ (l : Log). log_refusal g.base l None) is ∙ open_log)

    -- as they do behind a begin that is refused
    begin_refused : (d : Call) (why : Refusal) (backs : List Step) (us : List Unsaid) (es : List Event) (before : Log) → d ≡ call.Begin → Tells limits g size.group [] (by own (Refused d why backs) us es) → Answers g [] (by own (Refused d why backs) us es) before →
        before ≡ y.first.log own → refusal_in g (state_after g es) own false before d ≡ None
    begin_refused d why backs us es before c t a log =
        let none = begin_none g size.group own d why backs us es c t in
        let quiet = still es none.structure none.logs in
        ap (refusal_in g (state_after g es) own false before) c ∙ begin_open es before (same_run g own (start g) es quiet none.steps) log

    begins : (d : Deed) (us : List Unsaid) (es : List Event) (before : Log) → asked d ≡ call.Begin → Tells limits g size.group [] (by own d us es) → Answers g [] (by own d us es) before → before ≡ y.first.log own →
        HasBegun g own d es
    begins (Begun n) us es before c t a log =
        let calm = still es (t.structure refl) t.logs.4 in
        let tells = begin_tells g own (start g) es t.steps.1 t.met calm t.steps.2 in
        let said = t.told own ∙ own_marks own (marks_for (by own (Begun n) us es).outcome) in
        record { deed = ap as_begun (sym said ∙ tells); floor = t.steps.1; session = begun_at g own (start g) es t.steps.1 t.met calm t.steps.2 }
    begins (Aborted d n at backs) us es before c t a log = let abort : d ≡ call.Abort = t.hindered in absurd (cc)
    begins (Refused d why backs) us es before c t a log =
        absurd (not_refused g size.group own [] before d why backs us es (inl c) a t refl (omega arith) (begin_refused d why backs us es before c t a log))
    begins _ us es before c t a log = absurd (cc)

    module _ (x : Done) (few : length x.events ≤ 2 ^ 18) (b : HasBegun g own x.outcome.deed x.events) where
      -- behind a commit that is refused the transaction is open as before
      commit_open : (d : Call) (why : Refusal) (backs : List Step) (us : List Unsaid) (es : List Event) (log : Log) → d ≡ call.Commit → Tells limits g size.group (x ∷ []) (by own (Refused d why backs) us es) →
          refusal_in g (state_after g (x.events ++ es)) own (is_half_done own (x ∷ [])) log d ≡ None
      commit_open d why backs us es log c t =
          let none = commit_none g size.group own d why backs us es (x ∷ []) c (ap (λ (e : Deed). due_call (hindered_in e) call.Commit) b.deed) t in
          let same = same_run g own (state_after g x.events) es (still es none.structure none.logs) none.steps in
          let stays = ap (λ (r : ℕ → Worker). (r own).is_open) same ∙ ap (λ (w : Worker). w.is_open) b.session in
          ap (refusal_in g (state_after g (x.events ++ es)) own (is_half_done own (x ∷ [])) log) c
          ∙ (ap (λ (half : Bool). in_transaction (state_after g (x.events ++ es)) own half None) (half_of_begun own x b.deed)
          ∙ (ap (λ (z : State). cond (z.worker own).is_open None (Some NoTransaction)) (run_more g (start g) x.events es)
          ∙ ap (λ (o : Bool). cond o None (Some NoTransaction)) stays))

      commits : (d : Deed) (us : List Unsaid) (es : List Event) (was : Log) → asked d ≡ call.Commit → Tells limits g size.group (x ∷ []) (by own d us es) → Answers g (x ∷ []) (by own d us es) was → d ≡ Committed 1 (suc base)
      commits (Committed n at) us es was c t a =
          let due : Bool = leb size.group (behind (run g (state_after g x.events) t.logs.before) own) in
          let calm = subst AreStill (sym t.logs.is) (still_flush t.logs.before due own at (subst (λ (l : List Event). any is_structure l ≡ false) t.logs.is (t.structure refl)) t.logs.else_none) in
          let tells = commit_tells g own (state_after g x.events) es t.steps.2 t.steps.1 t.met calm t.steps.3 t.steps.4 in
          let said = t.told own ∙ own_marks own (marks_for (by own (Committed n at) us es).outcome) in
          ap as_committed (sym said ∙ tells) ∙ (ap (λ (w : Worker). Committed w.txn (suc w.clock)) b.session ∙ ap (λ (n : ℕ). Committed 1 (suc n)) base_is)
      commits (Aborted d n at backs) us es was c t a =
          let abort : d ≡ call.Abort = subst (λ (e : Deed). IsBehind (hindered_in e) x.outcome.session (by own (Aborted d n at backs) us es).outcome) b.deed t.hindered in
          absurd (cc)
      commits (Refused d why backs) us es was c t a =
          absurd (not_refused g size.group own (x ∷ []) was d why backs us es (inr c) a t (ap (λ (e : Deed). due_call (hindered_in e) d) b.deed) few (commit_open d why backs us es was c t))
      commits _ us es was c t a = absurd (cc)

  -- the oldest call is a begin
  begins_first : (x : Done) (m : Memory) → IsOneOf (length at.m.heads) x.outcome.session → asked x.outcome.deed ≡ call.Begin → Executes g size.group [] y.first (x ∷ []) m → HasBegun g x.outcome.session x.outcome.deed x.events
  begins_first x m one asks h =
      begins x.outcome.session one x.outcome.deed x.outcome.unsaid x.events (h.0.log x.outcome.session) asks h.2.tells h.2.how (ap (λ (k : Memory). k.log x.outcome.session) h.1)

pub every_first_begin : EveryMasterIn → (s : Story) → EveryFirstBegin s
every_first_begin master s size base counts later x at y one begin =
    let h = oldest y.opening size.group y.first later (x ∷ []) y.last y.executes in
    ap answered (begins_first master s size base at counts (later ++ x ∷ []) y x h.0 one begin h.1).deed

pub every_first_commit : EveryMasterIn → (s : Story) → EveryFirstCommit s
every_first_commit master s size base counts later z x at y one same begin commit =
    let h = oldest y.opening size.group y.first later (z ∷ x ∷ []) y.last y.executes in
    let first = h.1.1 in
    let calls : List Done = later ++ z ∷ x ∷ [] in
    let own : ℕ = x.outcome.session in
    let is = is_by own z same in
    let was : Log = h.1.0.log z.outcome.session in
    let began = begins_first master s size base at counts calls y x h.1.0 one begin first in
    ap answered (commits master s size base at counts calls y own one x (subst (λ (c : Call). length x.events ≤ most_of c) begin first.2.how.few) began z.outcome.deed z.outcome.unsaid z.events was commit
    (subst (Tells limits y.opening size.group (x ∷ [])) is h.1.2.tells) (subst (λ (d : Done). Answers y.opening (x ∷ []) d was) is h.1.2.how))
