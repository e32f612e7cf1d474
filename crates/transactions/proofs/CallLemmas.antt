-- What calls lead to, one behind another.
use Rattle.std.proofs.Common.{◌≡◌, ℕ, suc, ◌<◌, ◌^◌, ◌%◌, Bool, true, false, cond, not, ◌||◌, List, [], ◌∷◌, ◌++◌, length, map, Option, Some, None, refl, sym, ap, ◌∙◌, subst, inr, arith, true≢false, set, append_assoc, append-nil, leb, Result, Ok, Err, MatchResult, IfOk, IfErr}
use Rattle.std.proofs.lemmas.Bool.{eq-eqb}
use Rattle.std.proofs.lemmas.List.{length-map}
use Rattle.page_model.specs.Pairs.{find}
use Rattle.core_state.specs.States.{State}
use Rattle.core_state.specs.Openings.{Opening}
use Rattle.core_state.specs.Events.{Event, Mode}
use Rattle.core_state.specs.Needs.{holds_row, is_held_by}
use Rattle.transactions.specs.declared.hindrance.Hindrance.{Hindrance}
use Rattle.transactions.specs.declared.hindrance.Mode as modes
use Rattle.transactions.specs.declared.hindrance.Mode.TheVariants as modes_
use Rattle.transactions.specs.declared.hindrance.Refusal.{Refusal}
use Rattle.transactions.specs.declared.hindrance.Refusal.TheVariants as refusal
use Rattle.transactions.specs.declared.session.Undo.{Undo}
use Rattle.transactions.specs.declared.session.Session.{Session}
use Rattle.transactions.specs.Steps.{is_step_of, steps_of, AreQuiet}
use Rattle.core_state.specs.Steps.{state_after, AllMet}
use Rattle.transactions.specs.Paths.{is_fault, Any, Takes, Idles, Breaks, Hindered, IsFirstOf}
use Rattle.transactions.specs.Memory.{Memory, memory_of, Ties, Knows, mode_of, undo_of, live_value, word_before}
use Rattle.transactions.specs.Calls.{log_refusal, Leads, Stops, Refused, Declines, Starts, Begins, Gets, Puts, Dels, Changes, Removes, Locked, IsNoStep, IsTry, IsLocked, IsBeginsFirst, IsHindrance}
use Rattle.transactions.proofs.PathLemmas.{Joins, did_then, did_idle, did_take, turn}
use Rattle.transactions.specs.Kinds.{in_any, in_flushes}
use Rattle.transactions.proofs.KindLemmas.{leads_as, wider_flushes}
use Rattle.transactions.proofs.LoopLemmas.{idles_none}
use Rattle.transactions.proofs.KnowLemmas.{ties_more, ties_begun, ties_read, ties_changed, ties_locked, locked_alone, locked_holds}

-- a session that is open holds rows as it likes
pub knows_open : (g : Opening) (es : List Event) (m : Memory) → Ties g es m → m.is_open ≡ true → Knows g es m
knows_open g es m t o = record { ties = t; closed = λ e. absurd (true≢false (sym o ∙ e)) }

pub knows_more : (g : Opening) (es more : List Event) (m : Memory) → Knows g es m → AllMet g (state_after g es) more → AreQuiet m.session more → Knows g (es ++ more) m
knows_more g es more m k met q = record { ties = ties_more g es more m k.ties met q; closed = k.closed }

module _ {A : Type 0} (S : Opening → List Event → List ℕ → A → Type 0) (L : Opening → List Event → List Event → A → A → Type 0) (Q : A → Bool) (K : ℕ → Event → Bool) (C : Hindrance → Opening → List Event → A → A → Type 0) (g : Opening)
    (rests : (es : List Event) (latched : List ℕ) (a : A) → S g es latched a → L g es [] a a) (joins : Joins S L Q K g) where
  abbrev pub leads_still : (es : List Event) (a : A) (m : Memory) → S g es [] a → Knows g es m → Leads S L Q K C g es a a m m []
  leads_still es a m s k = record {
    did = record { more = []; goes = record { met = tt; stands = subst (λ (l : List Event). S g l [] a) (sym (append-nil es)) s; leaves = rests es [] a s; alone = refl }; steps_are = refl; only = λ h. tt; kinds = tt };
    knows = subst (λ (l : List Event). Knows g l m) (sym (append-nil es)) k;
  }

  abbrev pub leads_idle : (es : List Event) (a b : A) (m : Memory) → Knows g es m → Idles S L Q K g es m.session [] a b → Leads S L Q K C g es a b m m []
  leads_idle es a b m k i = record { did = did_idle S L Q K g es m.session [] a b i; knows = knows_more g es i.more m k i.goes.met i.quiet }

  abbrev pub leads_take : (es : List Event) (a b : A) (m n : Memory) (e : Event) (At : State → Type 0) → is_step_of m.session e ≡ true → (t : Takes S L Q K g es m.session e At [] a b) → Knows g (es ++ (t.before ++ e ∷ t.after)) n → Leads S L Q K C g es a b m n (e ∷ [])
  leads_take es a b m n e At own t k = record { did = did_take S L Q K g es m.session e At [] a b own t; knows = k }

  -- the second is by the worker of the first
  abbrev pub leads_on : (es : List Event) (a b c : A) (m n o : Memory) (xs ys : List Event) → (l : Leads S L Q K C g es a b m n xs) → Leads S L Q K C g (es ++ l.did.more) b c (record n { session = m.session }) o ys → Leads S L Q K C g es a c m o (xs ++ ys)
  leads_on es a b c m n o xs ys l k = record {
    did = did_then S L Q K g joins es m.session xs ys [] [] a b c l.did k.did;
    knows = subst (λ (x : List Event). Knows g x o) (append_assoc es l.did.more k.did.more) k.knows;
  }

  -- the steps of the second, by its worker, who is that of the first
  abbrev pub leads_then : (es : List Event) (a b c : A) (m n o : Memory) (xs : List Event) (ys : ℕ → List Event) → n.session ≡ m.session → (l : Leads S L Q K C g es a b m n xs) → Leads S L Q K C g (es ++ l.did.more) b c n o (ys n.session) → Leads S L Q K C g es a c m o (xs ++ ys m.session)
  leads_then es a b c m n o xs ys e l k = leads_on es a b c m n o xs (ys m.session) l (subst (λ (w : ℕ). Leads S L Q K C g (es ++ l.did.more) b c (record n { session = w }) o (ys w)) e k)

  -- ## Hindrances

  breaks_as : (es : List Event) (w : ℕ) (Few May : List Event → Type 0) (a b : A) → ((l : List Event) → Few l → May l) → Breaks S L Q K g es w Few a b → Breaks S L Q K g es w May a b
  breaks_as es w Few May a b as_more x = record { more = x.more; met = x.met; leaves = x.leaves; may = as_more (steps_of w x.more) x.may; only = x.only; kinds = x.kinds }

  pub stops_as : (es : List Event) (w : ℕ) (Few May : List Event → Type 0) (latched : List ℕ) (h : Hindrance) (a b : A) → ((l : List Event) → Few l → May l) → Stops S L Q K C g es w Few latched h a b → Stops S L Q K C g es w May latched h a b
  stops_as es w Few May latched h a b as_more x = record { to = x.to; cause = x.cause; breaks = λ f. let y = x.breaks f in (y.0, breaks_as es w Few May a b as_more y.1); idles = x.idles }

  pub stops_now : (es : List Event) (w : ℕ) (May : List Event → Type 0) (h : Hindrance) (a b : A) → Hindered S L Q K g es C w May [] h a b → Stops S L Q K C g es w May [] h a b
  stops_now es w May h a b i = record {
    to = b;
    cause = i.cause;
    breaks = λ f. (refl, i.breaks f);
    idles = λ f. let o = i.idles f in (o, idles_none S L Q K C g rests joins (es ++ o.more) w [] b o.goes.stands);
  }

  pub stops_failed : (es : List Event) (w : ℕ) (May : List Event → Type 0) (latched : List ℕ) (h : Hindrance) (a b : A) → is_fault h ≡ true → Hindered S L Q K g es C w May latched h a b → Stops S L Q K C g es w May latched h a b
  stops_failed es w May latched h a b fault i = record { to = b; cause = i.cause; breaks = λ f. (refl, i.breaks f); idles = λ f. absurd (true≢false (sym fault ∙ f)) }

  pub refused_first : (es : List Event) (a b : A) (m : Memory) (May Few MayBreak : List Event → Type 0) (h : Hindrance) → May [] → ((l : List Event) → Few l → MayBreak l) → S g es [] a → Knows g es m → Hindered S L Q K g es C m.session Few [] h a b → Refused S L Q K C g es a b m m May MayBreak h
  refused_first es a b m May Few MayBreak h none as_more s k i = record {
    steps = [];
    latched = [];
    at = a;
    way = did_idle S L Q K g es m.session [] a a (idles_none S L Q K C g rests joins es m.session [] a s);
    stops = stops_as (es ++ []) m.session Few MayBreak [] h a b as_more (stops_now (es ++ []) m.session Few h a b (subst (λ (l : List Event). Hindered S L Q K g l C m.session Few [] h a b) (sym (append-nil es)) i));
    may = λ f. none;
    leads = λ f. leads_idle es a b m k (i.idles f);
  }

  -- behind steps of the same worker
  pub refused_then : (es : List Event) (a b c : A) (m n o : Memory) (xs : List Event) (Few FewBreak May MayBreak : List Event → Type 0) (h : Hindrance) → n.session ≡ m.session → (l : Leads S L Q K C g es a b m n xs) →
      ((ys : List Event) → Few ys → May (xs ++ ys)) → ((ys : List Event) → FewBreak ys → MayBreak (xs ++ ys)) → Refused S L Q K C g (es ++ l.did.more) b c n o Few FewBreak h → Refused S L Q K C g es a c m o May MayBreak h
  refused_then es a b c m n o xs Few FewBreak May MayBreak h e l lift lift_break r =
      let x = subst (λ (w : ℕ). Refused S L Q K C g (es ++ l.did.more) b c (record n { session = w }) o Few FewBreak h) e r in
      record {
        steps = xs ++ x.steps;
        latched = x.latched;
        at = x.at;
        way = did_then S L Q K g joins es m.session xs x.steps [] x.latched a b x.at l.did x.way;
        stops = stops_as (es ++ (l.did.more ++ x.way.more)) m.session (λ last. FewBreak (x.steps ++ last)) (λ last. MayBreak ((xs ++ x.steps) ++ last)) x.latched h x.at c
            (λ last f. subst MayBreak (sym (append_assoc xs x.steps last)) (lift_break (x.steps ++ last) f))
            (subst (λ (k : List Event). Stops S L Q K C g k m.session (λ last. FewBreak (x.steps ++ last)) x.latched h x.at c) (append_assoc es l.did.more x.way.more) x.stops);
        may = λ f. lift x.steps (x.may f);
        leads = λ f. leads_on es a b c m n o xs x.steps l (x.leads f);
      }

  pub refused_as : (es : List Event) (a b : A) (m n : Memory) (May Few MayBreak : List Event → Type 0) (h : Hindrance) → ((l : List Event) → Few l → MayBreak l) → Refused S L Q K C g es a b m n May Few h → Refused S L Q K C g es a b m n May MayBreak h
  refused_as es a b m n May Few MayBreak h as_more r = record {
    steps = r.steps;
    latched = r.latched;
    at = r.at;
    way = r.way;
    stops = stops_as (es ++ r.way.more) m.session (λ last. Few (r.steps ++ last)) (λ last. MayBreak (r.steps ++ last)) r.latched h r.at b (λ last f. as_more (r.steps ++ last) f) r.stops;
    may = r.may;
    leads = r.leads;
  }

  pub declines_then : (es : List Event) (a b c : A) (m n o : Memory) (xs : List Event) (Few FewBreak May MayBreak : List Event → Type 0) (r : Refusal) → n.session ≡ m.session → (l : Leads S L Q K C g es a b m n xs) →
      ((ys : List Event) → Few ys → May (xs ++ ys)) → ((ys : List Event) → FewBreak ys → MayBreak (xs ++ ys)) → IsHindrance r → Declines S L Q K C g (es ++ l.did.more) b c n o Few FewBreak r → Declines S L Q K C g es a c m o May MayBreak r
  declines_then es a b c m n o xs Few FewBreak May MayBreak (refusal.Hindered h) e l lift lift_break is d = refused_then es a b c m n o xs Few FewBreak May MayBreak h e l lift lift_break d
  declines_then es a b c m n o xs Few FewBreak May MayBreak _ e l lift lift_break is d = absurd is

  -- a test refused it, and nothing was done
  pub declines_still : (es : List Event) (a : A) (m : Memory) (May MayBreak : List Event → Type 0) (r : Refusal) → (IsHindrance r → ⊥) → S g es [] a → Knows g es m → Declines S L Q K C g es a a m m May MayBreak r
  declines_still es a m May MayBreak (refusal.Hindered h) off s k = absurd (off tt)
  declines_still es a m May MayBreak refusal.InTransaction off s k = leads_still es a m s k
  declines_still es a m May MayBreak refusal.NoTransaction off s k = leads_still es a m s k
  declines_still es a m May MayBreak refusal.TooLong off s k = leads_still es a m s k
  declines_still es a m May MayBreak (refusal.LogFull used limit) off s k = leads_still es a m s k
  declines_still es a m May MayBreak refusal.ClockSpent off s k = leads_still es a m s k

  -- ## A begin

  pub starts_now : (es : List Event) (a b : A) (m : Memory) (number : ℕ) → Knows g es m →
      (f : ℕ) × Takes S L Q K g es m.session (Event.Begin m.session f) (λ s. number ≡ suc (s.worker m.session).txn) [] a b → Starts S L Q K C g es a b m (record m { is_open = true; is_half = false; undo = [] }) number
  starts_now es a b m number k r =
      let w = m.session in
      let At : State → Type 0 = λ s. number ≡ suc (s.worker w).txn in
      let tn = turn S L Q K g es w (Event.Begin w r.0) At [] a b r.1 in
      let now = ties_begun g es (r.1.before ++ Event.Begin w r.0 ∷ r.1.after) m r.0 At k.ties tn in
      record {
        f = r.0;
        leads = leads_take es a b m (record m { is_open = true; is_half = false; undo = [] }) (Event.Begin w r.0) At (eq-eqb w w refl) r.1 (knows_open g (es ++ (r.1.before ++ Event.Begin w r.0 ∷ r.1.after)) (record m { is_open = true; is_half = false; undo = [] }) now refl);
        number_is = tn.at ∙ ap suc tn.first.txn;
      }

  -- ## A row

  pub locked_now : (es : List Event) (a b : A) (m : Memory) (key row : ℕ) (mode : modes.Mode) → Ties g es m → row ≡ key % length m.held → row < length m.held →
      Takes S L Q K g es m.session (Event.Lock m.session row (mode_of mode)) Any [] a b → Locked S L Q K C g es a b m (record m { held = set m.held row true }) key mode
  locked_now es a b m key row mode k e l t =
      let w = m.session in
      let it : row ≡ g.row_of key = e ∙ sym (k.usual.row key) in
      let p = subst (λ (i : ℕ). (t : Takes S L Q K g es w (Event.Lock w i (mode_of mode)) Any [] a b) × Ties g (es ++ (t.before ++ Event.Lock w i (mode_of mode) ∷ t.after)) (record m { held = set m.held row true })) it
      (t, ties_locked g es (t.before ++ Event.Lock w row (mode_of mode) ∷ t.after) m row (mode_of mode) Any k l (turn S L Q K g es w (Event.Lock w row (mode_of mode)) Any [] a b t)) in
      record {
        takes = p.0;
        ties = p.1;
        is = ap (λ (i : ℕ). record m { held = set m.held i true }) e;
      }

  pub lock_hindered : (es : List Event) (a b : A) (m : Memory) (key row : ℕ) (mode : modes.Mode) (h : Hindrance) → Ties g es m → row ≡ key % length m.held →
      Hindered S L Q K g es C m.session (IsFirstOf (Event.Lock m.session row (mode_of mode) ∷ [])) [] h a b → Hindered S L Q K g es C m.session (IsFirstOf (Event.Lock m.session (g.row_of key) (mode_of mode) ∷ [])) [] h a b
  lock_hindered es a b m key row mode h k e i = subst (λ (x : ℕ). Hindered S L Q K g es C m.session (IsFirstOf (Event.Lock m.session x (mode_of mode) ∷ [])) [] h a b) (e ∙ sym (k.usual.row key)) i

  abbrev pub locked_leads : (es : List Event) (a b : A) (m n : Memory) (key : ℕ) (mode : modes.Mode) → n.is_open ≡ true → Locked S L Q K C g es a b m n key mode → Leads S L Q K C g es a b m n (Event.Lock m.session (g.row_of key) (mode_of mode) ∷ [])
  locked_leads es a b m n key mode o l =
      leads_take es a b m n (Event.Lock m.session (g.row_of key) (mode_of mode)) Any (eq-eqb m.session m.session refl) l.takes
      (knows_open g (es ++ (l.takes.before ++ Event.Lock m.session (g.row_of key) (mode_of mode) ∷ l.takes.after)) n l.ties o)

  -- the key's row, after it was locked
  pub row_held : (es : List Event) (a b : A) (m n : Memory) (key : ℕ) (mode : modes.Mode) → (l : Locked S L Q K C g es a b m n key mode) → holds_row ((state_after g (es ++ (l.takes.before ++ Event.Lock m.session (g.row_of key) (mode_of mode) ∷ l.takes.after))).row (g.row_of key)) m.session ≡ true
  row_held es a b m n key mode l = locked_holds g es (l.takes.before ++ Event.Lock m.session (g.row_of key) (mode_of mode) ∷ l.takes.after) m.session (g.row_of key) (mode_of mode) Any (turn S L Q K g es m.session (Event.Lock m.session (g.row_of key) (mode_of mode)) Any [] a b l.takes)

  pub row_alone : (es : List Event) (a b : A) (m n : Memory) (key : ℕ) → (l : Locked S L Q K C g es a b m n key modes_.Alone) → is_held_by ((state_after g (es ++ (l.takes.before ++ Event.Lock m.session (g.row_of key) Mode.Alone ∷ l.takes.after))).row (g.row_of key)).holder m.session ≡ true
  row_alone es a b m n key l = locked_alone g es (l.takes.before ++ Event.Lock m.session (g.row_of key) Mode.Alone ∷ l.takes.after) m.session (g.row_of key) Any (turn S L Q K g es m.session (Event.Lock m.session (g.row_of key) Mode.Alone) Any [] a b l.takes)

  -- ## Reads and changes

  abbrev pub reads : (es : List Event) (a b : A) (m : Memory) (page key : ℕ) (v : Option ℕ) → Knows g es m → Takes S L Q K g es m.session (Event.Read m.session page key v) Any [] a b → Leads S L Q K C g es a b m m (Event.Read m.session page key v ∷ [])
  reads es a b m page key v k t =
      let w = m.session in
      leads_take es a b m m (Event.Read w page key v) Any (eq-eqb w w refl) t
      (record { ties = ties_read g es (t.before ++ Event.Read w page key v ∷ t.after) m page key v Any k.ties (turn S L Q K g es w (Event.Read w page key v) Any [] a b t); closed = k.closed })

  pub live_before : (was : Option ℕ) → live_value was ≡ live_value (Some (word_before was))
  live_before None = refl
  live_before (Some x) = refl

  abbrev pub changes : (es : List Event) (a b : A) (m : Memory) (page key v : ℕ) (was : Option ℕ) → Knows g es m → m.is_open ≡ true → Takes S L Q K g es m.session (Event.Change m.session page key v) (λ s. was ≡ find key (s.page page).node.pairs) [] a b →
      Changes S L Q K C g es a b m (record m { undo = record { key = key; word = word_before was } ∷ m.undo }) key v (live_value was)
  changes es a b m page key v was k o t =
      let w = m.session in
      let At : State → Type 0 = λ s. was ≡ find key (s.page page).node.pairs in
      let n : Memory = record m { undo = record { key = key; word = word_before was } ∷ m.undo } in
      record {
        page = page;
        word = word_before was;
        leads = leads_take es a b m n (Event.Change w page key v) At (eq-eqb w w refl) t
            (knows_open g (es ++ (t.before ++ Event.Change w page key v ∷ t.after)) n (ties_changed g es (t.before ++ Event.Change w page key v ∷ t.after) m page key v was k.ties (turn S L Q K g es w (Event.Change w page key v) At [] a b t)) o);
        undo = refl;
        was_is = live_before was;
      }

  pub changes_as : (es : List Event) (a b : A) (m n : Memory) (page key v : ℕ) (was answer : Option ℕ) → Knows g es m → m.is_open ≡ true → n ≡ record m { undo = record { key = key; word = word_before was } ∷ m.undo } → answer ≡ live_value was →
      Takes S L Q K g es m.session (Event.Change m.session page key v) (λ s. was ≡ find key (s.page page).node.pairs) [] a b → Changes S L Q K C g es a b m n key v answer
  changes_as es a b m n page key v was answer k o e q t =
      subst (λ (x : Memory). Changes S L Q K C g es a b m x key v answer) (sym e)
      (subst (λ (x : Option ℕ). Changes S L Q K C g es a b m (record m { undo = record { key = key; word = word_before was } ∷ m.undo }) key v x) (sym q) (changes es a b m page key v was k o t))

  -- the session has made few changes, and so has the worker
  pub few : (es : List Event) (m : Memory) → Ties g es m → length m.undo < 64 → length ((state_after g es).worker m.session).changes < g.changes
  few es m k l =
      let n : length (map undo_of ((state_after g es).worker m.session).changes) ≡ length m.undo = ap length k.undo in
      let e : length (map undo_of ((state_after g es).worker m.session).changes) ≡ length ((state_after g es).worker m.session).changes = length-map ((state_after g es).worker m.session).changes undo_of in
      let most : g.changes ≡ 64 = k.usual.most in
      omega arith

  -- ## Whole calls

  abbrev the_lock : Memory → ℕ → modes.Mode → Event
  the_lock m key mode = Event.Lock m.session (g.row_of key) (mode_of mode)

  pub gets_all : (es : List Event) (a b c : A) (m n : Memory) (key : ℕ) (v : Option ℕ) → (o : n.is_open ≡ true) → n.session ≡ m.session → (l : Locked S L Q K C g es a b m n key modes_.Shared) →
      (page : ℕ) × Takes S L Q K g (es ++ (locked_leads es a b m n key modes_.Shared o l).did.more) n.session (Event.Read n.session page key v) Any [] b c → Gets S L Q K C g es a c m n key v
  gets_all es a b c m n key v o e l r =
      let d = locked_leads es a b m n key modes_.Shared o l in
      record {
        page = r.0;
        leads = leads_then es a b c m n n (the_lock m key modes_.Shared ∷ []) (λ w. Event.Read w r.0 key v ∷ []) e d (reads (es ++ d.did.more) b c n r.0 key v d.knows r.1);
      }

  pub row_held_by : (es : List Event) (a b : A) (m n : Memory) (key : ℕ) (mode : modes.Mode) → (o : n.is_open ≡ true) → n.session ≡ m.session → (l : Locked S L Q K C g es a b m n key mode) →
      holds_row ((state_after g (es ++ (locked_leads es a b m n key mode o l).did.more)).row (g.row_of key)) n.session ≡ true
  row_held_by es a b m n key mode o e l = subst (λ (w : ℕ). holds_row ((state_after g (es ++ (locked_leads es a b m n key mode o l).did.more)).row (g.row_of key)) w ≡ true) (sym e) (row_held es a b m n key mode l)

  pub row_alone_by : (es : List Event) (a b : A) (m n : Memory) (key : ℕ) → (o : n.is_open ≡ true) → n.session ≡ m.session → (l : Locked S L Q K C g es a b m n key modes_.Alone) →
      is_held_by ((state_after g (es ++ (locked_leads es a b m n key modes_.Alone o l).did.more)).row (g.row_of key)).holder n.session ≡ true
  row_alone_by es a b m n key o e l = subst (λ (w : ℕ). is_held_by ((state_after g (es ++ (locked_leads es a b m n key modes_.Alone o l).did.more)).row (g.row_of key)).holder w ≡ true) (sym e) (row_alone es a b m n key l)

  lift : (w row : ℕ) (mode : Mode) (ys : List Event) → IsNoStep ys → IsTry w row mode (Event.Lock w row mode ∷ [] ++ ys)
  lift w row mode ys y = inr (ap (λ (l : List Event). Event.Lock w row mode ∷ l) y)

  lift_break : (w row : ℕ) (mode : Mode) (FewBreak : List Event → Type 0) (ys : List Event) → FewBreak ys → IsLocked w row mode FewBreak (Event.Lock w row mode ∷ [] ++ ys)
  lift_break w row mode FewBreak ys f = inr (ys, refl, f)

  -- after the lock it was hindered
  pub tried : (es : List Event) (a b c : A) (m n : Memory) (key : ℕ) (mode : modes.Mode) (h : Hindrance) (FewBreak : ℕ → List Event → Type 0) → (o : n.is_open ≡ true) → n.session ≡ m.session → (l : Locked S L Q K C g es a b m n key mode) →
      Hindered S L Q K g (es ++ (locked_leads es a b m n key mode o l).did.more) C n.session (FewBreak n.session) [] h b c → Refused S L Q K C g es a c m n (IsTry m.session (g.row_of key) (mode_of mode)) (IsLocked m.session (g.row_of key) (mode_of mode) (FewBreak m.session)) h
  tried es a b c m n key mode h FewBreak o e l r =
      let d = locked_leads es a b m n key mode o l in
      let row = g.row_of key in
      refused_then es a b c m n n (the_lock m key mode ∷ []) IsNoStep (FewBreak n.session) (IsTry m.session row (mode_of mode)) (IsLocked m.session row (mode_of mode) (FewBreak m.session)) h e d (lift m.session row (mode_of mode))
      (λ ys f. lift_break m.session row (mode_of mode) (FewBreak m.session) ys (subst (λ (w : ℕ). FewBreak w ys) e f))
      (refused_first (es ++ d.did.more) b c n IsNoStep (FewBreak n.session) (FewBreak n.session) h refl (λ ys f. f) d.did.goes.stands d.knows r)

  locked_declines : (es : List Event) (a b c : A) (m n p : Memory) (key : ℕ) (FewBreak : ℕ → List Event → Type 0) (x : Refusal) → (o : n.is_open ≡ true) → n.session ≡ m.session → (l : Locked S L Q K C g es a b m n key modes_.Alone) →
      IsHindrance x → Declines S L Q K C g (es ++ (locked_leads es a b m n key modes_.Alone o l).did.more) b c n p IsNoStep (FewBreak n.session) x →
      Declines S L Q K C g es a c m p (IsTry m.session (g.row_of key) Mode.Alone) (IsLocked m.session (g.row_of key) Mode.Alone (FewBreak m.session)) x
  locked_declines es a b c m n p key FewBreak x o e l h r =
      let row = g.row_of key in
      declines_then es a b c m n p (the_lock m key modes_.Alone ∷ []) IsNoStep (FewBreak n.session) (IsTry m.session row Mode.Alone) (IsLocked m.session row Mode.Alone (FewBreak m.session)) x e (locked_leads es a b m n key modes_.Alone o l) (lift m.session row Mode.Alone)
      (λ ys f. lift_break m.session row Mode.Alone (FewBreak m.session) ys (subst (λ (w : ℕ). FewBreak w ys) e f)) h r

  pub puts_all : (es : List Event) (a b c : A) (m n p : Memory) (key v : ℕ) (FewBreak : ℕ → List Event → Type 0) (r : Result (Option ℕ) Refusal) → (o : n.is_open ≡ true) → n.session ≡ m.session → n.undo ≡ m.undo → (l : Locked S L Q K C g es a b m n key modes_.Alone) →
      IfErr r IsHindrance →
      MatchResult r (Changes S L Q K C g (es ++ (locked_leads es a b m n key modes_.Alone o l).did.more) b c n p key v) (Declines S L Q K C g (es ++ (locked_leads es a b m n key modes_.Alone o l).did.more) b c n p IsNoStep (FewBreak n.session)) →
      MatchResult r (Puts S L Q K C g es a c m p key v) (Declines S L Q K C g es a c m p (IsTry m.session (g.row_of key) Mode.Alone) (IsLocked m.session (g.row_of key) Mode.Alone (FewBreak m.session)))
  puts_all es a b c m n p key v FewBreak (Ok was) o e u l h r =
      let d = locked_leads es a b m n key modes_.Alone o l in
      record {
        page = r.page;
        word = r.word;
        leads = leads_then es a b c m n p (the_lock m key modes_.Alone ∷ []) (λ w. Event.Change w r.page key v ∷ []) e d r.leads;
        undo = r.undo ∙ ap (λ (us : List Undo). record { key = key; word = r.word } ∷ us) u;
        was_is = r.was_is;
      }
  puts_all es a b c m n p key v FewBreak (Err x) o e u l h r = locked_declines es a b c m n p key FewBreak x o e l h r

  pub dels_all : (es : List Event) (a b c : A) (m n p : Memory) (key : ℕ) (FewBreak : ℕ → List Event → Type 0) (r : Result (Option ℕ) Refusal) → (o : n.is_open ≡ true) → n.session ≡ m.session → n.undo ≡ m.undo → (l : Locked S L Q K C g es a b m n key modes_.Alone) →
      IfErr r IsHindrance →
      MatchResult r (Removes S L Q K C g (es ++ (locked_leads es a b m n key modes_.Alone o l).did.more) b c n p key) (Declines S L Q K C g (es ++ (locked_leads es a b m n key modes_.Alone o l).did.more) b c n p IsNoStep (FewBreak n.session)) →
      MatchResult r (Dels S L Q K C g es a c m p key) (Declines S L Q K C g es a c m p (IsTry m.session (g.row_of key) Mode.Alone) (IsLocked m.session (g.row_of key) Mode.Alone (FewBreak m.session)))
  dels_all es a b c m n p key FewBreak (Ok (Some value)) o e u l h r = puts_all es a b c m n p key (2 ^ 63) FewBreak (Ok (Some value)) o e u l tt r
  dels_all es a b c m n p key FewBreak (Ok None) o e u l h r =
      (r.0, leads_then es a b c m n p (the_lock m key modes_.Alone ∷ []) (λ w. Event.Read w r.0 key None ∷ []) e (locked_leads es a b m n key modes_.Alone o l) r.1)
  dels_all es a b c m n p key FewBreak (Err x) o e u l h r = locked_declines es a b c m n p key FewBreak x o e l h r

-- ## A begin, behind what was due

module _ {A : Type 0} (S : Opening → List Event → List ℕ → A → Type 0) (L : Opening → List Event → List Event → A → A → Type 0) (Q : A → Bool) (C : Hindrance → Opening → List Event → A → A → Type 0) (g : Opening)
    (rests : (es : List Event) (latched : List ℕ) (a : A) → S g es latched a → L g es [] a a) (joins : Joins S L Q in_flushes g) where
  pub begins_then : (es : List Event) (a b c : A) (m n : Memory) (Test : A → Type 0) (number : ℕ) → Knows g es m → Test b → (i : Idles S L Q in_flushes g es m.session [] a b) → Starts S L Q in_any C g (es ++ i.more) b c m n number → Begins S L Q in_flushes C g es a c m n Test number
  begins_then es a b c m n Test number k t i r = record {
    at = b;
    ready = i;
    passes = t;
    starts = r;
    leads = leads_on S L Q in_flushes C g rests joins es a b c m m n [] (Event.Begin m.session r.f ∷ []) (leads_idle S L Q in_flushes C g rests joins es a b m k i) (leads_as S L Q in_any in_flushes wider_flushes C g (es ++ i.more) b c m n (Event.Begin m.session r.f ∷ []) r.leads);
    whole = refl;
  }

  pub begin_declines : (es : List Event) (a b c : A) (m : Memory) (MayBreak : List Event → Type 0) (r : Refusal) → Knows g es m → (i : Idles S L Q in_flushes g es m.session [] a b) → (Knows g (es ++ i.more) m → Declines S L Q in_flushes C g (es ++ i.more) b c m m IsNoStep MayBreak r) → Declines S L Q in_flushes C g es a c m m IsNoStep MayBreak r
  begin_declines es a b c m MayBreak r k i d = go r (d l.knows)
    where
      l : Leads S L Q in_flushes C g es a b m m []
      l = leads_idle S L Q in_flushes C g rests joins es a b m k i

      go : (r : Refusal) → Declines S L Q in_flushes C g (es ++ i.more) b c m m IsNoStep MayBreak r → Declines S L Q in_flushes C g es a c m m IsNoStep MayBreak r
      go (refusal.Hindered h) d = refused_then S L Q in_flushes C g rests joins es a b c m m m [] IsNoStep MayBreak IsNoStep MayBreak h refl l (λ ys y. y) (λ ys y. y) d
      go refusal.InTransaction d = leads_then S L Q in_flushes C g rests joins es a b c m m m [] (λ w. []) refl l d
      go refusal.NoTransaction d = leads_then S L Q in_flushes C g rests joins es a b c m m m [] (λ w. []) refl l d
      go refusal.TooLong d = leads_then S L Q in_flushes C g rests joins es a b c m m m [] (λ w. []) refl l d
      go (refusal.LogFull used limit) d = leads_then S L Q in_flushes C g rests joins es a b c m m m [] (λ w. []) refl l d
      go refusal.ClockSpent d = leads_then S L Q in_flushes C g rests joins es a b c m m m [] (λ w. []) refl l d

  pub begin_all : (es : List Event) (a b c : A) (sn so : Session) (Test : A → Type 0) (MayBreak : List Event → Type 0) (r : Result ℕ Refusal) → Knows g es (memory_of so) → (i : Idles S L Q in_flushes g es so.session [] a b) →
      (Knows g (es ++ i.more) (memory_of so) → MatchResult r (Starts S L Q in_any C g (es ++ i.more) b c (memory_of so) (memory_of sn)) (Declines S L Q in_flushes C g (es ++ i.more) b c (memory_of so) (memory_of sn) IsNoStep MayBreak)) →
      IfOk r (λ _. Test b) → IfErr r (λ _. sn ≡ so) → MatchResult r (Begins S L Q in_flushes C g es a c (memory_of so) (memory_of sn) Test) (Declines S L Q in_flushes C g es a c (memory_of so) (memory_of sn) IsNoStep MayBreak)
  begin_all es a b c sn so Test MayBreak (Ok number) k i d t e = begins_then es a b c (memory_of so) (memory_of sn) Test number k t i (d (leads_idle S L Q in_flushes C g rests joins es a b (memory_of so) k i).knows)
  begin_all es a b c sn so Test MayBreak (Err r) k i d t e =
      subst (λ (s : Session). Declines S L Q in_flushes C g es a c (memory_of so) (memory_of s) IsNoStep MayBreak r) (sym e)
      (begin_declines es a b c (memory_of so) MayBreak r k i (λ kn. subst (λ (s : Session). Declines S L Q in_flushes C g (es ++ i.more) b c (memory_of so) (memory_of s) IsNoStep MayBreak r) e (d kn)))

pub ok_both : (P Q : Type 0) (r : Result ℕ Refusal) → IfOk r (λ _. P) → Q → IfOk r (λ _. P × Q)
ok_both P Q (Ok number) p q = (p, q)
ok_both P Q (Err e) p q = tt

pub no_begin : (w : ℕ) (l : List Event) → IsNoStep l → IsBeginsFirst w l
no_begin w l e = (0, (Event.Begin w 0 ∷ [], ap (λ (k : List Event). k ++ Event.Begin w 0 ∷ []) e))

-- a log's test is no hindrance
pub log_tests : (u l n : ℕ) (r : Refusal) → log_refusal u l n ≡ Some r → IsHindrance r → ⊥
log_tests u l n r e h = go (leb l u) (leb (2 ^ 62) n) e
  where
    go : (a b : Bool) → cond a (Some (refusal.LogFull u l)) (cond b (Some refusal.ClockSpent) None) ≡ Some r → ⊥
    go true b q = let x : refusal.LogFull u l ≡ r = cc in subst IsHindrance (sym x) h
    go false true q = let x : refusal.ClockSpent ≡ r = cc in subst IsHindrance (sym x) h
    go false false q = absurd (cc)

pub closed_tests : (o h : Bool) (r : Refusal) → cond (not o || h) (Some refusal.NoTransaction) None ≡ Some r → IsHindrance r → ⊥
closed_tests o h r e q = go (not o || h) e
  where
    go : (a : Bool) → cond a (Some refusal.NoTransaction) None ≡ Some r → ⊥
    go true e = let x : refusal.NoTransaction ≡ r = cc in subst IsHindrance (sym x) q
    go false e = absurd (cc)

pub change_tests : (o h few : Bool) (u l n : ℕ) (r : Refusal) → cond (not o || h) (Some refusal.NoTransaction) (cond few (Some refusal.TooLong) (log_refusal u l n)) ≡ Some r → IsHindrance r → ⊥
change_tests o h few u l n r e q = go (not o || h) few e
  where
    go : (a b : Bool) → cond a (Some refusal.NoTransaction) (cond b (Some refusal.TooLong) (log_refusal u l n)) ≡ Some r → ⊥
    go true b e = let x : refusal.NoTransaction ≡ r = cc in subst IsHindrance (sym x) q
    go false true e = let x : refusal.TooLong ≡ r = cc in subst IsHindrance (sym x) q
    go false false e = log_tests u l n r e q

-- a call on an open session that is not half done goes on
pub is_closed : (o h : Bool) → cond (not o || h) (Some refusal.NoTransaction) None ≡ None → (o ≡ true) × (h ≡ false)
is_closed true false e = (refl, refl)
is_closed true true e = absurd (cc)
is_closed false h e = absurd (cc)

pub may_change : (o h few : Bool) (l : Option Refusal) → cond (not o || h) (Some refusal.NoTransaction) (cond few (Some refusal.TooLong) l) ≡ None → (o ≡ true) × (h ≡ false) × (few ≡ false)
may_change true false false l e = (refl, refl, refl)
may_change true false true l e = absurd (cc)
may_change true true few l e = absurd (cc)
may_change false h few l e = absurd (cc)

pub no_change : (o h few : Bool) (l : Option Refusal) → o ≡ true → h ≡ false → few ≡ false → cond (not o || h) (Some refusal.NoTransaction) (cond few (Some refusal.TooLong) l) ≡ l
no_change true false false l a b c = refl
no_change true false true l a b c = absurd (true≢false c)
no_change true true few l a b c = absurd (true≢false b)
no_change false h few l a b c = absurd (true≢false (sym a))
