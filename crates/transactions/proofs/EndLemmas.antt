-- Changes are put back, and transactions end.
use Rattle.std.proofs.Common.{◌≡◌, ℕ, suc, ◌+◌, Bool, true, false, List, [], ◌∷◌, ◌++◌, length, map, Result, Ok, Err, MatchResult, refl, sym, ap, ap₂, ◌∙◌, subst, true≢false, get_or, append_assoc, length-append, append-nil, ◌<◌, ◌≤◌, inr, arith}
use Rattle.std.proofs.lemmas.Bool.{eq-eqb}
use Rattle.core_state.specs.image_model.Entries.{Entry}
use Rattle.core_state.specs.States.{State}
use Rattle.core_state.specs.Openings.{Opening}
use Rattle.core_state.specs.Events.{Event}
use Rattle.transactions.specs.declared.hindrance.Hindrance.{Hindrance}
use Rattle.transactions.specs.declared.hindrance.Receipt.{Receipt}
use Rattle.transactions.specs.declared.session.Undo.{Undo}
use Rattle.transactions.specs.Steps.{steps_of}
use Rattle.core_state.specs.Steps.{state_after}
use Rattle.transactions.specs.Paths.{is_fault, Any, Takes, Idles, Flushes, Hindered}
use Rattle.transactions.specs.Answers.{IsReceipt}
use Rattle.transactions.specs.Memory.{Memory, Ties, Knows, HasNone, undo_of, newest, no_undo, held_rows}
use Rattle.transactions.specs.Calls.{unlocks, put_backs, Leads, Stops, Refused, Unlatched, Unlocked, Ends, Commits, Aborts, Halves, Backs, IsNoStep, IsBacksFirst, AreBacksFirst, IsEndsFirst, IsCommitsFirst, IsAbortsFirst}
use Rattle.transactions.proofs.QuietLemmas.{steps_more, quiet_steps, may_more}
use Rattle.transactions.proofs.PathLemmas.{only_more, Joins, goes_then, did_then, did_take, did_idle, turn, occurs_behind, occurs_ahead, occurs_take}
use Rattle.transactions.specs.Kinds.{in_any, in_flushes}
use Rattle.transactions.proofs.KindLemmas.{did_as, leads_as, wider_flushes}
use Rattle.transactions.proofs.LoopLemmas.{idles_none, idles_then}
use Rattle.transactions.proofs.KnowLemmas.{ties_back, ties_ended}
use Rattle.transactions.proofs.CallLemmas.{knows_open, knows_more, leads_still, leads_take, leads_idle, leads_then, refused_then, stops_as, stops_failed}

pub newest_split : (us : List Undo) (n before : ℕ) → n ≡ suc before → newest n us ≡ get_or us before no_undo ∷ newest before us
newest_split us n before e = ap (λ (i : ℕ). newest i us) e

-- the worker's changes are those that the session remembers
pub record Split (cs : List Entry) (u : Undo) (us : List Undo) : Type 0 where
  pub first : Entry
  pub others : List Entry
  pub whole : cs ≡ first ∷ others
  pub key : first.key ≡ u.key
  pub word : first.before ≡ u.word
  pub left : map undo_of others ≡ us

pub split : (cs : List Entry) (u : Undo) (us : List Undo) → map undo_of cs ≡ u ∷ us → Split cs u us
split [] u us e = absurd (cc)
split (c ∷ cs) u us e = record { first = c; others = cs; whole = refl; key = (let q : undo_of c ≡ u = cc in ap (λ (x : Undo). x.key) q); word = (let q : undo_of c ≡ u = cc in ap (λ (x : Undo). x.word) q); left = cc }

pub no_changes : (cs : List Entry) (n : ℕ) (us : List Undo) → map undo_of cs ≡ newest n us → n ≡ 0 → cs ≡ []
no_changes [] n us e z = refl
no_changes (c ∷ cs) n us e z = let q : undo_of c ∷ map undo_of cs ≡ [] = e ∙ ap (λ (i : ℕ). newest i us) z in absurd (cc)

backs_more : (w : ℕ) (xs ys : List ℕ) → put_backs w xs ++ put_backs w ys ≡ put_backs w (xs ++ ys)
backs_more w [] ys = refl
backs_more w (x ∷ xs) ys = ap (λ (l : List Event). Event.Put_back w x ∷ l) (backs_more w xs ys)

all_backs : (m n : Memory) (pages : List ℕ) (done : List Undo) → n.undo ≡ [] → length done ≡ length pages → done ++ n.undo ≡ m.undo → length pages ≡ length m.undo
all_backs m n pages done z count left = sym count ∙ (ap length (sym (append-nil done) ∙ (ap (λ (us : List Undo). done ++ us) (sym z) ∙ left)))

module _ {A : Type 0} (S : Opening → List Event → List ℕ → A → Type 0) (L : Opening → List Event → List Event → A → A → Type 0) (Q : A → Bool) (K : ℕ → Event → Bool) (C : Hindrance → Opening → List Event → A → A → Type 0) (g : Opening)
    (rests : (es : List Event) (latched : List ℕ) (a : A) → S g es latched a → L g es [] a a) (joins : Joins S L Q K g) where
  -- ## Put back

  pub backs_none : (es : List Event) (a : A) (m : Memory) → S g es [] a → Knows g es m → Backs S L Q K C g es a a m m
  backs_none es a m s k = record { pages = []; leads = leads_still S L Q K C g rests joins es a m s k; done = []; count = refl; left = refl }

  pub backs_now : (es : List Event) (a b : A) (m : Memory) (u : Undo) (us : List Undo) → Knows g es m → m.is_open ≡ true → m.undo ≡ u ∷ us → (x : Split ((state_after g es).worker m.session).changes u us) →
      (page : ℕ) × Takes S L Q K g es m.session (Event.Put_back m.session page) Any [] a b → Backs S L Q K C g es a b m (record m { is_half = true; undo = us })
  backs_now es a b m u us k o e x t =
      let w = m.session in
      let n : Memory = record m { is_half = true; undo = us } in
      record {
        pages = t.0 ∷ [];
        leads = leads_take S L Q K C g rests joins es a b m n (Event.Put_back w t.0) Any (eq-eqb w w refl) t.1
            (knows_open g (es ++ (t.1.before ++ Event.Put_back w t.0 ∷ t.1.after)) n
            (ties_back g es (t.1.before ++ Event.Put_back w t.0 ∷ t.1.after) m t.0 x.first x.others us Any k.ties x.whole x.left (turn S L Q K g es w (Event.Put_back w t.0) Any [] a b t.1)) o);
        done = u ∷ [];
        count = refl;
        left = sym e;
      }

  pub backs_then : (es : List Event) (a b c : A) (m n p : Memory) → n.session ≡ m.session → (l : Backs S L Q K C g es a b m n) → Backs S L Q K C g (es ++ l.leads.did.more) b c n p → Backs S L Q K C g es a c m p
  backs_then es a b c m n p e l r =
      let d = leads_then S L Q K C g rests joins es a b c m n p (put_backs m.session l.pages) (λ w. put_backs w r.pages) e l.leads r.leads in
      record {
        pages = l.pages ++ r.pages;
        leads = subst (λ (xs : List Event). Leads S L Q K C g es a c m p xs) (backs_more m.session l.pages r.pages) d;
        done = l.done ++ r.done;
        count = length-append l.done r.done ∙ (ap₂ (λ (x y : ℕ). x + y) l.count r.count ∙ sym (length-append l.pages r.pages));
        left = append_assoc l.done r.done p.undo ∙ (ap (λ (us : List Undo). l.done ++ us) r.left ∙ l.left);
      }

  pub halves : (es : List Event) (a b c : A) (m n : Memory) (FewBreak MayBreak : List Event → Type 0) (h : Hindrance) → n.session ≡ m.session → (l : Backs S L Q K C g es a b m n) → ((ys : List Event) → FewBreak ys → MayBreak (put_backs m.session l.pages ++ ys)) →
      Refused S L Q K C g (es ++ l.leads.did.more) b c n n IsNoStep FewBreak h → Refused S L Q K C g es a c m n (Halves m n) MayBreak h
  halves es a b c m n FewBreak MayBreak h e l lift_break r =
      refused_then S L Q K C g rests joins es a b c m n n (put_backs m.session l.pages) IsNoStep FewBreak (Halves m n) MayBreak h e l.leads
      (λ ys y. record { pages = l.pages; steps_are = ap (λ (x : List Event). put_backs m.session l.pages ++ x) y ∙ append-nil (put_backs m.session l.pages); done = l.done; count = l.count; left = l.left }) lift_break r

  -- some were put back, and then a device failed
  pub backs_break : (es : List Event) (a b : A) (m n : Memory) → n.session ≡ m.session → 0 < length n.undo → (l : Backs S L Q K C g es a b m n) → (ys : List Event) → IsBacksFirst n.session ys → AreBacksFirst m (put_backs m.session l.pages ++ ys)
  backs_break es a b m n e some l ys f = go (subst (λ (w : ℕ). IsBacksFirst w ys) e f)
    where
      fits : (page : ℕ) → length (l.pages ++ page ∷ []) ≤ length m.undo
      fits page =
          let x : length (l.pages ++ page ∷ []) ≡ length l.pages + 1 = length-append l.pages (page ∷ []) in
          let y : length l.done + length n.undo ≡ length m.undo = sym (length-append l.done n.undo) ∙ ap length l.left in
          let z : length l.done ≡ length l.pages = l.count in
          omega arith

      go : IsBacksFirst m.session ys → AreBacksFirst m (put_backs m.session l.pages ++ ys)
      go (page, (rest, q)) = (
        l.pages ++ page ∷ [],
        fits page,
        (rest, append_assoc (put_backs m.session l.pages) ys rest ∙ (ap (λ (k : List Event). put_backs m.session l.pages ++ k) q ∙ backs_more m.session l.pages (page ∷ []))),
      )

  -- all were put back, and then a device failed
  pub ends_break : (es : List Event) (a b : A) (m n : Memory) → n.session ≡ m.session → n.undo ≡ [] → (l : Backs S L Q K C g es a b m n) → (ys : List Event) → IsEndsFirst n.session false ys → IsAbortsFirst m (put_backs m.session l.pages ++ ys)
  ends_break es a b m n e z l ys f = inr (l.pages, all_backs m n l.pages l.done z l.count l.left, ys, refl, subst (λ (w : ℕ). IsEndsFirst w false ys) e f)

  -- ## Ends

  pub ends_now : (es : List Event) (a b c : A) (m n : Memory) (commit : Bool) (receipt : Receipt) → Ties g es m → HasNone n.held →
      (t : (f : ℕ) × Takes S L Q K g es m.session (Event.End m.session commit f) (IsReceipt m.session f receipt) (held_rows m.held (length m.held)) a b) →
      (Ties g (es ++ (t.1.before ++ Event.End m.session commit t.0 ∷ t.1.after)) (record m { is_open = false; is_half = false; undo = [] }) →
      Unlocked S L Q K C g (es ++ (t.1.before ++ Event.End m.session commit t.0 ∷ t.1.after)) b c (record m { is_open = false; is_half = false; undo = [] }) n (held_rows m.held (length m.held)) []) →
      Ends S L Q K C g es a c m n commit receipt []
  ends_now es a b c m n commit receipt k none t next =
      let w = m.session in
      let rows = held_rows m.held (length m.held) in
      let tn = turn S L Q K g es w (Event.End w commit t.0) (IsReceipt w t.0 receipt) rows a b t.1 in
      let more = t.1.before ++ Event.End w commit t.0 ∷ t.1.after in
      let u = next (ties_ended g es more m commit t.0 (IsReceipt w t.0 receipt) k tn) in
      record {
        f = t.0;
        leads = record {
          did = did_then S L Q K g joins es w (Event.End w commit t.0 ∷ []) (unlocks w rows) rows [] a b c (did_take S L Q K g es w (Event.End w commit t.0) (IsReceipt w t.0 receipt) rows a b (eq-eqb w w refl) t.1) u.did;
          knows = record { ties = subst (λ (l : List Event). Ties g l n) (append_assoc es more u.did.more) u.ties; closed = λ e. none };
        };
        receipt_is = occurs_ahead g es more u.did.more (Event.End w commit t.0) (IsReceipt w t.0 receipt) (occurs_take S L Q K g es w (Event.End w commit t.0) (IsReceipt w t.0 receipt) rows a b t.1);
      }

  abbrev pub after_idle : (es : List Event) (a b c : A) (m n : Memory) (rows : List ℕ) (xs : List Event) → (i : Idles S L Q K g es m.session rows a b) → Leads S L Q K C g (es ++ i.more) b c m n xs → Leads S L Q K C g es a c m n xs
  after_idle es a b c m n rows xs i l = record {
    did = did_then S L Q K g joins es m.session [] xs rows [] a b c (did_idle S L Q K g es m.session rows a b i) l.did;
    knows = subst (λ (x : List Event). Knows g x n) (append_assoc es i.more l.did.more) l.knows;
  }

  pub ends_after : (es : List Event) (a b c : A) (m n : Memory) (rows : List ℕ) (commit : Bool) (MayBreak : List Event → Type 0) (r : Result Receipt Hindrance) → (i : Idles S L Q K g es m.session rows a b) →
      MatchResult r (λ receipt. Ends S L Q K C g (es ++ i.more) b c m n commit receipt []) (Refused S L Q K C g (es ++ i.more) b c m n IsNoStep MayBreak) → MatchResult r (λ receipt. Ends S L Q K C g es a c m n commit receipt []) (Refused S L Q K C g es a c m n IsNoStep MayBreak)
  ends_after es a b c m n rows commit MayBreak (Ok receipt) i e = record {
    f = e.f;
    leads = after_idle es a b c m n rows (Event.End m.session commit e.f ∷ unlocks m.session (held_rows m.held (length m.held))) i e.leads;
    receipt_is = occurs_behind g es i.more e.leads.did.more (Event.End m.session commit e.f) (IsReceipt m.session e.f receipt) e.receipt_is;
  }
  ends_after es a b c m n rows commit MayBreak (Err h) i r = record {
    steps = r.steps;
    latched = r.latched;
    at = r.at;
    way = did_then S L Q K g joins es m.session [] r.steps rows r.latched a b r.at (did_idle S L Q K g es m.session rows a b i) r.way;
    stops = subst (λ (k : List Event). Stops S L Q K C g k m.session (λ last. MayBreak (r.steps ++ last)) r.latched h r.at c) (append_assoc es i.more r.way.more) r.stops;
    may = r.may;
    leads = λ f. after_idle es a b c m n rows r.steps i (r.leads f);
  }

  pub end_failed : (es : List Event) (a b : A) (m : Memory) (rows : List ℕ) (MayBreak : List Event → Type 0) (h : Hindrance) → S g es rows a → (is_fault h ≡ true) × Hindered S L Q K g es C m.session MayBreak rows h a b → Refused S L Q K C g es a b m m IsNoStep MayBreak h
  end_failed es a b m rows MayBreak h s x = record {
    steps = [];
    latched = rows;
    at = a;
    way = did_idle S L Q K g es m.session rows a a (idles_none S L Q K C g rests joins es m.session rows a s);
    stops = stops_failed S L Q K C g rests joins (es ++ []) m.session MayBreak rows h a b x.0 (subst (λ (l : List Event). Hindered S L Q K g l C m.session MayBreak rows h a b) (sym (append-nil es)) x.1);
    may = λ f. refl;
    leads = λ f. absurd (true≢false (sym x.0 ∙ f));
  }

  latch_leads : (es : List Event) (a b c d : A) (m : Memory) (latched : List ℕ) → Knows g es m → (i : Idles S L Q K g es m.session latched a b) → (x : (over : Idles S L Q K g (es ++ i.more) m.session latched b c) × Idles S L Q K g ((es ++ i.more) ++ over.more) m.session [] c d) → Leads S L Q K C g es a d m m []
  latch_leads es a b c d m latched k i (over, rest) =
      leads_idle S L Q K C g rests joins es a d m k (idles_then S L Q K C g rests joins es m.session latched [] a b d i (idles_then S L Q K C g rests joins (es ++ i.more) m.session latched [] b c d over rest))

  pub latch_refused : (es : List Event) (a b : A) (m : Memory) (MayBreak : List Event → Type 0) (h : Hindrance) → MayBreak [] → Knows g es m → Unlatched S L Q K C g es a b m m h → Refused S L Q K C g es a b m m IsNoStep MayBreak h
  latch_refused es a b m MayBreak h none k u = record {
    steps = [];
    latched = u.latched;
    at = u.at;
    way = did_idle S L Q K g es m.session u.latched a u.at u.way;
    stops = stops_as S L Q K C g rests joins (es ++ u.way.more) m.session IsNoStep MayBreak u.latched h u.at b (λ l e. subst MayBreak (sym e) none) u.stops;
    may = λ f. refl;
    leads = λ f. latch_leads es a u.at u.stops.to b m u.latched k u.way (u.stops.idles f);
  }

  -- ## Commits

  abbrev pub leads_quiet : (es : List Event) (a b c : A) (m n : Memory) (xs : List Event) → n.session ≡ m.session → (l : Leads S L Q K C g es a b m n xs) → (i : Idles S L Q K g (es ++ l.did.more) m.session [] b c) → Leads S L Q K C g es a c m n xs
  leads_quiet es a b c m n xs e l i = record {
    did = record {
      more = l.did.more ++ i.more;
      goes = goes_then S L Q K g joins es l.did.more i.more [] [] a b c l.did.goes i.goes;
      steps_are = steps_more m.session l.did.more i.more ∙ (ap₂ (λ (x y : List Event). x ++ y) l.did.steps_are (quiet_steps m.session i.more i.quiet) ∙ append-nil xs);
      only = λ h. only_more m.session l.did.more i.more (l.did.only h) (i.only (l.did.goes.alone ∙ h));
      kinds = may_more (K m.session) l.did.more i.more l.did.kinds i.kinds;
    };
    knows = subst (λ (x : List Event). Knows g x n) (append_assoc es l.did.more i.more)
        (knows_more g (es ++ l.did.more) i.more n l.knows i.goes.met (subst (λ (w : ℕ). Rattle.transactions.specs.Steps.AreQuiet w i.more) (sym e) i.quiet));
  }

  -- ## Aborts

  pub aborts_all : (es : List Event) (a b c : A) (m n p : Memory) (receipt : Receipt) → n.session ≡ m.session → n.held ≡ m.held → n.undo ≡ [] → (l : Backs S L Q K C g es a b m n) → Ends S L Q K C g (es ++ l.leads.did.more) b c n p false receipt [] →
      Aborts S L Q K C g es a c m p receipt.txn
  aborts_all es a b c m n p receipt e h z l r =
      let x = subst (λ (held : List Bool). Ends S L Q K C g (es ++ l.leads.did.more) b c (record n { session = m.session; held = held }) p false receipt []) h
      (subst (λ (w : ℕ). Ends S L Q K C g (es ++ l.leads.did.more) b c (record n { session = w }) p false receipt []) e r) in
      record {
        pages = l.pages;
        count = all_backs m n l.pages l.done z l.count l.left;
        receipt = receipt;
        number_is = refl;
        ends = record {
          f = x.f;
          leads = record {
            did = did_then S L Q K g joins es m.session (put_backs m.session l.pages) (Event.End m.session false x.f ∷ unlocks m.session (held_rows m.held (length m.held))) [] [] a b c l.leads.did x.leads.did;
            knows = subst (λ (k : List Event). Knows g k p) (append_assoc es l.leads.did.more x.leads.did.more) x.leads.knows;
          };
          receipt_is = occurs_behind g es l.leads.did.more x.leads.did.more (Event.End m.session false x.f) (IsReceipt m.session x.f receipt) x.receipt_is;
        };
      }

-- ## A commit, and its flush

module _ {A : Type 0} (S : Opening → List Event → List ℕ → A → Type 0) (L : Opening → List Event → List Event → A → A → Type 0) (Q : A → Bool) (C : Hindrance → Opening → List Event → A → A → Type 0) (g : Opening)
    (rests : (es : List Event) (latched : List ℕ) (a : A) → S g es latched a → L g es [] a a) (joins : Joins S L Q in_flushes g) where
  pub commits_all : (es : List Event) (a b c : A) (m n : Memory) (X : State → ℕ → Bool) (receipt : Receipt) → n.session ≡ m.session → (l : Ends S L Q in_any C g es a b m n true receipt []) →
      Flushes S L Q in_flushes g (es ++ l.leads.did.more) n.session (λ s. X s n.session) b c → Commits S L Q in_flushes C g es a c m n (λ s. X s m.session) receipt
  commits_all es a b c m n X receipt e l is =
      let more = l.leads.did.more in
      let steps = Event.End m.session true l.f ∷ unlocks m.session (held_rows m.held (length m.held)) in
      let p = subst (λ (w : ℕ). Flushes S L Q in_flushes g (es ++ more) w (λ s. X s w) b c) e is in
      record {
        ends = record {
          f = l.f;
          leads = leads_quiet S L Q in_flushes C g rests joins es a b c m n steps e (leads_as S L Q in_any in_flushes wider_flushes C g es a b m n steps l.leads) p.idles;
          receipt_is = occurs_ahead g es more p.idles.more (Event.End m.session true l.f) (IsReceipt m.session l.f receipt) l.receipt_is;
        };
        before = more;
        last = p.idles.more;
        whole = refl;
        unflushed = l.leads.did.kinds;
        quiet = p.idles.quiet;
        flushes_are = p.flushes_are;
        none_waits = subst (λ (x : List Event). X (state_after g x) m.session ≡ false) (append_assoc es more p.idles.more) p.none_waits;
      }

  commit_first : (m : Memory) (f : ℕ) (last : List Event) → last ≡ [] → IsCommitsFirst m ((Event.End m.session true f ∷ unlocks m.session (held_rows m.held (length m.held))) ++ last)
  commit_first m f last e =
      let steps = Event.End m.session true f ∷ unlocks m.session (held_rows m.held (length m.held)) in
      (f, ([], append-nil (steps ++ last) ∙ (ap (λ (k : List Event). steps ++ k) e ∙ append-nil steps)))

  pub commit_unflushed : (es : List Event) (a b c : A) (m n : Memory) (receipt : Receipt) (h : Hindrance) → n.session ≡ m.session → (l : Ends S L Q in_any C g es a b m n true receipt []) →
      (is_fault h ≡ true) × Hindered S L Q in_flushes g (es ++ l.leads.did.more) C n.session IsNoStep [] h b c → Refused S L Q in_flushes C g es a c m n IsNoStep (IsCommitsFirst m) h
  commit_unflushed es a b c m n receipt h e l x =
      let more = l.leads.did.more in
      let steps = Event.End m.session true l.f ∷ unlocks m.session (held_rows m.held (length m.held)) in
      record {
        steps = steps;
        latched = [];
        at = b;
        way = did_as S L Q in_any in_flushes wider_flushes C g es m.session steps [] a b l.leads.did;
        stops = stops_as S L Q in_flushes C g rests joins (es ++ more) m.session IsNoStep (λ last. IsCommitsFirst m (steps ++ last)) [] h b c (λ last none. commit_first m l.f last none)
            (stops_failed S L Q in_flushes C g rests joins (es ++ more) m.session IsNoStep [] h b c x.0 (subst (λ (w : ℕ). Hindered S L Q in_flushes g (es ++ more) C w IsNoStep [] h b c) e x.1));
        may = λ f. absurd (true≢false (sym x.0 ∙ f));
        leads = λ f. absurd (true≢false (sym x.0 ∙ f));
      }
