-- What may stand in a call may stand in one that may do more.
use Rattle.std.proofs.Common.{◌≡◌, ℕ, Bool, true, not, List, [], ◌∷◌, ◌++◌}
use Rattle.std.proofs.lemmas.Bool.{and_parts}
use Rattle.core_state.specs.States.{State}
use Rattle.core_state.specs.Openings.{Opening}
use Rattle.core_state.specs.Events.{Event}
use Rattle.transactions.specs.declared.hindrance.Hindrance.{Hindrance}
use Rattle.transactions.specs.declared.hindrance.Mode as modes
use Rattle.transactions.specs.Kinds.{is_structure_of, is_flush_of, in_any, in_changes, in_flushes, AllMay}
use Rattle.transactions.specs.Paths.{Goes, Takes, Idles, Did, Breaks, Hindered}
use Rattle.transactions.specs.Memory.{Memory}
use Rattle.transactions.specs.Calls.{Leads, Stops, Refused, Locked}

pub wider_changes : (w : ℕ) (e : Event) → in_any w e ≡ true → in_changes w e ≡ true
wider_changes w e h = (and_parts (not (is_structure_of w e)) (not (is_flush_of w e)) h).1

pub wider_flushes : (w : ℕ) (e : Event) → in_any w e ≡ true → in_flushes w e ≡ true
wider_flushes w e h = (and_parts (not (is_structure_of w e)) (not (is_flush_of w e)) h).0

module _ {A : Type 0} (S : Opening → List Event → List ℕ → A → Type 0) (L : Opening → List Event → List Event → A → A → Type 0) (Q : A → Bool) (K M : ℕ → Event → Bool) (wider : (w : ℕ) (e : Event) → K w e ≡ true → M w e ≡ true)
    (C : Hindrance → Opening → List Event → A → A → Type 0) (g : Opening) where
  pub all_may : (w : ℕ) (xs : List Event) → AllMay (K w) xs → AllMay (M w) xs
  all_may w [] h = tt
  all_may w (e ∷ xs) h = (wider w e h.0, all_may w xs h.1)

  abbrev pub goes_as : (es more : List Event) (m : List ℕ) (a b : A) → Goes S L Q K g es more m a b → Goes S L Q M g es more m a b
  goes_as es more m a b x = record { met = x.met; stands = x.stands; leaves = x.leaves; alone = x.alone }

  abbrev pub takes_as : (es : List Event) (w : ℕ) (e : Event) (At : State → Type 0) (m : List ℕ) (a b : A) → Takes S L Q K g es w e At m a b → Takes S L Q M g es w e At m a b
  takes_as es w e At m a b t = record {
    before = t.before;
    after = t.after;
    goes = goes_as es (t.before ++ e ∷ t.after) m a b t.goes;
    quiet_before = t.quiet_before;
    quiet_after = t.quiet_after;
    at = t.at;
    only = t.only;
    kinds = all_may w (t.before ++ e ∷ t.after) t.kinds;
  }

  abbrev pub idles_as : (es : List Event) (w : ℕ) (m : List ℕ) (a b : A) → Idles S L Q K g es w m a b → Idles S L Q M g es w m a b
  idles_as es w m a b i = record { more = i.more; goes = goes_as es i.more m a b i.goes; quiet = i.quiet; only = i.only; kinds = all_may w i.more i.kinds }

  abbrev pub did_as : (es : List Event) (w : ℕ) (steps : List Event) (m : List ℕ) (a b : A) → Did S L Q K g es w steps m a b → Did S L Q M g es w steps m a b
  did_as es w steps m a b d = record { more = d.more; goes = goes_as es d.more m a b d.goes; steps_are = d.steps_are; only = d.only; kinds = all_may w d.more d.kinds }

  breaks_may : (es : List Event) (w : ℕ) (May : List Event → Type 0) (a b : A) → Breaks S L Q K g es w May a b → Breaks S L Q M g es w May a b
  breaks_may es w May a b x = record { more = x.more; met = x.met; leaves = x.leaves; may = x.may; only = x.only; kinds = all_may w x.more x.kinds }

  pub hindered_as : (es : List Event) (w : ℕ) (May : List Event → Type 0) (m : List ℕ) (h : Hindrance) (a b : A) → Hindered S L Q K g es C w May m h a b → Hindered S L Q M g es C w May m h a b
  hindered_as es w May m h a b i = record { cause = i.cause; breaks = λ f. breaks_may es w May a b (i.breaks f); idles = λ f. idles_as es w m a b (i.idles f) }

  abbrev pub leads_as : (es : List Event) (a b : A) (m n : Memory) (steps : List Event) → Leads S L Q K C g es a b m n steps → Leads S L Q M C g es a b m n steps
  leads_as es a b m n steps l = record { did = did_as es m.session steps [] a b l.did; knows = l.knows }

  abbrev pub locked_as : (es : List Event) (a b : A) (m n : Memory) (key : ℕ) (mode : modes.Mode) → Locked S L Q K C g es a b m n key mode → Locked S L Q M C g es a b m n key mode
  locked_as es a b m n key mode l = record { takes = takes_as es m.session _ _ [] a b l.takes; ties = l.ties; is = l.is }

  pub stops_may : (es : List Event) (w : ℕ) (May : List Event → Type 0) (latched : List ℕ) (h : Hindrance) (a b : A) → Stops S L Q K C g es w May latched h a b → Stops S L Q M C g es w May latched h a b
  stops_may es w May latched h a b x = record {
    to = x.to;
    cause = x.cause;
    breaks = λ f. let y = x.breaks f in (y.0, breaks_may es w May a b y.1);
    idles = λ f. let y = x.idles f in (idles_as es w latched a x.to y.0, idles_as (es ++ y.0.more) w [] x.to b y.1);
  }

  pub refused_may : (es : List Event) (a b : A) (m n : Memory) (May MayBreak : List Event → Type 0) (h : Hindrance) → Refused S L Q K C g es a b m n May MayBreak h → Refused S L Q M C g es a b m n May MayBreak h
  refused_may es a b m n May MayBreak h r = record {
    steps = r.steps;
    latched = r.latched;
    at = r.at;
    way = did_as es m.session r.steps r.latched a r.at r.way;
    stops = stops_may (es ++ r.way.more) m.session (λ last. MayBreak (r.steps ++ last)) r.latched h r.at b r.stops;
    may = r.may;
    leads = λ f. leads_as es a b m n r.steps (r.leads f);
  }
