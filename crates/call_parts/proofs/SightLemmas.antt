-- Events that are seen one after another, and the records that they enter.
use Rattle.std.proofs.Common.{◌≡◌, ◌++◌, List, [], ◌∷◌, refl, sym, ap, ◌∙◌, subst, append_assoc}
use Rattle.std.proofs.lemmas.Bool.{eq-eqb}
use Rattle.session_state.specs.image_model.Entries.{Entry}
use Rattle.session_state.specs.core_state.Steps as core
use Rattle.session_state.specs.core_state.Steps.{AllMet, at_pages}
use Rattle.session_state.specs.disk_image.Records.{entry_of}
use Rattle.session_state.specs.row_words.declared.event.Event.{Event}
use Rattle.session_state.specs.row_words.Moments.{events_of}
use Rattle.session_state.specs.row_words.Openings.{opening}
use Rattle.session_state.specs.rows_trait.declared.view.View.{View}
use Rattle.session_state.specs.rows_trait.Views.{state}
use Rattle.session_state.specs.engine_calls.Entries.{EveryEntry}
use Rattle.session_state.proofs.Moments.{events_more, seen_state}
use Rattle.call_parts.specs.Laws.{EveryEnter, EverySight}
use Rattle.call_parts.specs.Steps.{Sees, SeesBetween}
use Rattle.call_parts.proofs.RunLemmas.{met_first, met_join, met_later, run_core}

-- ## One after another

-- the core behind what was seen
core_behind : (v u : View) (es : List Event) → u.given ≡ v.given → u.seen ≡ v.seen ++ es → (state u).core ≡ core.run (opening v.given) (state v).core (events_of es)
core_behind v u es given seen = ap (λ m. m.core) (seen_state v u es given seen) ∙ run_core v.given (state v) es

module _ (first later : List Event) (v w : View) where
  both_met : Sees (first ++ later) v w → AllMet (opening v.given) (state v).core (events_of first ++ events_of later)
  both_met s = subst (AllMet (opening v.given) (state v).core) (events_more first later) s.met

  -- up to the first ones
  abbrev middle : View
  middle = record w { seen = v.seen ++ first }

  split : Sees (first ++ later) v w → SeesBetween first later v w
  split s = record {
    between = middle;
    before = record { given = s.given; seen = refl; met = met_first (opening v.given) (state v).core (events_of first) (events_of later) (both_met s) };
    behind = record {
      given = refl;
      seen = s.seen ∙ sym (append_assoc v.seen first later);
      met = subst (λ k. AllMet (opening k) (state middle).core (events_of later)) (sym s.given) (subst (λ t. AllMet (opening v.given) t (events_of later)) (sym (core_behind v middle first s.given refl))
          (met_later (opening v.given) (state v).core (events_of first) (events_of later) (both_met s)));
    };
  }

  join : (u : View) → Sees first v u → Sees later u w → Sees (first ++ later) v w
  join u a b = record {
    given = b.given ∙ a.given;
    seen = b.seen ∙ (ap (λ ys. ys ++ later) a.seen ∙ append_assoc v.seen first later);
    met = subst (AllMet (opening v.given) (state v).core) (sym (events_more first later))
        (met_join (opening v.given) (state v).core (events_of first) (events_of later) a.met
        (subst (λ t. AllMet (opening v.given) t (events_of later)) (core_behind v u first a.given a.seen) (subst (λ k. AllMet (opening k) (state u).core (events_of later)) a.given b.met)));
  }

pub every_sight : EverySight
every_sight first later v u w = record { split = split first later v w; join = join first later v w u }

-- ## Records

pub every_enter : EveryEntry → EveryEnter
every_enter entries own v = record {
  change = λ page key value entry is. record {
    of_own = eq-eqb own own refl;
    entry_is = ap (λ (e : Entry). e ∷ (state v).core.entries)
        (sym (ap (entry_of own) is ∙ (entries (opening v.given) (state v).core own (at_pages (state v).core own ((state v).core.worker own) (page ∷ []))).change page key value));
  };
  commit = λ floor entry is. record {
    of_own = eq-eqb own own refl;
    entry_is = ap (λ (e : Entry). e ∷ (state v).core.entries) (sym (ap (entry_of own) is ∙ (entries (opening v.given) (state v).core own ((state v).core.worker own)).commit floor));
  };
  abort = λ floor entry is. record {
    of_own = eq-eqb own own refl;
    entry_is = ap (λ (e : Entry). e ∷ (state v).core.entries) (sym (ap (entry_of own) is ∙ (entries (opening v.given) (state v).core own ((state v).core.worker own)).abort floor));
  };
}
