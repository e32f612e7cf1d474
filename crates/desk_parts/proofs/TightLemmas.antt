-- Syncs that stand where a page finds no frame.
use Rattle.std.proofs.Common.{◌≡◌, ◌⊎◌, ◌<◌, ◌++◌, ◌||◌, ◌&&◌, ℕ, Bool, true, false, List, [], ◌∷◌, refl, sym, ap, ◌∙◌, subst, true≢false}
use Rattle.map_model.specs.Lists.{all, any}
use Rattle.map_model.specs.declared.call.Call.TheVariants as call
use Rattle.call_parts.specs.core_state.Events.{Event}
use Rattle.call_parts.specs.core_state.Openings.{Opening}
use Rattle.call_parts.specs.core_state.States.{State, start}
use Rattle.call_parts.specs.core_state.Steps.{run, state_after, step}
use Rattle.call_parts.specs.core_calls.Fronts.{Done, front}
use Rattle.call_parts.specs.core_calls.LogEvents.{EveryWhere, IsSync, IsTaken, IsTight, IsTightSomewhere, SyncsWhere, is_log}
use Rattle.call_parts.specs.engine_calls.Parts.{behind_first}
use Rattle.page_model.specs.Nodes.{Format, covers}
use Rattle.rfa_model.specs.Reaches.{least}
use Rattle.call_parts.specs.row_opening.Openings.{EveryReached}
use Rattle.call_parts.specs.row_words.Openings.{opening}
use Rattle.call_parts.specs.rows_trait.declared.view.View.{View}
use Rattle.call_parts.specs.rows_trait.Views.{state}
use Rattle.call_parts.specs.session_state.Ties.{Behind}
use Rattle.call_parts.specs.Steps.{moves_page}
use Rattle.desk_parts.specs.Tight.{EveryTight, StandsBehind, SyncsIfTight, SyncsIfTightSomewhere}

-- ## Events

each : (p q : Bool) → (p && q) ≡ true → (p ≡ true) × (q ≡ true)
each true q x = (refl, x)
each false q x = absurd (true≢false (sym x))

neither : (p q : Bool) → p ≡ false → q ≡ false → (p || q) ≡ false
neither true q x y = absurd (true≢false x)
neither false q x y = y

-- what moves a page does nothing to logs
no_log : (e : Event) → moves_page e ≡ true → is_log e ≡ false
no_log (Event.Flush w n) q = absurd (true≢false (sym q))
no_log (Event.Sync n) q = absurd (true≢false (sym q))
no_log (Event.Cut x heads) q = absurd (true≢false (sym q))
no_log _ q = refl

none : (es : List Event) → all moves_page es ≡ true → any is_log es ≡ false
none [] q = refl
none (e ∷ es) q = let b = each (moves_page e) (all moves_page es) q in neither (is_log e) (any is_log es) (no_log e b.0) (none es b.1)

-- ## In a run

run_more : (g : Opening) (s : State) (es more : List Event) → run g s (es ++ more) ≡ run g (run g s es) more
run_more g s [] more = refl
run_more g s (e ∷ es) more = run_more g (step g s e) es more

-- an opening of the same sizes says the same
taken_in : (g h : Opening) (s : State) (key frame : ℕ) → h.workers ≡ g.workers → IsTaken g s key frame → IsTaken h s key frame
taken_in g h s key frame workers t = record { page = t.page; here = t.here; stays = subst (λ n. (covers (s.page t.page).node key ≡ true) ⊎ (least s.flushed n < (s.page t.page).gsn)) (sym workers) t.stays }

tight_in : (g h : Opening) (s : State) (key : ℕ) → h.workers ≡ g.workers → h.frames ≡ g.frames → h.format ≡ g.format → IsTight g s key → IsTight h s key
tight_in g h s key workers frames format t = record {
  page = t.page;
  below = subst (λ (f : Format). t.page < f.pages) (sym format) t.below;
  needed = t.needed;
  cold = t.cold;
  taken = λ f lt. taken_in g h s key f workers (t.taken f (subst (λ k. f < k) frames lt));
}

module _ (reached : EveryReached) (key : ℕ) (v : View) (g : Opening) (xs : List Done) (first : List Event) (b : Behind g xs first v) where
  core_is : (state v).core ≡ behind_first g xs first
  core_is = reached g v.given b.opens v.seen ∙ (ap (state_after g) b.seen ∙ run_more g (start g) (front xs) first)

  tight_behind : IsTight (opening v.given) (state v).core key → IsTight g (behind_first g xs first) key
  tight_behind t = subst (λ s. IsTight g s key) core_is (tight_in (opening v.given) g (state v).core key b.opens.workers b.opens.frames b.opens.format t)

-- ## Laws

module _ (reached : EveryReached) (where_ : EveryWhere) (key : ℕ) (v u : View) (es : List Event) where
  moves : all moves_page es ≡ true → SyncsIfTight key v es
  moves q g xs first b = (where_ (call.Get key) (call.Get key) g (behind_first g xs first) es).none (none es q)

  sync : (n : ℕ) → IsSync n es → IsTight (opening v.given) (state v).core key → SyncsIfTight key v es
  sync n i t g xs first b = (where_ (call.Get key) (call.Get key) g (behind_first g xs first) es).due n i (tight_behind reached key v g xs first b t)

  join : (later : List Event) → StandsBehind v es u → SyncsIfTight key v es → SyncsIfTight key u later → SyncsIfTight key v (es ++ later)
  join later behind x y g xs first b = (where_ (call.Get key) (call.Get key) g (behind_first g xs first) es).more later (x g xs first b)
      (subst (λ s. SyncsWhere (λ t. IsTight g t key) g s false later) (run_more g (state_after g (front xs)) first es) (y g xs (first ++ es) (behind g xs first b)))

  somewhere : SyncsIfTight key v es → SyncsIfTightSomewhere v es
  somewhere x g xs first b = (where_ (call.Get key) call.Abort g (behind_first g xs first) es).weaker false (λ t p. (key, p)) (x g xs first b)

  join_somewhere : (later : List Event) → StandsBehind v es u → SyncsIfTightSomewhere v es → SyncsIfTightSomewhere u later → SyncsIfTightSomewhere v (es ++ later)
  join_somewhere later behind x y g xs first b = (where_ call.Abort call.Abort g (behind_first g xs first) es).more later (x g xs first b)
      (subst (λ s. SyncsWhere (IsTightSomewhere g) g s false later) (run_more g (state_after g (front xs)) first es) (y g xs (first ++ es) (behind g xs first b)))

pub every_tight : EveryReached → EveryWhere → EveryTight
every_tight reached where_ key v u es = record {
  moves = moves reached where_ key v u es;
  sync = sync reached where_ key v u es;
  join = join reached where_ key v u es;
  somewhere = somewhere reached where_ key v u es;
  join_somewhere = join_somewhere reached where_ key v u es;
}
