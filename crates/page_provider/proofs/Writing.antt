-- A page that the pager writes, in each run where nobody else steps.
use Rattle.std.proofs.Common.{◌≡◌, ◌<◌, ℕ, Bool, true, false, List, [], ◌∷◌, ◌++◌, length, refl, sym, ap, subst, ◌∙◌}
use Rattle.std.proofs.lemmas.Bool.{ltb-true}
use Rattle.btree_descent.specs.btree_node.Words.{words_of}
use Rattle.lean_bytes.specs.Numbers.{AreWords}
use Rattle.page_model.specs.Page.{Page}
use Rattle.btree_descent.specs.core_state.Openings.{Opening}
use Rattle.btree_descent.specs.core_state.Events as happening
use Rattle.btree_descent.specs.core_state.Needs as core
use Rattle.btree_descent.specs.core_state.Needs.{is_dirty}
use Rattle.btree_descent.specs.core_state.States.{State}
use Rattle.btree_descent.specs.core_state.Steps.{state_after}
use Rattle.map_model.specs.Lists.{all}
use Rattle.disk_runs.specs.Quiet.{is_quiet}
use Rattle.lean_disk.specs.Story.{Crash, IsLawful, Story}
use Rattle.disk_runs.specs.Stands.{Known}
use Rattle.btree_descent.specs.row_words.declared.event.Event.{Event}
use Rattle.btree_descent.specs.row_words.declared.event.Event.TheVariants as event
use Rattle.btree_descent.specs.row_words.declared.event.Event.TheVariants.{Save}
use Rattle.btree_descent.specs.row_words.Moments.{events_of}
use Rattle.btree_descent.specs.row_words.Openings.{opening}
use Rattle.btree_descent.specs.rows_trait.declared.view.View.{View}
use Rattle.btree_descent.specs.rows_trait.Turns.{Ran}
use Rattle.btree_descent.specs.rows_trait.Views.{Shape, state}
use Rattle.row_image.specs.Images.{written}
use Rattle.page_calls.specs.Calls.{Saves, SavesMoments}
use Rattle.page_moves.specs.Moves.{IsMet, contents_of}
use Rattle.page_provider.specs.Disks.{Disked, Runs, told}
use Rattle.page_provider.specs.Inside.{MayGo, WritesOn}
use Rattle.page_provider.specs.Laws.{DiskLaws, RowLaws}
use Rattle.page_provider.specs.Providers.{Provider, Keeps}
use Rattle.page_provider.specs.Steps.{IsMissAtMost}
use Rattle.page_provider.proofs.Running.{disked_quiet, went_call}

-- the page as it is written may be saved in the run
pub may_write : {z : Shape} {v : View} {k : Provider} {page : ℕ} {n : Page} {g : Opening} {s0 : Crash} {x : Known} {s : Story} → RowLaws → Keeps z v k → MayGo v page → IsMet v (Save page) → is_dirty (state v).core page ≡ true
    → length k.slots ≡ length k.free → AreWords (words_of n) → n ≡ written (state v).core page k.generation → Runs g s0 x k v s → Saves g (told v) x n
may_write {v = v} {k = k} {page = page} {n = n} {g = g} {x = x} laws c m met dirty whole words is run =
    let core_is : (state v).core ≡ state_after g (told v) = laws.reached g v.given run.opens v.seen in
    let number : n.number ≡ page = ap (λ (y : Page). y.number) is in
    let many : (opening v.given).format.pages ≡ x.master.pages = sym c.pages ∙ (sym whole ∙ run.on.knows.count) in
    let sound = c.sound v.seen in record {
      met = subst (λ (t : State). core.may g t (happening.Event.Save n.number) ≡ true) core_is (laws.needs g v.given run.opens (state v).core (happening.Event.Save n.number) ∙ (ap (λ p. core.may (opening v.given) (state v).core (happening.Event.Save p)) number ∙ met));
      stored = (laws.pages n.number x.master.pages n).stored (opening v.given).format (record { room = refl; levels = refl; dead = refl }) many
          (subst (λ (y : Page). Rattle.page_model.specs.Nodes.WellFormed (opening v.given).format y.node) (sym is) (sound.tree.formed page m.below)) refl
          (subst (λ (y : Page). y.last_log < 256) (sym is) (sound.logs page)) words;
      generation = ap (λ (y : Page). y.generation) is ∙ sym run.generation;
      contents = ap (λ (y : Page). contents_of y) is ∙ (ap (λ (t : State). t.page page) core_is ∙ ap (λ p. (state_after g (told v)).page p) (sym number));
      dirty = subst (λ (t : State). (t.saved n.number).gsn < n.gsn) core_is
          (subst (λ p. ((state v).core.saved p).gsn < n.gsn) (sym number) (subst (λ e. ((state v).core.saved page).gsn < e) (sym (ap (λ (y : Page). y.gsn) is)) (ltb-true ((state v).core.saved page).gsn ((state v).core.page page).gsn dirty)));
    }

-- What the device was asked to do is that, and the rows have the event that goes with it.
pub disked_write : {alone : Bool} {v u : View} {was is : Provider} {n : Page} {old new : Story} {es : List Event} → DiskLaws → ((g : Opening) (s0 : Crash) (x : Known) → Runs g s0 x was v old → Saves g (told v) x n)
    → SavesMoments was.slots n old new → Ran alone v es u → is.generation ≡ was.generation → (is.broken ≡ false → WritesOn was.slots is.slots n old new × (events_of es ≡ happening.Event.Save n.number ∷ []))
    → Disked alone was v is u old new
disked_write {v = v} {u = u} {is = is} {new = new} {es = es} laws saves moments r generation after only g s0 x k =
    went_call laws k (subst (λ b. Ran b v es u) only r) generation (moments s0 g (told v) x k.on (saves g s0 x k))
    (λ well. let a = after well in let w = a.0 s0 g (told v) x k.on (saves g s0 x k) in
    (w.0, w.1, subst (λ fs. Rattle.page_calls.specs.Calls.IsOn g (told v ++ fs) s0 w.0 is.slots new) (sym a.1) w.2))

few_quiet : (es : List Event) → IsMissAtMost es → all is_quiet (events_of es) ≡ true
few_quiet [] k = refl
few_quiet (event.Miss w ∷ []) k = refl
few_quiet (event.Miss w ∷ (e ∷ es)) k = absurd k
few_quiet (_ ∷ es) k = absurd k

-- nothing was asked of the device, and one miss at most was appended
pub disked_misses : {alone : Bool} {v u : View} {k : Provider} {s : Story} {es : List Event} → DiskLaws → IsLawful s → Ran alone v es u → IsMissAtMost es → Disked alone k v k u s s
disked_misses {es = es} laws law r few = disked_quiet laws law r (few_quiet es few) refl refl
