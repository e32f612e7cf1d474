-- Where pages are: one page for each frame, hot parents, a queue of the cooling pages; what is saved of each; and that
-- no frame which a worker could have seen is filled with another page before the worker leaves.
use Rattle.map_model.specs.Lists.{Has, any}
use Rattle.core_commit.specs.image_model.Entries.{Entry, touches}
use Rattle.page_model.specs.Check.{names_page}
use Rattle.core_commit.specs.core_state.Lists.{times}
use Rattle.core_commit.specs.core_state.States.{Place, State, start, flushed_by_all, nodes_of, is_hot, is_cooling, is_cold, in_frame, epoch_of, waits_for}
use Rattle.core_commit.specs.core_state.Openings.{Opening}
use Rattle.core_commit.specs.core_state.Events.{Event}
use Rattle.core_commit.specs.core_state.Needs.{may}
use Rattle.core_commit.specs.core_state.Steps.{step, run, HasBeen}
use Rattle.std.specs.Prelude.{◌≡◌, ◌<◌, ◌≤◌, ℕ, Bool, true, false, ◌==◌, List, [], ◌∷◌, Some}

-- ## Frames

-- 1 where it holds, else 0
abbrev pub one_if : Bool → ℕ
one_if true = 1
one_if false = 0

-- where pages may be
pub record Residence (g : Opening) (s : State) : Type 0 where
  -- one page for each frame (that there is one frame for each page is the form of a place)
  pub one : (p q f : ℕ) → in_frame (s.place p) f ≡ true → in_frame (s.place q) f ≡ true → p ≡ q
  pub within : (p f : ℕ) → in_frame (s.place p) f ≡ true → (p < g.format.pages) × (f < g.frames)
  pub root : s.place 0 ≡ Place.Hot 0
  -- the parent of a hot page is hot
  pub parent : (q p : ℕ) → q < g.format.pages → names_page (nodes_of s q) p ≡ true → is_hot (s.place p) ≡ true → is_hot (s.place q) ≡ true
  -- the queue has each cooling page once, and no other
  pub queue : (p : ℕ) → times p s.queue ≡ one_if (is_cooling (s.place p))
  -- a cold page is as it was saved
  pub cold : (p : ℕ) → is_cold (s.place p) ≡ true → s.page p ≡ s.saved p

-- so after every list of events
abbrev pub EveryResidence : Type 0
EveryResidence = (g : Opening) (es : List Event) → Residence g (run g (start g) es)

-- ## What is saved

-- What the crash theorem asks of the pages that a crash leaves.
pub record SavedWell (g : Opening) (es : List Event) : Type 0 where
  pub pages : (p : ℕ) → HasBeen g (start g) es p ((run g (start g) es).saved p)
  pub numbers : (p : ℕ) → ((run g (start g) es).saved p).gsn ≤ flushed_by_all g (run g (start g) es)
  pub changes : (p : ℕ) (r : Entry) → Has r (run g (start g) es).entries → touches p r ≡ true → r.number ≤ (run g (start g) es).cut → r.number ≤ ((run g (start g) es).saved p).gsn
  -- a page that is not dirty is as it was saved
  pub clean : (p : ℕ) → ((run g (start g) es).page p).gsn ≤ ((run g (start g) es).saved p).gsn → (run g (start g) es).page p ≡ (run g (start g) es).saved p

-- so after every list of events
abbrev pub EverySaved : Type 0
EverySaved = (g : Opening) (es : List Event) → SavedWell g es

-- ## Epochs

-- Page 0 names a page of the chain, that one the next, and so on to p; each but p is known to be hot.
abbrev pub Linked : State → ℕ → List ℕ → Type 0
Linked s p [] = p ≡ 0
Linked s p (q ∷ qs) = (names_page (nodes_of s q) p ≡ true) × (is_hot (s.place q) ≡ true) × Linked s q qs

-- frame f, in which page p stands, is reachable by frame swips from page 0
pub record Reachable (s : State) (f p : ℕ) : Type 0 where
  pub hot : s.place p ≡ Place.Hot f
  pub chain : List ℕ
  pub linked : Linked s p chain

-- the event is a leave of w
abbrev pub leaves : ℕ → Event → Bool
leaves w (Event.Leave v) = v == w
leaves w _ = false

-- w does not leave
abbrev pub Stays : ℕ → List Event → Type 0
Stays w es = any (leaves w) es ≡ false

-- From a worker's Enter to its Leave, a frame that was reachable at the Enter or at any moment since keeps its page.
abbrev pub EpochRule : Type 0
EpochRule = (g : Opening) (before : List Event) (w e : ℕ) (during after : List Event) (f p : ℕ) →
    let entering = run g (start g) before in
    let seen = run g (step g entering (Event.Enter w e)) during in
    let now = run g seen after in
    may g entering (Event.Enter w e) ≡ true → Stays w during → Stays w after → Reachable seen f p →
    (in_frame (now.place p) f ≡ true) × ((q : ℕ) → in_frame (now.place q) f ≡ true → q ≡ p)

-- No worker is inside with an epoch above the global one, and 0 is none; and a worker for whom a page waits is inside, with an epoch that is not above
-- the page's.
pub record Waiting (s : State) : Type 0 where
  pub local : (w e : ℕ) → s.inside w ≡ Some e → e ≤ s.epoch
  pub some : (w e : ℕ) → s.inside w ≡ Some e → 0 < w
  pub waits : (p w : ℕ) → waits_for (s.place p) w ≡ true → (e : ℕ) × (s.inside w ≡ Some e) × (e ≤ epoch_of (s.place p))

-- so after every list of events
abbrev pub EveryWaiting : Type 0
EveryWaiting = (g : Opening) (es : List Event) → Waiting (run g (start g) es)

-- A cooling page waits for nobody where each worker inside has an epoch above the page's: the test by numbers.
abbrev pub EveryRipe : Type 0
EveryRipe = (g : Opening) (es : List Event) (p : ℕ) → let s = run g (start g) es in
    ((w e : ℕ) → s.inside w ≡ Some e → epoch_of (s.place p) < e) → (w : ℕ) → waits_for (s.place p) w ≡ false

-- The frames that are reachable are those of the hot nodes.
abbrev pub EveryHot : Type 0
EveryHot = (g : Opening) (es : List Event) (p f : ℕ) → let s = run g (start g) es in
    p < g.format.pages → (nodes_of s p).live ≡ true → s.place p ≡ Place.Hot f → Reachable s f p
