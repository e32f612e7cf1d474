-- A property of states that each kind of event keeps, one law a kind.
use Rattle.map_model.specs.Maps.{MapAnswer}
use Rattle.page_model.specs.Pairs.{Pair}
use Rattle.core_state.specs.States.{State, start}
use Rattle.core_state.specs.Openings.{Opening}
use Rattle.core_state.specs.Events.{Event, Mode}
use Rattle.core_state.specs.Needs.{may}
use Rattle.core_state.specs.Steps.{happens, run}
use Rattle.core_commit.specs.Invariants.{Good}
use Rattle.std.specs.Prelude.{◌≡◌, ℕ, true, false, List, Option}

-- of whatever state has P, the state after the event has P where its need is met
abbrev pub Keeps : Opening → (State → Type 0) → Event → Type 0
Keeps g P e = (s : State) → P s → may g s e ≡ true → P (happens g s e)

-- The start has it, and each kind of event keeps it.
pub record KeptByEach (g : Opening) (P : State → Type 0) : Type 0 where
  pub opened : P (start g)
  pub enter : (w e : ℕ) → Keeps g P (Event.Enter w e)
  pub leave : (w : ℕ) → Keeps g P (Event.Leave w)
  pub begin : (w f : ℕ) → Keeps g P (Event.Begin w f)
  pub lock : (w i : ℕ) (mode : Mode) → Keeps g P (Event.Lock w i mode)
  pub read : (w p k : ℕ) (answer : Option ℕ) → Keeps g P (Event.Read w p k answer)
  pub next : (w p k : ℕ) (answer : MapAnswer) → Keeps g P (Event.Next w p k answer)
  pub peek : (w p k : ℕ) (answer : Option ℕ) → Keeps g P (Event.Peek w p k answer)
  pub change : (w p k v : ℕ) → Keeps g P (Event.Change w p k v)
  pub put_back : (w p : ℕ) → Keeps g P (Event.Put_back w p)
  pub split : (w l r q i : ℕ) → Keeps g P (Event.Split w l r q i)
  pub lift : (w c : ℕ) → Keeps g P (Event.Lift w c)
  pub join : (w l r q : ℕ) → Keeps g P (Event.Join w l r q)
  pub drop : (w c : ℕ) → Keeps g P (Event.Drop w c)
  pub purge : (w p : ℕ) (keys : List ℕ) → Keeps g P (Event.Purge w p keys)
  pub commit : (w f : ℕ) → Keeps g P (Event.End w true f)
  pub abort : (w f : ℕ) → Keeps g P (Event.End w false f)
  pub unlock : (w i : ℕ) → Keeps g P (Event.Unlock w i)
  pub flush : (w n : ℕ) → Keeps g P (Event.Flush w n)
  pub sync : (n : ℕ) → Keeps g P (Event.Sync n)
  pub post : (w n : ℕ) → Keeps g P (Event.Post w n)
  pub fetch : (p : ℕ) (pairs : List Pair) → Keeps g P (Event.Fetch p pairs)
  pub load : (p f : ℕ) → Keeps g P (Event.Load p f)
  pub cool : (p : ℕ) → Keeps g P (Event.Cool p)
  pub rescue : (p : ℕ) → Keeps g P (Event.Rescue p)
  pub save : (p : ℕ) → Keeps g P (Event.Save p)
  pub evict : (p : ℕ) → Keeps g P (Event.Evict p)
  pub tick : Keeps g P Event.Tick
  pub cut : (x : ℕ) (heads : ℕ → ℕ) → Keeps g P (Event.Cut x heads)
  pub ask : (w : ℕ) → Keeps g P (Event.Ask w)
  pub refused : (w n m : ℕ) → Keeps g P (Event.Refused w n m)
  pub miss : (w : ℕ) → Keeps g P (Event.Miss w)
  -- so each list of events keeps it, and each state has it
  pub list : (s : State) (es : List Event) → P s → P (run g s es)
  pub always : (es : List Event) → P (run g (start g) es)

-- It is so of the invariants.
abbrev pub EveryKind : Type 0
EveryKind = (g : Opening) → KeptByEach g (Good g)
