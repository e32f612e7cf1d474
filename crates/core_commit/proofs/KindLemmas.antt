-- What every event keeps, each kind keeps.
use Rattle.core_state.specs.States.{State, start}
use Rattle.core_state.specs.Openings.{Opening}
use Rattle.core_state.specs.Events.{Event}
use Rattle.core_state.specs.Steps.{step, run}
use Rattle.core_commit.specs.Kinds.{Keeps, KeptByEach, EveryKind}
use Rattle.core_commit.proofs.Runs.{Good, step_keeps, good_event, good_start}
use Rattle.std.proofs.Common.{true, false, List, [], ◌∷◌}

pub each_kind : (g : Opening) (P : State → Type 0) → P (start g) → ((e : Event) → Keeps g P e) → KeptByEach g P
each_kind g P opened k = record {
  opened = opened;
  enter = λ w e. k (Event.Enter w e);
  leave = λ w. k (Event.Leave w);
  begin = λ w f. k (Event.Begin w f);
  lock = λ w i mode. k (Event.Lock w i mode);
  read = λ w p j a. k (Event.Read w p j a);
  next = λ w p j a. k (Event.Next w p j a);
  peek = λ w p j a. k (Event.Peek w p j a);
  change = λ w p j v. k (Event.Change w p j v);
  put_back = λ w p. k (Event.Put_back w p);
  split = λ w l r q i. k (Event.Split w l r q i);
  lift = λ w c. k (Event.Lift w c);
  join = λ w l r q. k (Event.Join w l r q);
  drop = λ w c. k (Event.Drop w c);
  purge = λ w p keys. k (Event.Purge w p keys);
  commit = λ w f. k (Event.End w true f);
  abort = λ w f. k (Event.End w false f);
  unlock = λ w i. k (Event.Unlock w i);
  flush = λ w n. k (Event.Flush w n);
  sync = λ n. k (Event.Sync n);
  post = λ w n. k (Event.Post w n);
  fetch = λ p pairs. k (Event.Fetch p pairs);
  load = λ p f. k (Event.Load p f);
  cool = λ p. k (Event.Cool p);
  rescue = λ p. k (Event.Rescue p);
  save = λ p. k (Event.Save p);
  evict = λ p. k (Event.Evict p);
  tick = k Event.Tick;
  cut = λ x heads. k (Event.Cut x heads);
  ask = λ w. k (Event.Ask w);
  refused = λ w n m. k (Event.Refused w n m);
  miss = λ w. k (Event.Miss w);
  list = list;
  always = λ es. list (start g) es opened;
}
  where
    list : (s : State) (es : List Event) → P s → P (run g s es)
    list s [] h = h
    list s (e ∷ es) h = list (step g s e) es (step_keeps P g s e h (k e s h))

pub every_kind : EveryKind
every_kind g = each_kind g (Good g) (good_start g) (λ e s i m. good_event g s i e m)
