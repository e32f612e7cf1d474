-- Which number an end needs, over every run of begins, touches, ends and flushes of all workers.
use Rattle.std.specs.Prelude.{if◌then◌else◌, ◌≡◌, ◌⊎◌, ◌<◌, ◌≤◌, ℕ, suc, max, Bool, true, false, ◌&&◌, not, leb, ◌==◌, List, [], ◌∷◌}
use Rattle.rfa_model.specs.Stamps.{is_remote, owed, debt_at_begin, need_of}
use Rattle.rfa_model.specs.Reaches.{least}

pub record Worker : Type 0 where
  pub clock : ℕ
  pub floor : ℕ
  pub debt : ℕ
  pub is_open : Bool

-- all workers, and how far each log is flushed
pub record World : Type 0 where
  pub worker : ℕ → Worker
  pub flushed : ℕ → ℕ

-- Workers, and their logs, are 1 to `logs`. All numbers start at the base.
pub record Start : Type 0 where
  pub logs : ℕ
  pub base : ℕ

abbrev pub start : Start → World
start g = record {
  worker = λ _. record { clock = g.base; floor = g.base; debt = 0; is_open = false };
  flushed = λ _. g.base;
}

-- w is the worker; f what it finds flushed everywhere; (number, log) a stamp.
pub data Event : Type 0 where
  Begin : (w f : ℕ) → Event
  Touch : (w number log : ℕ) → Event
  End : (w f : ℕ) → Event
  Flush : (w number : ℕ) → Event

abbrev pub flushed_by_all : Start → World → ℕ
flushed_by_all g s = least s.flushed g.logs

abbrev pub upd : {A : Type 0} → (ℕ → A) → ℕ → A → ℕ → A
upd f i a j = if j == i then a else f j

-- the event may happen
abbrev pub may : Start → World → Event → Bool
may g s (Begin w f) = leb w g.logs && (not (s.worker w).is_open && (leb (s.worker w).floor f && leb f (flushed_by_all g s)))
may g s (Touch w number log) = (s.worker w).is_open
may g s (End w f) = (s.worker w).is_open && (leb (s.worker w).floor f && leb f (flushed_by_all g s))
may g s (Flush w number) = leb (s.flushed w) number && leb number (s.worker w).clock

abbrev pub begun : Worker → ℕ → Worker
begun a f = record { clock = a.clock; floor = f; debt = debt_at_begin a.debt f; is_open = true }

abbrev pub touched : ℕ → Worker → ℕ → ℕ → Worker
touched w a number log = record { clock = max a.clock number; floor = a.floor; debt = owed w a.floor a.debt number log; is_open = a.is_open }

abbrev pub ended : Worker → Worker
ended a = record { clock = suc a.clock; floor = a.floor; debt = a.debt; is_open = false }

abbrev pub happens : World → Event → World
happens s (Begin w f) = record s { worker = upd s.worker w (begun (s.worker w) f) }
happens s (Touch w number log) = record s { worker = upd s.worker w (touched w (s.worker w) number log) }
happens s (End w f) = record s { worker = upd s.worker w (ended (s.worker w)) }
happens s (Flush w number) = record s { flushed = upd s.flushed w number }

-- An event that may not happen leaves all as it is.
abbrev pub step : Start → World → Event → World
step g s e = if may g s e then happens s e else s

-- the first event first
abbrev pub run : Start → World → List Event → World
run g s [] = s
run g s (e ∷ es) = run g (step g s e) es

-- in s the event is a touch by w of a stamp with number n, which is remote
abbrev pub IsRemoteTouch : Start → World → Event → ℕ → ℕ → Type 0
IsRemoteTouch g s (Touch v m log) w n = (may g s (Touch v m log) ≡ true) × (v ≡ w) × (m ≡ n) × (is_remote v (s.worker v).floor m log ≡ true)
IsRemoteTouch g s (Begin v f) w n = ⊥
IsRemoteTouch g s (End v f) w n = ⊥
IsRemoteTouch g s (Flush v m) w n = ⊥

-- at some moment of the run w touched a number n that was remote then
abbrev pub Touched : Start → World → List Event → ℕ → ℕ → Type 0
Touched g s [] w n = ⊥
Touched g s (e ∷ es) w n = IsRemoteTouch g s e w n ⊎ Touched g (step g s e) es w n

-- What an end needs is not 0 exactly where its worker touched, at any time before, a number above f that was remote then; it
-- is the greatest such number.
pub record NeedLaws (g : Start) (es : List Event) (w f : ℕ) : Type 0 where
  pub named : (n : ℕ) → Touched g (start g) es w n → f < n → (0 < need_of ((run g (start g) es).worker w).debt f) × (n ≤ need_of ((run g (start g) es).worker w).debt f)
  pub touched : 0 < need_of ((run g (start g) es).worker w).debt f → Touched g (start g) es w (need_of ((run g (start g) es).worker w).debt f) × (f < need_of ((run g (start g) es).worker w).debt f)

abbrev pub EveryNeed : Type 0
EveryNeed = (g : Start) (es : List Event) (w f : ℕ) → may g (run g (start g) es) (End w f) ≡ true → NeedLaws g es w f
