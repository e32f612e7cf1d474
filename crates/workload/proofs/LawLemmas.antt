-- Each line of a workload may stand in a script.
use Rattle.std.proofs.Common.{◌≡◌, ◌==◌, if◌then◌else◌, ℕ, Bool, true, false, ◌+◌, ◌-◌, ◌*◌, ◌/◌, ◌%◌, ◌^◌, ◌<◌, ◌≤◌, length, sym, subst, arith}
use Rattle.std.proofs.Math.Nat.{mod-lt}
use Rattle.map_model.specs.declared.call.Call.{Call}
use Rattle.map_model.specs.declared.call.Call.TheVariants.{Begin, Get, Put, Del, Commit}
use Rattle.script_lang.specs.declared.line.Line.{Line}
use Rattle.script_lang.specs.Lines.{CallFits, IsSessionOf}
use Rattle.workload.specs.Draws.{draw, key_of, operation_of, word}
use Rattle.workload.specs.Lines.{call_at, line_at, session_of}
use Rattle.workload.specs.Laws.{EveryLength, EveryLine, IsOfWorkload}
use Rattle.workload.proofs.WordLemmas.{word_small}
use Rattle.workload.proofs.LineLemmas.{length_transactions, line_of_number}

-- a session may ask the call
record MayAsk (workers session : ℕ) (c : Call) : Type 0 where
  by : IsSessionOf workers session c
  fits : CallFits c
  within : IsOfWorkload c

any_draw : (workers session key value : ℕ) (is_get is_del : Bool) → 1 ≤ session → session ≤ workers → key < 1000 → value < 2 ^ 32
    → MayAsk workers session (if is_get then Get key else if is_del then Del key else Put key value)
any_draw workers session key value true is_del low high k v = record { by = (low, high); fits = omega arith; within = k }
any_draw workers session key value false true low high k v = record { by = (low, high); fits = omega arith; within = k }
any_draw workers session key value false false low high k v = record { by = (low, high); fits = (omega arith, omega arith); within = (k, omega arith) }

any_call : (workers session : ℕ) (c : Call) (is_first is_last : Bool) → 1 ≤ session → session ≤ workers → MayAsk workers session c
    → MayAsk workers session (if is_first then Begin else if is_last then Commit else c)
any_call workers session c true is_last low high drawn = record { by = (low, high); fits = tt; within = tt }
any_call workers session c false true low high drawn = record { by = (low, high); fits = tt; within = tt }
any_call workers session c false false low high drawn = drawn

line_fits : (number workers i place : ℕ) → 1 ≤ workers → MayAsk workers (session_of workers i) (call_at number i place)
line_fits number workers i place some =
    let w = word number (8 * i + (place - 1)) in
    let below : i % workers < workers = mod-lt i some in
    let low : 1 ≤ 1 + i % workers = omega arith in
    let high : 1 + i % workers ≤ workers = omega arith in
    let key : w % 1000 < 1000 = mod-lt w {m = 1000} (omega arith) in
    any_call workers (session_of workers i) (draw w) (place == 0) (place == 9) low high
    (any_draw workers (session_of workers i) (key_of w) w (operation_of w == 0) (operation_of w == 3) low high key (word_small number (8 * i + (place - 1))))

pub every_length : EveryLength
every_length number count workers = length_transactions number workers 0 count

pub every_line : EveryLine
every_line number count workers earlier line later some e =
    let n = length earlier in
    let is : line ≡ line_at number workers n = line_of_number number count workers earlier line later e in
    let may = line_fits number workers (n / 10) (n % 10) some in
    record {
      is = is;
      session = subst (λ (l : Line). IsSessionOf workers l.session l.call) (sym is) may.by;
      fits = subst (λ (l : Line). CallFits l.call) (sym is) may.fits;
      within = subst (λ (l : Line). IsOfWorkload l.call) (sym is) may.within;
    }
