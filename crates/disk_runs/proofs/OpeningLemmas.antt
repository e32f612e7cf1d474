-- A run begins.
use Rattle.std.proofs.Common.{◌≡◌, inl, inr, ⊎_elim, ◌≤◌, ◌<◌, ℕ, suc, [], refl, sym, subst, arith}
use Rattle.map_model.specs.Lists.{Has}
use Rattle.page_model.specs.Page.{Page}
use Rattle.master_store.specs.image_model.Entries as entries
use Rattle.core_disk.specs.core_state.Openings.{Opening, start_page}
use Rattle.core_disk.specs.core_state.States.{start}
use Rattle.lean_disk.specs.Story.{Crash, Story}
use Rattle.master_store.specs.disk_slots.declared.master.Master.{Master}
use Rattle.master_store.specs.page_store.Bases.{image_page}
use Rattle.master_store.proofs.page_store.PieceLemmas.{every_whole}
use Rattle.worker_log.specs.Logs.{Log}
use Rattle.core_disk.specs.Held.{IsVersion}
use Rattle.core_disk.specs.Versions.{EveryVersion}
use Rattle.core_disk.proofs.FloorLemmas.{every_floor_step}
use Rattle.disk_runs.specs.Logs.{LogStands}
use Rattle.disk_runs.specs.Openings.{EveryOpened, MayBe, Opens, opened}
use Rattle.disk_runs.specs.Pages.{Firm, IsFirm, MayStand}
use Rattle.disk_runs.specs.Stands.{Stands}

module _ (versions : EveryVersion) (s0 : Crash) (s : Story) (g : Opening) (n : Master) (log : ℕ → Log) (firm : ℕ → Firm) (opens : Opens g s0 n log firm s) where
  -- the recovered page is a version that a crash may leave
  version : (p : ℕ) (v : entries.Contents) → v ≡ start_page g p → IsVersion g [] p v
  version p v e = subst (IsVersion g [] p) (sym e) (versions g [] p).saved

  may : (p : ℕ) (y : Page) → MayBe g n.generation p (firm p) y → MayStand g [] n.generation p (firm p) y
  may p y m = record { generation_is = m.generation_is; is = ⊎_elim (λ b. inl b) (λ a. inr (a.0, version p (image_page y) a.1)) m.is }

  firm_now : (p : ℕ) → p < n.pages → IsFirm g [] n.pages n.generation p (firm p) (s.area 1)
  firm_now p lt = let o = opens.pages.page p lt in record {
    half = o.half;
    there = o.there;
    end = let w = every_whole n.pages p (firm p).slot (s.area 1).bytes (firm p).page o.there in let e = opens.pages.synced.end in omega arith;
    generation_is = o.generation_is;
    version = version p (image_page (firm p).page) o.is;
  }

  log_now : (w : ℕ) → 0 < w → w ≤ g.workers → LogStands (start g) n (s0.image (suc w)) (s0.writes (suc w)) w ((opened n log firm s).account w) (log w) (s.area (suc w))
  log_now w low high = let o = opens.each w low high in record {
    is = o.is;
    ranges = o.ranges;
    accounts = record { entries = refl; flushed = let e = o.numbers.1 in let f = opens.floor in omega arith; order = let e = o.numbers.1 in let f = o.numbers.0 in omega arith };
    began = record { first_is = o.bytes; older_is = o.writes; sealed = o.sealed };
    kept = o.fresh;
  }

  pub stands_opened : Stands g [] s0 (opened n log firm s) s
  stands_opened = record {
    tells = opens.tells;
    is = record { faithful = opens.faithful; format = opens.format; logs = opens.logs; floor = (every_floor_step g [] n.floor).own opens.floor };
    master = opens.master;
    pages = record {
      since = opens.pages.since;
      writes = opens.pages.writes;
      own = opens.pages.own;
      firms = firm_now;
      spares = λ p lt. (opens.pages.page p lt).spare;
      unsynced = λ range has. absurd (subst (Has range) opens.pages.synced.clean has);
      old = λ p i y lt half e. may p y (opens.pages.old p i y lt half e);
      new = λ p i b y lt half has e. may p y (opens.pages.new p i b y lt half has e);
    };
    saved = λ p lt. (opens.pages.page p lt).is;
    logs = log_now;
  }

pub every_opened : EveryVersion → (s : Story) → EveryOpened s
every_opened versions s s0 g n log firm opens = stands_opened versions s0 s g n log firm opens
