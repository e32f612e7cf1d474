-- What a crash leaves of one log of a run.
use Rattle.std.proofs.Common.{◌≡◌, ⊎_elim, ◌≤◌, ◌*◌, ℕ, List, [], ◌++◌, sym, ap, ◌∙◌, subst, arith, append_assoc}
use Rattle.map_model.specs.Lists.{Has}
use Rattle.map_model.proofs.ListLemmas.{has_cases, has_left, has_right}
use Rattle.master_store.specs.image_model.Entries.{Entry}
use Rattle.master_store.specs.image_model.Fair.{piece, IsFair}
use Rattle.master_store.proofs.image_model.FairLemmas.{narrow}
use Rattle.core_disk.specs.core_state.Openings.{Opening}
use Rattle.core_disk.specs.core_state.States.{State, flushed_by_all}
use Rattle.core_disk.specs.core_state.Events.{Event}
use Rattle.core_disk.specs.core_crash.Crashes.{IsPrefix, from_head, log_of}
use Rattle.core_disk.proofs.core_crash.Images.{Numbers, log_numbers}
use Rattle.lean_disk.specs.Area.{Area, Leaves, Write}
use Rattle.master_store.specs.log_record.declared.record.Record.{Record}
use Rattle.master_store.specs.log_block.Block.{IsSealed, generation_of}
use Rattle.master_store.specs.disk_slots.declared.master.Master.{Master}
use Rattle.master_store.specs.disk_image.Blocks.{is_sealed}
use Rattle.master_store.specs.disk_image.Laws.{EverySealed}
use Rattle.master_store.specs.disk_image.Runs as runs
use Rattle.master_store.specs.disk_image.Runs.{AreReadable, entries_in, logged_onto, sealed_in}
use Rattle.master_store.specs.disk_image.Shown as shown
use Rattle.master_store.specs.disk_image.Shown.{head_of, logged_in}
use Rattle.worker_log.specs.Accounts.{Account, joined, records_of}
use Rattle.worker_log.specs.Logs.{Log}
use Rattle.worker_log.specs.Kept.{LeavesBlocks}
use Rattle.worker_log.specs.Laws.{EveryPrefix, EveryKept, Reads, ReadsPrefix, entries_onto}
use Rattle.core_disk.specs.core_state.Steps.{state_after}
use Rattle.core_disk.specs.Held.{HoldsLog}
use Rattle.core_disk.proofs.VersionLemmas.{good}
use Rattle.disk_runs.specs.Fair.{IsFairLog}
use Rattle.disk_runs.specs.Logs.{Accounts, BeganAt, IsLogOf, LogStands}
use Rattle.disk_runs.proofs.HeadLemmas.{from_prefix, split_at, up_to_head}
use Rattle.master_store.proofs.disk_image.SealedLemmas.{listed, lists}

module _ (prefixes : EveryPrefix) (seals : EverySealed) (g : Opening) (es : List Event) (n : Master) (first : List ℕ) (older : List Write) (w : ℕ) (x : Account) (log : Log)
    (is : IsLogOf n w log) (accounts : Accounts (state_after g es) w x log) (began : BeganAt n first older x)
    (writes : List Write) (bytes : List ℕ) (leaves : LeavesBlocks x log writes bytes) (fair : IsFairLog first older writes bytes) where
  abbrev s : State
  s = state_after g es

  abbrev l : List Entry
  l = log_of w s.entries

  abbrev h : ℕ
  h = s.head w

  fair_since : IsFair 2048 IsSealed first leaves.since bytes
  fair_since = fair leaves.since (leaves.writes_are ∙ ap (λ (ws : List Write). leaves.since ++ ws) began.older_is)

  reads : ReadsPrefix x log bytes
  reads = prefixes x log bytes (leaves.holds (subst (λ (b : List ℕ). IsFair 2048 IsSealed b leaves.since bytes) (sym began.first_is) fair_since))

  abbrev rs : List Record
  rs = joined reads.blocks

  -- as the master reads it
  by_master : Reads n.generation w n.blocks (shown.run_of n w bytes) rs
  by_master =
      subst (λ (q : ℕ). Reads n.generation w n.blocks (runs.run_in n.generation w n.blocks bytes n.blocks q) rs) is.head
      (subst (λ (b : ℕ). Reads n.generation w b (runs.run_in n.generation w b bytes b log.head) rs) is.blocks
      (subst (λ (v : ℕ). Reads n.generation v log.blocks (runs.run_in n.generation v log.blocks bytes log.blocks log.head) rs) is.number
      (subst (λ (e : ℕ). Reads e log.log log.blocks (runs.run_in e log.log log.blocks bytes log.blocks log.head) rs) is.generation reads.reads)))

  -- the records that are left from the head on
  abbrev here : List Entry
  here = entries_onto w [] rs

  prefix_here : reads.newer ++ here ≡ from_head h l
  prefix_here = subst (λ (v : ℕ). reads.newer ++ entries_onto v [] rs ≡ entries_onto v [] (records_of x)) is.number reads.splits ∙ accounts.entries

  numbers : Numbers l
  numbers = log_numbers g (flushed_by_all g s) w s.entries (good g es).inv.records

  abbrev left : List Entry
  left = here ++ up_to_head h l

  is_prefix : IsPrefix left l
  is_prefix = (reads.newer, sym (append_assoc reads.newer here (up_to_head h l)) ∙ (ap (λ (z : List Entry). z ++ up_to_head h l) prefix_here ∙ split_at h l numbers))

  flushed : (r : Entry) → Has r l → r.number ≤ s.flushed w → Has r left
  flushed r i f = ⊎_elim
      (λ (beyond : Has r (from_head h l)).
      let flushed_so : Has r (entries_onto w [] (records_of x)) → r.number ≤ log.flushed → Has r here = subst (λ (v : ℕ). Has r (entries_onto v [] (records_of x)) → r.number ≤ log.flushed → Has r (entries_onto v [] rs)) is.number (reads.flushed r) in
      has_left r here (up_to_head h l) (flushed_so (subst (Has r) (sym accounts.entries) beyond) (let a = accounts.flushed in omega arith)))
      (λ (below : Has r (up_to_head h l)). has_right r here (up_to_head h l) below)
      (has_cases r (from_head h l) (up_to_head h l) (subst (Has r) (sym (split_at h l numbers)) i))

  sealed : (q : ℕ) → Has q (sealed_in n.blocks bytes) → q ≤ n.generation
  sealed q has = let i = listed q n.blocks bytes has in
      ⊎_elim
      (λ (same : piece 2048 i.p bytes ≡ piece 2048 i.p first). began.sealed q (lists q n.blocks first (record {
        p = i.p;
        within = i.within;
        seal = ap is_sealed (sym same) ∙ i.seal;
        generation = ap generation_of (sym same) ∙ i.generation;
      })))
      (λ (wrote : Has (2048 * i.p, piece 2048 i.p bytes) leaves.since).
      let e = (leaves.own (2048 * i.p, piece 2048 i.p bytes) wrote).generation_is in
      let f = i.generation in let k = is.generation in omega arith)
      (narrow 2048 IsSealed first leaves.since bytes (omega arith) (λ v has. let o = leaves.own v has in record { slot = o.place; place = o.at; whole = o.whole }) fair_since i.p ((seals (piece 2048 i.p bytes)).0 i.seal))

  pub holds_log : HoldsLog g s n w bytes
  holds_log = record {
    left = left;
    holds = record {
      readable = by_master.readable;
      entries = by_master.entries ∙ sym (from_prefix h l reads.newer here prefix_here);
      prefix = is_prefix;
      flushed = flushed;
      sealed = sealed;
    };
  }

-- between two calls
module _ (keeps : EveryKept) (prefixes : EveryPrefix) (seals : EverySealed) (g : Opening) (es : List Event) (n : Master) (first : List ℕ) (older : List Write) (w : ℕ) (x : Account) (log : Log) (area : Area)
    (stands : LogStands (state_after g es) n first older w x log area) where
  pub rests_log : (bytes : List ℕ) → Leaves area bytes → IsFairLog first older area.writes bytes → HoldsLog g (state_after g es) n w bytes
  rests_log bytes leaves fair = holds_log prefixes seals g es n first older w x log stands.is stands.accounts stands.began area.writes bytes (keeps x log area stands.ranges stands.kept bytes leaves) fair
