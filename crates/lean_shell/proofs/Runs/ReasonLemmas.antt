-- Why a disk was not opened.
use Rattle.std.proofs.Common.{◌≡◌, ℕ, Result, Err}
use Rattle.lean_disk.specs.Story.{Story, areas_of}
use Rattle.buffered_engine.specs.recovery.Masters.{HasOpenable}
use Rattle.buffered_engine.specs.disk_image.Breaks.{IsDamaged}
use Rattle.buffered_engine.specs.recovery.Telling.{TellsAll}
use Rattle.buffered_engine.specs.recovery.declared.opening.Recovered.{Recovered}
use Rattle.buffered_engine.specs.recovery.declared.opening.Unrecovered.{Unrecovered}
use Rattle.buffered_engine.specs.recovery.declared.opening.Unrecovered.TheVariants as why
use Rattle.buffered_engine.specs.paged_engine.Openings.{Shows}

-- the disk shows the reason
pub shows : (s : Story) (result : Result Recovered Unrecovered) (reason : Unrecovered) → result ≡ Err reason
    → (result ≡ Err why.NotFormatted → TellsAll 16 s → HasOpenable 16 (areas_of s) → ⊥)
    → ((area place : ℕ) → result ≡ Err (why.Damaged area place) → TellsAll 16 s → HasOpenable 16 (areas_of s))
    → ((area place : ℕ) → result ≡ Err (why.Damaged area place) → TellsAll 16 s → IsDamaged (areas_of s) area place)
    → Shows 16 s reason
shows s result why.NotFormatted is none formatted damaged = none is
shows s result (why.Damaged area place) is none formatted damaged = λ tells. (formatted area place is tells, damaged area place is tells)
shows s result why.DiskFault is none formatted damaged = tt
shows s result why.Memory is none formatted damaged = tt
