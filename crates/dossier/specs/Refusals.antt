-- The number and the offset of each refusal.
use Rattle.std.specs.Prelude.{ℕ, Some, None, Ok, Err, Option, Result}
use Rattle.proof.specs.Faults.{numbered}
use Rattle.gather.specs.declared.trouble.Trouble.{Trouble}
use Rattle.gather.specs.declared.trouble.Trouble.TheVariants.{File as FileTrouble, Memory as MemoryTrouble, Large as LargeTrouble}
use Rattle.runs.specs.Answers.{Answer, granted, refused, memory}
use Rattle.dossier.specs.declared.refusal.Refusal.{Refusal}
use Rattle.dossier.specs.declared.refusal.Refusal.TheVariants.{File, Differs, Large, Blank, Room, NoRow, Work, Memory}

-- want of memory has none
abbrev pub place_of : Refusal → Option (ℕ × ℕ)
place_of (File f) = Some (numbered f)
place_of (Differs at) = Some (13, at)
place_of Large = Some (14, 0)
place_of Blank = Some (15, 0)
place_of Room = Some (16, 0)
place_of NoRow = Some (17, 0)
place_of Work = Some (18, 0)
place_of Memory = None

abbrev pub refused_at : {A : Type 0} → Option (ℕ × ℕ) → Answer A
refused_at None = memory
refused_at (Some place) = refused place.0 place.1

abbrev pub refusal : {A : Type 0} → Refusal → Answer A
refusal e = refused_at (place_of e)

-- what a call answers
abbrev pub answered : {A : Type 0} → Result A Refusal → Answer A
answered (Ok x) = granted x
answered (Err e) = refusal e

-- a file whose tree is not given is refused for the same reason
abbrev pub troubled : Trouble → Refusal
troubled (FileTrouble f) = File f
troubled LargeTrouble = Large
troubled MemoryTrouble = Memory
