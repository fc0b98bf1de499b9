-- What follows from the numbers of a part, and from those of a state that was left.
use Rattle.std.proofs.Common.{◌≡◌, ℕ, ◌≤◌, ◌<◌, arith}
use Rattle.abt_sparse.specs.Number.{number_of}
use Rattle.abt_sparse.specs.declared.fault.SparseFault.{SparseFault}
use Rattle.abt_sparse.specs.declared.fault.SparseFault.TheVariants as faults
use Rattle.abt_chunks.specs.declared.walk.Part.TheVariants as parts
use Rattle.abt_chunks.specs.declared.walk.Phase.{Phase}
use Rattle.abt_chunks.specs.declared.walk.Phase.TheVariants as phases
use Rattle.abt_chunks.specs.declared.feed.Pull.{Pull}
use Rattle.abt_chunks.specs.declared.feed.Pull.TheVariants as pulls
use Rattle.abt_c.specs.declared.state.AbtPart.{AbtPart}
use Rattle.abt_c.specs.declared.state.AbtSparse.{AbtSparse}
use Rattle.abt_chunks.specs.declared.feed.Puller.{Puller}
use Rattle.abt_c.specs.Standing.{StandsWhole, kept_detail, kept_fault, phase_number}
use Rattle.abt_c.specs.Telling.{PartIs}

pub number_low : (f : SparseFault) → number_of f ≤ 12
number_low faults.Magic = omega arith
number_low (faults.Major n) = omega arith
number_low (faults.FileHeaderSize n) = omega arith
number_low (faults.ChunkHeaderSize n) = omega arith
number_low (faults.BlockSize n) = omega arith
number_low (faults.ChunkType i k) = omega arith
number_low (faults.ChunkLength i) = omega arith
number_low (faults.TooManyBlocks i) = omega arith
number_low (faults.TooFewBlocks n) = omega arith
number_low (faults.Truncated n) = omega arith
number_low (faults.Read d) = omega arith
number_low (faults.Write d) = omega arith

-- no part of an image has the fault of a spoiled state
pub not_spoiled : (q : Pull) (o : AbtPart) → PartIs q o → o.fault ≡ 90 → ⊥
not_spoiled pulls.Need o is e = absurd (omega (arith, is.1, e))
not_spoiled (pulls.Gives (parts.Raw n)) o is e = absurd (omega (arith, is.1, e))
not_spoiled (pulls.Gives (parts.Words word n)) o is e = absurd (omega (arith, is.1, e))
not_spoiled (pulls.Gives (parts.Skip n)) o is e = absurd (omega (arith, is.1, e))
not_spoiled (pulls.Gives parts.Nothing) o is e = absurd (omega (arith, is.1, e))
not_spoiled (pulls.Gives parts.End) o is e = absurd (omega (arith, is.1, e))
not_spoiled (pulls.Gives (parts.Fault f)) o is e = absurd (omega (arith, is.1, e, number_low f))

-- ---- states that were left
