-- What the engine's answers mean for the file that an image goes to.
use Rattle.std.proofs.Common.{inl, inr, arith, ◌⊎◌, ◌+◌, ◌-◌, ◌*◌, ◌^◌, ◌≡◌, ℕ, ◌<◌, ◌≤◌, List, [], ◌++◌, length, drop}
use Rattle.std.proofs.Common.{Option, Some, None, Bool, sym, ◌∙◌, ap, subst}
use Rattle.std.specs.Prelude.{IsTrue, IfOk, OnOk, Result, Ok, Err}
use Rattle.std.proofs.lemmas.Bool.{false≢true}
use Rattle.abt_runs.specs.Tail.{raw_list}
use Rattle.abt_sparse.specs.Chunk.{chunks_of, spelling}
use Rattle.abt_pieces.specs.declared.fault.PieceFault.{PieceFault}
use Rattle.abt_pieces.specs.declared.fault.PieceFault.TheVariants as pieces
use Rattle.abt_sparsify.specs.Sparsify.{SparsifyCause}
use Rattle.abt_sparsify.specs.declared.count.Written.{Written}
use Rattle.abt_placed.specs.Unfinished.{IsNoImage}
use Rattle.abt_placed.proofs.Refusing.{refused, unfinished_by}
use Rattle.sys_disk.specs.Images.{HasNoFront, Leaves}
use Rattle.sys_disk.specs.World.{World, Ends}
use Rattle.cmd_common_sparse.specs.Blocks.{IsRawBlockSize, most_of}
use Rattle.cmd_cut.specs.Sparsing.{DevicesFail, HoldsNoSparse, IsOfPieceDevices, IsWritten, HoldsWritten}
use Rattle.cmd_cut.specs.Sparsing.{LeavesNoneOrSparse}

-- nothing stood there before
pub broken : (old new : List ℕ) → old ≡ [] → (new ≡ old) ⊎ IsNoImage (drop (length old) new) → HoldsNoSparse new
broken old new empty (inl same) = inl (subst (λ l. length l < 4) (sym (same ∙ empty)) (omega arith))
broken old new empty (inr none) = inr (subst (λ l. IsNoImage (drop (length l) new)) empty none)

pub written : (u : Bool) (size most : ℕ) (x old new : List ℕ) (a : Written) → old ≡ [] → most ≡ most_of u size
    → (a.blocks ≡ length (raw_list u size x)) × (a.chunks ≡ length (chunks_of most (raw_list u size x)))
    → length new ≡ length old + a.bytes → new ≡ old ++ spelling size most (raw_list u size x) → IsWritten u size x a new
written u size most x old new a empty is counts more whole =
    let none : length old ≡ 0 = ap length empty in
    let all : a.bytes ≡ length new = omega (arith, more, none) in
    record {
      blocks = counts.0;
      chunks = counts.1 ∙ ap (λ r. length (chunks_of r (raw_list u size x))) is;
      long = all;
      holds = whole ∙ ap (λ l. l ++ spelling size most (raw_list u size x)) empty
          ∙ ap (λ r. spelling size r (raw_list u size x)) is;
    }

-- the block size is one that the image has, so the device failed that the fault is of
pub outside : (e : PieceFault) (b long : ℕ) (models : Bool) (r r' w w' : ℕ) → IsTrue models → IsRawBlockSize b
    → long ≤ (2 ^ 32 - 1) * b → SparsifyCause e b long models r r' w w' → IsOfPieceDevices (DevicesFail r r' w w') e
outside (pieces.Read f) b long models r r' w w' t sized few cause = cause.0
outside (pieces.Write f) b long models r r' w w' t sized few cause = cause
outside pieces.SourceChanged b long models r r' w w' t sized few cause = absurd (false≢true (sym cause ∙ t))
outside pieces.TooLarge b long models r r' w w' t sized few cause = absurd (omega (arith, few, cause.1))
outside (pieces.BadBlock n) b long models r r' w w' t sized few cause = absurd (cause.1 sized)
outside (pieces.LimitTooSmall n) b long models r r' w w' t sized few cause = absurd cause

pub torn : (x : List ℕ) → HasNoFront x → HoldsNoSparse x
torn x (inl few) = inl few
torn x (inr zero) = inr (refused x (unfinished_by 1 x (omega arith) zero))

-- it was brought to its end, or that could not be done
pub holds : (o : Option ℕ) (u : Bool) (size : ℕ) (x bytes : List ℕ) (a : Written) (old new : World)
    → IsWritten u size x a bytes
    → Ends o bytes old new → HoldsWritten u size x a o old new
holds None u size x bytes a old new is ends = tt
holds (Some file) u size x bytes a old new is ends = (subst (λ l. IsWritten u size x a l) (sym ends.0) is, ends.1)

pub holds_end : {F G : Type 0} (answer : Result Written F) (result : Result (Written × Bool) G) (o : Option ℕ)
    (u : Bool)
    (size : ℕ) (x bytes : List ℕ) (old new : World) → IfOk answer (λ a. IsWritten u size x a bytes)
    → IfOk result (λ end. answer ≡ Ok end.0) → OnOk result (Ends o bytes old new)
    → IfOk result (λ end. HoldsWritten u size x end.0 o old new)
holds_end answer (Ok end) o u size x bytes old new own is ends =
    holds o u size x bytes end.0 old new (subst (λ r. IfOk r (λ a. IsWritten u size x a bytes)) is own) ends
holds_end answer (Err e) o u size x bytes old new own is ends = tt

pub left_whole : (o : Option ℕ) (u : Bool) (size : ℕ) (x bytes : List ℕ) (a : Written) (new : World)
    → IsWritten u size x a bytes
    → Leaves o bytes new → LeavesNoneOrSparse u size x o new
left_whole None u size x bytes a new is left = tt
left_whole (Some file) u size x bytes a new is (inl same) = inr (same ∙ is.holds)
left_whole (Some file) u size x bytes a new is (inr short) = inl (torn _ short)

-- it was let go
pub left_broken : (o : Option ℕ) (u : Bool) (size : ℕ) (x bytes : List ℕ) (new : World) → HoldsNoSparse bytes
    → Leaves o bytes new
    → LeavesNoneOrSparse u size x o new
left_broken None u size x bytes new is left = tt
left_broken (Some file) u size x bytes new is (inl same) = inl (subst HoldsNoSparse (sym same) is)
left_broken (Some file) u size x bytes new is (inr short) = inl (torn _ short)
