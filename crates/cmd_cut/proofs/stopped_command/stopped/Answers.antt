use Rattle.std.proofs.Common.{◌≡◌, ◌<◌, ◌+◌, ◌∙◌, ℕ, Bool, false, ap, arith, sym}
use Rattle.std.specs.Prelude.{IsTrue, IfErr, OnErr, OnOk, Result, Ok, Err}
use Rattle.abt_io.specs.declared.device.DeviceFault.{DeviceFault}
use Rattle.abt_pieces.specs.declared.fault.PieceFault.TheVariants as pieces
use Rattle.sys_disk.specs.Counts.{writes, writing}
use Rattle.sys_disk.specs.World.{OpenFiles, HasFailed, ended}
use Rattle.cmd_common_sparse.specs.declared.fault.SparseCommandFault.{SparseCommandFault}
use Rattle.cmd_common_sparse.specs.declared.fault.SparseCommandFault.TheVariants as faults
use Rattle.cmd_cut.specs.Sparsing.{TellsFirst, earlier, itself}
use Rattle.sys_refusals.specs.Blamed.{place_on}
use Rattle.sys_refusals.proofs.Blames.{tells_begun}
use Rattle.cmd_common_sparse.specs.Fault.{side_of}
use Rattle.cmd_cut.proofs.stopped_command.stopped.Goals as goal

-- that the image could not be settled is the failure of an earlier write
first_told : {X : Type 0} (settled : Result X DeviceFault) (fault given told : SparseCommandFault) (w w' : ℕ)
    (models : Bool) (h h' : OpenFiles) → OnOk settled (given ≡ fault)
    → IfErr settled (λ d. given ≡ faults.Piece (pieces.Write d)) → told ≡ given → OnErr settled (w < w')
    → (IsTrue models → h' ≡ ended false (writes w') h) → TellsFirst fault told (IsTrue models → HasFailed writing h h')
first_told (Ok x) fault given told w w' models h h' same refused is more closed = itself (is ∙ same)
first_told (Err d) fault given told w w' models h h' same refused is more closed = earlier d (is ∙ refused) (λ t.
    let after : h'.counts.failed writing ≡ h.counts.failed writing + w'
    = ap (λ k. k.counts.failed writing) (closed t) in
    omega (arith, more, after))

pub returns-clause-told_of : goal.returns-clause-told_of
returns-clause-told_of g c =
    tells_begun c.args.sides c.begun-sides.result c.args.output _ _
    (c.refuse.ensures.place ∙ ap (λ f. place_on c.begun-sides.result (side_of f)) (sym c.refuse.ensures.fault))
    c.begun-sides.ensures.place c.begun-sides.ensures.others

pub returns-clause-told : goal.returns-clause-told
returns-clause-told g c =
    first_told c.settle.result c.args.fault c.first_of-fault.result _ _ _ g.D.Disk.models
    (g.D.Disk.held c.args.disk.now) (g.D.Disk.held c.give_up_image.new.self) c.first_of-fault.ensures.settled
    c.first_of-fault.ensures.refused c.refuse.ensures.fault c.settle.ensures.cause c.give_up_image.ensures.closed
