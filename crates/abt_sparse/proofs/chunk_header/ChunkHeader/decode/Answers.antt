use Rattle.std.proofs.Common.{ap, sym, ◌∙◌, Some}
use Rattle.abt_sparse.specs.Reading.{kind_at, number_at}
use Rattle.abt_sparse.proofs.Failing.{no_kind}
use Rattle.abt_sparse.proofs.HeadLaws.{back_known}
use Rattle.abt_sparse.proofs.chunk_header.ChunkHeader.decode.Goals as goal

pub returns-in-Some-clause-back : goal.returns-in-Some-clause-back
returns-in-Some-clause-back c =
    let known = ap kind_at (sym c.u16_at-code.ensures) ∙ sym c.from_code.ensures ∙ c.in-Some.is in
    rw (c.u32_at.ensures, c.u32_at-in-Some.ensures)
    (back_known c.args.bytes.now (Some c.in-Some.kind) c.told-bytes c.fits-bytes known)

pub returns-in-None-clause-cause : goal.returns-in-None-clause-cause
returns-in-None-clause-cause c =
    let none = ap kind_at (sym c.u16_at-code.ensures) ∙ sym c.from_code.ensures ∙ c.in-None.is in
    (c.u16_at-code.ensures, λ k e. no_kind (number_at 0 2 c.args.bytes.now) k none (sym c.u16_at-code.ensures ∙ e))
