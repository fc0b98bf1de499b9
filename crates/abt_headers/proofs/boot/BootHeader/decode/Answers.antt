use Rattle.std.proofs.Common.{arith, subst, sym, Result}
use Rattle.abt_headers.specs.declared.boot.BootHeader.{BootHeader}
use Rattle.abt_headers.specs.declared.fault.HeaderFault.{HeaderFault}
use Rattle.abt_headers.proofs.PageLaws.{Reads}
use Rattle.abt_headers.proofs.BootLaws.{boot_backs, boot_sizes, boot_found, boot_reads}
use Rattle.abt_headers.proofs.boot.BootHeader.decode.Goals as goal

pub returns-clause-size : goal.returns-clause-size
returns-clause-size c =
    boot_sizes c.args.bytes.now c.read_boot_header.result
    (λ i. omega (arith, c.type_inv.bytes i)) c.read_boot_header.ensures

pub returns-clause-back : goal.returns-clause-back
returns-clause-back c =
    boot_backs c.args.bytes.now c.read_boot_header.result
    (λ i. omega (arith, c.type_inv.bytes i)) c.read_boot_header.ensures

pub returns-clause-found : goal.returns-clause-found
returns-clause-found c h rest fits is =
    boot_found c.args.bytes.now c.read_boot_header.result c.read_boot_header.ensures h rest fits is

pub returns-clause-fault : goal.returns-clause-fault
returns-clause-fault c = subst (λ (r : Result BootHeader HeaderFault). Reads r) (sym c.read_boot_header.ensures)
    (boot_reads c.args.bytes.now)
