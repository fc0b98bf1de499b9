-- Which file a refusal is told of, from the fault.
use Rattle.std.proofs.Common.{◌≡◌, Option, Some, sym, ◌∙◌, ap, refl, subst}
use Rattle.std.specs.Prelude.{IfErr, IsOk, Result, Ok, Err}
use Rattle.sys_refusals.specs.Blamed.{TellsOf, TellsRead, place_on}
use Rattle.sys_refusals.specs.declared.place.FileArg.{FileArg}
use Rattle.sys_refusals.specs.declared.refusal.HostFault.{HostFault}
use Rattle.sys_refusals.specs.declared.refusal.Sides.{Sides}
use Rattle.sys_refusals.specs.declared.told.Side.TheVariants as sides
use Rattle.sys_refusals.proofs.Blames.{call≢output, reads_call, tells_call, tells_refused}
use Rattle.cmd_common_boot.specs.Fault.{boot_side_of}
use Rattle.cmd_common_boot.specs.declared.fault.BootCommandFault.{BootCommandFault}
use Rattle.cmd_common_boot.specs.declared.fault.BootCommandFault.TheVariants as faults

-- ---- a fault of files, of which nothing is said

pub tells_host : (fault : BootCommandFault) (h : HostFault) (place input output : Option FileArg)
    → fault ≡ faults.Host h → TellsOf (boot_side_of fault) place input output
tells_host fault h place input output is = tells_call (boot_side_of fault) place input output (ap boot_side_of is)

pub reads_host : (fault : BootCommandFault) (h : HostFault) (place input : Option FileArg) → fault ≡ faults.Host h
    → TellsRead (boot_side_of fault) place input
reads_host fault h place input is = reads_call (boot_side_of fault) place input (ap boot_side_of is)

pub host_output : (fault : BootCommandFault) (h : HostFault) → fault ≡ faults.Host h → boot_side_of fault ≡ sides.Output
    → ⊥
host_output fault h is on = call≢output (sym (ap boot_side_of is) ∙ on)

-- an output was not brought to its end
pub tells_err : {X : Type 0} (answer : Result X BootCommandFault) (fault : BootCommandFault)
    (place input output : Option FileArg) → IfErr answer (λ f. fault ≡ f)
    → IfErr answer (λ f. TellsOf (boot_side_of f) place input output)
    → (IsOk answer → (h : HostFault) × (fault ≡ faults.Host h)) → TellsOf (boot_side_of fault) place input output
tells_err (Ok x) fault place input output same told host =
    let h = host refl in tells_host fault h.0 place input output h.1
tells_err (Err f) fault place input output same told host =
    subst (λ g. TellsOf (boot_side_of g) place input output) (sym same) told

-- ---- before an output is begun

pub tells_read : (s : Sides) (fault told : BootCommandFault) (input : FileArg) (place : Option FileArg)
    → place ≡ place_on s (boot_side_of fault) → told ≡ fault → s.input.place ≡ Some input
    → TellsRead (boot_side_of told) place (Some input)
tells_read s fault told input place is same reads =
    tells_refused s (boot_side_of fault) (boot_side_of told) place (Some input) is (ap boot_side_of same) reads
