use Rattle.std.proofs.Common.{ℕ, List, Ok, arith, refl}
use Rattle.abt_io.proofs.Lent.{reads_none, reads_ok, reads_then}
use Rattle.abt_sections.specs.Cause.{ReadCause}
use Rattle.abt_sections.specs.Open.{RefusedAs}
use Rattle.abt_sections.specs.declared.fault.SectionFault.{SectionFault}
use Rattle.abt_sections.specs.declared.fault.SectionFault.TheVariants.{Read, Write, SourceChanged}
use Rattle.abt_sections.proofs.Refusals.{opens_on}
use Rattle.abt_sections.proofs.open_image.read_header.Goals as goal

-- where the source can't have changed, its device has failed
read_refuses : (e : SectionFault) (r r' : ℕ) (C : Type 0) (x : List ℕ) → (C → ⊥) → ReadCause e r r' C → RefusedAs x e
read_refuses (Read f) r r' C x never c = tt
read_refuses (Write f) r r' C x never c = absurd (omega (arith, c))
read_refuses SourceChanged r r' C x never c = absurd (never c)
read_refuses e r r' C x never c = absurd c

pub returns-in-Err : goal.returns-in-Err
returns-in-Err g c =
    let s = g.S.Source in
    let e = c.in-Err.ensures.reads in
    let n = c.front_of-n.ensures in
    record {
      reads = opens_on (reads_none {X = Unit {0}} {E = Unit {0}} (Ok tt) s c.args.source.now) e
          (λ changed models same. changed models (λ some. omega (arith, same, n)));
      found = λ models same. read_refuses c.in-Err.fault _ _ _ (s.content c.args.source.now)
          (λ changed. changed models (λ some. omega (arith, same, n))) e.cause;
    }

pub returns-in-Ok-header-clause-reads : goal.returns-in-Ok-header-clause-reads
returns-in-Ok-header-clause-reads g c =
    record { only = reads_ok _ c.in-Ok.ensures.reads.only; cause = tt; failed = refl }

pub returns-in-Err-header-clause-reads : goal.returns-in-Err-header-clause-reads
returns-in-Err-header-clause-reads g c = record {
  only = reads_then c.in-Ok.ensures.reads.only (reads_none _ _ _);
  cause = tt;
  failed = refl;
}
