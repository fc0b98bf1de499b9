-- What reading leaves of a source, and why it is refused.
use Rattle.std.specs.Prelude.{◌≡◌, IsTrue, Result, IfOk, IfErr}
use Rattle.abt_io.specs.Lent.{OnlyReads}
use Rattle.abt_io.specs.declared.device.Source as sources
use Rattle.abt_sections.specs.declared.fault.SectionFault.{SectionFault}
use Rattle.abt_sections.specs.Cause.{OpenCause, ReadCause, full_handed}

-- A source is only read. It is refused where the source failed, or isn't what it was: `changed`. No fault says that a
-- device is full.
pub record ReadsUnless {X : Type 0} (r : Result X SectionFault) {A : Type 0} (s : sources.Ghosts A) (old new : A)
    (changed : Type 0) : Type 0 where
  pub only : OnlyReads r s old new
  pub cause : IfErr r (λ e. ReadCause e (s.read_faults old) (s.read_faults new) changed)
  pub failed : full_handed r ≡ 0

-- The same of opening, which is refused for the bytes too.
pub record OpensUnless {X : Type 0} (r : Result X SectionFault) {A : Type 0} (s : sources.Ghosts A) (old new : A)
    (changed : Type 0) : Type 0 where
  pub only : OnlyReads r s old new
  pub cause : IfErr r (λ e. OpenCause e (s.read_faults old) (s.read_faults new) changed)
  pub failed : full_handed r ≡ 0

-- And where the source models its content, the result is what P says.
pub record FindsUnless {X : Type 0} (r : Result X SectionFault) {A : Type 0} (s : sources.Ghosts A) (old new : A)
    (changed : Type 0) (P : X → Type 0) : Type 0 where
  pub reads : ReadsUnless r s old new changed
  pub value : IsTrue s.models → IfOk r P
