-- What calls leave that write, that move bytes, or that read several sources, and why they are refused.
use Rattle.std.specs.Prelude.{◌≡◌, ◌+◌, ℕ, Result, List, ◌++◌, length, map, take, drop, IsTrue, OnOk, OnErr, IfErr}
use Rattle.abt_io.specs.Lent.{OnlyReads, OnlyReadsAll, OnlyWrites}
use Rattle.abt_io.specs.Moment.{put_at}
use Rattle.abt_io.specs.declared.device.Source as sources
use Rattle.abt_io.specs.declared.device.Output as outputs
use Rattle.abt_sections.specs.declared.fault.SectionFault.{SectionFault}
use Rattle.abt_sections.specs.Broken.{HasNoMagic}
use Rattle.abt_sections.specs.Cause.{MoveCause, ReadCause, full_handed, total}
use Rattle.abt_sections.specs.Fields.{filled}
use Rattle.abt_sections.specs.Grown.{AppendsFront, GrowsBy}

-- An output is only written to. The call is refused only where the output failed.
pub record WritesAlone {X : Type 0} (r : Result X SectionFault) {B : Type 0} (o : outputs.Ghosts B) (old new : B)
    : Type 0 where
  pub only : OnlyWrites r (full_handed r) o old new
  pub cause : IfErr r (λ e. MoveCause e 0 0 (o.write_faults old) (o.write_faults new) ⊥)

-- A source is only read, and an output only written to. The call is refused where one of them failed, or the source
-- isn't what it was: `changed`.
pub record MovesUnless {X : Type 0} (r : Result X SectionFault) {A : Type 0} (s : sources.Ghosts A) (a a' : A)
    {B : Type 0} (o : outputs.Ghosts B) (b b' : B) (changed : Type 0) : Type 0 where
  pub reads : OnlyReads r s a a'
  pub writes : OnlyWrites r (full_handed r) o b b'
  pub cause : IfErr r
      (λ e. MoveCause e (s.read_faults a) (s.read_faults a') (o.write_faults b) (o.write_faults b') changed)

-- The same of several sources, whose faults are counted together.
pub record MovesAllUnless {X : Type 0} (r : Result X SectionFault) {A : Type 0} (s : sources.Ghosts A) (a a' : List A)
    {B : Type 0} (o : outputs.Ghosts B) (b b' : B) (changed : Type 0) : Type 0 where
  pub reads : OnlyReadsAll r s a a'
  pub writes : OnlyWrites r (full_handed r) o b b'
  pub cause : IfErr r (λ e. MoveCause e (total s.read_faults a) (total s.read_faults a') (o.write_faults b)
      (o.write_faults b') changed)

-- Several sources are only read. The call is refused where one of them failed, or isn't what it was: `changed`. No
-- fault says that a device is full.
pub record ReadsAllUnless {X : Type 0} (r : Result X SectionFault) {A : Type 0} (s : sources.Ghosts A)
    (old new : List A) (changed : Type 0) : Type 0 where
  pub only : OnlyReadsAll r s old new
  pub cause : IfErr r (λ e. ReadCause e (total s.read_faults old) (total s.read_faults new) changed)
  pub failed : full_handed r ≡ 0

-- Several sources and one more are only read, and an output only written to: as above, all faults counted together.
pub record MovesMoreUnless {X : Type 0} (r : Result X SectionFault) {A : Type 0} (s : sources.Ghosts A) (a a' : List A)
    (z z' : A) {B : Type 0} (o : outputs.Ghosts B) (b b' : B) (changed : Type 0) : Type 0 where
  pub reads : OnlyReadsAll r s a a'
  pub more : OnlyReads r s z z'
  pub writes : OnlyWrites r (full_handed r) o b b'
  pub cause : IfErr r (λ e. MoveCause e (total s.read_faults a + s.read_faults z)
      (total s.read_faults a' + s.read_faults z') (o.write_faults b) (o.write_faults b') changed)

-- x is appended to an output, or where it fails a beginning of x.
pub record Appends {X : Type 0} (r : Result X SectionFault) {B : Type 0} (o : outputs.Ghosts B) (old new : B)
    (x : List ℕ) : Type 0 where
  pub written : OnOk r (o.written new ≡ o.written old ++ x)
  pub front : AppendsFront (o.written old) (o.written new) x
  pub writes : WritesAlone r o old new

-- A record overwrites zeros at a place of an output, or where it fails no whole magic is there.
pub record LaysRecord {X : Type 0} (r : Result X SectionFault) {B : Type 0} (o : outputs.Ghosts B) (old new : B)
    (at : ℕ) (x : List ℕ) : Type 0 where
  pub written : OnOk r (o.written new ≡ put_at (o.written old) at x)
  pub broken : OnErr r (HasNoMagic (drop at (o.written new)))
  pub before : take at (o.written new) ≡ take at (o.written old)
  pub long : length (o.written new) ≡ length (o.written old)
  pub writes : WritesAlone r o old new

-- A part that must have this size, and must still have it then, is moved to an output: x is appended, of n bytes.
pub record MovesPart {X : Type 0} (r : Result X SectionFault) {A : Type 0} (s : sources.Ghosts A) (a a' : A)
    {B : Type 0} (o : outputs.Ghosts B) (b b' : B) (size : ℕ) (x : List ℕ) (n : ℕ) : Type 0 where
  pub moves : MovesUnless r s a a' o b b' (IsTrue s.models → s.size a ≡ size → ⊥)
  pub written : IsTrue s.models → OnOk r (o.written b' ≡ o.written b ++ x)
  pub bytes : GrowsBy r (o.written b) (o.written b') n
  pub lasting : OnOk r ((s.size a ≡ size) × (s.size a' ≡ size))

-- Parts that must have these sizes, and must still have them then, are moved to an output, which then holds `whole`.
pub record MovesParts {X : Type 0} (r : Result X SectionFault) {A : Type 0} (s : sources.Ghosts A) (a a' : List A)
    {B : Type 0} (o : outputs.Ghosts B) (b b' : B) (sizes whole : List ℕ) : Type 0 where
  pub moves : MovesAllUnless r s a a' o b b' (IsTrue s.models → sizes ≡ filled 5 (map s.size a) → ⊥)
  pub written : IsTrue s.models → OnOk r (o.written b' ≡ whole)
  pub lasting : OnOk r (map s.size a' ≡ take (length a) sizes)

-- Ramdisks, which must keep their sizes, are moved to an output: x is appended, or where it fails a beginning of x.
pub record MovesRamdisks {X : Type 0} (r : Result X SectionFault) {A : Type 0} (s : sources.Ghosts A) (a a' : List A)
    {B : Type 0} (o : outputs.Ghosts B) (b b' : B) (x : List ℕ) : Type 0 where
  pub moves : MovesAllUnless r s a a' o b b' (IsTrue s.models → ⊥)
  pub lasting : OnOk r (map s.size a' ≡ map s.size a)
  pub written : IsTrue s.models → OnOk r (o.written b' ≡ o.written b ++ x)
  pub front : IsTrue s.models → AppendsFront (o.written b) (o.written b') x
