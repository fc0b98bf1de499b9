-- What a call leaves of the devices and of the meter that it borrows, whatever it returns.
use Rattle.std.specs.Prelude.{◌≡◌, ℕ, ◌+◌, ◌<◌, ◌≤◌, IsTrue, Result, OnOk, Option, IsNone, IfSome, List, length}
use Rattle.std.specs.Prelude.{drop, map, max, sum_by}
use Rattle.abt_io.specs.declared.device.DeviceFault.{DeviceFault}
use Rattle.abt_io.specs.declared.device.DeviceFault.TheVariants.{Failed}
use Rattle.abt_io.specs.declared.device.Input as inputs
use Rattle.abt_io.specs.declared.device.Source as sources
use Rattle.abt_io.specs.declared.device.Output as outputs
use Rattle.abt_io.specs.declared.meter.Meter.{Meter}

-- A source is only read: it holds what it held and is as long, and what no read changes is as it was. Its count of
-- faults does not fall; after an Ok it has not failed.
pub record OnlyReads {X E : Type 0} (r : Result X E) {A : Type 0} (s : sources.Ghosts A) (old new : A) : Type 0 where
  pub content : IsTrue s.models → s.content new ≡ s.content old
  pub size : IsTrue s.models → s.size new ≡ s.size old
  pub frame : s.read_frame new ≡ s.read_frame old
  pub faults : s.read_faults old ≤ s.read_faults new
  pub clean : OnOk r (s.read_faults new ≡ s.read_faults old)

-- The same of several sources, whose faults are counted together.
pub record OnlyReadsAll {X E : Type 0} (r : Result X E) {A : Type 0} (s : sources.Ghosts A) (old new : List A) : Type 0
  where
    pub content : IsTrue s.models → map s.content new ≡ map s.content old
    pub size : IsTrue s.models → map s.size new ≡ map s.size old
    pub frame : map s.read_frame new ≡ map s.read_frame old
    pub faults : sum_by s.read_faults old ≤ sum_by s.read_faults new
    pub clean : OnOk r (sum_by s.read_faults new ≡ sum_by s.read_faults old)

-- An output is only written to: it was given no less, and what no write changes is as it was. Its count of faults does
-- not fall; after an Ok it has not failed. It has reported that it is full as often more as `full` says.
pub record OnlyWrites {X E : Type 0} (r : Result X E) (full : ℕ) {B : Type 0} (o : outputs.Ghosts B) (old new : B)
    : Type 0 where
  pub least : length (o.written old) ≤ length (o.written new)
  pub frame : o.write_frame new ≡ o.write_frame old
  pub faults : o.write_faults old ≤ o.write_faults new
  pub clean : OnOk r (o.write_faults new ≡ o.write_faults old)
  pub full_faults : o.full_faults new ≡ o.full_faults old + full

-- No step ends: only turns of loops are counted.
pub record NoStep (old new : Meter) : Type 0 where
  pub steps : new.steps.number ≡ old.steps.number
  pub greatest : new.greatest.number ≡ old.greatest.number

-- One step ends, which has received n bytes.
pub record OneStep (n : ℕ) (old new : Meter) : Type 0 where
  pub steps : new.steps.number ≡ old.steps.number + 1
  pub greatest : new.greatest.number ≡ max old.greatest.number n

-- n bytes are read forward, in any number of calls; the last of them may have failed.
pub record ReadsForward {A : Type 0} (i : inputs.Ghosts A) (old new : A) (n : ℕ) (fault : Option DeviceFault) : Type 0
  where
    pub given : i.given new ≡ i.given old + n
    pub present : IsTrue i.models → n ≤ length (i.remaining old)
    pub rest : IsTrue i.models → i.remaining new ≡ drop n (i.remaining old)
    pub frame : i.read_frame new ≡ i.read_frame old
    pub faults : i.read_faults old ≤ i.read_faults new
    pub cause : IfSome fault (λ _. i.read_faults old < i.read_faults new)
    pub clean : IsNone fault → i.read_faults new ≡ i.read_faults old
    pub failed : IfSome fault (λ e. e ≡ Failed)

-- The same of a source, which holds what it held.
pub record ReadsFrom {A : Type 0} (s : sources.Ghosts A) (old new : A) (n : ℕ) (fault : Option DeviceFault) : Type 0
  where
    pub given : s.given new ≡ s.given old + n
    pub content : IsTrue s.models → s.content new ≡ s.content old
    pub size : IsTrue s.models → s.size new ≡ s.size old
    pub frame : s.read_frame new ≡ s.read_frame old
    pub faults : s.read_faults old ≤ s.read_faults new
    pub cause : IfSome fault (λ _. s.read_faults old < s.read_faults new)
    pub clean : IsNone fault → s.read_faults new ≡ s.read_faults old
    pub failed : IfSome fault (λ e. e ≡ Failed)

-- What they cost: a call and a turn for each byte at most, and one. No step ends.
pub record ReadCosts (calls calls' n : ℕ) (old new : Meter) : Type 0 where
  pub reads : calls' ≤ calls + n + 1
  pub turns : new.turns.number ≤ old.turns.number + n + 1
  pub steps : new.steps.number ≡ old.steps.number
  pub greatest : new.greatest.number ≡ old.greatest.number
