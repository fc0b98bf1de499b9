-- What a call leaves in an output, and what it costs.
use Rattle.std.specs.Prelude.{◌≡◌, ◌+◌, ◌≤◌, ◌<◌, ◌⊎◌, ℕ, Bool, IsTrue, List, length, take, drop, Result, OnOk, OnErr}
use Rattle.std.specs.Prelude.{IsErrOf, IfErr, ◌*◌, max}
use Rattle.abt_io.specs.Count.{full_of}
use Rattle.abt_io.specs.Frame.{PartitionFrame, WriteFrame}
use Rattle.abt_io.specs.declared.device.DeviceFault.{DeviceFault}
use Rattle.abt_io.specs.declared.device.DeviceFault.TheVariants.{Failed, Full}
use Rattle.abt_io.specs.declared.device.Output as outputs
use Rattle.abt_io.specs.declared.device.Source as sources
use Rattle.abt_io.specs.declared.meter.Meter.{Meter}
use Rattle.abt_pieces.specs.declared.fault.PieceFault.{PieceFault}
use Rattle.abt_pieces.specs.Fault.{CutCause, full_cut}
use Rattle.abt_placed.specs.Placer.{SoundPlacer}
use Rattle.abt_placed.specs.Unfinished.{IsNoImage, KeepsFront}
use Rattle.abt_placed.specs.declared.placer.Placer.{Placer}

-- what is known of an output and of a meter, beside the bytes
pub record Stand : Type 0 where
  pub frame : WriteFrame
  pub long : ℕ
  pub writes : ℕ
  pub faults : ℕ
  pub full_faults : ℕ
  pub is_full : Bool
  pub turns : ℕ
  pub steps : ℕ
  pub greatest : ℕ

abbrev pub stand : {B : Type 0} → outputs.Ghosts B → B → Meter → Stand
stand o output m = record {
  frame = o.write_frame output;
  long = length (o.written output);
  writes = o.writes output;
  faults = o.write_faults output;
  full_faults = o.full_faults output;
  is_full = o.is_full output;
  turns = m.turns.number;
  steps = m.steps.number;
  greatest = m.greatest.number;
}

-- A call that writes, with at most k calls of the output and j turns beside those of bytes: it returns r exactly
-- where the output has failed so.
pub record Writes {X : Type 0} (r : Result X DeviceFault) (k j : ℕ) (a z : Stand) : Type 0 where
  pub grown : a.long ≤ z.long
  pub frame : z.frame ≡ a.frame
  pub faults : a.faults ≤ z.faults
  pub clean : OnOk r (z.faults ≡ a.faults)
  pub cause : OnErr r (a.faults < z.faults)
  pub full_faults : z.full_faults ≡ a.full_faults + full_of r
  pub full : IsErrOf r Full → IsTrue z.is_full
  pub calls : z.writes + a.long ≤ a.writes + z.long + k
  pub turns : z.turns + a.long ≤ a.turns + z.long + j
  pub steps : z.steps ≡ a.steps
  pub greatest : z.greatest ≡ a.greatest

-- what is known of a source, an output and a meter
pub record Scene : Type 0 where
  pub content : List ℕ
  pub size : ℕ
  pub frame : PartitionFrame
  pub given : ℕ
  pub faults : ℕ
  pub output : Stand

abbrev pub scene : {A B : Type 0} → sources.Ghosts A → outputs.Ghosts B → A → B → Meter → Scene
scene s o source output m = record {
  content = s.content source;
  size = s.size source;
  frame = s.read_frame source;
  given = s.given source;
  faults = s.read_faults source;
  output = stand o output m;
}

-- A call that writes what it reads: no step receives more than a window, and it returns r, Ok where neither device
-- has failed, and else with the reason.
pub record LaysOn {X : Type 0} (r : Result X PieceFault) (models : Bool) (a z : Scene) : Type 0 where
  pub content : IsTrue models → z.content ≡ a.content
  pub size : IsTrue models → z.size ≡ a.size
  pub read_frame : z.frame ≡ a.frame
  pub write_frame : z.output.frame ≡ a.output.frame
  pub grown : a.output.long ≤ z.output.long
  pub given : a.given ≤ z.given
  pub received : z.given + 65536 * a.output.steps ≤ a.given + 65536 * z.output.steps
  pub greatest : z.output.greatest ≤ max a.output.greatest 65536
  pub faults : a.faults ≤ z.faults
  pub write_faults : a.output.faults ≤ z.output.faults
  pub clean : OnOk r ((z.faults ≡ a.faults) × (z.output.faults ≡ a.output.faults))
  pub full_faults : z.output.full_faults ≡ a.output.full_faults + full_cut r
  pub full : full_cut r ≡ 1 → IsTrue z.output.is_full
  pub cause : IfErr r (λ e. CutCause e models a.faults z.faults a.output.faults z.output.faults)

-- Nothing is taken back. What was stored in the output stays, and where the call is refused, nothing is after it, or
-- what is no image whatever follows it.
pub record OutputGrows {X : Type 0} (r : Result X PieceFault) (old new : List ℕ) : Type 0 where
  pub grown : length old ≤ length new
  pub before : take (length old) new ≡ old
  pub unfinished : OnErr r ((new ≡ old) ⊎ IsNoImage (drop (length old) new))

-- A call that writes a header of k bytes over what is stored at a place, and nothing before it.
pub record LaysOver {X B : Type 0} (r : Result X DeviceFault) (at k : ℕ) (o : outputs.Ghosts B) (old new : B)
    (m m' : Meter) : Type 0 where
  pub before : take at (o.written new) ≡ take at (o.written old)
  pub long : length (o.written new) ≡ length (o.written old)
  pub failed : IfErr r (λ e. e ≡ Failed)
  pub writes : Writes r k k (stand o old m) (stand o new m')

-- A placer of blocks of b bytes takes q of them, with at most k calls of the output beside those of bytes: what was
-- before its chunks stays.
pub record PlacerGoes {X B : Type 0} (b q k : ℕ) (r : Result X DeviceFault) (s s' : Placer) (o : outputs.Ghosts B)
    (old new : B) (m m' : Meter) : Type 0 where
  pub kept : KeepsFront (s.front + 28) (o.written old) (o.written new)
  pub sound : OnOk r (SoundPlacer b (length (o.written new)) s')
  pub passed : OnOk r (s'.blocks + s'.count ≡ s.blocks + s.count + q)
  pub same : (s'.most ≡ s.most) × (s'.front ≡ s.front)
  pub writes : Writes r k k (stand o old m) (stand o new m')
  pub within : length (o.written new) ≤ s.front + 28 + (s.blocks + s.count + q) * (b + 16)
