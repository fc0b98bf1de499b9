-- What a part adds to a segment is within its limit.
use Rattle.std.proofs.Common.{◌≡◌, ℕ, ◌+◌, ◌-◌, ◌<◌, ◌≤◌, Bool, true, false, if◌then◌else◌, arith}
use Rattle.abt_runs.specs.declared.part.RunKind.{RunKind}
use Rattle.abt_runs.specs.declared.part.RunKind.TheVariants as kinds
use Rattle.abt_pieces.specs.Plan.{gain_of}
use Rattle.abt_placed.specs.Placer.{taking_len, beginning_len, closing_len, goes_on_with}
use Rattle.abt_placed.specs.Segment.{SoundSegment, IsUncut, is_fresh, tail_of_open, to_come}
use Rattle.abt_placed.specs.declared.placer.Placer.{Placer}
use Rattle.abt_placed.specs.declared.segment.Segment.{Segment}
use Rattle.abt_placed.proofs.Segments.{raw_room, taking_fits}

pub taken_within : (b q gain long long' full : ℕ) (s : Segment) (k : RunKind) → SoundSegment b long s
    → IsUncut b s.limit s.placer.most → 0 < q → is_fresh k ≡ false → gain ≡ gain_of (tail_of_open s.placer.kind) k q b
    → gain ≤ s.limit - s.weight
    → long' + full ≤ long + taking_len s.placer k q b → long' + full ≤ s.placer.front + s.limit
taken_within b q gain long long' full s k h uncut some held grows fits adds =
    let room : k ≡ kinds.Raw → s.placer.kind ≡ kinds.Raw → s.placer.count < s.placer.most =
    λ e raw. raw_room b gain q s long h uncut some (rw e at grows) fits raw in
    let y = taking_fits s.placer k q b held room in
    let w = h.fits uncut in
    omega (arith, y, w, h.room, adds, grows, fits)

-- a segment keeps room for what is skipped after it
skipping_as : (on : Bool) (k : RunKind) → (if on then 0 else closing_len k + 0) + 12 ≤ to_come k
skipping_as true kinds.Raw = omega arith
skipping_as true (kinds.Fill w) = omega arith
skipping_as true kinds.Skip = omega arith
skipping_as true kinds.End = omega arith
skipping_as false kinds.Raw = omega arith
skipping_as false (kinds.Fill w) = omega arith
skipping_as false kinds.Skip = omega arith
skipping_as false kinds.End = omega arith

pub skipping_fits : (s : Placer) → beginning_len s kinds.Skip + 12 ≤ to_come s.kind
skipping_fits s = skipping_as (goes_on_with s kinds.Skip) s.kind
