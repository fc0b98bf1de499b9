-- The numbers of a part that is taken, or of which a write fails.
use Rattle.std.proofs.Common.{◌≡◌, ℕ, ◌+◌, ◌*◌, ◌<◌, ◌≤◌, true, false, List, length, refl, ap, arith}
use Rattle.std.proofs.Common.{Bool, Result, Err, if◌then◌else◌}
use Rattle.abt_io.specs.Count.{full_in, full_of}
use Rattle.abt_io.specs.declared.device.DeviceFault.{DeviceFault}
use Rattle.abt_io.specs.declared.device.DeviceFault.TheVariants.{Failed, Full}
use Rattle.abt_runs.specs.Part.{is_end}
use Rattle.abt_runs.specs.declared.part.RunKind.{RunKind}
use Rattle.abt_runs.specs.declared.part.RunKind.TheVariants as kinds
use Rattle.abt_pieces.specs.Contents.{copy_len}
use Rattle.abt_placed.specs.Placer.{SoundPlacer, open_len, data_for, kept_for, goes_on_with, longer, with_chunk_begun}
use Rattle.abt_placed.specs.Placer.{closed, with_part}
use Rattle.abt_placed.specs.declared.placer.Placer.{Placer}
use Rattle.abt_placed.proofs.Numbers.{closed_numbers}

-- how long the bytes of a part are
pub data_long : (k : RunKind) (q b : ℕ) (x : List ℕ) → length x ≡ q * b → length (data_for k x) ≡ copy_len k q b
data_long kinds.Raw q b x e = e
data_long (kinds.Fill w) q b x e = refl
data_long kinds.Skip q b x e = refl
data_long kinds.End q b x e = refl

one_part : (k : RunKind) (q b : ℕ) (x : List ℕ) → (k ≡ kinds.Raw → length x ≡ q * b) → 0 < q
    → length (kept_for k) + length (data_for k x) ≤ q * (b + 16)
one_part kinds.Raw q b x e some = let d : q * (b + 16) ≡ q * b + 16 * q = omega arith in
    let z : length (kept_for kinds.Raw) ≡ 12 = refl in let l = e refl in omega (arith, d, l, some, z)
one_part (kinds.Fill w) q b x e some = omega arith
one_part kinds.Skip q b x e some = omega arith
one_part kinds.End q b x e some = omega arith

-- with a chunk begun, and with its bytes
pub begun_within : (b q long long' long'' : ℕ) (x : List ℕ) (s : Placer) (k : RunKind) → SoundPlacer b long s
    → (k ≡ kinds.Raw → length x ≡ q * b) → 0 < q
    → long' + open_len s.kind s.count b ≤ long + s.count * (b + 16) + length (kept_for k)
    → long'' ≤ long' + length (data_for k x) → long'' ≤ s.front + 28 + (s.blocks + s.count + q) * (b + 16)
begun_within b q long long' long'' x s k h e some wide more =
    let o = one_part k q b x e some in
    let d : (s.blocks + s.count + q) * (b + 16) ≡ s.blocks * (b + 16) + s.count * (b + 16) + q * (b + 16) =
    omega arith in
    omega (arith, o, d, h.few, wide, more)

passed_as : (t : Bool) (s : Placer) (k : RunKind) (q : ℕ) → s.chunks ≤ s.blocks → (is_end s.kind ≡ true → s.count ≡ 0)
    → (is_end s.kind ≡ false → 0 < s.count)
    → let s' = if t then longer s q else with_chunk_begun (closed s) k q in
    (s'.blocks + s'.count ≡ s.blocks + s.count + q) × ((s'.most ≡ s.most) × (s'.front ≡ s.front))
passed_as true s k q c none some = (omega arith, (refl, refl))
passed_as false s k q c none some = let n = closed_numbers s.kind s c none some in
    (omega (arith, n.blocks), (n.most, n.front))

-- what is written of a placer that goes on
pub part_passed : (b long q : ℕ) (s s' : Placer) (k : RunKind) → SoundPlacer b long s → s' ≡ with_part s k q
    → (s'.blocks + s'.count ≡ s.blocks + s.count + q) × ((s'.most ≡ s.most) × (s'.front ≡ s.front))
part_passed b long q s s' k h e = rw e (passed_as (goes_on_with s k) s k q h.chunks h.none h.some)

-- ---- the open chunk is made whole

-- a fault says at most once that the device is full
pub full_once : (f : DeviceFault) → full_in f ≤ 1
full_once Failed = omega arith
full_once Full = omega arith

pub full_as : {X : Type 0} (res : Result X DeviceFault) (f : DeviceFault) → res ≡ Err f → full_of res ≡ full_in f
full_as res f is = ap full_of is

-- the last chunk made whole
pub closed_within : (b p q front part long long' : ℕ) → long' + part ≤ long + q * (b + 16)
    → long ≤ front + 28 + p * (b + 16) + part → long' ≤ front + 28 + (p + q) * (b + 16)
closed_within b p q front part long long' wide few = let d : (p + q) * (b + 16) ≡ p * (b + 16) + q * (b + 16) =
    omega arith in omega (arith, d, wide, few)
