-- The range of a file that a part of an image is, as a source.
use Rattle.std.proofs.Common.{◌≡◌, ◌≤◌, ◌+◌, ℕ, List, [], length, drop, Option, Some, None, arith, length-drop}
use Rattle.std.proofs.Common.{length-take}
use Rattle.std.specs.Prelude.{option_map}
use Rattle.abt_io.specs.Bytes.{AreBytes}
use Rattle.abt_io.specs.BytesLaws.{bytes_of_take, bytes_of_drop}
use Rattle.cmd_common_boot.specs.Ranges.{range_bytes, long_in}

pub part_sized : (o : Option (List ℕ)) (at n : ℕ) → at + n ≤ long_in o → n ≡ length (range_bytes o at n)
part_sized None at n lies = omega (arith, lies)
part_sized (Some x) at n lies = omega (arith, lies, length-drop at x, length-take n (drop at x))

none_are : AreBytes []
none_are i = omega arith

pub part_bytes : {S : Type 0} (f : S → List ℕ) (o : Option S) (at n : ℕ) → ((s : S) → AreBytes (f s))
    → AreBytes (range_bytes (option_map f o) at n)
part_bytes f None at n are = none_are
part_bytes f (Some s) at n are = bytes_of_take n (drop at (f s)) (bytes_of_drop at (f s) (are s))
