-- Lists that are bytes.
use Rattle.std.proofs.Common.{ℕ, zero, suc, ◌+◌, List, [], ◌∷◌, ◌++◌, length}
use Rattle.abt_io.specs.Bytes.{AreBytes}
use Rattle.abt_io.specs.BytesLaws.{bytes_of_take, bytes_of_drop}
use Rattle.abt_io.specs.Moment.{put_at}

pub bytes_of_append : (x y : List ℕ) → AreBytes x → AreBytes y → AreBytes (x ++ y)
bytes_of_append [] y h k i = k i
bytes_of_append (b ∷ x) y h k zero = h 0
bytes_of_append (b ∷ x) y h k (suc i) = bytes_of_append x y (λ j. h (suc j)) k i

pub bytes_of_put : (x y : List ℕ) (at : ℕ) → AreBytes x → AreBytes y → AreBytes (put_at x at y)
bytes_of_put x y at h k =
    bytes_of_append _ _ (bytes_of_append _ _ (bytes_of_take at x h) k) (bytes_of_drop (at + length y) x h)
