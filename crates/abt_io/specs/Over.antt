-- Bytes that overwrite others at a place.
use Rattle.std.specs.Prelude.{◌≡◌, ℕ, ◌<◌, List, ◌++◌, length, take, drop}
use Rattle.abt_io.specs.Frame.{Logged}
use Rattle.abt_io.specs.Moment.{put_at}

-- all that a device was ever given, with these bytes over what was stored at a place
abbrev pub and_put : Logged → ℕ → List ℕ → Logged
and_put g at x = record { bytes = put_at g.bytes at x; cuts = g.cuts }

-- where writing over a place fails: a prefix of the bytes is there, and not all of them
pub record WritesFront (old new : List ℕ) (at : ℕ) (bytes : List ℕ) : Type 0 where
  pub count : ℕ
  pub short : count < length bytes
  pub written : new ≡ put_at old at (take count bytes)

-- what is stored, with the first `kept` bytes of this prefix in its place
abbrev pub with_front : List ℕ → ℕ → List ℕ → List ℕ
with_front front kept stands = take kept front ++ drop kept stands
