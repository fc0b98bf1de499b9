-- An output that is closed with all that it was given.
use Rattle.std.proofs.Common.{◌≡◌, List, ℕ, length, take, ap, arith, Result, Ok, Err, OnErr}
use Rattle.sys_disk.specs.World.{HasMost}

pub most_of_all : (bytes x : List ℕ) → x ≡ bytes → HasMost bytes x
most_of_all bytes x e = record { kept = length bytes; few = omega arith; front = ap (take (length bytes)) e }

pub on_err : {X E P : Type 0} (r : Result X E) → P → OnErr r P
on_err (Ok x) p = tt
on_err (Err e) p = p
