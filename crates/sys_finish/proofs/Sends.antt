-- Bytes that are given to a sink one part after another.
use Rattle.std.proofs.Common.{◌≡◌, ℕ, ◌+◌, ◌-◌, List, ◌++◌, length, take, drop, refl, ap, ◌∙◌}
use Rattle.abt_io.proofs.Parts.{written_on}
use Rattle.abt_io.specs.Frame.{Logged, and_bytes}

-- one part more, from `&bytes[d..]`
pub given_on : (log now new : Logged) (bytes : List ℕ) (d n : ℕ) → now ≡ and_bytes log (take d bytes)
    → new ≡ and_bytes now (take n (take (length bytes - d) (drop d bytes))) → new ≡ and_bytes log (take (d + n) bytes)
given_on log now new bytes d n before e =
    let x = take n (take (length bytes - d) (drop d bytes)) in
    let one = log.bytes ++ take d bytes in
    let both : one ++ x ≡ log.bytes ++ take (d + n) bytes = written_on log.bytes one (one ++ x) bytes d n refl refl in
    e ∙ ap (λ (l : Logged). and_bytes l x) before
    ∙ ap (λ (b : List ℕ). let l : Logged = record { bytes = b; cuts = log.cuts } in l) both
