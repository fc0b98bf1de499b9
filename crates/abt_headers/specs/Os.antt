-- The OS version and patch level in one number (`os_version` of `bootimg.h`).
use Rattle.std.specs.Prelude.{ℕ, ◌+◌, ◌-◌, ◌*◌, ◌/◌, ◌%◌, ◌<◌, ◌≤◌, ◌^◌}
use Rattle.abt_headers.specs.declared.os.OsParts.{OsParts}

abbrev pub os_of : ℕ → ℕ → ℕ → ℕ → ℕ → OsParts
os_of a b c year month = record { a = a; b = b; c = c; year = year; month = month }

-- each part has room in its bits: seven for A, B, C and the year from 2000 on, four for the month
pub record FitsOsBits (p : OsParts) : Type 0 where
  pub a : p.a < 128
  pub b : p.b < 128
  pub c : p.c < 128
  pub from : 2000 ≤ p.year
  pub year : p.year < 2128
  pub month : p.month < 16

-- what a version may be: the parts have room, and the month is one
pub record IsOsVersion (p : OsParts) : Type 0 where
  pub bits : FitsOsBits p
  pub first : 1 ≤ p.month
  pub last : p.month ≤ 12

-- A in bits 31 to 25, B in 24 to 18, C in 17 to 11, the year from 2000 on in 10 to 4, the month in 3 to 0
abbrev pub os_raw : OsParts → ℕ
os_raw p = p.a * 2 ^ 25 + p.b * 2 ^ 18 + p.c * 2 ^ 11 + (p.year - 2000) * 2 ^ 4 + p.month

-- what these bits of a number hold
abbrev pub os_parts : ℕ → OsParts
os_parts n = os_of (n / 2 ^ 25) (n / 2 ^ 18 % 128) (n / 2 ^ 11 % 128) (2000 + n / 2 ^ 4 % 128) (n % 16)
