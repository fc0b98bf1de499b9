-- The conditions on what calls ask for.
use Rattle.std.specs.Prelude.{ℕ, ◌+◌, ◌<◌, ◌≤◌, ◌^◌, List, length}
use Rattle.abt_sections.specs.Entries.{ComesNext}

-- one ask reads n bytes from a place on: at most a window of them
pub record MayAsk (at n : ℕ) : Type 0 where
  pub room : n ≤ 65536
  pub below : at + n < 2 ^ 64

-- n bytes have a page boundary at their end, or zeros up to one
pub record MayPad (n page : ℕ) : Type 0 where
  pub some : 0 < page
  pub bound : n + page < 2 ^ 64

-- at most five parts, which are placed each from a page boundary on
pub record FewOnPages {A : Type 0} (page : ℕ) (parts : List A) : Type 0 where
  pub some : 0 < page
  pub few : length parts ≤ 5

-- as many bytes as a page may have
pub record IsPageNumber (page : ℕ) : Type 0 where
  pub low : 0 < page
  pub high : page ≤ 131072

-- entry i of the `count` entries of a table is asked for, where those from `first` up to `end` were the last ones read
pub record MayAskEntry (at first end i count : ℕ) : Type 0 where
  pub near : at < 2 ^ 62
  pub there : i < count
  pub next : ComesNext first end i count
