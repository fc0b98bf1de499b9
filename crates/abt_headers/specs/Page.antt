-- Pages: an image is a sequence of pages, and every section begins at a page boundary.
use Rattle.std.specs.Prelude.{◌≡◌, ◌≤◌, ℕ, ◌+◌, ◌-◌, ◌/◌, ◌==◌, if◌then◌else◌, List, Option, Some, None, Result, Ok}
use Rattle.std.specs.Prelude.{Err}
use Rattle.abt_headers.specs.declared.fault.HeaderFault.{HeaderFault}
use Rattle.abt_headers.specs.declared.fault.HeaderFault.TheVariants as faults
use Rattle.abt_headers.specs.declared.page.PageSize.{PageSize}
use Rattle.abt_headers.specs.declared.page.PageSize.TheVariants.{Of2048, Of4096, Of8192, Of16384, Of32768, Of65536}
use Rattle.abt_headers.specs.declared.page.PageSize.TheVariants.{Of131072}
use Rattle.abt_headers.specs.Field.{number_at}

-- how many bytes a page has
abbrev pub page_bytes : PageSize → ℕ
page_bytes Of2048 = 2048
page_bytes Of4096 = 4096
page_bytes Of8192 = 8192
page_bytes Of16384 = 16384
page_bytes Of32768 = 32768
page_bytes Of65536 = 65536
page_bytes Of131072 = 131072

-- the page of n bytes, if there is one
abbrev pub page_from : ℕ → Option PageSize
page_from n =
    if n == 2048 then Some Of2048
    else if n == 4096 then Some Of4096
    else if n == 8192 then Some Of8192
    else if n == 16384 then Some Of16384
    else if n == 32768 then Some Of32768
    else if n == 65536 then Some Of65536
    else if n == 131072 then Some Of131072
    else None

abbrev pub page_or_fault : ℕ → Option PageSize → Result PageSize HeaderFault
page_or_fault n (Some page) = Ok page
page_or_fault n None = Err (faults.PageSize n)

-- the page size in the four bytes at a place
abbrev pub page_at : ℕ → List ℕ → Result PageSize HeaderFault
page_at place x = page_or_fault (number_at place 4 x) (page_from (number_at place 4 x))

-- how many pages of p bytes hold n bytes: n / p, rounded up
abbrev pub pages : ℕ → ℕ → ℕ
pages n p = (n + (p - 1)) / p

-- n is how many bytes this page has, from 2,048 to 131,072
pub record IsPage (n page : ℕ) : Type 0 where
  pub value : n ≡ page
  pub low : 2048 ≤ n
  pub high : n ≤ 131072
