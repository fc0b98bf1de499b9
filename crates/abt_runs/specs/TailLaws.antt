-- What holds of a raw image whose tail may be raw.
use Rattle.std.specs.Prelude.{◌≡◌, ℕ, zero, suc, ◌+◌, ◌-◌, ◌*◌, ◌/◌, ◌≤◌, ◌<◌, Bool, true, false, List, length, drop}
use Rattle.std.specs.Prelude.{take, replicate, refl}
use Rattle.std.proofs.Common.{arith, ap, ◌∙◌, length-append, length-drop, length-take-le}
use Rattle.std.proofs.lemmas.List.{length-replicate}
use Rattle.std.specs.List.{AllByRecursion}
use Rattle.abt_runs.specs.RawLaws.{raw_count, raw_long, raw_are_blocks, class_is_block}
use Rattle.abt_runs.specs.Tail.{tailed, raw_list}
use Rattle.abt_sparse.specs.Block.{IsBlock, AreBlocks, filled_to, block_count}

pub length-tailed : (b n p : ℕ) (y : List ℕ) → length (tailed b n p y) ≡ n
length-tailed b zero p y = refl
length-tailed b (suc n) zero y = ap suc (length-tailed b n zero (drop b y))
length-tailed b (suc n) (suc p) y = ap suc (length-tailed b n p (drop b y))

pub tailed_are : (b n p : ℕ) (y : List ℕ) → 4 ≤ b → n * b ≤ length y → AllByRecursion (IsBlock b) (tailed b n p y)
tailed_are b zero p y some long = tt
tailed_are b (suc n) zero y some long = (
  length-take-le b y (omega arith),
  tailed_are b n zero (drop b y) some (omega (arith, length-drop b y)),
)
tailed_are b (suc n) (suc p) y some long = (
  class_is_block b (take b y) some (length-take-le b y (omega arith)),
  tailed_are b n p (drop b y) some (omega (arith, length-drop b y)),
)

pub list_long : (t : Bool) (len blocks size : ℕ) (x : List ℕ) → 4 ≤ size → len ≤ blocks * size
    → blocks * size < len + size → len ≡ length x → length (raw_list t size x) ≡ blocks
list_long false len blocks size x some covers last e = raw_long len blocks size x some covers last e
list_long true len blocks size x some covers last e =
    length-tailed size (block_count size x) (length x / size) (filled_to (size * block_count size x) x)
    ∙ raw_count len blocks size x some covers last e

pub list_are_blocks : (t : Bool) (len blocks size : ℕ) (x : List ℕ) → 4 ≤ size → len ≤ blocks * size
    → blocks * size < len + size → len ≡ length x → AreBlocks size (raw_list t size x)
list_are_blocks false len blocks size x some covers last e = raw_are_blocks len blocks size x some covers last e
list_are_blocks true len blocks size x some covers last e =
    let n = block_count size x in
    let same = raw_count len blocks size x some covers last e in
    let total : size * n ≡ blocks * size = rw same (omega arith) in
    tailed_are size n (length x / size) (filled_to (size * n) x) some (omega (
      arith,
      length-append x (replicate (size * n - length x) 0),
      length-replicate {A = ℕ} (size * n - length x) 0,
    ))
