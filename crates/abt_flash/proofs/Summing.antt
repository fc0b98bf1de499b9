-- What a whole delivery costs, and what its result counts.
use Rattle.std.proofs.Common.{◌≡◌, ℕ, ◌+◌, ◌-◌, ◌*◌, ◌≤◌, ◌<◌, max, List, length, drop, replicate, Result, Ok, Err, ap}
use Rattle.std.proofs.Common.{◌∙◌, arith}
use Rattle.std.specs.Prelude.{IfOk, OnOk}
use Rattle.std.proofs.Math.Nat.{mul-le-mul_right}
use Rattle.abt_sparse.specs.Block.{Block, Skip}
use Rattle.abt_sparse.specs.Runs.{segments, Division}
use Rattle.abt_sparse.proofs.Weights.{fewest}
use Rattle.abt_pieces.specs.Contents.{written_in}
use Rattle.abt_pieces.proofs.Counting.{written-append}
use Rattle.abt_flash.specs.Delivering.{CountsTo, OnFlashed, OnUnsyncedPiece, begun, blocks_behind}
use Rattle.abt_flash.specs.declared.answer.Delivered.{Delivered}
use Rattle.abt_flash_faults.specs.declared.fault.Cause.{Cause}
use Rattle.abt_flash_faults.specs.declared.fault.Cause.TheVariants as causes
use Rattle.abt_flash_faults.specs.declared.fault.FlashFault.{FlashFault}
use Rattle.abt_flash_faults.specs.declared.fault.FlashFault.TheVariants as flashes
use Rattle.abt_flash.proofs.Left.{skips_written}

-- ---- results

pub on_ok : {X E : Type 0} {P Q : Type 0} (r : Result X E) → (P → Q) → OnOk r P → OnOk r Q
on_ok (Ok x) f h = f h
on_ok (Err e) f h = tt

pub on_any : {X E : Type 0} {P : Type 0} (r : Result X E) → P → OnOk r P
on_any (Ok x) h = h
on_any (Err e) h = tt

pub on_unsynced : (r : Result Delivered FlashFault) (P Q : ℕ → Type 0) → ((j : ℕ) → P j → Q j) → OnUnsyncedPiece r P
    → OnUnsyncedPiece r Q
on_unsynced (Ok d) P Q go h = tt
on_unsynced (Err (flashes.Stopped j (causes.Sync d))) P Q go h = go j h
on_unsynced (Err f) P Q go h = tt

-- and of the cause of a stop: what was flashed whole, where it is the piece j that was not synced
pub stopped_unsynced : (j : ℕ) (c : Cause) (A : Type 0) (P : ℕ → Type 0) → (A → P j) → OnFlashed (Err c) A
    → OnUnsyncedPiece (Err (flashes.Stopped j c)) P
stopped_unsynced j (causes.Sync d) A P go h = go h
stopped_unsynced j (causes.Read d) A P go h = tt
stopped_unsynced j (causes.Write d) A P go h = tt
stopped_unsynced j causes.SourceChanged A P go h = tt
stopped_unsynced j (causes.SpoolWrite d) A P go h = tt
stopped_unsynced j (causes.SpoolRead d) A P go h = tt
stopped_unsynced j causes.SpoolChanged A P go h = tt

pub both_flashed : (c : Cause) (A B : Type 0) → OnFlashed (Err c) A → OnFlashed (Err c) B → OnFlashed (Err c) (A × B)
both_flashed (causes.Sync d) A B a b = (a, b)
both_flashed (causes.Read d) A B a b = tt
both_flashed (causes.Write d) A B a b = tt
both_flashed causes.SourceChanged A B a b = tt
both_flashed (causes.SpoolWrite d) A B a b = tt
both_flashed (causes.SpoolRead d) A B a b = tt
both_flashed causes.SpoolChanged A B a b = tt

-- no division has fewer pieces
pub least_of : (limit b : ℕ) (l : List Block) (made : ℕ) (r : Result Delivered FlashFault)
    → CountsTo r made (length (segments limit b l))
    → IfOk r (λ d. (parts : List (List Block)) → Division limit b l parts → made + d.pieces ≤ length parts)
least_of limit b l made (Ok d) h = λ parts div. let z = fewest limit b l parts div in omega (arith, z, h)
least_of limit b l made (Err e) h = tt

-- ---- what is written after the first pieces

pub behind_written : (n : ℕ) (l : List Block) → written_in (blocks_behind n l) ≡ written_in (drop n l)
behind_written n l =
    let a = written-append (replicate n Skip) (drop n l) in
    let z = skips_written n in
    omega (arith, a, z)

-- ---- what is read of the source

times_less : (k one : ℕ) → 0 < k → k * one ≡ (k - 1) * one + one
times_less k one some =
    let e : k ≡ (k - 1) + 1 = omega (arith, some) in
    ap (λ (m : ℕ). m * one) e ∙ (let z : ((k - 1) + 1) * one ≡ (k - 1) * one + one = omega arith in z)

-- in the opening, g0 after it, planning so many pieces before the others, and delivering d
pub reads_few : (g0 g1 g2 c0 c1 p1 pass image n one opening before d : ℕ) → 0 < d → before + d ≤ max 1 n
    → (n - 1) * one ≤ image → opening + 3 * pass + 2 * image ≤ 8 * image
    → g1 + c0 ≤ g0 + c1 + before * (48 + one) → c1 ≤ p1
    → g2 + p1 + (80 + one) ≤ g1 + 3 * pass + image + 48 + d * (80 + one)
    → g2 + opening ≤ g0 + 8 * image + 128 * (before + d + 1)
reads_few g0 g1 g2 c0 c1 p1 pass image n one opening before d some few spared economy plan passes rest =
    let k = before + d in
    let less : k - 1 ≤ n - 1 = omega (arith, few) in
    let words : (k - 1) * one ≤ (n - 1) * one = mul-le-mul_right one less in
    let all : k * one ≡ (k - 1) * one + one = times_less k one (omega (arith, some)) in
    let parts : k * one ≡ before * one + d * one = omega arith in
    let first : before * (48 + one) ≡ before * 48 + before * one = omega arith in
    let second : d * (80 + one) ≡ d * 80 + d * one = omega arith in
    omega (arith, words, all, parts, first, second, spared, economy, plan, passes, rest)

pub reads_of : (r : Result Delivered FlashFault) (g0 g1 g2 c0 c1 p1 pass image n one opening before : ℕ)
    → IfOk r (λ d. 0 < d.pieces) → begun before r ≤ max 1 n → (n - 1) * one ≤ image
    → opening + 3 * pass + 2 * image ≤ 8 * image
    → g1 + c0 ≤ g0 + c1 + before * (48 + one) → c1 ≤ p1
    → IfOk r (λ d. g2 + p1 + (80 + one) ≤ g1 + 3 * pass + image + 48 + d.pieces * (80 + one))
    → IfOk r (λ d. g2 + opening ≤ g0 + 8 * image + 128 * (before + d.pieces + 1))
reads_of (Ok d) g0 g1 g2 c0 c1 p1 pass image n one opening before some few spared economy plan passes rest =
    reads_few g0 g1 g2 c0 c1 p1 pass image n one opening before d.pieces some few spared economy plan passes rest
reads_of (Err e) g0 g1 g2 c0 c1 p1 pass image n one opening before some few spared economy plan passes rest = tt
