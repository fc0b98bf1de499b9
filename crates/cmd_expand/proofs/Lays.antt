-- What writing images one after another leaves, and why it stops.
use Rattle.std.proofs.Common.{arith, ◌≡◌, ◌≤◌, ℕ, suc, ◌+◌, ◌*◌, List, [], ◌∷◌, ◌++◌, length, drop, Bool, append_assoc}
use Rattle.std.proofs.Common.{true, false, Option, refl, sym, ◌∙◌, ap, subst}
use Rattle.std.specs.Prelude.{Result, Ok, Err, IfErr, OnOk, is_ok, if◌then◌else◌}
use Rattle.std.proofs.lemmas.Bool.{false≢true}
use Rattle.abt_sparse.specs.declared.fault.SparseFault.{SparseFault}
use Rattle.abt_sparse.specs.Chunk.{Header}
use Rattle.abt_sparse.specs.Fails.{Fails, SpellsHeader}
use Rattle.abt_sparse.specs.Pieces.{flashed, flashed_in_turn}
use Rattle.abt_sparse.specs.Reading.{Outcome, Image, Fault}
use Rattle.abt_sparse.proofs.Exactly.{behind_header, failed_is, spelled_is}
use Rattle.abt_flash_faults.specs.declared.fault.FlashFault.{FlashFault}
use Rattle.abt_flash_faults.specs.declared.fault.FlashFault.TheVariants as flashes
use Rattle.abt_flash.specs.declared.stage.Flashed.{Flashed}
use Rattle.abt_flash_faults.specs.Fault.{FlashCause, FlashingRises}
use Rattle.abt_flash.specs.Flashing.{Flashes, Holds}
use Rattle.sys_disk.specs.World.{OpenFiles, HasNotFailed, counting}
use Rattle.sys_disk.specs.Counts.{Cause, Counts, of_reading, reading, reads, writing}
use Rattle.cmd_common_sparse.specs.declared.fault.SparseCommandFault.{SparseCommandFault}
use Rattle.cmd_common_sparse.specs.declared.fault.SparseCommandFault.TheVariants as faults
use Rattle.cmd_expand.specs.Overlaying.{IsImageOf}
use Rattle.cmd_expand.proofs.Files.{no_reading}
use Rattle.cmd_expand.specs.Steps.{AreLaidBefore, BreaksAmong, BreaksAt, FailsAlone, IsNotFlashed, IsNotLaid}

-- ---- one image

abbrev pub header_in : Result Header SparseFault → Header → Header
header_in (Ok h) d = h
header_in (Err f) d = d

-- what its header counts
counts : (x : List ℕ) (n b : ℕ) (h : Header) (y : List ℕ) → IsImageOf n b x → SpellsHeader x h y
    → h.total_blks * h.blk_sz ≡ n * b
counts x n b h y image spelled =
    let own = (behind_header x image.header image.spelled.front.after image.spelled.front.header).1 in
    let same : h ≡ image.header = ap (λ r. header_in r h) (sym (behind_header x h y spelled).1 ∙ own) in
    ap (λ k. k.total_blks * k.blk_sz) same ∙ ap (λ m. m * image.header.blk_sz) image.blocks ∙ ap (λ m. n * m) image.size

abbrev pub is_fault : Outcome → Bool
is_fault (Image h cs rest) = false
is_fault (Fault f cells) = true

-- and it has no fault
no_fault : (x : List ℕ) (n b : ℕ) (f : SparseFault) (given : List (Option ℕ)) → IsImageOf n b x → Fails x f given → ⊥
no_fault x n b f given image fails =
    false≢true (ap is_fault (sym (spelled_is x image.header image.chunks image.rest image.spelled)
    ∙ failed_is x f given fails))

not_flashed : (f : FlashFault) (n b size taken taken' r r' p p' : ℕ) (x rest : List ℕ) → IsImageOf n b x → size ≡ n * b
    → Flashes (Err f) size taken taken' x rest → FlashCause f r r' p p' → IsNotFlashed f r r' p p'
not_flashed (flashes.Sparse f) n b size taken taken' r r' p p' x rest image sized says cause =
    absurd (no_fault x n b f says.given image says.fails)
not_flashed (flashes.PartitionTooSmall need) n b size taken taken' r r' p p' x rest image sized says cause =
    let all : says.header.total_blks * says.header.blk_sz ≡ n * b
    = counts x n b says.header says.behind image says.spelled in
    absurd (omega (arith, sized, all, says.needs, says.short))
not_flashed (flashes.Read d) n b size taken taken' r r' p p' x rest image sized says cause = cause.0
not_flashed (flashes.Write d) n b size taken taken' r r' p p' x rest image sized says cause = cause.0
not_flashed (flashes.Sync d) n b size taken taken' r r' p p' x rest image sized says cause = cause.0
not_flashed flashes.TooLarge n b size taken taken' r r' p p' x rest image sized says cause = absurd cause
not_flashed flashes.SourceChanged n b size taken taken' r r' p p' x rest image sized says cause = absurd cause
not_flashed (flashes.BadBlock k) n b size taken taken' r r' p p' x rest image sized says cause = absurd cause
not_flashed (flashes.LimitTooSmall k) n b size taken taken' r r' p p' x rest image sized says cause = absurd cause
not_flashed (flashes.Stopped j c) n b size taken taken' r r' p p' x rest image sized says cause = absurd cause
not_flashed (flashes.NoSuchPiece k) n b size taken taken' r r' p p' x rest image sized says cause = absurd cause

pub answer_blames : (a : Result Flashed FlashFault) (n b size taken taken' r r' p p' : ℕ) (x rest : List ℕ)
    → Flashes a size taken taken' x rest → FlashingRises a r r' p p' → size ≡ n * b → IsImageOf n b x
    → IfErr a (λ f. IsNotFlashed f r r' p p')
answer_blames (Ok e) n b size taken taken' r r' p p' x rest says cause sized image = tt
answer_blames (Err f) n b size taken taken' r r' p p' x rest says cause sized image =
    not_flashed f n b size taken taken' r r' p p' x rest image sized says cause

raised : (f : FlashFault) (r r' p p' m n : ℕ) → IsNotFlashed f r r' p p'
    → IsNotFlashed f (m + r) (m + r') (n + p) (n + p')
raised (flashes.Read d) r r' p p' m n is = omega (arith, is)
raised (flashes.Write d) r r' p p' m n is = omega (arith, is)
raised (flashes.Sync d) r r' p p' m n is = omega (arith, is)
raised (flashes.Sparse f) r r' p p' m n is = absurd is
raised (flashes.PartitionTooSmall k) r r' p p' m n is = absurd is
raised flashes.TooLarge r r' p p' m n is = absurd is
raised flashes.SourceChanged r r' p p' m n is = absurd is
raised (flashes.BadBlock k) r r' p p' m n is = absurd is
raised (flashes.LimitTooSmall k) r r' p p' m n is = absurd is
raised (flashes.Stopped j c) r r' p p' m n is = absurd is
raised (flashes.NoSuchPiece k) r r' p p' m n is = absurd is

-- ---- what is closed

abbrev pub counted_so : Counts → OpenFiles → OpenFiles
counted_so n h = record h { counts = n }

pub let_go_fails : (h h' : OpenFiles) (n : Counts) → h' ≡ counting n h → FailsAlone h h'
let_go_fails h h' n gone = record {
  same = gone ∙ ap (λ m. counted_so m h) (sym (ap (λ (k : OpenFiles). k.counts) gone));
  grown = λ cause.
      let up : h'.counts.failed cause ≡ h.counts.failed cause + n.failed cause
      = ap (λ (k : OpenFiles). k.counts.failed cause) gone in
      omega (arith, up);
  read =
      let up : h'.counts.given ≡ h.counts.given + n.given = ap (λ (k : OpenFiles). k.counts.given) gone in
      omega (arith, up);
}

pub fails_none : (h h' : OpenFiles) → h' ≡ h → FailsAlone h h'
fails_none h h' same = record {
  same = same ∙ ap (λ m. counted_so m h) (sym (ap (λ (k : OpenFiles). k.counts) same));
  grown = λ cause.
      let even : h'.counts.failed cause ≡ h.counts.failed cause
      = ap (λ (k : OpenFiles). k.counts.failed cause) same in
      omega (arith, even);
  read =
      let even : h'.counts.given ≡ h.counts.given = ap (λ (k : OpenFiles). k.counts.given) same in
      omega (arith, even);
}

pub fails_then : (h h1 h2 : OpenFiles) → FailsAlone h h1 → FailsAlone h1 h2 → FailsAlone h h2
fails_then h h1 h2 first then_more = record {
  same = then_more.same ∙ ap (counted_so h2.counts) first.same;
  grown = λ cause.
      let a : h.counts.failed cause ≤ h1.counts.failed cause = first.grown cause in
      let b : h1.counts.failed cause ≤ h2.counts.failed cause = then_more.grown cause in
      omega (arith, a, b);
  read = omega (arith, first.read, then_more.read);
}

pub laid_as : (f : SparseCommandFault) (r s r' p q p' : ℕ) → r ≡ s → p ≡ q → IsNotLaid f r r' p p'
    → IsNotLaid f s r' q p'
laid_as f r s r' p q p' same alike is =
    subst (λ k. IsNotLaid f k r' q p') same (subst (λ k. IsNotLaid f r r' k p') alike is)

-- ---- one image after another

pub laid_next : (p p' x w : List ℕ) (xs xs' : List (List ℕ)) → xs ≡ x ∷ xs' → flashed_in_turn p xs ≡ w
    → p' ≡ flashed p x → flashed_in_turn p' xs' ≡ w
laid_next p p' x w xs xs' is all now =
    ap (λ z. flashed_in_turn z xs') now ∙ sym (ap (flashed_in_turn p) is) ∙ all

turn_more : (p x : List ℕ) (xs : List (List ℕ)) → flashed_in_turn p (xs ++ (x ∷ [])) ≡ flashed (flashed_in_turn p xs) x
turn_more p x [] = refl
turn_more p x (y ∷ xs) = turn_more (flashed p y) x xs

pub laid_none : (xs : List (List ℕ)) (p : List ℕ) → AreLaidBefore xs xs p p
laid_none xs p = record { before = []; among = refl; laid = refl }

pub laid_more : (all xs xs' : List (List ℕ)) (p q q' x : List ℕ) → xs ≡ x ∷ xs' → AreLaidBefore xs all p q
    → q' ≡ flashed q x → AreLaidBefore xs' all p q'
laid_more all xs xs' p q q' x is before now = record {
  before = before.before ++ (x ∷ []);
  among = before.among ∙ ap (λ l. before.before ++ l) is ∙ sym (append_assoc before.before (x ∷ []) xs');
  laid = now ∙ ap (λ l. flashed l x) before.laid ∙ sym (turn_more p x before.before);
}

-- one is refused
pub breaks_among : (f : SparseCommandFault) (all xs xs' : List (List ℕ)) (p q p' x : List ℕ) → xs ≡ x ∷ xs'
    → AreLaidBefore xs all p q → BreaksAt f x q p' → BreaksAmong f all p p'
breaks_among f all xs xs' p q p' x is before broken = record {
  before = before.before;
  next = x;
  behind = xs';
  among = before.among ∙ ap (λ l. before.before ++ l) is;
  holds = subst (λ l. BreaksAt f x l p') before.laid broken;
}

-- ---- what a result means

pub at_front : (n : ℕ) (x : List ℕ) → n ≡ 0 → drop n x ≡ x
at_front n x none = ap (λ k. drop k x) none

pub done_holds : (a : Result Flashed FlashFault) (e : Flashed) (got : ℕ) (p p' x : List ℕ) → a ≡ Ok e
    → Holds a got p p' x → p' ≡ flashed p x
done_holds a e got p p' x is holds = subst (λ r. Holds r got p p' x) is holds

-- it was refused for this
pub breaks_at : (a : Result Flashed FlashFault) (f : FlashFault) (told : SparseCommandFault) (got : ℕ)
    (p p' x y : List ℕ)
    → a ≡ Err f → told ≡ faults.Flash f → x ≡ y → Holds a got p p' x → BreaksAt told y p p'
breaks_at a f told got p p' x y is named same holds =
    subst (λ q. BreaksAt q y p p') (sym named)
    (got, subst (λ z. Holds (Err f) got p p' z) same (subst (λ r. Holds r got p p' x) is holds))

pub done_so : (a : Result Flashed FlashFault) (e : Flashed) (P : Type 0) → a ≡ Ok e → OnOk a P → P
done_so a e P is so = subst (λ r. OnOk r P) is so

pub done_even : (a : Result Flashed FlashFault) (e : Flashed) (r r' p p' : ℕ) → a ≡ Ok e → FlashingRises a r r' p p'
    → (r' ≡ r) × (p' ≡ p)
done_even a e r r' p p' is rises = subst (λ q. FlashingRises q r r' p p') is rises

pub synced_if : (a : Result Flashed FlashFault) (n n' : ℕ) → n' ≡ n + (if is_ok a then 1 else 0) → OnOk a (n' ≡ n + 1)
synced_if (Ok e) n n' is = is
synced_if (Err f) n n' is = tt

-- it was closed, and nothing has failed
pub even_behind : (h h' : OpenFiles) (given r r' : ℕ) → h' ≡ counting (reads given r') h → r' ≡ r → (cause : Cause)
    → h'.counts.failed cause ≡ h.counts.failed cause + of_reading r cause
even_behind h h' given r r' gone same cause =
    ap (λ (k : OpenFiles). k.counts.failed cause) gone ∙ ap (λ n. h.counts.failed cause + of_reading n cause) same

-- nothing had failed before an image that had not failed, and nothing has since
pub even_then : (h h1 h2 : OpenFiles) (r : ℕ) → HasNotFailed h h1
    → ((cause : Cause) → h2.counts.failed cause ≡ h1.counts.failed cause + of_reading r cause) → r ≡ 0
    → HasNotFailed h h2
even_then h h1 h2 r first own none cause =
    let before : h1.counts.failed cause ≡ h.counts.failed cause = first cause in
    let even : of_reading r cause ≡ 0 = ap (λ n. of_reading n cause) none ∙ no_reading cause in
    let since : h2.counts.failed cause ≡ h1.counts.failed cause + of_reading r cause = own cause in
    omega (arith, before, even, since)

pub even_read : (h h1 : OpenFiles) (r : ℕ) → HasNotFailed h h1 → r ≡ 0
    → h1.counts.failed reading + r ≡ h.counts.failed reading
even_read h h1 r first none =
    let before : h1.counts.failed reading ≡ h.counts.failed reading = first reading in
    omega (arith, before, none)

pub even_written : (h h1 : OpenFiles) (p p1 : ℕ) → HasNotFailed h h1 → p1 ≡ p
    → h1.counts.failed writing + p1 ≡ h.counts.failed writing + p
even_written h h1 p p1 first same =
    let before : h1.counts.failed writing ≡ h.counts.failed writing = first writing in
    omega (arith, before, same)

-- it was closed, and something had failed
pub blamed_behind : (a : Result Flashed FlashFault) (f : FlashFault) (told : SparseCommandFault) (h h' : OpenFiles)
    (given r r' p p' : ℕ) → a ≡ Err f → told ≡ faults.Flash f → h' ≡ counting (reads given r') h
    → IfErr a (λ g. IsNotFlashed g r r' p p')
    → IsNotLaid told (h.counts.failed reading + r) (h'.counts.failed reading)
    (h.counts.failed writing + p) (h'.counts.failed writing + p')
blamed_behind a f told h h' given r r' p p' is named gone why =
    let so : IsNotFlashed f r r' p p' = subst (λ q. IfErr q (λ g. IsNotFlashed g r r' p p')) is why in
    let up : h'.counts.failed reading ≡ h.counts.failed reading + r'
    = ap (λ (k : OpenFiles). k.counts.failed reading) gone in
    let even : h'.counts.failed writing ≡ h.counts.failed writing + 0
    = ap (λ (k : OpenFiles). k.counts.failed writing) gone in
    let after : h.counts.failed writing + p' ≡ h'.counts.failed writing + p' = omega (arith, even) in
    let front = h.counts.failed reading + r in
    let begun = h.counts.failed writing + p in
    subst (λ q. IsNotLaid q front (h'.counts.failed reading) begun (h'.counts.failed writing + p')) (sym named)
    (subst (λ k. IsNotFlashed f front k begun (h'.counts.failed writing + p')) (sym up)
    (subst (λ k. IsNotFlashed f front (h.counts.failed reading + r') begun k) after
    (raised f r r' p p' (h.counts.failed reading) (h.counts.failed writing) so)))

-- a queue that gives nothing has nothing
pub nothing_left : {X : Type 0} (xs ys : List X) → xs ≡ ys → ys ≡ drop 1 xs → xs ≡ []
nothing_left [] ys same rest = refl
nothing_left (x ∷ xs) ys same rest =
    let shorter : suc (length xs) ≡ length xs = ap length (same ∙ rest) in absurd (omega (arith, shorter))
