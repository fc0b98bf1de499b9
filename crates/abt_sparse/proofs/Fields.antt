-- A number that is read is the number that was written, and back.
use Rattle.std.proofs.Common.{◌≡◌, ℕ, zero, suc, ◌+◌, ◌*◌, ◌/◌, ◌%◌, ◌^◌, ◌<◌, ◌≤◌, Bool, true, false, cond, List, []}
use Rattle.std.proofs.Common.{◌∷◌, ◌++◌, length, get_or, drop, Result, Ok, Err, refl, sym, ap, subst, ◌∙◌, append-nil}
use Rattle.std.proofs.Common.{arith, length-drop, get_or-drop, drop-drop, not, ◌==◌, ◌||◌, nat_lt}
use Rattle.std.specs.Int.{w16, w32, to_le_bytes}
use Rattle.std.proofs.lemmas.Bool.{ltb-false, le-ltb, eqb-true, eq-eqb, ne_eqb, or_parts}
use Rattle.std.proofs.lemmas.List.{drop_all}
use Rattle.byteorder.specs.Endian.{little_number}
use Rattle.abt_sparse.specs.declared.fault.SparseFault.{SparseFault}
use Rattle.abt_sparse.specs.declared.fault.SparseFault.TheVariants.{Magic, Major, FileHeaderSize, ChunkHeaderSize}
use Rattle.abt_sparse.specs.declared.fault.SparseFault.TheVariants.{BlockSize}
use Rattle.abt_sparse.specs.Chunk.{Header, IsHeader, header_record}
use Rattle.abt_sparse.specs.Reading.{number_at, header_at, checked_header}

abbrev pub IsBytes : List ℕ → Type 0
IsBytes bytes = (i : ℕ) → get_or bytes i 0 < 256

pub IsBytes-drop : (n : ℕ) (bytes : List ℕ) → IsBytes bytes → IsBytes (drop n bytes)
IsBytes-drop n bytes h i = rw get_or-drop (h (n + i))

-- ---- two and four bytes

pub again_2 : (n : ℕ) (rest : List ℕ) → n < 2 ^ 16 → little_number 2 (to_le_bytes w16 n ++ rest) ≡ n
again_2 n rest h = omega arith

pub again_4 : (n : ℕ) (rest : List ℕ) → n < 2 ^ 32 → little_number 4 (to_le_bytes w32 n ++ rest) ≡ n
again_4 n rest h = omega arith

low_2 : (a b : ℕ) → a < 256 → b < 256 → to_le_bytes w16 (a + 256 * (b + 256 * 0)) ≡ a ∷ b ∷ []
low_2 a b h k =
    let n = a + 256 * (b + 256 * 0) in
    let e0 : n % 256 ≡ a = omega arith in
    let e1 : n / 256 % 256 ≡ b = omega arith in
    rw (e0, e1) refl

low_4 : (a b c d : ℕ) → a < 256 → b < 256 → c < 256 → d < 256
    → to_le_bytes w32 (a + 256 * (b + 256 * (c + 256 * (d + 256 * 0)))) ≡ a ∷ b ∷ c ∷ d ∷ []
low_4 a b c d h k l m =
    let n = a + 256 * (b + 256 * (c + 256 * (d + 256 * 0))) in
    let e0 : n % 256 ≡ a = omega arith in
    let e1 : n / 256 % 256 ≡ b = omega arith in
    let e2 : n / 65536 % 256 ≡ c = omega arith in
    let e3 : n / 16777216 % 256 ≡ d = omega arith in
    rw (e0, e1, e2, e3) refl

front_2 : (y : List ℕ) → 2 ≤ length y → IsBytes y → to_le_bytes w16 (little_number 2 y) ++ drop 2 y ≡ y
front_2 [] h k = absurd (omega arith)
front_2 (a ∷ []) h k = absurd (omega arith)
front_2 (a ∷ b ∷ r) h k = ap (λ (t : List ℕ). t ++ r) (low_2 a b (k 0) (k 1))

front_4 : (y : List ℕ) → 4 ≤ length y → IsBytes y → to_le_bytes w32 (little_number 4 y) ++ drop 4 y ≡ y
front_4 [] h k = absurd (omega arith)
front_4 (a ∷ []) h k = absurd (omega arith)
front_4 (a ∷ b ∷ []) h k = absurd (omega arith)
front_4 (a ∷ b ∷ c ∷ []) h k = absurd (omega arith)
front_4 (a ∷ b ∷ c ∷ d ∷ r) h k = ap (λ (t : List ℕ). t ++ r) (low_4 a b c d (k 0) (k 1) (k 2) (k 3))

-- a field and what is after it
pub field_2 : (p : ℕ) (x rest : List ℕ) → p + 2 ≤ length x → IsBytes x → rest ≡ drop (p + 2) x
    → to_le_bytes w16 (number_at p 2 x) ++ rest ≡ drop p x
field_2 p x rest h k e = rw e (ap (λ (t : List ℕ). to_le_bytes w16 (number_at p 2 x) ++ t) (sym (drop-drop 2 p x))
    ∙ front_2 (drop p x) (omega (arith, length-drop p x)) (IsBytes-drop p x k))

pub field_4 : (p : ℕ) (x rest : List ℕ) → p + 4 ≤ length x → IsBytes x → rest ≡ drop (p + 4) x
    → to_le_bytes w32 (number_at p 4 x) ++ rest ≡ drop p x
field_4 p x rest h k e = rw e (ap (λ (t : List ℕ). to_le_bytes w32 (number_at p 4 x) ++ t) (sym (drop-drop 4 p x))
    ∙ front_4 (drop p x) (omega (arith, length-drop p x)) (IsBytes-drop p x k))

-- ---- the header

pub header-again : (h : Header) (rest : List ℕ) → IsHeader h → header_at (header_record h ++ rest) ≡ h
unfolding header_at
header-again h rest fits =
    rw (
      again_2 h.minor [] fits.minor,
      again_2 h.file_hdr_sz [] fits.file_hdr_sz.1,
      again_2 h.chunk_hdr_sz [] fits.chunk_hdr_sz.1,
      again_4 h.blk_sz [] fits.blk_sz.2,
      again_4 h.total_blks [] fits.total_blks,
      again_4 h.total_chunks [] fits.total_chunks,
      again_4 h.image_checksum [] fits.image_checksum,
    ) refl

guard_ok : {A : Type 0} (t : Bool) (d : SparseFault) (r : Result A SparseFault) (y : A) → cond t (Err d) r ≡ Ok y
    → (t ≡ false) × (r ≡ Ok y)
guard_ok true d r y e = absurd cc
guard_ok false d r y e = (refl, e)

pub not_false : (t : Bool) → not t ≡ false → t ≡ true
not_false true e = refl
not_false false e = absurd cc

pub checked-again : (h : Header) (rest : List ℕ) → IsHeader h → checked_header (header_record h ++ rest) ≡ Ok h
unfolding checked_header
checked-again h rest fits =
    let long : nat_lt h.file_hdr_sz 28 ≡ false = le-ltb _ _ fits.file_hdr_sz.0 in
    let chunk : nat_lt h.chunk_hdr_sz 12 ≡ false = le-ltb _ _ fits.chunk_hdr_sz.0 in
    let some : (h.blk_sz == 0) ≡ false = ne_eqb _ _ (λ e. omega (arith, e, fits.blk_sz.0)) in
    let four : (h.blk_sz % 4 == 0) ≡ true = eq-eqb _ _ fits.blk_sz.1 in
    rw (header-again h rest fits, long, chunk, some, four) refl

-- a header that passes
pub record Checked (x : List ℕ) (h : Header) : Type 0 where
  pub magic : number_at 0 4 x ≡ 0xED26FF3A
  pub major : number_at 4 2 x ≡ 1
  pub is : header_at x ≡ h
  pub file_hdr_sz : 28 ≤ h.file_hdr_sz
  pub chunk_hdr_sz : 12 ≤ h.chunk_hdr_sz
  pub some : 0 < h.blk_sz
  pub four : h.blk_sz % 4 ≡ 0

abbrev ok_of : {A : Type 0} → A → Result A SparseFault
ok_of x = Ok x

positive : (n : ℕ) → (n == 0) ≡ false → 0 < n
positive zero e = absurd cc
positive (suc n) e = omega arith

done : {A : Type 0} (x y : A) → ok_of x ≡ ok_of y → x ≡ y
done x y e = cc

pub Checked-from : (x : List ℕ) (h : Header) → checked_header x ≡ Ok h → Checked x h
unfolding checked_header
Checked-from x h e =
    let a = guard_ok (not (number_at 0 4 x == 0xED26FF3A)) Magic _ h e in
    let b = guard_ok (not (number_at 4 2 x == 1)) (Major (number_at 4 2 x)) _ h a.1 in
    let c = guard_ok (nat_lt (header_at x).file_hdr_sz 28) (FileHeaderSize (header_at x).file_hdr_sz) _ h b.1 in
    let d = guard_ok (nat_lt (header_at x).chunk_hdr_sz 12) (ChunkHeaderSize (header_at x).chunk_hdr_sz) _ h c.1 in
    let f = guard_ok ((header_at x).blk_sz == 0 || not ((header_at x).blk_sz % 4 == 0))
    (BlockSize (header_at x).blk_sz) _ h d.1 in
    let g = or_parts _ _ f.0 in
    let same : header_at x ≡ h = done (header_at x) h f.1 in
    record {
      magic = eqb-true _ _ (not_false _ a.0);
      major = eqb-true _ _ (not_false _ b.0);
      is = same;
      file_hdr_sz = rw (← same) (ltb-false _ _ c.0);
      chunk_hdr_sz = rw (← same) (ltb-false _ _ d.0);
      some = rw (← same) (positive (header_at x).blk_sz g.0);
      four = rw (← same) (eqb-true _ _ (not_false _ g.1));
    }

below_2 : (p : ℕ) (x : List ℕ) → IsBytes x → number_at p 2 x < 2 ^ 16
below_2 p x k = let d = IsBytes-drop p x k in omega (arith, d 0, d 1)

pub below_4 : (p : ℕ) (x : List ℕ) → IsBytes x → number_at p 4 x < 2 ^ 32
below_4 p x k = let d = IsBytes-drop p x k in omega (arith, d 0, d 1, d 2, d 3)

pub IsHeader-from : (x : List ℕ) (h : Header) → IsBytes x → Checked x h → IsHeader h
unfolding header_at
IsHeader-from x h k c = subst IsHeader c.is record {
  minor = below_2 6 x k;
  file_hdr_sz = (rw (← c.is) at c.file_hdr_sz, below_2 8 x k);
  chunk_hdr_sz = (rw (← c.is) at c.chunk_hdr_sz, below_2 10 x k);
  blk_sz = (rw (← c.is) at c.some, rw (← c.is) at c.four, below_4 12 x k);
  total_blks = below_4 16 x k;
  total_chunks = below_4 20 x k;
  image_checksum = below_4 24 x k;
}

-- what is read is encoded so
pub header-back : (x : List ℕ) (h : Header) → 28 ≤ length x → IsBytes x → Checked x h → header_record h ++ drop 28 x ≡ x
unfolding header_at
header-back x h long k c =
    let e24 = field_4 24 x (drop 28 x) (omega arith) k refl in
    let e20 = field_4 20 x _ (omega arith) k e24 in
    let e16 = field_4 16 x _ (omega arith) k e20 in
    let e12 = field_4 12 x _ (omega arith) k e16 in
    let e10 = field_2 10 x _ (omega arith) k e12 in
    let e8 = field_2 8 x _ (omega arith) k e10 in
    let e6 = field_2 6 x _ (omega arith) k e8 in
    let e4 = rw c.major at (field_2 4 x _ (omega arith) k e6) in
    let e0 = rw c.magic at (field_4 0 x _ (omega arith) k e4) in
    subst (λ (g : Header). header_record g ++ drop 28 x ≡ x) c.is e0

pub Checked-to : (x : List ℕ) (h : Header) → Checked x h → checked_header x ≡ Ok h
unfolding checked_header
Checked-to x h c =
    let magic : (number_at 0 4 x == 0xED26FF3A) ≡ true = eq-eqb _ _ c.magic in
    let major : (number_at 4 2 x == 1) ≡ true = eq-eqb _ _ c.major in
    let long : nat_lt h.file_hdr_sz 28 ≡ false = le-ltb _ _ c.file_hdr_sz in
    let chunk : nat_lt h.chunk_hdr_sz 12 ≡ false = le-ltb _ _ c.chunk_hdr_sz in
    let some : (h.blk_sz == 0) ≡ false = ne_eqb _ _ (λ e. omega (arith, e, c.some)) in
    let four : (h.blk_sz % 4 == 0) ≡ true = eq-eqb _ _ c.four in
    rw (magic, major, c.is, long, chunk, some, four) refl

-- the 28 bytes of a header and no more
pub record-back : (x : List ℕ) (h : Header) → length x ≡ 28 → IsBytes x → checked_header x ≡ Ok h → header_record h ≡ x
record-back x h n k e = sym (append-nil (header_record h))
    ∙ ap (λ (t : List ℕ). header_record h ++ t) (sym (drop_all 28 x (omega arith)))
    ∙ header-back x h (omega arith) k (Checked-from x h e)

pub record-again : (h : Header) → IsHeader h → checked_header (header_record h) ≡ Ok h
record-again h fits = checked-again h [] fits

pub fields_are : (x : List ℕ) (minor file chunk blk blks chunks sum : ℕ) → minor ≡ number_at 6 2 x
    → file ≡ number_at 8 2 x → chunk ≡ number_at 10 2 x → blk ≡ number_at 12 4 x
    → blks ≡ number_at 16 4 x → chunks ≡ number_at 20 4 x → sum ≡ number_at 24 4 x
    → header_at x ≡ record {
      minor = minor;
      file_hdr_sz = file;
      chunk_hdr_sz = chunk;
      blk_sz = blk;
      total_blks = blks;
      total_chunks = chunks;
      image_checksum = sum;
    }
unfolding header_at
fields_are x minor file chunk blk blks chunks sum e0 e1 e2 e3 e4 e5 e6 = rw (e0, e1, e2, e3, e4, e5, e6) refl
