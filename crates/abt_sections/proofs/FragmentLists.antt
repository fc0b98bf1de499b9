-- The fragments that lie end to end, from the table and back.
use Rattle.std.proofs.Common.{◌≡◌, ℕ, zero, suc, ◌+◌, ◌*◌, ◌≤◌, ◌<◌, ◌^◌, List, [], ◌∷◌, ◌++◌, length, take, drop, map}
use Rattle.std.proofs.Common.{get_or, refl, sym, ap, ◌∙◌, append_assoc, arith, lit<, length-append, drop-drop}
use Rattle.std.specs.List.{All, concat}
use Rattle.std.proofs.lemmas.List.{take_at, drop_at, take_more, length-map, get_or_default}
use Rattle.std.proofs.lemmas.List.Elements.{All-nil, All-cons, All-head, All-tail}
use Rattle.abt_io.proofs.Parts.{take_plus}
use Rattle.abt_io.specs.BytesLaws.{bytes_of_take, bytes_of_drop}
use Rattle.abt_headers.specs.declared.entry.RamdiskEntry.{RamdiskEntry}
use Rattle.abt_headers.specs.Entry.{words_at, entry_at, entry_record, EntryFits}
use Rattle.abt_headers.proofs.Fields.{IsBytes}
use Rattle.abt_headers.proofs.EntryLaws as entry
use Rattle.abt_sections.specs.declared.spec.FragmentSpec.{FragmentSpec}
use Rattle.abt_sections.specs.VendorCanon.{entry_for, table_for}
use Rattle.abt_sections.specs.Header.{Header, entry_of, fragment_of, ramdisk_at, table_at}
use Rattle.abt_sections.specs.Check.{sizes_before}
use Rattle.abt_sections.specs.Canonical.{FragmentFits}
use Rattle.abt_sections.proofs.Decoding.{number_small, part_long}
use Rattle.abt_sections.proofs.Digests.{there_length}
use Rattle.abt_sections.proofs.VendorTables.{before}
use Rattle.abt_sections.proofs.Layouts.{concat_at}
use Rattle.abt_sections.proofs.Parts.{get_map}

-- ---- an entry that is read has fields that fit

words_long : (p k : ℕ) (x : List ℕ) → length (words_at p k x) ≡ k
words_long p zero x = refl
words_long p (suc k) x = let r = words_long (p + 4) k x in omega (arith, r)

words_small : (p k : ℕ) (x : List ℕ) → IsBytes x → (i : ℕ) → get_or (words_at p k x) i 0 < 2 ^ 32
words_small p zero x h zero = lit< tt
words_small p zero x h (suc i) = lit< tt
words_small p (suc k) x h zero = number_small p 4 x h
words_small p (suc k) x h (suc i) = words_small (p + 4) k x h i

entry_fits : (y : List ℕ) → length y ≡ 108 → IsBytes y → EntryFits (entry_at y)
unfolding entry_at
entry_fits y n k = record {
  ramdisk_size = number_small 0 4 y k;
  ramdisk_offset = number_small 4 4 y k;
  ramdisk_type = number_small 8 4 y k;
  name = part_long 12 32 y (omega (arith, n));
  board_long = words_long 44 16 y;
  board_id = words_small 44 16 y k;
}

-- ---- from the table to the fragments

abbrev frag_of : RamdiskEntry → FragmentSpec
frag_of e = record { kind = e.ramdisk_type; name = e.name; board_id = e.board_id }

frag_same : (e : RamdiskEntry) (n o : ℕ) → n ≡ e.ramdisk_size → o ≡ e.ramdisk_offset → entry_for (frag_of e) n o ≡ e
frag_same e n o a b = rw (a, b) refl

-- n fragments from the i-th on: what the table says of each, and its bytes
abbrev pub specs_from : List ℕ → Header → ℕ → ℕ → List FragmentSpec
specs_from x h i zero = []
specs_from x h i (suc n) = frag_of (entry_of x h i) ∷ specs_from x h (suc i) n

abbrev pub rams_from : List ℕ → Header → ℕ → ℕ → List (List ℕ)
rams_from x h i zero = []
rams_from x h i (suc n) = fragment_of x h i ∷ rams_from x h (suc i) n

abbrev pub sizes_from : List ℕ → Header → ℕ → ℕ → ℕ
sizes_from x h i zero = 0
sizes_from x h i (suc n) = (entry_of x h i).ramdisk_size + sizes_from x h (suc i) n

pub specs_long : (x : List ℕ) (h : Header) (i n : ℕ) → length (specs_from x h i n) ≡ n
specs_long x h i zero = refl
specs_long x h i (suc n) = let r = specs_long x h (suc i) n in omega (arith, r)

pub rams_long : (x : List ℕ) (h : Header) (i n : ℕ) → length (rams_from x h i n) ≡ n
rams_long x h i zero = refl
rams_long x h i (suc n) = let r = rams_long x h (suc i) n in omega (arith, r)

pub before_sum : (x : List ℕ) (h : Header) (i n : ℕ)
    → sizes_before x h (i + n) ≡ sizes_before x h i + sizes_from x h i n
before_sum x h i zero =
    let e : i + 0 ≡ i = omega arith in
    let z : sizes_before x h i ≡ sizes_before x h i + 0 = omega arith in
    ap (λ (j : ℕ). sizes_before x h j) e ∙ z
before_sum x h i (suc n) =
    let e : i + suc n ≡ suc i + n = omega arith in
    let r = before_sum x h (suc i) n in
    let z : sizes_before x h i + (entry_of x h i).ramdisk_size + sizes_from x h (suc i) n ≡ sizes_before x h i +
    ((entry_of x h i).ramdisk_size + sizes_from x h (suc i) n) = omega arith in
    ap (λ (j : ℕ). sizes_before x h j) e ∙ r ∙ z

-- what is known of fragment j
pub record Lies (x : List ℕ) (h : Header) (j : ℕ) : Type 0 where
  pub placed : (entry_of x h j).ramdisk_offset ≡ sizes_before x h j
  pub long : length (fragment_of x h j) ≡ (entry_of x h j).ramdisk_size
  pub there : table_at h + 108 * j + 108 ≤ length x

module _ (x : List ℕ) (h : Header) (c : ℕ) (lies : (j : ℕ) → j < c → Lies x h j) where
  concat_from : (i n : ℕ) → i + n ≤ c
      → concat (rams_from x h i n) ≡ take (sizes_from x h i n) (drop (ramdisk_at h + sizes_before x h i) x)
  concat_from i zero l = refl
  concat_from i (suc n) l =
      let e = entry_of x h i in
      let at = ramdisk_at h + sizes_before x h i in
      let size = e.ramdisk_size in
      let here : fragment_of x h i ≡ take size (drop at x) =
      ap (λ (o : ℕ). take size (drop (ramdisk_at h + o) x)) (lies i (omega arith)).placed in
      let more : suc i + n ≤ c = omega arith in
      let next : ramdisk_at h + (sizes_before x h i + size) ≡ at + size = omega arith in
      ap (λ (l : List ℕ). l ++ concat (rams_from x h (suc i) n)) here
      ∙ ap (λ (l : List ℕ). take size (drop at x) ++ l) (concat_from (suc i) n more
      ∙ ap (λ (j : ℕ). take (sizes_from x h (suc i) n) (drop j x)) next
      ∙ ap (take (sizes_from x h (suc i) n)) (sym (drop-drop size at x)))
      ∙ take_plus size (sizes_from x h (suc i) n) (drop at x)

  pub concat_all : concat (rams_from x h 0 c) ≡ take (sizes_before x h c) (drop (ramdisk_at h) x)
  concat_all =
      let within : 0 + c ≤ c = omega arith in
      let z : 0 + c ≡ c = omega arith in
      let sum : sizes_from x h 0 c ≡ sizes_before x h c =
      (let b = before_sum x h 0 c in let s : sizes_from x h 0 c ≡ 0 + sizes_from x h 0 c = omega arith in
      s ∙ sym b ∙ ap (λ (j : ℕ). sizes_before x h j) z) in
      let at : ramdisk_at h + 0 ≡ ramdisk_at h = omega arith in
      concat_from 0 c within ∙ ap (λ (n : ℕ). take n (drop (ramdisk_at h + 0) x)) sum
      ∙ ap (λ (j : ℕ). take (sizes_before x h c) (drop j x)) at

  module _ (k : IsBytes x) where
    entry_long : (i : ℕ) → i < c → length (take 108 (drop (table_at h + 108 * i) x)) ≡ 108
    entry_long i l = there_length x (table_at h + 108 * i) 108 (λ _. (lies i l).there)

    entry_bytes : (i : ℕ) → IsBytes (take 108 (drop (table_at h + 108 * i) x))
    entry_bytes i = bytes_of_take 108 (drop (table_at h + 108 * i) x) (bytes_of_drop (table_at h + 108 * i) x k)

    pub specs_fit : (i n : ℕ) → i + n ≤ c → All FragmentFits (specs_from x h i n)
    specs_fit i zero l = All-nil FragmentFits
    specs_fit i (suc n) l =
        let f = entry_fits (take 108 (drop (table_at h + 108 * i) x)) (entry_long i (omega arith)) (entry_bytes i) in
        All-cons FragmentFits (frag_of (entry_of x h i)) (specs_from x h (suc i) n)
        (record { kind = f.ramdisk_type; name = f.name; board_long = f.board_long; board_id = f.board_id })
        (specs_fit (suc i) n (omega arith))

    table_from : (i n : ℕ) → i + n ≤ c
        → table_for (specs_from x h i n) (map (λ (l : List ℕ). length l) (rams_from x h i n)) (sizes_before x h i)
        ≡ take (108 * n) (drop (table_at h + 108 * i) x)
    table_from i zero l = refl
    table_from i (suc n) l =
        let e = entry_of x h i in
        let at = table_at h + 108 * i in
        let lie = lies i (omega arith) in
        let rest = table_for (specs_from x h (suc i) n) (map (λ (l : List ℕ). length l) (rams_from x h (suc i) n)) in
        let here : entry_record (entry_for (frag_of e) (length (fragment_of x h i)) (sizes_before x h i)) ≡ take 108
        (drop at x) =
        ap entry_record (frag_same e _ _ lie.long (sym lie.placed))
        ∙ entry.entry_back (take 108 (drop at x)) (entry_long i (omega arith)) (entry_bytes i) in
        let next : table_at h + 108 * suc i ≡ at + 108 = omega arith in
        let count : 108 + 108 * n ≡ 108 * suc n = omega arith in
        ap (λ (l : List ℕ). l ++ rest (sizes_before x h i + length (fragment_of x h i))) here
        ∙ ap (λ (o : ℕ). take 108 (drop at x) ++ rest (sizes_before x h i + o)) lie.long
        ∙ ap (λ (l : List ℕ). take 108 (drop at x) ++ l) (table_from (suc i) n (omega arith)
        ∙ ap (λ (j : ℕ). take (108 * n) (drop j x)) next ∙ ap (take (108 * n)) (sym (drop-drop 108 at x)))
        ∙ take_plus 108 (108 * n) (drop at x)
        ∙ ap (λ (m : ℕ). take m (drop at x)) count

    pub table_all : table_for (specs_from x h 0 c) (map (λ (l : List ℕ). length l) (rams_from x h 0 c)) 0 ≡ take
        (108 * c) (drop (table_at h) x)
    table_all =
        let within : 0 + c ≤ c = omega arith in
        let at : table_at h + 108 * 0 ≡ table_at h = omega arith in
        table_from 0 c within ∙ ap (λ (j : ℕ). take (108 * c) (drop j x)) at

-- ---- and back

-- an entry of the canonical table
for_fits : (f : FragmentSpec) (n o : ℕ) → FragmentFits f → n ≤ 4294967295 → o ≤ 4294967295 → EntryFits (entry_for f n o)
for_fits f n o fits a b = record {
  ramdisk_size = omega (arith, a);
  ramdisk_offset = omega (arith, b);
  ramdisk_type = fits.kind;
  name = fits.name;
  board_long = fits.board_long;
  board_id = fits.board_id;
}

pub table_long : (fs : List FragmentSpec) (rs : List (List ℕ)) (o : ℕ) → length fs ≡ length rs → All FragmentFits fs
    → o + length (concat rs) ≤ 4294967295
    → length (table_for fs (map (λ (l : List ℕ). length l) rs) o) ≡ 108 * length fs
table_long [] rs o l fits b = refl
table_long (f ∷ fs) [] o l fits b = absurd (omega arith)
table_long (f ∷ fs) (r ∷ rs) o l fits b =
    let whole = length-append r (concat rs) in
    let e = for_fits f (length r) o (All-head FragmentFits f fs fits) (omega (arith, b, whole)) (omega (arith, b)) in
    let rest = table_long fs rs (o + length r) (omega arith) (All-tail FragmentFits f fs fits)
    (omega (arith, b, whole)) in
    length-append (entry_record (entry_for f (length r) o)) (table_for fs (map (λ (l : List ℕ). length l) rs)
    (o + length r)) ∙ omega (arith, entry.record_length _ e, rest)

-- entry i of the canonical table, of fragments of these sizes of which the first is at this offset
entry_whole : (fs : List FragmentSpec) (rs : List (List ℕ)) (o j : ℕ) (x rest : List ℕ) → length fs ≡ length rs
    → All FragmentFits fs → o + length (concat rs) ≤ 4294967295
    → drop j x ≡ table_for fs (map (λ (l : List ℕ). length l) rs) o ++ rest → (i : ℕ) (s : FragmentSpec)
    → i < length fs → s ≡ get_or fs i s
    → entry_at (take 108 (drop (j + 108 * i) x)) ≡ entry_for s (get_or (map (λ (l : List ℕ). length l) rs) i 0)
    (before (map (λ (l : List ℕ). length l) rs) o i)
entry_whole [] rs o j x rest l fits b e i s lt is = absurd (omega arith)
entry_whole (f ∷ fs) [] o j x rest l fits b e i s lt is = absurd (omega arith)
entry_whole (f ∷ fs) (r ∷ rs) o j x rest l fits b e zero s lt is =
    let whole = length-append r (concat rs) in
    let g = entry_for f (length r) o in
    let k = for_fits f (length r) o (All-head FragmentFits f fs fits) (omega (arith, b, whole)) (omega (arith, b)) in
    let at : j + 108 * 0 ≡ j = omega arith in
    let more = table_for fs (map (λ (l : List ℕ). length l) rs) (o + length r) in
    ap (λ (n : ℕ). entry_at (take 108 (drop n x))) at
    ∙ ap (λ (l : List ℕ). entry_at (take 108 l)) (e ∙ append_assoc (entry_record g) more rest)
    ∙ ap entry_at (take_at (entry_record g) (more ++ rest) 108 (entry.record_length g k))
    ∙ entry.record_again g k
    ∙ ap (λ (q : FragmentSpec). entry_for q (length r) o) (sym is)
entry_whole (f ∷ fs) (r ∷ rs) o j x rest l fits b e (suc i) s lt is =
    let whole = length-append r (concat rs) in
    let g = entry_for f (length r) o in
    let k = for_fits f (length r) o (All-head FragmentFits f fs fits) (omega (arith, b, whole)) (omega (arith, b)) in
    let more = table_for fs (map (λ (l : List ℕ). length l) rs) (o + length r) in
    let next : drop (j + 108) x ≡ more ++ rest =
    sym (drop-drop 108 j x) ∙ ap (drop 108) (e ∙ append_assoc (entry_record g) more rest)
    ∙ drop_at (entry_record g) (more ++ rest) 108 (entry.record_length g k) in
    let at : j + 108 * suc i ≡ j + 108 + 108 * i = omega arith in
    ap (λ (n : ℕ). entry_at (take 108 (drop n x))) at
    ∙ entry_whole fs rs (o + length r) (j + 108) x rest (omega arith) (All-tail FragmentFits f fs fits)
    (omega (arith, b, whole)) next i s (omega arith) is

entry_read : (fs : List FragmentSpec) (rs : List (List ℕ)) (o j : ℕ) (x rest : List ℕ) → length fs ≡ length rs
    → All FragmentFits fs → o + length (concat rs) ≤ 4294967295
    → drop j x ≡ table_for fs (map (λ (l : List ℕ). length l) rs) o ++ rest → (i : ℕ) → i < length fs
    → ((entry_at (take 108 (drop (j + 108 * i) x))).ramdisk_offset ≡ before (map (λ (l : List ℕ). length l) rs) o i)
    × ((entry_at (take 108 (drop (j + 108 * i) x))).ramdisk_size ≡ get_or (map (λ (l : List ℕ). length l) rs) i 0)
entry_read fs rs o j x rest l fits b e i lt =
    let d = frag_of (entry_at x) in
    let s = get_or fs i d in
    let is = entry_whole fs rs o j x rest l fits b e i s lt (get_or_default fs i d s lt) in
    (ap (λ (q : RamdiskEntry). q.ramdisk_offset) is, ap (λ (q : RamdiskEntry). q.ramdisk_size) is)

-- how many bytes the ramdisks before one have
before_taken : (rs : List (List ℕ)) (o i : ℕ) → i ≤ length rs
    → before (map (λ (l : List ℕ). length l) rs) o i ≡ o + length (concat (take i rs))
before_taken rs o zero h = omega arith
before_taken [] o (suc i) h = absurd (omega arith)
before_taken (r ∷ rs) o (suc i) h =
    let e = before_taken rs (o + length r) i (omega arith) in
    let w = length-append r (concat (take i rs)) in
    e ∙ omega (arith, w)

-- one of the ramdisks that lie end to end
ramdisk_taken : (rs : List (List ℕ)) (x past : List ℕ) (at i : ℕ) → drop at x ≡ concat rs ++ past → i < length rs
    → take (length (get_or rs i [])) (drop (at + length (concat (take i rs))) x) ≡ get_or rs i []
ramdisk_taken rs x past at i e lt =
    let b = get_or rs i [] in
    let front = concat (take i rs) in
    let rest = concat (drop (i + 1) rs) in
    let whole : concat rs ++ past ≡ front ++ (b ++ (rest ++ past)) =
    ap (λ (l : List ℕ). l ++ past) (sym (concat_at rs b i (take_more rs i [] lt)))
    ∙ append_assoc (front ++ b) rest past ∙ append_assoc front b (rest ++ past) in
    let here : drop (at + length front) x ≡ b ++ (rest ++ past) = sym (drop-drop (length front) at x)
    ∙ ap (drop (length front)) (e ∙ whole) ∙ drop_at front (b ++ (rest ++ past)) (length front) refl in
    ap (take (length b)) here ∙ take_at b (rest ++ past) (length b) refl

before_more : (ns : List ℕ) (o i : ℕ) → i < length ns → before ns o (suc i) ≡ before ns o i + get_or ns i 0
before_more [] o i h = absurd (omega arith)
before_more (n ∷ ns) o zero h = refl
before_more (n ∷ ns) o (suc i) h = before_more ns (o + n) i (omega arith)

before_all : (rs : List (List ℕ)) (o : ℕ) → before (map (λ (l : List ℕ). length l) rs) o (length rs) ≡ o + length
    (concat rs)
before_all [] o = omega arith
before_all (r ∷ rs) o = let e = before_all rs (o + length r) in let w = length-append r (concat rs) in
    e ∙ omega (arith, w)

module _ (x : List ℕ) (h : Header) (fs : List FragmentSpec) (rs : List (List ℕ)) (rest : List ℕ)
    (l : length fs ≡ length rs) (fits : All FragmentFits fs) (b : length (concat rs) ≤ 4294967295)
    (e : drop (table_at h) x ≡ table_for fs (map (λ (l : List ℕ). length l) rs) 0 ++ rest) where
  read : (i : ℕ) → i < length fs → ((entry_of x h i).ramdisk_offset ≡ before (map (λ (l : List ℕ). length l) rs) 0 i)
      × ((entry_of x h i).ramdisk_size ≡ get_or (map (λ (l : List ℕ). length l) rs) i 0)
  read i lt = entry_read fs rs 0 (table_at h) x rest l fits (omega (arith, b)) e i lt

  sums : (i : ℕ) → i ≤ length fs → sizes_before x h i ≡ before (map (λ (l : List ℕ). length l) rs) 0 i
  sums zero lt = refl
  sums (suc i) lt =
      let r = sums i (omega arith) in
      let s = (read i (omega arith)).1 in
      let long : length (map (λ (l : List ℕ). length l) rs) ≡ length rs = length-map rs (λ (l : List ℕ). length l) in
      let m = before_more (map (λ (l : List ℕ). length l) rs) 0 i (omega (arith, long, l)) in
      ap (λ (n : ℕ). n + (entry_of x h i).ramdisk_size) r
      ∙ ap (λ (n : ℕ). before (map (λ (l : List ℕ). length l) rs) 0 i + n) s ∙ sym m

  pub end_to_end : (i : ℕ) → i < length fs → (entry_of x h i).ramdisk_offset ≡ sizes_before x h i
  end_to_end i lt = (read i lt).0 ∙ sym (sums i (omega arith))

  pub all_full : sizes_before x h (length fs) ≡ length (concat rs)
  all_full =
      let z : 0 + length (concat rs) ≡ length (concat rs) = omega arith in
      let within : length fs ≤ length fs = omega arith in
      sums (length fs) within ∙ ap (before (map (λ (l : List ℕ). length l) rs) 0) l ∙ before_all rs 0 ∙ z

  pub entry_held : (i : ℕ) (s : FragmentSpec) → i < length fs → s ≡ get_or fs i s
      → entry_of x h i ≡ entry_for s (length (get_or rs i [])) (length (concat (take i rs)))
  entry_held i s lt is =
      let ns = map (λ (l : List ℕ). length l) rs in
      let within : i ≤ length rs = omega (arith, l, lt) in
      let place : before ns 0 i ≡ length (concat (take i rs)) =
      (let z : 0 + length (concat (take i rs)) ≡ length (concat (take i rs)) = omega arith in
      before_taken rs 0 i within ∙ z) in
      let size : get_or ns i 0 ≡ length (get_or rs i []) = get_map (λ (l : List ℕ). length l) rs i [] in
      entry_whole fs rs 0 (table_at h) x rest l fits (omega (arith, b)) e i s lt is
      ∙ ap (λ (n : ℕ). entry_for s n (before ns 0 i)) size
      ∙ ap (λ (n : ℕ). entry_for s (length (get_or rs i [])) n) place

  pub fragment_is : (past : List ℕ) → drop (ramdisk_at h) x ≡ concat rs ++ past → (i : ℕ) → i < length rs
      → fragment_of x h i ≡ get_or rs i []
  fragment_is past from i lt =
      let d = frag_of (entry_at x) in
      let s = get_or fs i d in
      let k : i < length fs = omega (arith, l, lt) in
      let is = entry_held i s k (get_or_default fs i d s k) in
      ap (λ (q : RamdiskEntry). take q.ramdisk_size (drop (ramdisk_at h + q.ramdisk_offset) x)) is
      ∙ ramdisk_taken rs x past (ramdisk_at h) i from lt
