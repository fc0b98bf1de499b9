-- An entry that is written is read, and what is read is encoded so.
use Rattle.std.proofs.Common.{◌≡◌, ℕ, zero, suc, ◌+◌, ◌*◌, ◌<◌, ◌≤◌, ◌^◌, List, [], ◌∷◌, ◌++◌, length, drop, get_or}
use Rattle.std.proofs.Common.{refl, sym, ap, ◌∙◌, append-nil, arith, length-append}
use Rattle.std.proofs.lemmas.List.{drop_all, drop-drop}
use Rattle.std.proofs.lemmas.List.Concat.{flat_map-cons}
use Rattle.std.specs.List.{flat_map}
use Rattle.std.specs.Prelude.{slice_index}
use Rattle.byteorder.specs.Endian.{little_bytes}
use Rattle.abt_headers.specs.declared.entry.RamdiskEntry.{RamdiskEntry}
use Rattle.abt_headers.specs.Field.{number_at, joined_fields}
use Rattle.abt_headers.specs.Entry.{words_at, words_fields, entry_fields, entry_record, entry_at, EntryFits}
use Rattle.abt_headers.proofs.Fields.{IsBytes, next, next_number, part_here, number_here, part_field, field, joined_to}
use Rattle.abt_headers.proofs.Fields.{joined_rest}

words_again : (ws : List ℕ) (p : ℕ) (x rest : List ℕ) → ((i : ℕ) → get_or ws i 0 < 2 ^ 32)
    → drop p x ≡ joined_to (words_fields ws) rest → words_at p (length ws) x ≡ ws
words_again [] p x rest h e = refl
words_again (w ∷ ws) p x rest h e =
    let f = number_here p 4 w x (joined_to (words_fields ws) rest) e (h 0) in
    let r = words_again ws (p + 4) x rest (λ i. h (suc i)) (next_number p 4 w x (joined_to (words_fields ws) rest) e) in
    rw (f, r) refl

words_back : (k p : ℕ) (x rest : List ℕ) → p + 4 * k ≤ length x → IsBytes x → rest ≡ drop (p + 4 * k) x
    → joined_to (words_fields (words_at p k x)) rest ≡ drop p x
words_back zero p x rest h k e = e ∙ ap (λ (n : ℕ). drop n x) (omega arith)
words_back (suc n) p x rest h k e =
    let same : p + 4 * suc n ≡ (p + 4) + 4 * n = omega arith in
    field p 4 x _ (omega arith) k (words_back n (p + 4) x rest (omega arith) k (e ∙ ap (λ (m : ℕ). drop m x) same))

pub entry_again : (e : RamdiskEntry) (x : List ℕ) → EntryFits e → x ≡ joined_to (entry_fields e) [] → entry_at x ≡ e
unfolding entry_at
entry_again e x fits e0 =
    let f0 = number_here 0 4 e.ramdisk_size x _ e0 fits.ramdisk_size in
    let e4 = next_number 0 4 e.ramdisk_size x _ e0 in
    let f4 = number_here 4 4 e.ramdisk_offset x _ e4 fits.ramdisk_offset in
    let e8 = next_number 4 4 e.ramdisk_offset x _ e4 in
    let f8 = number_here 8 4 e.ramdisk_type x _ e8 fits.ramdisk_type in
    let e12 = next_number 8 4 e.ramdisk_type x _ e8 in
    let f12 = part_here 12 32 x e.name _ e12 fits.name in
    let e44 = next 12 32 x e.name _ e12 fits.name in
    let f44 : words_at 44 16 x ≡ e.board_id = ap (λ (n : ℕ). words_at 44 n x) (sym fits.board_long)
    ∙ words_again e.board_id 44 x [] fits.board_id e44 in
    rw (f0, f4, f8, f12, f44) refl

pub entry_back : (x : List ℕ) → length x ≡ 108 → IsBytes x → entry_record (entry_at x) ≡ x
unfolding entry_at entry_record
entry_back x n k =
    let e44 = words_back 16 44 x [] (omega arith) k (sym (drop_all 108 x (omega arith))) in
    let e12 = part_field 12 32 x _ e44 in
    let e8 = field 8 4 x _ (omega arith) k e12 in
    let e4 = field 4 4 x _ (omega arith) k e8 in
    let e0 = field 0 4 x _ (omega arith) k e4 in
    sym (append-nil (joined_fields (entry_fields (entry_at x)))) ∙ joined_rest (entry_fields (entry_at x)) [] ∙ e0

pub record_again : (e : RamdiskEntry) → EntryFits e → entry_at (entry_record e) ≡ e
unfolding entry_record
record_again e fits =
    entry_again e (joined_fields (entry_fields e)) fits (sym (append-nil (joined_fields (entry_fields e)))
    ∙ joined_rest (entry_fields e) [])

-- numbers that are stored one after another are the words there
pub words_read : (ws : List ℕ) (p : ℕ) (x : List ℕ)
    → ((k : ℕ) → k < length ws → slice_index ws k ≡ number_at (4 * k) 4 (drop p x)) → ws ≡ words_at p (length ws) x
words_read [] p x h = refl
words_read (w ∷ ws) p x h =
    let here : w ≡ number_at p 4 x = h 0 (omega arith) in
    let step : (k : ℕ) → drop (4 * suc k) (drop p x) ≡ drop (4 * k) (drop (p + 4) x) = λ k. drop-drop (4 * suc k) p x
    ∙ ap (λ (n : ℕ). drop n x) (omega arith) ∙ sym (drop-drop (4 * k) (p + 4) x) in
    let rest = words_read ws (p + 4) x (λ k lt. h (suc k) (omega arith)
    ∙ ap (λ (l : List ℕ). number_at 0 4 l) (step k)) in
    ap (λ (v : ℕ). v ∷ ws) here ∙ ap (λ (l : List ℕ). number_at p 4 x ∷ l) rest

pub words_flat : (ws : List ℕ) → flat_map (little_bytes 4) ws ≡ joined_fields (words_fields ws)
words_flat [] = refl
words_flat (w ∷ ws) = flat_map-cons (little_bytes 4) w ws ∙ ap (λ (l : List ℕ). little_bytes 4 w ++ l) (words_flat ws)

words_length : (ws : List ℕ) → length (joined_fields (words_fields ws)) ≡ 4 * length ws
words_length [] = omega arith
words_length (w ∷ ws) = length-append (little_bytes 4 w) (joined_fields (words_fields ws))
    ∙ rw (words_length ws) (omega arith)

pub record_length : (e : RamdiskEntry) → EntryFits e → length (entry_record e) ≡ 108
unfolding entry_record
record_length e fits =
    let n : length e.name ≡ 32 = fits.name in
    let w : length (joined_fields (words_fields e.board_id)) ≡ 64 = words_length e.board_id
    ∙ ap (λ (k : ℕ). 4 * k) fits.board_long in
    simp length-append (omega arith)
