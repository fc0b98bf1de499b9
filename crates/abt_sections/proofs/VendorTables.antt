-- The table of ramdisk fragments, entry after entry.
use Rattle.std.proofs.Common.{◌≡◌, ℕ, zero, suc, ◌+◌, ◌<◌, List, [], ◌∷◌, ◌++◌, length, take, get_or, refl, sym, ap}
use Rattle.std.proofs.Common.{◌∙◌, append_assoc, append-nil, arith, map}
use Rattle.std.proofs.lemmas.List.{length-map}
use Rattle.std.proofs.lemmas.List.Sums.{sum_by-cons}
use Rattle.abt_sections.specs.Cause.{total}
use Rattle.abt_headers.specs.Entry.{entry_record}
use Rattle.abt_sections.specs.declared.spec.FragmentSpec.{FragmentSpec}
use Rattle.abt_sections.specs.VendorCanon.{entry_for, table_for}

-- what the first i entries take of the vendor ramdisk
abbrev pub before : List ℕ → ℕ → ℕ → ℕ
before ns offset zero = offset
before [] offset (suc i) = offset
before (n ∷ ns) offset (suc i) = before ns (offset + n) i

next : (fs : List FragmentSpec) (ns : List ℕ) (offset i : ℕ) (f : FragmentSpec) (n : ℕ) → i < length fs
    → i < length ns → get_or fs i f ≡ f → get_or ns i n ≡ n
    → table_for (take (suc i) fs) (take (suc i) ns) offset ≡ table_for (take i fs) (take i ns) offset
    ++ entry_record (entry_for f n (before ns offset i))
next [] ns offset i f n h k a b = absurd (omega arith)
next (g ∷ fs) [] offset i f n h k a b = absurd (omega arith)
next (g ∷ fs) (m ∷ ns) offset zero f n h k a b =
    ap (λ (e : FragmentSpec). entry_record (entry_for e m offset) ++ []) a
    ∙ ap (λ (q : ℕ). entry_record (entry_for f q offset) ++ []) b
    ∙ append-nil (entry_record (entry_for f n offset))
next (g ∷ fs) (m ∷ ns) offset (suc i) f n h k a b =
    let rest = next fs ns (offset + m) i f n (omega arith) (omega arith) a b in
    let e = entry_record (entry_for g m offset) in
    ap (λ (l : List ℕ). e ++ l) rest
    ∙ sym (append_assoc e (table_for (take i fs) (take i ns) (offset + m))
    (entry_record (entry_for f n (before ns (offset + m) i))))

pub before_is : {S : Type 0} (f : S → ℕ) (ps : List S) (offset i : ℕ)
    → before (map f ps) offset i ≡ offset + total f (take i ps)
before_is f ps offset zero = omega arith
before_is f [] offset (suc i) = omega arith
before_is f (p ∷ ps) offset (suc i) = let r = before_is f ps (offset + f p) i in
    omega (arith, r, sum_by-cons f p (take i ps))

-- one entry more, of a fragment of n bytes at its offset
pub table_next : {S : Type 0} (f : S → ℕ) (fs : List FragmentSpec) (ps : List S) (i : ℕ) (s : FragmentSpec)
    (n offset : ℕ) → i < length fs → i < length ps → get_or fs i s ≡ s → get_or (map f ps) i n ≡ n
    → offset ≡ total f (take i ps)
    → table_for (take i fs) (take i (map f ps)) 0 ++ entry_record (entry_for s n offset) ≡ table_for (take (i + 1) fs)
    (take (i + 1) (map f ps)) 0
table_next f fs ps i s n offset h k a b is =
    let at : offset ≡ before (map f ps) 0 i = omega (arith, is, before_is f ps 0 i) in
    let t = table_for (take i fs) (take i (map f ps)) 0 in
    ap (λ (q : ℕ). t ++ entry_record (entry_for s n q)) at
    ∙ sym (next fs (map f ps) 0 i s n h (omega (arith, length-map ps f)) a b)
    ∙ (let one : suc i ≡ i + 1 = omega arith in ap (λ (k : ℕ). table_for (take k fs) (take k (map f ps)) 0) one)

-- all entries are the first i, and the rest
pub table_front : (fs : List FragmentSpec) (ns : List ℕ) (offset i : ℕ) → (rest : List ℕ)
    × (table_for (take i fs) (take i ns) offset ++ rest ≡ table_for fs ns offset)
table_front fs ns offset zero = (table_for fs ns offset, refl)
table_front [] ns offset (suc i) = ([], refl)
table_front (g ∷ fs) [] offset (suc i) = ([], refl)
table_front (g ∷ fs) (m ∷ ns) offset (suc i) =
    let r = table_front fs ns (offset + m) i in
    let e = entry_record (entry_for g m offset) in
    (r.0, append_assoc e (table_for (take i fs) (take i ns) (offset + m)) r.0 ∙ ap (λ (l : List ℕ). e ++ l) r.1)
