-- A cause that is handed on: counts of faults never fall.
use Rattle.std.proofs.Common.{◌≡◌, ℕ, ◌≤◌, ◌<◌, ◌+◌, List, length, get_or, set, arith, sym, subst}
use Rattle.std.proofs.Common.{Option, None, Result, Ok, Err}
use Rattle.std.specs.Prelude.{OnOk, OnErr, IfErr}
use Rattle.std.proofs.lemmas.List.Sums.{sum_by-set}
use Rattle.abt_sections.specs.declared.fault.SectionFault.{SectionFault}
use Rattle.abt_sections.specs.declared.fault.SectionFault.TheVariants.{Read, Write, SourceChanged}
use Rattle.abt_sections.specs.Cause.{MoveCause, ReadCause, OpenCause, PackCause, total}
use Rattle.abt_sections.specs.Open.{EntryRefusedAs}
use Rattle.abt_sections.specs.Header.{Header as OfHeader}

pub move_on : (e : SectionFault) (r0 r r' r1 w0 w w' w1 : ℕ) (C D : Type 0) → r0 ≤ r → r' ≤ r1 → w0 ≤ w → w' ≤ w1
    → (C → D) → MoveCause e r r' w w' C → MoveCause e r0 r1 w0 w1 D
move_on (Read f) r0 r r' r1 w0 w w' w1 C D a b c d h x = omega arith
move_on (Write f) r0 r r' r1 w0 w w' w1 C D a b c d h x = omega arith
move_on SourceChanged r0 r r' r1 w0 w w' w1 C D a b c d h x = h x
move_on e r0 r r' r1 w0 w w' w1 C D a b c d h x = absurd x

pub read_on : (e : SectionFault) (r0 r r' r1 : ℕ) (C D : Type 0) → r0 ≤ r → r' ≤ r1 → (C → D) → ReadCause e r r' C
    → ReadCause e r0 r1 D
read_on e r0 r r' r1 C D a b h x = let z : 0 ≤ 0 = omega arith in move_on e r0 r r' r1 0 0 0 0 C D a b z z h x

-- one of several that were borrowed in turn, at index i
pub part_move : {S : Type 0} (f : S → ℕ) (ps : List S) (i t w0 w w' w1 : ℕ) (d s' : S) (e : SectionFault)
    (C D : Type 0) → i < length ps → t ≤ total f ps → w0 ≤ w → w' ≤ w1 → (C → D)
    → MoveCause e (f (get_or ps i d)) (f s') w w' C → MoveCause e t (total f (set ps i s')) w0 w1 D
part_move f ps i t w0 w w' w1 d s' (Read k) C D a b l m h x = omega (arith, sum_by-set f ps i s' d a)
part_move f ps i t w0 w w' w1 d s' (Write k) C D a b l m h x = omega arith
part_move f ps i t w0 w w' w1 d s' SourceChanged C D a b l m h x = h x
part_move f ps i t w0 w w' w1 d s' e C D a b l m h x = absurd x

-- of opening
pub read_opens : (e : SectionFault) (r0 r r' r1 : ℕ) (C D : Type 0) → r0 ≤ r → r' ≤ r1 → (C → D) → ReadCause e r r' C
    → OpenCause e r0 r1 D
read_opens (Read f) r0 r r' r1 C D a b h x = omega arith
read_opens (Write f) r0 r r' r1 C D a b h x = absurd (omega arith)
read_opens SourceChanged r0 r r' r1 C D a b h x = h x
read_opens e r0 r r' r1 C D a b h x = absurd x

-- where the source can't have changed, reading the table is refused for a failure alone
pub read_entries : (e : SectionFault) (r r' : ℕ) (C : Type 0) (x : List ℕ) (h : OfHeader) → (C → ⊥)
    → ReadCause e r r' C → EntryRefusedAs x h e
read_entries (Read f) r r' C x h never c = tt
read_entries (Write f) r r' C x h never c = absurd (omega arith)
read_entries SourceChanged r r' C x h never c = absurd (never c)
read_entries e r r' C x h never c = absurd c

-- one of three sources failed, the others' counts not falling
pub third_move : (e : SectionFault) (a a' b b' r r' w0 w w' w1 : ℕ) (C D : Type 0) → a ≤ a' → b ≤ b' → w0 ≤ w
    → w' ≤ w1 → (C → D) → MoveCause e r r' w w' C → MoveCause e (a + b + r) (a' + b' + r') w0 w1 D
third_move (Read f) a a' b b' r r' w0 w w' w1 C D p q l m h x = omega arith
third_move (Write f) a a' b b' r r' w0 w w' w1 C D p q l m h x = omega arith
third_move SourceChanged a a' b b' r r' w0 w w' w1 C D p q l m h x = h x
third_move e a a' b b' r r' w0 w w' w1 C D p q l m h x = absurd x

-- where nothing is refused before
pub pack_moves : (o : Option SectionFault) (e : SectionFault) (r r' w w' : ℕ) (C : Type 0) → o ≡ None
    → MoveCause e r r' w w' C → PackCause o e r r' w w' C
pack_moves o e r r' w w' C none x = subst (λ (p : Option SectionFault). PackCause p e r r' w w' C) (sym none) x

-- what holds anyway
pub on_ok : {X E : Type 0} {P : Type 0} (r : Result X E) → P → OnOk r P
on_ok (Ok x) p = p
on_ok (Err e) p = tt

pub on_ok_then : {X E : Type 0} {P Q : Type 0} (r : Result X E) → (P → Q) → OnOk r P → OnOk r Q
on_ok_then (Ok x) h p = h p
on_ok_then (Err e) h p = tt

pub on_err : {X E : Type 0} {P : Type 0} (r : Result X E) → P → OnErr r P
on_err (Ok x) p = tt
on_err (Err e) p = p

pub if_err_then : {X E : Type 0} {P Q : E → Type 0} (r : Result X E) → ((e : E) → P e → Q e) → IfErr r P → IfErr r Q
if_err_then (Ok x) h p = tt
if_err_then (Err e) h p = h e p
