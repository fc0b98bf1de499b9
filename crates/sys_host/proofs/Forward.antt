-- Bytes that are read forward, where they are known.
use Rattle.std.proofs.Common.{◌≡◌, ℕ, ◌+◌, List, [], ◌∷◌, ◌++◌, length, take, drop, sym, ◌∙◌, ap, refl, arith}
use Rattle.std.proofs.Common.{Bool, true, false, IsTrue, Result, Ok, Err, Option, Some, None, is_some}
use Rattle.std.proofs.lemmas.Bool.{false≢true}
use Rattle.std.proofs.lemmas.List.{take-append-drop, drop-drop}
use Rattle.std.proofs.Math.ListN.{drop_of_length-le}
use Rattle.std.proofs.Math.Seq.{drop-append_seam}
use Rattle.std.specs.Io.KnownBytes.{ReadConsumes, Consumes}
use Rattle.sys_file.specs.File.{ReadsAtPlace}
use Rattle.abt_io.specs.Bytes.{AreBytes}
use Rattle.abt_io.specs.BytesLaws.{bytes_of_drop}
use Rattle.sys_host.specs.Forward.{known, bytes_of_known}

-- one read at a file's place is one of a reader whose bytes are those from there on
pub reads_known : {E : Type 0} (models : Bool) (old new : List ℕ) (p p' : ℕ) (r : Result ℕ E) (out : List ℕ)
    → ReadsAtPlace models old new p p' r out → ReadConsumes (known models (drop p old)) (known models (drop p' new)) r
    out
reads_known false old new p p' (Ok n) out e = record { 0 = tt; 1 = λ z some. tt }
reads_known false old new p p' (Err x) out e = tt
reads_known true old new p p' (Ok n) out e =
    let moved : drop p' new ≡ drop n (drop p old) = ap (λ (k : ℕ). drop k new) (e.moves refl)
    ∙ ap (drop (p + n)) (e.same refl) ∙ sym (drop-drop n p old) in
    record {
      0 = sym (take-append-drop n (drop p old))
          ∙ ap (λ (l : List ℕ). l ++ drop n (drop p old)) (sym (e.reads.bytes refl))
          ∙ ap (λ (l : List ℕ). take n out ++ l) (sym moved);
      1 = λ z some. moved ∙ ap (λ (k : ℕ). drop k (drop p old)) z ∙ drop_of_length-le old (e.reads.ended refl z some);
    }
reads_known true old new p p' (Err x) out e =
    ap (λ (k : ℕ). drop k new) (e.moves refl) ∙ ap (drop (p + 0)) (e.same refl)
    ∙ ap (λ (k : ℕ). drop k old) (let z : p + 0 ≡ p = omega arith in z)

-- what is known is still known behind bytes that were consumed
pub told_still : (old new : Option (List ℕ)) (bs : List ℕ) → Consumes old new bs → IsTrue (is_some old)
    → IsTrue (is_some new)
told_still None new bs e t = absurd (false≢true t)
told_still (Some xs) None bs e t = absurd e
told_still (Some xs) (Some ys) bs e t = refl

-- and is still bytes
pub bytes_still : (old new : Option (List ℕ)) (bs : List ℕ) → Consumes old new bs → IsTrue (is_some old)
    → AreBytes (bytes_of_known old) → AreBytes (bytes_of_known new)
bytes_still None new bs e t h = absurd (false≢true t)
bytes_still (Some xs) None bs e t h = absurd e
bytes_still (Some xs) (Some ys) bs e t h =
    rw (ap (drop (length bs)) e ∙ drop-append_seam bs ys) at (bytes_of_drop (length bs) xs h)

-- nothing is as long as nothing
pub none_long : (x : List ℕ) → length x ≡ 0 → x ≡ []
none_long [] e = refl
none_long (a ∷ x) e = absurd (omega (arith, e))
