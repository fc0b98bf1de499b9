-- A chunk's header there and back.
use Rattle.std.proofs.Common.{◌≡◌, ℕ, ◌<◌, ◌^◌, List, [], ◌++◌, length, Option, Some, None, Ok, refl, sym, ap, ◌∙◌}
use Rattle.std.proofs.Common.{arith, append-nil}
use Rattle.std.specs.Prelude.{IfOk}
use Rattle.std.specs.Int.{w16, w32, to_le_bytes}
use Rattle.std.proofs.lemmas.List.{drop_all}
use Rattle.abt_sparse.specs.declared.kind.ChunkKind.{ChunkKind}
use Rattle.abt_sparse.specs.Chunk.{code}
use Rattle.abt_sparse.specs.Reading.{number_at, kind_at}
use Rattle.abt_sparse.proofs.Fields.{IsBytes, again_2, again_4, field_2, field_4}
use Rattle.abt_sparse.proofs.ChunkLaws.{kind-code, code-kind, code_fits}
use Rattle.abt_sparse.specs.declared.chunk_header.ChunkHeader.{ChunkHeader}
use Rattle.abt_sparse.specs.ChunkHead.{header_of_kind, chunk_header_at, chunk_record}

pub back_known : (x : List ℕ) (o : Option ChunkKind) → length x ≡ 12 → IsBytes x → kind_at (number_at 0 2 x) ≡ o
    → IfOk (header_of_kind o x) (λ h. chunk_record h (number_at 2 2 x) ≡ x)
back_known x None l fits e = tt
back_known x (Some k) l fits e =
    let f8 = field_4 8 x [] (omega arith) fits (sym (drop_all 12 x (omega arith))) in
    let f4 = field_4 4 x _ (omega arith) fits f8 in
    let f2 = field_2 2 x _ (omega arith) fits f4 in
    let f0 = field_2 0 x _ (omega arith) fits f2 in
    let c : number_at 0 2 x ≡ code k = code-kind (number_at 0 2 x) k e in
    ap (λ (t : List ℕ). to_le_bytes w16 (code k)
    ++ (to_le_bytes w16 (number_at 2 2 x) ++ (to_le_bytes w32 (number_at 4 4 x) ++ t)))
    (sym (append-nil (to_le_bytes w32 (number_at 8 4 x))))
    ∙ ap (λ (n : ℕ). to_le_bytes w16 n
    ++ (to_le_bytes w16 (number_at 2 2 x)
    ++ (to_le_bytes w32 (number_at 4 4 x) ++ (to_le_bytes w32 (number_at 8 4 x) ++ [])))) (sym c) ∙ f0

pub head_again : (h : ChunkHeader) → h.blocks < 2 ^ 32 → h.total < 2 ^ 32 → chunk_header_at (chunk_record h 0) ≡ Ok h
head_again h b t =
    let k : kind_at (number_at 0 2 (chunk_record h 0)) ≡ Some h.kind =
    ap kind_at (again_2 (code h.kind) [] (code_fits h.kind)) ∙ kind-code h.kind in
    let n : number_at 4 4 (chunk_record h 0) ≡ h.blocks = again_4 h.blocks [] b in
    let m : number_at 8 4 (chunk_record h 0) ≡ h.total = again_4 h.total [] t in
    rw (k, n, m) refl
