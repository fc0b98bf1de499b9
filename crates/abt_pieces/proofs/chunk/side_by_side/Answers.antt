use Rattle.std.proofs.Common.{◌≡◌, ℕ, List, [], ◌∷◌, ◌++◌, arith, sym, ap, ◌∙◌, length, drop, length-append}
use Rattle.std.proofs.Common.{length-drop}
use Rattle.std.proofs.lemmas.List.{take-append-le, take_all, length-take-le}
use Rattle.std.proofs.lemmas.Slice.{take-put_mid}
use Rattle.abt_pieces.proofs.chunk.side_by_side.Goals as goal
use borrow.Rule.Slice.PartMut.{put_mid, same_len_mid}

joins : (h w : List ℕ) → length h ≡ 12 → length w ≡ 4 → put_mid 12 4 (h ++ 0 ∷ 0 ∷ 0 ∷ 0 ∷ []) w ≡ h ++ w
joins h w long four =
    let xs = h ++ 0 ∷ 0 ∷ 0 ∷ 0 ∷ [] in
    let total : length xs ≡ 16 = omega (arith, length-append h (0 ∷ 0 ∷ 0 ∷ 0 ∷ []), long) in
    let same : length (put_mid 12 4 xs w) ≡ length xs =
    same_len_mid 12 4 xs w (four ∙ sym (length-take-le 4 (drop 12 xs) (omega (arith, length-drop 12 xs, total)))) in
    sym (take_all 16 (put_mid 12 4 xs w) (omega (arith, same, total)))
    ∙ take-put_mid 12 4 xs w 16 (omega (arith, four)) (omega (arith, total))
    ∙ ap (λ (r : List ℕ). r ++ w) (take-append-le 12 h (0 ∷ 0 ∷ 0 ∷ 0 ∷ []) (omega (arith, long))
    ∙ take_all 12 h (omega (arith, long)))

pub returns : goal.returns
returns c =
    let a = c.copy_from_slice.ensures in
    let b = c.copy_from_slice-2.ensures in
    let first : length c.args.header ≡ 12 = ap length (sym a.after) ∙ a.len in
    let front = c.copy_from_slice.new.self in
    let second : length c.args.word ≡ 4 = ap length (sym b.after) ∙ b.len
    ∙ length-take-le 4 (drop 12 (front ++ 0 ∷ 0 ∷ 0 ∷ 0 ∷ []))
    (omega (arith, length-drop 12 (front ++ 0 ∷ 0 ∷ 0 ∷ 0 ∷ []), length-append front (0 ∷ 0 ∷ 0 ∷ 0 ∷ []), a.len))
    in
    rw (a.after, b.after) (joins c.args.header c.args.word first second)
