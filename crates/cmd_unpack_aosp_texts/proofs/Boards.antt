-- A board id as far as one of its numbers.
use Rattle.std.proofs.Common.{◌≡◌, ℕ, zero, suc, ◌+◌, ◌<◌, List, [], ◌∷◌, ◌++◌, length, take, get_or, sym, ap}
use Rattle.std.proofs.Common.{◌∙◌, arith}
use Rattle.std.proofs.Common.{append_assoc, append-nil}
use Rattle.cmd_unpack_aosp_texts.specs.Texts.{board_text, board_number_text}
use Rattle.cmd_unpack_aosp_texts.specs.declared.text.AospText.{AospText}

pub one_number : (which : AospText) (first : ℕ) (ns : List ℕ) (k : ℕ) → k < length ns
    → board_text which first (take k ns) ++ board_number_text which (first + k) (get_or ns k 0)
    ≡ board_text which first (take (suc k) ns)
one_number which first [] k h = absurd (let q : k < 0 = h in omega arith)
one_number which first (n ∷ ns) zero h =
    let same : first + 0 ≡ first = omega arith in
    ap (λ (m : ℕ). board_number_text which m n) same ∙ sym (append-nil (board_number_text which first n))
one_number which first (n ∷ ns) (suc k) h =
    let next : first + suc k ≡ suc first + k = omega arith in
    append_assoc (board_number_text which first n) (board_text which (suc first) (take k ns))
    (board_number_text which (first + suc k) (get_or ns k 0))
    ∙ ap (λ (m : ℕ). board_number_text which first n ++ (board_text which (suc first) (take k ns)
    ++ board_number_text which m (get_or ns k 0))) next
    ∙ ap (λ (l : List ℕ). board_number_text which first n ++ l) (one_number which (suc first) ns k (omega (arith, h)))
