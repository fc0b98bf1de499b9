use Rattle.std.proofs.Common.{◌≡◌, suc, ◌+◌, ◌<◌, ℕ, length, get_or, take, subst, rules, arith}
use Rattle.sys_text.specs.Printed.{Prints}
use Rattle.sys_text.proofs.Printing.{◌▸◌, as_text, printed_none}
use Rattle.cmd_unpack_aosp_texts.specs.Texts.{board_text, board_number_text}
use Rattle.cmd_unpack_aosp_texts.proofs.Boards.{one_number}
use Rattle.cmd_unpack_aosp_texts.proofs.text.put_board_id.Goals as goal

pub loop-place-init : goal.loop-place-init
loop-place-init g c = printed_none _ _ _

pub loop-place-preserved : goal.loop-place-preserved
loop-place-preserved g c =
    let which = c.args.which in
    let ns = c.args.board_id.now in
    let k = c.loop-place.place in
    let there : k < length ns = search (rules, arith) in
    let one : Prints g.O.Output.written g.O.Output.write_faults c.loop-place.text c.put_board_number.new.text
    (board_number_text which (0 + k) (get_or ns k 0)) = search (rules, arith) in
    let next : suc k ≡ k + 1 = omega arith in
    let all = as_text (one_number which 0 ns k there) (c.loop-place.invariant ▸ one) in
    subst (λ (n : ℕ). Prints g.O.Output.written g.O.Output.write_faults c.args.text.now c.put_board_number.new.text
    (board_text which 0 (take n ns))) next all
