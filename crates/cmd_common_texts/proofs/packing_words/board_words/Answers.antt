use Rattle.std.proofs.Common.{◌≡◌, suc, ◌+◌, ◌<◌, ℕ, length, get_or, take, subst, rules, arith}
use Rattle.cmd_common_texts.specs.Words.{board_word, board_words}
use Rattle.cmd_common_texts.proofs.WordLists.{PrintsWords, both_words, one_board}
use Rattle.sys_text.proofs.Printing.{printed_none}
use Rattle.cmd_common_texts.proofs.packing_words.board_words.Goals as goal

pub loop-place-preserved : goal.loop-place-preserved
loop-place-preserved g c =
    let o = g.O.Output.written in
    let i = c.args.fragment in
    let ns = c.args.board_id.now in
    let k = c.loop-place.place in
    let there : k < length ns = search (rules, arith) in
    let one : PrintsWords o g.O.Output.write_faults c.loop-place.text c.board_word.new.text
    (board_word i (0 + k) (get_or ns k 0)) = search (rules, arith) in
    let both = both_words o g.O.Output.write_faults c.args.text.now c.loop-place.text c.board_word.new.text
    (board_words i 0 (take k ns)) (board_word i (0 + k) (get_or ns k 0)) c.loop-place.invariant one in
    let next : suc k ≡ k + 1 = omega arith in
    let all = subst (PrintsWords o g.O.Output.write_faults c.args.text.now c.board_word.new.text)
    (one_board i 0 ns k there) both in
    subst (λ (n : ℕ). PrintsWords o g.O.Output.write_faults c.args.text.now c.board_word.new.text
    (board_words i 0 (take n ns))) next all

pub loop-place-init : goal.loop-place-init
loop-place-init g c = printed_none _ _ _
