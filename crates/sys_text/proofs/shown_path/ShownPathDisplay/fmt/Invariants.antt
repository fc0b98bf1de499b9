use Rattle.std.proofs.Common.{◌≡◌, ℕ, List, ◌++◌, IsUtf8}
use Rattle.std.specs.Str.Iter.{chars_rest}
use Rattle.std.specs.Fmt.{HasWritten, IsPlainFormatter}
use Rattle.sys_text.specs.Shown.{as_shown}
use Rattle.sys_text.proofs.shown_path.ShownPathDisplay.fmt.Given as goal

abbrev pub invariant-loop-letter : goal.invariant-loop-letter
invariant-loop-letter g l =
    IsUtf8 (chars_rest l.letter-iterator) × (IsPlainFormatter l.fn.f → (done : List ℕ)
    × HasWritten g.W.Write.write_str_gives l.fn.f done l.f
    × (done ++ as_shown (chars_rest l.letter-iterator) ≡ as_shown l.fn.self.0.now))
