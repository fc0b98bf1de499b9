use Rattle.std.proofs.Common.{◌≡◌, ◌≤◌, ◌+◌, ◌*◌, take}
use Rattle.abt_headers.specs.Page.{pages}
use Rattle.abt_sections.specs.Layout.{laid_size}
use Rattle.abt_sections.proofs.sizes.image_bytes.Given as goal

abbrev pub invariant-loop-i : goal.invariant-loop-i
invariant-loop-i l = record {
  value : l.bytes ≡ pages l.header l.page * l.page + laid_size l.page (take l.i l.sizes);
  low : l.bytes ≤ 4294967296 + l.i * 8589934592;
}
