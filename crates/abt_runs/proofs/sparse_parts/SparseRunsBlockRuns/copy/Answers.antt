use Rattle.std.proofs.Common.{◌≡◌, ℕ, ◌+◌, ◌-◌, ◌*◌, ◌≤◌, length, take, drop, sym, ap, ◌∙◌, arith}
use Rattle.abt_sparse.specs.View.{view}
use Rattle.abt_runs.proofs.Chunked.{copied}
use Rattle.abt_runs.proofs.sparse_parts.SparseRunsBlockRuns.copy.Goals as goal

pub returns-else-n-eq0-clause-bytes : goal.returns-else-n-eq0-clause-bytes
returns-else-n-eq0-clause-bytes g c models q le raws fits =
    let s = c.args.self.now in
    let x = g.S.Source.content c.args.source.now in
    let n = c.in-Ok.n in
    let e : c.from-2.result * c.from-3.result ≡ c.args.here.used * s.header.blk_sz = ap (λ (m : ℕ). m * c.from-3.result)
    c.from-2.ensures ∙ ap (λ (m : ℕ). c.args.here.used * m) c.from-3.ensures in
    let at : c.args.here.at + c.from.result + c.from-2.result * c.from-3.result + c.args.at ≡ c.args.here.at +
    s.header.chunk_hdr_sz + c.args.here.used * s.header.blk_sz + c.args.at = omega (arith, e, c.from.ensures) in
    let given : c.args.at + length c.args.out.now ≤ s.image -
    (c.args.here.at + s.header.chunk_hdr_sz + c.args.here.used * s.header.blk_sz) = c.requires.room in
    let long = c.read_at.auto.out in
    let few = c.in-Ok.ensures.has_read.within in
    let room : c.args.at + n ≤ s.image - (c.args.here.at + s.header.chunk_hdr_sz + c.args.here.used * s.header.blk_sz) =
    omega (arith, given, long, few) in
    c.in-Ok.ensures.has_read.bytes models ∙ ap (λ (m : ℕ). take n (drop m x)) at ∙ sym
    (copied (view s.header) s.length s.image x c.args.here q c.args.at n (c.requires.told models).0
    (c.requires.told models).1 le fits room)
