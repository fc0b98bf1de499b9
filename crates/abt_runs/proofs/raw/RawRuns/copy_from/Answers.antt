use Rattle.std.proofs.Common.{arith, ◌∙◌, sym, ap, ◌≡◌, ◌*◌, ◌+◌, ℕ, length, take, drop, replicate, ◌++◌, ◌-◌}
use Rattle.std.proofs.lemmas.List.{take-append-le, length-take-le}
use Rattle.std.proofs.Math.Seq.{take-append_seam}
use Rattle.abt_runs.proofs.Copied.{filled_within, filled_behind}
use Rattle.abt_runs.proofs.raw.RawRuns.copy_from.Goals as goal

pub returns-then-pos-self-clause-bytes : goal.returns-then-pos-self-clause-bytes
returns-then-pos-self-clause-bytes g c models =
    let s = c.args.self.now in
    let x = g.S.Source.content c.args.source.now in
    let e = c.requires.opened models in
    let n = c.min-zeros.result in
    let out = c.fill.new.self in
    let zeros : out ≡ replicate (length (take n c.args.out.now)) 0 = c.fill.ensures.after (λ y h. h) in
    let less = c.min-zeros.ensures in
    let few : length (take n c.args.out.now) ≡ n = length-take-le n c.args.out.now (omega arith) in
    let long : length out ≡ n = c.fill.ensures.len ∙ few in
    let test = c.if-pos-self.true in
    let inside : (s.blocks - c.args.here.block) * s.size + c.args.here.block * s.size ≡ s.blocks * s.size = omega (
      arith,
      c.requires.place.within,
      distributes (s.blocks - c.args.here.block) c.args.here.block s.size,
      ap
          (λ (k : ℕ). k * s.size) (let z : s.blocks - c.args.here.block + c.args.here.block ≡ s.blocks = omega
          (arith, c.requires.place.within) in z),
    ) in
    let room = c.requires.reach in
    ap (λ (k : ℕ). take k (out ++ drop n c.args.out.now)) (sym long) ∙ take-append_seam out (drop n c.args.out.now)
    ∙ zeros ∙ ap (λ (k : ℕ). replicate k 0) few
    ∙ sym (filled_behind x n (c.args.here.block * s.size + c.args.at) (s.blocks * s.size) (omega arith)
    (omega (arith, inside, room, less)))
  where
    distributes : (a b c : ℕ) → (a + b) * c ≡ a * c + b * c
    distributes a b c = omega arith

pub returns-else-n-eq0-clause-bytes : goal.returns-else-n-eq0-clause-bytes
returns-else-n-eq0-clause-bytes g c models =
    let s = c.args.self.now in
    let x = g.S.Source.content c.args.source.now in
    let e = c.requires.opened models in
    let r = c.in-Ok.ensures.has_read in
    let test = c.if-pos-self.false in
    let n = c.in-Ok.n in
    take-append-le n c.read_at.new.out _ r.within ∙ r.bytes models
    ∙ sym (filled_within x n (c.args.here.block * s.size + c.args.at) (s.blocks * s.size)
    (omega (arith, e, r.present models)))
