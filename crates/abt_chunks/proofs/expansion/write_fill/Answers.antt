use Rattle.std.proofs.Common.{rules, ◌≡◌, [], ◌∷◌}
use Rattle.std.proofs.lemmas.Slice.Eq.{slice_eq-Decides}
use Rattle.std.proofs.lemmas.Bool.Decides.{Decides-eqb}
use Rattle.abt_io.proofs.Words.{zero_words}
use Rattle.abt_chunks.proofs.expansion.write_fill.Goals as goal

pub returns-then-eq : goal.returns-then-eq
returns-then-eq g c =
    let e = c.write_zeros.ensures in
    let zero : c.args.word ≡ 0 ∷ 0 ∷ 0 ∷ 0 ∷ [] =
    (slice_eq-Decides Decides-eqb c.args.word (0 ∷ 0 ∷ 0 ∷ 0 ∷ []) c.eq.result c.eq.ensures).0 c.if-eq.true in
    record {
      lays = record {
        front = record {
          ok = rw (zero, zero_words c.args.n) e.written;
          front = rw (zero, zero_words c.args.n) e.front;
          cause = e.cause;
        };
        all = search rules;
        writes = search rules;
        costs = search rules;
      };
    }
