use Rattle.std.proofs.Common.{◌≡◌, ◌+◌, ◌-◌, ◌*◌, ℕ, List, Result, Ok, Err, length, take, arith, ap, refl, sym, ◌∙◌}
use Rattle.std.proofs.Common.{replicate, ◌≤◌}
use Rattle.std.specs.Prelude.{OnErr, OnOk, is_ok, if◌then◌else◌}
use Rattle.std.specs.List.{concat}
use Rattle.abt_sparse.specs.Block.{over}
use Rattle.abt_io.proofs.Words.{length_words}
use Rattle.abt_chunks.specs.Ahead.{somes}
use Rattle.abt_io.specs.declared.device.DeviceFault.{DeviceFault}
use Rattle.abt_flash.specs.Laying.{refused_in, syncs_in}
use Rattle.abt_flash.specs.declared.write_part.PartTask.TheVariants as tasks
use Rattle.abt_flash.proofs.Cells.{nothing_over, put_over}
use Rattle.abt_flash.proofs.Fronts.{front_none, front_torn}
use Rattle.abt_flash.proofs.Moments.{during_put, during_sync, same_content}
use Rattle.abt_flash.proofs.Tasks.{on_put, on_sync, on_words}
use Rattle.abt_flash.proofs.write_part.carry_out.Goals as goal
use Rattle.std.proofs.Common.{rules}
use Rattle.abt_chunks.specs.Places.{from_place}

pub returns-in-Bytes-clause-laid : goal.returns-in-Bytes-clause-laid
returns-in-Bytes-clause-laid g c models =
    let n = c.in-Bytes.n in
    let w = c.args.w.now.bytes in
    let p = g.P.Source.content c.args.partition.now in
    let sized = g.met.P.Source.sized c.args.partition.now models in
    let fits = rw c.in-Bytes.is at c.requires.fits in
    let none : n - 0 ≡ n = omega arith in
    let part : c.part.result.now ≡ take n w = c.part.ensures.value ∙ ap (λ (k : ℕ). take k w) none in
    let long : length c.part.result.now ≡ n = c.part.ensures.long ∙ none in
    rw c.in-Bytes.is (on_put n c.write_all_at.result _ _ (λ e. e
    ∙ put_over c.args.at p c.part.result.now (omega (arith, sized, fits, long))
    ∙ ap (λ (x : List ℕ). over p (from_place c.args.at (somes x))) part) (c.write_all_at.ensures.written models))

err_any : (r : Result (Unit {0}) DeviceFault) (P : Type 0) → P → OnErr r P
err_any (Ok u) P h = tt
err_any (Err e) P h = h

pub returns-in-Bytes-clause-broken : goal.returns-in-Bytes-clause-broken
returns-in-Bytes-clause-broken g c models =
    let can : c.in-Bytes.n ≤ 65536 = rw c.in-Bytes.is at c.requires.can in
    let few : length c.part.result.now ≤ 65536 = omega (arith, c.part.ensures.long, can) in
    err_any c.write_all_at.result _ (front_torn 65536 c.args.at _ _ (g.P.Partition.past c.args.partition.now)
    (g.P.Partition.past c.write_all_at.new.partition) _ _ few (c.write_all_at.ensures.kept models))

pub returns-in-Words-clause-broken : goal.returns-in-Words-clause-broken
returns-in-Words-clause-broken g c models = rw c.in-Words.is (c.lay_words.ensures.broken models)

pub returns-in-Sync-clause-broken : goal.returns-in-Sync-clause-broken
returns-in-Sync-clause-broken g c models = err_any c.sync.result _ (front_none 65536 c.args.at _ _ _
    (same_content _ _ (c.sync.ensures.settled.kept models)))

pub returns-in-Bytes-clause-touches : goal.returns-in-Bytes-clause-touches
returns-in-Bytes-clause-touches g c models = record {
  kept = search rules;
  moments =
      let long : length c.part.result.now ≡ c.in-Bytes.n = c.part.ensures.long
      ∙ (let z : c.in-Bytes.n - 0 ≡ c.in-Bytes.n = omega arith in z) in
      rw c.in-Bytes.is (during_put c.args.at _ _ _ _ _ _ long (c.write_all_at.ensures.moments models));
}

pub returns-in-Bytes-clause-all : goal.returns-in-Bytes-clause-all
returns-in-Bytes-clause-all g c =
    let long : length c.part.result.now ≡ c.in-Bytes.n = c.part.ensures.long
    ∙ (let z : c.in-Bytes.n - 0 ≡ c.in-Bytes.n = omega arith in z) in
    rw c.in-Bytes.is (on_put c.in-Bytes.n c.write_all_at.result _ _
    (λ e. omega (arith, e, long)) c.write_all_at.ensures.all)

pub returns-in-Words-clause-laid : goal.returns-in-Words-clause-laid
returns-in-Words-clause-laid g c models =
    let n = c.in-Words.n in
    let word = c.in-Words.word in
    let p = g.P.Source.content c.args.partition.now in
    let sized = g.met.P.Source.sized c.args.partition.now models in
    let fits = rw c.in-Words.is at c.requires.fits in
    let four : length word ≡ 4 = omega arith in
    let long : length (concat (replicate n word)) ≡ 4 * n = length_words n word four in
    rw c.in-Words.is (on_words word n c.lay_words.result _ _ (λ e. e
    ∙ put_over c.args.at p (concat (replicate n word)) (omega (arith, sized, fits, long)))
    (c.lay_words.ensures.written models))

pub returns-in-Words-clause-touches : goal.returns-in-Words-clause-touches
returns-in-Words-clause-touches g c models = record {
  kept = search rules;
  moments = rw c.in-Words.is (during_put c.args.at _ _ _ _ _ _ refl (c.lay_words.ensures.moments models));
}

pub returns-in-Words-clause-all : goal.returns-in-Words-clause-all
returns-in-Words-clause-all g c =
    rw c.in-Words.is (on_words c.in-Words.word c.in-Words.n c.lay_words.result _ _ (λ e. e) c.lay_words.ensures.all)

pub returns-in-Sync-clause-laid : goal.returns-in-Sync-clause-laid
returns-in-Sync-clause-laid g c models =
    let p = g.P.Source.content c.args.partition.now in
    rw c.in-Sync.is (on_sync c.sync.result _ (same_content _ _ (c.sync.ensures.settled.kept models)
    ∙ sym (nothing_over p c.args.at)))

pub returns-in-Sync-clause-touches : goal.returns-in-Sync-clause-touches
returns-in-Sync-clause-touches g c models = record {
  kept = search rules;
  moments = rw c.in-Sync.is (during_sync _ _ _ _ _ (c.sync.ensures.settled.kept models)
      (c.sync.ensures.settled.moments models));
}

pub returns-in-Sync-clause-all : goal.returns-in-Sync-clause-all
returns-in-Sync-clause-all g c = rw c.in-Sync.is (on_sync c.sync.result _ (omega (arith, c.sync.ensures.synced.taken)))

pub returns-in-Nothing-clause-laid : goal.returns-in-Nothing-clause-laid
returns-in-Nothing-clause-laid g c models =
    rw c.in-Nothing.is (sym (nothing_over (g.P.Source.content c.args.partition.now) c.args.at))

-- ---- what is carried out is not idle

pub returns-in-Bytes-clause-still : goal.returns-in-Bytes-clause-still
returns-in-Bytes-clause-still g c idle = absurd (rw c.in-Bytes.is at idle)

pub returns-in-Bytes-clause-sound : goal.returns-in-Bytes-clause-sound
returns-in-Bytes-clause-sound g c idle = absurd (rw c.in-Bytes.is at idle)

pub returns-in-Words-clause-still : goal.returns-in-Words-clause-still
returns-in-Words-clause-still g c idle = absurd (rw c.in-Words.is at idle)

pub returns-in-Words-clause-sound : goal.returns-in-Words-clause-sound
returns-in-Words-clause-sound g c idle = absurd (rw c.in-Words.is at idle)

pub returns-in-Sync-clause-still : goal.returns-in-Sync-clause-still
returns-in-Sync-clause-still g c idle = absurd (rw c.in-Sync.is at idle)

pub returns-in-Sync-clause-sound : goal.returns-in-Sync-clause-sound
returns-in-Sync-clause-sound g c idle = absurd (rw c.in-Sync.is at idle)

-- ---- whatever came of it

on_any : (r : Result (Unit {0}) DeviceFault) (P : Type 0) → P → OnOk r P
on_any (Ok u) P h = h
on_any (Err e) P h = tt

sync_counts : (r : Result (Unit {0}) DeviceFault) → (if is_ok r then 1 else 0) ≡ syncs_in tasks.Sync r
sync_counts (Ok u) = refl
sync_counts (Err e) = refl

sync_refused : (r : Result (Unit {0}) DeviceFault) → (if is_ok r then 1 else 0) + refused_in tasks.Sync r ≡ 1
sync_refused (Ok u) = refl
sync_refused (Err e) = refl

pub returns-in-Bytes-clause-settled : goal.returns-in-Bytes-clause-settled
returns-in-Bytes-clause-settled g c models = rw c.in-Bytes.is (on_any c.write_all_at.result _ tt)

pub returns-in-Words-clause-settled : goal.returns-in-Words-clause-settled
returns-in-Words-clause-settled g c models = rw c.in-Words.is (on_any c.lay_words.result _ tt)

pub returns-in-Sync-clause-settled : goal.returns-in-Sync-clause-settled
returns-in-Sync-clause-settled g c models = rw c.in-Sync.is (c.sync.ensures.settled.settled models)

pub returns-in-Sync-clause-synced : goal.returns-in-Sync-clause-synced
returns-in-Sync-clause-synced g c =
    let counts = sync_counts c.sync.result in
    let synced = c.sync.ensures.settled.synced in
    rw c.in-Sync.is (omega (arith, counts, synced))

pub returns-in-Sync-clause-refused_syncs : goal.returns-in-Sync-clause-refused_syncs
returns-in-Sync-clause-refused_syncs g c =
    let refused = sync_refused c.sync.result in
    let synced = c.sync.ensures.settled.synced in
    let calls = c.sync.ensures.synced.calls in
    rw c.in-Sync.is (omega (arith, refused, synced, calls))

pub returns-in-Sync-clause-costs : goal.returns-in-Sync-clause-costs
returns-in-Sync-clause-costs g c = record {
  taken = search rules;
  calls = search rules;
  turns = search rules;
  few = on_any c.sync.result _ (omega (arith, c.sync.ensures.synced.taken));
  no_step = search rules;
}
