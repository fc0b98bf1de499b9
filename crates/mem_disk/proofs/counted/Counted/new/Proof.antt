-- It makes a value of no bytes, at the ghost value that a fresh one has.
use Rattle.abt_io.proofs.Steps.{[], ◌∷◌, ◌⊛◌, split, refl, proved, vstruct, vnil, raw, ‵, ◌$◌, ◌∵◌, !, qed, done, keep}
use Rattle.abt_io.proofs.Steps.{suffices, enter, no_more, returns, agg, alloc_all, pass_all, free_all, look_at, sets}
use Rattle.abt_io.proofs.Steps.{owns, pure_i, alive, Stays, walk_of, says, ends_at, ftrue}
use Rattle.mem_disk.specs.contracts.counted.Counted.new as f
use Rattle.mem_disk.proofs.counted.Counted.new.Statement.{statement}
use Rattle.mem_disk.proofs.counted.Counted.new.Code as code
use Rattle.mem_disk.specs.contracts.counted.Counted.{the_row as R}
use Rattle.sys_disk.specs.Counts.{no_counts}

abbrev stayed : Stays f.ended.signature.params f.ended.kept
stayed = tt

pub new_spec : {M : Type 1} → statement M
new_spec 𝓤 𝓛 𝓜 𝓡 wired =
    let c = f.clauses 𝓛 𝓜.mem 𝓡.returns in let W = walk_of 𝓛 f.ended stayed c in
    proved 𝓛 f.ended stayed c 𝓜 𝓡 tt
    f.Key.name code.function (code.unfolded 𝓤 𝓛.H 𝓜 𝓡 wired)
    (λ κs. tt) (λ κs. tt) (λ κs qs bounds a _ are.
    let y : W.Ghost = ((tt, tt, tt, tt, tt), tt) in
    qed 𝓛 ((raw (alive 𝓛 f.signature tt tt) ⊛ ‵ (owns [] tt tt)) ∷ ‵ ftrue ∷ []) ∵ split ! $
    enter ! _ _ _ _ _ $ alloc_all ! (λ l. pass_all ! refl tt $
    sets ! (agg ! (no_more !)) refl (tt, tt) $
    returns ! (look_at ! 0 refl) $ free_all ! refl $
    suffices ! _ (ends_at 𝓛 f.ended stayed c y (vstruct vnil) (record { counts = no_counts }) tt tt) $
    says ! refl $ pure_i ! (R.own_val (record { counts = no_counts }) (vstruct vnil ∷ [])) ((λ vss. (tt, tt)), tt)
    ((tt, (refl, tt)), tt) $
    keep ! (1 ∷ 2 ∷ 0 ∷ []) $ done !))
