use Rattle.std.proofs.Common.{◌++◌, ℕ, List, arith, length, ap, subst, ◌∙◌}
use Rattle.abt_headers.specs.declared.entry.RamdiskEntry.{RamdiskEntry}
use Rattle.abt_sections.specs.Header.{view_of, entry_of, ramdisk_at, ramdisk_size, IsWithin}
use Rattle.abt_sections.proofs.Causes.{on_ok, on_ok_then}
use Rattle.abt_sections.proofs.Growing.{begins_is}
use Rattle.abt_sections.proofs.MoreExits.{reads_alone}
use Rattle.abt_sections.proofs.PackExits.{begins_none}
use Rattle.abt_sections.proofs.Refusals.{moves_on}
use Rattle.abt_sections.proofs.Tables.{ramdisk_there, part_within, fragment_is}
use Rattle.abt_sections.proofs.unpacking.unpack_fragment.Goals as goal

pub returns-clause-written : goal.returns-clause-written
returns-clause-written g c = λ models.
    let x = g.S.Source.content c.args.source.now in
    let e = c.in-Ok.ensures in
    let same = fragment_is x _ (view_of c.args.image.now.header) c.args.i c.fragment_at-at.result c.in-Ok.entry
    (e.reads.only.content models) c.fragment_at-at.ensures.value (e.entry models) in
    on_ok_then c.copy_part.result (λ w. w ∙ ap (λ (l : List ℕ). g.O.Output.written c.args.output.now ++ l) same)
    (c.copy_part.ensures.written models)

pub returns-clause-front : goal.returns-clause-front
returns-clause-front g c = λ models.
    let x = g.S.Source.content c.args.source.now in
    let e = c.in-Ok.ensures in
    begins_is _ _ _ _ (fragment_is x _ (view_of c.args.image.now.header) c.args.i c.fragment_at-at.result c.in-Ok.entry
    (e.reads.only.content models) c.fragment_at-at.ensures.value (e.entry models)) (c.copy_part.ensures.front models)

pub returns-clause-part : goal.returns-clause-part
returns-clause-part g c = λ models.
    let x = g.S.Source.content c.args.source.now in
    let h = view_of c.args.image.now.header in
    let within : IsWithin h (entry_of x h c.args.i) =
    subst (λ (q : RamdiskEntry). IsWithin h q) (c.in-Ok.ensures.entry models) c.in-Ok.ensures.within in
    on_ok c.copy_part.result
    (part_within x (ramdisk_at h) (ramdisk_size h) (entry_of x h c.args.i).ramdisk_offset
    (entry_of x h c.args.i).ramdisk_size within)

pub returns-clause-moves : goal.returns-clause-moves
returns-clause-moves g c =
    let x = g.S.Source.content c.args.source.now in
    let h = view_of c.args.image.now.header in
    let e = c.in-Ok.ensures in
    moves_on e.reads.only c.copy_part.ensures.moves (λ changed models opened. changed models
    (λ some. omega (
      arith,
      ramdisk_there h (length x) opened.has.there (omega (arith, e.within, some)),
      e.within,
      c.fragment_at-at.ensures.value,
      ap length (e.reads.only.content models),
    )))

pub returns-in-Err-clause-moves : goal.returns-in-Err-clause-moves
returns-in-Err-clause-moves g c = reads_alone g.O.Output c.args.output.now c.in-Err.ensures.reads

pub returns-in-Err-clause-front : goal.returns-in-Err-clause-front
returns-in-Err-clause-front g c = λ models. begins_none _ _

pub returns-clause-within : goal.returns-clause-within
returns-clause-within g c = λ models.
    let h = view_of c.args.image.now.header in
    on_ok c.copy_part.result
    (subst (λ (q : RamdiskEntry). IsWithin h q) (c.in-Ok.ensures.entry models) c.in-Ok.ensures.within)
