use Rattle.std.proofs.Common.{arith, map, subst, sym, ◌≡◌, IfOk}
use Rattle.abt_sections.specs.Header.{fragment_count, view_of}
use Rattle.cmd_pack_inputs.specs.Own.{AllEndBehind, bytes_behind}
use Rattle.cmd_common_boot.specs.Sources.{content_of}
use Rattle.cmd_pack_inputs.proofs.Owns.{all_end, lies_there, ramdisk_place}
use Rattle.cmd_pack_inputs.proofs.own_ramdisks.own_fragments.Goals as goal

pub with_entries-requires-clause-there : goal.with_entries-requires-clause-there
with_entries-requires-clause-there g c = λ told.
    let x = g.D.At.Source.content c.args.own.now.source in
    let h = view_of c.args.own.now.image.header in
    let at = ramdisk_place h c.in-Some.place c.in-Some.ensures.value in
    subst (AllEndBehind c.in-Some.place.at _) (sym (c.requires.entries told))
    (all_end x h c.in-Some.place.at _ (fragment_count h) (c.requires.opened told).has.within at.0
    (lies_there x h c.in-Some.place (c.requires.opened told).has.there c.in-Some.ensures.value at.1)
    (omega arith))

pub returns-in-Some : goal.returns-in-Some
returns-in-Some g c = record {
  specs = λ t. c.with_entries.ensures.specs;
  bytes = λ t.
      let x = g.D.At.Source.content c.args.own.now.source in
      let h = view_of c.args.own.now.image.header in
      subst (λ k. IfOk c.with_entries.result (λ all. map (content_of g.D.At.Source.content) all.sources.items
      ≡ map (bytes_behind x k) c.args.entries.now)) (ramdisk_place h c.in-Some.place c.in-Some.ensures.value).0
      (c.with_entries.ensures.bytes t);
  opens = c.with_entries.ensures.opens;
}
