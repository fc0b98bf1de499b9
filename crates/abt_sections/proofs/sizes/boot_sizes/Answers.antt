use Rattle.std.proofs.Common.{◌≡◌, ◌≤◌, ℕ, List, arith, refl, ap, sym, ◌∙◌, Some, length, length-set, map, get_or}
use Rattle.std.proofs.lemmas.List.{length-map, take_all}
use Rattle.abt_headers.specs.declared.sections.Section.{Section}
use Rattle.abt_headers.specs.declared.sections.Section.TheVariants.{Kernel}
use Rattle.abt_sections.specs.declared.fault.SectionFault.TheVariants.{SectionTooLarge}
use Rattle.abt_sections.specs.Fields.{filled}
use Rattle.abt_sections.specs.Refusal.{boot_names}
use Rattle.abt_sections.proofs.Sizing.{passes, stops, none_left, fill_more, size_at, few}
use Rattle.abt_sections.proofs.sizes.boot_sizes.Goals as goal

pub returns-then-n : goal.returns-then-n
returns-then-n g c =
    let names = boot_names c.args.version in
    let f = g.S.Source.size in
    let ps = c.args.parts.now in
    let i = c.loop-i.i in
    let n : c.length-n.result ≡ get_or (map f ps) i 0 =
    size_at f ps i c.length-n.result c.index-parts-i.result (omega arith) c.length-n.ensures.size c.index-parts-i.is in
    record {
      value = sym c.loop-i.invariant.so_far
          ∙ stops names (map f ps) i c.section_at.result (omega arith) (omega (arith, length-map ps f))
          (omega (arith, n, c.if-n.true))
          ∙ ap (λ (s : Section). Some (SectionTooLarge s)) (sym c.section_at.ensures);
      failed = refl;
    }

pub loop-i-preserved : goal.loop-i-preserved
loop-i-preserved g c =
    let names = boot_names c.args.version in
    let f = g.S.Source.size in
    let ps = c.args.parts.now in
    let i = c.loop-i.i in
    let n : c.length-n.result ≡ get_or (map f ps) i 0 =
    size_at f ps i c.length-n.result c.index-parts-i.result (omega arith) c.length-n.ensures.size c.index-parts-i.is in
    let most = few c.args.version in
    record {
      long = simp length-set c.loop-i.invariant.long;
      so_far = passes names (map f ps) i Kernel (omega arith) (omega (arith, length-map ps f))
          (omega (arith, n, c.if-n.false)) ∙ c.loop-i.invariant.so_far;
      filled = fill_more 5 i c.length-n.result (map f ps) c.loop-i.sizes (omega (arith, length-map ps f))
          (omega (arith, most)) n c.loop-i.invariant.filled;
    }

pub returns : goal.returns
returns g c =
    let all = map g.S.Source.size c.args.parts.now in
    let over : length all ≤ c.loop-i.i = omega (arith, length-map c.args.parts.now g.S.Source.size) in
    record {
      value = (
        sym c.loop-i.invariant.so_far ∙ none_left (boot_names c.args.version) all c.loop-i.i over,
        c.loop-i.invariant.filled ∙ ap (λ (l : List ℕ). filled 5 l) (take_all c.loop-i.i all over),
      );
      failed = refl;
    }
