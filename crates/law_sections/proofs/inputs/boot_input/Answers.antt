use Rattle.std.proofs.Common.{ℕ, List, ap, sym, ◌∙◌}
use Rattle.std.proofs.lemmas.List.{length-map}
use Rattle.abt_sections.specs.Fields.{cmd_common_fields}
use Rattle.abt_sections.specs.Refusal.{pack_boot_refusal}
use Rattle.abt_sections.proofs.Sizing.{sizes_are}
use Rattle.law_sections.proofs.inputs.boot_input.Goals as goal

pub returns : goal.returns
returns g c = λ models none.
    let s = g.S.Source in
    let ps = c.args.parts.now in
    let fields = cmd_common_fields c.args.spec.now in
    record {
      numbers = c.boot_numbers.ensures;
      count = length-map ps s.content ∙ c.requires;
      accepted = ap (λ (l : List ℕ). pack_boot_refusal fields l)
          (sym (sizes_are s.size s.content ps (λ p. g.met.S.Source.sized p models))) ∙ none;
    }
