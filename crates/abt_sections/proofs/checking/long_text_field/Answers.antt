use Rattle.std.proofs.Common.{Bool, cond, ◌&&◌, sym, ap, ◌∙◌}
use Rattle.abt_sections.specs.Fields.{no_zero}
use Rattle.abt_sections.specs.Check.{all_zero, text_field}
use Rattle.abt_sections.proofs.TextFields.{long_text}
use Rattle.abt_sections.proofs.checking.long_text_field.Goals as goal

pub returns-then-text_field : goal.returns-then-text_field
returns-then-text_field c =
    let x = c.args.front.now in
    let y = c.args.back.now in
    let e = long_text x y in
    let t = sym c.text_field.ensures ∙ c.if-text_field.true in
    c.all_zero.ensures ∙ sym (e ∙ ap (λ (b : Bool). cond b (all_zero y) (no_zero x && text_field y)) t)

pub returns-then-no_zero : goal.returns-then-no_zero
returns-then-no_zero c =
    let x = c.args.front.now in
    let y = c.args.back.now in
    let e = long_text x y in
    let t = sym c.text_field.ensures ∙ c.if-text_field.false in
    let z = sym c.no_zero.ensures ∙ c.if-no_zero.true in
    c.text_field-then-no_zero.ensures ∙ sym (e ∙ ap (λ (b : Bool). cond b (all_zero y) (no_zero x && text_field y)) t
    ∙ ap (λ (b : Bool). b && text_field y) z)

pub returns-else-no_zero : goal.returns-else-no_zero
returns-else-no_zero c =
    let x = c.args.front.now in
    let y = c.args.back.now in
    let e = long_text x y in
    let t = sym c.text_field.ensures ∙ c.if-text_field.false in
    let z = sym c.no_zero.ensures ∙ c.if-no_zero.false in
    c.if-no_zero.false ∙ sym (e ∙ ap (λ (b : Bool). cond b (all_zero y) (no_zero x && text_field y)) t
    ∙ ap (λ (b : Bool). b && text_field y) z)
