-- The verdict on an image, from the rules that hold of it.
use Rattle.std.proofs.Common.{◌≡◌, Bool, true, false, ◌&&◌, ℕ, List, refl, sym, ◌∙◌}
use Rattle.std.specs.Prelude.{IsTrue, ◌↔◌}
use Rattle.std.proofs.lemmas.Bool.{false≢true}
use Rattle.abt_sections.specs.Header.{Header}
use Rattle.abt_sections.specs.Check.{padding_holds, offset_holds, texts_hold, IdHolds, FragmentsFill, IsCanonical}

all_true : (p i o t f : Bool) → (p && i && o && t && f) ≡ true → (p ≡ true) × (i ≡ true) × (o ≡ true) × (t ≡ true)
    × (f ≡ true)
all_true true true true true true e = (refl, refl, refl, refl, refl)
all_true true true true true false e = absurd (false≢true e)
all_true true true true false f e = absurd (false≢true e)
all_true true true false t f e = absurd (false≢true e)
all_true true false o t f e = absurd (false≢true e)
all_true false i o t f e = absurd (false≢true e)

pub verdict_is : (x : List ℕ) (h : Header) (b p i o t f : Bool) → b ≡ (p && i && o && t && f) → p ≡ padding_holds x h
    → (IsTrue i ↔ IdHolds x h) → o ≡ offset_holds h → t ≡ texts_hold h → (IsTrue f ↔ FragmentsFill x h)
    → (IsTrue b ↔ IsCanonical x h)
verdict_is x h b p i o t f is padding id offset texts fill = (
  λ yes. let all = all_true p i o t f (sym is ∙ yes) in record {
    padding = sym padding ∙ all.0;
    id = id.0 all.1;
    offset = sym offset ∙ all.2;
    texts = sym texts ∙ all.3;
    fragments = fill.0 all.4;
  },
  λ k.
      let a : p ≡ true = padding ∙ k.padding in
      let b : i ≡ true = id.1 k.id in
      let c : o ≡ true = offset ∙ k.offset in
      let d : t ≡ true = texts ∙ k.texts in
      let e : f ≡ true = fill.1 k.fragments in
      is ∙ rw (a, b, c, d, e) refl,
)
