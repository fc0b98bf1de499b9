-- The faults of packing, by the sizes of the parts and by their bytes.
use Rattle.std.proofs.Common.{◌≡◌, ℕ, List, [], ◌∷◌, Option, refl, ◌∙◌, ap, length}
use Rattle.std.specs.Prelude.{map}
use Rattle.abt_sections.specs.declared.fault.SectionFault.{SectionFault}
use Rattle.abt_sections.specs.declared.spec.BootSpec.{BootSpec}
use Rattle.cmd_common_fields.specs.declared.image_kind.ImageKind.{ImageKind}
use Rattle.cmd_common_boot.specs.Refused.{refusal_of}

pub sizes_as : {P : Type 0} (size : P → ℕ) (content : P → List ℕ) (ps : List P)
    → ((p : P) → size p ≡ length (content p)) → map size ps ≡ map length (map content ps)
sizes_as size content [] same = refl
sizes_as size content (p ∷ ps) same =
    ap (λ n. n ∷ map size ps) (same p) ∙ ap (λ ns. length (content p) ∷ ns) (sizes_as size content ps same)

pub refusal_as : {P : Type 0} (kind : ImageKind) (s : BootSpec) (size : P → ℕ) (content : P → List ℕ) (a b : List P)
    → ((p : P) → size p ≡ length (content p))
    → refusal_of kind s (map size a) (map size b)
    ≡ refusal_of kind s (map length (map content a)) (map length (map content b))
refusal_as kind s size content a b same =
    ap (λ x. refusal_of kind s x (map size b)) (sizes_as size content a same)
    ∙ ap (λ y. refusal_of kind s (map length (map content a)) y) (sizes_as size content b same)

-- what was returned for the sizes holds of the bytes
pub refusal_told : {P : Type 0} (kind : ImageKind) (s : BootSpec) (size : P → ℕ) (content : P → List ℕ)
    (xs ys a b : List P) (o : Option SectionFault) → o ≡ refusal_of kind s (map size xs) (map size ys) → xs ≡ a → ys ≡ b
    → ((p : P) → size p ≡ length (content p))
    → o ≡ refusal_of kind s (map length (map content a)) (map length (map content b))
refusal_told kind s size content xs ys a b o told first next same =
    told ∙ ap (λ l. refusal_of kind s (map size l) (map size ys)) first
    ∙ ap (λ l. refusal_of kind s (map size a) (map size l)) next ∙ refusal_as kind s size content a b same
