-- The fields that a boot image of its parts has.
use Rattle.std.proofs.Common.{◌≡◌, ℕ, List, ◌∙◌, ap, Bool}
use Rattle.std.specs.Prelude.{map}
use Rattle.abt_sections.specs.Fields.{BootFields}
use Rattle.cmd_common_fields.specs.declared.image_kind.ImageKind.{ImageKind}
use Rattle.cmd_pack.specs.Filling.{loaded_where}

pub loaded_as : {P : Type 0} (content : P → List ℕ) (kind : ImageKind) (a a' b b' : Bool) (ps ps' : List P)
    (s x : BootFields) → a ≡ a' → b ≡ b' → ps ≡ ps' → x ≡ loaded_where kind a b (map content ps) s
    → x ≡ loaded_where kind a' b' (map content ps') s
loaded_as content kind a a' b b' ps ps' s x ea eb ep is =
    is ∙ ap (λ q. loaded_where kind q b (map content ps) s) ea ∙ ap (λ q. loaded_where kind a' q (map content ps) s) eb
    ∙ ap (λ q. loaded_where kind a' b' (map content q) s) ep
