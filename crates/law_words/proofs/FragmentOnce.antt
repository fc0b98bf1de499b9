-- A word describes one ramdisk fragment.
use Rattle.std.proofs.Common.{inl, inr, ◌≡◌, ◌<◌, ◌^◌, ◌==◌, ◌&&◌, nat_lt, ℕ, zero, suc, Bool, true, false, cond, List}
use Rattle.std.proofs.Common.{[], ◌∷◌, Some, None, codes, bytes_eq, length, refl, sym, ap, subst, ◌∙◌, arith, rules}
use Rattle.std.specs.Prelude.{unwrap_or}
use Rattle.std.specs.Str.{all_ascii_digits}
use Rattle.std.specs.Str.Parse.{digits_value}
use Rattle.std.proofs.lemmas.Bool.{and_parts, cases_Bool, eq-eqb, ltb-true, true≢false}
use Rattle.std.proofs.lemmas.Slice.Eq.{bytes_eq-Decides}
use Rattle.abt_sections.specs.declared.spec.FragmentSpec.{FragmentSpec}
use Rattle.abt_sections.specs.Fields.{filled}
use Rattle.cmd_common_fields.specs.Fragment.{IsEscapedFragment, decimal_u32, type_number}
use Rattle.cmd_common_fields.specs.Unescaped.{unescaped}
use Rattle.law_pack.proofs.PackedCuts.{Lacks, cut_once, lacks_high}

-- ---- a TYPE has no colon

abbrev lacks_test : ℕ → List ℕ → Bool
lacks_test mark [] = true
lacks_test mark (c ∷ x) = cond (c == mark) false (lacks_test mark x)

lacks_more : (mark c : ℕ) (x : List ℕ) → Lacks mark x → (c == mark) ≡ false → Lacks mark (c ∷ x)
lacks_more mark c x h e zero l = λ same. true≢false (sym (eq-eqb c mark same) ∙ e)
lacks_more mark c x h e (suc i) l = h i (omega (arith, l))

lacks_tested : (mark : ℕ) (x : List ℕ) → lacks_test mark x ≡ true → Lacks mark x
lacks_tested mark [] h = λ i l. absurd (let q : i < 0 = l in omega arith)
lacks_tested mark (c ∷ x) h = elim (cases_Bool (c == mark)) [
  | inl e ↦ absurd (true≢false (sym h ∙ ap (λ t. cond t false (lacks_test mark x)) e))
  | inr e ↦ lacks_more mark c x
      (lacks_tested mark x (sym (ap (λ t. cond t false (lacks_test mark x)) e) ∙ h)) e
]

named_lacks : (text name : List ℕ) → bytes_eq text name ≡ true → lacks_test 58 name ≡ true → Lacks 58 text
named_lacks text name e h = subst (Lacks 58) (sym ((bytes_eq-Decides text name).0 e)) (lacks_tested 58 name h)

none_some : (n : ℕ) → None ≡ Some n → ⊥
none_some n e = search (rules, e)

abbrev is_decimal_u32 : List ℕ → Bool
is_decimal_u32 text = all_ascii_digits text && nat_lt 0 (length text) && nat_lt (digits_value 10 text) (2 ^ 32)

decimal_lacks : (text : List ℕ) (n : ℕ) → decimal_u32 text ≡ Some n → Lacks 58 text
decimal_lacks text n e = elim (cases_Bool (is_decimal_u32 text)) [
  | inl t ↦
      let p = and_parts (all_ascii_digits text && nat_lt 0 (length text)) (nat_lt (digits_value 10 text) (2 ^ 32)) t in
      let q = and_parts (all_ascii_digits text) (nat_lt 0 (length text)) p.0 in
      lacks_high 58 text (digits_value 10 text) (omega arith)
      (record { digits = q.0; some = ltb-true 0 (length text) q.1; value = refl })
  | inr t ↦ absurd (none_some n (sym (ap (λ b. cond b (Some (digits_value 10 text)) None) t) ∙ e))
]

type_lacks : (text : List ℕ) (n : ℕ) → type_number text ≡ Some n → Lacks 58 text
type_lacks text n e = elim (cases_Bool (bytes_eq text (codes "none"))) [
  | inl a ↦ named_lacks text (codes "none") a refl
  | inr a ↦ elim (cases_Bool (bytes_eq text (codes "platform"))) [
    | inl b ↦ named_lacks text (codes "platform") b refl
    | inr b ↦ elim (cases_Bool (bytes_eq text (codes "recovery"))) [
      | inl c ↦ named_lacks text (codes "recovery") c refl
      | inr c ↦ elim (cases_Bool (bytes_eq text (codes "dlkm"))) [
        | inl d ↦ named_lacks text (codes "dlkm") d refl
        | inr d ↦ decimal_lacks text n (sym (is_decimal a b c d) ∙ e)
      ]
    ]
  ]
]
  where
    is_decimal : bytes_eq text (codes "none") ≡ false → bytes_eq text (codes "platform") ≡ false
        → bytes_eq text (codes "recovery") ≡ false → bytes_eq text (codes "dlkm") ≡ false
        → type_number text ≡ decimal_u32 text
    is_decimal a b c d = rw (a, b, c, d) refl

-- ---- one cut, and one fragment

same_some : (a b : ℕ) → Some a ≡ Some b → a ≡ b
same_some a b e = ap (λ o. unwrap_or o a) e

same_spec : (f : ℕ → List ℕ → List ℕ → FragmentSpec) (a d : ℕ) (b c e g : List ℕ) → a ≡ d → b ≡ e → c ≡ g
    → f a b c ≡ f d e g
same_spec f a d b c e g p q r = cc

pub fragment_once : (word : List ℕ) (a b : FragmentSpec) (p q : List ℕ) → IsEscapedFragment word a p
    → IsEscapedFragment word b q → (a ≡ b) × (p ≡ q)
fragment_once word a b p q h k =
    let kinds = cut_once 58 h.kind k.kind _ _ (type_lacks h.kind a.kind h.of_parts.number)
    (type_lacks k.kind b.kind k.of_parts.number) (sym h.parts ∙ k.parts) in
    let names = cut_once 58 h.name k.name _ _ h.no_colon k.no_colon kinds.1 in (
      same_spec (λ x y z. record { kind = x; name = y; board_id = z }) a.kind b.kind a.name a.board_id b.name b.board_id
          (same_some a.kind b.kind (sym h.of_parts.number ∙ ap type_number kinds.0 ∙ k.of_parts.number))
          (h.of_parts.named ∙ ap (λ n. filled 32 (unescaped n)) names.0 ∙ sym k.of_parts.named)
          (h.of_parts.no_board ∙ sym k.of_parts.no_board),
      names.1,
    )
