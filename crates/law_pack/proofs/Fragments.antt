-- The ramdisk fragments of an order are those that the image was unpacked to.
use Rattle.std.proofs.Common.{◌≡◌, ℕ, zero, suc, ◌+◌, ◌<◌, true, List, [], ◌∷◌, ◌++◌, map, length, Some, codes, refl}
use Rattle.std.proofs.Common.{sym, ap, subst, ◌∙◌, arith, length-append, add-one}
use Rattle.std.specs.List.{AllZip}
use Rattle.std.specs.Option.{unwrap_or}
use Rattle.abt_sections.specs.Header.{Header, entry_of, fragment_of}
use Rattle.abt_sections.specs.declared.spec.FragmentSpec.{FragmentSpec}
use Rattle.sys_disk.specs.World.{World}
use Rattle.sys_disk.specs.Among.{FileHolds}
use Rattle.cmd_unpack.specs.Unpacking.{path_of_part}
use Rattle.cmd_common_boot.specs.declared.pack_texts.FragmentText.{FragmentText}
use Rattle.cmd_common_boot.specs.declared.part_names.ImagePart.TheVariants as files
use Rattle.law_boot.specs.Said.{SaysEach, without_board}
use Rattle.law_boot.specs.WayBack.{ramdisks_of, spec_of, specs_of}
use Rattle.cmd_pack_inputs.specs.Parts.{AreFragmentsOf}
use Rattle.law_pack.specs.Said.{IsFragmentBy}
use Rattle.law_pack.proofs.Parts.{same_bytes}

-- ---- what is said of each

-- without its board id, and with the path of its file
pub record IsText (folder : List ℕ) (i : ℕ) (text : FragmentText) (f : FragmentSpec) : Type 0 where
  pub spec : text.spec ≡ Some (without_board f)
  pub path : text.path.items ≡ path_of_part folder (files.Fragment i)

abbrev pub AreTexts : List ℕ → ℕ → List FragmentText → List FragmentSpec → Type 0
AreTexts folder i [] [] = Unit {0}
AreTexts folder i [] (f ∷ fs) = ⊥
AreTexts folder i (t ∷ ts) [] = ⊥
AreTexts folder i (t ∷ ts) (f ∷ fs) = IsText folder i t f × AreTexts folder (suc i) ts fs

pub texts_are : (folder : List ℕ) (values : List (List ℕ)) (texts : List FragmentText) (i : ℕ) (fs : List FragmentSpec)
    → AllZip (IsFragmentBy true) values texts → SaysEach folder values i fs → AreTexts folder i texts fs
texts_are folder [] [] i [] a s = tt
texts_are folder [] [] i (f ∷ fs) a s = absurd s
texts_are folder [] (t ∷ ts) i fs a s = absurd a
texts_are folder (v ∷ vs) [] i fs a s = absurd a
texts_are folder (v ∷ vs) (t ∷ ts) i [] a s = absurd s
texts_are folder (v ∷ vs) (t ∷ ts) i (f ∷ fs) a s =
    let g = a.0 (without_board f) s.0.path s.0.word in
    (record { spec = g.0; path = g.1 ∙ s.0.file }, texts_are folder vs ts (suc i) fs a.1 s.1)

-- ---- the files of fragments

abbrev pub HoldEach : World → List ℕ → ℕ → List (List ℕ) → Type 0
HoldEach world folder i [] = Unit {0}
HoldEach world folder i (r ∷ rs) = FileHolds world (path_of_part folder (files.Fragment i)) r × HoldEach world folder
    (suc i) rs

hold_more : (world : World) (folder : List ℕ) (i k : ℕ) (rs : List (List ℕ)) (r : List ℕ) → k ≡ i + length rs
    → HoldEach world folder i rs
    → FileHolds world (path_of_part folder (files.Fragment k)) r → HoldEach world folder i (rs ++ (r ∷ []))
hold_more world folder i k [] r e h f = (
  subst (λ (n : ℕ). FileHolds world (path_of_part folder (files.Fragment n)) r)
      (let q : k ≡ i = omega (arith, e) in q) f,
  tt,
)
hold_more world folder i k (q ∷ rs) r e h f = (h.0, hold_more world folder (suc i) k rs r (omega (arith, e)) h.1 f)

ramdisks_long : (x : List ℕ) (h : Header) (k : ℕ) → length (ramdisks_of x h k) ≡ k
ramdisks_long x h zero = refl
ramdisks_long x h (suc k) =
    let more = length-append (ramdisks_of x h k) (fragment_of x h k ∷ []) in
    let long = ramdisks_long x h k in
    let one : length (fragment_of x h k ∷ []) ≡ 1 = refl in
    omega (arith, more, long, one)

specs_long : (x : List ℕ) (h : Header) (k : ℕ) → length (specs_of x h k) ≡ k
specs_long x h zero = refl
specs_long x h (suc k) =
    let more = length-append (specs_of x h k) (spec_of (entry_of x h k) ∷ []) in
    let long = specs_long x h k in
    let one : length (spec_of (entry_of x h k) ∷ []) ≡ 1 = refl in
    omega (arith, more, long, one)

pub same_count : (x : List ℕ) (h : Header) (k : ℕ) → length (ramdisks_of x h k) ≡ length (specs_of x h k)
same_count x h k = ramdisks_long x h k ∙ sym (specs_long x h k)

pub hold_each : (world : World) (folder x : List ℕ) (h : Header) (k : ℕ)
    → ((i : ℕ) → i < k → FileHolds world (path_of_part folder (files.Fragment i)) (fragment_of x h i))
    → HoldEach world folder 0 (ramdisks_of x h k)
hold_each world folder x h zero f = tt
hold_each world folder x h (suc k) f =
    let long = ramdisks_long x h k in
    hold_more world folder 0 k (ramdisks_of x h k) (fragment_of x h k) (omega (arith, long))
    (hold_each world folder x h k (λ i l. f i (omega (arith, l)))) (f k (omega arith))

-- ---- what is packed

same_spec : (a b : FragmentSpec) → Some a ≡ Some b → a ≡ b
same_spec a b e = ap (λ o. unwrap_or o a) e

pub said_are : (world : World) (folder : List ℕ) (i : ℕ) (texts : List FragmentText) (fs said : List FragmentSpec)
    (ramdisks : List (List ℕ))
    → AreTexts folder i texts fs → AreFragmentsOf world texts said ramdisks → said ≡ map without_board fs
said_are world folder i [] [] [] [] t a = refl
said_are world folder i [] [] [] (r ∷ rs) t a = absurd a
said_are world folder i [] [] (s ∷ ss) [] t a = absurd a
said_are world folder i [] [] (s ∷ ss) (r ∷ rs) t a = absurd a
said_are world folder i [] (f ∷ fs) said rs t a = absurd t
said_are world folder i (x ∷ texts) [] said rs t a = absurd t
said_are world folder i (x ∷ texts) (f ∷ fs) [] [] t a = absurd a
said_are world folder i (x ∷ texts) (f ∷ fs) [] (r ∷ rs) t a = absurd a
said_are world folder i (x ∷ texts) (f ∷ fs) (s ∷ ss) [] t a = absurd a
said_are world folder i (x ∷ texts) (f ∷ fs) (s ∷ ss) (r ∷ rs) t a =
    ap (λ (g : FragmentSpec). g ∷ ss) (same_spec s (without_board f) (sym a.0.said ∙ t.0.spec))
    ∙ ap (λ (gs : List FragmentSpec). without_board f ∷ gs) (said_are world folder (suc i) texts fs ss rs t.1 a.1)

pub ramdisks_are : (world : World) (folder : List ℕ) (i : ℕ) (texts : List FragmentText) (fs said : List FragmentSpec)
    (ramdisks own : List (List ℕ))
    → AreTexts folder i texts fs → AreFragmentsOf world texts said ramdisks → HoldEach world folder i own
    → length own ≡ length fs → ramdisks ≡ own
ramdisks_are world folder i [] [] [] [] [] t a h e = refl
ramdisks_are world folder i [] [] [] [] (o ∷ own) t a h e = absurd (omega (arith, e))
ramdisks_are world folder i [] [] [] (r ∷ rs) own t a h e = absurd a
ramdisks_are world folder i [] [] (s ∷ ss) [] own t a h e = absurd a
ramdisks_are world folder i [] [] (s ∷ ss) (r ∷ rs) own t a h e = absurd a
ramdisks_are world folder i [] (f ∷ fs) said rs own t a h e = absurd t
ramdisks_are world folder i (x ∷ texts) [] said rs own t a h e = absurd t
ramdisks_are world folder i (x ∷ texts) (f ∷ fs) [] [] own t a h e = absurd a
ramdisks_are world folder i (x ∷ texts) (f ∷ fs) [] (r ∷ rs) own t a h e = absurd a
ramdisks_are world folder i (x ∷ texts) (f ∷ fs) (s ∷ ss) [] own t a h e = absurd a
ramdisks_are world folder i (x ∷ texts) (f ∷ fs) (s ∷ ss) (r ∷ rs) [] t a h e = absurd (omega (arith, e))
ramdisks_are world folder i (x ∷ texts) (f ∷ fs) (s ∷ ss) (r ∷ rs) (o ∷ own) t a h e =
    let path = path_of_part folder (files.Fragment i) in
    let file : FileHolds world path r = subst (λ (p : List ℕ). FileHolds world p r) t.0.path a.0.holds in
    ap (λ (q : List ℕ). q ∷ rs) (same_bytes world path r o file h.0)
    ∙ ap (λ (qs : List (List ℕ)). o ∷ qs)
    (ramdisks_are world folder (suc i) texts fs ss rs own t.1 a.1 h.1 (omega (arith, e)))
