-- The words of an image say the file of each part.
use Rattle.std.proofs.Common.{◌≡◌, ℕ, false, List, [], ◌∷◌, ◌++◌, Option, Some, None, codes, flat_map, refl, ap, ◌∙◌}
use Rattle.std.proofs.Common.{append_assoc}
use Rattle.std.proofs.lemmas.List.Concat.{flat_map-cons}
use Rattle.abt_io.specs.Bytes.{AreBytes}
use Rattle.abt_headers.specs.declared.boot.BootHeader.{BootHeader}
use Rattle.abt_headers.specs.declared.boot.BootHeader.TheVariants.{V0, V1, V2, V3, V4}
use Rattle.abt_headers.specs.declared.vendor.VendorFront.{VendorFront}
use Rattle.abt_headers.specs.Vendor.{Tail}
use Rattle.abt_sections.specs.Header.{Header, OfBoot, OfVendor, places_of}
use Rattle.cmd_common_texts.specs.Info.{escaped}
use Rattle.law_boot.specs.Said.{SaysFiles, SaysText, value_of}
use Rattle.cmd_common_fields.specs.Unescaped.{unescaped}
use Rattle.cmd_common_texts.specs.Words.{has_table, image_words}
use Rattle.law_boot.proofs.Escapes.{one_back, tail_bytes}

-- an escaped text before another
pub front_back : (x y : List ℕ) → AreBytes x → unescaped (flat_map escaped x ++ y) ≡ x ++ unescaped y
front_back [] y h = refl
front_back (b ∷ x) y h =
    ap (λ (l : List ℕ). unescaped (l ++ y)) (flat_map-cons escaped b x)
    ∙ ap unescaped (append_assoc (escaped b) (flat_map escaped x) y)
    ∙ one_back b (flat_map escaped x ++ y) (h 0)
    ∙ ap (λ (l : List ℕ). b ∷ l) (front_back x y (tail_bytes b x h))

module _ (folder x : List ℕ) (bytes : AreBytes folder) where
  -- a word `--NAME=FOLDER/FILE`
  says_file : (words : List (List ℕ)) (name file : List ℕ)
      → value_of name words ≡ Some (flat_map escaped folder ++ file) → unescaped file ≡ file
      → SaysText words name (folder ++ file)
  says_file words name file e plain = (
    flat_map escaped folder ++ file,
    e,
    front_back folder file bytes
        ∙ ap (λ (l : List ℕ). folder ++ l) plain,
  )

  boot_files : (h : BootHeader) → SaysFiles (image_words folder x (OfBoot h)) folder false (places_of (OfBoot h))
  boot_files (V0 f) =
      let words = image_words folder x (OfBoot (V0 f)) in (
        says_file words (codes "kernel") (codes "/kernel") refl refl,
        (
          says_file words (codes "ramdisk") (codes "/ramdisk") refl refl,
          (says_file words (codes "second") (codes "/second") refl refl, tt),
        ),
      )
  boot_files (V1 f d) =
      let words = image_words folder x (OfBoot (V1 f d)) in (
        says_file words (codes "kernel") (codes "/kernel") refl refl,
        (
          says_file words (codes "ramdisk") (codes "/ramdisk") refl refl,
          (
            says_file words (codes "second") (codes "/second") refl refl,
            (says_file words (codes "recovery-dtbo") (codes "/recovery_dtbo") refl refl, tt),
          ),
        ),
      )
  boot_files (V2 f d t) =
      let words = image_words folder x (OfBoot (V2 f d t)) in (
        says_file words (codes "kernel") (codes "/kernel") refl refl,
        (
          says_file words (codes "ramdisk") (codes "/ramdisk") refl refl,
          (
            says_file words (codes "second") (codes "/second") refl refl,
            (
              says_file words (codes "recovery-dtbo") (codes "/recovery_dtbo") refl refl,
              (says_file words (codes "dtb") (codes "/dtb") refl refl, tt),
            ),
          ),
        ),
      )
  boot_files (V3 f) =
      let words = image_words folder x (OfBoot (V3 f)) in (
        says_file words (codes "kernel") (codes "/kernel") refl refl,
        (says_file words (codes "ramdisk") (codes "/ramdisk") refl refl, tt),
      )
  boot_files (V4 f signature) =
      let words = image_words folder x (OfBoot (V4 f signature)) in (
        says_file words (codes "kernel") (codes "/kernel") refl refl,
        (
          says_file words (codes "ramdisk") (codes "/ramdisk") refl refl,
          (says_file words (codes "signature") (codes "/signature") refl refl, tt),
        ),
      )

  vendor_files : (f : VendorFront) (o : Option Tail)
      → SaysFiles (image_words folder x (OfVendor (record { front = f; tail = o }))) folder
      (has_table (OfVendor (record { front = f; tail = o }))) (places_of (OfVendor (record { front = f; tail = o })))
  vendor_files f None =
      let words = image_words folder x (OfVendor (record { front = f; tail = None })) in (
        says_file words (codes "ramdisk") (codes "/vendor_ramdisk") refl refl,
        (says_file words (codes "dtb") (codes "/dtb") refl refl, tt),
      )
  vendor_files f (Some t) =
      let words = image_words folder x (OfVendor (record { front = f; tail = Some t })) in (
        tt,
        (
          says_file words (codes "dtb") (codes "/dtb") refl refl,
          (
            tt,
            (says_file words (codes "bootconfig") (codes "/bootconfig") refl refl, tt),
          ),
        ),
      )

  pub files_said : (h : Header) → SaysFiles (image_words folder x h) folder (has_table h) (places_of h)
  files_said (OfBoot h) = boot_files h
  files_said (OfVendor v) = vendor_files v.front v.tail
