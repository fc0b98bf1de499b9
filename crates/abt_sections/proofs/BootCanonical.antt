-- A boot image is canonical exactly where it is packed of some fields and parts.
use Rattle.std.proofs.Common.{◌≡◌, ℕ, ◌+◌, ◌≤◌, ◌<◌, ◌^◌, inl, inr, true, false, ◌&&◌, ◌==◌, List, [], ◌∷◌, ◌++◌}
use Rattle.std.proofs.Common.{length, take, drop, map, replicate, refl, sym, ap, subst, ◌∙◌, arith, lit<, lit≤}
use Rattle.std.proofs.Common.{append_assoc, length-append, length-drop, Ok}
use Rattle.std.specs.Prelude.{slice_index}
use Rattle.std.proofs.lemmas.Bool.{and_parts, and_from, eqb-true, eq-eqb}
use Rattle.std.proofs.lemmas.List.{length-map}
use Rattle.abt_headers.specs.declared.page.PageSize.{PageSize}
use Rattle.abt_headers.specs.declared.boot.BootFront.{BootFront}
use Rattle.abt_headers.specs.declared.boot.DtboFields.{DtboFields}
use Rattle.abt_headers.specs.declared.boot.DtbFields.{DtbFields}
use Rattle.abt_headers.specs.declared.boot.ShortFront.{ShortFront}
use Rattle.abt_headers.specs.declared.boot.BootHeader.{BootHeader}
use Rattle.abt_headers.specs.declared.boot.BootHeader.TheVariants.{V0, V1, V2, V3, V4}
use Rattle.abt_headers.specs.Page.{page_bytes, page_from, pages}
use Rattle.abt_headers.specs.Boot.{boot_page, boot_record, boot_size, boot_sections}
use Rattle.abt_headers.specs.Fits.{FrontFits, ShortFits, BootFits}
use Rattle.abt_headers.proofs.Fields.{IsBytes}
use Rattle.abt_sections.specs.Fields.{BootFields, is_text, filled}
use Rattle.abt_sections.specs.Id.{id_of}
use Rattle.abt_sections.specs.Layout.{PartsPlaced, Sized, zeros_behind, padded, laid, parts_of}
use Rattle.abt_sections.specs.Refusal.{boot_names, boot_refusal, size_refusal}
use Rattle.abt_sections.specs.BootCanon.{front_with, dtbo_offset, dtbo_for, dtb_for, short_for, boot_header_with}
use Rattle.abt_sections.specs.BootCanon.{boot_header_of, boot_page_for, page_or, boot_image, boot_image_with}
use Rattle.abt_sections.specs.BootCanon.{boot_canon}
use Rattle.abt_sections.specs.Header.{OfBoot, image_header_at, places_of}
use Rattle.abt_sections.specs.Open.{HasImage}
use Rattle.abt_sections.specs.Check.{all_zero, text_field, front_texts, short_texts, cmd_common_texts}
use Rattle.abt_sections.specs.Check.{boot_offset_holds}
use Rattle.abt_sections.specs.Check.{BootIdHolds, IsCanonical}
use Rattle.abt_sections.specs.Canonical.{BootNumbers, IsBootInput, StartsAsBoot}
use Rattle.abt_sections.specs.Unpacked.{HoldsBoot}
use Rattle.abt_sections.proofs.Accepting.{BootAccepted, boot_accepted, boot_passes, text_parts, page_again}
use Rattle.abt_sections.proofs.Accepting.{page_is_some, AllSmall, none_large, all_small, neither, none_of, offset_fits}
use Rattle.abt_sections.proofs.Accepting.{id_long}
use Rattle.abt_sections.proofs.Canons.{five}
use Rattle.abt_sections.proofs.Decoding.{decoded, header_again}
use Rattle.abt_sections.proofs.FieldTexts.{all_zero_is, length_filled, text_filled, text_of, text_no_zero, text_is}
use Rattle.abt_sections.proofs.FieldTexts.{is_short, two_fields, each_field, short_front}
use Rattle.abt_sections.proofs.Laying.{is_image}
use Rattle.abt_sections.proofs.Padding.{laid_out_back, laid_out_padded, placed_parts}
use Rattle.abt_sections.proofs.Wholes.{IsPacked, placed_there, within_from}
use Rattle.abt_sections.proofs.Starting.{starts, continues, sized_there}

-- ---- from a canonical image to what it is packed of

-- the fields that a header of versions 0 to 2 was made of
abbrev front_spec : ℕ → ℕ → BootFront → BootFields
front_spec version dtb_addr f = record {
  version = version;
  page = page_bytes f.page_size;
  kernel_addr = f.kernel_addr;
  ramdisk_addr = f.ramdisk_addr;
  second_addr = f.second_addr;
  tags_addr = f.tags_addr;
  dtb_addr = dtb_addr;
  os = f.os_version;
  name = text_of f.name;
  cmdline = text_of (f.cmdline ++ f.extra_cmdline);
}

-- and of versions 3 and 4, which have no more
abbrev short_spec : ℕ → ShortFront → BootFields
short_spec version f = record {
  version = version;
  page = 4096;
  kernel_addr = 0;
  ramdisk_addr = 0;
  second_addr = 0;
  tags_addr = 0;
  dtb_addr = 0;
  os = f.os_version;
  name = [];
  cmdline = text_of f.cmdline;
}

record FrontTexts (f : BootFront) : Type 0 where
  name : filled 16 (text_of f.name) ≡ f.name
  front : filled 512 (take 512 (text_of (f.cmdline ++ f.extra_cmdline))) ≡ f.cmdline
  back : filled 1024 (drop 512 (text_of (f.cmdline ++ f.extra_cmdline))) ≡ f.extra_cmdline
  name_text : is_text 15 (text_of f.name) ≡ true
  cmdline_text : is_text 1535 (text_of (f.cmdline ++ f.extra_cmdline)) ≡ true

texts_back : (f : BootFront) → FrontFits f → front_texts f ≡ true → FrontTexts f
texts_back f fits e =
    let p = and_parts (text_field f.name) (text_field (f.cmdline ++ f.extra_cmdline)) e in
    let n = text_is f.name p.0 in
    let y = f.cmdline ++ f.extra_cmdline in
    let c = text_is y p.1 in
    let long : length y ≡ 512 + 1024 = whole f.cmdline f.extra_cmdline fits.cmdline fits.extra_cmdline in
    let t = text_of y in
    let few : length t ≤ 1535 = omega (arith, c.0, long) in
    let within : length t ≤ 512 + 1024 = omega (arith, few) in
    let both = each_field 512 1024 f.cmdline f.extra_cmdline t fits.cmdline within
    (c.1 ∙ ap (λ (k : ℕ). filled k t) long) in
    let small : length (text_of f.name) ≤ 15 = omega (arith, n.0, fits.name) in
    record {
      name = sym (n.1 ∙ ap (λ (k : ℕ). filled k (text_of f.name)) fits.name);
      front = sym both.0;
      back = sym both.1;
      name_text = is_short 15 (text_of f.name) small (text_no_zero f.name);
      cmdline_text = is_short 1535 t few (text_no_zero y);
    }
  where
    whole : (a b : List ℕ) → length a ≡ 512 → length b ≡ 1024 → length (a ++ b) ≡ 512 + 1024
    whole a b h k = length-append a b ∙ ap (λ (n : ℕ). n + length b) h ∙ ap (λ (n : ℕ). 512 + n) k

front_same : (f : BootFront) (page : PageSize) (k r s : ℕ) (name cmdline id extra : List ℕ) → page ≡ f.page_size → k
    ≡ f.kernel_size → r ≡ f.ramdisk_size → s ≡ f.second_size → name ≡ f.name → cmdline ≡ f.cmdline → id ≡ f.id → extra
    ≡ f.extra_cmdline
    → record {
      kernel_size = k;
      kernel_addr = f.kernel_addr;
      ramdisk_size = r;
      ramdisk_addr = f.ramdisk_addr;
      second_size = s;
      second_addr = f.second_addr;
      tags_addr = f.tags_addr;
      page_size = page;
      os_version = f.os_version;
      name = name;
      cmdline = cmdline;
      id = id;
      extra_cmdline = extra;
    } ≡ f
front_same f page k r s name cmdline id extra a b c d e g h i = rw (a, b, c, d, e, g, h, i) refl

dtbo_same : (d : DtboFields) (a b c : ℕ) → a ≡ d.recovery_dtbo_size → b ≡ d.recovery_dtbo_offset → c ≡ d.header_size
    → record { recovery_dtbo_size = a; recovery_dtbo_offset = b; header_size = c } ≡ d
dtbo_same d a b c e g h = rw (e, g, h) refl

dtb_same : (t : DtbFields) (a : ℕ) → a ≡ t.dtb_size → record { dtb_size = a; dtb_addr = t.dtb_addr } ≡ t
dtb_same t a e = rw e refl

short_same : (f : ShortFront) (k r h : ℕ) (reserved cmdline : List ℕ) → k ≡ f.kernel_size → r ≡ f.ramdisk_size → h
    ≡ f.header_size → reserved ≡ f.reserved → cmdline ≡ f.cmdline
    → record {
      kernel_size = k;
      ramdisk_size = r;
      os_version = f.os_version;
      header_size = h;
      reserved = reserved;
      cmdline = cmdline;
    } ≡ f
short_same f k r h reserved cmdline a b c d e = rw (a, b, c, d, e) refl

offset_same : (p q k k' r r' s s' d d' : ℕ) → p ≡ q → k ≡ k' → r ≡ r' → s ≡ s' → d ≡ d' → dtbo_offset p k r s d
    ≡ dtbo_offset q k' r' s' d'
offset_same p q k k' r r' s s' d d' a b c e g = rw (a, b, c, e, g) refl

-- the fields that a header and parts were made of
record Found (h : BootHeader) (parts : List (List ℕ)) : Type 0 where
  fields : BootFields
  input : IsBootInput fields parts
  same : boot_header_of fields parts ≡ h

few : (n m : ℕ) → n ≡ m → m < 2 ^ 32 → n ≤ 4294967295
few n m e h = omega (arith, e, h)

page_kept : (p : PageSize) → page_or (page_from (page_bytes p)) ≡ p
page_kept p = ap page_or (page_again p)

front_numbers : (v dtb : ℕ) (f : BootFront) → FrontFits f → dtb < 2 ^ 64 → BootNumbers (front_spec v dtb f)
front_numbers v dtb f fits h = record {
  kernel_addr = fits.kernel_addr;
  ramdisk_addr = fits.ramdisk_addr;
  second_addr
      = fits.second_addr;
  tags_addr = fits.tags_addr;
  dtb_addr = h;
  os = fits.os_version;
}

front_input : (v dtb : ℕ) (f : BootFront) (parts : List (List ℕ)) → v ≤ 4 → FrontFits f → FrontTexts f → dtb < 2 ^ 64
    → length parts ≡ length (boot_names v) → AllSmall (map length parts) → IsBootInput (front_spec v dtb f) parts
front_input v dtb f parts low fits t h count small = record {
  numbers = front_numbers v dtb f fits h;
  count = count;
  accepted = none_of (boot_refusal (front_spec v dtb f)) (size_refusal (boot_names v) (map length parts))
      (boot_passes (front_spec v dtb f) low (page_is_some f.page_size) t.name_text t.cmdline_text)
      (none_large (boot_names v) (map length parts) small);
}

found_0 : (f : BootFront) (a b c : List ℕ) → FrontFits f → Sized (boot_sections (V0 f)) (a ∷ b ∷ c ∷ [])
    → front_texts f ≡ true → f.id ≡ id_of (a ∷ b ∷ c ∷ []) → Found (V0 f) (a ∷ b ∷ c ∷ [])
unfolding boot_header_with
found_0 f a b c fits s e id =
    let t = texts_back f fits e in
    record {
      fields = front_spec 0 0 f;
      input = front_input 0 0 f (a ∷ b ∷ c ∷ []) (lit≤ tt) fits t (lit< tt) refl
          (few _ _ s.0 fits.kernel_size, (few _ _ s.1.0 fits.ramdisk_size, (few _ _ s.1.1.0 fits.second_size, tt)));
      same = ap (λ (g : BootFront). V0 g) (front_same f _ _ _ _ _ _ _ _ (page_kept f.page_size) s.0 s.1.0 s.1.1.0
          t.name t.front (sym id) t.back);
    }

-- what the offset and header_size say
offset_parts : (d : DtboFields) (size o : ℕ) → ((d.header_size == size) && (d.recovery_dtbo_offset == o)) ≡ true
    → (d.header_size ≡ size) × (d.recovery_dtbo_offset ≡ o)
offset_parts d size o e = let p = and_parts (d.header_size == size) (d.recovery_dtbo_offset == o) e in
    (eqb-true _ _ p.0, eqb-true _ _ p.1)

found_1 : (f : BootFront) (d : DtboFields) (a b c r : List ℕ) → BootFits (V1 f d)
    → Sized (boot_sections (V1 f d)) (a ∷ b ∷ c ∷ r ∷ []) → front_texts f ≡ true → boot_offset_holds (V1 f d) ≡ true
    → f.id ≡ id_of (a ∷ b ∷ c ∷ r ∷ []) → Found (V1 f d) (a ∷ b ∷ c ∷ r ∷ [])
unfolding boot_header_with
found_1 f d a b c r fits s e o id =
    let t = texts_back f fits.0 e in
    let parts = a ∷ b ∷ c ∷ r ∷ [] in
    let sp = front_spec 1 0 f in
    let g = offset_parts d 1648 (dtbo_offset (page_bytes f.page_size) f.kernel_size f.ramdisk_size f.second_size
    d.recovery_dtbo_size) o in
    let page = page_kept f.page_size in
    let at : dtbo_offset (page_bytes (boot_page_for sp)) (length a) (length b) (length c) (length r)
    ≡ d.recovery_dtbo_offset = offset_same _ _ _ _ _ _ _ _ _ _ (ap page_bytes page) s.0 s.1.0 s.1.1.0 s.1.1.1.0
    ∙ sym g.1 in
    let first = front_same f _ _ _ _ _ _ _ _ page s.0 s.1.0 s.1.1.0 t.name t.front (sym id) t.back in
    let second = dtbo_same d _ _ _ s.1.1.1.0 at (sym g.0) in
    record {
      fields = sp;
      input = front_input 1 0 f parts (lit≤ tt) fits.0 t (lit< tt) refl (
        few _ _ s.0 fits.0.kernel_size,
        (
          few _ _ s.1.0 fits.0.ramdisk_size,
          (few _ _ s.1.1.0 fits.0.second_size, (few _ _ s.1.1.1.0 fits.1.recovery_dtbo_size, tt)),
        ),
      );
      same = ap (λ (g : BootFront). V1 g (dtbo_for (boot_page_for sp) (filled 5 (map length parts)) 1648)) first
          ∙ ap (λ (g : DtboFields). V1 f g) second;
    }

found_2 : (f : BootFront) (d : DtboFields) (u : DtbFields) (a b c r q : List ℕ) → BootFits (V2 f d u)
    → Sized (boot_sections (V2 f d u)) (a ∷ b ∷ c ∷ r ∷ q ∷ []) → front_texts f ≡ true → boot_offset_holds (V2 f d u)
    ≡ true → f.id ≡ id_of (a ∷ b ∷ c ∷ r ∷ q ∷ []) → Found (V2 f d u) (a ∷ b ∷ c ∷ r ∷ q ∷ [])
unfolding boot_header_with
found_2 f d u a b c r q fits s e o id =
    let t = texts_back f fits.0 e in
    let parts = a ∷ b ∷ c ∷ r ∷ q ∷ [] in
    let sp = front_spec 2 u.dtb_addr f in
    let g = offset_parts d 1660 (dtbo_offset (page_bytes f.page_size) f.kernel_size f.ramdisk_size f.second_size
    d.recovery_dtbo_size) o in
    let page = page_kept f.page_size in
    let at : dtbo_offset (page_bytes (boot_page_for sp)) (length a) (length b) (length c) (length r)
    ≡ d.recovery_dtbo_offset = offset_same _ _ _ _ _ _ _ _ _ _ (ap page_bytes page) s.0 s.1.0 s.1.1.0 s.1.1.1.0
    ∙ sym g.1 in
    let first = front_same f _ _ _ _ _ _ _ _ page s.0 s.1.0 s.1.1.0 t.name t.front (sym id) t.back in
    let second = dtbo_same d _ _ _ s.1.1.1.0 at (sym g.0) in
    let third = dtb_same u (length q) s.1.1.1.1.0 in
    record {
      fields = sp;
      input = front_input 2 u.dtb_addr f parts (lit≤ tt) fits.0 t fits.2.dtb_addr refl (
        few _ _ s.0 fits.0.kernel_size,
        (
          few _ _ s.1.0 fits.0.ramdisk_size,
          (
            few _ _ s.1.1.0 fits.0.second_size,
            (
              few _ _ s.1.1.1.0 fits.1.recovery_dtbo_size,
              (few _ _ s.1.1.1.1.0 fits.2.dtb_size, tt),
            ),
          ),
        ),
      );
      same =
          ap (λ (g : BootFront). V2 g (dtbo_for (boot_page_for sp) (filled 5 (map length parts)) 1660)
          (dtb_for sp (filled 5 (map length parts)))) first
          ∙ ap (λ (g : DtboFields). V2 f g (dtb_for sp (filled 5 (map length parts)))) second
          ∙ ap (λ (g : DtbFields). V2 f d g) third;
    }

record ShortTexts (f : ShortFront) : Type 0 where
  reserved : replicate 16 0 ≡ f.reserved
  cmdline : filled 1536 (text_of f.cmdline) ≡ f.cmdline
  cmdline_text : is_text 1535 (text_of f.cmdline) ≡ true

short_back : (f : ShortFront) → ShortFits f → short_texts f ≡ true → ShortTexts f
short_back f fits e =
    let p = and_parts (all_zero f.reserved) (text_field f.cmdline) e in
    let c = text_is f.cmdline p.1 in
    let small : length (text_of f.cmdline) ≤ 1535 = omega (arith, c.0, fits.cmdline) in
    record {
      reserved = sym (all_zero_is f.reserved p.0 ∙ ap (λ (n : ℕ). replicate n 0) fits.reserved);
      cmdline = sym (c.1 ∙ ap (λ (k : ℕ). filled k (text_of f.cmdline)) fits.cmdline);
      cmdline_text = is_short 1535 (text_of f.cmdline) small (text_no_zero f.cmdline);
    }

short_input : (v : ℕ) (f : ShortFront) (parts : List (List ℕ)) → v ≤ 4 → ShortFits f → ShortTexts f → length parts
    ≡ length (boot_names v) → AllSmall (map length parts) → IsBootInput (short_spec v f) parts
short_input v f parts low fits t count small = record {
  numbers = record {
    kernel_addr = lit< tt;
    ramdisk_addr = lit< tt;
    second_addr = lit< tt;
    tags_addr = lit< tt;
    dtb_addr = lit< tt;
    os = fits.os_version;
  };
  count = count;
  accepted = none_of (boot_refusal (short_spec v f)) (size_refusal (boot_names v) (map length parts))
      (boot_passes (short_spec v f) low refl refl t.cmdline_text) (none_large (boot_names v) (map length parts) small);
}

found_3 : (f : ShortFront) (a b : List ℕ) → ShortFits f → Sized (boot_sections (V3 f)) (a ∷ b ∷ []) → short_texts f
    ≡ true → boot_offset_holds (V3 f) ≡ true → Found (V3 f) (a ∷ b ∷ [])
unfolding boot_header_with
found_3 f a b fits s e o =
    let t = short_back f fits e in
    record {
      fields = short_spec 3 f;
      input = short_input 3 f (a ∷ b ∷ []) (lit≤ tt) fits t refl
          (few _ _ s.0 fits.kernel_size, (few _ _ s.1.0 fits.ramdisk_size, tt));
      same = ap (λ (g : ShortFront). V3 g) (short_same f _ _ _ _ _ s.0 s.1.0 (sym (eqb-true _ _ o)) t.reserved
          t.cmdline);
    }

found_4 : (f : ShortFront) (n : ℕ) (a b c : List ℕ) → BootFits (V4 f n)
    → Sized (boot_sections (V4 f n)) (a ∷ b ∷ c ∷ []) → short_texts f ≡ true → boot_offset_holds (V4 f n) ≡ true
    → Found (V4 f n) (a ∷ b ∷ c ∷ [])
unfolding boot_header_with
found_4 f n a b c fits s e o =
    let t = short_back f fits.0 e in
    record {
      fields = short_spec 4 f;
      input = short_input 4 f (a ∷ b ∷ c ∷ []) (lit≤ tt) fits.0 t refl
          (few _ _ s.0 fits.0.kernel_size, (few _ _ s.1.0 fits.0.ramdisk_size, (few _ _ s.1.1.0 fits.1, tt)));
      same =
          ap (λ (g : ShortFront). V4 g (length c)) (short_same f _ _ _ _ _ s.0 s.1.0 (sym (eqb-true _ _ o)) t.reserved
          t.cmdline)
          ∙ ap (λ (m : ℕ). V4 f m) s.1.1.0;
    }

found : (x : List ℕ) (h : BootHeader) → BootFits h → Sized (boot_sections h) (parts_of x (places_of (OfBoot h)))
    → cmd_common_texts h ≡ true → boot_offset_holds h ≡ true → BootIdHolds x h
    → Found h (parts_of x (places_of (OfBoot h)))
found x (V0 f) fits s t o id = found_0 f _ _ _ fits s t id
found x (V1 f d) fits s t o id = found_1 f d _ _ _ _ fits s t o id
found x (V2 f d u) fits s t o id = found_2 f d u _ _ _ _ _ fits s t o id
found x (V3 f) fits s t o id = found_3 f _ _ fits s t o
found x (V4 f n) fits s t o id = found_4 f n _ _ _ fits s t o

pub boot_found : (x : List ℕ) (h : BootHeader) → IsBytes x → HasImage x (OfBoot h) → IsCanonical x (OfBoot h)
    → StartsAsBoot x
unfolding boot_image_with
boot_found x h k has e =
    let d = decoded x (OfBoot h) k has.header in
    let parts = parts_of x (places_of (OfBoot h)) in
    let s = sized_there (boot_page h) (pages (boot_size h) (boot_page h)) (boot_sections h) x has.there in
    let f = found x h d.fits s e.texts e.offset e.id in
    let b = laid_out_back x (OfBoot h) d.fits d.size d.begins has.there e.padding in
    record {
      fields = f.fields;
      parts = parts;
      input = f.input;
      front = starts x (boot_canon f.fields parts) b.0 (b.1 ∙ ap (λ (g : BootHeader). boot_image g parts ++ b.0)
          (sym f.same));
    }

-- ---- and back

abbrev IdIs : List (List ℕ) → BootHeader → Type 0
IdIs parts (V0 f) = f.id ≡ id_of parts
IdIs parts (V1 f d) = f.id ≡ id_of parts
IdIs parts (V2 f d t) = f.id ≡ id_of parts
IdIs parts (V3 f) = Unit {0}
IdIs parts (V4 f n) = Unit {0}

-- what a header that was made of fields and parts has
record Made (parts : List (List ℕ)) (h : BootHeader) : Type 0 where
  fits : BootFits h
  sized : Sized (boot_sections h) parts
  texts : cmd_common_texts h ≡ true
  offset : boot_offset_holds h ≡ true
  id : IdIs parts h

id_back : (x : List ℕ) (h : BootHeader) (parts : List (List ℕ)) → parts_of x (places_of (OfBoot h)) ≡ parts
    → IdIs parts h → BootIdHolds x h
id_back x (V0 f) parts e id = id ∙ ap id_of (sym e)
id_back x (V1 f d) parts e id = id ∙ ap id_of (sym e)
id_back x (V2 f d t) parts e id = id ∙ ap id_of (sym e)
id_back x (V3 f) parts e id = tt
id_back x (V4 f n) parts e id = tt

made_canonical : (x : List ℕ) (h : BootHeader) (parts : List (List ℕ)) (rest : List ℕ) → Made parts h → x
    ≡ boot_image h parts ++ rest → IsPacked x (OfBoot h)
made_canonical x h parts rest m e =
    let i = is_image (OfBoot h) parts rest m.fits m.sized in
    let placed = subst (λ (y : List ℕ). PartsPlaced y (places_of (OfBoot h)) parts) (sym e) i.placed in
    record {
      header = header_front x h parts rest m.fits e;
      there = placed_there x (places_of (OfBoot h)) parts placed;
      canonical = record {
        padding = laid_out_padded x (OfBoot h) parts rest m.fits m.sized e;
        id = id_back x h parts (placed_parts x (places_of (OfBoot h)) parts placed) m.id;
        offset = m.offset;
        texts = m.texts;
        fragments = λ t. absurd t;
      };
    }
  where
    header_front : (x : List ℕ) (h : BootHeader) (parts : List (List ℕ)) (rest : List ℕ) → BootFits h → x
        ≡ boot_image h parts ++ rest → image_header_at x ≡ Ok (OfBoot h)
    header_front x h parts rest fits e =
        let p = boot_page h in
        let r = boot_record h in
        let tail = laid p parts ++ rest in
        let zeros = zeros_behind (length r) p in
        header_again x (OfBoot h) (zeros ++ tail) fits (e ∙ append_assoc (padded p r) (laid p parts) rest
        ∙ append_assoc r zeros tail)

front_made : (s : BootFields) (page : PageSize) (sizes id : List ℕ) → BootNumbers s → is_text 15 s.name ≡ true
    → is_text 1535 s.cmdline ≡ true → slice_index sizes 0 ≤ 4294967295 → slice_index sizes 1 ≤ 4294967295
    → slice_index sizes 2 ≤ 4294967295 → length id ≡ 32
    → FrontFits (front_with false s page sizes id) × (front_texts (front_with false s page sizes id) ≡ true)
front_made s page sizes id n name cmdline a b c long =
    let nt = text_parts 15 s.name name in
    let ct = text_parts 1535 s.cmdline cmdline in
    let n1 : length s.name ≤ 16 = omega (arith, nt.0) in
    let n2 : length s.name < 16 = omega (arith, nt.0) in
    let c1 : length s.cmdline ≤ 512 + 1024 = omega (arith, ct.0) in
    let c2 : length s.cmdline < 512 + 1024 = omega (arith, ct.0) in
    let c3 : length (drop 512 s.cmdline) ≤ 1024 = omega (arith, length-drop 512 s.cmdline, ct.0) in (
      record {
        kernel_size = omega (arith, a);
        kernel_addr = n.kernel_addr;
        ramdisk_size = omega (arith, b);
        ramdisk_addr = n.ramdisk_addr;
        second_size = omega (arith, c);
        second_addr = n.second_addr;
        tags_addr = n.tags_addr;
        os_version = n.os;
        name = length_filled 16 s.name n1;
        cmdline = length_filled 512 (take 512 s.cmdline) (short_front 512 s.cmdline);
        id = long;
        extra_cmdline = length_filled 1024 (drop 512 s.cmdline) c3;
      },
      and_from _ _ (text_filled 16 s.name nt.1 n2) (ap text_field (two_fields 512 1024 s.cmdline c1)
          ∙ text_filled (512 + 1024) s.cmdline ct.1 c2),
    )

short_made : (s : BootFields) (sizes : List ℕ) (size : ℕ) → BootNumbers s → is_text 1535 s.cmdline ≡ true
    → slice_index sizes 0 ≤ 4294967295 → slice_index sizes 1 ≤ 4294967295 → size < 2 ^ 32
    → ShortFits (short_for s sizes size) × (short_texts (short_for s sizes size) ≡ true)
short_made s sizes size n cmdline a b h =
    let ct = text_parts 1535 s.cmdline cmdline in
    let c1 : length s.cmdline ≤ 1536 = omega (arith, ct.0) in
    let c2 : length s.cmdline < 1536 = omega (arith, ct.0) in (
      record {
        kernel_size = omega (arith, a);
        ramdisk_size = omega (arith, b);
        os_version = n.os;
        header_size = h;
        reserved = refl;
        cmdline = length_filled 1536 s.cmdline c1;
      },
      and_from _ _ refl (text_filled 1536 s.cmdline ct.1 c2),
    )

small_number : (n : ℕ) → n ≤ 4294967295 → n < 2 ^ 32
small_number n h = omega (arith, h)

module _ (s : BootFields) (n : BootNumbers s) (t : BootAccepted s) where
  made_0 : (parts : List (List ℕ)) → s.version ≡ 0 → length parts ≡ 3 → AllSmall (map length parts)
      → Made parts (boot_header_of s parts)
  unfolding boot_header_with
  made_0 (a ∷ b ∷ c ∷ []) v l m =
      let parts = a ∷ b ∷ c ∷ [] in
      let name = t.name (omega (arith, v)) in
      let f = front_made s (boot_page_for s) (filled 5 (map length parts)) (id_of parts) n name t.cmdline m.0 m.1.0
      m.1.1.0 (id_long parts) in
      let e : boot_header_of s parts ≡ V0 (front_with false s (boot_page_for s) (filled 5 (map length parts))
      (id_of parts)) = rw v refl in
      subst (λ (h : BootHeader). Made parts h) (sym e) (record
      { fits = f.0; sized = (refl, (refl, (refl, tt))); texts = f.1; offset = refl; id = refl })
  made_0 [] v l m = absurd (omega arith)
  made_0 (a ∷ []) v l m = absurd (omega arith)
  made_0 (a ∷ b ∷ []) v l m = absurd (omega arith)
  made_0 (a ∷ b ∷ c ∷ d ∷ r) v l m = absurd (omega arith)

  made_1 : (parts : List (List ℕ)) → s.version ≡ 1 → length parts ≡ 4 → AllSmall (map length parts)
      → Made parts (boot_header_of s parts)
  unfolding boot_header_with
  made_1 (a ∷ b ∷ c ∷ d ∷ []) v l m =
      let parts = a ∷ b ∷ c ∷ d ∷ [] in
      let page = boot_page_for s in
      let sizes = filled 5 (map length parts) in
      let name = t.name (omega (arith, v)) in
      let f = front_made s page sizes (id_of parts) n name t.cmdline m.0 m.1.0 m.1.1.0 (id_long parts) in
      let at = offset_fits page (length a) (length b) (length c) (length d) m.0 m.1.0 m.1.1.0 in
      let e : boot_header_of s parts ≡ V1 (front_with false s page sizes (id_of parts)) (dtbo_for page sizes 1648) =
      rw v refl in
      subst (λ (h : BootHeader). Made parts h) (sym e)
      (record {
        fits = (
          f.0,
          record {
            recovery_dtbo_size = small_number (length d) m.1.1.1.0;
            recovery_dtbo_offset = at;
            header_size = lit< tt;
          },
        );
        sized = (refl, (refl, (refl, (refl, tt))));
        texts = f.1;
        offset = and_from _ _ refl (eq-eqb (dtbo_offset (page_bytes page) (length a) (length b) (length c) (length d))
            _ refl);
        id = refl;
      })
  made_1 [] v l m = absurd (omega arith)
  made_1 (a ∷ []) v l m = absurd (omega arith)
  made_1 (a ∷ b ∷ []) v l m = absurd (omega arith)
  made_1 (a ∷ b ∷ c ∷ []) v l m = absurd (omega arith)
  made_1 (a ∷ b ∷ c ∷ d ∷ g ∷ r) v l m = absurd (omega arith)

  made_2 : (parts : List (List ℕ)) → s.version ≡ 2 → length parts ≡ 5 → AllSmall (map length parts)
      → Made parts (boot_header_of s parts)
  unfolding boot_header_with
  made_2 (a ∷ b ∷ c ∷ d ∷ g ∷ []) v l m =
      let parts = a ∷ b ∷ c ∷ d ∷ g ∷ [] in
      let page = boot_page_for s in
      let sizes = filled 5 (map length parts) in
      let name = t.name (omega (arith, v)) in
      let f = front_made s page sizes (id_of parts) n name t.cmdline m.0 m.1.0 m.1.1.0 (id_long parts) in
      let at = offset_fits page (length a) (length b) (length c) (length d) m.0 m.1.0 m.1.1.0 in
      let e : boot_header_of s parts ≡ V2 (front_with false s page sizes (id_of parts)) (dtbo_for page sizes 1660)
      (dtb_for s sizes) = rw v refl in
      subst (λ (h : BootHeader). Made parts h) (sym e)
      (record {
        fits = (
          f.0,
          record {
            recovery_dtbo_size = small_number (length d) m.1.1.1.0;
            recovery_dtbo_offset = at;
            header_size = lit< tt;
          },
          record { dtb_size = small_number (length g) m.1.1.1.1.0; dtb_addr = n.dtb_addr },
        );
        sized = (refl, (refl, (refl, (refl, (refl, tt)))));
        texts = f.1;
        offset = and_from _ _ refl (eq-eqb (dtbo_offset (page_bytes page) (length a) (length b) (length c) (length d))
            _ refl);
        id = refl;
      })
  made_2 [] v l m = absurd (omega arith)
  made_2 (a ∷ []) v l m = absurd (omega arith)
  made_2 (a ∷ b ∷ []) v l m = absurd (omega arith)
  made_2 (a ∷ b ∷ c ∷ []) v l m = absurd (omega arith)
  made_2 (a ∷ b ∷ c ∷ d ∷ []) v l m = absurd (omega arith)
  made_2 (a ∷ b ∷ c ∷ d ∷ g ∷ h ∷ r) v l m = absurd (omega arith)

  made_3 : (parts : List (List ℕ)) → s.version ≡ 3 → length parts ≡ 2 → AllSmall (map length parts)
      → Made parts (boot_header_of s parts)
  unfolding boot_header_with
  made_3 (a ∷ b ∷ []) v l m =
      let parts = a ∷ b ∷ [] in
      let sizes = filled 5 (map length parts) in
      let f = short_made s sizes 1580 n t.cmdline m.0 m.1.0 (lit< tt) in
      let e : boot_header_of s parts ≡ V3 (short_for s sizes 1580) = rw v refl in
      subst (λ (h : BootHeader). Made parts h) (sym e) (record
      { fits = f.0; sized = (refl, (refl, tt)); texts = f.1; offset = refl; id = tt })
  made_3 [] v l m = absurd (omega arith)
  made_3 (a ∷ []) v l m = absurd (omega arith)
  made_3 (a ∷ b ∷ c ∷ r) v l m = absurd (omega arith)

  made_4 : (parts : List (List ℕ)) → s.version ≡ 4 → length parts ≡ 3 → AllSmall (map length parts)
      → Made parts (boot_header_of s parts)
  unfolding boot_header_with
  made_4 (a ∷ b ∷ c ∷ []) v l m =
      let parts = a ∷ b ∷ c ∷ [] in
      let sizes = filled 5 (map length parts) in
      let f = short_made s sizes 1584 n t.cmdline m.0 m.1.0 (lit< tt) in
      let e : boot_header_of s parts ≡ V4 (short_for s sizes 1584) (length c) = rw v refl in
      subst (λ (h : BootHeader). Made parts h) (sym e) (record {
        fits = (f.0, small_number (length c) m.1.1.0);
        sized = (refl, (refl, (refl, tt)));
        texts = f.1;
        offset =
            refl;
        id = tt;
      })
  made_4 [] v l m = absurd (omega arith)
  made_4 (a ∷ []) v l m = absurd (omega arith)
  made_4 (a ∷ b ∷ []) v l m = absurd (omega arith)
  made_4 (a ∷ b ∷ c ∷ d ∷ r) v l m = absurd (omega arith)

  made : (parts : List (List ℕ)) → length parts ≡ length (boot_names s.version) → AllSmall (map length parts)
      → Made parts (boot_header_of s parts)
  made parts l m =
      let long : (v : ℕ) → s.version ≡ v → length parts ≡ length (boot_names v) = λ v e. l
      ∙ ap (λ (n : ℕ). length (boot_names n)) e in
      elim (five s.version t.version) [
        | inl e ↦ made_0 parts e (long 0 e) m
        | inr e ↦ elim e [
          | inl e ↦ made_1 parts e (long 1 e) m
          | inr e ↦ elim e [
            | inl e ↦ made_2 parts e (long 2 e) m
            | inr e ↦ elim e [
              | inl e ↦ made_3 parts e (long 3 e) m
              | inr e ↦ made_4 parts e (long 4 e) m
            ]
          ]
        ]
      ]

made_of : (s : BootFields) (parts : List (List ℕ)) → IsBootInput s parts → Made parts (boot_header_of s parts)
made_of s parts i =
    let r = neither (boot_refusal s) (size_refusal (boot_names s.version) (map length parts)) i.accepted in
    let long : length (map length parts) ≤ length (boot_names s.version) = omega
    (arith, length-map parts (λ (q : List ℕ). length q), i.count) in
    made s i.numbers (boot_accepted s r.0) parts i.count (all_small (boot_names s.version) (map length parts) long r.1)

pub boot_starts : (x : List ℕ) → StartsAsBoot x → (h : BootHeader) × IsPacked x (OfBoot h)
unfolding boot_image_with
boot_starts x b =
    let h = boot_header_of b.fields b.parts in
    let c = made_canonical x h b.parts (drop (length (boot_canon b.fields b.parts)) x)
    (made_of b.fields b.parts b.input) (continues x (boot_canon b.fields b.parts) b.front) in
    (h, c)

-- what it holds
pub boot_holds : (s : BootFields) (parts : List (List ℕ)) (rest : List ℕ) → IsBootInput s parts
    → HoldsBoot (boot_canon s parts ++ rest) s parts
unfolding boot_image_with
boot_holds s parts rest input =
    let h = boot_header_of s parts in
    let x = boot_image h parts ++ rest in
    let m = made_of s parts input in
    let p = made_canonical x h parts rest m refl in
    let i = is_image (OfBoot h) parts rest m.fits m.sized in
    record {
      has = record { header = p.header; there = p.there; within = within_from x (OfBoot h) p.canonical.fragments };
      image = i;
      each = placed_parts x (places_of (OfBoot h)) parts i.placed;
    }
