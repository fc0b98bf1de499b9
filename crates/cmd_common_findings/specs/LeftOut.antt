-- What packing an image again leaves out of it: bytes that are not zero, and that no field and no part carries on.
use Rattle.std.specs.Prelude.{ℕ, ◌+◌, ◌*◌, ◌-◌, ◌==◌, ◌&&◌, Bool, if◌then◌else◌, List, [], ◌∷◌, ◌++◌, Option, Some}
use Rattle.std.specs.Prelude.{None}
use Rattle.std.specs.Prelude.{codes, decimal, length, take, drop}
use Rattle.abt_headers.specs.declared.boot.BootHeader.{BootHeader}
use Rattle.abt_headers.specs.declared.boot.BootHeader.TheVariants.{V0, V1, V2, V3, V4}
use Rattle.abt_headers.specs.declared.sections.SectionPlace.{SectionPlace}
use Rattle.abt_headers.specs.Page.{pages}
use Rattle.abt_sections.specs.Header.{Header, OfBoot, OfVendor, page_of, places_of, size_of}
use Rattle.abt_sections.specs.Layout.{padding}
use Rattle.cmd_common_fields.specs.Fields.{field_of, text_of}
use Rattle.cmd_common_fields.specs.declared.fields.TextField.TheVariants as texts
use Rattle.cmd_common_findings.specs.declared.left_out.LeftOut.{LeftOut}
use Rattle.cmd_common_findings.specs.declared.left_out.Anew.{Anew}

-- how many of these bytes are not zero
abbrev pub set_in : List ℕ → ℕ
set_in [] = 0
set_in (b ∷ x) = (if b == 0 then 0 else 1) + set_in x

-- where the bytes of an image end, at the boundary of a page
abbrev pub last_end : ℕ → List SectionPlace → ℕ
last_end n [] = n
last_end n (p ∷ ps) = last_end (p.at + p.size) ps

abbrev pub end_of : Header → ℕ
end_of h = pages (last_end (size_of h) (places_of h)) (page_of h) * page_of h

-- ---- by kind

-- the reserved bytes of a header
abbrev pub boot_reserved : BootHeader → List ℕ
boot_reserved (V0 f) = []
boot_reserved (V1 f d) = []
boot_reserved (V2 f d t) = []
boot_reserved (V3 f) = f.reserved
boot_reserved (V4 f signature) = f.reserved

abbrev pub reserved_of : Header → List ℕ
reserved_of (OfBoot h) = boot_reserved h
reserved_of (OfVendor v) = []

abbrev pub name_or_empty : Option (List ℕ) → List ℕ
name_or_empty None = []
name_or_empty (Some x) = x

-- the bytes of a text, and what stands behind it: from its first zero byte on
abbrev pub behind_text : List ℕ → List ℕ
behind_text x = drop (length (text_of x)) x

abbrev pub header_name : Header → List ℕ
header_name h = name_or_empty (field_of h texts.Name)

abbrev pub cmdline_of : Header → List ℕ
cmdline_of h = name_or_empty (field_of h texts.Cmdline) ++ name_or_empty (field_of h texts.Extra)

-- a text that is given anew leaves nothing out
abbrev pub text_left : Bool → List ℕ → ℕ
text_left anew x = if anew then 0 else set_in (behind_text x)

abbrev pub texts_left : Anew → Header → ℕ
texts_left anew h = text_left anew.name (header_name h) + text_left anew.cmdline (cmdline_of h)

-- behind n bytes, up to a page boundary
abbrev pub set_in_padding : List ℕ → ℕ → ℕ → ℕ
set_in_padding x page n = set_in (take (padding n page) (drop n x))

abbrev pub behind_places : List ℕ → ℕ → List SectionPlace → ℕ
behind_places x page [] = 0
behind_places x page (p ∷ ps) = set_in_padding x page (p.at + p.size) + behind_places x page ps

abbrev pub padding_left : List ℕ → Header → ℕ
padding_left x h = set_in_padding x (page_of h) (size_of h) + behind_places x (page_of h) (places_of h)

-- behind the image, as an AVB footer is
abbrev pub trailing_left : Anew → List ℕ → Header → ℕ
trailing_left anew x h = if anew.trailing then 0 else set_in (drop (end_of h) x)

-- of the image x with the header h, of whose vendor ramdisk so many bytes lie in no fragment
abbrev pub left_out_of : Anew → ℕ → List ℕ → Header → LeftOut
left_out_of anew ramdisk x h = record {
  reserved = set_in (reserved_of h);
  texts = texts_left anew h;
  padding = padding_left x h;
  ramdisk = ramdisk;
  trailing = trailing_left anew x h;
}

-- ---- as it is told

abbrev pub is_nothing : LeftOut → Bool
is_nothing l =
    (l.reserved == 0) && (l.texts == 0) && (l.padding == 0) && (l.ramdisk == 0) && (l.trailing == 0)

abbrev pub left_out_text : LeftOut → List ℕ
left_out_text l = codes "left out bytes: reserved " ++ (decimal l.reserved ++ (codes " texts " ++ (decimal l.texts
    ++ (codes " padding " ++ (decimal l.padding ++ (codes " ramdisk " ++ (decimal l.ramdisk
    ++ (codes " trailing " ++ decimal l.trailing))))))))
