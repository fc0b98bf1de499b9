-- The values of an image's header, a line for each field, as unpack_bootimg prints them.
use Rattle.std.specs.Prelude.{ℕ, ◌%◌, ◌==◌, ◌&&◌, Bool, if◌then◌else◌, List, [], ◌∷◌, ◌++◌, Option, Some, None, codes}
use Rattle.std.specs.Prelude.{decimal, false}
use Rattle.std.specs.Fmt.{digits}
use Rattle.std.specs.Int.{to_be_bytes, w32, w64}
use Rattle.hex.specs.Hex.{encode_lower}
use Rattle.abt_headers.specs.declared.boot.BootFront.{BootFront}
use Rattle.abt_headers.specs.declared.boot.BootHeader.{BootHeader}
use Rattle.abt_headers.specs.declared.boot.BootHeader.TheVariants.{V0, V1, V2, V3, V4}
use Rattle.abt_headers.specs.declared.boot.DtbFields.{DtbFields}
use Rattle.abt_headers.specs.declared.boot.DtboFields.{DtboFields}
use Rattle.abt_headers.specs.declared.boot.ShortFront.{ShortFront}
use Rattle.abt_headers.specs.declared.entry.RamdiskEntry.{RamdiskEntry}
use Rattle.abt_headers.specs.declared.os.OsParts.{OsParts}
use Rattle.abt_headers.specs.declared.vendor.VendorFront.{VendorFront}
use Rattle.abt_headers.specs.Os.{os_parts}
use Rattle.abt_headers.specs.Page.{page_bytes}
use Rattle.abt_headers.specs.Vendor.{Tail, Vendor}
use Rattle.cmd_common_fields.specs.Fields.{text_of}
use Rattle.cmd_common_texts.specs.Info.{two_digits}
use Rattle.cmd_unpack_aosp_texts.specs.Files.{name_of_fragment}

-- ---- values

-- eight hexadecimal digits, and sixteen
abbrev pub low : ℕ → List ℕ
low n = codes "0x" ++ encode_lower (to_be_bytes w32 n)

abbrev pub high : ℕ → List ℕ
high n = codes "0x" ++ encode_lower (to_be_bytes w64 n)

abbrev pub version_text : OsParts → List ℕ
version_text p = decimal p.a ++ (codes "." ++ (decimal p.b ++ (codes "." ++ decimal p.c)))

abbrev pub level_text : OsParts → List ℕ
level_text p = decimal p.year ++ (codes "-" ++ two_digits p.month)

-- the OS version is zero, and so is the patch level
abbrev pub is_no_version : OsParts → Bool
is_no_version p = (p.a == 0) && ((p.b == 0) && (p.c == 0))

abbrev pub is_no_level : OsParts → Bool
is_no_level p = (p.year == 2000) && (p.month == 0)

abbrev pub version_or_none : OsParts → List ℕ
version_or_none p = if is_no_version p then codes "None" else version_text p

abbrev pub level_or_none : OsParts → List ℕ
level_or_none p = if is_no_level p then codes "None" else level_text p

-- ---- lines

abbrev pub labelled : List ℕ → List ℕ
labelled label = label ++ codes ": "

abbrev pub labelled_row : List ℕ → List ℕ → List ℕ
labelled_row label value = labelled label ++ (value ++ (10 ∷ []))

abbrev pub decimal_row : List ℕ → ℕ → List ℕ
decimal_row label n = labelled_row label (decimal n)

abbrev pub low_row : List ℕ → ℕ → List ℕ
low_row label n = labelled_row label (low n)

abbrev pub high_row : List ℕ → ℕ → List ℕ
high_row label n = labelled_row label (high n)

-- in as few hexadecimal digits as it has
abbrev pub short_row : List ℕ → ℕ → List ℕ
short_row label n = labelled_row label (codes "0x" ++ digits 16 false n)

-- a text field, up to its first zero
abbrev pub text_row : List ℕ → List ℕ → List ℕ
text_row label x = labelled_row label (text_of x)

abbrev pub os_rows : OsParts → List ℕ
os_rows p = codes "os version: "
    ++ (version_or_none p ++ (codes "\nos patch level: " ++ (level_or_none p ++ (10 ∷ []))))

-- ---- boot images

abbrev pub front_rows : ℕ → BootFront → List ℕ
front_rows version f = codes "boot magic: ANDROID!\n"
    ++ (decimal_row (codes "kernel_size") f.kernel_size
    ++ (low_row (codes "kernel load address") f.kernel_addr
    ++ (decimal_row (codes "ramdisk size") f.ramdisk_size
    ++ (low_row (codes "ramdisk load address") f.ramdisk_addr
    ++ (decimal_row (codes "second bootloader size") f.second_size
    ++ (low_row (codes "second bootloader load address") f.second_addr
    ++ (low_row (codes "kernel tags load address") f.tags_addr
    ++ (decimal_row (codes "page size") (page_bytes f.page_size)
    ++ (os_rows (os_parts f.os_version.number)
    ++ (decimal_row (codes "boot image header version") version
    ++ (text_row (codes "product name") f.name
    ++ (text_row (codes "command line args") f.cmdline
    ++ text_row (codes "additional command line args") f.extra_cmdline))))))))))))

abbrev pub dtbo_rows : DtboFields → List ℕ
dtbo_rows d = decimal_row (codes "recovery dtbo size") d.recovery_dtbo_size
    ++ (high_row (codes "recovery dtbo offset") d.recovery_dtbo_offset
    ++ decimal_row (codes "boot header size") d.header_size)

abbrev pub dtb_rows : DtbFields → List ℕ
dtb_rows d = decimal_row (codes "dtb size") d.dtb_size ++ high_row (codes "dtb address") d.dtb_addr

abbrev pub short_rows : ℕ → ShortFront → List ℕ
short_rows version f = codes "boot magic: ANDROID!\n"
    ++ (decimal_row (codes "kernel_size") f.kernel_size
    ++ (decimal_row (codes "ramdisk size") f.ramdisk_size
    ++ (os_rows (os_parts f.os_version.number)
    ++ (decimal_row (codes "boot image header version") version
    ++ text_row (codes "command line args") f.cmdline))))

abbrev pub boot_rows : BootHeader → List ℕ
boot_rows (V0 f) = front_rows 0 f
boot_rows (V1 f d) = front_rows 1 f ++ dtbo_rows d
boot_rows (V2 f d t) = front_rows 2 f ++ (dtbo_rows d ++ dtb_rows t)
boot_rows (V3 f) = short_rows 3 f
boot_rows (V4 f signature) = short_rows 4 f ++ decimal_row (codes "boot.img signature size") signature

-- ---- vendor boot images

abbrev pub vendor_front_rows : ℕ → List ℕ → VendorFront → List ℕ
vendor_front_rows version ramdisk f = codes "boot magic: VNDRBOOT\n"
    ++ (decimal_row (codes "vendor boot image header version") version
    ++ (low_row (codes "page size") (page_bytes f.page_size)
    ++ (low_row (codes "kernel load address") f.kernel_addr
    ++ (low_row (codes "ramdisk load address") f.ramdisk_addr
    ++ (decimal_row ramdisk f.vendor_ramdisk_size
    ++ (text_row (codes "vendor command line args") f.cmdline
    ++ (low_row (codes "kernel tags load address") f.tags_addr
    ++ (text_row (codes "product name") f.name
    ++ (decimal_row (codes "vendor boot image header size") f.header_size
    ++ (decimal_row (codes "dtb size") f.dtb_size ++ high_row (codes "dtb address") f.dtb_addr))))))))))

abbrev pub table_rows : VendorFront → ℕ → List ℕ
table_rows f size = vendor_front_rows 4 (codes "vendor ramdisk total size") f
    ++ (decimal_row (codes "vendor ramdisk table size") size ++ codes "vendor ramdisk table: [\n")

abbrev pub vendor_rows_of : VendorFront → Option Tail → List ℕ
vendor_rows_of f None = vendor_front_rows 3 (codes "vendor ramdisk size") f
vendor_rows_of f (Some t) = table_rows f t.table_size

-- those before the fragments
abbrev pub vendor_rows : Vendor → List ℕ
vendor_rows v = vendor_rows_of v.front v.tail

-- and after them
abbrev pub table_end : ℕ → List ℕ
table_end size = codes "]\n" ++ decimal_row (codes "vendor bootconfig size") size

abbrev pub end_of_tail : Option Tail → List ℕ
end_of_tail None = []
end_of_tail (Some t) = table_end t.bootconfig_size

abbrev pub vendor_last : Vendor → List ℕ
vendor_last v = end_of_tail v.tail

-- ---- fragments

-- those before the board id of fragment i
abbrev pub entry_rows : ℕ → RamdiskEntry → List ℕ
entry_rows i e = codes "    " ++ (name_of_fragment i ++ (codes ": {\n"
    ++ (decimal_row (codes "        size") e.ramdisk_size
    ++ (decimal_row (codes "        offset") e.ramdisk_offset
    ++ (short_row (codes "        type") e.ramdisk_type
    ++ (text_row (codes "        name") e.name ++ codes "        board_id: [\n"))))))

-- number k of the board id: four are in a line
abbrev pub before_cell : ℕ → List ℕ
before_cell k = if (k % 4) == 0 then codes "            " else codes " "

abbrev pub behind_cell : ℕ → List ℕ
behind_cell k = if (k % 4) == 3 then codes ",\n" else codes ","

abbrev pub board_cell : ℕ → ℕ → List ℕ
board_cell k n = before_cell k ++ (low n ++ behind_cell k)

abbrev pub entry_end : List ℕ
entry_end = codes "        ]\n    }\n"
