-- The arguments of mkbootimg that make an image again, as unpack_bootimg prints them. A number is never quoted.
use Rattle.std.specs.Prelude.{ℕ, ◌-◌, ◌==◌, Bool, if◌then◌else◌, List, [], ◌∷◌, ◌++◌, Option, Some, None}
use Rattle.std.specs.Prelude.{codes, decimal}
use Rattle.std.specs.Prelude.{get_or, length}
use Rattle.abt_headers.specs.declared.boot.BootFront.{BootFront}
use Rattle.abt_headers.specs.declared.boot.BootHeader.{BootHeader}
use Rattle.abt_headers.specs.declared.boot.BootHeader.TheVariants.{V0, V1, V2, V3, V4}
use Rattle.abt_headers.specs.declared.boot.ShortFront.{ShortFront}
use Rattle.abt_headers.specs.declared.entry.RamdiskEntry.{RamdiskEntry}
use Rattle.abt_headers.specs.declared.os.OsParts.{OsParts}
use Rattle.abt_headers.specs.declared.vendor.VendorFront.{VendorFront}
use Rattle.abt_headers.specs.Os.{os_parts}
use Rattle.abt_headers.specs.Page.{page_bytes}
use Rattle.abt_headers.specs.Vendor.{Tail, Vendor}
use Rattle.cmd_common_fields.specs.Fields.{text_of}
use Rattle.cmd_unpack_aosp_texts.specs.Files.{name_of_fragment}
use Rattle.cmd_unpack_aosp_texts.specs.Info as info
use Rattle.cmd_unpack_aosp_texts.specs.Shell.{shell_quoted}
use Rattle.cmd_unpack_aosp_texts.specs.declared.options.Ending.{Ending}
use Rattle.cmd_unpack_aosp_texts.specs.declared.options.Ending.TheVariants as endings

-- ---- arguments

-- before each argument but the first, after each, and after all
abbrev pub before_word : Ending → List ℕ
before_word endings.Blank = codes " "
before_word endings.Zero = []

abbrev pub behind_word : Ending → List ℕ
behind_word endings.Blank = []
behind_word endings.Zero = 0 ∷ []

abbrev pub behind_words : Ending → List ℕ
behind_words endings.Blank = 10 ∷ []
behind_words endings.Zero = []

abbrev pub first_word : Ending → List ℕ → List ℕ
first_word e w = w ++ behind_word e

abbrev pub plain_word : Ending → List ℕ → List ℕ
plain_word e w = before_word e ++ (w ++ behind_word e)

-- a text or a path: where a zero byte follows it, it is not quoted
abbrev pub written_text : Ending → List ℕ → List ℕ
written_text endings.Blank x = shell_quoted x
written_text endings.Zero x = x

abbrev pub text_value : Ending → List ℕ → List ℕ
text_value e x = plain_word e (written_text e x)

abbrev pub number_value : Ending → ℕ → List ℕ
number_value e n = plain_word e (decimal n)

-- ---- options, each with its value

abbrev pub number_option : Ending → List ℕ → ℕ → List ℕ
number_option e name n = plain_word e name ++ number_value e n

abbrev pub low_option : Ending → List ℕ → ℕ → List ℕ
low_option e name n = plain_word e name ++ plain_word e (info.low n)

abbrev pub high_option : Ending → List ℕ → ℕ → List ℕ
high_option e name n = plain_word e name ++ plain_word e (info.high n)

abbrev pub text_option : Ending → List ℕ → List ℕ → List ℕ
text_option e name x = plain_word e name ++ text_value e x

-- a text field, up to its first zero, and two of them together
abbrev pub field_option : Ending → List ℕ → List ℕ → List ℕ
field_option e name x = text_option e name (text_of x)

abbrev pub fields_option : Ending → List ℕ → List ℕ → List ℕ → List ℕ
fields_option e name x y = text_option e name (text_of x ++ text_of y)

abbrev pub version_option : Ending → OsParts → List ℕ
version_option e p =
    if info.is_no_version p then [] else plain_word e (codes "--os_version") ++ plain_word e (info.version_text p)

abbrev pub level_option : Ending → OsParts → List ℕ
level_option e p =
    if info.is_no_level p then [] else plain_word e (codes "--os_patch_level") ++ plain_word e (info.level_text p)

abbrev pub os_options : Ending → OsParts → List ℕ
os_options e p = version_option e p ++ level_option e p

-- ---- paths

-- nothing, or a text that ends in a slash
abbrev pub is_ended : List ℕ → Bool
is_ended folder = get_or folder (length folder - 1) 47 == 47

abbrev pub slash_behind : List ℕ → List ℕ
slash_behind folder = if is_ended folder then [] else codes "/"

-- the path of a file in a folder, as Python joins it
abbrev pub joined_path : List ℕ → List ℕ → List ℕ
joined_path folder file = folder ++ (slash_behind folder ++ file)

abbrev pub file_option : Ending → List ℕ → List ℕ → List ℕ → List ℕ
file_option e folder name file = text_option e name (joined_path folder file)

-- of a part that is not empty
abbrev pub part_option : Ending → List ℕ → List ℕ → List ℕ → ℕ → List ℕ
part_option e folder name file size = if size == 0 then [] else file_option e folder name file

-- ---- boot images

abbrev pub opening_words : Ending → List ℕ → ℕ → ℕ → List ℕ
opening_words e folder version os =
    first_word e (codes "--header_version") ++ (number_value e version ++ (os_options e (os_parts os)
    ++ (file_option e folder (codes "--kernel") (codes "kernel")
    ++ file_option e folder (codes "--ramdisk") (codes "ramdisk"))))

abbrev pub second_option : Ending → List ℕ → BootFront → List ℕ
second_option e folder f = part_option e folder (codes "--second") (codes "second") f.second_size

abbrev pub dtbo_option : Ending → List ℕ → ℕ → List ℕ
dtbo_option e folder size = part_option e folder (codes "--recovery_dtbo") (codes "recovery_dtbo") size

abbrev pub dtb_option : Ending → List ℕ → ℕ → List ℕ
dtb_option e folder size = part_option e folder (codes "--dtb") (codes "dtb") size

-- the addresses are offsets from base 0
abbrev pub load_words : Ending → BootFront → List ℕ
load_words e f = low_option e (codes "--pagesize") (page_bytes f.page_size)
    ++ (low_option e (codes "--base") 0
    ++ (low_option e (codes "--kernel_offset") f.kernel_addr
    ++ (low_option e (codes "--ramdisk_offset") f.ramdisk_addr
    ++ (low_option e (codes "--second_offset") f.second_addr ++ low_option e (codes "--tags_offset") f.tags_addr))))

abbrev pub name_options : Ending → BootFront → List ℕ
name_options e f = field_option e (codes "--board") f.name
    ++ fields_option e (codes "--cmdline") f.cmdline f.extra_cmdline

abbrev pub short_words : Ending → List ℕ → ℕ → ShortFront → List ℕ
short_words e folder version f =
    opening_words e folder version f.os_version.number ++ field_option e (codes "--cmdline") f.cmdline

abbrev pub boot_words : Ending → List ℕ → BootHeader → List ℕ
boot_words e folder (V0 f) = opening_words e folder 0 f.os_version.number
    ++ (second_option e folder f ++ (load_words e f ++ name_options e f))
boot_words e folder (V1 f d) = opening_words e folder 1 f.os_version.number
    ++ (second_option e folder f ++ (dtbo_option e folder d.recovery_dtbo_size ++ (load_words e f ++ name_options e
    f)))
boot_words e folder (V2 f d t) = opening_words e folder 2 f.os_version.number
    ++ (second_option e folder f ++ (dtbo_option e folder d.recovery_dtbo_size ++ (dtb_option e folder t.dtb_size
    ++ (load_words e f ++ (high_option e (codes "--dtb_offset") t.dtb_addr ++ name_options e f)))))
boot_words e folder (V3 f) = short_words e folder 3 f
boot_words e folder (V4 f signature) = short_words e folder 4 f

-- ---- vendor boot images

abbrev pub vendor_front_words : Ending → List ℕ → ℕ → VendorFront → List ℕ
vendor_front_words e folder version f =
    first_word e (codes "--header_version") ++ (number_value e version
    ++ (low_option e (codes "--pagesize") (page_bytes f.page_size)
    ++ (low_option e (codes "--base") 0
    ++ (low_option e (codes "--kernel_offset") f.kernel_addr
    ++ (low_option e (codes "--ramdisk_offset") f.ramdisk_addr
    ++ (low_option e (codes "--tags_offset") f.tags_addr
    ++ (high_option e (codes "--dtb_offset") f.dtb_addr
    ++ (field_option e (codes "--vendor_cmdline") f.cmdline
    ++ (field_option e (codes "--board") f.name ++ dtb_option e folder f.dtb_size)))))))))

abbrev pub ramdisk_words : Ending → List ℕ → VendorFront → List ℕ
ramdisk_words e folder f = vendor_front_words e folder 3 f
    ++ file_option e folder (codes "--vendor_ramdisk") (codes "vendor_ramdisk")

abbrev pub bootconfig_words : Ending → List ℕ → VendorFront → List ℕ
bootconfig_words e folder f = vendor_front_words e folder 4 f
    ++ file_option e folder (codes "--vendor_bootconfig") (codes "bootconfig")

abbrev pub vendor_words_of : Ending → List ℕ → VendorFront → Option Tail → List ℕ
vendor_words_of e folder f None = ramdisk_words e folder f
vendor_words_of e folder f (Some t) = bootconfig_words e folder f

-- but for those of the fragments
abbrev pub vendor_words : Ending → List ℕ → Vendor → List ℕ
vendor_words e folder v = vendor_words_of e folder v.front v.tail

-- ---- fragments

-- those before the board id
abbrev pub entry_options : Ending → RamdiskEntry → List ℕ
entry_options e entry = number_option e (codes "--ramdisk_type") entry.ramdisk_type
    ++ field_option e (codes "--ramdisk_name") entry.name

abbrev pub board_id_option : Ending → ℕ → ℕ → List ℕ
board_id_option e k n = plain_word e (codes "--board_id" ++ decimal k) ++ plain_word e (info.low n)

abbrev pub board_id_word : Ending → ℕ → ℕ → List ℕ
board_id_word e k n = if n == 0 then [] else board_id_option e k n

-- the file comes after all other arguments of the fragment
abbrev pub entry_file : Ending → List ℕ → ℕ → List ℕ
entry_file e folder i = file_option e folder (codes "--vendor_ramdisk_fragment") (name_of_fragment i)
