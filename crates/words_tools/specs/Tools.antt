-- The words of AOSP's tools, and the orders that they give.
use Rattle.std.specs.Prelude.{◌≡◌, ◌⊎◌, ℕ, List, [], ◌∷◌, ◌++◌, Option, Some, None, true, false, codes, get_or}
use Rattle.std.specs.Prelude.{unwrap_or, bytes_eq, if◌then◌else◌, option_map}
use Rattle.words_values.specs.declared.rows.WordPlace.TheVariants as places
use Rattle.words_values.specs.declared.rows.Value.TheVariants as values
use Rattle.words_orders.specs.declared.answers.Answer.{Answer}
use Rattle.words_tools.specs.declared.mkbootimg.Image.{Image}
use Rattle.words_orders.specs.declared.order.Order.{Order}
use Rattle.words_orders.specs.declared.order.SparseTask.TheVariants as sparse
use Rattle.words_orders.specs.declared.order.Task.{Task}
use Rattle.words_orders.specs.declared.order.Task.TheVariants as tasks
use Rattle.words_orders.specs.declared.rows.Work.TheVariants as works
use Rattle.words_tools.specs.declared.orders.Orders.{Orders}
use Rattle.words_tools.specs.declared.tools.Tool.{Tool}
use Rattle.words_tools.specs.declared.tools.Tool.TheVariants as tools
use Rattle.words_orders.specs.Asked.{AreAnswersOf, Asks, number_named, word_named}
use Rattle.words_tools.specs.Fragments.{AreParted}
use Rattle.words_tools.specs.Mkbootimg.{AreImagesOf, PacksImage, id_asked}
use Rattle.words_tools.specs.UnpackBootimg.{AsksUnpack, unpack_rows}
use Rattle.words_tools.specs.declared.unpack_bootimg.UnpackImage.{UnpackImage}
use Rattle.words_orders.specs.Table.{excludes, flag, part, path, required, row, usual, work_of}
use Rattle.words_sayings.specs.Rows.{Shape}

-- ---- which tool it is

abbrev pub tool_name : Tool → List ℕ
tool_name tools.Simg2img = codes "simg2img"
tool_name tools.Img2simg = codes "img2simg"
tool_name tools.Mkbootimg = codes "mkbootimg"
tool_name tools.Simg2simg = codes "simg2simg"
tool_name tools.UnpackBootimg = codes "unpack_bootimg"
tool_name tools.Append2simg = codes "append2simg"
tool_name tools.SimgDump = codes "simg_dump"

-- what a name follows in a path: nothing, or a folder with its slash
abbrev pub IsFolder : List ℕ → Type 0
IsFolder front = (front ≡ []) ⊎ ((folder : List ℕ) × (front ≡ folder ++ (47 ∷ [])))

-- a path ends in this name, alone or after a folder
abbrev pub IsLastPart : List ℕ → List ℕ → Type 0
IsLastPart name path = (path ≡ name) ⊎ ((folder : List ℕ) × (path ≡ folder ++ (47 ∷ name)))

abbrev pub IsBehindAs : List (List ℕ) → List (List ℕ) → Type 0
IsBehindAs words own = (program : List ℕ) × (words ≡ program ∷ (codes "as" ∷ own))

-- no tool has the name that a path ends in
abbrev pub CallsNone : List ℕ → Type 0
CallsNone path = (tool : Tool) → IsLastPart (tool_name tool) path → ⊥

-- the words call a tool, and these are its own: all, or those after `as` if the program's own name is not a tool's
pub record IsCalled (words : List (List ℕ)) (tool : Tool) (own : List (List ℕ)) : Type 0 where
  pub name : IsLastPart (tool_name tool) (get_or own 0 [])
  pub behind : (own ≡ words) ⊎ (IsBehindAs words own × CallsNone (get_or words 0 []))

-- the status under its name where the words are wrong
abbrev pub wrong_words_status : Tool → ℕ
wrong_words_status tools.Mkbootimg = 2
wrong_words_status tools.UnpackBootimg = 2
wrong_words_status tool = 1

-- ---- the tables

-- a number as Python reads it, with its default
abbrev pub python : List ℕ → List ℕ → Shape
python name word = usual word (row places.Option values.PythonNumber name)

abbrev pub refused : List ℕ → Shape
refused name = row places.Option values.NotTaken name

abbrev pub mkbootimg_rows : List Shape
mkbootimg_rows =
    part (codes "kernel") ∷ part (codes "ramdisk") ∷ part (codes "second") ∷ part (codes "dtb")
    ∷ excludes (codes "recovery_acpio") (part (codes "recovery_dtbo")) ∷ part (codes "recovery_acpio")
    ∷ row places.Option values.CommandLine (codes "cmdline")
    ∷ row places.Option values.CommandLine (codes "vendor_cmdline")
    ∷ python (codes "base") (codes "0x10000000") ∷ python (codes "kernel_offset") (codes "0x00008000")
    ∷ python (codes "ramdisk_offset") (codes "0x01000000") ∷ python (codes "second_offset") (codes "0x00f00000")
    ∷ usual (codes "0x01f00000") (row places.Option values.LongPythonNumber (codes "dtb_offset"))
    ∷ usual (codes "0") (row places.Option values.OsVersion (codes "os_version"))
    ∷ usual (codes "0") (row places.Option values.PatchLevel (codes "os_patch_level"))
    ∷ python (codes "tags_offset") (codes "0x00000100") ∷ row places.Option values.Text (codes "board")
    ∷ python (codes "pagesize") (codes "2048") ∷ flag (codes "id") ∷ python (codes "header_version") (codes "0")
    ∷ excludes (codes "o") (part (codes "output")) ∷ row places.Letter values.File (codes "o")
    ∷ part (codes "vendor_boot")
    ∷ part (codes "vendor_ramdisk") ∷ part (codes "vendor_bootconfig")
    ∷ refused (codes "gki_signing_algorithm") ∷ refused (codes "gki_signing_key")
    ∷ refused (codes "gki_signing_signature_args") ∷ refused (codes "gki_signing_avbtool_path") ∷ []

abbrev pub tool_rows : Tool → List Shape
tool_rows tools.Simg2img = required (row places.Words values.File (codes "IN")) ∷ path (codes "OUT") ∷ []
tool_rows tools.Img2simg =
    path (codes "IN") ∷ path (codes "OUT") ∷ row places.Word (values.Count 1024) (codes "BLOCK")
    ∷ row (places.ShortFlag 115) values.NotTaken (codes "s") ∷ []
tool_rows tools.Mkbootimg = mkbootimg_rows
tool_rows tools.Simg2simg =
    path (codes "IN") ∷ path (codes "PREFIX") ∷ required (row places.Word (values.Count 1) (codes "MAX")) ∷ []
tool_rows tools.UnpackBootimg = unpack_rows
tool_rows tool = []

-- ---- what the answers ask for

-- the path of the file that a word names, where `-` is the file that standard input is
abbrev pub standard_or : List ℕ → List ℕ
standard_or word = if bytes_eq word (codes "-") then codes "/proc/self/fd/0" else word

-- `sparse` in blocks of BLOCK bytes, or of 4096, as img2simg makes the image
abbrev pub AsksBlocks : List Answer → Task → Type 0
AsksBlocks all (tasks.Sparse (sparse.Sparse input output block tail)) =
    (input.now ≡ standard_or (word_named (codes "IN") all))
    × (output.now ≡ word_named (codes "OUT") all) × (block ≡ unwrap_or (number_named (codes "BLOCK") all) 4096)
    × (tail ≡ true)
AsksBlocks all task = ⊥

-- `cut` of a sparse image into pieces of at most MAX bytes, of which the first has the number 0
abbrev pub AsksCut : List Answer → Task → Type 0
AsksCut all (tasks.Sparse (sparse.Cut input limit prefix from_zero raw)) = (input.now ≡ word_named (codes "IN") all)
    × (limit ≡ unwrap_or (number_named (codes "MAX") all) 0) × (prefix.now ≡ word_named (codes "PREFIX") all)
    × (from_zero ≡ true) × (raw ≡ None)
AsksCut all task = ⊥

abbrev pub AsksTask : Tool → List Answer → Task → Type 0
AsksTask tools.Simg2img all task = (work_of task ≡ works.Expand) × Asks all task
AsksTask tools.Img2simg all task = AsksBlocks all task
AsksTask tools.Simg2simg all task = AsksCut all task
AsksTask tool all task = ⊥

-- an order of a tool, without what its words can't ask for
pub record IsToolOrder (tool : Tool) (order : Order) : Type 0 where
  pub command : order.command.now ≡ tool_name tool
  pub verbose : order.is_verbose ≡ false
  pub quiet : order.is_quiet ≡ true
  pub synced : order.is_synced ≡ false
  pub mounted : order.is_mounted_allowed ≡ false

-- one order alone
pub record AsksAlone (tool : Tool) (all : List Answer) (orders : Orders) : Type 0 where
  pub order : Order
  pub is_tools : IsToolOrder tool order
  pub asks : AsksTask tool all order.task
  pub first : orders.first ≡ Some order
  pub second : orders.second ≡ None
  pub id : orders.id_of ≡ None
  pub unpack : orders.unpack ≡ None

-- ---- images

-- an order packs an image
pub record Packs (all said : List Answer) (image : Image) (order : Order) : Type 0 where
  pub order_is : IsToolOrder tools.Mkbootimg order
  pub image_is : PacksImage all said image order.task

abbrev pub PacksAsked : List Answer → List Answer → Option Image → Option Order → Type 0
PacksAsked all said None None = Unit {0}
PacksAsked all said (Some image) (Some order) = Packs all said image order
PacksAsked all said image order = ⊥

-- the vendor boot image first, and then the boot image
pub record AsksImages (all said : List Answer) (orders : Orders) : Type 0 where
  pub vendor : Option Image
  pub boot : Option Image
  pub images : AreImagesOf all vendor boot
  pub first : PacksAsked all said vendor orders.first
  pub second : PacksAsked all said boot orders.second
  pub id : option_map (λ word. word.now) orders.id_of ≡ id_asked all
  pub unpack : orders.unpack ≡ None

-- ---- an image that is unpacked

-- no order, but an image that is unpacked as unpack_bootimg does
pub record AsksUnpacking (all : List Answer) (orders : Orders) : Type 0 where
  pub image : UnpackImage
  pub asks : AsksUnpack all image
  pub unpack : orders.unpack ≡ Some image
  pub first : orders.first ≡ None
  pub second : orders.second ≡ None
  pub id : orders.id_of ≡ None

-- ---- orders

abbrev pub AsksOrders : Tool → List Answer → List Answer → Orders → Type 0
AsksOrders tools.Simg2img all said orders = AsksAlone tools.Simg2img all orders
AsksOrders tools.Img2simg all said orders = AsksAlone tools.Img2simg all orders
AsksOrders tools.Mkbootimg all said orders = AsksImages all said orders
AsksOrders tools.Simg2simg all said orders = AsksAlone tools.Simg2simg all orders
AsksOrders tools.UnpackBootimg all said orders = AsksUnpacking all orders
AsksOrders tool all said orders = ⊥

-- the words give these orders: the first calls the tool, each of the others is used once, and what they answer to the
-- rows of the tool's table asks for these, with what was said of ramdisk fragments by other words
pub record AreOrdersOf (tool : Tool) (words : List (List ℕ)) (said : List Answer) (orders : Orders) : Type 0 where
  pub caller : List ℕ
  pub own : List (List ℕ)
  pub words_are : words ≡ caller ∷ own
  pub all : List Answer
  pub answers : AreAnswersOf (tool_rows tool) own all
  pub asks : AsksOrders tool all said orders

-- the words without those of ramdisk fragments, and what these say; only mkbootimg has such words
abbrev pub ArePartedFor : Tool → List (List ℕ) → List (List ℕ) → List Answer → Type 0
ArePartedFor tools.Mkbootimg words others said = AreParted words said others
ArePartedFor tool words others said = (others ≡ words) × (said ≡ [])

-- the words of a call give these orders, with those of ramdisk fragments separated from the others
pub record AreToolOrders (tool : Tool) (words : List (List ℕ)) (orders : Orders) : Type 0 where
  pub others : List (List ℕ)
  pub said : List Answer
  pub parted : ArePartedFor tool words others said
  pub give : AreOrdersOf tool others said orders
