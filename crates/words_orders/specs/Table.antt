-- The table of the command line: the rows of each command.
use Rattle.std.specs.Prelude.{ℕ, List, [], ◌∷◌, ◌++◌, Bool, true, false, Option, Some, None, codes}
use Rattle.std.specs.Prelude.{bytes_eq}
use Rattle.std.specs.List.{find}
use Rattle.words_values.specs.declared.rows.WordPlace.{WordPlace}
use Rattle.words_values.specs.declared.rows.WordPlace.TheVariants as places
use Rattle.words_values.specs.declared.rows.Value.{Value}
use Rattle.words_values.specs.declared.rows.Value.TheVariants as values
use Rattle.words_sayings.specs.Rows.{Shape}
use Rattle.words_orders.specs.declared.order.BootTask.{BootTask}
use Rattle.words_orders.specs.declared.order.BootTask.TheVariants as boot
use Rattle.words_orders.specs.declared.order.SparseTask.{SparseTask}
use Rattle.words_orders.specs.declared.order.SparseTask.TheVariants as sparse
use Rattle.words_orders.specs.declared.order.Task.{Task}
use Rattle.words_orders.specs.declared.order.Task.TheVariants as tasks
use Rattle.words_orders.specs.declared.rows.Work.{Work}
use Rattle.words_orders.specs.declared.rows.Work.TheVariants as works

-- ---- kinds of rows

abbrev pub row : WordPlace → Value → List ℕ → Shape
row place value name = record {
  name = name;
  place = place;
  value = Some value;
  names = [];
  default = None;
  required = false;
  needs = None;
  excludes = None;
}

abbrev pub required : Shape → Shape
required shape = record shape { required = true }

abbrev pub needs : List ℕ → Shape → Shape
needs other shape = record shape { needs = Some other }

abbrev pub excludes : List ℕ → Shape → Shape
excludes other shape = record shape { excludes = Some other }

abbrev pub path : List ℕ → Shape
path name = required (row places.Word values.File name)

abbrev pub part : List ℕ → Shape
part name = row places.Option values.File name

abbrev pub number : List ℕ → Shape
number name = row places.Option values.Number name

abbrev pub flag : List ℕ → Shape
flag name = row places.Flag values.IsGiven name

abbrev pub choice : List (List ℕ) → Shape → Shape
choice names shape = record shape { value = None; names = names }

abbrev pub usual : List ℕ → Shape → Shape
usual word shape = record shape { default = Some word }

-- ---- rows that commands share

abbrev pub telling_rows : List Shape
telling_rows =
    row (places.ShortFlag 118) values.IsGiven (codes "verbose")
    ∷ row (places.ShortFlag 113) values.IsGiven (codes "quiet") ∷ []

abbrev pub writing_rows : List Shape
writing_rows = flag (codes "sync") ∷ flag (codes "mounted") ∷ telling_rows

-- the options that an image is filled by
abbrev pub option_rows : List Shape
option_rows =
    part (codes "kernel") ∷ part (codes "ramdisk") ∷ part (codes "second") ∷ part (codes "recovery-dtbo")
    ∷ part (codes "dtb") ∷ part (codes "signature") ∷ part (codes "bootconfig")
    ∷ number (codes "kernel-addr") ∷ number (codes "ramdisk-addr") ∷ number (codes "tags-addr")
    ∷ number (codes "second-addr") ∷ row places.Option values.LongNumber (codes "dtb-addr")
    ∷ number (codes "base") ∷ number (codes "kernel-offset") ∷ number (codes "ramdisk-offset")
    ∷ number (codes "second-offset") ∷ number (codes "tags-offset")
    ∷ row places.Option values.LongNumber (codes "dtb-offset")
    ∷ excludes (codes "os-number") (row places.Option values.Os (codes "os")) ∷ number (codes "os-number")
    ∷ row places.Option values.Text (codes "name") ∷ row places.Option values.CommandLine (codes "cmdline") ∷ []

abbrev pub packing_rows : List Shape
packing_rows =
    row places.Options values.Text (codes "board-id") ∷ row places.Options values.Text (codes "fragment")
    ∷ flag (codes "escaped") ∷ path (codes "OUT") ∷ row places.LastWords values.Text (codes "FRAGMENT") ∷ writing_rows

-- ---- the rows of each command

abbrev pub own_rows_of : Work → List Shape
own_rows_of works.Expand = required (row places.Words values.File (codes "IN")) ∷ path (codes "OUT") ∷ []
own_rows_of works.List = path (codes "IN") ∷ []
own_rows_of works.Sparse =
    path (codes "IN") ∷ path (codes "OUT") ∷ usual (codes "4096") (number (codes "block")) ∷ []
own_rows_of works.Cut =
    path (codes "IN") ∷ required (row places.Word values.Number (codes "LIMIT")) ∷ path (codes "PREFIX")
    ∷ number (codes "raw") ∷ []
own_rows_of works.Flash =
    path (codes "IN") ∷ path (codes "PARTITION")
    ∷ needs (codes "SPOOL") (row places.Word values.Number (codes "LIMIT"))
    ∷ row places.Word values.File (codes "SPOOL") ∷ number (codes "raw")
    ∷ needs (codes "SPOOL") (row places.Option (values.Count 1) (codes "from"))
    ∷ flag (codes "mounted") ∷ []
own_rows_of works.Verify = path (codes "IN") ∷ path (codes "PARTITION") ∷ number (codes "raw") ∷ []
own_rows_of works.Pack =
    flag (codes "vendor") ∷ required (row places.Option (values.Count 0) (codes "version"))
    ∷ usual (codes "4096") (number (codes "page")) ∷ []
own_rows_of works.Repack = path (codes "IN") ∷ number (codes "page") ∷ flag (codes "keep-trailing") ∷ []
own_rows_of works.Unpack = path (codes "IN") ∷ path (codes "DIR") ∷ flag (codes "words") ∷ []
own_rows_of works.Info = flag (codes "check") ∷ flag (codes "hex") ∷ path (codes "IN") ∷ []
own_rows_of works.Completions =
    choice (codes "bash" ∷ codes "zsh" ∷ codes "fish" ∷ []) (path (codes "SHELL")) ∷ []

abbrev pub filling_rows_of : Work → List Shape
filling_rows_of works.Pack = option_rows
filling_rows_of works.Repack = option_rows
filling_rows_of work = []

abbrev pub shared_rows_of : Work → List Shape
shared_rows_of works.Pack = packing_rows
shared_rows_of works.Repack = packing_rows
shared_rows_of works.Expand = writing_rows
shared_rows_of works.Sparse = writing_rows
shared_rows_of works.Cut = writing_rows
shared_rows_of works.Unpack = writing_rows
shared_rows_of work = telling_rows

abbrev pub rows_of : Work → List Shape
rows_of work = own_rows_of work ++ (filling_rows_of work ++ shared_rows_of work)

-- ---- the command that an order is of

abbrev pub name_of : Work → List ℕ
name_of works.Expand = codes "expand"
name_of works.List = codes "list"
name_of works.Sparse = codes "sparse"
name_of works.Cut = codes "cut"
name_of works.Flash = codes "flash"
name_of works.Verify = codes "verify"
name_of works.Pack = codes "pack"
name_of works.Repack = codes "repack"
name_of works.Unpack = codes "unpack"
name_of works.Info = codes "info"
name_of works.Completions = codes "completions"

abbrev pub all_works : List Work
all_works =
    works.Expand ∷ works.List ∷ works.Sparse ∷ works.Cut ∷ works.Flash ∷ works.Verify ∷ works.Pack ∷ works.Repack
    ∷ works.Unpack ∷ works.Info ∷ works.Completions ∷ []

abbrev pub work_named : List ℕ → Option Work
work_named name = find (λ work. bytes_eq (name_of work) name) all_works

abbrev pub work_of_sparse : SparseTask → Work
work_of_sparse (sparse.Expand inputs output) = works.Expand
work_of_sparse (sparse.List input) = works.List
work_of_sparse (sparse.Sparse input output block tail) = works.Sparse
work_of_sparse (sparse.Cut input limit prefix from_zero raw) = works.Cut
work_of_sparse (sparse.Flash input partition raw pieces) = works.Flash
work_of_sparse (sparse.Verify input partition raw) = works.Verify

abbrev pub work_of_boot : BootTask → Work
work_of_boot (boot.Pack order) = works.Pack
work_of_boot (boot.Repack input order) = works.Repack
work_of_boot (boot.Unpack input folder with_words) = works.Unpack
work_of_boot (boot.Info input with_check with_hex) = works.Info

abbrev pub work_of : Task → Work
work_of (tasks.Sparse task) = work_of_sparse task
work_of (tasks.Boot task) = work_of_boot task
work_of (tasks.Completions shell) = works.Completions
