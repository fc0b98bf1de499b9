-- Empty files, of which mkbootimg makes no image, or one with a place for them.
use Rattle.std.specs.Prelude.{◌≡◌, ◌⊎◌, ℕ, List, [], Option, Some, Contains, IfSome, codes}
use Rattle.std.specs.Option.{IsSomeAnd}
use Rattle.sys_disk.specs.World.{World}
use Rattle.words_orders.specs.declared.order.BootTask.{BootTask}
use Rattle.words_orders.specs.declared.order.BootTask.TheVariants as boot
use Rattle.words_orders.specs.declared.order.Given.{Given}
use Rattle.words_orders.specs.declared.order.Order.{Order}
use Rattle.words_orders.specs.declared.order.PackOrder.{PackOrder}
use Rattle.words_orders.specs.declared.order.Task.{Task}
use Rattle.words_orders.specs.declared.order.Task.TheVariants as tasks

-- the file at a path is there, and holds nothing
pub record IsEmptyAt (world : World) (path : List ℕ) : Type 0 where
  pub file : ℕ
  pub there : world.at path ≡ Some file
  pub empty : world.holds file ≡ []

-- the file of this option of an image of this version is not to be empty
abbrev pub IsNotToBeEmpty : ℕ → List ℕ → Type 0
IsNotToBeEmpty version option = (option ≡ codes "recovery-dtbo") ⊎ ((option ≡ codes "dtb") × (version ≡ 2))

-- such an option of the order names an empty file
pub record PacksEmptyFile (world : World) (order : PackOrder) : Type 0 where
  pub given : Given
  pub among : Contains order.given.items given
  pub option : IsNotToBeEmpty order.version given.row.now.name.now
  pub named : IsSomeAnd given.word (λ word. IsEmptyAt world word.now)

abbrev pub TaskHasEmptyFile : World → Task → Type 0
TaskHasEmptyFile world (tasks.Boot (boot.Pack order)) = PacksEmptyFile world order
TaskHasEmptyFile world task = ⊥

abbrev pub HasEmptyFile : World → Option Order → Type 0
HasEmptyFile world order = IsSomeAnd order (λ o. TaskHasEmptyFile world o.task)
