-- How a run ends that is called by the name of one of AOSP's tools.
use Rattle.std.specs.Prelude.{◌≡◌, ◌≢◌, ◌⊎◌, ◌==◌, ℕ, List, Bool, Option, Some, None, Result, Ok, Err, IfErr, IfOk}
use Rattle.std.specs.Prelude.{if◌then◌else◌}
use Rattle.sys_disk.specs.Counts.{call}
use Rattle.sys_disk.specs.World.{OpenFiles, HasFailed}
use Rattle.sys_refusals.specs.declared.refusal.HostFault.{HostFault}
use Rattle.sys_report.specs.declared.report.Report.{Report}
use Rattle.words_orders.specs.declared.answers.Answer.{Answer}
use Rattle.words_orders.specs.declared.fault.WordsFault.{WordsFault}
use Rattle.words_orders.specs.Refused.{IsOfWords}
use Rattle.words_tools.specs.declared.orders.Orders.{Orders}
use Rattle.words_tools.specs.declared.tools.Tool.{Tool}
use Rattle.words_tools.specs.declared.unpack_bootimg.UnpackImage.{UnpackImage}
use Rattle.words_tools.specs.Rejected.{AreRejected, IsRejected}
use Rattle.words_tools.specs.Tools.{AreOrdersOf, AreToolOrders, wrong_words_status}
use Rattle.words_program.specs.Mistake.{IsMistake}
use Rattle.cmd_sparse_dispatch.specs.Commands.{State, state}
use Rattle.abootimg.specs.OrderDone.{IsReadyForOrder}
use Rattle.abootimg.specs.LooksAhead.{LooksAhead, files_given}
use Rattle.abootimg.specs.EmptyFiles.{HasEmptyFile}
use Rattle.abootimg.specs.InTurn.{TurnsEnd, IsPlainOrder}
use Rattle.abootimg.specs.Stored.{Stored, stored}
use Rattle.abootimg.specs.UnpackEnds.{UnpackEnds}

-- ---- the orders, on a disk

-- no order asks for the second line of messages
abbrev pub ArePlain : Orders → Type 0
ArePlain orders = IsPlainOrder orders.first × IsPlainOrder orders.second

-- No order is begun: an order of `pack` is given an empty file that no image is made of, or a file of the second order
-- can't be read. Every file is as before.
pub record NoneBegun (orders : Orders) (a z : State) (status : ℕ) : Type 0 where
  pub same : z.world ≡ a.world
  pub cause : ((HasEmptyFile a.world orders.first ⊎ HasEmptyFile a.world orders.second) × (z.held ≡ a.held))
      ⊎ ((fault : HostFault) × HasFailed (call fault) a.held z.held)
  pub status_is : status ≢ 0

-- Regular files that the second order reads are opened once, before any order is begun. Both are carried out in turn.
-- Once both are done an id is printed, if that is asked for.
pub record OrdersCarriedOut (on_output is_file : List ℕ → Bool) (orders : Orders) (a z : State) (status : ℕ) : Type 0
  where
    pub looked : OpenFiles
    pub looks : LooksAhead is_file (files_given orders.second) a.world a.held looked
    pub begun : Report
    pub done : ℕ
    pub turns : TurnsEnd on_output orders.first orders.second (state a.world looked begun) z done
    pub refused : done ≢ 0 → status ≡ done
    pub printed : done ≡ 0 → orders.id_of ≡ None → status ≡ 0

abbrev pub OrdersEnd : (List ℕ → Bool) → (List ℕ → Bool) → Orders → State → State → ℕ → Type 0
OrdersEnd on_output is_file orders a z status =
    NoneBegun orders a z status ⊎ OrdersCarriedOut on_output is_file orders a z status

-- ---- from the words

-- An image is unpacked, or orders are carried out on a disk on which nothing was open.
abbrev pub GivenEnd : (List ℕ → Bool) → (List ℕ → Bool) → Option UnpackImage → Orders → Stored → Report → Stored
    → Report → ℕ → Type 0
GivenEnd on_output is_file (Some image) orders a report z report' status = UnpackEnds image a report z report' status
GivenEnd on_output is_file None orders a report z report' status =
    (held : OpenFiles) × IsReadyForOrder held × (held.counts ≡ a.counts)
    × ((y : State) × (z ≡ stored y.world y.held) × (report' ≡ y.report)
    × OrdersEnd on_output is_file orders (state a.world held report) y status)

-- Words that give no orders change no file, a mistake does not end with status 0, and only one of the words themselves
-- ends with status 2.
abbrev pub OrdersFoundEnd : (List ℕ → Bool) → (List ℕ → Bool) → Result Orders WordsFault → Stored → Report → Stored
    → Report → ℕ → Type 0
OrdersFoundEnd on_output is_file (Ok orders) a report z report' status =
    GivenEnd on_output is_file orders.unpack orders a report z report' status
OrdersFoundEnd on_output is_file (Err fault) a report z report' status =
    (z ≡ a) × ((IsMistake fault → status ≢ 0) × (status ≡ 2 → IsOfWords fault))

-- the status under a tool's name: that of wrong words is the tool's own
abbrev pub status_as : Tool → ℕ → ℕ
status_as tool status = if status == 2 then wrong_words_status tool else status

-- What was found in words without those of ramdisk fragments: orders that they give with what those say. Where none is
-- found, status 2 says that the words are rejected.
pub record PartedEnds (on_output is_file : List ℕ → Bool) (tool : Tool) (others : List (List ℕ)) (said : List Answer)
    (a : Stored) (report : Report) (z : Stored) (report' : Report) (status : ℕ) : Type 0 where
  pub found : Result Orders WordsFault
  pub asked : IfOk found (AreOrdersOf tool others said)
  pub none : IfErr found (λ fault. status ≡ 2 → AreRejected tool others said)
  pub ends : OrdersFoundEnd on_output is_file found a report z report' status

-- what was found in all words of a call
pub record CalledEnds (on_output is_file : List ℕ → Bool) (tool : Tool) (words : List (List ℕ)) (a : Stored)
    (report : Report) (z : Stored) (report' : Report) (status : ℕ) : Type 0 where
  pub found : Result Orders WordsFault
  pub asked : IfOk found (AreToolOrders tool words)
  pub none : IfErr found (λ fault. status ≡ 2 → IsRejected tool words)
  pub ends : OrdersFoundEnd on_output is_file found a report z report' status

-- the same, with the tool's status of wrong words
pub record ToolEnds (on_output is_file : List ℕ → Bool) (tool : Tool) (words : List (List ℕ)) (a : Stored)
    (report : Report) (z : Stored) (report' : Report) (status : ℕ) : Type 0 where
  pub own_status : ℕ
  pub ends : CalledEnds on_output is_file tool words a report z report' own_status
  pub status_is : status ≡ status_as tool own_status
