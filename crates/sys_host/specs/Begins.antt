-- The output that a command begins to write.
use Rattle.std.specs.Prelude.{◌≡◌, ◌≤◌, ℕ, [], Result, IfOk, OnOk}
use Rattle.sys_disk.specs.Images.{OfImage}
use Rattle.sys_disk.specs.declared.image_to.ImageTo.{ImageTo}
use Rattle.sys_finish.specs.Given.{given_by_writer}
use Rattle.sys_finish.specs.declared.image_file.ImageFile.{ImageFile}
use Rattle.sys_finish.specs.declared.output_file.OutputFile.{OutputFile}
use Rattle.sys_host.specs.Streams.{Mixed}
use Rattle.sys_host.specs.Taken.{Forbidden, Adds, WritesOne}
use Rattle.sys_host.specs.declared.open_file.OpenedFile.{OpenedFile}
use Rattle.sys_host.specs.declared.streams.Streams.{Streams}
use Rattle.sys_host.specs.declared.taken.Taken.{Taken}

-- one more file is written, to which nothing was written yet
pub record BeginsOutput {E F : Type 0} {g : _} (r : Result (OutputFile F g) E) (streams : Streams)
    (taken taken' : Taken) : Type 0 where
  pub writes : OnOk r (WritesOne streams taken taken')
  pub empty : IfOk r (λ output. given_by_writer output.to.writer ≡ [])

-- the same of an image that has a magic
pub record BeginsImage {E F : Type 0} {g : _} (r : Result (ImageTo (ImageFile F g) (OutputFile F g)) E)
    (streams : Streams) (taken taken' : Taken) : Type 0 where
  pub writes : OnOk r (WritesOne streams taken taken')
  pub blank : IfOk r (OfImage (λ image. given_by_writer image.to.writer ≡ [])
      (λ output. given_by_writer output.to.writer ≡ []))

-- one more file is written, for pieces of at most this many bytes, and it holds no more than that
pub record BeginsKeptSpool {X F : Type 0} (n : ℕ) (r : Result (X × ℕ) F) (streams : Streams) (taken taken' : Taken)
    : Type 0 where
  pub stands : IfOk r (λ kept. kept.1 ≤ n)
  pub writes : OnOk r (WritesOne streams taken taken')

-- what is opened is none of the files of this run, and is one of them from then on; and no message is mixed with its
-- data
pub record Admits {E F : Type 0} (r : Result (OpenedFile F) E) (streams : Streams) (taken taken' : Taken) : Type 0 where
  pub free : IfOk r (λ opened. ¬ Forbidden taken opened.found.identity)
  pub apart : IfOk r (λ opened. ¬ Mixed streams opened.found.identity)
  pub added : IfOk r (λ opened. Adds taken taken' opened.found.identity)
