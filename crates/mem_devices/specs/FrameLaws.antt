-- Frames of a device over another one, which adds to the other's counts. Equal frames stay equal.
use Rattle.std.specs.Prelude.{◌≡◌, ℕ, ◌+◌}
use Rattle.std.proofs.Common.{ap}
use Rattle.abt_io.specs.Frame.{ReadFrame, WriteFrame, PartitionFrame}

-- with w writes and o clears more, all failed
abbrev pub more_reading : ReadFrame → ℕ → ℕ → ReadFrame
more_reading f w o =
    record f {
      writes = f.writes + w;
      write_faults = f.write_faults + w;
      clears = f.clears + o;
      clear_faults = f.clear_faults + o;
    }

pub counted_reading : (f g : ReadFrame) → f ≡ g → (w o : ℕ) → more_reading f w o ≡ more_reading g w o
counted_reading f g e w o = ap (λ (h : ReadFrame). more_reading h w o) e

-- with r reads and o clears more, all failed
abbrev pub more_writing : WriteFrame → ℕ → ℕ → WriteFrame
more_writing f r o =
    record f {
      reads = f.reads + r;
      read_faults = f.read_faults + r;
      clears = f.clears + o;
      clear_faults = f.clear_faults + o;
    }

pub counted_writing : (f g : WriteFrame) → f ≡ g → (r o : ℕ) → more_writing f r o ≡ more_writing g r o
counted_writing f g e r o = ap (λ (h : WriteFrame). more_writing h r o) e

-- with w writes and o syncs more, all failed
abbrev pub more_partition : PartitionFrame → ℕ → ℕ → PartitionFrame
more_partition f w o = record f { puts = f.puts + w; syncs = f.syncs + o; put_faults = f.put_faults + w + o }

pub counted_partition : (f g : PartitionFrame) → f ≡ g → (w o : ℕ) → more_partition f w o ≡ more_partition g w o
counted_partition f g e w o = ap (λ (h : PartitionFrame). more_partition h w o) e

-- with a count of bytes taken of its own, and w failed writes more
abbrev pub marred : PartitionFrame → ℕ → ℕ → PartitionFrame
marred f t w = record f { taken = t; put_faults = f.put_faults + w }

pub marred_partition : (f g : PartitionFrame) → f ≡ g → (t w : ℕ) → marred f t w ≡ marred g t w
marred_partition f g e t w = ap (λ (h : PartitionFrame). marred h t w) e
