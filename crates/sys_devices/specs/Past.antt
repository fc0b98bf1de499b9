-- The history of a partition over a file: its pending bytes, syncs and intermediate states.
use Rattle.std.specs.Prelude.{ℕ}
use Rattle.abt_io.specs.Moment.{Past}

-- the history of its file, with this many successful syncs
abbrev pub past_of : Past → ℕ → Past
past_of past synced = record past { synced = synced }
