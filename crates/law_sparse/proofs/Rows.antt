-- The worked images, by computation.
use Rattle.std.proofs.Common.{refl}
use Rattle.abt_sparse.specs.Reading.{header_at, checked_header, chunk_at, chunks_at, body_at, outcome}
use Rattle.law_sparse.specs.Worked.{WorkedImages, WorkedFaults, WorkedPieces}

pub worked_images : WorkedImages
unfolding outcome body_at chunks_at chunk_at checked_header header_at
worked_images = record {
  small = refl;
  small_long = refl;
  small_expanded = refl;
  small_laid = refl;
  small_flashed = refl;
  with_checksum = refl;
  with_checksum_long = refl;
  twice_raw = refl;
  long = refl;
  long_expanded = refl;
  nothing = refl;
  nothing_expanded = refl;
  skips = refl;
  free = refl;
  most_blocks = refl;
  large_raw = refl;
}

pub worked_faults : WorkedFaults
unfolding outcome body_at chunks_at chunk_at checked_header header_at
worked_faults = record {
  no_bytes = refl;
  no_header = refl;
  bare_header = refl;
  magic_first = refl;
  then_major = refl;
  then_header_size = refl;
  then_chunk_header_size = refl;
  then_block_size = refl;
  no_block_size = refl;
  in_extra_bytes = refl;
  in_chunk_header = refl;
  in_chunk_extra_bytes = refl;
  in_raw_data = refl;
  in_fill_header = refl;
  in_fill_word = refl;
  type_first = refl;
  then_length = refl;
  then_blocks = refl;
  bare_checksum = refl;
  second_too_many = refl;
  too_few = refl;
}

pub worked_pieces : WorkedPieces
unfolding outcome body_at chunks_at chunk_at checked_header header_at
worked_pieces = record {
  cut = refl;
  cut_long = refl;
  weighs = refl;
  at_weight = refl;
  at_length = refl;
  nothing = refl;
  skips = refl;
  three = refl;
  three_in_turn = refl;
  filled = refl;
  filled_and_raw = refl;
  raw_cut = refl;
  raw_cut_long = refl;
  raw_weighs = refl;
  raw_pieces = refl;
}
