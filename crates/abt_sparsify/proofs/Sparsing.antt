-- Raw runs in chunks, for the crates that build on this one.
pub use Rattle.abt_pieces.proofs.PieceCuts.{no_cut, one_cut, first_cut, cut_next}
