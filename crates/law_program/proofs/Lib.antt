pub mod Chains
pub mod CutFiles
pub mod ProgramCuts
