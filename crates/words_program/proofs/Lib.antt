pub mod WordFiles
