pub mod AospFiles
