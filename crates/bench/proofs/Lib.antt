pub mod Undecided
