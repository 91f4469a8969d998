pub mod Ccws
