pub mod NineEleven
