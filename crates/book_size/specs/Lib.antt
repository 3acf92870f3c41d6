-- Laws: the first 65,536 bytes of an input decide what is printed.
pub mod LongInput
