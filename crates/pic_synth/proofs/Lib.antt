mod Samples
mod Bytes
mod Wholes
