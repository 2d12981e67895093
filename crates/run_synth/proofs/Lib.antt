mod Laid
mod Telling
mod Encoded
