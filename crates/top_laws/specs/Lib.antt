-- What the laws of the top call say, in words of images and texts.
pub mod Plain
pub mod ByAccesses
