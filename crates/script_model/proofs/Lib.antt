pub mod Words
pub mod ScriptRows
pub mod Steps
pub mod ScriptBytes
pub mod Small
mod MarkRows
mod HandleRows
mod GroupRows
mod BenchRows
mod Upkeep
mod LimitRows
mod OrderRows
mod StoreRows
mod CutInputs
pub mod CoreSteps
pub mod Looks
mod ProgramAnswers
mod TakenBlocks
mod FileParts
pub mod FilesPlace
mod FileAccesses
mod FileRows
