-- What a call has made of the files.
use Rattle.iso_fs.proofs.Words.{◌≡◌, Result, Ok, Err, Array, own, Pairs, accesses_of, answer_of, IsCorrect, FsError, FileAreas, Call, AreFileRegions, files}

-- the regions are well formed, and these are the files in them
pub record HasFiles (a : FileAreas) (m : Pairs) (C : Array) : Type 0 where
  pub regions : AreFileRegions a C
  pub files_are : files a C ≡ m

-- the same, with an answer, where an operation answers and leaves so much
pub record HasDone {R : Type 0} (a : FileAreas) (left : R × Pairs) (C : Array) (r : R) : Type 0 where
  pub regions : AreFileRegions a C
  pub answers : left.0 ≡ r
  pub files_are : files a C ≡ left.1

pub no_ok : {R : Type 0} (e : FsError) (r : R) → ◌≡◌ {A = Result R FsError} (Err e) (Ok r) → ⊥
no_ok e r is = cc

-- A program that does as the operation is that of the files.
pub correct_by : {R : Type 0} (a : FileAreas) (op : Pairs → R × Pairs) (p : Call R) → ((B : Array) (r : R) → AreFileRegions a B → answer_of p B ≡ Ok r → HasDone a (op (files a B)) (own B (accesses_of p B)) r)
    → IsCorrect (AreFileRegions a) (files a) op Ok p
correct_by a op p does = record {
  answer = λ B r regions e. (does B r regions e).answers;
  well_formed = λ B r regions e. (does B r regions e).regions;
  maps = λ B r regions e. (does B r regions e).files_are;
}
