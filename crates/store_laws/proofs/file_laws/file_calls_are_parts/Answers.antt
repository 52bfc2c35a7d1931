use Rattle.store_laws.proofs.{Words.{AreFileRegions, files, FileMade, FileRead, FileThere, MakeFile, ReadFile, RemoveFile, RenameFile, WriteFile, file_store}, Growth.called, KeyCalls.{made_local, read_local, remove_local, rename_local, write_local}}

pub returns : Rattle.store_laws.proofs.file_laws.file_calls_are_parts.Goals.returns
returns _ = record {
  made = λ a name t u r ended local A parts is. called (file_store a) A t u parts (MakeFile name) FileMade ended.done is ended.is (made_local (AreFileRegions a) (files a) name t u r local);
  was_read = λ a name off len t u r ended local A parts is. called (file_store a) A t u parts (ReadFile name off len) (FileRead r) ended.done is ended.is (read_local (AreFileRegions a) (files a) name off len t u r local);
  was_written = λ a name off bytes t u r ended local A parts is.
      called (file_store a) A t u parts (WriteFile name off bytes) (FileThere r) ended.done is ended.is (write_local (AreFileRegions a) (files a) name off bytes t u r local);
  renamed = λ a old new t u r ended local A parts is. called (file_store a) A t u parts (RenameFile old new) (FileThere r) ended.done is ended.is (rename_local (AreFileRegions a) (files a) old new t u r local);
  removed = λ a name t u r ended local A parts is. called (file_store a) A t u parts (RemoveFile name) (FileThere r) ended.done is ended.is (remove_local (AreFileRegions a) (files a) name t u r local);
}
