-- What a call of the file store leaves as it is.
use Rattle.std.proofs.Common.{◌≡◌, ◌∙◌, ap, ℕ, Result, Ok, Err, List}
use Rattle.store_model.specs.declared.stores.StoreError.TheVariants as store
use Rattle.store_model.specs.{declared.stores.TxError.TxError, declared.files.FsError.FsError, FileCalls.Call}
use Rattle.store_model.specs.declared.stores.TxError.TheVariants as error
use Rattle.store_model.specs.declared.files.FsError.TheVariants as fs
use Rattle.iso_model.specs.declared.access.Access.{Access}
use Rattle.tx_blocks.specs.{Tx.{Tx, with_accesses}, Runs.IsCut}
use Rattle.iso_fs.specs.Ends.{HasRun}
use Rattle.desk_tests.specs.Ready.{IsReady}

grown : (blocks : ℕ) (t u : Tx) (done : List Access) → u ≡ with_accesses t done → IsReady blocks t → IsReady blocks u
grown blocks t u done is ready = record { size = ap (λ (w : Tx). w.size) is ∙ ready.size; count = ap (λ (w : Tx). w.blocks) is ∙ ready.count }

cut_ready : {R : Type 0} (blocks : ℕ) (p : Call R) (t u : Tx) (e : TxError) → IsCut p t u e → IsReady blocks t → IsReady blocks u
cut_ready blocks p t u error.TooManyAccesses cut ready = grown blocks t u cut.done cut.is ready
cut_ready blocks p t u error.Memory cut ready = grown blocks t u cut.began.done cut.began.is ready
cut_ready blocks p t u error.Down cut ready = grown blocks t u cut.began.done cut.began.is ready
cut_ready blocks p t u error.Disk cut ready = grown blocks t u cut.began.done cut.began.is ready
cut_ready blocks p t u error.NotInTx cut ready = grown blocks t u cut.began.done cut.began.is ready
cut_ready blocks p t u error.BadBlock cut ready = absurd cut
cut_ready blocks p t u error.BadRange cut ready = absurd cut
cut_ready blocks p t u error.NoAccess cut ready = absurd cut
cut_ready blocks p t u error.TooManyMarks cut ready = absurd cut

pub file_stays_ready : {X : Type 0} (blocks : ℕ) (p : Call X) (t u : Tx) (result : Result X FsError) → HasRun p t u result → IsReady blocks t → IsReady blocks u
file_stays_ready blocks p t u (Ok x) run ready = grown blocks t u run.done run.is ready
file_stays_ready blocks p t u (Err fs.BadName) run ready = grown blocks t u run.done run.is ready
file_stays_ready blocks p t u (Err fs.BadRange) run ready = grown blocks t u run.done run.is ready
file_stays_ready blocks p t u (Err fs.Exists) run ready = grown blocks t u run.done run.is ready
file_stays_ready blocks p t u (Err (fs.Store store.BadKey)) run ready = grown blocks t u run.done run.is ready
file_stays_ready blocks p t u (Err (fs.Store store.BadValue)) run ready = grown blocks t u run.done run.is ready
file_stays_ready blocks p t u (Err (fs.Store (store.NoBlocks need free))) run ready = grown blocks t u run.done run.is ready
file_stays_ready blocks p t u (Err (fs.Store (store.Broken block))) run ready = grown blocks t u run.done run.is ready
file_stays_ready blocks p t u (Err (fs.Store (store.Tx e))) run ready = cut_ready blocks p t u e run ready
file_stays_ready blocks p t u (Err (fs.Store store.Memory)) run ready = grown blocks t u run.began.done run.began.is ready
