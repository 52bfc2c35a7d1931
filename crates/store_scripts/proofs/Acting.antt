-- The operations that call a store beside the hash store, and how calls are told.
use Rattle.store_scripts.proofs.{Words.{◌≡◌, refl, ℕ, Bool, true, false, List, Option, Some, None, TreePut, TreeGet, TreeDelete, TreeScan, FileNew, FileWrite, FileRead, FileMove, FileDelete, Reply, StoreError, found_reply, pairs_reply, removed_reply, store_refusal, tree_delete_step, tree_get_step, tree_put_step, tree_scan_step, file_new_step, file_write_step, file_read_step, file_move_step, file_delete_step, Live, World, attached, Got, WasFound, WasThere, Notes, SecondStore, del_answer, get_answer, put_answer, scan_answer, HasShape, array_of, array_at, array_shape, own_shape, live_at, [], ◌∷◌}, Noted.{Goes, IsNoted}}
use Rattle.script_model.specs.declared.script.Reply.TheVariants as reply
use Rattle.store_model.specs.declared.stores.StoreError.TheVariants as store

-- where each of them leads
pub record AllGo (S : SecondStore) (Q : Type 0) (n : ℕ) (W : World) (notes : Notes S) (c : ℕ) (t : Live) : Type 0 where
  pub put : (key value : List ℕ) → Goes S Q n W notes c (TreePut key value) (Some t) (tree_put_step W t key value)
  pub get : (key : List ℕ) → Goes S Q n W notes c (TreeGet key) (Some t) (tree_get_step W t key)
  pub delete : (key : List ℕ) → Goes S Q n W notes c (TreeDelete key) (Some t) (tree_delete_step W t key)
  pub scan : (from to : List ℕ) (most : ℕ) → Goes S Q n W notes c (TreeScan from to most) (Some t) (tree_scan_step W t from to most)
  pub make : (name : List ℕ) → Goes S Q n W notes c (FileNew name) (Some t) (file_new_step W t name)
  pub write : (name : List ℕ) (off : ℕ) (bytes : List ℕ) → Goes S Q n W notes c (FileWrite name off bytes) (Some t) (file_write_step W t name off bytes)
  pub read : (name : List ℕ) (off len : ℕ) → Goes S Q n W notes c (FileRead name off len) (Some t) (file_read_step W t name off len)
  pub move : (from to : List ℕ) → Goes S Q n W notes c (FileMove from to) (Some t) (file_move_step W t from to)
  pub remove : (name : List ℕ) → Goes S Q n W notes c (FileDelete name) (Some t) (file_delete_step W t name)

-- each of them leads where what is told stays true, for one such store
abbrev pub SecondGoes : SecondStore → Type 1
SecondGoes S = (Q : Type 0) (n : ℕ) (W : World) (notes : Notes S) → IsNoted S Q n W notes → (c : ℕ) (t : Live) → attached W c ≡ Some t → AllGo S Q n W notes c t

-- what the transaction of a client is shown has the shape of the image
pub shape_at : (S : SecondStore) (Q : Type 0) (n : ℕ) (W : World) (notes : Notes S) → IsNoted S Q n W notes → (c : ℕ) (t : Live) → attached W c ≡ Some t → HasShape W.geometry (array_of W t)
shape_at S Q n W notes is c t found =
    own_shape W.geometry (array_at W.history t.begin) t.accesses (live_at W c t is.world found).accesses (array_shape W.geometry W.history t.begin is.world.history)

-- no call of a key store and no scan is answered so
pub record IsRefusal (r : Reply) : Type 0 where
  pub put : put_answer r ≡ None
  pub get : get_answer r ≡ None
  pub del : del_answer r ≡ None
  pub scan : scan_answer r ≡ None

pub store_refused : (e : StoreError) → IsRefusal (store_refusal e)
store_refused store.BadKey = record { put = refl; get = refl; del = refl; scan = refl }
store_refused e = record { put = refl; get = refl; del = refl; scan = refl }

-- the answers, by the reply that tells bytes or none, or whether something was there
pub found_told : {A : Type 0} (tell : Reply → Option A) (name : Option (List ℕ) → A) → tell reply.Missing ≡ Some (name None) → ((bytes : List ℕ) → tell (reply.Found bytes) ≡ Some (name (Some bytes)))
    → (r : Option (List ℕ)) → tell (found_reply r) ≡ Some (name r)
found_told tell name none some None = none
found_told tell name none some (Some bytes) = some bytes

pub removed_told : {A : Type 0} (tell : Reply → Option A) (name : Bool → A) → tell reply.Done ≡ Some (name true) → tell reply.Missing ≡ Some (name false) → (r : Bool) → tell (removed_reply r) ≡ Some (name r)
removed_told tell name there missing true = there
removed_told tell name there missing false = missing

pub got_told : (r : Option (List ℕ)) → get_answer (found_reply r) ≡ Some (Got r)
got_told = found_told get_answer (λ value. Got value) refl (λ value. refl)

pub there_told : (r : Bool) → del_answer (removed_reply r) ≡ Some (WasThere r)
there_told = removed_told del_answer (λ there. WasThere there) refl refl

pub pairs_told : (r : List (List ℕ × List ℕ)) → scan_answer (pairs_reply r) ≡ Some (WasFound r)
pairs_told [] = refl
pairs_told (pair ∷ pairs) = refl
