-- Each operation of a client, as the part that answers it says what it is.
use Rattle.iso_machine.proofs.Words.{◌≡◌, ◌⊎◌, inl, inr, refl, ℕ, List, Op, hash_delete_step, hash_get_step, hash_put_step, in_transaction, numbers, step, store_step, tree_put_step, tree_get_step, tree_delete_step, tree_scan_step, file_new_step, file_write_step, file_read_step, file_move_step, file_delete_step, World, attached, act_step, store_act, IsPlain}
use Rattle.script_model.specs.declared.script.Op.TheVariants as op

-- an access or a mark
pub access_is : (W : World) (c : ℕ) (o : Op) → ((b : ℕ) × (f : ℕ) × (x : List ℕ) × (o ≡ op.Put b f x)) ⊎ ((b : ℕ) × (o ≡ op.Read b)) ⊎ ((b : ℕ) × (f : ℕ) × (n : ℕ) × (o ≡ op.Get b f n))
    ⊎ ((b : ℕ) × (x : List ℕ) × (o ≡ op.Write b x)) ⊎ ((b : ℕ) × (x : List ℕ) × (o ≡ op.Fill b x)) ⊎ ((f : ℕ) × (n : ℕ) × (o ≡ op.Mark f n))
    → in_transaction W (attached W c) (λ t. act_step W t o) ≡ step W c o
unfolding step
access_is W c o (inl (b, f, x, is)) = rw is refl
access_is W c o (inr (inl (b, is))) = rw is refl
access_is W c o (inr (inr (inl (b, f, n, is)))) = rw is refl
access_is W c o (inr (inr (inr (inl (b, x, is))))) = rw is refl
access_is W c o (inr (inr (inr (inr (inl (b, x, is)))))) = rw is refl
access_is W c o (inr (inr (inr (inr (inr (f, n, is)))))) = rw is refl

-- an operation on a store
abbrev pub IsStoreOp : Op → Type 0
IsStoreOp o =
    ((k : List ℕ) × (v : List ℕ) × (o ≡ op.HashPut k v)) ⊎ ((k : List ℕ) × (o ≡ op.HashGet k)) ⊎ ((k : List ℕ) × (o ≡ op.HashDelete k))
    ⊎ ((k : List ℕ) × (v : List ℕ) × (o ≡ op.TreePut k v)) ⊎ ((k : List ℕ) × (o ≡ op.TreeGet k)) ⊎ ((k : List ℕ) × (o ≡ op.TreeDelete k))
    ⊎ ((f : List ℕ) × (u : List ℕ) × (m : ℕ) × (o ≡ op.TreeScan f u m))
    ⊎ ((n : List ℕ) × (o ≡ op.FileNew n)) ⊎ ((n : List ℕ) × (f : ℕ) × (x : List ℕ) × (o ≡ op.FileWrite n f x)) ⊎ ((n : List ℕ) × (f : ℕ) × (l : ℕ) × (o ≡ op.FileRead n f l))
    ⊎ ((f : List ℕ) × (u : List ℕ) × (o ≡ op.FileMove f u)) ⊎ ((n : List ℕ) × (o ≡ op.FileDelete n))

pub store_so : (W : World) (c : ℕ) (o : Op) → IsStoreOp o → (in_transaction W (attached W c) (λ t. store_act W t o) ≡ step W c o) × (IsPlain o → ⊥)
unfolding step hash_put_step hash_get_step hash_delete_step tree_put_step tree_get_step tree_delete_step tree_scan_step file_new_step file_write_step file_read_step file_move_step file_delete_step store_step
store_so W c o (inl (k, v, is)) = rw is (refl, λ plain. plain)
store_so W c o (inr (inl (k, is))) = rw is (refl, λ plain. plain)
store_so W c o (inr (inr (inl (k, is)))) = rw is (refl, λ plain. plain)
store_so W c o (inr (inr (inr (inl (k, v, is))))) = rw is (refl, λ plain. plain)
store_so W c o (inr (inr (inr (inr (inl (k, is)))))) = rw is (refl, λ plain. plain)
store_so W c o (inr (inr (inr (inr (inr (inl (k, is))))))) = rw is (refl, λ plain. plain)
store_so W c o (inr (inr (inr (inr (inr (inr (inl (f, u, m, is)))))))) = rw is (refl, λ plain. plain)
store_so W c o (inr (inr (inr (inr (inr (inr (inr (inl (n, is))))))))) = rw is (refl, λ plain. plain)
store_so W c o (inr (inr (inr (inr (inr (inr (inr (inr (inl (n, f, x, is)))))))))) = rw is (refl, λ plain. plain)
store_so W c o (inr (inr (inr (inr (inr (inr (inr (inr (inr (inl (n, f, l, is))))))))))) = rw is (refl, λ plain. plain)
store_so W c o (inr (inr (inr (inr (inr (inr (inr (inr (inr (inr (inl (f, u, is)))))))))))) = rw is (refl, λ plain. plain)
store_so W c o (inr (inr (inr (inr (inr (inr (inr (inr (inr (inr (inr (n, is)))))))))))) = rw is (refl, λ plain. plain)

-- an operation of the image has no client
pub same_trim : (W : World) (n c : ℕ) → step W n op.Trim ≡ step W c op.Trim
unfolding step
same_trim W n c = refl

pub stat_is : (W : World) (c : ℕ) → step W c op.Stat ≡ (numbers W, W)
unfolding step
stat_is W c = refl

pub same_compact : (W : World) (n c : ℕ) → step W n op.Compact ≡ step W c op.Compact
unfolding step
same_compact W n c = refl

pub same_upgrade : (W : World) (n c : ℕ) → step W n op.Upgrade ≡ step W c op.Upgrade
unfolding step
same_upgrade W n c = refl
