-- The later bytes are laid over the first ones, and their bits are set too.
use Rattle.merge_write.proofs.{Values.{length-values_from, followed_values}, Words.{rules, laid_at, followed_is, ◌≡◌, ◌∙◌, ap, sym, ℕ, ◌<◌, ◌||◌, List, Option, None, length, get_or, unwrap_or, arith, with_items_is, with_items, is_set, laid, followed, values_from}}

pub lay-requires-clause-into : Rattle.merge_write.proofs.patch.Patch.then.Goals.lay-requires-clause-into
lay-requires-clause-into c = search (rules, arith, length-values_from)

pub join_bits-requires : Rattle.merge_write.proofs.patch.Patch.then.Goals.join_bits-requires
join_bits-requires c = search (rules, arith, length-values_from)

pub returns-clause-len : Rattle.merge_write.proofs.patch.Patch.then.Goals.returns-clause-len
returns-clause-len c =
    let vec = c.self.inside.bytes in
    let new = c.lay.new.into in
    let first : length c.args.self.now ≡ length vec.items = sym (ap length c.self.view_is) ∙ length-values_from c.self.inside.masks.items 0 vec.items in
    let same : length new ≡ length vec.items = c.lay.auto.into ∙ ap length c.deref_mut.ensures.value in
    length-values_from (with_items c.self.inside.masks c.join_bits.new.masks).items 0 (with_items vec new).items
    ∙ ap length (with_items_is vec new (same ∙ sym vec.ok.0))
    ∙ same
    ∙ sym first

pub returns-clause-values : Rattle.merge_write.proofs.patch.Patch.then.Goals.returns-clause-values
returns-clause-values c =
    let masks = c.self.inside.masks.items in
    let bytes = c.self.inside.bytes.items in
    let others = c.later.inside.masks.items in
    let later = c.later.inside.bytes.items in
    let new_bytes = c.lay.new.into in
    let new_masks = c.join_bits.new.masks in
    let first : length c.args.self.now ≡ length bytes = sym (ap length c.self.view_is) ∙ length-values_from masks 0 bytes in
    let second : length c.args.later.now ≡ length later = sym (ap length c.later.view_is) ∙ length-values_from others 0 later in
    let bytes_are : c.deref_mut.result.now ≡ bytes = c.deref_mut.ensures.value in
    let masks_are : c.deref_mut-2.result.now ≡ masks = c.deref_mut-2.ensures.value in
    let later_are : c.deref.result.now ≡ later = c.deref.ensures.value in
    let others_are : c.deref-2.result.now ≡ others = c.deref-2.ensures.value in
    let others_too : c.deref-3.result.now ≡ others = c.deref-3.ensures.value in
    let same : length new_bytes ≡ length bytes = c.lay.auto.into ∙ ap length bytes_are in
    let whole : (with_items c.self.inside.bytes new_bytes).items ≡ new_bytes = with_items_is c.self.inside.bytes new_bytes (same ∙ sym c.self.inside.bytes.ok.0) in
    let row : (with_items c.self.inside.masks new_masks).items ≡ new_masks =
    with_items_is c.self.inside.masks new_masks (c.join_bits.auto.masks ∙ ap length masks_are ∙ sym c.self.inside.masks.ok.0) in
    let over : new_bytes ≡ laid (values_from others 0 later) bytes =
    c.lay.ensures ∙ ap (λ (l : List ℕ). laid (values_from c.deref-2.result.now 0 c.deref.result.now) l) bytes_are
    ∙ ap (λ (l : List ℕ). laid (values_from c.deref-2.result.now 0 l) bytes) later_are
    ∙ ap (λ (l : List ℕ). laid (values_from l 0 later) bytes) others_are in
    let long : length (values_from others 0 later) ≡ length (values_from masks 0 bytes) =
    length-values_from others 0 later ∙ sym second ∙ c.requires ∙ first ∙ sym (length-values_from masks 0 bytes) in
    let joined : values_from new_masks 0 new_bytes ≡ followed (values_from masks 0 bytes) (values_from others 0 later) =
    followed_is (values_from masks 0 bytes) (values_from others 0 later) (values_from new_masks 0 new_bytes) long
    (length-values_from new_masks 0 new_bytes ∙ same ∙ sym (length-values_from masks 0 bytes))
    (λ k below.
    let inside : k < length bytes = omega (arith, length-values_from masks 0 bytes) in
    let within : k < length new_bytes = omega arith in
    let there : k < length later = omega (arith, first, second, c.requires) in
    let even : length (values_from others 0 later) ≡ length bytes = long ∙ length-values_from masks 0 bytes in
    let bit : is_set new_masks k ≡ (is_set others k || is_set masks k) =
    c.join_bits.ensures k ∙ ap (λ (l : List ℕ). is_set l k || is_set c.deref_mut-2.result.now k) others_too
    ∙ ap (λ (l : List ℕ). is_set others k || is_set l k) masks_are in
    let byte : get_or new_bytes k 0 ≡ unwrap_or (get_or (values_from others 0 later) k None) (get_or bytes k 0) =
    ap (λ (l : List ℕ). get_or l k 0) over ∙ laid_at (values_from others 0 later) bytes k even inside in
    followed_values masks new_masks bytes new_bytes later others k inside within there bit byte) in
    ap (λ (l : List ℕ). values_from (with_items c.self.inside.masks new_masks).items 0 l) whole
    ∙ ap (λ (l : List ℕ). values_from l 0 new_bytes) row
    ∙ joined
    ∙ ap (λ (l : List (Option ℕ)). followed l (values_from others 0 later)) c.self.view_is
    ∙ ap (λ (l : List (Option ℕ)). followed c.args.self.now l) c.later.view_is
