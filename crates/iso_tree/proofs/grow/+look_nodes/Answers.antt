use Rattle.iso_tree.proofs.{Words.{Answer, Area, Cell, Err, HasLookedAgain, HasRun, IsAt, List, Ok, Program, StoreError, look_again, map, nodes_from, ℕ, ◌≡◌, ◌∙◌, refl, ap, subst, suc, ◌+◌, ◌*◌, ◌≤◌, [], ◌∷◌, length, rules, arith, look_access, Tx, HasArea, IsTreeArea, read_one, used_cells, AreInside}, Descending.reads_after, Rereading.{map_ok, first_refused, rest_refused, rest_read, shown_after, none_again, path_room, usable_more}}
use Rattle.iso_tree.proofs.grow.+look_nodes.Goals as goal

-- the reads of a node and of the others, that go well or not
looked_more : (a : Area) (rest path : List (ℕ × ℕ)) (others nodes : List ℕ) (t u v : Tx) (result : Answer) → HasLookedAgain a rest others u v result
    → (((f : List (ℕ × List Cell) → Program Answer) → IsAt (look_again a (map (λ p. p.0) rest) f) (f (nodes_from a.size others rest)) u v)
    → (f : List (ℕ × List Cell) → Program Answer) → IsAt (look_again a (map (λ p. p.0) path) f) (f (nodes_from a.size nodes path)) t v)
    → ((e : StoreError) → ((f : List (ℕ × List Cell) → Program Answer) → HasRun (look_again a (map (λ p. p.0) rest) f) u v (Err e))
    → (f : List (ℕ × List Cell) → Program Answer) → HasRun (look_again a (map (λ p. p.0) path) f) t v (Err e)) → HasLookedAgain a path nodes t v result
looked_more a rest path others nodes t u v (Ok done) run ok err = ok run
looked_more a rest path others nodes t u v (Err e) run ok err = err e run

pub split_at_mut-node-requires : goal.split_at_mut-node-requires
split_at_mut-node-requires g t c = (path_room c.args.area.size (length c.args.nodes.now) c.in-Some.block c.in-Some.count c.in-Some.rest.now c.args.path.now c.in-Some.ensures.some c.requires.nodes).0

pub returns-in-Err-clause-run : goal.returns-in-Err-clause-run
returns-in-Err-clause-run g t c = λ f.
    first_refused c.args.area c.in-Some.block c.in-Some.count c.in-Some.rest.now c.args.path.now c.in-Some.ensures.some f (g.T.TxBlocks.state c.args.tx.now) (g.T.TxBlocks.state c.look_whole.new.tx)
    (g.T.TxBlocks.device c.args.tx.now) (g.T.TxBlocks.device c.look_whole.new.tx) c.in-Err.e c.in-Err.ensures.kept c.in-Err.ensures.cause

pub look_nodes-requires : goal.look_nodes-requires
look_nodes-requires g t c κs within =
    let state = g.T.TxBlocks.state in
    let read = c.in_default-look_whole.ensures.read in
    let shorter : length c.args.path.now ≡ suc (length c.in-Some.rest.now) = ap length c.in-Some.ensures.some in
    let inside = subst (AreInside c.args.area) c.in-Some.ensures.some c.requires.path in
    let there : HasArea IsTreeArea (state c.look_whole.new.tx) c.args.area = record { area = c.requires.within.area; size = ap (λ (w : Tx). w.size) read ∙ c.requires.within.size; fits = omega (arith, c.requires.within.fits, ap (λ (w : Tx). w.blocks) read) } in
    let usable = shown_after c.args.area c.in-Some.block c.in-Some.count c.in-Some.rest.now c.args.path.now (state c.args.tx.now) (state c.look_whole.new.tx) (c.args.area.start + c.in-Some.block) c.in-Some.ensures.some read c.requires.usable in
    let room = (path_room c.args.area.size (length c.args.nodes.now) c.in-Some.block c.in-Some.count c.in-Some.rest.now c.args.path.now c.in-Some.ensures.some c.requires.nodes).1 in
    let fits : length c.in-Some.rest.now * c.args.area.size ≤ length c.split_at_mut-node.result.1.now = omega (arith, room, c.split_at_mut-node.ensures.back_len) in
    (omega (arith, shorter, c.decreases), (search rules, record { within = there; is_open = ap (λ (w : Tx). w.is_open) read ∙ c.requires.is_open; path = inside.1; usable = usable; nodes = fits }))

pub returns-clause-run : goal.returns-clause-run
returns-clause-run g t c =
    let state = g.T.TxBlocks.state in
    let a = c.args.area in
    let bytes = c.look_whole.new.into in
    looked_more a c.in-Some.rest.now c.args.path.now c.look_nodes.new.nodes _ (state c.args.tx.now) (state c.look_whole.new.tx) (state c.look_nodes.new.tx) c.look_nodes.result c.look_nodes.ensures.run
    (λ read. λ f.
    rest_read a c.in-Some.block c.in-Some.count c.in-Some.rest.now c.args.path.now c.in-Some.ensures.some f bytes (state c.args.tx.now) (state c.look_whole.new.tx) c.in_default-look_whole.ensures.bytes
    (g.met.T.TxBlocks.limits c.look_whole.new.tx).count c.in_default-look_whole.ensures.read (state c.look_nodes.new.tx) c.look_nodes.new.nodes (c.look_whole.auto.into ∙ c.split_at_mut-node.ensures.front_len) (read (λ nodes. f ((c.in-Some.block, used_cells a.size bytes) ∷ nodes))))
    (λ e run. λ f.
    rest_refused a c.in-Some.block c.in-Some.count c.in-Some.rest.now c.args.path.now c.in-Some.ensures.some f c.look_whole.new.into (state c.args.tx.now) (state c.look_whole.new.tx) c.in_default-look_whole.ensures.bytes
    (g.met.T.TxBlocks.limits c.look_whole.new.tx).count c.in_default-look_whole.ensures.read (state c.look_nodes.new.tx) e (run (λ nodes. f ((c.in-Some.block, used_cells a.size c.look_whole.new.into) ∷ nodes))))

pub returns-clause-usable : goal.returns-clause-usable
returns-clause-usable g t c =
    map_ok c.look_nodes.result (λ others. usable_more c.args.area.size c.in-Some.block c.in-Some.count c.in-Some.rest.now c.args.path.now c.look_whole.new.into c.look_nodes.new.nodes c.in-Some.ensures.some
    (c.look_whole.auto.into ∙ c.split_at_mut-node.ensures.front_len) (c.is_usable.ensures.0 c.if-not-is_usable.false) others) c.look_nodes.ensures.usable

pub returns-clause-reads : goal.returns-clause-reads
returns-clause-reads g t c =
    let state = g.T.TxBlocks.state in
    reads_after (state c.args.tx.now) (state c.look_whole.new.tx) (state c.look_nodes.new.tx) (g.T.TxBlocks.device c.args.tx.now) (g.T.TxBlocks.device c.look_whole.new.tx) (g.T.TxBlocks.device c.look_nodes.new.tx) c.look_nodes.result
    (read_one (state c.args.tx.now) (state c.look_whole.new.tx) (look_access (c.args.area.start + c.in-Some.block) []) c.in_default-look_whole.ensures.read refl)
    c.in_default-look_whole.ensures.later c.in_default-look_whole.ensures.passed c.look_nodes.ensures.reads

pub returns-in_default-clause-run : goal.returns-in_default-clause-run
returns-in_default-clause-run g t c = λ f. none_again c.args.area c.args.path.now f c.args.nodes.now (g.T.TxBlocks.state c.args.tx.now) (search rules)
