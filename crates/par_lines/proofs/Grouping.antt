-- What a group line makes: its looks, and the end of the group.
use Rattle.par_lines.proofs.{Words.{◌≡◌, ◌⊎◌, ℕ, ◌+◌, ◌<◌, ◌≤◌, List, [], ◌∷◌, ◌++◌, Option, Some, None, ap, inl, inr, get_or, length, map, refl, sym, subst, take, take_all, take_more, length-take-le, ◌∙◌, arith, append_assoc, append-nil, length-append, length-map, map-append, Result, Ok, Err, Joined, MovesThrough, Split, own_in, own_of, moves_joined, moves_none, through_made, through_none, through_on, GroupReply, CoreError, Reply, Shared, Port, Entry, Member, Start, View, IsPort, IsTx, doing_of, number_of, port_view, posting_of_tx, tx_view, cause_of, members_of, replies_of, Stop, Own, Does, GroupEnds, GroupWants, Groups, found_ones, members_for, replies_to, AreMembers, HasGrouped, answered, found_in, group_of, marks_of, members_in, refused_by, spread, through_group, units_all, units_of, Answered, AreNew, HaveLooked, looks_for, told_of, IfNone, IfSome, MatchOption, PassMade, SessionState}, Answering.refused_is}
use Rattle.iso_shared.specs.declared.tx.Tx.{Tx}
use Rattle.iso_model.specs.declared.core_error.CoreError.TheVariants as error
use Rattle.script_model.specs.declared.script.Op.TheVariants as op
use Rattle.script_model.specs.declared.script.Reply.TheVariants as reply
use Rattle.script_model.specs.declared.stop.Stop.TheVariants as stop
use Rattle.iso_shared.specs.declared.entry.Call.TheVariants as call
use Rattle.iso_shared.specs.declared.entry.Entry.TheVariants as entry
use Rattle.group_commit.specs.Groups as commit
use Rattle.par_script.specs.Lines as lines
use Rattle.par_lines.specs.Replies as say

-- ---- the looks

-- one look more
looks_snoc : (labels : List (List ℕ)) (found : List (Option Own)) (label : List ℕ) (one : Option Own) → length found ≡ length labels
    → looks_for (labels ++ label ∷ []) (found ++ one ∷ []) ≡ looks_for labels found ++ entry.Look label one ∷ []
looks_snoc [] [] label one same = refl
looks_snoc [] (f ∷ found) label one same = absurd (omega (arith, same))
looks_snoc (l ∷ labels) [] label one same = absurd (omega (arith, same))
looks_snoc (l ∷ labels) (f ∷ found) label one same = ap (λ es. entry.Look l f ∷ es) (looks_snoc labels found label one (omega (arith, same)))

-- a look for each label, and then what a group may make after them
groups_behind : (labels : List (List ℕ)) (before found : List (Option Own)) (es : List Entry) (r : Result Reply Stop) → length found ≡ length labels
    → GroupEnds (before ++ found) es r ⊎ GroupWants (before ++ found) es r → Groups labels before (looks_for labels found ++ es) r
groups_behind [] before [] es r same ends = subst (λ all. GroupEnds all es r ⊎ GroupWants all es r) (append-nil before) ends
groups_behind [] before (f ∷ found) es r same ends = absurd (omega (arith, same))
groups_behind (l ∷ labels) before [] es r same ends = absurd (omega (arith, same))
groups_behind (l ∷ labels) before (f ∷ found) es r same ends =
    (refl, groups_behind labels (before ++ f ∷ []) found es r (omega (arith, same)) (subst (λ all. GroupEnds all es r ⊎ GroupWants all es r) (sym (append_assoc before (f ∷ []) found)) ends))

module _ {D O : Type 0} where
  found_snoc_none : (found : List (Option (Tx D O))) → found_in (found ++ None ∷ []) ≡ found_in found
  found_snoc_none [] = refl
  found_snoc_none (None ∷ found) = found_snoc_none found
  found_snoc_none (Some t ∷ found) = ap (λ l. t ∷ l) (found_snoc_none found)

  found_snoc_some : (found : List (Option (Tx D O))) (t : Tx D O) → found_in (found ++ Some t ∷ []) ≡ found_in found ++ t ∷ []
  found_snoc_some [] t = refl
  found_snoc_some (None ∷ found) t = found_snoc_some found t
  found_snoc_some (Some u ∷ found) t = ap (λ l. u ∷ l) (found_snoc_some found t)

  units_snoc : (txs : List (Tx D O)) (t : Tx D O) → units_of (txs ++ t ∷ []) ≡ units_of txs + (tx_view t).units
  units_snoc [] t = omega arith
  units_snoc (u ∷ txs) t = let rest = units_snoc txs t in omega (arith, rest)

  new_snoc : (txs : List (Tx D O)) (t : Tx D O) → AreNew txs → (tx_view t).mine ≡ [] → AreNew (txs ++ t ∷ [])
  new_snoc [] t all new = (new, tt)
  new_snoc (u ∷ txs) t all new = (all.0, new_snoc txs t all.1 new)

  members_snoc : (shared : Shared D O) (A : Start) (found : List (Option (Tx D O))) (one : Option (Tx D O)) → AreMembers shared A found → IfSome one (IsTx shared A) → AreMembers shared A (found ++ one ∷ [])
  members_snoc shared A [] one all here = (here, tt)
  members_snoc shared A (f ∷ found) one all here = (all.0, members_snoc shared A found one all.1 here)

  -- up to a label the port has looked for each, and found these; each has one of its units
  pub record Looking (shared : Shared D O) (A : Start) (first : View Entry) (labels : List (List ℕ)) (i : ℕ) (port : Port D O) (found : List (Option (Tx D O))) : Type 0 where
    pub port_is : IsPort shared port
    pub units : units_all (port_view port) (found_in found) ≡ first.units
    pub few : units_of (found_in found) ≤ i
    pub members : AreMembers shared A found
    pub new : AreNew (found_in found)
    pub looked : HaveLooked first (take i labels) found (port_view port)

  pub not_yet : (shared : Shared D O) (A : Start) (labels : List (List ℕ)) (port : Port D O) (found : List (Option (Tx D O))) → found ≡ [] → IsPort shared port → Looking shared A (port_view port) labels 0 port found
  not_yet shared A labels port found empty is =
      subst (λ f. Looking shared A (port_view port) labels 0 port f) (sym empty)
      (record { port_is = is; units = omega arith; few = omega arith; members = tt; new = tt; looked = record { count = refl; made = λ s. through_none s (port_view port) } })

  -- what a look answered
  pub record HasFound (shared : Shared D O) (A : Start) (v : View Entry) (label : List ℕ) (one : Option (Tx D O)) (w : View Entry) : Type 0 where
    pub tx : IfSome one (λ t. IsTx shared A t × ((tx_view t).seen ≡ w.seen) × ((tx_view t).mine ≡ []) × ((tx_view t).units ≡ 1))
    pub found : IfSome one (λ t. PassMade A v v (entry.Look label (Some (posting_of_tx (number_of t) (doing_of t)))) w)
    pub none : IfNone one (PassMade A v v (entry.Look label None) w)
    pub units : MatchOption one (w.units ≡ v.units) (λ t. w.units + 1 ≡ v.units)

  one_made : (shared : Shared D O) (A : Start) (v : View Entry) (label : List ℕ) (one : Option (Tx D O)) (w : View Entry) → HasFound shared A v label one w → PassMade A v v (entry.Look label (own_of one)) w
  one_made shared A v label None w h = h.none
  one_made shared A v label (Some t) w h = h.found

  one_member : (shared : Shared D O) (A : Start) (v : View Entry) (label : List ℕ) (one : Option (Tx D O)) (w : View Entry) → HasFound shared A v label one w → IfSome one (IsTx shared A)
  one_member shared A v label None w h = tt
  one_member shared A v label (Some t) w h = h.tx.0

  one_unit : (shared : Shared D O) (A : Start) (v : View Entry) (label : List ℕ) (one : Option (Tx D O)) (w : View Entry) (found : List (Option (Tx D O))) (i : ℕ) → HasFound shared A v label one w → AreNew (found_in found) → units_of (found_in found) ≤ i
      → (units_all w (found_in (found ++ one ∷ [])) ≡ units_all v (found_in found)) × (units_of (found_in (found ++ one ∷ [])) ≤ i + 1) × AreNew (found_in (found ++ one ∷ []))
  one_unit shared A v label None w found i h new few =
      let same : w.units ≡ v.units = h.units in
      subst (λ l. (units_all w l ≡ units_all v (found_in found)) × (units_of l ≤ i + 1) × AreNew l) (sym (found_snoc_none found)) (omega (arith, same), omega (arith, few), new)
  one_unit shared A v label (Some t) w found i h new few =
      let less : w.units + 1 ≡ v.units = h.units in
      let one : (tx_view t).units ≡ 1 = h.tx.3 in
      let more = units_snoc (found_in found) t in
      subst (λ l. (units_all w l ≡ units_all v (found_in found)) × (units_of l ≤ i + 1) × AreNew l) (sym (found_snoc_some found t))
      (omega (arith, less, one, more), omega (arith, few, one, more), new_snoc (found_in found) t new h.tx.2)

  pub looks_on : (shared : Shared D O) (A : Start) (first : View Entry) (labels : List (List ℕ)) (i : ℕ) (port port' : Port D O) (found : List (Option (Tx D O))) (label : List ℕ) (one : Option (Tx D O)) → i < length labels → label ≡ get_or labels i label
      → IsPort shared port' → HasFound shared A (port_view port) label one (port_view port') → Looking shared A first labels i port found → Looking shared A first labels (i + 1) port' (found ++ one ∷ [])
  looks_on shared A first labels i port port' found label one within is port_is h l =
      let unit = one_unit shared A (port_view port) label one (port_view port') found i h l.new l.few in
      let taken : take (i + 1) labels ≡ take i labels ++ label ∷ [] = take_more labels i label within ∙ ap (λ v. take i labels ++ v ∷ []) (sym is) in
      let size : length (take (i + 1) labels) ≡ length (take i labels) + 1 = ap length taken ∙ length-append (take i labels) (label ∷ []) in
      let entries : looks_for (take i labels) (told_of found) ++ entry.Look label (own_of one) ∷ [] ≡ looks_for (take (i + 1) labels) (told_of (found ++ one ∷ []))
      = sym (looks_snoc (take i labels) (told_of found) label (own_of one) (length-map found own_of ∙ l.looked.count))
      ∙ (λ j. looks_for (sym taken j) (sym (map-append own_of found (one ∷ [])) j)) in
      record {
        port_is = port_is;
        units = unit.0 ∙ l.units;
        few = unit.1;
        members = members_snoc shared A found one l.members (one_member shared A (port_view port) label one (port_view port') h);
        new = unit.2;
        looked = record {
          count = length-append found (one ∷ []) ∙ (ap (λ (n : ℕ). n + 1) l.looked.count ∙ sym size);
          made = λ s.
              subst (λ es. MovesThrough s first (port_view port') es) entries
              (through_on s first (port_view port) (port_view port') (looks_for (take i labels) (told_of found)) (entry.Look label (own_of one) ∷ []) (l.looked.made s)
              (through_made A s (port_view port) (port_view port') (entry.Look label (own_of one)) (one_made shared A (port_view port) label one (port_view port') h)));
        };
      }

  pub found_size : (shared : Shared D O) (A : Start) (first : View Entry) (labels : List (List ℕ)) (i : ℕ) (port : Port D O) (found : List (Option (Tx D O))) → i ≤ length labels → Looking shared A first labels i port found → length found ≡ i
  found_size shared A first labels i port found few l = l.looked.count ∙ length-take-le i labels few

  pub looked_all : (shared : Shared D O) (A : Start) (first : View Entry) (labels : List (List ℕ)) (i : ℕ) (port : Port D O) (found : List (Option (Tx D O))) → length labels ≤ i → Looking shared A first labels i port found → HaveLooked first labels found (port_view port)
  looked_all shared A first labels i port found all l = subst (λ ls. HaveLooked first ls found (port_view port)) (take_all i labels all) l.looked

-- ---- the end of the group

module _ {D O : Type 0} where
  members_are : (txs : List (Tx D O)) → members_in txs ≡ members_for (map own_in txs)
  members_are [] = refl
  members_are (t ∷ txs) = λ j. record { number = number_of t; accesses = (doing_of t).accesses } ∷ members_are txs j

  ones_are : (members : List (Option (Tx D O))) → found_ones (told_of members) ≡ map own_in (found_in members)
  ones_are [] = refl
  ones_are (None ∷ members) = ones_are members
  ones_are (Some t ∷ members) = ap (λ l. own_in t ∷ l) (ones_are members)

  aborts_are : (txs : List (Tx D O)) → commit.aborts_of txs ≡ lines.aborts_of (map own_in txs)
  aborts_are [] = refl
  aborts_are (t ∷ txs) = ap (λ l. entry.Abort (number_of t) ∷ l) (aborts_are txs)

  after_are : (before now : ℕ) (e : CoreError) (txs : List (Tx D O)) → commit.aborts_after e txs ≡ lines.aborts_after (cause_of before now e) (map own_in txs)
  after_are before now error.Disk txs = refl
  after_are before now e txs = aborts_are txs

  spread_is : (members : List (Option (Tx D O))) (replies : List GroupReply) → spread (marks_of members) replies ≡ replies_to (told_of members) replies
  spread_is [] replies = refl
  spread_is (None ∷ members) replies = ap (λ l. None ∷ l) (spread_is members replies)
  spread_is (Some t ∷ members) [] = ap (λ l. None ∷ l) (spread_is members [])
  spread_is (Some t ∷ members) (first ∷ replies) = ap (λ l. Some first ∷ l) (spread_is members replies)

answered_members : (members : List Member) (replies : List GroupReply) → length replies ≡ length members → members_of (answered members replies) ≡ members
answered_members [] replies same = refl
answered_members (m ∷ members) [] same = absurd (omega (arith, same))
answered_members (m ∷ members) (reply ∷ replies) same = ap (λ l. m ∷ l) (answered_members members replies (omega (arith, same)))

answered_replies : (members : List Member) (replies : List GroupReply) → length replies ≡ length members → replies_of (answered members replies) ≡ replies
answered_replies [] [] same = refl
answered_replies [] (reply ∷ replies) same = absurd (omega (arith, same))
answered_replies (m ∷ members) [] same = absurd (omega (arith, same))
answered_replies (m ∷ members) (reply ∷ replies) same = ap (λ l. reply ∷ l) (answered_replies members replies (omega (arith, same)))

does_group : (A : Start) (was own' : Option Own) (labels : List (List ℕ)) (es : List Entry) (r : Result Reply Stop) → own' ≡ was → Groups labels [] es r → Does A.world.geometry A.tells was (op.Group labels) es r own'
does_group A None own' labels es r is does = (does, is)
does_group A (Some o) own' labels es r is does = (does, is)

module _ {D O : Type 0} where
  -- a group that was answered
  ends_ok : (found : List (Option Own)) (txs : List (Tx D O)) (replies : List GroupReply) (told : List (Option GroupReply)) → found_ones found ≡ map own_in txs → length replies ≡ length txs → told ≡ replies_to found replies
      → GroupEnds found (group_of txs replies) (Ok (reply.Grouped told))
  ends_ok found [] [] told are same is = (are, ap (λ l. Ok (reply.Grouped l)) is)
  ends_ok found [] (r ∷ replies) told are same is = absurd (omega (arith, same))
  ends_ok found (t ∷ txs) replies told are same is =
      let all : List (Tx D O) = t ∷ txs in
      let sizes : length replies ≡ length (members_in all) = same ∙ sym (length-map all _) in (
        let some : length (found_ones found) ≡ length all = ap length are ∙ length-map all own_in in omega (arith, some),
        answered_members (members_in all) replies sizes ∙ (members_are all ∙ ap members_for (sym are)),
        ap (λ l. Ok (reply.Grouped l)) (is ∙ ap (replies_to found) (sym (answered_replies (members_in all) replies sizes))),
      )

  -- one that was refused
  ends_err : (found : List (Option Own)) (txs : List (Tx D O)) (before now : ℕ) (e : CoreError) → found_ones found ≡ map own_in txs → 0 < length txs → GroupEnds found (refused_by txs before now e) (say.refused e)
  ends_err found txs before now e are some = (
    let same : length (found_ones found) ≡ length txs = ap length are ∙ length-map txs own_in in omega (arith, same, some),
    ap (λ ms. call.EndGroup ms) (members_are txs ∙ ap members_for (sym are)),
    after_are before now e txs ∙ ap (lines.aborts_after (cause_of before now e)) (sym are),
    refused_is before now e,
  )

  wants_now : (found : List (Option Own)) (txs : List (Tx D O)) (e : CoreError) → found_ones found ≡ map own_in txs → e ≡ error.Memory → GroupWants found (commit.aborts_of txs) (say.refused e)
  wants_now found txs e are is = (aborts_are txs ∙ ap lines.aborts_of (sym are), ap say.refused is)

module _ {D O : Type 0} (A : Start) (s t u : SessionState) (q seen r : Port D O) (labels : List (List ℕ)) (members : List (Option (Tx D O))) (cut : Split s q t) (looked : HaveLooked (port_view q) labels members (port_view seen)) (new : AreNew (found_in members))
    (given : units_all (port_view seen) (found_in members) ≡ (port_view q).units) (back : (port_view r).units ≡ units_all (port_view seen) (found_in members)) (joined : Joined t r u) where
  by_entries : (es : List Entry) (said : Result Reply Stop) → commit.HasMade A (port_view seen) (found_in members) es (port_view r) → GroupEnds (told_of members) es said ⊎ GroupWants (told_of members) es said → Answered A s (op.Group labels) said u
  by_entries es said made ends =
      let looks : List Entry = looks_for labels (told_of members) in
      record {
        entries = looks ++ es;
        moves = moves_joined s t u q r (looks ++ es) cut
            (through_on t (port_view q) (port_view seen) (port_view r) looks es (looked.made t) (through_group A t (port_view seen) (port_view r) (found_in members) es new made)) joined (back ∙ (given ∙ cut.given));
        did = inl (does_group A s.own u.own labels (looks ++ es) said (joined.tx.is ∙ cut.tx.is) (groups_behind labels [] (told_of members) es said (length-map members own_of ∙ looked.count) ends));
        of = joined.of ∙ cut.of;
      }

  pub answers : (result : Result (List (Option GroupReply)) CoreError) → HasGrouped A (port_view seen) members result (port_view r) → Answered A s (op.Group labels) (say.grouped result) u
  answers (Ok told) h =
      by_entries (group_of (found_in members) h.0) (Ok (reply.Grouped told)) h.2.1 (inl (ends_ok (told_of members) (found_in members) h.0 told (ones_are members) h.2.0 (h.1 ∙ spread_is members h.0)))
  answers (Err e) (inl h) =
      by_entries (refused_by (found_in members) h.1.0 h.1.1 e) (say.refused e) h.1.2 (inl (ends_err (told_of members) (found_in members) h.1.0 h.1.1 e (ones_are members) h.0))
  answers (Err e) (inr h) = by_entries (commit.aborts_of (found_in members)) (say.refused e) h.1 (inr (wants_now (told_of members) (found_in members) e (ones_are members) h.0))

-- want of memory before the first look
pub wants_memory : (A : Start) (s : SessionState) (labels : List (List ℕ)) → Answered A s (op.Group labels) (Err stop.Memory) s
wants_memory A s labels = record { entries = []; moves = moves_none s; did = inr (refl, refl, refl); of = refl }
