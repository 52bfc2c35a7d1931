-- The members of a group before their end and after it.
use Rattle.iso_core.proofs.Words.{◌≡◌, ◌∙◌, sym, refl, ap, ℕ, suc, List, [], ◌∷◌, length, length-map, map, GroupReply, after_member, group, member_reply, with_first, end_step, World, Live, GroupEnd, AreEach, bare_end, unsettled, without_reply}

-- as many as there are transactions
pub each_one : (P : GroupEnd → Live → Type 0) (ms : List GroupEnd) (ts : List Live) → AreEach P ms ts → length ms ≡ length ts
each_one P [] [] each = refl
each_one P [] (t ∷ ts) each = absurd each
each_one P (m ∷ ms) [] each = absurd each
each_one P (m ∷ ms) (t ∷ ts) each = ap suc (each_one P ms ts each.2)

-- as many as before they were settled
pub as_many : (new old : List GroupEnd) → map unsettled new ≡ map unsettled old → length new ≡ length old
as_many new old same = sym (length-map new unsettled) ∙ ap length same ∙ length-map old unsettled

one_more : (first : GroupReply) (x : List GroupReply × World) (n : ℕ) → length x.0 ≡ n → length (with_first first x).0 ≡ suc n
one_more first (others, V) n is = ap suc is

-- and each has a reply
pub each_replied : (W : World) (members : List Live) → length (group W members).0 ≡ length members
each_replied W [] = refl
each_replied W (t ∷ members) =
    one_more (member_reply (end_step W t).0) (group (after_member t (end_step W t)) members) (length members) (each_replied (after_member t (end_step W t)) members)

bared_settled : (ms : List GroupEnd) → map bare_end ms ≡ map without_reply (map unsettled ms)
bared_settled [] = refl
bared_settled (m ∷ ms) = ap (λ (l : List GroupEnd). bare_end m ∷ l) (bared_settled ms)

bared_replied : (ms : List GroupEnd) → map bare_end ms ≡ map unsettled (map without_reply ms)
bared_replied [] = refl
bared_replied (m ∷ ms) = ap (λ (l : List GroupEnd). bare_end m ∷ l) (bared_replied ms)

-- settling changes how far the works are settled, and nothing else
pub bare_settled : (new old : List GroupEnd) → map unsettled new ≡ map unsettled old → map bare_end new ≡ map bare_end old
bare_settled new old same = bared_settled new ∙ ap (map without_reply) same ∙ sym (bared_settled old)

-- and the replies are put in beside it
pub bare_replied : (new old : List GroupEnd) → map without_reply new ≡ map without_reply old → map bare_end new ≡ map bare_end old
bare_replied new old same = bared_replied new ∙ ap (map unsettled) same ∙ sym (bared_replied old)
