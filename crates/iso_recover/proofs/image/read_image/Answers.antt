use Rattle.iso_recover.proofs.{Words.{ℕ, inr, refl, sym, ◌∙◌, subst, joined_unwritten, stays_settled, IsFront, IsShaped}, Handed.settled_err, Opens.{base_of, opens_to, settled_ok, told_history}, Steps.{blames_call, blames_memory, blames_none}}

pub returns-in-Ok-read_log-clause-opened : Rattle.iso_recover.proofs.image.read_image.Goals.returns-in-Ok-read_log-clause-opened
returns-in-Ok-read_log-clause-opened g c =
    let (told, read, logs) = c.in-Ok-read_log.ensures.read in
    let law = g.met.D.Disk.lawful in
    let f = c.in-Ok.front in
    let log = c.in-Ok-read_log.log in
    let index = c.in-Ok-read_log.index in
    let same = c.read_log.ensures.unwritten.same_contents in
    let all = same ∙ c.read_front.ensures.unwritten.same_contents in
    let size = c.read_log.ensures.unwritten.moments.same_size ∙ c.read_front.ensures.unwritten.moments.same_size in
    let settled = stays_settled (law c.read_log.new.disk) c.read_log.ensures.unwritten (settled_ok c.in-Ok.front c.in-Ok.ensures.settled) in (
      told_history f (base_of f (g.D.Disk.state c.read_log.new.disk).contents) told,
      opens_to f told log index (g.D.Disk.state c.read_log.new.disk) (record {
        laws = law c.read_log.new.disk;
        front = subst (λ (n : ℕ). IsFront c.in-Ok.front n) (sym size) c.in-Ok.ensures.front;
        read = read;
        told_front = λ image told_is. c.in-Ok.ensures.told image (sym all ∙ told_is);
        told_log = λ image told_is. logs image (sym same ∙ told_is);
        settled = settled;
      }) c.in-Ok-new.buffer,
    )

pub returns-in-Err-read_log-clause-shape : Rattle.iso_recover.proofs.image.read_image.Goals.returns-in-Err-read_log-clause-shape
returns-in-Err-read_log-clause-shape g c = subst (λ (n : ℕ). IsShaped n c.in-Err-read_log.error) c.read_front.ensures.unwritten.moments.same_size c.in-Err-read_log.ensures.shape

pub returns-in-Err-clause-cause : Rattle.iso_recover.proofs.image.read_image.Goals.returns-in-Err-clause-cause
returns-in-Err-clause-cause g c = blames_call _ _ _ c.in-Err.error refl c.in-Err.ensures.cause

pub returns-in-Err-clause-unwritten : Rattle.iso_recover.proofs.image.read_image.Goals.returns-in-Err-clause-unwritten
returns-in-Err-clause-unwritten g c = c.read_front.ensures.unwritten

pub returns-in-Err-clause-settled : Rattle.iso_recover.proofs.image.read_image.Goals.returns-in-Err-clause-settled
returns-in-Err-clause-settled g c = settled_err c.in-Err.error c.in-Err.ensures.settled

pub returns-in_default-clause-cause : Rattle.iso_recover.proofs.image.read_image.Goals.returns-in_default-clause-cause
returns-in_default-clause-cause g c = blames_memory _ _ c.in-Ok.ensures.cause.passed

pub returns-in_default-clause-unwritten : Rattle.iso_recover.proofs.image.read_image.Goals.returns-in_default-clause-unwritten
returns-in_default-clause-unwritten g c = c.read_front.ensures.unwritten

pub returns-in_default-clause-settled : Rattle.iso_recover.proofs.image.read_image.Goals.returns-in_default-clause-settled
returns-in_default-clause-settled g c = inr (settled_ok c.in-Ok.front c.in-Ok.ensures.settled)

pub returns-in-Ok-read_log-clause-cause : Rattle.iso_recover.proofs.image.read_image.Goals.returns-in-Ok-read_log-clause-cause
returns-in-Ok-read_log-clause-cause g c = blames_none _ _ _ _ _ c.in-Ok.ensures.cause.passed c.in-Ok-read_log.ensures.cause

pub returns-in-Ok-read_log-clause-unwritten : Rattle.iso_recover.proofs.image.read_image.Goals.returns-in-Ok-read_log-clause-unwritten
returns-in-Ok-read_log-clause-unwritten g c = joined_unwritten (g.met.D.Disk.lawful c.read_front.new.disk) c.read_front.ensures.unwritten c.read_log.ensures.unwritten

pub returns-in-Ok-read_log-clause-settled : Rattle.iso_recover.proofs.image.read_image.Goals.returns-in-Ok-read_log-clause-settled
returns-in-Ok-read_log-clause-settled g c = inr (stays_settled (g.met.D.Disk.lawful c.read_log.new.disk) c.read_log.ensures.unwritten (settled_ok c.in-Ok.front c.in-Ok.ensures.settled))

pub returns-in-Err-read_log-clause-unwritten : Rattle.iso_recover.proofs.image.read_image.Goals.returns-in-Err-read_log-clause-unwritten
returns-in-Err-read_log-clause-unwritten g c = joined_unwritten (g.met.D.Disk.lawful c.read_front.new.disk) c.read_front.ensures.unwritten c.read_log.ensures.unwritten

pub returns-in-Err-read_log-clause-settled : Rattle.iso_recover.proofs.image.read_image.Goals.returns-in-Err-read_log-clause-settled
returns-in-Err-read_log-clause-settled g c = inr (stays_settled (g.met.D.Disk.lawful c.read_log.new.disk) c.read_log.ensures.unwritten (settled_ok c.in-Ok.front c.in-Ok.ensures.settled))

pub returns-in-Err-read_log-clause-cause : Rattle.iso_recover.proofs.image.read_image.Goals.returns-in-Err-read_log-clause-cause
returns-in-Err-read_log-clause-cause g c = blames_call _ _ _ c.in-Err-read_log.error c.in-Ok.ensures.cause.passed c.in-Err-read_log.ensures.cause
