use Rattle.iso_recover.proofs.{Words.{ℕ, refl, sym, ◌∙◌, subst, IsShaped, chosen_by, joined_unwritten}, Fronts.{err_weaker, front_here, ok_weaker, refused_here, stands_is}, Handed.{blames_test, fault_no_memory, halves_test, test_no_memory}, Shapes.halves_shaped, Steps.blames_call}
use Rattle.iso_recover.proofs.front.find_front.Goals as goal

pub returns-clause-told : goal.returns-clause-told
returns-clause-told g c =
    let geometry = c.in-Ok.geometry in
    ok_weaker c.current_front.result (λ f is image told.
    let later = c.read_geometry.ensures.unwritten.same_contents ∙ told in
    let said = c.in-Ok.ensures.told image told in
    front_here geometry c.read_bytes.new.into c.read_bytes-2.new.into image
    (stands_is (g.D.Disk.state c.args.disk.now) (g.met.D.Disk.lawful c.args.disk.now) geometry c.read_bytes.new.into c.read_bytes-2.new.into image c.half_size.result told c.in-Ok.ensures.size
    c.half_size.ensures.size said.0 said.1 (c.in_default.ensures.told image later) (c.in_default-read_bytes.ensures.told image (c.read_bytes.ensures.unwritten.same_contents ∙ later))) f is) c.current_front.ensures.front

pub returns-clause-refused : goal.returns-clause-refused
returns-clause-refused g c =
    let geometry = c.in-Ok.geometry in
    err_weaker c.current_front.result (λ e fails test image told.
    let later = c.read_geometry.ensures.unwritten.same_contents ∙ told in
    let said = c.in-Ok.ensures.told image told in
    refused_here geometry c.read_bytes.new.into c.read_bytes-2.new.into image
    (stands_is (g.D.Disk.state c.args.disk.now) (g.met.D.Disk.lawful c.args.disk.now) geometry c.read_bytes.new.into c.read_bytes-2.new.into image c.half_size.result told c.in-Ok.ensures.size
    c.half_size.ensures.size said.0 said.1 (c.in_default.ensures.told image later) (c.in_default-read_bytes.ensures.told image (c.read_bytes.ensures.unwritten.same_contents ∙ later))) e fails) c.current_front.ensures.refused

pub returns-in-Err-read_bytes-clause-shape : goal.returns-in-Err-read_bytes-clause-shape
returns-in-Err-read_bytes-clause-shape g c = subst (IsShaped (g.D.Disk.state c.args.disk.now).size) (sym c.in-Err-read_bytes.ensures.only) tt

pub returns-in-Err-read_bytes-2-clause-shape : goal.returns-in-Err-read_bytes-2-clause-shape
returns-in-Err-read_bytes-2-clause-shape g c = subst (IsShaped (g.D.Disk.state c.args.disk.now).size) (sym c.in-Err-read_bytes-2.ensures.only) tt

pub returns-clause-shape : goal.returns-clause-shape
returns-clause-shape g c =
    let geometry = c.in-Ok.geometry in
    err_weaker c.current_front.result
    (λ e fails. subst (λ (n : ℕ). IsShaped n e) (sym c.in-Ok.ensures.size) (halves_shaped geometry c.read_bytes.new.into c.read_bytes-2.new.into e fails)) c.current_front.ensures.refused

pub returns-in-Err-clause-cause : goal.returns-in-Err-clause-cause
returns-in-Err-clause-cause g c = blames_call _ _ _ c.in-Err.error refl c.in-Err.ensures.cause

pub returns-in-Err-read_bytes-clause-cause : goal.returns-in-Err-read_bytes-clause-cause
returns-in-Err-read_bytes-clause-cause g c = blames_call _ _ _ c.in-Err-read_bytes.error c.in-Ok.ensures.cause.passed c.in-Err-read_bytes.ensures.cause

pub returns-in-Err-read_bytes-2-clause-cause : goal.returns-in-Err-read_bytes-2-clause-cause
returns-in-Err-read_bytes-2-clause-cause g c = blames_call _ _ _ c.in-Err-read_bytes-2.error (c.in_default.ensures.cause.passed ∙ c.in-Ok.ensures.cause.passed) c.in-Err-read_bytes-2.ensures.cause

pub returns-in-Err-clause-no_memory : goal.returns-in-Err-clause-no_memory
returns-in-Err-clause-no_memory g c = c.in-Err.ensures.no_memory

pub returns-in-Err-read_bytes-clause-no_memory : goal.returns-in-Err-read_bytes-clause-no_memory
returns-in-Err-read_bytes-clause-no_memory g c = fault_no_memory _ c.in-Err-read_bytes.ensures.only

pub returns-in-Err-read_bytes-2-clause-no_memory : goal.returns-in-Err-read_bytes-2-clause-no_memory
returns-in-Err-read_bytes-2-clause-no_memory g c = fault_no_memory _ c.in-Err-read_bytes-2.ensures.only

pub returns-in-Err-clause-unwritten : goal.returns-in-Err-clause-unwritten
returns-in-Err-clause-unwritten g c = c.read_geometry.ensures.unwritten

pub returns-in-Err-read_bytes-clause-unwritten : goal.returns-in-Err-read_bytes-clause-unwritten
returns-in-Err-read_bytes-clause-unwritten g c = joined_unwritten (g.met.D.Disk.lawful c.read_geometry.new.disk) c.read_geometry.ensures.unwritten c.read_bytes.ensures.unwritten

pub returns-in-Err-read_bytes-2-clause-unwritten : goal.returns-in-Err-read_bytes-2-clause-unwritten
returns-in-Err-read_bytes-2-clause-unwritten g c =
    joined_unwritten (g.met.D.Disk.lawful c.read_bytes.new.disk) (joined_unwritten (g.met.D.Disk.lawful c.read_geometry.new.disk) c.read_geometry.ensures.unwritten c.read_bytes.ensures.unwritten) c.read_bytes-2.ensures.unwritten

pub returns-clause-unwritten : goal.returns-clause-unwritten
returns-clause-unwritten g c =
    joined_unwritten (g.met.D.Disk.lawful c.read_bytes.new.disk) (joined_unwritten (g.met.D.Disk.lawful c.read_geometry.new.disk) c.read_geometry.ensures.unwritten c.read_bytes.ensures.unwritten) c.read_bytes-2.ensures.unwritten

pub returns-clause-cause : goal.returns-clause-cause
returns-clause-cause g c =
    blames_test c.current_front.result (c.in_default-read_bytes.ensures.cause.passed ∙ c.in_default.ensures.cause.passed ∙ c.in-Ok.ensures.cause.passed)
    (err_weaker c.current_front.result (halves_test c.in-Ok.geometry c.read_bytes.new.into c.read_bytes-2.new.into (chosen_by c.read_bytes.new.into c.read_bytes-2.new.into)) c.current_front.ensures.refused)

pub returns-clause-no_memory : goal.returns-clause-no_memory
returns-clause-no_memory g c =
    err_weaker c.current_front.result (λ e fails. test_no_memory e (halves_test c.in-Ok.geometry c.read_bytes.new.into c.read_bytes-2.new.into (chosen_by c.read_bytes.new.into c.read_bytes-2.new.into) e fails)) c.current_front.ensures.refused
