use Rattle.iso_top.proofs.{DigestWords.{◌≡◌, ◌∙◌, ap, subst, IfOk, ForSome, up, Geometry, array_bytes, array_at, last, after_begin, unattached, sha256}, Begun.{begun, is_begun, left_again, on_ok, only_memory}, digest.digest_of.Goals.{in-Memory, in_default-matches}}
use Rattle.iso_top.proofs.digest.digest_of.Goals as goal

pub digest_in-digest-requires : goal.digest_in-digest-requires
digest_in-digest-requires g c =
    let W = c.requires.0 in
    let of = c.requires.1 in
    let began = c.in-Ok-begin.ensures.begun W of in
    let mode = W.geometry.mode in
    let same = c.geometry-geometry.ensures W up of in (
      after_begin W unattached mode,
      begun W mode,
      began.3,
      is_begun W mode c.in-Ok-begin.begun.tx began.0,
      ap (λ (g : Geometry). g.blocks) same,
      c.deref_mut.ensures.len ∙ c.in-Ok.ensures ∙ ap (λ (g : Geometry). g.block) same,
    )

pub abort-requires : goal.abort-requires
abort-requires g c =
    let W = c.requires.0 in
    let began = c.in-Ok-begin.ensures.begun W c.requires.1 in
    let mode = W.geometry.mode in (
      after_begin W unattached mode,
      up,
      begun W mode,
      c.digest_in-digest.ensures.same (after_begin W unattached mode) began.3,
      is_begun W mode c.in-Ok-begin.begun.tx began.0,
    )

pub returns-clause-digest : goal.returns-clause-digest
returns-clause-digest g c W of =
    let began = c.in-Ok-begin.ensures.begun W of in
    let mode = W.geometry.mode in
    let same = c.geometry-geometry.ensures W up of in
    subst (λ (disk : _). IfOk c.digest_in-digest.result (λ digest. ForSome (g.D.Disk.state disk).contents (λ _. digest ≡ sha256 (array_bytes (array_at W.history (last W.history))))))
    c.in-Ok-begin.ensures.disk
    (c.digest_in-digest.ensures.digest (after_begin W unattached mode) (begun W mode) began.3 (is_begun W mode c.in-Ok-begin.begun.tx began.0) (ap (λ (g : Geometry). g.blocks) same))

pub returns-clause-world : goal.returns-clause-world
returns-clause-world g c W of none =
    let began = c.in-Ok-begin.ensures.begun W of in
    let mode = W.geometry.mode in
    let here = is_begun W mode c.in-Ok-begin.begun.tx began.0 in
    on_ok c.digest_in-digest.result (left_again g.D.Disk.state c.abort.new.self W mode none
    (c.abort.ensures.left (after_begin W unattached mode) up (begun W mode) (c.digest_in-digest.ensures.same (after_begin W unattached mode) began.3) here))

pub returns-clause-failed : goal.returns-clause-failed
returns-clause-failed g c W of none error =
    let began = c.in-Ok-begin.ensures.begun W of in
    let mode = W.geometry.mode in
    let here = is_begun W mode c.in-Ok-begin.begun.tx began.0 in
    left_again g.D.Disk.state c.abort.new.self W mode none
    (c.abort.ensures.left (after_begin W unattached mode) up (begun W mode) (c.digest_in-digest.ensures.same (after_begin W unattached mode) began.3) here)

pub prove-unreachable-requires : goal.prove-unreachable-requires
prove-unreachable-requires g c =
    let W = c.requires.0 in
    let memory = only_memory W c.in-Err.error c.requires.2 c.requires.3 (c.in-Err.ensures.refused W c.requires.1) in
    elim c.match-matches.branch [
      | in-Memory w ↦ absurd (cc (w.matches-is, c.if-prove.true))
      | in_default-matches w ↦ absurd (w.in_default-matches.not-Memory memory)
    ]
