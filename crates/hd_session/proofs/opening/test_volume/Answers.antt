use Rattle.std.proofs.Common.{◌≡◌, IsTrue, refl, sym, ◌∙◌, arith}
use Rattle.std.proofs.lemmas.Bool.{false≢true}
use Rattle.hd_volume.specs.Headers.{header_of}
use Rattle.hd_links.specs.Steps.{rows_of}
use Rattle.hd_session.proofs.Ready.{passed_ready, read_version}
use Rattle.hd_session.proofs.opening.test_volume.Goals.{else-passed-gt0-via-then-passed-gt0+else-has_loader, else-passed-gt0-via-else-passed-gt0}
use Rattle.hd_session.proofs.opening.test_volume.Goals as goal

-- the forest that the check found, in a volume of another version
pub returns-then-version-ne-NEWEST_VERSION-clause-fault : goal.returns-then-version-ne-NEWEST_VERSION-clause-fault
returns-then-version-ne-NEWEST_VERSION-clause-fault g c = λ sound.
    let d = c.args.dbd.now in
    let v = c.args.volume.now in
    let w = c.check.new.volume in
    let p = c.in-Ok.ensures.passed sound in
    let now : IsTrue w.is_sound = rw c.in-Ok.ensures.read.call.sound sound in
    let own : c.version-version.result ≡ (header_of v.image).version = read_version d v w p.placed p.holds (c.in-Ok.ensures.read.image now) c.in-Ok.ensures.read.call.size c.version-version.result (c.version-version.ensures now) in
    (own, c.if-version-ne-NEWEST_VERSION.true, rows_of p.placed, (p.placed, refl, p.holds))

-- or that has a row
pub returns-then-has_loader-clause-fault : goal.returns-then-has_loader-clause-fault
returns-then-has_loader-clause-fault g c = λ sound.
    let d = c.args.dbd.now in
    let v = c.args.volume.now in
    let w = c.check.new.volume in
    let p = c.in-Ok.ensures.passed sound in
    let now : IsTrue w.is_sound = rw c.in-Ok.ensures.read.call.sound sound in
    let own : c.version-version.result ≡ (header_of v.image).version = read_version d v w p.placed p.holds (c.in-Ok.ensures.read.image now) c.in-Ok.ensures.read.call.size c.version-version.result (c.version-version.ensures now) in
    (sym own ∙ c.if-version-ne-NEWEST_VERSION.false, sym c.has_loader.ensures ∙ c.if-has_loader.true, rows_of p.placed, (p.placed, refl, p.holds), omega (arith, p.segments, c.if-passed-gt0.true))

-- no PCB loads, or there is no segment
pub returns-else-passed-gt0-clause-ready : goal.returns-else-passed-gt0-clause-ready
returns-else-passed-gt0-clause-ready g c = λ sound.
    let d = c.args.dbd.now in
    let v = c.args.volume.now in
    let w = c.check.new.volume in
    let p = c.in-Ok.ensures.passed sound in
    let now : IsTrue w.is_sound = rw c.in-Ok.ensures.read.call.sound sound in
    let own : c.version-version.result ≡ (header_of v.image).version = read_version d v w p.placed p.holds (c.in-Ok.ensures.read.image now) c.in-Ok.ensures.read.call.size c.version-version.result (c.version-version.ensures now) in
    passed_ready d c.args.pcbs.now v c.in-Ok.passed p (sym own ∙ c.if-version-ne-NEWEST_VERSION.false)
    (λ loader. elim c.else-passed-gt0.branch [
      | else-passed-gt0-via-then-passed-gt0+else-has_loader w ↦ absurd (false≢true (sym w.if-has_loader.false ∙ w.has_loader.ensures ∙ loader))
      | else-passed-gt0-via-else-passed-gt0 w ↦ omega (arith, w.if-passed-gt0.false)
    ])
