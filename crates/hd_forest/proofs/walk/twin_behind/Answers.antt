use Rattle.std.proofs.Common.{◌≢◌, ℕ, ◌<◌, sym, subst, ◌∙◌, arith}
use Rattle.hd_volume.proofs.PutLemmas.{if-some-map}
use Rattle.hd_links.specs.Links.{Links, IsSegment}
use Rattle.hd_image.specs.Records.{links_of}
use Rattle.hd_forest.specs.Walks.{IsAhead, tip}
use Rattle.hd_forest.proofs.Climbs.{a-path}
use Rattle.hd_forest.proofs.walk.twin_behind.Goals as goal

pub look_ahead-requires-clause-there : goal.look_ahead-requires-clause-there
look_ahead-requires-clause-there g c sound =
    let m : Links = links_of c.args.dbd.now.types c.args.volume.now in
    let ne : c.tip_of-last.result ≢ 0 = λ z. (let f = c.if-last-eq0.false in f z) in
    subst (IsSegment m) (sym c.tip_of-last.ensures) (a-path m c.args.path.now (c.requires.there sound) (λ e. ne (c.tip_of-last.ensures ∙ e))).1

pub returns-clause-next : goal.returns-clause-next
returns-clause-next g c = if-some-map c.twin_ahead.result (λ r is sound.
    let d = c.args.dbd.now in
    let u = c.args.volume.now in
    let m : Links = links_of d.types u in
    let ne : c.tip_of-last.result ≢ 0 = λ z. (let f = c.if-last-eq0.false in f z) in
    let one : 0 < tip c.args.path.now = subst (λ (x : ℕ). 0 < x) c.tip_of-last.ensures (omega (arith, ne)) in
    let ahead = subst (λ (a : ℕ). IsAhead d.types m a c.in_ok-ahead.ahead) c.tip_of-last.ensures (c.in_ok-ahead.ensures.ahead sound) in
    (is d u c.args.path.now (c.requires.of sound) (c.requires.holds sound) (c.requires.there sound) one ahead).0) c.twin_ahead.ensures

pub returns-clause-code : goal.returns-clause-code
returns-clause-code g c = if-some-map c.twin_ahead.result (λ r is sound.
    let d = c.args.dbd.now in
    let u = c.args.volume.now in
    let m : Links = links_of d.types u in
    let ne : c.tip_of-last.result ≢ 0 = λ z. (let f = c.if-last-eq0.false in f z) in
    let one : 0 < tip c.args.path.now = subst (λ (x : ℕ). 0 < x) c.tip_of-last.ensures (omega (arith, ne)) in
    let ahead = subst (λ (a : ℕ). IsAhead d.types m a c.in_ok-ahead.ahead) c.tip_of-last.ensures (c.in_ok-ahead.ensures.ahead sound) in
    (is d u c.args.path.now (c.requires.of sound) (c.requires.holds sound) (c.requires.there sound) one ahead).1) c.twin_ahead.ensures
