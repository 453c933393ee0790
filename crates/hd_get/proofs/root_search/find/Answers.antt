use Rattle.std.proofs.Common.{◌≡◌, ℕ, ◌+◌, ◌<◌, ◌≤◌, List, length, Bool, true, Ok, arith}
use Rattle.hd_dbd.specs.Types.{SegmentType}
use Rattle.hd_dbd.specs.Forest.{Forest}
use Rattle.hd_volume.proofs.CallSteps.{read-ok, read-none, reads-join}
use Rattle.hd_links.specs.Links.{Links}
use Rattle.hd_links.specs.Placed.{Placed, Holds}
use Rattle.hd_links.specs.Steps.{rows_of}
use Rattle.hd_image.specs.Records.{links_of}
use Rattle.hd_image.proofs.RowCounts.{few-rows}
use Rattle.hd_forest.specs.Rows.{IsOnSomeRow}
use Rattle.hd_forest.proofs.Reading.{links-kept, volume-kept}
use Rattle.hd_get.specs.Searches.{EndsAt, IsPathOf}
use Rattle.hd_get.proofs.Grounds.{told_before}
use Rattle.hd_get.proofs.Climbs.{empty_is, full_path}
use Rattle.hd_get.proofs.Turns.{HasSearched, ends_within, ends_later, search_begins, search_goes_on, search_finds, search_ends, search_out, search_in}
use Rattle.hd_get.proofs.root_search.find.Goals as goal

pub loop-count-init : goal.loop-count-init
loop-count-init g c = record {
  read = read-none c.args.volume.now 0;
  searched = λ f i end S. search_begins (g.J.Judge.test c.args.judge.now c.args.dbd.now.types (rows_of f)) (g.J.Judge.admits c.args.judge.now c.args.dbd.now.types (rows_of f))
      c.args.dbd.now.types f c.args.parent i end c.args.path.now S.leads.is S.above;
}

pub returns-then-is_empty-clause-found : goal.returns-then-is_empty-clause-found
returns-then-is_empty-clause-found g c f i end S =
    let test = g.J.Judge.test c.args.judge.now c.args.dbd.now.types (rows_of f) in
    let admits = g.J.Judge.admits c.args.judge.now c.args.dbd.now.types (rows_of f) in
    let types = c.args.dbd.now.types in
    let H = c.loop-count.invariant.searched f i end S in
    search_ends test admits types f c.args.parent i end c.loop-count.count c.loop-count.path H c.loop-count.path
    (search_out test admits types f c.args.parent i end c.loop-count.count c.loop-count.path H
    (empty_is c.loop-count.path c.addresses.result.now c.is_empty.result c.addresses.ensures.value c.is_empty.ensures c.if-is_empty.true))

pub judge-requires-clause-of : goal.judge-requires-clause-of
judge-requires-clause-of g c = volume-kept c.args.dbd.now c.args.volume.now c.loop-count.volume c.loop-count.invariant.read c.requires.of

-- a search whose path is not empty stands on a row
there : (types : List SegmentType) (m : Links) (f : Forest Placed) (test admits : ℕ → Bool) (parent i end turns : ℕ) (path : List ℕ) → Holds types m f → EndsAt types f parent i end
    → HasSearched test admits types f parent i end turns path → 0 < length path → IsOnSomeRow types m path
there types m f test admits parent i end turns path holds ends H some =
    let I = search_in test admits types f parent i end turns path H some in
    let w : H.number < end = I.0 in
    let e : end ≤ length (rows_of f) = ends_within types f parent i end ends in
    (f, H.number, record { holds = holds; within = omega arith; is = I.1 })

pub judge-requires-clause-there : goal.judge-requires-clause-there
judge-requires-clause-there g c =
    links-kept c.args.dbd.now (λ m. IsOnSomeRow c.args.dbd.now.types m c.loop-count.path) c.args.volume.now c.loop-count.volume c.loop-count.invariant.read
    (λ sound.
    let types = c.args.dbd.now.types in
    let T = c.requires.there sound in
    there types (links_of types c.args.volume.now) T.0 (g.J.Judge.test c.args.judge.now types (rows_of T.0)) (g.J.Judge.admits c.args.judge.now types (rows_of T.0)) c.args.parent T.1 T.2
    c.loop-count.count c.loop-count.path T.3.leads.holds T.3.leads.ends (c.loop-count.invariant.searched T.0 T.1 T.2 T.3)
    (full_path c.loop-count.path c.addresses.result.now c.is_empty.result c.addresses.ensures.value c.is_empty.ensures c.if-is_empty.false))

pub follow-requires-clause-of : goal.follow-requires-clause-of
follow-requires-clause-of g c = volume-kept c.args.dbd.now c.loop-count.volume c.judge.new.volume c.in_ok-verdict.ensures.read (volume-kept c.args.dbd.now c.args.volume.now c.loop-count.volume c.loop-count.invariant.read c.requires.of)

pub follow-requires-clause-there : goal.follow-requires-clause-there
follow-requires-clause-there g c =
    links-kept c.args.dbd.now (λ m. IsOnSomeRow c.args.dbd.now.types m c.loop-count.path) c.loop-count.volume c.judge.new.volume c.in_ok-verdict.ensures.read
    (links-kept c.args.dbd.now (λ m. IsOnSomeRow c.args.dbd.now.types m c.loop-count.path) c.args.volume.now c.loop-count.volume c.loop-count.invariant.read
    (λ sound.
    let types = c.args.dbd.now.types in
    let T = c.requires.there sound in
    there types (links_of types c.args.volume.now) T.0 (g.J.Judge.test c.args.judge.now types (rows_of T.0)) (g.J.Judge.admits c.args.judge.now types (rows_of T.0)) c.args.parent T.1 T.2
    c.loop-count.count c.loop-count.path T.3.leads.holds T.3.leads.ends (c.loop-count.invariant.searched T.0 T.1 T.2 T.3)
    (full_path c.loop-count.path c.addresses.result.now c.is_empty.result c.addresses.ensures.value c.is_empty.ensures c.if-is_empty.false)))

pub returns-then-branch-clause-read : goal.returns-then-branch-clause-read
returns-then-branch-clause-read g c =
    reads-join (Ok true) c.loop-count.invariant.read (reads-join (Ok true) c.in_ok-verdict.ensures.read (read-ok true c.in_ok-follow.ensures.read))

pub returns-then-branch-clause-found : goal.returns-then-branch-clause-found
returns-then-branch-clause-found g c f i end S =
    let types = c.args.dbd.now.types in
    let u = c.args.volume.now in
    let test = g.J.Judge.test c.args.judge.now types (rows_of f) in
    let admits = g.J.Judge.admits c.args.judge.now types (rows_of f) in
    let H = c.loop-count.invariant.searched f i end S in
    let some : 0 < length c.loop-count.path = full_path c.loop-count.path c.addresses.result.now c.is_empty.result c.addresses.ensures.value c.is_empty.ensures c.if-is_empty.false in
    let I = search_in test admits types f c.args.parent i end c.loop-count.count c.loop-count.path H some in
    let w : H.number < end = I.0 in
    let e : end ≤ length (rows_of f) = ends_within types f c.args.parent i end S.leads.ends in
    let further : i + c.loop-count.count ≤ H.number = H.further in
    let at : IsPathOf c.args.dbd.now u f c.loop-count.path H.number = record { sound = S.sound; row = record { holds = S.leads.holds; within = omega arith; is = I.1 } } in
    let judged = c.in_ok-verdict.ensures.value f H.number (told_before c.args.dbd.now u c.loop-count.volume c.loop-count.invariant.read f c.loop-count.path H.number at) (H.above w) in
    let turned = c.in_ok-follow.ensures.value f H.number
    (told_before c.args.dbd.now c.loop-count.volume c.judge.new.volume c.in_ok-verdict.ensures.read f c.loop-count.path H.number
    (told_before c.args.dbd.now u c.loop-count.volume c.loop-count.invariant.read f c.loop-count.path H.number at))
    test admits end (ends_later types f c.args.parent i end S.leads.ends H.number (omega arith)) w (H.above w) judged in
    let F = turned.found c.if-branch.true in
    search_finds test admits types f c.args.parent i end c.loop-count.count c.loop-count.path H c.follow.new.path w F.0 F.1

pub loop-count-preserved : goal.loop-count-preserved
loop-count-preserved g c = record {
  read = reads-join (Ok 0) c.loop-count.invariant.read (reads-join (Ok 0) c.in_ok-verdict.ensures.read (read-ok 0 c.in_ok-follow.ensures.read));
  searched = λ f i end S.
      let types = c.args.dbd.now.types in
      let u = c.args.volume.now in
      let test = g.J.Judge.test c.args.judge.now types (rows_of f) in
      let admits = g.J.Judge.admits c.args.judge.now types (rows_of f) in
      let H = c.loop-count.invariant.searched f i end S in
      let some : 0 < length c.loop-count.path = full_path c.loop-count.path c.addresses.result.now c.is_empty.result c.addresses.ensures.value c.is_empty.ensures c.if-is_empty.false in
      let I = search_in test admits types f c.args.parent i end c.loop-count.count c.loop-count.path H some in
      let w : H.number < end = I.0 in
      let e : end ≤ length (rows_of f) = ends_within types f c.args.parent i end S.leads.ends in
      let further : i + c.loop-count.count ≤ H.number = H.further in
      let at : IsPathOf c.args.dbd.now u f c.loop-count.path H.number = record { sound = S.sound; row = record { holds = S.leads.holds; within = omega arith; is = I.1 } } in
      let judged = c.in_ok-verdict.ensures.value f H.number (told_before c.args.dbd.now u c.loop-count.volume c.loop-count.invariant.read f c.loop-count.path H.number at) (H.above w) in
      let turned = c.in_ok-follow.ensures.value f H.number
      (told_before c.args.dbd.now c.loop-count.volume c.judge.new.volume c.in_ok-verdict.ensures.read f c.loop-count.path H.number
      (told_before c.args.dbd.now u c.loop-count.volume c.loop-count.invariant.read f c.loop-count.path H.number at))
      test admits end (ends_later types f c.args.parent i end S.leads.ends H.number (omega arith)) w (H.above w) judged in
      search_goes_on test admits types f c.args.parent i end c.loop-count.count c.loop-count.path H c.follow.new.path (turned.on c.if-branch.false);
}

pub returns-clause-found : goal.returns-clause-found
returns-clause-found g c f i end S =
    let types = c.args.dbd.now.types in
    let u = c.args.volume.now in
    let test = g.J.Judge.test c.args.judge.now types (rows_of f) in
    let admits = g.J.Judge.admits c.args.judge.now types (rows_of f) in
    let H = c.loop-count.invariant.searched f i end S in
    let further : i + c.loop-count.count ≤ H.number = H.further in
    let e : end ≤ length (rows_of f) = ends_within types f c.args.parent i end S.leads.ends in
    let most : c.length-most.result ≡ length u.image = c.length-most.ensures S.sound in
    let few : length (rows_of f) < length u.image = (few-rows c.args.dbd.now u f (c.requires.of S.sound) S.leads.holds).0 in
    let all : c.length-most.result ≤ c.loop-count.count = omega (arith, c.loop-count-test.false) in
    search_ends test admits types f c.args.parent i end c.loop-count.count c.loop-count.path H c.loop-count.path (omega arith)
