use Rattle.std.proofs.Common.{arith, ◌∙◌}
use Rattle.hd_block.proofs.Walk.{fill-within}
use Rattle.hd_block.proofs.TakeLemmas.{takes-whole, takes-two, no-crumb}
use Rattle.hd_block.proofs.FrameLemmas.{head-link, head-two, takes-whole-others, takes-front-others}
use Rattle.hd_block.proofs.holes.take_hole.Goals as goal

pub returns-then-rest-bytes-clause-found : goal.returns-then-rest-bytes-clause-found
returns-then-rest-bytes-clause-found c sizes xs h =
    let f = c.in_ok-hole.ensures.found sizes xs h in
    let within = fill-within sizes c.args.bytes.now _ _ f.stands.behind f.stands.fill in
    absurd (omega (arith, f.large))

pub returns-then-hole-size-clause-after : goal.returns-then-hole-size-clause-after
returns-then-hole-size-clause-after c sizes xs h =
    let f = c.in_ok-hole.ensures.found sizes xs h in
    takes-whole c.args.size c.write_u16.new.bytes f.stands c.if-hole-size.true c.write_u16.ensures.changes (c.write_u16.ensures.reads_back ∙ f.next)

pub returns-then-hole-size-clause-others : goal.returns-then-hole-size-clause-others
returns-then-hole-size-clause-others c sizes xs q n h u =
    let f = c.in_ok-hole.ensures.found sizes xs h in
    takes-whole-others c.write_u16.new.bytes q n f.stands u c.write_u16.ensures.changes

pub returns-then-hole-size-clause-head : goal.returns-then-hole-size-clause-head
returns-then-hole-size-clause-head c = head-link c.in_ok-hole.ensures.head.1 c.write_u16.ensures.changes

pub returns-then-rest-bytes-2-clause-found : goal.returns-then-rest-bytes-2-clause-found
returns-then-rest-bytes-2-clause-found c sizes xs h =
    let f = c.in_ok-hole.ensures.found sizes xs h in
    let crumb = no-crumb f.stands.hole.element.whole f.large c.if-hole-size.false c.requires.size.1 in
    let within = fill-within sizes c.args.bytes.now _ _ f.stands.behind f.stands.fill in
    absurd (omega arith)

pub returns-clause-after : goal.returns-clause-after
returns-clause-after c sizes xs h =
    let f = c.in_ok-hole.ensures.found sizes xs h in
    let crumb = no-crumb f.stands.hole.element.whole f.large c.if-hole-size.false c.requires.size.1 in
    takes-two c.args.size f.stands crumb c.requires.size.0 c.requires.size.1 c.write_element.ensures.changes c.write_u16-2.ensures.changes
    (c.write_element.ensures.next ∙ f.next) c.write_element.ensures.len c.write_element.ensures.task c.write_u16-2.ensures.reads_back

pub returns-clause-head : goal.returns-clause-head
returns-clause-head c =
    head-two (omega (arith, c.in_ok-hole.ensures.head.0)) c.in_ok-hole.ensures.head.1 c.write_element.ensures.changes c.write_u16-2.ensures.changes

pub returns-clause-others : goal.returns-clause-others
returns-clause-others c sizes xs q n h u =
    let f = c.in_ok-hole.ensures.found sizes xs h in
    let crumb = no-crumb f.stands.hole.element.whole f.large c.if-hole-size.false c.requires.size.1 in
    takes-front-others c.args.size q n f.stands u crumb c.write_element.ensures.changes c.write_u16-2.ensures.changes
