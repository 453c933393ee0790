use Rattle.std.proofs.Common.{◌≡◌, ◌≢◌, ◌≤◌, ◌+◌, ◌∙◌, ℕ, sym, ap, arith}
use Rattle.hd_bytes.specs.Numbers.{number_at}
use Rattle.hd_block.proofs.Walk.{at-either}
use Rattle.hd_block.proofs.GiveLemmas.{gives-own, gives-joined}
use Rattle.hd_block.proofs.FrameLemmas.{agree-both, head-room, head-link, head-two, gives-own-others, gives-joined-others}
use Rattle.hd_block.proofs.gives.give_hole.Goals as goal
use Rattle.hd_block.proofs.gives.give_hole.Goals.{else-link-ge8-via-then-link-ge8+else-link-len, else-link-ge8-via-else-link-ge8}

pub returns-then-link-len-clause-after : goal.returns-then-link-len-clause-after
returns-then-link-len-clause-after c sizes xs h u =
    let s = c.find_link-link.ensures.found sizes xs c.args.size h (at-either xs c.args.offset c.args.size u) in
    let t = c.find_behind-behind.ensures.found sizes s.behind (omega arith) s.fill in
    let m : ℕ = c.find_link-link.result.link in
    let len : c.read_u16-len.result ≡ number_at 2 c.args.bytes.now (m + 2) = c.read_u16-len.ensures in
    let adjoins : m + number_at 2 c.args.bytes.now (m + 2) ≡ c.args.offset = ap (λ (z : ℕ). m + z) (sym len) ∙ c.if-link-len.true in
    gives-joined s t c.if-link-ge8.true adjoins c.requires.size.1 c.write_u16.ensures.changes c.write_u16-then-link-len.ensures.changes c.write_u16.ensures.reads_back
    (c.write_u16-then-link-len.ensures.reads_back ∙ ap (λ (z : ℕ). z + (c.args.size + c.find_behind-behind.result.more)) len)

pub returns-then-link-len-clause-others : goal.returns-then-link-len-clause-others
returns-then-link-len-clause-others c sizes xs q n h u v other =
    let s = c.find_link-link.ensures.found sizes xs c.args.size h (at-either xs c.args.offset c.args.size u) in
    gives-joined-others q n s v c.write_u16.ensures.changes c.write_u16-then-link-len.ensures.changes

pub returns-then-link-len-clause-head : goal.returns-then-link-len-clause-head
returns-then-link-len-clause-head c =
    agree-both 2 6 _ _ _ (head-link c.find_link-link.ensures.head c.write_u16.ensures.changes) (head-room (omega (arith, c.if-link-ge8.true)) c.write_u16-then-link-len.ensures.changes)

pub returns-clause-after : goal.returns-clause-after
returns-clause-after c sizes xs h u =
    let s = c.find_link-link.ensures.found sizes xs c.args.size h (at-either xs c.args.offset c.args.size u) in
    let t = c.find_behind-behind.ensures.found sizes s.behind (omega arith) s.fill in
    let m : ℕ = c.find_link-link.result.link in
    let len : c.read_u16-len.result ≡ number_at 2 c.args.bytes.now (m + 2) = c.read_u16-len.ensures in
    let apart : 8 ≤ m → m + number_at 2 c.args.bytes.now (m + 2) ≢ c.args.offset =
    λ low e. elim c.else-link-ge8.branch [
      | else-link-ge8-via-then-link-ge8+else-link-len w ↦ w.if-link-len.false (ap (λ (z : ℕ). m + z) len ∙ e)
      | else-link-ge8-via-else-link-ge8 w ↦ omega (arith, w.if-link-ge8.false)
    ]
    in
    gives-own s t apart c.requires.size.0 c.requires.size.1 c.write_element.ensures.changes c.write_u16-2.ensures.changes
    c.write_element.ensures.next c.write_element.ensures.len c.write_element.ensures.task c.write_u16-2.ensures.reads_back

pub returns-clause-head : goal.returns-clause-head
returns-clause-head c =
    head-two c.requires.offset c.find_link-link.ensures.head c.write_element.ensures.changes c.write_u16-2.ensures.changes

pub returns-clause-others : goal.returns-clause-others
returns-clause-others c sizes xs q n h u v other =
    let s = c.find_link-link.ensures.found sizes xs c.args.size h (at-either xs c.args.offset c.args.size u) in
    gives-own-others q n s v other c.requires.size.0 c.write_element.ensures.changes c.write_u16-2.ensures.changes
