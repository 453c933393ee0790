use Rattle.std.proofs.Common.{◌<◌, ℕ, length, slice_index, sym, ap, ◌∙◌, subst}
use Rattle.hd_journal.proofs.JournalLemmas.{ok-both}
use Rattle.hd_journal.proofs.Steps.{redoes-first, redoes-more, redoes-cut, sparing-still, lengthened, unlengthened}
use Rattle.hd_journal.proofs.redoing.lengthen.Goals as goal

pub returns-then-head-clause-redoes : goal.returns-then-head-clause-redoes
returns-then-head-clause-redoes g c h = redoes-first c.args.head c.args.is_shut (g.D.Disk.state c.args.disk.now).volume (g.D.Disk.state c.args.disk.now) (c.requires.sparing h)

pub returns-then-head-clause-filled : goal.returns-then-head-clause-filled
returns-then-head-clause-filled g c h = unlengthened c.args.head (g.D.Disk.state c.args.disk.now) c.if-head.true (c.requires.fits h).base

pub returns-in_err-set_volume_len-clause-redoes : goal.returns-in_err-set_volume_len-clause-redoes
returns-in_err-set_volume_len-clause-redoes g c h =
    redoes-cut c.args.head c.args.is_shut (g.D.Disk.state c.args.disk.now).volume c.front_of.result c.front_of.ensures.base c.front_of.ensures.first (c.requires.sparing h) (c.set_volume_len.ensures.cuts h)

pub returns-clause-redoes : goal.returns-clause-redoes
returns-clause-redoes g c h =
    let first = (g.D.Disk.state c.args.disk.now).volume in
    let a = redoes-cut c.args.head c.args.is_shut first c.front_of.result c.front_of.ensures.base c.front_of.ensures.first (c.requires.sparing h) (c.set_volume_len.ensures.cuts h) in
    redoes-more c.args.head c.args.is_shut first a
    (redoes-cut c.args.head c.args.is_shut first c.args.head.len (c.requires.fits h).grows c.requires.len (sparing-still c.args.head c.args.is_shut first a) (c.set_volume_len-2.ensures.cuts h))

pub returns-clause-filled : goal.returns-clause-filled
returns-clause-filled g c =
    let s = g.D.Disk.state c.args.disk.now in
    ok-both c.set_volume_len-2.result
    (λ long zeros h. lengthened c.args.head c.args.is_shut s (g.D.Disk.state c.set_volume_len.new.self) (g.D.Disk.state c.set_volume_len-2.new.self) c.front_of.result
    c.front_of.ensures.base (c.front_of.ensures.within (c.requires.fits h).grows c.requires.len) (c.requires.fits h).base
    (λ k behind low.
    let front = c.front_of.ensures.other k behind low in
    let byte = (c.requires.sparing h s.log s.volume (g.met.D.Disk.seen_may_stay c.args.disk.now)).1.first_byte front.0 in
    (subst (λ (n : ℕ). n < length s.volume) (sym front.1) byte.0, ap (slice_index s.volume) front.1 ∙ byte.1))
    (c.set_volume_len.ensures.cuts h) (c.in_ok-set_volume_len.ensures.value h) (c.set_volume_len-2.ensures.cuts h) (long h) (zeros h))
    c.set_volume_len-2.ensures.value c.set_volume_len-2.ensures.zeros
