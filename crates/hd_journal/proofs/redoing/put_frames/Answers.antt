use Rattle.std.proofs.Common.{ℕ, List, slice_index, ap, arith, ◌∙◌}
use Rattle.std.proofs.lemmas.Result.{on_ok_weaker}
use Rattle.hd_journal.specs.Log.{written_from}
use Rattle.hd_journal.proofs.Steps.{sparing-still, redoes-more, redoes-cut, redoes-sync, still-synced}
use Rattle.hd_journal.proofs.Bytes.{image-behind, has-behind}
use Rattle.hd_journal.proofs.redoing.put_frames.Goals as goal

pub copy-requires-clause-frames : goal.copy-requires-clause-frames
copy-requires-clause-frames g c h = rw (c.lengthen.ensures.redoes h).log (c.requires.fits h).frames

pub returns-in_err-copy-clause-redoes : goal.returns-in_err-copy-clause-redoes
returns-in_err-copy-clause-redoes g c h =
    let first = (g.D.Disk.state c.args.disk.now).volume in
    let a = c.lengthen.ensures.redoes h in
    redoes-more c.args.head c.args.is_shut first a (c.copy.ensures.redoes h first (sparing-still c.args.head c.args.is_shut first a))

pub returns-in_err-set_volume_len-clause-redoes : goal.returns-in_err-set_volume_len-clause-redoes
returns-in_err-set_volume_len-clause-redoes g c h =
    let first = (g.D.Disk.state c.args.disk.now).volume in
    let a = c.lengthen.ensures.redoes h in
    let b = redoes-more c.args.head c.args.is_shut first a (c.copy.ensures.redoes h first (sparing-still c.args.head c.args.is_shut first a)) in
    redoes-more c.args.head c.args.is_shut first b (redoes-cut c.args.head c.args.is_shut first c.args.head.len (c.requires.fits h).grows c.requires.len (sparing-still c.args.head c.args.is_shut first b) (c.set_volume_len.ensures.cuts h))

pub returns-clause-redoes : goal.returns-clause-redoes
returns-clause-redoes g c h =
    let first = (g.D.Disk.state c.args.disk.now).volume in
    let a = c.lengthen.ensures.redoes h in
    let b = redoes-more c.args.head c.args.is_shut first a (c.copy.ensures.redoes h first (sparing-still c.args.head c.args.is_shut first a)) in
    let d = redoes-more c.args.head c.args.is_shut first b (redoes-cut c.args.head c.args.is_shut first c.args.head.len (c.requires.fits h).grows c.requires.len (sparing-still c.args.head c.args.is_shut first b) (c.set_volume_len.ensures.cuts h)) in
    redoes-more c.args.head c.args.is_shut first d (redoes-sync c.args.head c.args.is_shut first (sparing-still c.args.head c.args.is_shut first d) (c.sync_volume.ensures.syncs h))

pub returns-clause-done : goal.returns-clause-done
returns-clause-done g c =
    on_ok_weaker c.sync_volume.result
    (λ durable h k above low.
    let log = (g.D.Disk.state c.args.disk.now).log in
    let first = (g.D.Disk.state c.args.disk.now).volume in
    let from : ℕ = written_from c.args.is_shut in
    let filled = has-behind c.args.head 0 from log first (g.D.Disk.state c.lengthen.new.disk).volume 0 (omega arith) (c.in_ok-lengthen.ensures.filled h) in
    let copied = c.in_ok-copy.ensures.copied h first (rw (c.lengthen.ensures.redoes h).log filled) in
    ap (λ (v : List ℕ). slice_index v k) (c.sync_volume.ensures.syncs h).volume
    ∙ image-behind c.args.head from log first (g.D.Disk.state c.copy.new.disk).volume (g.D.Disk.state c.set_volume_len.new.self).volume (rw (← (c.lengthen.ensures.redoes h).log) copied) (c.set_volume_len.ensures.cuts h).volume k above low)
    c.sync_volume.ensures.durable

pub returns-clause-still : goal.returns-clause-still
returns-clause-still g c =
    on_ok_weaker c.sync_volume.result
    (λ durable h.
    let first = (g.D.Disk.state c.args.disk.now).volume in
    let a = c.lengthen.ensures.redoes h in
    let b = redoes-more c.args.head c.args.is_shut first a (c.copy.ensures.redoes h first (sparing-still c.args.head c.args.is_shut first a)) in
    let d = redoes-more c.args.head c.args.is_shut first b (redoes-cut c.args.head c.args.is_shut first c.args.head.len (c.requires.fits h).grows c.requires.len (sparing-still c.args.head c.args.is_shut first b) (c.set_volume_len.ensures.cuts h)) in
    still-synced c.args.head c.args.is_shut first (redoes-more c.args.head c.args.is_shut first d (redoes-sync c.args.head c.args.is_shut first (sparing-still c.args.head c.args.is_shut first d) (c.sync_volume.ensures.syncs h))) (durable h))
    c.sync_volume.ensures.durable
