use Rattle.std.proofs.Common.{rules, ◌≡◌, ◌+◌, ℕ, List, sym, ◌∙◌, subst}
use Rattle.hd_journal.specs.Log.{written_from, HasFrames}
use Rattle.hd_journal.proofs.Steps.{sparing-still, redoes-more}
use Rattle.hd_journal.proofs.redoing.copy.Goals as goal

pub copy_frame-requires-clause-frames : goal.copy_frame-requires-clause-frames
copy_frame-requires-clause-frames g c h = rw (c.loop-i.invariant.2 h) (c.requires.frames h)

pub returns-in_err-copy_frame-clause-redoes : goal.returns-in_err-copy_frame-clause-redoes
returns-in_err-copy_frame-clause-redoes g c h first sparing =
    let so_far = c.loop-i.invariant.4 h first sparing in
    redoes-more c.args.head c.args.is_shut first so_far (c.copy_frame.ensures.redoes h first (sparing-still c.args.head c.args.is_shut first so_far))

pub loop-i-preserved : goal.loop-i-preserved
loop-i-preserved g c = (
  c.in_ok-copy_frame.ensures.usable,
  c.copy_frame.ensures.frame ∙ c.loop-i.invariant.1,
  λ h. c.copy_frame.ensures.log h ∙ c.loop-i.invariant.2 h,
  λ h first frames.
      subst (λ (log : List ℕ). HasFrames c.args.head (written_from c.args.is_shut) log first (c.loop-i.i + 1) (g.D.Disk.state c.copy_frame.new.disk).volume) (c.loop-i.invariant.2 h)
      (c.in_ok-copy_frame.ensures.copied h first
      (subst (λ (log : List ℕ). HasFrames c.args.head (written_from c.args.is_shut) log first c.loop-i.i (g.D.Disk.state c.loop-i.disk).volume) (sym (c.loop-i.invariant.2 h)) (c.loop-i.invariant.3 h first frames))),
  λ h first sparing.
      let so_far = c.loop-i.invariant.4 h first sparing in
      redoes-more c.args.head c.args.is_shut first so_far (c.copy_frame.ensures.redoes h first (sparing-still c.args.head c.args.is_shut first so_far)),
)

pub returns-clause-copied : goal.returns-clause-copied
returns-clause-copied g c h first frames =
    let done : c.loop-i.i ≡ c.args.head.count = search rules in
    subst (λ (i : ℕ). HasFrames c.args.head (written_from c.args.is_shut) (g.D.Disk.state c.args.disk.now).log first i (g.D.Disk.state c.loop-i.disk).volume) done (c.loop-i.invariant.3 h first frames)
