use Rattle.std.proofs.Common.{sym, ◌∙◌, arith}
use Rattle.hd_dbd.specs.Segment.{Segment}
use Rattle.hd_volume.proofs.CallSteps.{if-ok}
use Rattle.hd_update.proofs.PlaceChains.{last_of_ends, parent_kept, ends_kept, gap_told}
use Rattle.hd_update.proofs.places.place_from_last.Goals as goal

pub side_at-requires-clause-of : goal.side_at-requires-clause-of
side_at-requires-clause-of g c sound = (c.requires.parent sound).volume

pub side_at-requires-clause-there : goal.side_at-requires-clause-there
side_at-requires-clause-there g c sound = (last_of_ends c.args.dbd.now c.args.volume.now c.args.parent c.args.code c.args.ends c.requires.parent c.requires.ends c.requires.some sound).there

pub side_at-requires-clause-typed : goal.side_at-requires-clause-typed
side_at-requires-clause-typed g c sound = (last_of_ends c.args.dbd.now c.args.volume.now c.args.parent c.args.code c.args.ends c.requires.parent c.requires.ends c.requires.some sound).typed

pub place_among-requires : goal.place_among-requires
place_among-requires g c = record {
  parent = parent_kept c.args.dbd.now c.args.volume.now c.side_at.new.volume c.in_ok-side_at.ensures.read c.args.parent c.args.code c.requires.parent;
  ends = ends_kept c.args.dbd.now c.args.volume.now c.side_at.new.volume c.in_ok-side_at.ensures.read c.args.parent c.args.code c.args.ends c.requires.ends;
}

pub returns-in-Behind-clause-value : goal.returns-in-Behind-clause-value
returns-in-Behind-clause-value g c sound = (
  0,
  record {
    chain = (last_of_ends c.args.dbd.now c.args.volume.now c.args.parent c.args.code c.args.ends c.requires.parent c.requires.ends c.requires.some sound).behind;
    behind = λ some. sym (c.in_ok-side_at.ensures.value sound) ∙ c.in-Behind.is;
    before = λ none. absurd (omega arith);
  },
)

pub returns-in-Taken-clause-value : goal.returns-in-Taken-clause-value
returns-in-Taken-clause-value g c sound = (
  c.args.ends.last,
  (last_of_ends c.args.dbd.now c.args.volume.now c.args.parent c.args.code c.args.ends c.requires.parent c.requires.ends c.requires.some sound).own,
  sym (c.in_ok-side_at.ensures.value sound) ∙ c.in-Taken.is,
)

pub returns-in-Before-clause-value : goal.returns-in-Before-clause-value
returns-in-Before-clause-value g c =
    let new : Segment = record { code = c.args.code; bytes = c.args.bytes.now } in
    if-ok c.place_among.result c.place_among.ensures.value
    (λ r value. gap_told c.args.dbd.now c.args.volume.now c.side_at.new.volume c.in_ok-side_at.ensures.read c.args.parent c.args.last new r value)
