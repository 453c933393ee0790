use Rattle.std.proofs.Common.{◌≡◌, ℕ, List, false, sym, ap, ◌∙◌, subst}
use Rattle.std.proofs.lemmas.Bool.{true≢false}
use Rattle.hd_journal.specs.Disk.{Marks, Syncs}
use Rattle.hd_journal.specs.declared.head.Head.{Head}
use Rattle.hd_journal.specs.Log.{image}
use Rattle.hd_journal.specs.Framed.{IsSafe}
use Rattle.hd_journal.specs.Journals.{committed_in}
use Rattle.hd_journal.proofs.Held.{held-stands, tried-sure, unwritten, committed-same}
use Rattle.hd_journal.proofs.Moments.{started, meanwhile, marked, synced, weakened}
use Rattle.hd_journal.proofs.Safety.{marks-same}
use Rattle.hd_journal.proofs.Marking.{mark_of, image-over, framed-over, held-marked, before-marked, safe-marked, safe-kept, mark-stands}
use Rattle.hd_journal.proofs.journal.Journal.mark.Goals as goal

pub returns-in_default-clause-kept : goal.returns-in_default-clause-kept
returns-in_default-clause-kept g c =
    let k = c.requires.kept in
    let j = c.args.self.now in
    let a = g.D.Disk.state j.disk in
    let m = g.D.Disk.state c.mark.new.self in
    record {
      some = k.some;
      small = k.small;
      zeros = k.zeros;
      frame = k.frame;
      room = k.room;
      kept_room = k.kept_room;
      fewer = k.fewer;
      same = k.same;
      later = k.later;
      longer = k.longer;
      usable = λ e. absurd (true≢false e);
      sure = λ e. absurd (true≢false e);
      framed = λ e. absurd (true≢false e);
      last = λ e. absurd (true≢false e);
      holds = λ e. absurd (true≢false e);
      first = λ e. absurd (true≢false e);
      marked = λ h.
          let syncs : Syncs a m = c.in_default.ensures.fails h in
          marks-same (image j.last a.log a.volume) (image j.last m.log m.volume) a.marks m.marks (image-over j.last a m syncs.log syncs.volume) syncs.time.marks (k.marked h);
      safe = λ h.
          let syncs : Syncs a m = c.in_default.ensures.fails h in
          let sure = k.sure c.requires.well in
          let last : List ℕ = image j.last a.log a.volume in
          let was : IsSafe (committed_in last last a.marks) a = subst (λ (x : List ℕ). IsSafe (committed_in last x a.marks) a) (tried-sure j.stage last _ sure) (k.safe h) in
          safe-kept a m last last (image j.last m.log m.volume) _ syncs (g.met.D.Disk.counts_now j.disk) (image-over j.last a m syncs.log syncs.volume)
          (tried-sure j.stage (image j.last m.log m.volume) _ sure ∙ image-over j.last a m syncs.log syncs.volume) was;
    }

pub returns-clause-kept : goal.returns-clause-kept
returns-clause-kept g c =
    let k = c.requires.kept in
    let j = c.args.self.now in
    let a = g.D.Disk.state j.disk in
    let m = g.D.Disk.state c.mark.new.self in
    record {
      some = k.some;
      small = k.small;
      zeros = k.zeros;
      frame = k.frame;
      room = k.room;
      kept_room = k.kept_room;
      fewer = k.fewer;
      same = k.same;
      later = k.later;
      longer = k.longer;
      usable = λ e. c.in-Ok.ensures.usable;
      sure = k.sure;
      framed = λ e h. framed-over j.head j.places.items a m (c.in-Ok.ensures.marks h).log (c.in-Ok.ensures.marks h).volume (k.framed e h);
      last = λ e h. framed-over j.last j.kept.items a m (c.in-Ok.ensures.marks h).log (c.in-Ok.ensures.marks h).volume (k.last e h);
      holds = λ e h. held-marked false a m (c.in-Ok.ensures.marks h) j.stage j.last (k.holds e h);
      first = k.first;
      marked = λ h.
          let marks : Marks false a m = c.in-Ok.ensures.marks h in
          mark-stands a m (image j.last a.log a.volume) (image j.last m.log m.volume) a.marks (g.met.D.Disk.seen_may_stay j.disk)
          (held-stands j.stage j.last a (k.sure c.requires.well) (k.holds c.requires.well h)) (image-over j.last a m marks.log marks.volume) marks.marks;
      safe = λ h.
          let marks : Marks false a m = c.in-Ok.ensures.marks h in
          let sure = k.sure c.requires.well in
          let last : List ℕ = image j.last a.log a.volume in
          let was : IsSafe (committed_in last last a.marks) a = subst (λ (x : List ℕ). IsSafe (committed_in last x a.marks) a) (tried-sure j.stage last _ sure) (k.safe h) in
          let over : image j.last m.log m.volume ≡ last = image-over j.last a m marks.log marks.volume in
          let safe : IsSafe (committed_in (image j.last m.log m.volume) (image j.last m.log m.volume) m.marks) m =
          safe-marked a m last last (image j.last m.log m.volume) marks (g.met.D.Disk.only_now j.disk) (held-stands j.stage j.last a sure (k.holds c.requires.well h)) (k.marked h) over was in
          subst (λ (x : List ℕ). IsSafe (committed_in (image j.last m.log m.volume) x m.marks) m) (sym (tried-sure j.stage (image j.last m.log m.volume) _ sure)) safe;
    }

pub returns-in_default-clause-contents : goal.returns-in_default-clause-contents
returns-in_default-clause-contents g c h =
    let k = c.requires.kept in
    let j = c.args.self.now in
    let a = g.D.Disk.state j.disk in
    let m = g.D.Disk.state c.mark.new.self in
    let syncs : Syncs a m = c.in_default.ensures.fails h in
    image-over j.head a m syncs.log syncs.volume

pub returns-clause-contents : goal.returns-clause-contents
returns-clause-contents g c h =
    let k = c.requires.kept in
    let j = c.args.self.now in
    let a = g.D.Disk.state j.disk in
    let m = g.D.Disk.state c.mark.new.self in
    let marks : Marks false a m = c.in-Ok.ensures.marks h in
    image-over j.head a m marks.log marks.volume

pub returns-in_default-clause-fails : goal.returns-in_default-clause-fails
returns-in_default-clause-fails g c h =
    let k = c.requires.kept in
    let j = c.args.self.now in
    let a = g.D.Disk.state j.disk in
    let m = g.D.Disk.state c.mark.new.self in
    let syncs : Syncs a m = c.in_default.ensures.fails h in
    committed-same j.stage (image j.last a.log a.volume) (image j.last m.log m.volume) _ _ a.marks m.marks (k.sure c.requires.well) (image-over j.last a m syncs.log syncs.volume) syncs.time.marks

pub returns-clause-committed : goal.returns-clause-committed
returns-clause-committed g c h =
    let k = c.requires.kept in
    let j = c.args.self.now in
    let a = g.D.Disk.state j.disk in
    let m = g.D.Disk.state c.mark.new.self in
    let marks : Marks false a m = c.in-Ok.ensures.marks h in
    let sure = k.sure c.requires.well in
    let same : image j.head a.log a.volume ≡ image j.last a.log a.volume = ap (λ (x : Head). image x a.log a.volume) (unwritten j.head j.last k.same c.requires.idle.0 c.requires.idle.1) in
    let over : image j.last m.log m.volume ≡ image j.head a.log a.volume = image-over j.last a m marks.log marks.volume ∙ sym same in
    (over, tried-sure j.stage (image j.last m.log m.volume) _ sure ∙ over, before-marked (image j.last a.log a.volume) (image j.last a.log a.volume) m.marks (mark_of a) a.marks marks.marks (k.marked h))

pub returns-in_default-clause-leaves : goal.returns-in_default-clause-leaves
returns-in_default-clause-leaves g c h = meanwhile (weakened (synced (c.in_default.ensures.fails h) (g.met.D.Disk.counts_now c.args.self.now.disk)) (λ l v none. absurd none))

pub returns-clause-leaves : goal.returns-clause-leaves
returns-clause-leaves g c h = marked (meanwhile (started _ (g.D.Disk.state c.args.self.now.disk))) (c.in-Ok.ensures.marks h)
