use Rattle.std.proofs.Common.{rules, ◌≡◌, ◌+◌, ◌<◌, length, ap, ◌∙◌, arith}
use Rattle.std.proofs.lemmas.Bool.{true≢false}
use Rattle.std.proofs.lemmas.List.{take_at}
use Rattle.hd_journal.specs.declared.head.Head.{Head}
use Rattle.hd_journal.specs.Log.{frame_at, image}
use Rattle.hd_journal.proofs.FirstLemmas.{first-framed, first-image}
use Rattle.hd_journal.proofs.Held.{behind-last, committed-same, write-framed, write-image, write-leaves, safe-same, held-write}
use Rattle.hd_journal.proofs.Safety.{marks-same}
use Rattle.hd_journal.proofs.journal.Journal.frame_first.Goals as goal

pub returns-in_default-write_frame-clause-kept : goal.returns-in_default-write_frame-clause-kept
returns-in_default-write_frame-clause-kept g c =
    let k = c.requires.kept in
    let j = c.args.self.now in
    let a = g.D.Disk.state j.disk in
    let b = g.D.Disk.state c.write_frame.new.disk in
    let behind = behind-last j.head j.last j.head.count k.same k.later in
    record {
      some = k.some;
      small = k.small;
      zeros = k.zeros;
      frame = k.frame;
      room = k.room;
      kept_room = k.kept_room;
      fewer = k.fewer;
      same = k.same;
      later = k.later;
      longer = k.longer;
      usable = λ e. absurd (true≢false e);
      sure = λ e. absurd (true≢false e);
      framed = λ e. absurd (true≢false e);
      last = λ e. absurd (true≢false e);
      holds = λ e. absurd (true≢false e);
      first = λ e. absurd (true≢false e);
      marked = λ h. marks-same (image j.last a.log a.volume) (image j.last b.log b.volume) a.marks b.marks (write-image j.last j.kept.items a b (frame_at j.head.size j.head.count) (j.head.size + 4) (k.last c.requires.well h) behind (c.write_frame.ensures.writes h)) (c.write_frame.ensures.writes h).time.marks (k.marked h);
      safe = λ h. safe-same j.stage a b (image j.last a.log a.volume) (image j.last b.log b.volume) _ _ (k.sure c.requires.well) (write-image j.last j.kept.items a b (frame_at j.head.size j.head.count) (j.head.size + 4) (k.last c.requires.well h) behind (c.write_frame.ensures.writes h)) (write-leaves j.stage j.last j.kept.items a b (frame_at j.head.size j.head.count) (j.head.size + 4) (k.sure c.requires.well) (k.last c.requires.well h) behind (k.holds c.requires.well h) (c.write_frame.ensures.writes h)) (k.safe h);
    }

pub returns-clause-kept : goal.returns-clause-kept
returns-clause-kept g c =
    let k = c.requires.kept in
    let j = c.args.self.now in
    let a = g.D.Disk.state j.disk in
    let b = g.D.Disk.state c.write_frame.new.disk in
    let behind = behind-last j.head j.last j.head.count k.same k.later in
    let low : 0 < length j.places.items = search rules in
    let long : length c.read_first.new.frame ≡ j.head.size + 4 = search rules in
    let written : c.deref-2.result.now ≡ c.read_first.new.frame = c.deref-2.ensures.value ∙ take_at c.read_first.new.frame _ _ (let f = k.frame in omega (arith, long, f)) in
    record {
      some = k.some;
      small = k.small;
      zeros = k.zeros;
      frame = k.frame;
      room = k.room;
      kept_room = k.kept_room;
      fewer = k.fewer;
      same = ap (λ (x : Head). record x { count = j.head.count + 1 }) k.same;
      later = (let l = k.later in omega (arith, l));
      longer = k.longer;
      usable = λ e. c.in-Ok-write_frame.ensures.usable;
      sure = k.sure;
      framed = λ e h. first-framed a b j.head j.places.items c.read_first.new.frame (k.framed c.requires.well h) low (c.write_frame.ensures.writes h) (c.in-Ok-write_frame.ensures.value h ∙ written) long c.in-Ok.ensures.number (λ i u. c.in-Ok.ensures.block h i u);
      last = λ e h. write-framed j.last j.kept.items a b (frame_at j.head.size j.head.count) (j.head.size + 4) (k.last c.requires.well h) behind (c.write_frame.ensures.writes h);
      holds = λ e h. held-write j.stage j.last a b (frame_at j.head.size j.head.count) (j.head.size + 4) behind (k.holds c.requires.well h) (c.write_frame.ensures.writes h);
      first = k.first;
      marked = λ h. marks-same (image j.last a.log a.volume) (image j.last b.log b.volume) a.marks b.marks (write-image j.last j.kept.items a b (frame_at j.head.size j.head.count) (j.head.size + 4) (k.last c.requires.well h) behind (c.write_frame.ensures.writes h)) (c.write_frame.ensures.writes h).time.marks (k.marked h);
      safe = λ h. safe-same j.stage a b (image j.last a.log a.volume) (image j.last b.log b.volume) _ _ (k.sure c.requires.well) (write-image j.last j.kept.items a b (frame_at j.head.size j.head.count) (j.head.size + 4) (k.last c.requires.well h) behind (c.write_frame.ensures.writes h)) (write-leaves j.stage j.last j.kept.items a b (frame_at j.head.size j.head.count) (j.head.size + 4) (k.sure c.requires.well) (k.last c.requires.well h) behind (k.holds c.requires.well h) (c.write_frame.ensures.writes h)) (k.safe h);
    }

pub returns-in_default-write_frame-clause-committed : goal.returns-in_default-write_frame-clause-committed
returns-in_default-write_frame-clause-committed g c h =
    let k = c.requires.kept in
    let j = c.args.self.now in
    let a = g.D.Disk.state j.disk in
    let b = g.D.Disk.state c.write_frame.new.disk in
    let behind = behind-last j.head j.last j.head.count k.same k.later in
    committed-same j.stage (image j.last a.log a.volume) (image j.last b.log b.volume) _ _ a.marks b.marks (k.sure c.requires.well) (write-image j.last j.kept.items a b (frame_at j.head.size j.head.count) (j.head.size + 4) (k.last c.requires.well h) behind (c.write_frame.ensures.writes h)) (c.write_frame.ensures.writes h).time.marks

pub returns-clause-committed : goal.returns-clause-committed
returns-clause-committed g c h =
    let k = c.requires.kept in
    let j = c.args.self.now in
    let a = g.D.Disk.state j.disk in
    let b = g.D.Disk.state c.write_frame.new.disk in
    let behind = behind-last j.head j.last j.head.count k.same k.later in
    committed-same j.stage (image j.last a.log a.volume) (image j.last b.log b.volume) _ _ a.marks b.marks (k.sure c.requires.well) (write-image j.last j.kept.items a b (frame_at j.head.size j.head.count) (j.head.size + 4) (k.last c.requires.well h) behind (c.write_frame.ensures.writes h)) (c.write_frame.ensures.writes h).time.marks

pub returns-clause-contents : goal.returns-clause-contents
returns-clause-contents g c h =
    let k = c.requires.kept in
    let j = c.args.self.now in
    let a = g.D.Disk.state j.disk in
    let b = g.D.Disk.state c.write_frame.new.disk in
    let low : 0 < length j.places.items = search rules in
    let long : length c.read_first.new.frame ≡ j.head.size + 4 = search rules in
    let written : c.deref-2.result.now ≡ c.read_first.new.frame = c.deref-2.ensures.value ∙ take_at c.read_first.new.frame _ _ (let f = k.frame in omega (arith, long, f)) in
    first-image a b j.head j.places.items c.read_first.new.frame (k.framed c.requires.well h) low (c.write_frame.ensures.writes h) (c.in-Ok-write_frame.ensures.value h ∙ written) long c.in-Ok.ensures.number (λ i u. c.in-Ok.ensures.block h i u)

pub returns-in_default-write_frame-clause-leaves : goal.returns-in_default-write_frame-clause-leaves
returns-in_default-write_frame-clause-leaves g c h =
    let k = c.requires.kept in
    let j = c.args.self.now in
    let a = g.D.Disk.state j.disk in
    let b = g.D.Disk.state c.write_frame.new.disk in
    let behind = behind-last j.head j.last j.head.count k.same k.later in
    write-leaves j.stage j.last j.kept.items a b (frame_at j.head.size j.head.count) (j.head.size + 4) (k.sure c.requires.well) (k.last c.requires.well h) behind (k.holds c.requires.well h) (c.write_frame.ensures.writes h)

pub returns-clause-leaves : goal.returns-clause-leaves
returns-clause-leaves g c h =
    let k = c.requires.kept in
    let j = c.args.self.now in
    let a = g.D.Disk.state j.disk in
    let b = g.D.Disk.state c.write_frame.new.disk in
    let behind = behind-last j.head j.last j.head.count k.same k.later in
    write-leaves j.stage j.last j.kept.items a b (frame_at j.head.size j.head.count) (j.head.size + 4) (k.sure c.requires.well) (k.last c.requires.well h) behind (k.holds c.requires.well h) (c.write_frame.ensures.writes h)
