use Rattle.std.proofs.Common.{rules, ◌≡◌, ◌+◌, length, sym, ap, ◌∙◌, arith}
use Rattle.std.proofs.lemmas.Bool.{true≢false}
use Rattle.hd_journal.specs.declared.head.Head.{Head}
use Rattle.hd_journal.specs.Log.{frame_at, image}
use Rattle.hd_journal.proofs.Bytes.{length-image}
use Rattle.hd_journal.proofs.FrameLemmas.{more-framed, more-image}
use Rattle.hd_journal.proofs.Held.{behind-last, committed-same, write-framed, write-image, safe-same, held-write, write-leaves}
use Rattle.hd_journal.proofs.Safety.{marks-same}
use Rattle.hd_journal.proofs.journal.Journal.append.Goals as goal

pub returns-in_default-clause-kept : goal.returns-in_default-clause-kept
returns-in_default-clause-kept g c =
    let k = c.requires.kept in
    let j = c.args.self.now in
    let a = g.D.Disk.state j.disk in
    let b = g.D.Disk.state c.append_frame.new.disk in
    let behind = behind-last j.head j.last j.head.count k.same k.later in
    record {
      some = k.some;
      small = k.small;
      zeros = k.zeros;
      frame = k.frame;
      room = k.room;
      kept_room = k.kept_room;
      fewer = k.fewer;
      same = k.same;
      later = k.later;
      longer = k.longer;
      usable = λ e. absurd (true≢false e);
      sure = λ e. absurd (true≢false e);
      framed = λ e. absurd (true≢false e);
      last = λ e. absurd (true≢false e);
      holds = λ e. absurd (true≢false e);
      first = λ e. absurd (true≢false e);
      marked = λ h. marks-same (image j.last a.log a.volume) (image j.last b.log b.volume) a.marks b.marks (write-image j.last j.kept.items a b (frame_at j.head.size j.head.count) (j.head.size + 4) (k.last c.requires.well h) behind (c.append_frame.ensures.writes h)) (c.append_frame.ensures.writes h).time.marks (k.marked h);
      safe = λ h. safe-same j.stage a b (image j.last a.log a.volume) (image j.last b.log b.volume) _ _ (k.sure c.requires.well) (write-image j.last j.kept.items a b (frame_at j.head.size j.head.count) (j.head.size + 4) (k.last c.requires.well h) behind (c.append_frame.ensures.writes h)) (write-leaves j.stage j.last j.kept.items a b (frame_at j.head.size j.head.count) (j.head.size + 4) (k.sure c.requires.well) (k.last c.requires.well h) behind (k.holds c.requires.well h) (c.append_frame.ensures.writes h)) (k.safe h);
    }

pub returns-clause-kept : goal.returns-clause-kept
returns-clause-kept g c =
    let k = c.requires.kept in
    let j = c.args.self.now in
    let a = g.D.Disk.state j.disk in
    let b = g.D.Disk.state c.append_frame.new.disk in
    let behind = behind-last j.head j.last j.head.count k.same k.later in
    let long : length c.append_frame.new.frame ≡ j.head.size + 4 = search rules in
    record {
      some = k.some;
      small = k.small;
      zeros = k.zeros;
      frame = k.frame;
      room = k.room;
      kept_room = k.kept_room;
      fewer = k.fewer;
      same = ap (λ (x : Head). record x { count = j.head.count + 1 }) k.same;
      later = (let l = k.later in omega (arith, l));
      longer = k.longer;
      usable = λ e. c.in-Ok.ensures.usable;
      sure = k.sure;
      framed = λ e h. more-framed a b j.head j.places.items c.args.bytes.now c.append_frame.new.frame c.args.n (k.framed c.requires.well h) c.requires.there (c.append_frame.ensures.writes h) (c.in-Ok.ensures.value h) long c.append_frame.ensures.number c.requires.whole (λ i low. c.append_frame.ensures.block i (omega (arith, c.requires.whole, low)));
      last = λ e h. write-framed j.last j.kept.items a b (frame_at j.head.size j.head.count) (j.head.size + 4) (k.last c.requires.well h) behind (c.append_frame.ensures.writes h);
      holds = λ e h. held-write j.stage j.last a b (frame_at j.head.size j.head.count) (j.head.size + 4) behind (k.holds c.requires.well h) (c.append_frame.ensures.writes h);
      first = k.first;
      marked = λ h. marks-same (image j.last a.log a.volume) (image j.last b.log b.volume) a.marks b.marks (write-image j.last j.kept.items a b (frame_at j.head.size j.head.count) (j.head.size + 4) (k.last c.requires.well h) behind (c.append_frame.ensures.writes h)) (c.append_frame.ensures.writes h).time.marks (k.marked h);
      safe = λ h. safe-same j.stage a b (image j.last a.log a.volume) (image j.last b.log b.volume) _ _ (k.sure c.requires.well) (write-image j.last j.kept.items a b (frame_at j.head.size j.head.count) (j.head.size + 4) (k.last c.requires.well h) behind (c.append_frame.ensures.writes h)) (write-leaves j.stage j.last j.kept.items a b (frame_at j.head.size j.head.count) (j.head.size + 4) (k.sure c.requires.well) (k.last c.requires.well h) behind (k.holds c.requires.well h) (c.append_frame.ensures.writes h)) (k.safe h);
    }

pub returns-in_default-clause-committed : goal.returns-in_default-clause-committed
returns-in_default-clause-committed g c h =
    let k = c.requires.kept in
    let j = c.args.self.now in
    let a = g.D.Disk.state j.disk in
    let b = g.D.Disk.state c.append_frame.new.disk in
    let behind = behind-last j.head j.last j.head.count k.same k.later in
    committed-same j.stage (image j.last a.log a.volume) (image j.last b.log b.volume) _ _ a.marks b.marks (k.sure c.requires.well) (write-image j.last j.kept.items a b (frame_at j.head.size j.head.count) (j.head.size + 4) (k.last c.requires.well h) behind (c.append_frame.ensures.writes h)) (c.append_frame.ensures.writes h).time.marks

pub returns-clause-committed : goal.returns-clause-committed
returns-clause-committed g c h =
    let k = c.requires.kept in
    let j = c.args.self.now in
    let a = g.D.Disk.state j.disk in
    let b = g.D.Disk.state c.append_frame.new.disk in
    let behind = behind-last j.head j.last j.head.count k.same k.later in
    committed-same j.stage (image j.last a.log a.volume) (image j.last b.log b.volume) _ _ a.marks b.marks (k.sure c.requires.well) (write-image j.last j.kept.items a b (frame_at j.head.size j.head.count) (j.head.size + 4) (k.last c.requires.well h) behind (c.append_frame.ensures.writes h)) (c.append_frame.ensures.writes h).time.marks

pub returns-clause-value : goal.returns-clause-value
returns-clause-value g c h =
    let k = c.requires.kept in
    let j = c.args.self.now in
    let a = g.D.Disk.state j.disk in
    let b = g.D.Disk.state c.append_frame.new.disk in
    let long : length c.append_frame.new.frame ≡ j.head.size + 4 = search rules in
    more-image a b j.head j.places.items c.args.bytes.now c.append_frame.new.frame c.args.n (k.framed c.requires.well h) c.requires.there (c.append_frame.ensures.writes h) (c.in-Ok.ensures.value h) long c.append_frame.ensures.number c.requires.whole (λ i low. c.append_frame.ensures.block i (omega (arith, c.requires.whole, low)))

pub returns-clause-len : goal.returns-clause-len
returns-clause-len g c h =
    let j = c.args.self.now in
    let a = g.D.Disk.state j.disk in
    let b = g.D.Disk.state c.append_frame.new.disk in
    length-image (record j.head { count = j.head.count + 1 }) b.log b.volume ∙ sym (length-image j.head a.log a.volume)
