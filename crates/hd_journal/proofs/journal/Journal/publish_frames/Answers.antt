use Rattle.std.proofs.Common.{rules, ◌≡◌, ◌≢◌, ◌+◌, ◌<◌, ℕ, false, List, map, length, slice_index, refl, sym, ap, ◌∙◌, subst, arith, inr}
use Rattle.std.proofs.lemmas.Bool.{true≢false}
use Rattle.hd_stores.specs.Stores.{Committed}
use Rattle.hd_journal.specs.declared.head.Head.{Head}
use Rattle.hd_journal.specs.declared.journal.Stage.TheVariants.{Published}
use Rattle.hd_journal.specs.Disk.{Marks, Syncs}
use Rattle.hd_journal.specs.Log.{image}
use Rattle.hd_journal.specs.Framed.{IsFramed, IsSafe}
use Rattle.hd_journal.specs.Journals.{Holds, tried_in, commit_of, before_in, committed_in}
use Rattle.hd_journal.proofs.JournalLemmas.{published≢doubtful}
use Rattle.hd_journal.proofs.Held.{head-image, last-image, gated-framed, gated-held, gated-image, held-stands, tried-sure}
use Rattle.hd_journal.proofs.Moments.{meanwhile, synced, weakened, followed-meanwhile, marked}
use Rattle.hd_journal.proofs.Safety.{safe-tries, marks-same, marks-before}
use Rattle.hd_journal.proofs.Marking.{image-over, framed-over, held-marked, safe-marked, safe-kept, mark-stands}
use Rattle.hd_journal.proofs.journal.Journal.publish_frames.Goals as goal

pub returns-in_default-clause-kept : goal.returns-in_default-clause-kept
returns-in_default-clause-kept g c =
    let k = c.requires.kept in
    let j = c.args.self.now in
    let a = g.D.Disk.state j.disk in
    let b = g.D.Disk.state c.publish.new.disk in
    record {
      some = k.some;
      small = k.small;
      zeros = k.zeros;
      frame = k.frame;
      room = k.room;
      kept_room = k.kept_room;
      fewer = k.fewer;
      same = k.same;
      later = k.later;
      longer = k.longer;
      usable = λ e. absurd (true≢false e);
      sure = λ e. absurd (true≢false e);
      framed = λ e. absurd (true≢false e);
      last = λ e. absurd (true≢false e);
      holds = λ e. absurd (true≢false e);
      first = λ e. absurd (true≢false e);
      marked = λ h.
          let o = k.framed c.requires.well h in
          let volume = c.publish.ensures.volume h in
          let last = last-image a b j.head j.places.items o (c.publish.ensures.slots h) volume j.last j.kept.items k.same k.later (k.last c.requires.well h) in
          let head : image j.head b.log b.volume ≡ image j.head a.log a.volume = head-image a b j.head j.places.items o (c.publish.ensures.slots h) volume in
          marks-same (image j.last a.log a.volume) (image j.last b.log b.volume) a.marks b.marks last (c.publish.ensures.leaves h).marks (k.marked h);
      safe = λ h.
          let o = k.framed c.requires.well h in
          let volume = c.publish.ensures.volume h in
          let last = last-image a b j.head j.places.items o (c.publish.ensures.slots h) volume j.last j.kept.items k.same k.later (k.last c.requires.well h) in
          let head : image j.head b.log b.volume ≡ image j.head a.log a.volume = head-image a b j.head j.places.items o (c.publish.ensures.slots h) volume in
          let was : IsSafe (committed_in (image j.last a.log a.volume) (image j.last a.log a.volume) a.marks) a =
          subst (λ (x : List ℕ). IsSafe (committed_in (image j.last a.log a.volume) x a.marks) a) (tried-sure j.stage (image j.last a.log a.volume) _ (k.sure c.requires.well)) (k.safe h) in
          let tried = safe-tries a b (committed_in (image j.last a.log a.volume) (image j.last a.log a.volume) a.marks) (image j.head a.log a.volume) refl (c.publish.ensures.leaves h) was in
          let now : committed_in (image j.last b.log b.volume) (image j.head b.log b.volume) b.marks ≡ committed_in (image j.last a.log a.volume) (image j.head a.log a.volume) a.marks = rw (last, head, (c.publish.ensures.leaves h).marks) refl in
          let is : IsSafe (committed_in (image j.last b.log b.volume) (image j.head b.log b.volume) b.marks) b = subst (λ (x : Committed). IsSafe x b) (sym now) tried in
          is;
    }

pub returns-in_default-clause-contents : goal.returns-in_default-clause-contents
returns-in_default-clause-contents g c h =
    let k = c.requires.kept in
    let j = c.args.self.now in
    let a = g.D.Disk.state j.disk in
    let b = g.D.Disk.state c.publish.new.disk in
    head-image a b j.head j.places.items (k.framed c.requires.well h) (c.publish.ensures.slots h) (c.publish.ensures.volume h)

pub returns-in_default-clause-fails : goal.returns-in_default-clause-fails
returns-in_default-clause-fails g c h =
    let k = c.requires.kept in
    let j = c.args.self.now in
    let a = g.D.Disk.state j.disk in
    let b = g.D.Disk.state c.publish.new.disk in
    let o = k.framed c.requires.well h in
    let volume = c.publish.ensures.volume h in
    let last = last-image a b j.head j.places.items o (c.publish.ensures.slots h) volume j.last j.kept.items k.same k.later (k.last c.requires.well h) in
    let head : image j.head b.log b.volume ≡ image j.head a.log a.volume = head-image a b j.head j.places.items o (c.publish.ensures.slots h) volume in
    inr (rw (last, head, (c.publish.ensures.leaves h).marks) refl)

pub returns-in_default-clause-leaves : goal.returns-in_default-clause-leaves
returns-in_default-clause-leaves g c h = meanwhile (c.publish.ensures.leaves h)

pub returns-in_default-mark-clause-kept : goal.returns-in_default-mark-clause-kept
returns-in_default-mark-clause-kept g c =
    let k = c.requires.kept in
    let j = c.args.self.now in
    let a = g.D.Disk.state j.disk in
    let b = g.D.Disk.state c.publish.new.disk in
    let m = g.D.Disk.state c.mark.new.self in
    record {
      some = k.some;
      small = k.small;
      zeros = k.zeros;
      frame = k.frame;
      room = k.room;
      kept_room = k.kept_room;
      fewer = k.fewer;
      same = k.same;
      later = k.later;
      longer = k.longer;
      usable = λ e. absurd (true≢false e);
      sure = λ e. absurd (true≢false e);
      framed = λ e. absurd (true≢false e);
      last = λ e. absurd (true≢false e);
      holds = λ e. absurd (true≢false e);
      first = λ e. absurd (true≢false e);
      marked = λ h.
          let o = k.framed c.requires.well h in
          let volume = c.publish.ensures.volume h in
          let last = last-image a b j.head j.places.items o (c.publish.ensures.slots h) volume j.last j.kept.items k.same k.later (k.last c.requires.well h) in
          let head : image j.head b.log b.volume ≡ image j.head a.log a.volume = head-image a b j.head j.places.items o (c.publish.ensures.slots h) volume in
          let syncs : Syncs b m = c.in_default-mark.ensures.fails h in
          marks-same (image j.last a.log a.volume) (image j.last m.log m.volume) a.marks m.marks (image-over j.last b m syncs.log syncs.volume ∙ last) (syncs.time.marks ∙ (c.publish.ensures.leaves h).marks) (k.marked h);
      safe = λ h.
          let o = k.framed c.requires.well h in
          let volume = c.publish.ensures.volume h in
          let last = last-image a b j.head j.places.items o (c.publish.ensures.slots h) volume j.last j.kept.items k.same k.later (k.last c.requires.well h) in
          let head : image j.head b.log b.volume ≡ image j.head a.log a.volume = head-image a b j.head j.places.items o (c.publish.ensures.slots h) volume in
          let was : IsSafe (committed_in (image j.last a.log a.volume) (image j.last a.log a.volume) a.marks) a =
          subst (λ (x : List ℕ). IsSafe (committed_in (image j.last a.log a.volume) x a.marks) a) (tried-sure j.stage (image j.last a.log a.volume) _ (k.sure c.requires.well)) (k.safe h) in
          let tried = safe-tries a b (committed_in (image j.last a.log a.volume) (image j.last a.log a.volume) a.marks) (image j.head a.log a.volume) refl (c.publish.ensures.leaves h) was in
          let now : committed_in (image j.last b.log b.volume) (image j.head b.log b.volume) b.marks ≡ committed_in (image j.last a.log a.volume) (image j.head a.log a.volume) a.marks = rw (last, head, (c.publish.ensures.leaves h).marks) refl in
          let is : IsSafe (committed_in (image j.last b.log b.volume) (image j.head b.log b.volume) b.marks) b = subst (λ (x : Committed). IsSafe x b) (sym now) tried in
          let syncs : Syncs b m = c.in_default-mark.ensures.fails h in
          safe-kept b m (image j.last b.log b.volume) (image j.head b.log b.volume) (image j.last m.log m.volume) (image j.head m.log m.volume) syncs (g.met.D.Disk.counts_now c.publish.new.disk)
          (image-over j.last b m syncs.log syncs.volume) (image-over j.head b m syncs.log syncs.volume) is;
    }

pub returns-in_default-mark-clause-contents : goal.returns-in_default-mark-clause-contents
returns-in_default-mark-clause-contents g c h =
    let k = c.requires.kept in
    let j = c.args.self.now in
    let a = g.D.Disk.state j.disk in
    let b = g.D.Disk.state c.publish.new.disk in
    let m = g.D.Disk.state c.mark.new.self in
    let syncs : Syncs b m = c.in_default-mark.ensures.fails h in
    image-over j.head b m syncs.log syncs.volume ∙ head-image a b j.head j.places.items (k.framed c.requires.well h) (c.publish.ensures.slots h) (c.publish.ensures.volume h)

pub returns-in_default-mark-clause-fails : goal.returns-in_default-mark-clause-fails
returns-in_default-mark-clause-fails g c h =
    let k = c.requires.kept in
    let j = c.args.self.now in
    let a = g.D.Disk.state j.disk in
    let b = g.D.Disk.state c.publish.new.disk in
    let m = g.D.Disk.state c.mark.new.self in
    let o = k.framed c.requires.well h in
    let volume = c.publish.ensures.volume h in
    let last = last-image a b j.head j.places.items o (c.publish.ensures.slots h) volume j.last j.kept.items k.same k.later (k.last c.requires.well h) in
    let head : image j.head b.log b.volume ≡ image j.head a.log a.volume = head-image a b j.head j.places.items o (c.publish.ensures.slots h) volume in
    let syncs : Syncs b m = c.in_default-mark.ensures.fails h in
    let last-is : image j.last m.log m.volume ≡ image j.last a.log a.volume = image-over j.last b m syncs.log syncs.volume ∙ last in
    let head-is : image j.head m.log m.volume ≡ image j.head a.log a.volume = image-over j.head b m syncs.log syncs.volume ∙ head in
    inr (rw (last-is, head-is, syncs.time.marks ∙ (c.publish.ensures.leaves h).marks) refl)

pub returns-in_default-mark-clause-leaves : goal.returns-in_default-mark-clause-leaves
returns-in_default-mark-clause-leaves g c h =
    let k = c.requires.kept in
    let j = c.args.self.now in
    let a = g.D.Disk.state j.disk in
    let b = g.D.Disk.state c.publish.new.disk in
    let m = g.D.Disk.state c.mark.new.self in
    let syncs : Syncs b m = c.in_default-mark.ensures.fails h in
    followed-meanwhile (meanwhile (c.publish.ensures.leaves h)) (meanwhile (weakened (synced syncs (g.met.D.Disk.counts_now c.publish.new.disk)) (λ l v none. absurd none)))

pub returns-clause-kept : goal.returns-clause-kept
returns-clause-kept g c =
    let k = c.requires.kept in
    let j = c.args.self.now in
    let a = g.D.Disk.state j.disk in
    let b = g.D.Disk.state c.publish.new.disk in
    let m = g.D.Disk.state c.mark.new.self in
    let items : c.copy_places.new.to.items ≡ j.places.items = search rules in
    let more : Head = record j.head { count = j.head.count + 1 } in
    record {
      some = k.some;
      small = k.small;
      zeros = k.zeros;
      frame = k.frame;
      room = k.room;
      kept_room = search rules;
      fewer = search rules;
      same = refl;
      later = omega arith;
      longer = omega arith;
      usable = λ e. c.in-Ok-mark.ensures.usable;
      sure = λ e. published≢doubtful;
      framed = λ e h. framed-over more j.places.items b m (c.in-Ok-mark.ensures.marks h).log (c.in-Ok-mark.ensures.marks h).volume
          (gated-framed a b j.head j.places.items (k.framed c.requires.well h) (c.publish.ensures.slots h) (c.publish.ensures.volume h) (c.in-Ok.ensures.published h));
      last = λ e h. subst (λ (xs : List ℕ). IsFramed m more xs) (sym items) (framed-over more j.places.items b m (c.in-Ok-mark.ensures.marks h).log (c.in-Ok-mark.ensures.marks h).volume
          (gated-framed a b j.head j.places.items (k.framed c.requires.well h) (c.publish.ensures.slots h) (c.publish.ensures.volume h) (c.in-Ok.ensures.published h)));
      holds = λ e h. held-marked false b m (c.in-Ok-mark.ensures.marks h) Published more
          (gated-held a b j.head j.places.items (k.framed c.requires.well h) (c.publish.ensures.slots h) (c.publish.ensures.volume h) (c.in-Ok.ensures.published h));
      first = λ e p. subst (λ (xs : List ℕ). 0 < length xs → slice_index xs 0 ≢ 0) (sym items) c.requires.first;
      marked = λ h.
          let held : Holds Published more b = gated-held a b j.head j.places.items (k.framed c.requires.well h) (c.publish.ensures.slots h) (c.publish.ensures.volume h) (c.in-Ok.ensures.published h) in
          let stands = held-stands Published more b published≢doubtful held in
          let gate : image more b.log b.volume ≡ image j.head a.log a.volume = gated-image a b j.head j.places.items (k.framed c.requires.well h) (c.publish.ensures.slots h) (c.publish.ensures.volume h) (c.in-Ok.ensures.published h) in
          let marks : Marks false b m = c.in-Ok-mark.ensures.marks h in
          let over : image more m.log m.volume ≡ image more b.log b.volume = image-over more b m marks.log marks.volume in
          mark-stands b m (image more b.log b.volume) (image more m.log m.volume) b.marks (g.met.D.Disk.seen_may_stay c.publish.new.disk) stands over marks.marks;
      safe = λ h.
          let o = k.framed c.requires.well h in
          let volume = c.publish.ensures.volume h in
          let last = last-image a b j.head j.places.items o (c.publish.ensures.slots h) volume j.last j.kept.items k.same k.later (k.last c.requires.well h) in
          let head : image j.head b.log b.volume ≡ image j.head a.log a.volume = head-image a b j.head j.places.items o (c.publish.ensures.slots h) volume in
          let was : IsSafe (committed_in (image j.last a.log a.volume) (image j.last a.log a.volume) a.marks) a =
          subst (λ (x : List ℕ). IsSafe (committed_in (image j.last a.log a.volume) x a.marks) a) (tried-sure j.stage (image j.last a.log a.volume) _ (k.sure c.requires.well)) (k.safe h) in
          let tried = safe-tries a b (committed_in (image j.last a.log a.volume) (image j.last a.log a.volume) a.marks) (image j.head a.log a.volume) refl (c.publish.ensures.leaves h) was in
          let now : committed_in (image j.last b.log b.volume) (image j.head b.log b.volume) b.marks ≡ committed_in (image j.last a.log a.volume) (image j.head a.log a.volume) a.marks = rw (last, head, (c.publish.ensures.leaves h).marks) refl in
          let is : IsSafe (committed_in (image j.last b.log b.volume) (image j.head b.log b.volume) b.marks) b = subst (λ (x : Committed). IsSafe x b) (sym now) tried in
          let held : Holds Published more b = gated-held a b j.head j.places.items (k.framed c.requires.well h) (c.publish.ensures.slots h) (c.publish.ensures.volume h) (c.in-Ok.ensures.published h) in
          let stands = held-stands Published more b published≢doubtful held in
          let gate : image more b.log b.volume ≡ image j.head a.log a.volume = gated-image a b j.head j.places.items (k.framed c.requires.well h) (c.publish.ensures.slots h) (c.publish.ensures.volume h) (c.in-Ok.ensures.published h) in
          let marks : Marks false b m = c.in-Ok-mark.ensures.marks h in
          let over : image more m.log m.volume ≡ image more b.log b.volume = image-over more b m marks.log marks.volume in
          let to : image j.head b.log b.volume ≡ image more b.log b.volume = head ∙ sym gate in
          safe-marked b m (image j.last b.log b.volume) (image j.head b.log b.volume) (image more m.log m.volume) marks (g.met.D.Disk.only_now c.publish.new.disk)
          (λ l v may. stands l v may ∙ sym to) (marks-same (image j.last a.log a.volume) (image j.last b.log b.volume) a.marks b.marks last (c.publish.ensures.leaves h).marks (k.marked h)) (over ∙ sym to) is;
    }

pub returns-clause-contents : goal.returns-clause-contents
returns-clause-contents g c h =
    let k = c.requires.kept in
    let j = c.args.self.now in
    let a = g.D.Disk.state j.disk in
    let b = g.D.Disk.state c.publish.new.disk in
    let m = g.D.Disk.state c.mark.new.self in
    let more : Head = record j.head { count = j.head.count + 1 } in
    let held : Holds Published more b = gated-held a b j.head j.places.items (k.framed c.requires.well h) (c.publish.ensures.slots h) (c.publish.ensures.volume h) (c.in-Ok.ensures.published h) in
    let stands = held-stands Published more b published≢doubtful held in
    let gate : image more b.log b.volume ≡ image j.head a.log a.volume = gated-image a b j.head j.places.items (k.framed c.requires.well h) (c.publish.ensures.slots h) (c.publish.ensures.volume h) (c.in-Ok.ensures.published h) in
    let marks : Marks false b m = c.in-Ok-mark.ensures.marks h in
    let over : image more m.log m.volume ≡ image more b.log b.volume = image-over more b m marks.log marks.volume in
    over ∙ gate

pub returns-clause-committed : goal.returns-clause-committed
returns-clause-committed g c h =
    let k = c.requires.kept in
    let j = c.args.self.now in
    let a = g.D.Disk.state j.disk in
    let b = g.D.Disk.state c.publish.new.disk in
    let m = g.D.Disk.state c.mark.new.self in
    let more : Head = record j.head { count = j.head.count + 1 } in
    let held : Holds Published more b = gated-held a b j.head j.places.items (k.framed c.requires.well h) (c.publish.ensures.slots h) (c.publish.ensures.volume h) (c.in-Ok.ensures.published h) in
    let stands = held-stands Published more b published≢doubtful held in
    let gate : image more b.log b.volume ≡ image j.head a.log a.volume = gated-image a b j.head j.places.items (k.framed c.requires.well h) (c.publish.ensures.slots h) (c.publish.ensures.volume h) (c.in-Ok.ensures.published h) in
    let marks : Marks false b m = c.in-Ok-mark.ensures.marks h in
    let over : image more m.log m.volume ≡ image more b.log b.volume = image-over more b m marks.log marks.volume in
    (over ∙ gate, over ∙ gate, ap before_in marks.marks ∙ ap (map commit_of) (c.publish.ensures.leaves h).marks ∙ marks-before (image j.last a.log a.volume) (tried_in j.stage (image j.last a.log a.volume) (image j.head a.log a.volume)) a.marks (k.marked h))

pub returns-clause-leaves : goal.returns-clause-leaves
returns-clause-leaves g c h = marked (meanwhile (c.publish.ensures.leaves h)) (c.in-Ok-mark.ensures.marks h)
